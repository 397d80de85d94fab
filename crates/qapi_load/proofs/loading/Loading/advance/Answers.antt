use Rattle.qapi_load.proofs.Outcomes.{faulty}
use Rattle.qapi_load.proofs.loading.Loading.advance.Goals as goal

pub returns-in-Err-clause-err : goal.returns-in-Err-clause-err
returns-in-Err-clause-err c = λ apart told. faulty told c.args.self c.in-Err.fault (c.in-Err.ensures.err apart)
