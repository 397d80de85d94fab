use Rattle.std.proofs.Common.{rules, arith}
use Rattle.qapi_load.specs.declared.loading.Loading.{Loading}
use Rattle.qapi_load.proofs.{Given.over_so, Outcomes.faulty_next, Outcomes.opens}
use Rattle.qapi_load.proofs.loading.Loading.enter.Goals as goal

pub returns-in-Err-clause-given : goal.returns-in-Err-clause-given
returns-in-Err-clause-given g c = over_so (search rules) c.in-Err.ensures.given (λ files here answer.
    faulty_next files c.args.self c.args.wanted c.in-Err.fault (omega arith) (here answer))

pub returns-clause-given : goal.returns-clause-given
returns-clause-given g c =
    let next : Loading = record { reading = c.begin.new.self; file = c.opened-file.result; outer = c.kept.new.outer } in
    over_so (search rules) c.in-Ok.ensures.given (λ files here answer.
    let found = here tt in
    opens files c.args.self next c.args.wanted (omega arith) (search rules) (search rules) (search rules) (search rules))
