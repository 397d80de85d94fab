use Rattle.std.proofs.Common.{rules}
use Rattle.qapi_load.specs.declared.loading.Loading.{Loading}
use Rattle.qapi_load.proofs.{Given.over_so, Outcomes.main_faulty, Outcomes.main_opens}
use Rattle.qapi_load.proofs.loading.Loading.first.Goals as goal

pub returns-in-Err-clause-given : goal.returns-in-Err-clause-given
returns-in-Err-clause-given g c = over_so (search rules) c.in-Err.ensures.given (λ files here answer.
    let found = here answer in
    main_faulty files c.args.main.now c.in-Err.fault (search rules))

pub returns-clause-given : goal.returns-clause-given
returns-clause-given g c =
    let first : Loading = record { reading = c.begin.new.self; file = c.opened.result; outer = c.new.result } in
    over_so (search rules) c.in-Ok.ensures.given (λ files here answer.
    let found = here tt in
    main_opens files first c.args.main.now (search rules) (search rules) (search rules) (search rules))
