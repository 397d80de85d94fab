use Rattle.std.proofs.Common.{rules}
use Rattle.qapi_load.specs.declared.loading.Loading.{Loading}
use Rattle.qapi_load.proofs.Outcomes.{closes}
use Rattle.qapi_load.proofs.loading.Loading.close.Goals as goal

pub returns-in-Some-clause-ok : goal.returns-in-Some-clause-ok
returns-in-Some-clause-ok c =
    let next : Loading = record { reading = c.finish.new.self; file = c.in-Some.file; outer = c.pop.new.self } in
    λ told. closes told c.args.self next c.requires.end (search rules) (search rules)
