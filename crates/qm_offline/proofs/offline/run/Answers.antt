use Rattle.std.proofs.Common.{rules, refl}
use Rattle.qm_offline.specs.Output.{ok_line}
use Rattle.qm_offline.proofs.Runs.{told_array, told_count}
use Rattle.qm_offline.proofs.offline.run.Goals as goal

pub returns-in-Check : goal.returns-in-Check
returns-in-Check g c = λ words is.
    told_count _ _ c.args.loaded is (search rules) refl (c.put_text.ensures.ends (ok_line c.args.loaded.world.schema) (search rules))

pub returns-in-Introspect : goal.returns-in-Introspect
returns-in-Introspect g c = λ words is.
    told_array _ _ c.args.loaded is (search rules) refl (c.put_text-in-Introspect.ensures.ends _ (search rules))
