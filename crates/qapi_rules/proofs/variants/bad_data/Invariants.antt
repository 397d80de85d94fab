use Rattle.std.proofs.Common.{◌≡◌, drop}
use Rattle.qapi_define.specs.Saying.{first_some}
use Rattle.qapi_rules.specs.References.{bad_data_in}
use Rattle.qapi_rules.proofs.variants.bad_data.Given as goal

abbrev pub invariant-loop-part : goal.invariant-loop-part
invariant-loop-part l = first_some (bad_data_in l.table l.definition) (drop l.part-index l.definition.parts) ≡ first_some (bad_data_in l.table l.definition) l.definition.parts
