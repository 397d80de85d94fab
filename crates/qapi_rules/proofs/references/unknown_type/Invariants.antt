use Rattle.std.proofs.Common.{◌≡◌, drop}
use Rattle.qapi_define.specs.Saying.{first_some}
use Rattle.qapi_rules.specs.References.{unknown_in}
use Rattle.qapi_rules.proofs.references.unknown_type.Given as goal

abbrev pub invariant-loop-part : goal.invariant-loop-part
invariant-loop-part l = first_some (unknown_in l.table) (drop l.part-index l.definition.parts) ≡ first_some (unknown_in l.table) l.definition.parts
