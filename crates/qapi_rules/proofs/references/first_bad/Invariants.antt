use Rattle.std.proofs.Common.{◌≡◌, drop}
use Rattle.qapi_define.specs.Saying.{first_some}
use Rattle.qapi_rules.specs.References.{bad_reference}
use Rattle.qapi_rules.proofs.references.first_bad.Given as goal

abbrev pub invariant-loop-definition : goal.invariant-loop-definition
invariant-loop-definition l = first_some (bad_reference l.table) (drop l.definition-index l.definitions) ≡ first_some (bad_reference l.table) l.definitions
