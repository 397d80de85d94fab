use Rattle.std.proofs.Common.{◌≡◌, drop}
use Rattle.qapi_define.specs.Saying.{first_some, features_in}
use Rattle.qapi_define.proofs.definition.Definition.features.Given as goal

abbrev pub invariant-loop-part : goal.invariant-loop-part
invariant-loop-part l = first_some features_in (drop l.part-index l.self.parts) ≡ first_some features_in l.self.parts
