use Rattle.std.proofs.Common.{◌≡◌, drop}
use Rattle.qapi_define.specs.Saying.{first_some, returns_in}
use Rattle.qapi_define.proofs.definition.Definition.returns.Given as goal

abbrev pub invariant-loop-part : goal.invariant-loop-part
invariant-loop-part l = first_some returns_in (drop l.part-index l.self.parts) ≡ first_some returns_in l.self.parts
