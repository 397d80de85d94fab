use Rattle.std.proofs.Common.{◌≡◌, drop}
use Rattle.qapi_define.specs.Saying.{first_some, base_in}
use Rattle.qapi_define.proofs.definition.Definition.base.Given as goal

abbrev pub invariant-loop-part : goal.invariant-loop-part
invariant-loop-part l = first_some base_in (drop l.part-index l.self.parts) ≡ first_some base_in l.self.parts
