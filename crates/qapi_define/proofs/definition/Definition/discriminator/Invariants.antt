use Rattle.std.proofs.Common.{◌≡◌, drop}
use Rattle.qapi_define.specs.Saying.{first_some, discriminator_in}
use Rattle.qapi_define.proofs.definition.Definition.discriminator.Given as goal

abbrev pub invariant-loop-part : goal.invariant-loop-part
invariant-loop-part l = first_some discriminator_in (drop l.part-index l.self.parts) ≡ first_some discriminator_in l.self.parts
