use Rattle.std.proofs.Common.{refl, inl, inr}
use Rattle.qapi_mask.specs.Naming.{argument_type}
use Rattle.qapi_mask.proofs.Introduced.{commands-are, command-listed, any-told, any-read}
use Rattle.qapi_mask.proofs.Sound.{sound}
use Rattle.qapi_mask.proofs.laws.introspection_tells_the_commands.Goals as goal

pub returns : goal.returns
returns c = record {
  told = commands-are;
  listed = λ p good prelude c a. (command-listed p good (sound p good prelude) c (argument_type p.kinds c.arg) a (inl refl), command-listed p good (sound p good prelude) c c.ret a (inr (inl refl)));
  any = λ p good prelude c a e. (any-told p good prelude c.arg e, any-read p good prelude c a e);
}
