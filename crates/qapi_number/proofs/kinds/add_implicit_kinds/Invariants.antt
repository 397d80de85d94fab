use Rattle.std.proofs.Common.{◌≡◌, ◌++◌, map, drop}
use Rattle.qapi_number.specs.Kinds.{implicit_kind}
use Rattle.qapi_number.proofs.kinds.add_implicit_kinds.Given as goal

abbrev pub invariant-loop-place : goal.invariant-loop-place
invariant-loop-place l = l.kinds ++ map (implicit_kind l.numbering l.definitions) (drop l.place l.numbering.implicit) ≡ l.initial.kinds ++ map (implicit_kind l.numbering l.definitions) l.numbering.implicit
