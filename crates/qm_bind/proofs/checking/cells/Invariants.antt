use Rattle.std.proofs.Common.{◌≡◌, map, take}
use Rattle.qm_bind.specs.Bindings.{first_cell}
use Rattle.qm_bind.proofs.checking.cells.Given as goal

abbrev pub invariant-loop-member : goal.invariant-loop-member
invariant-loop-member l = l.cells ≡ map first_cell (take l.member-index l.members)
