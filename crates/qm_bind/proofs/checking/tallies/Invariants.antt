use Rattle.std.proofs.Common.{◌≡◌, take}
use Rattle.qm_bind.specs.Parts.{names_of}
use Rattle.qm_bind.proofs.checking.tallies.Given as goal

abbrev pub invariant-loop-item : goal.invariant-loop-item
invariant-loop-item l = l.names ≡ names_of (take l.item-index l.items)
