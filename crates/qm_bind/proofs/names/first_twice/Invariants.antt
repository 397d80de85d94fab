use Rattle.qm_bind.specs.Faults.{member_names}
use Rattle.qm_bind.proofs.NameLaws.{Seen}
use Rattle.qm_bind.proofs.names.first_twice.Given as goal

abbrev pub invariant-loop-item : goal.invariant-loop-item
invariant-loop-item l = Seen (member_names l.members) l.items l.item-index l.seen
