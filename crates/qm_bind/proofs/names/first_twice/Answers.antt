use Rattle.std.proofs.Common.{subst, sym, ◌+◌, arith, rules}
use Rattle.qm_bind.specs.Faults.{member_names}
use Rattle.qm_bind.proofs.NameLaws.{Seen, seen-more, seen-same}
use Rattle.qm_bind.proofs.names.first_twice.Goals as goal
use Rattle.qm_bind.proofs.names.first_twice.Goals.{in-Some+in_ok-add+else-not-branch, in_default}

pub loop-item-preserved : goal.loop-item-preserved
loop-item-preserved c = elim c.match-text_of.branch [
  | in-Some+in_ok-add+else-not-branch w ↦ subst (Seen (member_names c.args.members.now) c.args.items.now (c.loop-item.item-index + 1)) (sym w.seen-is) (seen-more (member_names c.args.members.now) c.args.items.now c.loop-item.item-index c.loop-item.seen w.add.new.self c.item-item.result w.in-Some.name.now w.in_ok-add.field-0 (omega arith) c.item-item.is w.in-Some.ensures.some (grind (arith, w.if-not-branch.false)) w.in_ok-add.ensures c.loop-item.invariant)
  | in_default w ↦ subst (Seen (member_names c.args.members.now) c.args.items.now (c.loop-item.item-index + 1)) (sym w.seen-is) (seen-same (member_names c.args.members.now) c.args.items.now c.loop-item.item-index c.loop-item.seen c.item-item.result (omega arith) c.item-item.is (search (rules, w.in_default.ensures)) c.loop-item.invariant)
]
