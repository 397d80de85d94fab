use Rattle.std.proofs.Common.{arith}
use Rattle.qapi_tree.specs.Asking.{count_of}
use Rattle.qapi_tree.proofs.{CountLaws.count_next, ShapeLaws.asked_next}
use Rattle.qapi_tree.proofs.shapes.ask_members.Goals as goal

pub loop-member-preserved : goal.loop-member-preserved
loop-member-preserved c =
    let le = c.in_ok-ask_member.ensures.left in
    let inv = c.loop-member.invariant.left in
    let next = count_next (λ m. count_of m.tree) c.args.members.now c.loop-member.member-index c.member-item.result (omega arith) c.member-item.is in
    record {
      shapes = asked_next c.args.form c.args.members.now c.loop-member.member-index c.member-item.result c.in_ok-ask_member.field-0 _ _ _ (omega arith) c.member-item.is c.if-not-branch.false c.in_ok-ask_member.ensures.shapes c.loop-member.invariant.shapes;
      left = omega (arith, le, inv, next);
    }
