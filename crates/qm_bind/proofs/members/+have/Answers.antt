use Rattle.std.proofs.Common.{arith}
use Rattle.qm_bind.proofs.MemberLaws.{has-branch}
use Rattle.qm_bind.proofs.members.+have.Goals as goal

pub has_within-returns-then-type_id-types : goal.has_within-returns-then-type_id-types
has_within-returns-then-type_id-types t c =
    has-branch c.args.schema.now.kinds c.args.name.now c.args.steps _ c.args.type_id c.kind.result.now c.branches.result.now c.has_member.result c.some_has.result (omega (arith, c.if-steps-eq0.false)) c.kind.ensures c.branches.ensures c.has_member.ensures c.if-has_member.false c.some_has.ensures
