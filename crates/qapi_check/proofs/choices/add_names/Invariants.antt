use Rattle.qapi_types.specs.Types.{members_of}
use Rattle.qapi_check.proofs.WalkLaws.{AreAdded}
use Rattle.qapi_check.proofs.choices.add_names.Given as goal

abbrev pub invariant-loop-member : goal.invariant-loop-member
invariant-loop-member l = AreAdded l.fn.seen l.seen (members_of l.kind) l.member-index
