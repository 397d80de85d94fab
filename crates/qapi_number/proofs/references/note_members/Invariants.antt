use Rattle.std.proofs.Common.{◌≡◌, take}
use Rattle.std.specs.List.{fold}
use Rattle.qapi_number.specs.Implicit.{with_implicit, implied_by_members}
use Rattle.qapi_number.proofs.references.note_members.Given as goal

abbrev pub invariant-loop-member : goal.invariant-loop-member
invariant-loop-member l = l.implicit ≡ fold with_implicit l.initial.implicit (implied_by_members l.types (take l.member-index l.members))
