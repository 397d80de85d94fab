use Rattle.std.proofs.Common.{◌≡◌, map, take}
use Rattle.qapi_types.specs.Types.{members_of}
use Rattle.qapi_types.proofs.names.names_of_members.Given as goal

abbrev pub invariant-loop-member : goal.invariant-loop-member
invariant-loop-member l = map (λ k. k.now) l.names ≡ map (λ x. x.name) (take l.member-index (members_of l.kind))
