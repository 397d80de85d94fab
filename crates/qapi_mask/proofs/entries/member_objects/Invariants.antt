use Rattle.std.proofs.Common.{◌≡◌, map, take}
use Rattle.qapi_mask.specs.{Entries.member_entry, Naming.mask_of, Printing.member_json}
use Rattle.qapi_mask.proofs.entries.member_objects.Given as goal

abbrev pub invariant-loop-member : goal.invariant-loop-member
invariant-loop-member l = l.items ≡ map member_json (map (member_entry (mask_of l.naming)) (take l.member-index l.members))
