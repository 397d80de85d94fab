use Rattle.std.proofs.Common.{◌≡◌, take}
use Rattle.std.specs.List.{fold, flat_map}
use Rattle.qapi_number.specs.Implicit.{with_implicit, implied_by_part}
use Rattle.qapi_number.proofs.references.note_parts.Given as goal

abbrev pub invariant-loop-part : goal.invariant-loop-part
invariant-loop-part l = l.implicit ≡ fold with_implicit l.initial.implicit (flat_map (implied_by_part l.types l.sort l.at) (take l.part-index l.parts))
