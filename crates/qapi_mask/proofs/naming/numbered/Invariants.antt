use Rattle.std.proofs.Common.{◌≡◌, length, map, take}
use Rattle.std.specs.Prelude.{[], filter}
use Rattle.qapi_mask.specs.{Naming.is_numbered, Naming.inner_of, Orders.with_all, Tables.IsMarked}
use Rattle.qapi_mask.proofs.naming.numbered.Given as goal

abbrev pub invariant-loop-number : goal.invariant-loop-number
invariant-loop-number l =
    (l.listing.found.items ≡ with_all [] (filter (is_numbered l.kinds) (map (inner_of l.kinds) (take l.number-index l.listed))))
    × IsMarked (length l.kinds) l.listing.found.items l.listing.marks.items
