use Rattle.std.proofs.Common.{◌≡◌, length, map, take, get_or}
use Rattle.qapi_mask.specs.{Orders.with_all, Tables.IsMarked}
use Rattle.qapi_mask.proofs.listing.Listing.add_all.Given as goal

abbrev pub invariant-loop-number : goal.invariant-loop-number
invariant-loop-number l =
    (l.self.found.items ≡ with_all l.fn.self.found.items (map (λ x. get_or l.table x 0) (take l.number-index l.numbers)))
    × IsMarked (length l.fn.self.marks.items) l.self.found.items l.self.marks.items
