-- Keys in order, by std's words.
use Rattle.std.proofs.Common.{◌≡◌, List, [], ◌∷◌}
use Rattle.std.specs.{List.AllByRecursion, List.Sorted.IsStrictlySortedBy, declared.cmp.Ordering.TheVariants.Less}
use Rattle.qm_throttle.specs.Keys.{key_order, Key}
use Rattle.qm_throttle.proofs.Orders.{IsBefore, IsInOrder}

before_from : (k : Key) (keys : List Key) → AllByRecursion (λ j. key_order k j ≡ Less) keys → IsBefore k keys
before_from k [] h = tt
before_from k (j ∷ keys) h = (h.0, before_from k keys h.1)

from_before : (k : Key) (keys : List Key) → IsBefore k keys → AllByRecursion (λ j. key_order k j ≡ Less) keys
from_before k [] h = tt
from_before k (j ∷ keys) h = (h.0, from_before k keys h.1)

pub in_order_from_sorted : (keys : List Key) → IsStrictlySortedBy key_order keys → IsInOrder keys
unfolding IsStrictlySortedBy
in_order_from_sorted [] h = tt
in_order_from_sorted (k ∷ keys) h = (before_from k keys h.0, in_order_from_sorted keys h.1)

pub sorted_from_in_order : (keys : List Key) → IsInOrder keys → IsStrictlySortedBy key_order keys
unfolding IsStrictlySortedBy
sorted_from_in_order [] h = tt
sorted_from_in_order (k ∷ keys) h = (from_before k keys h.0, sorted_from_in_order keys h.1)
