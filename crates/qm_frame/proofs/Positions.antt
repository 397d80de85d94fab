-- The place of the first item that passes a test, with one more item.
use Rattle.std.proofs.Common.{◌≡◌, ℕ, ◌+◌, ◌≤◌, ◌<◌, nat_lt, eqb, Bool, not, cond, List, [], ◌∷◌, ◌++◌, length, Some, None, position, arith, length-append}
use Rattle.std.specs.{List.position_or_len, Option.option_or}
use Rattle.std.proofs.lemmas.{Bool.Decides.nat_tests, List.Folds.position_or_len_push, List.Sums.prefix_len-le-length}

place_more : (m l n : ℕ) (b : Bool) → m ≤ l → n ≡ cond (eqb m l) (l + cond b 0 1) m → cond (nat_lt n (l + 1)) (Some n) None ≡ option_or (cond (nat_lt m l) (Some m) None) (cond b (Some l) None)
place_more m l n b h e = grind (arith, nat_tests)

pub position-more : {X : Type 0} (p : X → Bool) (xs : List X) (x : X) → position p (xs ++ x ∷ []) ≡ option_or (position p xs) (cond (p x) (Some (length xs)) None)
position-more p xs x = rw (length-append xs (x ∷ [])) (place_more (position_or_len p xs) (length xs) (position_or_len p (xs ++ x ∷ [])) (p x) (prefix_len-le-length (λ y. not (p y)) xs) (position_or_len_push p xs x))

place_below : (m l k : ℕ) → cond (nat_lt m l) (Some m) None ≡ Some k → k < l
place_below m l k e = grind (arith, nat_tests)

pub position-below : {X : Type 0} (p : X → Bool) (xs : List X) (k : ℕ) → position p xs ≡ Some k → k < length xs
position-below p xs k e = place_below (position_or_len p xs) (length xs) k e
