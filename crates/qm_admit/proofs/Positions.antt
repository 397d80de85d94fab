-- The first that passes a test, and where it stands.
use Rattle.std.proofs.Common.{◌≡◌, ℕ, suc, map, ◌+◌, ◌<◌, ◌≤◌, ◌||◌, Bool, true, false, cond, List, [], ◌∷◌, length, drop, refl, ap, sym, ◌∙◌, subst, arith, Option, Some, None, is_some, IfSome, position, find, get_or, add-one, drop-cons}
use Rattle.std.specs.List.{All, list_any, position_from}
use Rattle.std.proofs.lemmas.List.{length-map, drop_all}
use Rattle.std.proofs.lemmas.List.{get_or-map}
use Rattle.std.proofs.lemmas.List.Quantifiers.{position-Some}
use Rattle.std.proofs.lemmas.Iterator.Adapters.{position_from-zero}

-- what is left of a list from a place on
pub front : {X : Type 0} (xs : List X) (i : ℕ) (x : X) → i < length xs → x ≡ get_or xs i x → drop i xs ≡ x ∷ drop (i + 1) xs
front xs i x l e = drop-cons xs i x l ∙ (λ j. sym e j ∷ drop (sym (add-one i) j) xs)

pub front-map : {X Y : Type 0} (f : X → Y) (xs : List X) (i : ℕ) (x : X) → i < length xs → x ≡ get_or xs i x → drop i (map f xs) ≡ f x ∷ drop (i + 1) (map f xs)
front-map f xs i x l e = front (map f xs) i (f x) (subst (λ n. i < n) (sym (length-map xs f)) l) (ap f e ∙ sym (get_or-map f xs i x (f x) l))

pub past-map : {X Y : Type 0} (f : X → Y) (xs : List X) (i : ℕ) → length xs ≤ i → drop i (map f xs) ≡ []
past-map f xs i l = drop_all i (map f xs) (subst (λ n. n ≤ i) (sym (length-map xs f)) l)

pub found-all : {X : Type 0} (Q : X → Type 0) (p : X → Bool) (xs : List X) → All Q xs → IfSome (find p xs) Q
found-all Q p [] h = tt
found-all Q p (x ∷ xs) h = by_case (found-all Q p xs (λ k d l. h (suc k) d (omega arith))) (p x)
  where
    by_case : IfSome (find p xs) Q → (b : Bool) → IfSome (cond b (Some x) (find p xs)) Q
    by_case go true = h 0 x (omega arith)
    by_case go false = go

pub from-zero : {X : Type 0} (p : X → Bool) (xs : List X) → position p xs ≡ position_from p 0 xs
from-zero p xs = position_from-zero p xs

some-from : {X : Type 0} (p : X → Bool) (i : ℕ) (xs : List X) → is_some (position_from p i xs) ≡ list_any p xs
some-from p i [] = refl
some-from p i (x ∷ xs) = by_case (some-from p (i + 1) xs) (p x)
  where
    by_case : is_some (position_from p (i + 1) xs) ≡ list_any p xs → (b : Bool) → is_some (cond b (Some i) (position_from p (i + 1) xs)) ≡ (b || list_any p xs)
    by_case go true = refl
    by_case go false = go

-- one passes exactly where there is a first that does
pub is_some-position : {X : Type 0} (p : X → Bool) (xs : List X) → is_some (position p xs) ≡ list_any p xs
is_some-position p xs = ap is_some (from-zero p xs) ∙ some-from p 0 xs

from-next : {X : Type 0} (p : X → Bool) (xs : List X) (i : ℕ) (x : X) (whole : Option ℕ) → i < length xs → x ≡ get_or xs i x → whole ≡ position_from p i (drop i xs) → whole ≡ cond (p x) (Some i) (position_from p (i + 1) (drop (i + 1) xs))
from-next p xs i x whole l is w = w ∙ ap (position_from p i) (front xs i x l is)

pub from-passes : {X : Type 0} (p : X → Bool) (xs : List X) (i : ℕ) (x : X) (whole : Option ℕ) → i < length xs → x ≡ get_or xs i x → whole ≡ position_from p i (drop i xs) → p x ≡ false → whole ≡ position_from p (i + 1) (drop (i + 1) xs)
from-passes p xs i x whole l is w f = from-next p xs i x whole l is w ∙ ap (λ (b : Bool). cond b (Some i) (position_from p (i + 1) (drop (i + 1) xs))) f

pub from-stops : {X : Type 0} (p : X → Bool) (xs : List X) (i : ℕ) (x : X) (whole : Option ℕ) → i < length xs → x ≡ get_or xs i x → whole ≡ position_from p i (drop i xs) → p x ≡ true → whole ≡ Some i
from-stops p xs i x whole l is w f = from-next p xs i x whole l is w ∙ ap (λ (b : Bool). cond b (Some i) (position_from p (i + 1) (drop (i + 1) xs))) f

pub from-end : {X : Type 0} (p : X → Bool) (xs : List X) (i : ℕ) (whole : Option ℕ) → length xs ≤ i → whole ≡ position_from p i (drop i xs) → whole ≡ None
from-end p xs i whole l w = w ∙ ap (position_from p i) (drop_all i xs l)

pub position-within : {X : Type 0} (p : X → Bool) (xs : List X) (o : Option ℕ) → o ≡ position p xs → IfSome o (λ i. i < length xs)
position-within p [] None e = tt
position-within p [] (Some i) e = cc
position-within p (x ∷ xs) None e = tt
position-within p (x ∷ xs) (Some i) e = (position-Some p (x ∷ xs) i x (sym e)).0
