-- Items that are taken one by one by their places.
use Rattle.std.proofs.Common.{◌≡◌, ◌+◌, ℕ, zero, suc, List, [], ◌∷◌, ◌++◌, map, drop, Some, None, refl, sym, ap, ◌∙◌, append_assoc, add-one}
use Rattle.std.specs.Prelude.{slice_get, unwrap_or}
use Rattle.std.proofs.lemmas.Option.{none-some}

next-of : {A : Type 0} (x : A) (ys : List A) (q : ℕ) → slice_get ys q ≡ Some x → x ∷ drop (suc q) ys ≡ drop q ys
next-of x [] q h = absurd (none-some x h)
next-of x (y ∷ ys) zero h = ap (λ z. z ∷ ys) (sym (ap (λ o. unwrap_or o x) h))
next-of x (y ∷ ys) (suc q) h = next-of x ys q h

none-of : {A : Type 0} (ys : List A) (q : ℕ) → slice_get ys q ≡ None → drop (suc q) ys ≡ drop q ys
none-of [] zero h = refl
none-of [] (suc q) h = refl
none-of (y ∷ ys) zero h = absurd (none-some y (sym h))
none-of (y ∷ ys) (suc q) h = none-of ys q h

-- what was made of the items before a place, and what is to be made of the rest
pub rest_some : {A B : Type 0} (f : A → B) (xs : List A) (p : ℕ) (x : A) (old new : List B) → slice_get xs p ≡ Some x → new ≡ old ++ f x ∷ [] → new ++ map f (drop (p + 1) xs) ≡ old ++ map f (drop p xs)
rest_some f xs p x old new s e =
    ap (λ l. l ++ map f (drop (p + 1) xs)) e
    ∙ append_assoc old (f x ∷ []) (map f (drop (p + 1) xs))
    ∙ ap (λ k. old ++ f x ∷ map f (drop k xs)) (add-one p)
    ∙ ap (λ l. old ++ map f l) (next-of x xs p s)

pub rest_none : {A B : Type 0} (f : A → B) (xs : List A) (p : ℕ) (old : List B) → slice_get xs p ≡ None → old ++ map f (drop (p + 1) xs) ≡ old ++ map f (drop p xs)
rest_none f xs p old s = ap (λ k. old ++ map f (drop k xs)) (add-one p) ∙ ap (λ l. old ++ map f l) (none-of xs p s)
