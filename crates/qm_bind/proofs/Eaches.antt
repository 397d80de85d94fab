-- Lists of what each item of a list is, where each is something.
use Rattle.std.proofs.Common.{◌≡◌, ◌<◌, ◌≤◌, ◌+◌, ℕ, zero, suc, List, [], ◌∷◌, ◌++◌, map, take, length, get_or, Option, Some, None, refl, ap, sym, ◌∙◌, arith}
use Rattle.std.proofs.lemmas.List.{take_more, take_all, map-append}
use Rattle.qm_bind.specs.Grammar.{each_of, with_each}

-- one more at the end
each-more : {A : Type 0} (xs : List (Option A)) (made : List A) (y : A) → each_of xs ≡ Some made → each_of (xs ++ Some y ∷ []) ≡ Some (made ++ y ∷ [])
each-more {A} [] made y h = let e : [] ≡ made = cc in ap (λ (l : List A). Some (l ++ y ∷ [])) e
each-more {A} (None ∷ xs) made y h = absurd cc
each-more {A} (Some x ∷ xs) made y h = by_rest (λ rest e. each-more xs rest y e) (each_of xs) refl h
  where
    by_rest : ((rest : List A) → each_of xs ≡ Some rest → each_of (xs ++ Some y ∷ []) ≡ Some (rest ++ y ∷ [])) → (o : Option (List A)) → each_of xs ≡ o → with_each (Some x) o ≡ Some made → with_each (Some x) (each_of (xs ++ Some y ∷ [])) ≡ Some (made ++ y ∷ [])
    by_rest more None e h = absurd cc
    by_rest more (Some rest) e h = let k : x ∷ rest ≡ made = cc in ap (with_each (Some x)) (more rest e) ∙ ap (λ (l : List A). Some (l ++ y ∷ [])) k

pub each_map_more : {X A : Type 0} (f : X → Option A) (xs : List X) (i : ℕ) (x : X) (made : List A) (y : A) → i < length xs → x ≡ get_or xs i x → f x ≡ Some y → each_of (map f (take i xs)) ≡ Some made → each_of (map f (take (i + 1) xs)) ≡ Some (made ++ y ∷ [])
each_map_more {X} {A} f xs i x made y l at is h =
    let more : take (i + 1) xs ≡ take i xs ++ x ∷ [] = take_more xs i x l ∙ ap (λ (z : X). take i xs ++ z ∷ []) (sym at) in
    ap (λ (zs : List X). each_of (map f zs)) more ∙ ap each_of (map-append f (take i xs) (x ∷ [])) ∙ ap (λ (o : Option A). each_of (map f (take i xs) ++ o ∷ [])) is ∙ each-more (map f (take i xs)) made y h

pub each_map_none : {X A : Type 0} (f : X → Option A) (xs : List X) (i : ℕ) (x : X) → i < length xs → x ≡ get_or xs i x → f x ≡ None → each_of (map f xs) ≡ None
each_map_none f [] i x l at is = absurd (omega arith)
each_map_none {X} {A} f (z ∷ xs) zero x l at is = ap (λ (o : Option A). with_each o (each_of (map f xs))) (ap f (sym at) ∙ is)
each_map_none {X} {A} f (z ∷ xs) (suc i) x l at is = ap (with_each (f z)) (each_map_none f xs i x (omega (arith, l)) at is) ∙ none (f z)
  where
    none : (o : Option A) → with_each o None ≡ None
    none None = refl
    none (Some y) = refl

pub each_map_all : {X A : Type 0} (f : X → Option A) (xs : List X) (i : ℕ) (made : List A) → length xs ≤ i → each_of (map f (take i xs)) ≡ Some made → each_of (map f xs) ≡ Some made
each_map_all {X} f xs i made l h = ap (λ (zs : List X). each_of (map f zs)) (sym (take_all i xs l)) ∙ h

-- what is not there
pub none_if_not : {A : Type 0} (o : Option A) → ((x : A) → o ≡ Some x → ⊥) → o ≡ None
none_if_not None never = refl
none_if_not (Some x) never = absurd (never x refl)
