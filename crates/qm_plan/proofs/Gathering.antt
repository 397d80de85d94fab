-- Lists that are gathered item by item.
use Rattle.std.proofs.Common.{◌≡◌, ℕ, ◌+◌, ◌<◌, List, [], ◌∷◌, ◌++◌, length, get_or, take, drop, map, Option, Some, None, slice_get, refl, ap, sym, ◌∙◌, arith}
use Rattle.std.specs.List.{filter_map, cons_option}
use Rattle.std.proofs.lemmas.List.Elements.{filter_map-append}
use Rattle.std.proofs.lemmas.List.{drop_more}
use Rattle.std.proofs.lemmas.Grind.{common_steps}

gathered : {X Y : Type 0} (h : X → Option Y) (xs : List X) (i : ℕ) (x : X) → i < length xs → x ≡ get_or xs i x → filter_map h (take (i + 1) xs) ≡ filter_map h (take i xs) ++ cons_option (h x) []
gathered h xs i x lt at = grind (arith, common_steps, filter_map-append)

-- what is gathered of one item more
pub gathers_next : {X Y : Type 0} (h : X → Option Y) (xs : List X) (i : ℕ) (x : X) (made : Option Y) (old new : List Y) → i < length xs → x ≡ get_or xs i x → made ≡ h x → old ≡ filter_map h (take i xs) → new ≡ old ++ cons_option made [] → new ≡ filter_map h (take (i + 1) xs)
gathers_next h xs i x made old new lt at m o n =
    n ∙ ap (λ (y : Option _). old ++ cons_option y []) m ∙ ap (λ (l : List _). l ++ cons_option (h x) []) o ∙ sym (gathered h xs i x lt at)

-- what is left of a list of options
pub left-map : {X Y : Type 0} (h : X → Option Y) (xs : List X) → filter_map (λ y. y) (map h xs) ≡ filter_map h xs
left-map h [] = refl
left-map h (x ∷ xs) = ap (cons_option (h x)) (left-map h xs)

rest-at : {X : Type 0} (xs : List X) (i : ℕ) (x : X) → i < length xs → x ≡ get_or xs i x → drop i xs ≡ x ∷ drop (i + 1) xs
rest-at {X} xs i x lt at = drop_more xs i x lt ∙ ap (λ (y : X). y ∷ drop (i + 1) xs) (sym at)

first-at : {X Y : Type 0} (h : X → Option Y) (xs : List X) (i : ℕ) (x : X) (given whole : Option Y) → i < length xs → x ≡ get_or xs i x → given ≡ h x →
    slice_get (filter_map h (drop i xs)) 0 ≡ whole → slice_get (cons_option given (filter_map h (drop (i + 1) xs))) 0 ≡ whole
first-at {X} {Y} h xs i x given whole lt at gives so =
    ap (λ (o : Option Y). slice_get (cons_option o (filter_map h (drop (i + 1) xs))) 0) gives
    ∙ sym (ap (λ (l : List X). slice_get (filter_map h l) 0) (rest-at xs i x lt at)) ∙ so

-- the first that is gathered of the rest, where an item gives nothing
pub first-goes : {X Y : Type 0} (h : X → Option Y) (xs : List X) (i : ℕ) (x : X) (whole : Option Y) → i < length xs → x ≡ get_or xs i x → None ≡ h x →
    slice_get (filter_map h (drop i xs)) 0 ≡ whole → slice_get (filter_map h (drop (i + 1) xs)) 0 ≡ whole
first-goes h xs i x whole lt at gives so = first-at h xs i x None whole lt at gives so

-- the same where it gives something
pub first-stops : {X Y : Type 0} (h : X → Option Y) (xs : List X) (i : ℕ) (x : X) (y : Y) (whole : Option Y) → i < length xs → x ≡ get_or xs i x → Some y ≡ h x →
    slice_get (filter_map h (drop i xs)) 0 ≡ whole → Some y ≡ whole
first-stops h xs i x y whole lt at gives so = first-at h xs i x (Some y) whole lt at gives so
