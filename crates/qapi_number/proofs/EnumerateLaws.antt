-- Lists whose items are told with their places.
use Rattle.std.proofs.Common.{◌≡◌, ◌<◌, ◌+◌, ℕ, Bool, cond, List, [], ◌∷◌, ◌++◌, map, length, take, get_or, refl, sym, ap, ◌∙◌, append_assoc, append-nil, arith}
use Rattle.std.specs.{List.enumerate_from, List.flat_map, List.filter, List.fold}
use Rattle.std.proofs.lemmas.{List.map_more, List.take_more, List.length-map, List.length-take-le, List.Elements.filter-append}

-- one more item, with its place
pub enumerate-last : {X : Type 0} (n k : ℕ) (xs : List X) (y : X) → k ≡ n + length xs → enumerate_from n (xs ++ y ∷ []) ≡ enumerate_from n xs ++ (k, y) ∷ []
enumerate-last {X} n k [] y e = let z : n ≡ k = omega (arith, e) in ap {A = ℕ} {B = List (ℕ × X)} (λ m. (m, y) ∷ []) z
enumerate-last {X} n k (x ∷ xs) y e = ap {A = List (ℕ × X)} (λ r. (n, x) ∷ r) (enumerate-last (n + 1) k xs y (omega (arith, e)))

pub enumerate_more : {X V : Type 0} (v : V → X) (xs : List V) (i : ℕ) (d : V) → i < length xs → enumerate_from 0 (map v (take (i + 1) xs)) ≡ enumerate_from 0 (map v (take i xs)) ++ (i, v (get_or xs i d)) ∷ []
enumerate_more v xs i d l =
    ap (enumerate_from 0) (map_more v xs i d l)
    ∙ enumerate-last 0 i (map v (take i xs)) (v (get_or xs i d)) (let e : length (map v (take i xs)) ≡ i = length-map (take i xs) v ∙ length-take-le i xs (omega (arith, l)) in omega (arith, e))

pub enumerate_plain : {X : Type 0} (xs : List X) (i : ℕ) (d : X) → i < length xs → enumerate_from 0 (take (i + 1) xs) ≡ enumerate_from 0 (take i xs) ++ (i, get_or xs i d) ∷ []
enumerate_plain xs i d l =
    ap (enumerate_from 0) (take_more xs i d l)
    ∙ enumerate-last 0 i (take i xs) (get_or xs i d) (let e : length (take i xs) ≡ i = length-take-le i xs (omega (arith, l)) in omega (arith, e))

map-last : {A B : Type 0} (f : A → B) (xs : List A) (x : A) → map f (xs ++ x ∷ []) ≡ map f xs ++ f x ∷ []
map-last f [] x = refl
map-last f (y ∷ xs) x = ap (λ l. f y ∷ l) (map-last f xs x)

flat_map-last : {A B : Type 0} (f : A → List B) (xs : List A) (x : A) → flat_map f (xs ++ x ∷ []) ≡ flat_map f xs ++ f x
flat_map-last f [] x = append-nil (f x)
flat_map-last f (y ∷ xs) x = ap (λ l. f y ++ l) (flat_map-last f xs x) ∙ sym (append_assoc (f y) (flat_map f xs) (f x))

fold-last : {S B : Type 0} (step : S → B → S) (s : S) (xs ys : List B) → fold step s (xs ++ ys) ≡ fold step (fold step s xs) ys
fold-last step s [] ys = refl
fold-last step s (x ∷ xs) ys = fold-last step (step s x) xs ys

-- what was made of items, and what is made of one more
pub mapped : {A B : Type 0} (f : A → B) (before after : List A) (x : A) (old new : List B) → after ≡ before ++ x ∷ [] → old ≡ map f before → new ≡ old ++ f x ∷ [] → new ≡ map f after
mapped f before after x old new e o n = n ∙ ap (λ l. l ++ f x ∷ []) o ∙ sym (ap (map f) e ∙ map-last f before x)

pub flat_mapped : {A B : Type 0} (f : A → List B) (before after : List A) (x : A) (old new : List B) → after ≡ before ++ x ∷ [] → old ≡ flat_map f before → new ≡ old ++ f x → new ≡ flat_map f after
flat_mapped f before after x old new e o n = n ∙ ap (λ l. l ++ f x) o ∙ sym (ap (flat_map f) e ∙ flat_map-last f before x)

pub folded : {S A B : Type 0} (step : S → B → S) (f : A → List B) (first old new : S) (before after : List A) (x : A) → after ≡ before ++ x ∷ [] → old ≡ fold step first (flat_map f before) → new ≡ fold step old (f x) → new ≡ fold step first (flat_map f after)
folded step f first old new before after x e o n =
    n ∙ ap (λ s. fold step s (f x)) o ∙ sym (fold-last step first (flat_map f before) (f x)) ∙ ap (fold step first) (sym (ap (flat_map f) e ∙ flat_map-last f before x))

pub filtered : {A : Type 0} (test : A → Bool) (before after : List A) (x : A) → after ≡ before ++ x ∷ [] → filter test after ≡ filter test before ++ cond (test x) (x ∷ []) []
filtered test before after x e = ap (filter test) e ∙ filter-append test before (x ∷ [])

-- one more item, which is told as itself
pub enumerate_item : {X : Type 0} (xs : List X) (i : ℕ) (x : X) → i < length xs → x ≡ get_or xs i x → enumerate_from 0 (take (i + 1) xs) ≡ enumerate_from 0 (take i xs) ++ (i, x) ∷ []
enumerate_item {X} xs i x l is = enumerate_plain xs i x l ∙ ap {A = X} {B = List (ℕ × X)} (λ z. enumerate_from 0 (take i xs) ++ (i, z) ∷ []) (sym is)

pub gathered : {A : Type 0} (test : A → Bool) (before after : List A) (x : A) (old new : List A) → after ≡ before ++ x ∷ [] → old ≡ filter test before → new ≡ old ++ cond (test x) (x ∷ []) [] → new ≡ filter test after
gathered test before after x old new e o n = n ∙ ap (λ l. l ++ cond (test x) (x ∷ []) []) o ∙ sym (filtered test before after x e)

-- one more item, seen through v
pub enumerate_told : {X V : Type 0} (v : V → X) (xs : List V) (i : ℕ) (x : V) → i < length xs → x ≡ get_or xs i x → enumerate_from 0 (map v (take (i + 1) xs)) ≡ enumerate_from 0 (map v (take i xs)) ++ (i, v x) ∷ []
enumerate_told {X} {V} v xs i x l is = enumerate_more v xs i x l ∙ ap {A = V} {B = List (ℕ × X)} (λ z. enumerate_from 0 (map v (take i xs)) ++ (i, v z) ∷ []) (sym is)

-- one more item of a front
pub take_item : {X : Type 0} (xs : List X) (i : ℕ) (x : X) → i < length xs → x ≡ get_or xs i x → take (i + 1) xs ≡ take i xs ++ x ∷ []
take_item xs i x l is = take_more xs i x l ∙ ap (λ z. take i xs ++ z ∷ []) (sym is)

pub mapped_after : {A B : Type 0} (f : A → B) (first : List B) (before after : List A) (x : A) (old new : List B) → after ≡ before ++ x ∷ [] → old ≡ first ++ map f before → new ≡ old ++ f x ∷ [] → new ≡ first ++ map f after
mapped_after f first before after x old new e o n =
    n ∙ ap (λ l. l ++ f x ∷ []) o ∙ append_assoc first (map f before) (f x ∷ []) ∙ ap (λ l. first ++ l) (sym (ap (map f) e ∙ map-last f before x))
