-- What stands in a list, under a map, and what a search finds.
use Rattle.std.proofs.Common.{◌≡◌, Bool, true, false, cond, List, [], ◌∷◌, ◌++◌, map, refl, ap, ◌∙◌, inl, inr, Option, Some, None}
use Rattle.std.specs.Prelude.{option_map, find}
use Rattle.qm_admit.specs.Fitting.{Among}

pub among-map : {X Y : Type 0} (f : X → Y) (x : X) (xs : List X) → Among x xs → Among (f x) (map f xs)
among-map f x [] h = absurd h
among-map f x (y ∷ xs) (inl e) = inl (ap f e)
among-map f x (y ∷ xs) (inr h) = inr (among-map f x xs h)

pub record Source {X Y : Type 0} (f : X → Y) (y : Y) (xs : List X) : Type 0 where
  pub of : X
  pub among : Among of xs
  pub is : f of ≡ y

later : {X Y : Type 0} (f : X → Y) (y : Y) (x : X) (xs : List X) → Source f y xs → Source f y (x ∷ xs)
later f y x xs h = record { of = h.of; among = inr h.among; is = h.is }

pub among-source : {X Y : Type 0} (f : X → Y) (y : Y) (xs : List X) → Among y (map f xs) → Source f y xs
among-source f y [] h = absurd h
among-source f y (x ∷ xs) (inl e) = record { of = x; among = inl refl; is = e }
among-source f y (x ∷ xs) (inr h) = later f y x xs (among-source f y xs h)

pub among-left : {X : Type 0} (x : X) (xs ys : List X) → Among x xs → Among x (xs ++ ys)
among-left x [] ys h = absurd h
among-left x (y ∷ xs) ys (inl e) = inl e
among-left x (y ∷ xs) ys (inr h) = inr (among-left x xs ys h)

pub among-right : {X : Type 0} (x : X) (xs ys : List X) → Among x ys → Among x (xs ++ ys)
among-right x [] ys h = h
among-right x (y ∷ xs) ys h = inr (among-right x xs ys h)

found-at : {X : Type 0} (t : Bool) (p : X → Bool) (x y : X) (xs : List X) → (find p xs ≡ Some x → Among x xs) → cond t (Some y) (find p xs) ≡ Some x → Among x (y ∷ xs)
found-at true p x y xs f h = inl (cc)
found-at false p x y xs f h = inr (f h)

pub found-among : {X : Type 0} (p : X → Bool) (x : X) (xs : List X) → find p xs ≡ Some x → Among x xs
found-among p x [] h = absurd cc
found-among p x (y ∷ xs) h = found-at (p y) p x y xs (found-among p x xs) h

map-at : {X Y : Type 0} (t : Bool) (f : X → Y) (x : X) (a : Option Y) (b : Option X) → a ≡ option_map f b → cond t (Some (f x)) a ≡ option_map f (cond t (Some x) b)
map-at true f x a b h = refl
map-at false f x a b h = h

pub find-mapped : {X Y : Type 0} (p : Y → Bool) (f : X → Y) (xs : List X) → find p (map f xs) ≡ option_map f (find (λ (x : X). p (f x)) xs)
find-mapped p f [] = refl
find-mapped {X = X} p f (x ∷ xs) = map-at (p (f x)) f x (find p (map f xs)) (find (λ (x : X). p (f x)) xs) (find-mapped p f xs)

-- the same under two maps, one after the other

pub among-maps : {X Y Z : Type 0} (f : Y → Z) (g : X → Y) (x : X) (xs : List X) → Among x xs → Among (f (g x)) (map f (map g xs))
among-maps f g x xs h = among-map f (g x) (map g xs) (among-map g x xs h)

pub among-sources : {X Y Z : Type 0} (f : Y → Z) (g : X → Y) (z : Z) (xs : List X) → Among z (map f (map g xs)) → Source (λ (x : X). f (g x)) z xs
among-sources f g z xs h =
    let y = among-source f z (map g xs) h in
    let x = among-source g y.of xs y.among in
    record { of = x.of; among = x.among; is = ap f x.is ∙ y.is }

map-twice : {X Y Z : Type 0} (f : Y → Z) (g : X → Y) (o : Option X) → option_map f (option_map g o) ≡ option_map (λ (x : X). f (g x)) o
map-twice f g None = refl
map-twice f g (Some x) = refl

pub find-maps : {X Y Z : Type 0} (p : Z → Bool) (f : Y → Z) (g : X → Y) (xs : List X) → find p (map f (map g xs)) ≡ option_map (λ (x : X). f (g x)) (find (λ (x : X). p (f (g x))) xs)
find-maps {X = X} {Y = Y} p f g xs =
    find-mapped p f (map g xs) ∙ ap (option_map f) (find-mapped (λ (y : Y). p (f y)) g xs) ∙ map-twice f g (find (λ (x : X). p (f (g x))) xs)
