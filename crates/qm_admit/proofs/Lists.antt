-- What stands in a list, and what a search in it finds.
use Rattle.std.proofs.Common.{◌≡◌, ℕ, zero, suc, ◌+◌, Bool, true, false, cond, ◌||◌, List, [], ◌∷◌, map, refl, ap, sym, ◌∙◌, subst, inl, inr, arith, Some, None, All, AllPairs, slice_get, find, position, bytes_eq}
use Rattle.std.specs.List.{list_all, list_any, AllByRecursion, position_from}
use Rattle.std.proofs.lemmas.{Bool.and_parts, List.Elements.recursion_from_All, Iterator.Adapters.position_from-zero, Slice.Eq.bytes_eq-Decides}
use Rattle.qm_base.specs.Names.{is_named}
use Rattle.qapi_types.proofs.ChainLaws.{left, right}
use Rattle.qm_admit.specs.Fitting.{Among}

pub among-map : {X Y : Type 0} (f : X → Y) (x : X) (xs : List X) → Among x xs → Among (f x) (map f xs)
among-map f x [] h = absurd h
among-map f x (y ∷ xs) (inl e) = inl (ap f e)
among-map f x (y ∷ xs) (inr h) = inr (among-map f x xs h)

pub record Source {X Y : Type 0} (f : X → Y) (y : Y) (xs : List X) : Type 0 where
  pub of : X
  pub among : Among of xs
  pub is : f of ≡ y

later : {X Y : Type 0} (f : X → Y) (y : Y) (x : X) (xs : List X) → Source f y xs → Source f y (x ∷ xs)
later f y x xs h = record { of = h.of; among = inr h.among; is = h.is }

pub among-source : {X Y : Type 0} (f : X → Y) (y : Y) (xs : List X) → Among y (map f xs) → Source f y xs
among-source f y [] h = absurd h
among-source f y (x ∷ xs) (inl e) = record { of = x; among = inl refl; is = e }
among-source f y (x ∷ xs) (inr h) = later f y x xs (among-source f y xs h)

pub part-among : {X : Type 0} (P : X → Type 0) (x : X) (xs : List X) → AllByRecursion P xs → Among x xs → P x
part-among P x [] h a = absurd a
part-among P x (y ∷ xs) h (inl e) = subst P e h.0
part-among P x (y ∷ xs) h (inr a) = part-among P x xs h.1 a

pub all-among : {X : Type 0} (P : X → Type 0) (x : X) (xs : List X) → All P xs → Among x xs → P x
all-among P x xs h a = part-among P x xs (recursion_from_All P xs h) a

pub pairs-head : {X : Type 0} (R : X → X → Type 0) (x : X) (xs : List X) → AllPairs R (x ∷ xs) → All (R x) xs
pairs-head R x xs h k d l = h zero (suc k) d (omega arith) (omega arith)

pub pairs-tail : {X : Type 0} (R : X → X → Type 0) (x : X) (xs : List X) → AllPairs R (x ∷ xs) → AllPairs R xs
pairs-tail R x xs h i j d l m = h (suc i) (suc j) d (omega arith) (omega arith)

pub passes-among : {X : Type 0} (p : X → Bool) (x : X) (xs : List X) → list_all p xs ≡ true → Among x xs → p x ≡ true
passes-among p x [] h a = absurd a
passes-among p x (y ∷ xs) h (inl e) = ap p (sym e) ∙ (and_parts (p y) (list_all p xs) h).0
passes-among p x (y ∷ xs) h (inr a) = passes-among p x xs (and_parts (p y) (list_all p xs) h).1 a

pub record Witness {X : Type 0} (p : X → Bool) (xs : List X) : Type 0 where
  pub of : X
  pub among : Among of xs
  pub passes : p of ≡ true

pub witness : {X : Type 0} (p : X → Bool) (xs : List X) → list_any p xs ≡ true → Witness p xs
witness p [] h = absurd cc
witness p (x ∷ xs) h = by_case (witness p xs) (p x) refl h
  where
    by_case : (list_any p xs ≡ true → Witness p xs) → (r : Bool) → p x ≡ r → (r || list_any p xs) ≡ true → Witness p (x ∷ xs)
    by_case go true e h = record { of = x; among = inl refl; passes = e }
    by_case go false e h = let w = go h in record { of = w.of; among = inr w.among; passes = w.passes }

pub any-among : {X : Type 0} (p : X → Bool) (x : X) (xs : List X) → Among x xs → p x ≡ true → list_any p xs ≡ true
any-among p x [] a h = absurd a
any-among p x (y ∷ xs) (inl e) h = left (p y) (list_any p xs) (ap p e ∙ h)
any-among p x (y ∷ xs) (inr a) h = right (p y) (list_any p xs) (any-among p x xs a h)

pub found-among : {X : Type 0} (p : X → Bool) (x : X) (xs : List X) → find p xs ≡ Some x → Among x xs
found-among p x [] h = absurd cc
found-among p x (y ∷ xs) h = by_case (found-among p x xs) (p y) h
  where
    by_case : (find p xs ≡ Some x → Among x xs) → (r : Bool) → cond r (Some y) (find p xs) ≡ Some x → Among x (y ∷ xs)
    by_case go true h = inl cc
    by_case go false h = inr (go h)

-- what a search by position finds from a place on
data PlaceFrom {X : Type 0} (p : X → Bool) (j : ℕ) (xs : List X) : Type 0 where
  nowhere_from : position_from p j xs ≡ None → ((x : X) → Among x xs → p x ≡ false) → PlaceFrom p j xs
  somewhere_from : (i : ℕ) (x : X) → position_from p j xs ≡ Some (j + i) → slice_get xs i ≡ Some x → Among x xs → p x ≡ true → PlaceFrom p j xs

place-from : {X : Type 0} (p : X → Bool) (j : ℕ) (xs : List X) → PlaceFrom p j xs
place-from p j [] = nowhere_from refl (λ x a. absurd a)
place-from {X = X} p j (x ∷ xs) = by_case (place-from p (j + 1) xs) (p x) refl
  where
    skips : p x ≡ false → position_from p j (x ∷ xs) ≡ position_from p (j + 1) xs
    skips e = ap (λ b. cond b (Some j) (position_from p (j + 1) xs)) e

    none-of : p x ≡ false → ((y : X) → Among y xs → p y ≡ false) → (y : X) → Among y (x ∷ xs) → p y ≡ false
    none-of e all y (inl s) = ap p (sym s) ∙ e
    none-of e all y (inr a) = all y a

    by_case : PlaceFrom p (j + 1) xs → (r : Bool) → p x ≡ r → PlaceFrom p j (x ∷ xs)
    by_case rest true e = somewhere_from zero x (ap (λ b. cond b (Some j) (position_from p (j + 1) xs)) e ∙ ap Some (omega arith)) refl (inl refl) e
    by_case (nowhere_from n all) false e = nowhere_from (skips e ∙ n) (none-of e all)
    by_case (somewhere_from i y f g a h) false e = somewhere_from (suc i) y (skips e ∙ f ∙ ap Some (omega arith)) g (inr a) h

-- what a search by position finds
pub data PlaceIn {X : Type 0} (p : X → Bool) (xs : List X) : Type 0 where
  nowhere : position p xs ≡ None → ((x : X) → Among x xs → p x ≡ false) → PlaceIn p xs
  somewhere : (i : ℕ) (x : X) → position p xs ≡ Some i → slice_get xs i ≡ Some x → Among x xs → p x ≡ true → PlaceIn p xs

pub place-in : {X : Type 0} (p : X → Bool) (xs : List X) → PlaceIn p xs
place-in p xs = by_place (place-from p 0 xs)
  where
    by_place : PlaceFrom p 0 xs → PlaceIn p xs
    by_place (nowhere_from n all) = nowhere (position_from-zero p xs ∙ n) all
    by_place (somewhere_from i x f g a h) = somewhere i x (position_from-zero p xs ∙ f ∙ ap Some (omega arith)) g a h

-- names of a list of items
pub named-among : {X : Type 0} (f : X → List ℕ) (name : List ℕ) (x : X) (xs : List X) → Among x xs → f x ≡ name → is_named (map f xs) name ≡ true
named-among f name x [] a e = absurd a
named-among f name x (y ∷ xs) (inl s) e = left (bytes_eq name (f y)) (is_named (map f xs) name) ((bytes_eq-Decides name (f y)).1 (sym e ∙ ap f (sym s)))
named-among f name x (y ∷ xs) (inr a) e = right (bytes_eq name (f y)) (is_named (map f xs) name) (named-among f name x xs a e)

pub among-named : {X : Type 0} (f : X → List ℕ) (name : List ℕ) (xs : List X) → is_named (map f xs) name ≡ true → Source f name xs
among-named f name xs h =
    let w = witness (bytes_eq name) (map f xs) h in
    let s = among-source f w.of xs w.among in
    record { of = s.of; among = s.among; is = s.is ∙ sym ((bytes_eq-Decides name w.of).0 w.passes) }
