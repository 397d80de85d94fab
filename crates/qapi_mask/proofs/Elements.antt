-- What holds of all elements of a list holds of each.
use Rattle.std.proofs.Common.{ℕ, zero, suc, List, [], ◌∷◌, ◌++◌, refl, subst, inl, inr, arith}
use Rattle.std.specs.Prelude.{◌⊎◌, slice_index_or}
use Rattle.std.specs.List.{All, AllPairs, flat_map}
use Rattle.qm_admit.specs.Fitting.{Among}

all-rest : {X : Type 0} (P : X → Type 0) (x : X) (xs : List X) → All P (x ∷ xs) → All P xs
all-rest P x xs h k d l = h (suc k) d (omega (arith, l))

pub all-among : {X : Type 0} (P : X → Type 0) (x : X) (xs : List X) → All P xs → Among x xs → P x
all-among P x [] h a = absurd a
all-among P x (y ∷ ys) h (inl e) = subst P e (h zero y (omega arith))
all-among P x (y ∷ ys) h (inr a) = all-among P x ys (all-rest P y ys h) a

-- past the end the element that is given stands for each
pub all-index : {X : Type 0} (P : X → Type 0) (d : X) (xs : List X) (i : ℕ) → All P xs → P d → P (slice_index_or xs i d)
all-index P d [] i h e = e
all-index P d (x ∷ xs) zero h e = h zero d (omega arith)
all-index P d (x ∷ xs) (suc i) h e = all-index P d xs i (all-rest P x xs h) e

pub pairs-rest : {X : Type 0} (R : X → X → Type 0) (x : X) (xs : List X) → AllPairs R (x ∷ xs) → AllPairs R xs
pairs-rest R x xs h i j d l k = h (suc i) (suc j) d (omega (arith, l)) (omega (arith, k))

pub pairs-first : {X : Type 0} (R : X → X → Type 0) (x y : X) (xs : List X) → AllPairs R (x ∷ xs) → Among y xs → R x y
pairs-first R x y xs h a = all-among (R x) y xs (λ k d l. h zero (suc k) d (omega arith) (omega (arith, l))) a

pub among-append : {X : Type 0} (x : X) (xs ys : List X) → Among x (xs ++ ys) → Among x xs ⊎ Among x ys
among-append x [] ys a = inr a
among-append x (y ∷ xs) ys (inl e) = inl (inl e)
among-append x (y ∷ xs) ys (inr a) = elim (among-append x xs ys a) [
  | inl h ↦ inl (inr h)
  | inr h ↦ inr h
]

-- an element of the lists that a list's elements give
pub record Gives {X Y : Type 0} (f : X → List Y) (y : Y) (xs : List X) : Type 0 where
  pub of : X
  pub among : Among of xs
  pub at : Among y (f of)

gives-later : {X Y : Type 0} (f : X → List Y) (y : Y) (x : X) (xs : List X) → Gives f y xs → Gives f y (x ∷ xs)
gives-later f y x xs g = record { of = g.of; among = inr g.among; at = g.at }

pub among-flat : {X Y : Type 0} (f : X → List Y) (y : Y) (xs : List X) → Among y (flat_map f xs) → Gives f y xs
among-flat f y [] a = absurd a
among-flat f y (x ∷ xs) a = elim (among-append y (f x) (flat_map f xs) a) [
  | inl h ↦ record { of = x; among = inl refl; at = h }
  | inr h ↦ gives-later f y x xs (among-flat f y xs h)
]
