-- Texts that are cut where a test first fails, or at a length.
use Rattle.std.proofs.Common.{◌≡◌, ℕ, Bool, true, false, List, [], ◌∷◌, ◌++◌, length, drop, refl, ap, sym, ◌∙◌, arith}
use Rattle.std.specs.List.{list_all}
use Rattle.std.proofs.lemmas.Bool.{and_parts, both_ways}

-- no run goes on with the text
abbrev pub IsPast : (ℕ → Bool) → List ℕ → Type 0
IsPast p [] = Unit {0}
IsPast p (x ∷ rest) = p x ≡ false

-- the byte at the front of a text
abbrev pub first_of : List ℕ → ℕ
first_of [] = 0
first_of (x ∷ text) = x

pub same_first : (x y : ℕ) (a b : List ℕ) → x ∷ a ≡ y ∷ b → (x ≡ y) × (a ≡ b)
same_first x y a b e = (ap first_of e, ap (λ (l : List ℕ). drop 1 l) e)

-- two runs, each with what ends it after it
pub cut_runs : (p : ℕ → Bool) (xs ys a b : List ℕ) → list_all p xs ≡ true → list_all p ys ≡ true → IsPast p a → IsPast p b → xs ++ a ≡ ys ++ b → (xs ≡ ys) × (a ≡ b)
cut_runs p [] [] a b h k m n e = (refl, e)
cut_runs p [] (y ∷ ys) [] b h k m n e = cc
cut_runs p [] (y ∷ ys) (x ∷ a) b h k m n e = absurd (both_ways (p y) (ap p (sym (same_first x y a (ys ++ b) e).0) ∙ m) (and_parts (p y) (list_all p ys) k).0)
cut_runs p (x ∷ xs) [] a [] h k m n e = cc
cut_runs p (x ∷ xs) [] a (y ∷ b) h k m n e = absurd (both_ways (p x) (ap p (same_first x y (xs ++ a) b e).0 ∙ n) (and_parts (p x) (list_all p xs) h).0)
cut_runs p (x ∷ xs) (y ∷ ys) a b h k m n e =
    let both = same_first x y (xs ++ a) (ys ++ b) e in
    let inner = cut_runs p xs ys a b (and_parts (p x) (list_all p xs) h).1 (and_parts (p y) (list_all p ys) k).1 m n both.1 in
    (ap (λ (z : ℕ). z ∷ xs) both.0 ∙ ap (λ (l : List ℕ). y ∷ l) inner.0, inner.1)

-- two texts of one length, each with something after it
pub cut_lengths : (xs ys a b : List ℕ) → length xs ≡ length ys → xs ++ a ≡ ys ++ b → (xs ≡ ys) × (a ≡ b)
cut_lengths [] [] a b h e = (refl, e)
cut_lengths [] (y ∷ ys) a b h e = absurd (omega (arith, h))
cut_lengths (x ∷ xs) [] a b h e = absurd (omega (arith, h))
cut_lengths (x ∷ xs) (y ∷ ys) a b h e =
    let both = same_first x y (xs ++ a) (ys ++ b) e in
    let inner = cut_lengths xs ys a b (omega (arith, h)) both.1 in
    (ap (λ (z : ℕ). z ∷ xs) both.0 ∙ ap (λ (l : List ℕ). y ∷ l) inner.0, inner.1)
