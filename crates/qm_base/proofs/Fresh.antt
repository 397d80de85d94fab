-- A name that no item of a list has.
use Rattle.std.proofs.Common.{◌≡◌, ℕ, ◌≤◌, ◌<◌, Bool, true, false, ◌||◌, List, [], ◌∷◌, ◌++◌, length, refl, ap, arith, length-append}
use Rattle.std.specs.{List.list_any, Str.bytes_eq}
use Rattle.std.proofs.lemmas.Slice.Eq.{bytes_eq-Decides}

not-true : (b : Bool) → (b ≡ true → ⊥) → b ≡ false
not-true true h = absurd (h refl)
not-true false h = refl

unlike : (a b : List ℕ) → length a < length b → bytes_eq a b ≡ false
unlike a b h = not-true (bytes_eq a b) (λ e. let l : length a ≡ length b = ap length ((bytes_eq-Decides a b).0 e) in omega (arith, h, l))

either : (a b : Bool) → a ≡ false → b ≡ false → (a || b) ≡ false
either a b e f = rw (e, f) refl

module _ {A : Type 0} (name_of : A → List ℕ) where
  -- longer than each name: all of them in turn, and one byte more
  pub fresh : List A → List ℕ
  fresh [] = 97 ∷ []
  fresh (x ∷ xs) = name_of x ++ fresh xs

  some : (xs : List A) → 0 < length (fresh xs)
  unfolding fresh
  some [] = omega arith
  some (x ∷ xs) = omega (arith, length-append (name_of x) (fresh xs), some xs)

  longer : (xs : List A) (name : List ℕ) → length (fresh xs) ≤ length name → list_any (λ x. bytes_eq (name_of x) name) xs ≡ false
  unfolding fresh
  longer [] name h = refl
  longer (x ∷ xs) name h = either (bytes_eq (name_of x) name) (list_any (λ y. bytes_eq (name_of y) name) xs) (unlike (name_of x) name (omega (arith, h, length-append (name_of x) (fresh xs), some xs))) (longer xs name (omega (arith, h, length-append (name_of x) (fresh xs))))

  pub fresh_name : (xs : List A) → list_any (λ x. bytes_eq (name_of x) (fresh xs)) xs ≡ false
  fresh_name xs = longer xs (fresh xs) (omega arith)
