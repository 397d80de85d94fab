-- The numbers from one on, and what stands for each of them.
use Rattle.std.proofs.Common.{◌≡◌, ◌≢◌, ℕ, ◌+◌, ◌-◌, ◌<◌, ◌≤◌, ◌==◌, nat_le, nat_lt, suc, zero, Bool, false, ◌&&◌, ◌||◌, List, [], ◌∷◌, ◌++◌, map, get_or, refl, ap, sym, ◌∙◌, arith, inl, inr}
use Rattle.std.specs.List.{list_any}
use Rattle.std.proofs.lemmas.Bool.{cases_eq, Decides.nat_tests}
use Rattle.std.proofs.lemmas.List.{map_push}
use Rattle.std.proofs.Math.ListN.{set}

abbrev pub numbers_from : ℕ → ℕ → List ℕ
numbers_from a zero = []
numbers_from a (suc n) = a ∷ numbers_from (a + 1) n

pub numbers-more : (a n : ℕ) → numbers_from a n ++ (a + n) ∷ [] ≡ numbers_from a (suc n)
numbers-more a zero = (let e : a + 0 ≡ a = omega arith in rw e refl)
numbers-more a (suc n) = (let e : a + suc n ≡ a + 1 + n = omega arith in rw e (ap (λ l. a ∷ l) (numbers-more (a + 1) n)))

at_or_after : (s a n : ℕ) → ((a == s) || (nat_le (a + 1) s && nat_lt s (a + 1 + n))) ≡ (nat_le a s && nat_lt s (a + suc n))
at_or_after s a n = grind (arith, nat_tests)

pub any-numbers : (s a n : ℕ) → list_any (λ t. t == s) (numbers_from a n) ≡ (nat_le a s && nat_lt s (a + n))
any-numbers s a zero = nowhere s a where
  nowhere : (s a : ℕ) → false ≡ (nat_le a s && nat_lt s (a + 0))
  nowhere s a = grind (arith, nat_tests)
any-numbers s a (suc n) = ap (λ (b : Bool). (a == s) || b) (any-numbers s (a + 1) n) ∙ at_or_after s a n

-- the same stands for each
pub map-same : {X : Type 0} (f g : ℕ → X) (a n : ℕ) → ((t : ℕ) → a ≤ t → t < a + n → g t ≡ f t) → map g (numbers_from a n) ≡ map f (numbers_from a n)
map-same f g a zero each = refl
map-same {X} f g a (suc n) each =
    ap (λ (x : X). x ∷ map g (numbers_from (a + 1) n)) (each a (omega arith) (omega arith))
    ∙ ap (λ (l : List X). f a ∷ l) (map-same f g (a + 1) n (λ t low high. each t (omega (arith, low)) (omega (arith, high))))

-- another stands for one of them
pub map-one : {X : Type 0} (f g : ℕ → X) (s a n : ℕ) → a ≤ s → s < a + n → ((t : ℕ) → t ≢ s → g t ≡ f t) →
    map g (numbers_from a n) ≡ set (map f (numbers_from a n)) (s - a) (g s)
map-one f g s a zero low high others = absurd (omega (arith, low, high))
map-one {X} f g s a (suc n) low high others = elim (cases_eq a s) [
  | inl is ↦
      (let first : s - a ≡ zero = omega (arith, is) in
      let rest = map-same f g (a + 1) n (λ t above below. others t (omega (arith, is, above))) in
      rw first (ap (λ (x : X). x ∷ map g (numbers_from (a + 1) n)) (ap g is) ∙ ap (λ (l : List X). g s ∷ l) rest))
  | inr ne ↦
      (let next : s - a ≡ suc (s - (a + 1)) = omega (arith, low, ne) in
      let rest = map-one f g s (a + 1) n (omega (arith, low, ne)) (omega (arith, high)) others in
      rw next (ap (λ (x : X). x ∷ map g (numbers_from (a + 1) n)) (others a ne) ∙ ap (λ (l : List X). f a ∷ l) rest))
]

-- and for one more
pub map-more : {X : Type 0} (f g : ℕ → X) (n : ℕ) → ((t : ℕ) → t ≤ n → g t ≡ f t) →
    map g (numbers_from 1 (suc n)) ≡ map f (numbers_from 1 n) ++ g (1 + n) ∷ []
map-more {X} f g n each =
    ap (λ (l : List ℕ). map g l) (sym (numbers-more 1 n)) ∙ map_push g (numbers_from 1 n) (1 + n)
    ∙ ap (λ (l : List X). l ++ g (1 + n) ∷ []) (map-same f g 1 n (λ t low high. each t (omega (arith, high))))

-- what stands for a number is found at its place
pub get-map : {X : Type 0} (f : ℕ → X) (s a n : ℕ) (d : X) → a ≤ s → s < a + n → get_or (map f (numbers_from a n)) (s - a) d ≡ f s
get-map f s a zero d low high = absurd (omega (arith, low, high))
get-map f s a (suc n) d low high = elim (cases_eq a s) [
  | inl is ↦ (let first : s - a ≡ zero = omega (arith, is) in rw first (ap f is))
  | inr ne ↦ (let next : s - a ≡ suc (s - (a + 1)) = omega (arith, low, ne) in rw next (get-map f s (a + 1) n d (omega (arith, low, ne)) (omega (arith, high))))
]
