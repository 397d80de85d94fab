-- Numbers that are dealt to two lists.
use Rattle.std.proofs.Common.{◌≡◌, ◌≤◌, ◌<◌, ◌+◌, ◌↔◌, ℕ, true, false, IsTrue, List, [], ◌∷◌, length, drop, get_or, refl, sym, ap, ◌∙◌, subst, arith}
use Rattle.std.proofs.lemmas.{Grind.common_steps, List.drop_more, List.drop_all, List.length-drop}
use Rattle.qapi_types.specs.{Goodness.AreDealt, Goodness.none, Goodness.first, Goodness.second, Sets.is_at}

first-front : {n x : ℕ} {xs ys : List ℕ} → AreDealt n (x ∷ xs) ys → n ≤ x
first-front {n} {x} (first d) = omega arith
first-front {n} {x} (second d) = (let l : n + 1 ≤ x = first-front d in omega (arith, l))

second-front : {n y : ℕ} {xs ys : List ℕ} → AreDealt n xs (y ∷ ys) → n ≤ y
second-front {n} {y} (second d) = omega arith
second-front {n} {y} (first d) = (let l : n + 1 ≤ y = second-front d in omega (arith, l))

from-first : {n x : ℕ} {xs ys : List ℕ} → x ≡ n → AreDealt n (x ∷ xs) ys → AreDealt (n + 1) xs ys
from-first {n} {x} e (first d) = d
from-first {n} {x} e (second d) = (let l : n + 1 ≤ x = first-front d in absurd (omega (arith, l, e)))

from-second : {n y : ℕ} {xs ys : List ℕ} → y ≡ n → AreDealt n xs (y ∷ ys) → AreDealt (n + 1) xs ys
from-second {n} {y} e (second d) = d
from-second {n} {y} e (first d) = (let l : n + 1 ≤ y = second-front d in absurd (omega (arith, l, e)))

-- the number stands next in neither list, one of which has more
is-stuck : (n : ℕ) (xs ys : List ℕ) → is_at n xs 0 ≡ false → is_at n ys 0 ≡ false → 1 ≤ length xs + length ys → AreDealt n xs ys → ⊥
is-stuck n xs ys f s l none = absurd (omega (arith, l))
is-stuck n xs ys f s l (first {xs = zs} d) = (let e : is_at n (n ∷ zs) 0 ≡ true = grind (arith, common_steps) in cc)
is-stuck n xs ys f s l (second {ys = zs} d) = (let e : is_at n (n ∷ zs) 0 ≡ true = grind (arith, common_steps) in cc)

there : (n : ℕ) (xs : List ℕ) (i : ℕ) → is_at n xs i ≡ true → i < length xs
there n xs i h = grind (arith, common_steps)

value : (n : ℕ) (xs : List ℕ) (i : ℕ) → is_at n xs i ≡ true → get_or xs i 0 ≡ n
value n xs i h = grind (arith, common_steps)

at-front : (n : ℕ) (xs : List ℕ) (i : ℕ) → is_at n xs i ≡ false → is_at n (drop i xs) 0 ≡ false
at-front n xs i h = grind (arith, common_steps)

-- what has been dealt so far
pub record Deals (cs es : List ℕ) (i j n : ℕ) : Type 0 where
  pub first : i ≤ length cs
  pub second : j ≤ length es
  pub both : i + j ≡ n
  pub rest : AreDealt 0 cs es ↔ AreDealt n (drop i cs) (drop j es)

pub deals_none : (cs es : List ℕ) → Deals cs es 0 0 0
deals_none cs es = record { first = omega arith; second = omega arith; both = refl; rest = ((λ d. d), (λ d. d)) }

pub deals_first : (cs es : List ℕ) (i j n : ℕ) → Deals cs es i j n → is_at n cs i ≡ true → Deals cs es (i + 1) j (n + 1)
deals_first cs es i j n s h =
    let l : i < length cs = there n cs i h in
    let e : get_or cs i 0 ≡ n = value n cs i h in
    let d : drop i cs ≡ get_or cs i 0 ∷ drop (i + 1) cs = drop_more cs i 0 l in
    record {
      first = omega (arith, l);
      second = s.second;
      both = omega (arith, s.both);
      rest = (
        (λ w. from-first e (subst (λ xs. AreDealt n xs (drop j es)) d (s.rest.0 w))),
        (λ w. s.rest.1 (subst (λ xs. AreDealt n xs (drop j es)) (sym (d ∙ ap (λ x. x ∷ drop (i + 1) cs) e)) (first w))),
      );
    }

pub deals_second : (cs es : List ℕ) (i j n : ℕ) → Deals cs es i j n → is_at n es j ≡ true → Deals cs es i (j + 1) (n + 1)
deals_second cs es i j n s h =
    let l : j < length es = there n es j h in
    let e : get_or es j 0 ≡ n = value n es j h in
    let d : drop j es ≡ get_or es j 0 ∷ drop (j + 1) es = drop_more es j 0 l in
    record {
      first = s.first;
      second = omega (arith, l);
      both = omega (arith, s.both);
      rest = (
        (λ w. from-second e (subst (λ ys. AreDealt n (drop i cs) ys) d (s.rest.0 w))),
        (λ w. s.rest.1 (subst (λ ys. AreDealt n (drop i cs) ys) (sym (d ∙ ap (λ y. y ∷ drop (j + 1) es) e)) (second w))),
      );
    }

-- the next number stands next in neither list
pub deals_stuck : (cs es : List ℕ) (i j n : ℕ) → Deals cs es i j n → n < length cs + length es → is_at n cs i ≡ false → is_at n es j ≡ false → IsTrue false ↔ AreDealt 0 cs es
deals_stuck cs es i j n s l f g = (
  (λ h. cc),
  (λ w. absurd (is-stuck n (drop i cs) (drop j es) (at-front n cs i f) (at-front n es j g) (let a = length-drop i cs in let b = length-drop j es in omega (arith, a, b, s.first, s.second, s.both, l)) (s.rest.0 w))),
)

-- all numbers are dealt
pub deals_all : (cs es : List ℕ) (i j n : ℕ) → Deals cs es i j n → length cs + length es ≤ n → IsTrue true ↔ AreDealt 0 cs es
deals_all cs es i j n s l = (
  (λ _. s.rest.1 (subst (λ xs. AreDealt n xs (drop j es)) (sym (drop_all i cs (omega (arith, s.first, s.second, s.both, l)))) (subst (λ ys. AreDealt n [] ys) (sym (drop_all j es (omega (arith, s.first, s.second, s.both, l)))) none))),
  (λ _. refl),
)

-- the same, as the code has the indices
pub goes_first : (cs es : List ℕ) (i j k l n : ℕ) → Deals cs es i j n → true ≡ is_at n cs i → k ≡ i + 1 → l ≡ j → Deals cs es k l (n + 1)
goes_first cs es i j k l n s h e f = subst (λ k. Deals cs es k l (n + 1)) (sym e) (subst (λ l. Deals cs es (i + 1) l (n + 1)) (sym f) (deals_first cs es i j n s (sym h)))

pub goes_second : (cs es : List ℕ) (i j k l n : ℕ) → Deals cs es i j n → true ≡ is_at n es j → k ≡ i → l ≡ j + 1 → Deals cs es k l (n + 1)
goes_second cs es i j k l n s h e f = subst (λ k. Deals cs es k l (n + 1)) (sym e) (subst (λ l. Deals cs es i l (n + 1)) (sym f) (deals_second cs es i j n s (sym h)))
