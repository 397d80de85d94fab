-- As many readings as there are numbers find all.
use Rattle.std.proofs.Common.{◌≡◌, ℕ, ◌+◌, ◌<◌, ◌≤◌, zero, suc, Bool, true, false, cond, ◌||◌, List, [], ◌∷◌, ◌++◌, length, refl, ap, sym, ◌∙◌, arith, append_assoc, length-append}
use Rattle.std.specs.Prelude.{◌⊎◌}
use Rattle.std.proofs.Common.{inl, inr}
use Rattle.std.specs.List.{flat_map, AllByRecursion, IsDistinct}
use Rattle.std.proofs.lemmas.List.{append-nil}
use Rattle.std.proofs.lemmas.List.Folds.{list_any-append}
use Rattle.std.proofs.lemmas.Grind.{flat_map-append}
use Rattle.std.proofs.lemmas.Bool.{eqb-true}
use Rattle.std.proofs.lemmas.Map.Steps.{length-le_from_distinct_below}
use Rattle.std.proofs.Math.Dec.{eqb}
use Rattle.std.proofs.Common.{subst}
use Rattle.std.proofs.lemmas.Bool.Decides.{nat_tests}
use Rattle.qapi_types.specs.Chains.{has}
use Rattle.qapi_mask.specs.Orders.{AreBelow, IsClosed, IsWalked, Walks, with_new, with_all, read_on, readings}

pub record Front (a b : List ℕ) : Type 0 where
  pub rest : List ℕ
  pub is : b ≡ a ++ rest

front-same : (a : List ℕ) → Front a a
front-same a = record { rest = []; is = sym (append-nil a) }

front-trans : (a b c : List ℕ) → Front a b → Front b c → Front a c
front-trans a b c p q = record { rest = p.rest ++ q.rest; is = q.is ∙ ap (λ (l : List ℕ). l ++ q.rest) p.is ∙ append_assoc a p.rest q.rest }

front-new : (t : Bool) (seen : List ℕ) (x : ℕ) → Front seen (cond t seen (seen ++ x ∷ []))
front-new true seen x = front-same seen
front-new false seen x = record { rest = x ∷ []; is = refl }

front-all : (seen xs : List ℕ) → Front seen (with_all seen xs)
front-all seen [] = front-same seen
front-all seen (x ∷ xs) = front-trans seen (with_new seen x) (with_all (with_new seen x) xs) (front-new (has x seen) seen x) (front-all (with_new seen x) xs)

pub all-append : (seen xs ys : List ℕ) → with_all seen (xs ++ ys) ≡ with_all (with_all seen xs) ys
all-append seen [] ys = refl
all-append seen (x ∷ xs) ys = all-append (with_new seen x) xs ys

read-front : (first : List ℕ) (refs : ℕ → List ℕ) (a b : List ℕ) → Front a b → Front (read_on first refs a) (read_on first refs b)
read-front first refs a b p =
    let e : first ++ flat_map refs b ≡ (first ++ flat_map refs a) ++ flat_map refs p.rest =
    ap (λ (l : List ℕ). first ++ flat_map refs l) p.is ∙ ap (λ (l : List ℕ). first ++ l) (flat_map-append refs a p.rest) ∙ sym (append_assoc first (flat_map refs a) (flat_map refs p.rest)) in
    let f = front-all (read_on first refs a) (flat_map refs p.rest) in
    record { rest = f.rest; is = ap (with_all []) e ∙ all-append [] (first ++ flat_map refs a) (flat_map refs p.rest) ∙ f.is }

pub readings-front : (first : List ℕ) (refs : ℕ → List ℕ) (k : ℕ) → Front (readings first refs k) (readings first refs (suc k))
readings-front first refs zero = record { rest = readings first refs 1; is = refl }
readings-front first refs (suc k) = read-front first refs (readings first refs k) (readings first refs (suc k)) (readings-front first refs k)

-- nothing new, or as many as there were readings
stuck-step : (first : List ℕ) (refs : ℕ → List ℕ) (k : ℕ) (f : Front (readings first refs k) (readings first refs (suc k))) (rest : List ℕ) → f.rest ≡ rest →
    k ≤ length (readings first refs k) → (readings first refs (suc (suc k)) ≡ readings first refs (suc k)) ⊎ (suc k ≤ length (readings first refs (suc k)))
stuck-step first refs k f [] e h = inl (ap (read_on first refs) (f.is ∙ ap (λ (l : List ℕ). readings first refs k ++ l) e ∙ append-nil _))
stuck-step first refs k f (x ∷ rest) e h = inr (rw (f.is ∙ ap (λ (l : List ℕ). readings first refs k ++ l) e, length-append) (omega arith))

stuck-or-long : (first : List ℕ) (refs : ℕ → List ℕ) (k : ℕ) → (readings first refs (suc k) ≡ readings first refs k) ⊎ (k ≤ length (readings first refs k))
stuck-or-long first refs zero = inr (omega arith)
stuck-or-long first refs (suc k) = elim (stuck-or-long first refs k) [
  | inl e ↦ inl (ap (read_on first refs) e)
  | inr h ↦ stuck-step first refs k (readings-front first refs k) (readings-front first refs k).rest refl h
]

-- each number stands once
first-false : (a b : Bool) → (a || b) ≡ false → a ≡ false
first-false true b h = h
first-false false b h = refl

second-false : (a b : Bool) → (a || b) ≡ false → b ≡ false
second-false true b h = cc
second-false false b h = h

all-end : (a x : ℕ) (xs : List ℕ) → AllByRecursion (λ (y : ℕ). eqb a y ≡ false) xs → eqb a x ≡ false → AllByRecursion (λ (y : ℕ). eqb a y ≡ false) (xs ++ x ∷ [])
all-end a x [] h e = (e, tt)
all-end a x (y ∷ xs) h e = (h.0, all-end a x xs h.1 e)

pub eqb-flip : (a b : ℕ) → eqb a b ≡ eqb b a
eqb-flip a b = grind (arith, nat_tests)

apart-end : (x : ℕ) (xs : List ℕ) → has x xs ≡ false → IsDistinct eqb xs → IsDistinct eqb (xs ++ x ∷ [])
unfolding IsDistinct
apart-end x [] h d = (tt, tt)
apart-end x (a ∷ xs) h d = (all-end a x xs d.0 (eqb-flip a x ∙ first-false (eqb x a) (has x xs) h), apart-end x xs (second-false (eqb x a) (has x xs) h) d.1)

apart-new : (t : Bool) (seen : List ℕ) (x : ℕ) → has x seen ≡ t → IsDistinct eqb seen → IsDistinct eqb (cond t seen (seen ++ x ∷ []))
apart-new true seen x e d = d
apart-new false seen x e d = apart-end x seen e d

pub apart-all : (seen xs : List ℕ) → IsDistinct eqb seen → IsDistinct eqb (with_all seen xs)
apart-all seen [] d = d
apart-all seen (x ∷ xs) d = apart-all (with_new seen x) xs (apart-new (has x seen) seen x refl d)

pub nothing-apart : IsDistinct eqb []
unfolding IsDistinct
nothing-apart = tt

readings-apart : (first : List ℕ) (refs : ℕ → List ℕ) (k : ℕ) → IsDistinct eqb (readings first refs k)
readings-apart first refs zero = nothing-apart
readings-apart first refs (suc k) = apart-all [] (first ++ flat_map refs (readings first refs k)) nothing-apart

or-true : (b : Bool) → (b || true) ≡ true
or-true true = refl
or-true false = refl

or-none : (b : Bool) → b ≡ (b || false)
or-none true = refl
or-none false = refl

has-old : (t : Bool) (y : ℕ) (seen : List ℕ) (x : ℕ) → has x seen ≡ true → eqb y x ≡ t → has y seen ≡ (has y seen || t)
has-old true y seen x e h = (ap (λ (z : ℕ). has z seen) (eqb-true y x h) ∙ e) ∙ sym (or-true (has y seen))
has-old false y seen x e h = or-none (has y seen)

-- what stands in a list with others
has-new : (t : Bool) (y : ℕ) (seen : List ℕ) (x : ℕ) → has x seen ≡ t → has y (cond t seen (seen ++ x ∷ [])) ≡ (has y seen || eqb y x)
has-new true y seen x e = has-old (eqb y x) y seen x e refl
has-new false y seen x e = list_any-append (eqb y) seen (x ∷ []) ∙ ap (λ (b : Bool). has y seen || b) (sym (or-none (eqb y x)))

or-assoc : (a b c : Bool) → ((a || b) || c) ≡ (a || (b || c))
or-assoc true b c = refl
or-assoc false b c = refl

pub has-all : (y : ℕ) (seen xs : List ℕ) → has y (with_all seen xs) ≡ (has y seen || has y xs)
has-all y seen [] = or-none (has y seen)
has-all y seen (x ∷ xs) = has-all y (with_new seen x) xs ∙ ap (λ (b : Bool). b || has y xs) (has-new (has x seen) y seen x refl) ∙ or-assoc (has y seen) (eqb y x) (has y xs)

pub or-cases : (a b : Bool) → (a || b) ≡ true → (a ≡ true) ⊎ (b ≡ true)
or-cases true b h = inl refl
or-cases false b h = inr h

or-left : (a b : Bool) → a ≡ true → (a || b) ≡ true
or-left a b h = rw h refl

or-right : (a b : Bool) → b ≡ true → (a || b) ≡ true
or-right true b h = refl
or-right false b h = h

pub has-flat : (y : ℕ) (refs : ℕ → List ℕ) (found : List ℕ) (t : ℕ) → has t found ≡ true → has y (refs t) ≡ true → has y (flat_map refs found) ≡ true
has-flat y refs [] t h k = cc
has-flat y refs (x ∷ found) t h k = list_any-append (eqb y) (refs x) (flat_map refs found) ∙ elim (or-cases (eqb t x) (has t found) h) [
  | inl e ↦ or-left (has y (refs x)) (has y (flat_map refs found)) (ap (λ (z : ℕ). has y (refs z)) (sym (eqb-true t x e)) ∙ k)
  | inr e ↦ or-right (has y (refs x)) (has y (flat_map refs found)) (has-flat y refs found t e k)
]

flat-below : (n y : ℕ) (refs : ℕ → List ℕ) (found : List ℕ) → ((t : ℕ) → AreBelow n (refs t)) → has y (flat_map refs found) ≡ true → y < n
flat-below n y refs [] b h = absurd cc
flat-below n y refs (x ∷ found) b h =
    let split : (has y (refs x) || has y (flat_map refs found)) ≡ true = sym (list_any-append (eqb y) (refs x) (flat_map refs found)) ∙ h in
    elim (or-cases (has y (refs x)) (has y (flat_map refs found)) split) [
      | inl e ↦ b x y e
      | inr e ↦ flat-below n y refs found b e
    ]

pub readings-below : (first : List ℕ) (refs : ℕ → List ℕ) (n k : ℕ) → AreBelow n first → ((t : ℕ) → AreBelow n (refs t)) → AreBelow n (readings first refs k)
readings-below first refs n zero f r y h = absurd cc
readings-below first refs n (suc k) f r y h =
    let split : (has y first || has y (flat_map refs (readings first refs k))) ≡ true = sym (has-all y [] (first ++ flat_map refs (readings first refs k)) ∙ list_any-append (eqb y) first (flat_map refs (readings first refs k))) ∙ h in
    elim (or-cases (has y first) (has y (flat_map refs (readings first refs k))) split) [
      | inl e ↦ f y e
      | inr e ↦ flat-below n y refs (readings first refs k) r e
    ]

pub few-below : (xs : List ℕ) (n : ℕ) → IsDistinct eqb xs → AreBelow n xs → length xs ≤ n
few-below xs n d b = length-le_from_distinct_below xs n d (λ q h. b q h)

pub few : (first : List ℕ) (refs : ℕ → List ℕ) (n k : ℕ) → AreBelow n first → ((t : ℕ) → AreBelow n (refs t)) → length (readings first refs k) ≤ n
few first refs n k f r = length-le_from_distinct_below (readings first refs k) n (readings-apart first refs k)
    (readings-below first refs n k f r)

no-more : (a : List ℕ) (n : ℕ) (rest : List ℕ) → n ≤ length a → length (a ++ rest) ≤ n → a ++ rest ≡ a
no-more a n [] h k = append-nil a
no-more a n (x ∷ rest) h k = let l : length (a ++ x ∷ rest) ≡ length a + length (x ∷ rest) = length-append a (x ∷ rest) in absurd (omega arith)

-- one reading more finds nothing more
pub readings-end : (first : List ℕ) (refs : ℕ → List ℕ) (n : ℕ) → AreBelow n first → ((t : ℕ) → AreBelow n (refs t)) → readings first refs (suc n) ≡ readings first refs n
readings-end first refs n f r = elim (stuck-or-long first refs n) [
  | inl e ↦ e
  | inr h ↦ let p = readings-front first refs n in p.is ∙ no-more (readings first refs n) n p.rest h (subst (λ (l : List ℕ). length l ≤ n) p.is (few first refs n (suc n) f r))
]

pub closed : (first : List ℕ) (refs : ℕ → List ℕ) (n : ℕ) → AreBelow n first → ((t : ℕ) → AreBelow n (refs t)) → IsClosed first refs (readings first refs n)
closed first refs n f r = record {
  firsts = λ x h. here x (or-left (has x first) (has x (flat_map refs (readings first refs n))) h);
  next = λ t x h k. here x (or-right (has x first) (has x (flat_map refs (readings first refs n))) (has-flat x refs (readings first refs n) t h k));
}
  where
    here : (x : ℕ) → (has x first || has x (flat_map refs (readings first refs n))) ≡ true → has x (readings first refs n) ≡ true
    here x h = ap (has x) (sym (readings-end first refs n f r)) ∙ has-all x [] (first ++ flat_map refs (readings first refs n)) ∙ list_any-append (eqb x) first (flat_map refs (readings first refs n)) ∙ h

-- two lists, each at the front of the other
no-rest : (a : List ℕ) (r : List ℕ) → length (a ++ r) ≤ length a → a ++ r ≡ a
no-rest a [] h = append-nil a
no-rest a (x ∷ r) h = let l : length (a ++ x ∷ r) ≡ length a + length (x ∷ r) = length-append a (x ∷ r) in absurd (omega arith)

front-length : (a b : List ℕ) → Front a b → length a ≤ length b
front-length a b f = let l : length (a ++ f.rest) ≡ length a + length f.rest = length-append a f.rest in let e : length b ≡ length (a ++ f.rest) = ap length f.is in omega arith

front-both : (a b : List ℕ) → Front a b → Front b a → b ≡ a
front-both a b f g = f.is ∙ no-rest a f.rest (subst (λ (l : List ℕ). length l ≤ length a) f.is (front-length b a g))

readings-within : (first : List ℕ) (refs : ℕ → List ℕ) (found : List ℕ) → found ≡ read_on first refs found → (k : ℕ) → Front (readings first refs k) found
readings-within first refs found e zero = record { rest = found; is = refl }
readings-within first refs found e (suc k) = subst (λ (l : List ℕ). Front (readings first refs (suc k)) l) (sym e) (read-front first refs (readings first refs k) found (readings-within first refs found e k))

walk-begins : (first : List ℕ) (refs : ℕ → List ℕ) (n : ℕ) → AreBelow n first → ((t : ℕ) → AreBelow n (refs t)) → IsWalked first refs (readings first refs n) [] (with_all [] first)
walk-begins first refs n f r = record {
  found = ap (with_all []) (sym (append-nil first));
  rest = front.rest;
  ahead = front.is;
  after = with_all [] first;
  places = refl;
}
  where
    front : Front (with_all [] first) (readings first refs n)
    front = subst (λ (l : List ℕ). Front (with_all [] first) l) (readings-end first refs n f r)
        (subst (λ (l : List ℕ). Front l (readings first refs (suc n))) (ap (with_all []) (append-nil first))
        (read-front first refs [] (readings first refs n) (record { rest = readings first refs n; is = refl })))

-- one more entry is read: the walked ones, the entry, and those after it
walk-goes : (first : List ℕ) (refs : ℕ → List ℕ) (n : ℕ) → AreBelow n first → ((t : ℕ) → AreBelow n (refs t)) → (before : List ℕ) (t : ℕ) (after : List ℕ) →
    IsWalked first refs (readings first refs n) before (before ++ t ∷ after) → IsWalked first refs (readings first refs n) (before ++ t ∷ []) (with_all (before ++ t ∷ after) (refs t))
walk-goes first refs n f r before t after w =
    let more = front-all (before ++ t ∷ after) (refs t) in
    let seam : before ++ t ∷ after ≡ (before ++ t ∷ []) ++ after = sym (append_assoc before (t ∷ []) after) in
    let found : with_all (before ++ t ∷ after) (refs t) ≡ read_on first refs (before ++ t ∷ []) =
    ap (λ (l : List ℕ). with_all l (refs t)) w.found ∙ sym (all-append [] (first ++ flat_map refs before) (refs t)) ∙ ap (with_all []) (append_assoc first (flat_map refs before) (refs t)
    ∙ ap (λ (l : List ℕ). first ++ (flat_map refs before ++ l)) (sym (append-nil (refs t))) ∙ ap (λ (l : List ℕ). first ++ l) (sym (flat_map-append refs before (t ∷ [])))) in
    let within : Front (before ++ t ∷ []) (readings first refs n) = record { rest = after ++ w.rest; is = w.ahead ∙ ap (λ (l : List ℕ). l ++ w.rest) seam ∙ append_assoc (before ++ t ∷ []) after w.rest } in
    let front : Front (with_all (before ++ t ∷ after) (refs t)) (readings first refs n) =
    subst (λ (l : List ℕ). Front l (readings first refs n)) (sym found) (subst (λ (l : List ℕ). Front (read_on first refs (before ++ t ∷ [])) l) (readings-end first refs n f r) (read-front first refs (before ++ t ∷ []) (readings first refs n) within)) in
    record { found = found; rest = front.rest; ahead = front.is; after = after ++ more.rest; places = more.is ∙ ap (λ (l : List ℕ). l ++ more.rest) seam ∙ append_assoc (before ++ t ∷ []) after more.rest }

walk-ends : (first : List ℕ) (refs : ℕ → List ℕ) (n : ℕ) (found : List ℕ) → IsWalked first refs (readings first refs n) found found → found ≡ readings first refs n
walk-ends first refs n found w = front-both (readings first refs n) found (readings-within first refs found w.found n) (record { rest = w.rest; is = w.ahead })

pub walks : (first : List ℕ) (refs : ℕ → List ℕ) (n : ℕ) → AreBelow n first → ((t : ℕ) → AreBelow n (refs t)) → Walks first refs (readings first refs n)
walks first refs n f r = record { begins = walk-begins first refs n f r; goes = walk-goes first refs n f r; ends = walk-ends first refs n }
