-- Where the first stands that passes, and what stands in a list by a test.
use Rattle.std.proofs.Common.{◌≡◌, ℕ, zero, suc, ◌<◌, Bool, true, false, cond, ◌||◌, List, [], ◌∷◌, length, refl, ap, sym, ◌∙◌, subst, inl, inr, arith}
use Rattle.std.specs.Prelude.{filter}
use Rattle.std.specs.List.{slice_index_or}
use Rattle.std.specs.Str.{bytes_eq}
use Rattle.std.proofs.lemmas.Bool.{eqb-true, eq-eqb}
use Rattle.std.proofs.lemmas.Slice.Eq.{bytes_eq-Decides}
use Rattle.std.proofs.Math.Dec.{eqb}
use Rattle.qapi_types.specs.Chains.{has}
use Rattle.qm_admit.specs.Fitting.{Among}
use Rattle.qapi_mask.specs.Naming.{place_of}
use Rattle.qapi_mask.proofs.OrderLaws.{or-cases, eqb-flip}

below-at : {X : Type 0} (t : Bool) (test : X → Bool) (x : X) (xs : List X) → place_of test xs < length xs → cond t zero (suc (place_of test xs)) < suc (length xs)
below-at true test x xs h = omega arith
below-at false test x xs h = omega arith

below-here : {X : Type 0} (test : X → Bool) (x : X) (xs : List X) → test x ≡ true → place_of test (x ∷ xs) < length (x ∷ xs)
below-here test x xs h = rw h (omega arith)

pub place-below : {X : Type 0} (test : X → Bool) (d : X) (xs : List X) (i : ℕ) → i < length xs → test (slice_index_or xs i d) ≡ true → place_of test xs < length xs
place-below test d [] i l h = absurd (omega arith)
place-below test d (x ∷ xs) zero l h = below-here test x xs h
place-below test d (x ∷ xs) (suc i) l h = below-at (test x) test x xs (place-below test d xs i (omega arith) h)

passes-at : {X : Type 0} (t : Bool) (test : X → Bool) (d x : X) (xs : List X) → test x ≡ t → (place_of test xs < length xs → test (slice_index_or xs (place_of test xs) d) ≡ true) →
    cond t zero (suc (place_of test xs)) < suc (length xs) → test (slice_index_or (x ∷ xs) (cond t zero (suc (place_of test xs))) d) ≡ true
passes-at true test d x xs e h l = e
passes-at false test d x xs e h l = h (omega arith)

pub place-passes : {X : Type 0} (test : X → Bool) (d : X) (xs : List X) → place_of test xs < length xs → test (slice_index_or xs (place_of test xs) d) ≡ true
place-passes test d [] l = absurd (omega arith)
place-passes test d (x ∷ xs) l = passes-at (test x) test d x xs refl (place-passes test d xs) l

pub has-below : (u : ℕ) (xs : List ℕ) → has u xs ≡ true → place_of (λ y. eqb y u) xs < length xs
has-below u [] h = absurd cc
has-below u (x ∷ xs) h = elim (or-cases (eqb u x) (has u xs) h) [
  | inl e ↦ below-here (λ y. eqb y u) x xs (eqb-flip x u ∙ e)
  | inr e ↦ below-at (eqb x u) (λ y. eqb y u) x xs (has-below u xs e)
]

-- two numbers of a list whose places are one
pub place-injective : (u t : ℕ) (xs : List ℕ) → has u xs ≡ true → has t xs ≡ true → place_of (λ y. eqb y u) xs ≡ place_of (λ y. eqb y t) xs → u ≡ t
place-injective u t xs hu ht e =
    let pu : slice_index_or xs (place_of (λ y. eqb y u) xs) 0 ≡ u = eqb-true _ u (place-passes (λ y. eqb y u) 0 xs (has-below u xs hu)) in
    let pt : slice_index_or xs (place_of (λ y. eqb y t) xs) 0 ≡ t = eqb-true _ t (place-passes (λ y. eqb y t) 0 xs (has-below t xs ht)) in
    sym pu ∙ ap (λ (k : ℕ). slice_index_or xs k 0) e ∙ pt

pub among-has : (x : ℕ) (xs : List ℕ) → has x xs ≡ true → Among x xs
among-has x [] h = absurd cc
among-has x (y ∷ xs) h = elim (or-cases (eqb x y) (has x xs) h) [
  | inl e ↦ inl (sym (eqb-true x y e))
  | inr e ↦ inr (among-has x xs e)
]

or-second : (a : Bool) → (a || true) ≡ true
or-second true = refl
or-second false = refl

pub has-among : (x : ℕ) (xs : List ℕ) → Among x xs → has x xs ≡ true
has-among x [] h = absurd h
has-among x (y ∷ xs) (inl e) = rw (eq-eqb x y (sym e)) refl
has-among x (y ∷ xs) (inr h) = rw (has-among x xs h) (or-second (eqb x y))

keep-here : (t : Bool) (test : ℕ → Bool) (y : ℕ) (xs : List ℕ) → t ≡ true → Among y (cond t (y ∷ filter test xs) (filter test xs))
keep-here true test y xs h = inl refl
keep-here false test y xs h = absurd cc

keep-later : (t : Bool) (x y : ℕ) (ys : List ℕ) → Among x ys → Among x (cond t (y ∷ ys) ys)
keep-later true x y ys h = inr h
keep-later false x y ys h = h

pub among-filter : (test : ℕ → Bool) (x : ℕ) (xs : List ℕ) → Among x xs → test x ≡ true → Among x (filter test xs)
among-filter test x [] h p = absurd h
among-filter test x (y ∷ xs) (inl e) p = subst (λ (z : ℕ). Among z (filter test (y ∷ xs))) e (keep-here (test y) test y xs (ap test e ∙ p))
among-filter test x (y ∷ xs) (inr h) p = keep-later (test y) x y (filter test xs) (among-filter test x xs h p)

unkeep : (t : Bool) (x y : ℕ) (ys zs : List ℕ) → (Among x ys → Among x zs) → Among x (cond t (y ∷ ys) ys) → Among x (y ∷ zs)
unkeep true x y ys zs f (inl e) = inl e
unkeep true x y ys zs f (inr h) = inr (f h)
unkeep false x y ys zs f h = inr (f h)

pub filter-among : (test : ℕ → Bool) (x : ℕ) (xs : List ℕ) → Among x (filter test xs) → Among x xs
filter-among test x [] h = h
filter-among test x (y ∷ xs) h = unkeep (test y) x y (filter test xs) xs (filter-among test x xs) h

pub bytes-same : (xs : List ℕ) → bytes_eq xs xs ≡ true
bytes-same xs = (bytes_eq-Decides xs xs).1 refl
