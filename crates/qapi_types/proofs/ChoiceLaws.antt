-- Names along choices of branches, by what types lead to.
use Rattle.std.proofs.Common.{◌≡◌, ◌<◌, ◌≤◌, ◌+◌, ◌||◌, ◌⊎◌, ℕ, zero, suc, Bool, true, false, cond, List, [], ◌∷◌, ◌++◌, length, Option, Some, None, is_some, refl, sym, ap, subst, inl, inr, arith, append_assoc, bytes_eq}
use Rattle.std.proofs.lemmas.{List.append-nil, Slice.Eq.bytes_eq-Decides}
use Rattle.qapi_types.specs.Chains.{Refers, Leads, by_one, and_one, IsInside}
use Rattle.qapi_types.specs.Choices.{times, Table, names_of, Along, stays, takes, ClashesAfter, AreApart, stands, again, shares, IsFaulty, IsTable, AllApart}
use Rattle.qapi_types.proofs.ChainLaws.{row-holds}

same : (a b : List ℕ) → bytes_eq a b ≡ true → a ≡ b
same a b h = (bytes_eq-Decides a b).0 h

pub itself : (a : List ℕ) → bytes_eq a a ≡ true
itself a = (bytes_eq-Decides a a).1 refl

count : Bool → ℕ → ℕ
count b n = cond b 1 0 + n

pub times-append : (x : List ℕ) (xs ys : List (List ℕ)) → times x (xs ++ ys) ≡ times x xs + times x ys
times-append x [] ys = omega arith
times-append x (z ∷ xs) ys = let h : times x (xs ++ ys) ≡ times x xs + times x ys = times-append x xs ys in omega (arith, h)

pub times-stands : (x : List ℕ) (xs : List (List ℕ)) → stands x xs ≡ true → 1 ≤ times x xs
times-stands x [] h = cc
times-stands x (y ∷ ys) h = by_case (times-stands x ys) (bytes_eq x y) h
  where
    by_case : (stands x ys ≡ true → 1 ≤ times x ys) → (b : Bool) → (b || stands x ys) ≡ true → 1 ≤ cond b 1 0 + times x ys
    by_case go true h = omega arith
    by_case go false h = let k : 1 ≤ times x ys = go h in omega (arith, k)

pub stands-times : (x : List ℕ) (xs : List (List ℕ)) → 1 ≤ times x xs → stands x xs ≡ true
stands-times x [] h = absurd (omega arith)
stands-times x (y ∷ ys) h = by_case (stands-times x ys) (bytes_eq x y) h
  where
    by_case : (1 ≤ times x ys → stands x ys ≡ true) → (b : Bool) → 1 ≤ cond b 1 0 + times x ys → (b || stands x ys) ≡ true
    by_case go true h = refl
    by_case go false h = go (omega arith)

pub not_standing : (x : List ℕ) (xs : List (List ℕ)) → stands x xs ≡ false → times x xs ≤ 0
not_standing x [] h = omega arith
not_standing x (y ∷ ys) h = by_case (not_standing x ys) (bytes_eq x y) h
  where
    by_case : (stands x ys ≡ false → times x ys ≤ 0) → (b : Bool) → (b || stands x ys) ≡ false → cond b 1 0 + times x ys ≤ 0
    by_case go true h = cc
    by_case go false h = let k : times x ys ≤ 0 = go h in omega (arith, k)

-- a name of both lists
abbrev Both : List (List ℕ) → List (List ℕ) → Type 0
Both xs ys = (x : List ℕ) × (1 ≤ times x xs) × (1 ≤ times x ys)

pub both : (xs ys : List (List ℕ)) → shares xs ys ≡ true → Both xs ys
both [] ys h = cc
both (x ∷ xs) ys h = by_case (both xs ys) (stands x ys) refl h
  where
    by_case : (shares xs ys ≡ true → Both xs ys) → (b : Bool) → stands x ys ≡ b → (b || shares xs ys) ≡ true → Both (x ∷ xs) ys
    by_case go true e h = (x, times-stands x (x ∷ xs) (ap (λ (c : Bool). c || stands x xs) (itself x)), times-stands x ys e)
    by_case go false e h = let k : Both xs ys = go h in (k.0, omega (arith, k.1), k.2)

pub shares-both : (x : List ℕ) (xs ys : List (List ℕ)) → 1 ≤ times x xs → 1 ≤ times x ys → shares xs ys ≡ true
shares-both x [] ys h k = absurd (omega arith)
shares-both x (y ∷ xs) ys h k = by_case (λ (l : 1 ≤ times x xs). shares-both x xs ys l k) (bytes_eq x y) refl h
  where
    left : (a b : Bool) → a ≡ true → (a || b) ≡ true
    left true b h = refl
    left false b h = cc

    right : (a b : Bool) → b ≡ true → (a || b) ≡ true
    right true b h = refl
    right false b h = h

    by_case : (1 ≤ times x xs → shares xs ys ≡ true) → (b : Bool) → bytes_eq x y ≡ b → 1 ≤ cond b 1 0 + times x xs → (stands y ys || shares xs ys) ≡ true
    by_case go true e h = left (stands y ys) (shares xs ys) (stands-times y ys (subst (λ (z : List ℕ). 1 ≤ times z ys) (same x y e) k))
    by_case go false e h = right (stands y ys) (shares xs ys) (go (omega arith))

-- one more name that is not there
pub one-more : (seen : List (List ℕ)) (x : List ℕ) → AreApart seen → stands x seen ≡ false → AreApart (seen ++ x ∷ [])
one-more seen x a h y = by_case (bytes_eq y x) refl (times-append y seen (x ∷ []))
  where
    by_case : (b : Bool) → bytes_eq y x ≡ b → times y (seen ++ x ∷ []) ≡ times y seen + (cond b 1 0 + 0) → times y (seen ++ x ∷ []) ≤ 1
    by_case true e t = let k : times y seen ≤ 0 = subst (λ (z : List ℕ). times z seen ≤ 0) (sym (same y x e)) (not_standing x seen h) in omega (arith, k, t)
    by_case false e t = let k : times y seen ≤ 1 = a y in omega (arith, k, t)

pub again-none : (seen ns : List (List ℕ)) → AreApart seen → again seen ns ≡ None → AreApart (seen ++ ns)
again-none seen [] a h y = subst (λ (l : List (List ℕ)). times y l ≤ 1) (sym (append-nil seen)) (a y)
again-none seen (x ∷ ns) a h y = by_case (λ b k. again-none (seen ++ x ∷ []) ns b k y) (stands x seen) refl h
  where
    by_case : (AreApart (seen ++ x ∷ []) → again (seen ++ x ∷ []) ns ≡ None → times y ((seen ++ x ∷ []) ++ ns) ≤ 1) → (b : Bool) → stands x seen ≡ b → cond b (Some x) (again (seen ++ x ∷ []) ns) ≡ None → times y (seen ++ x ∷ ns) ≤ 1
    by_case go true e h = cc
    by_case go false e h = subst (λ (l : List (List ℕ)). times y l ≤ 1) (append_assoc seen (x ∷ []) ns) (go (one-more seen x a e) h)

pub again-some : (seen ns : List (List ℕ)) (x : List ℕ) → again seen ns ≡ Some x → 2 ≤ times x (seen ++ ns)
again-some seen [] x h = cc
again-some seen (z ∷ ns) x h = by_case (again-some (seen ++ z ∷ []) ns x) (stands z seen) refl h
  where
    by_case : (again (seen ++ z ∷ []) ns ≡ Some x → 2 ≤ times x ((seen ++ z ∷ []) ++ ns)) → (b : Bool) → stands z seen ≡ b → cond b (Some z) (again (seen ++ z ∷ []) ns) ≡ Some x → 2 ≤ times x (seen ++ z ∷ ns)
    by_case go true e h =
        let s : z ≡ x = cc in
        let k : 1 ≤ times z seen = times-stands z seen e in
        let l : 1 ≤ times z (z ∷ ns) = times-stands z (z ∷ ns) (ap (λ (c : Bool). c || stands z ns) (itself z)) in
        subst (λ (y : List ℕ). 2 ≤ times y (seen ++ z ∷ ns)) s (omega (arith, k, l, times-append z seen (z ∷ ns)))
    by_case go false e h = subst (λ (l : List (List ℕ)). 2 ≤ times x l) (append_assoc seen (z ∷ []) ns) (go h)

pub twice-again : (ns : List (List ℕ)) (x : List ℕ) → 2 ≤ times x ns → is_some (again [] ns) ≡ true
twice-again ns x h = by_case (again [] ns) refl
  where
    by_case : (o : Option (List ℕ)) → again [] ns ≡ o → is_some o ≡ true
    by_case None e = (let k : times x ns ≤ 1 = again-none [] ns (λ y. omega arith) e x in absurd (omega (arith, h, k)))
    by_case (Some y) e = refl

pub leads-first : (g : List (List ℕ)) (a b c : ℕ) → Refers g a b → Leads g b c → Leads g a c
leads-first g a b c r (by_one s) = and_one (by_one r) s
leads-first g a b c r (and_one l s) = and_one (leads-first g a b _ r l) s

-- what is along a type that a type leads to is along that type, after its own names
pub record Within (t : Table) (a : ℕ) (ms : List (List ℕ)) : Type 0 where
  pub rest : List (List ℕ)
  pub along : Along t a (names_of t.names a ++ rest)
  pub holds : (y : List ℕ) → times y ms ≤ times y rest

pub within : (t : Table) (a b : ℕ) (ms : List (List ℕ)) → Leads t.branches a b → Along t b ms → Within t a ms
within t a b ms (by_one r) m = record { rest = ms; along = takes r m; holds = λ y. omega arith }
within t a b ms (and_one {b = c} l r) m =
    let w : Within t a (names_of t.names c ++ ms) = within t a c (names_of t.names c ++ ms) l (takes r m) in
    record { rest = w.rest; along = w.along; holds = λ y. omega (arith, w.holds y, times-append y (names_of t.names c) ms) }

abbrev Held : Table → ℕ → List ℕ → Type 0
Held t a x = (1 ≤ times x (names_of t.names a)) ⊎ ((b : ℕ) × Leads t.branches a b × (1 ≤ times x (names_of t.names b)))

held-below : (t : Table) (a b : ℕ) (x : List ℕ) → Refers t.branches a b → Held t b x → (c : ℕ) × Leads t.branches a c × (1 ≤ times x (names_of t.names c))
held-below t a b x r (inl h) = (b, by_one r, h)
held-below t a b x r (inr k) = (k.0, leads-first t.branches a b k.0 r k.1, k.2)

one-of : (m n : ℕ) → 1 ≤ m + n → (1 ≤ m) ⊎ (1 ≤ n)
one-of zero n h = inr (omega arith)
one-of (suc m) n h = inl (omega arith)

pub held : (t : Table) (a : ℕ) (ns : List (List ℕ)) (x : List ℕ) → Along t a ns → 1 ≤ times x ns → Held t a x
held t a ns x (stays b) h = inl h
held t a ns x (takes {b = b} {ns = ms} r m) h = elim (one-of (times x (names_of t.names a)) (times x ms) (omega (arith, h, times-append x (names_of t.names a) ms))) [ inl k ↦ inl k | inr k ↦ inr (held-below t a b x r (held t b ms x m k)) ]

abbrev FaultyFrom : Table → ℕ → Type 0
FaultyFrom t a = IsFaulty t a ⊎ ((b : ℕ) × Leads t.branches a b × IsFaulty t b)

faulty-below : (t : Table) (a b : ℕ) → Refers t.branches a b → FaultyFrom t b → FaultyFrom t a
faulty-below t a b r (inl f) = inr (b, by_one r, f)
faulty-below t a b r (inr k) = inr (k.0, leads-first t.branches a b k.0 r k.1, k.2)

data Two (m n : ℕ) : Type 0 where
  first : 2 ≤ m → Two m n
  second : 2 ≤ n → Two m n
  each : 1 ≤ m → 1 ≤ n → Two m n

two-of : (m n : ℕ) → 2 ≤ m + n → Two m n
two-of zero n h = second (omega arith)
two-of (suc zero) n h = each (omega arith) (omega arith)
two-of (suc (suc m)) n h = first (omega arith)

pub faulty : (t : Table) (a : ℕ) (ns : List (List ℕ)) (x : List ℕ) → Along t a ns → 2 ≤ times x ns → FaultyFrom t a
faulty t a ns x (stays b) h = inl (inl (twice-again _ x h))
faulty t a ns x (takes {b = b} {ns = ms} r m) h = by_two (faulty t b ms x m) (two-of (times x (names_of t.names a)) (times x ms) (omega (arith, h, times-append x (names_of t.names a) ms)))
  where
    by_two : (2 ≤ times x ms → FaultyFrom t b) → Two (times x (names_of t.names a)) (times x ms) → FaultyFrom t a
    by_two go (first k) = inl (inl (twice-again _ x k))
    by_two go (second k) = faulty-below t a b r (go k)
    by_two go (each k l) = let c = held-below t a b x r (held t b ms x m l) in inl (inr (c.0, c.1, shares-both x _ _ k c.2))

clash-faulty : (t : Table) (seen : List (List ℕ)) (a : ℕ) → IsFaulty t a → ClashesAfter t seen a
clash-faulty t seen a (inl h) = by_case (again [] (names_of t.names a)) refl h
  where
    by_case : (o : Option (List ℕ)) → again [] (names_of t.names a) ≡ o → is_some o ≡ true → ClashesAfter t seen a
    by_case None e h = cc
    by_case (Some x) e h = record { names = names_of t.names a; name = x; along = stays a; twice = (let k : 2 ≤ times x (names_of t.names a) = again-some [] (names_of t.names a) x e in omega (arith, k, times-append x seen (names_of t.names a))) }
clash-faulty t seen a (inr k) =
    let w : Within t a (names_of t.names k.0) = within t a k.0 _ k.1 (stays k.0) in
    let x : Both (names_of t.names a) (names_of t.names k.0) = both _ _ k.2 in
    record { names = names_of t.names a ++ w.rest; name = x.0; along = w.along; twice = omega (arith, w.holds x.0, x.1, x.2, times-append x.0 (names_of t.names a) w.rest, times-append x.0 seen (names_of t.names a ++ w.rest)) }

-- no name stands twice anywhere exactly where no type is faulty
pub apart_none : (t : Table) → ((a : ℕ) → a < length t.names → IsFaulty t a → ⊥) → ((a b : ℕ) → a < length t.names → Leads t.branches a b → b < length t.names) → (a : ℕ) → a < length t.names → (ns : List (List ℕ)) → Along t a ns → AreApart ns
apart_none t none inside a l ns m x = at_most (times x ns) (λ h. elim (faulty t a ns x m h) [ inl f ↦ none a l f | inr f ↦ none f.0 (inside a f.0 l f.1) f.2 ])
  where
    at_most : (n : ℕ) → (2 ≤ n → ⊥) → n ≤ 1
    at_most zero h = omega arith
    at_most (suc zero) h = omega arith
    at_most (suc (suc n)) h = absurd (h (omega arith))

pub apart_not : (t : Table) (a : ℕ) → a < length t.names → IsFaulty t a → AllApart t → ⊥
apart_not t a l f all = let c : ClashesAfter t [] a = clash-faulty t [] a f in absurd (omega (arith, c.twice, all a l c.names c.along c.name))

pub leads-inside : (g : List (List ℕ)) (a b : ℕ) → IsInside g → Leads g a b → b < length g
leads-inside g a b i (by_one r) = row-holds g a b i r
leads-inside g a b i (and_one {b = c} l r) = row-holds g c b i r

pub apart_all : (t : Table) (n : ℕ) → IsTable t → length t.names ≤ n → ((a : ℕ) → a < n → IsFaulty t a → ⊥) → AllApart t
apart_all t n ok l none = apart_none t (λ a h. none a (omega arith)) (λ a b h k. (let v : b < length t.branches = leads-inside t.branches a b ok.inside k in let o : length t.names ≡ length t.branches = ok.long in omega (arith, v, o)))
