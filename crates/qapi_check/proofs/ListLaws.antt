-- What stands in a list, and what is found in it.
use Rattle.std.proofs.Common.{◌≡◌, ◌<◌, ◌≤◌, ◌+◌, ◌||◌, ◌⊎◌, ℕ, zero, suc, Bool, true, false, cond, List, [], ◌∷◌, ◌++◌, length, map, get_or, Option, Some, None, slice_get, position, refl, sym, ap, ◌∙◌, subst, inl, inr, arith, All}
use Rattle.std.specs.{List.AllByRecursion, List.enumerate_from, List.filter, List.flat_map, List.list_any, List.position_from, Option.option_or}
use Rattle.std.proofs.lemmas.{Iterator.Adapters.position_from-zero, Option.none-some}
use Rattle.qapi_define.specs.Saying.{first_some}
use Rattle.qapi_rules.specs.Blames.{over}

-- the thing stands in the list
abbrev pub In : {A : Type 0} → A → List A → Type 0
In x [] = ⊥
In x (y ∷ ys) = (x ≡ y) ⊎ In x ys

pub in-left : {A : Type 0} (x : A) (xs ys : List A) → In x xs → In x (xs ++ ys)
in-left x [] ys h = absurd h
in-left x (y ∷ xs) ys h = elim h [ inl e ↦ inl e | inr k ↦ inr (in-left x xs ys k) ]

pub in-right : {A : Type 0} (x : A) (xs ys : List A) → In x ys → In x (xs ++ ys)
in-right x [] ys h = h
in-right x (y ∷ xs) ys h = inr (in-right x xs ys h)

pub in-either : {A : Type 0} (x : A) (xs ys : List A) → In x (xs ++ ys) → In x xs ⊎ In x ys
in-either x [] ys h = inr h
in-either x (y ∷ xs) ys (inl e) = inl (inl e)
in-either x (y ∷ xs) ys (inr h) = elim (in-either x xs ys h) [ inl k ↦ inl (inr k) | inr k ↦ inr k ]

pub in-map : {A B : Type 0} (f : A → B) (x : A) (xs : List A) → In x xs → In (f x) (map f xs)
in-map f x [] h = absurd h
in-map f x (y ∷ xs) (inl e) = inl (ap f e)
in-map f x (y ∷ xs) (inr h) = inr (in-map f x xs h)

-- what a thing of the list was made of
pub map-in : {A B : Type 0} (f : A → B) (y : B) (xs : List A) → In y (map f xs) → (x : A) × In x xs × (y ≡ f x)
map-in f y [] h = absurd h
map-in f y (x ∷ xs) (inl e) = (x, inl refl, e)
map-in f y (x ∷ xs) (inr h) = let k : (x : _) × In x xs × (y ≡ f x) = map-in f y xs h in (k.0, inr k.1, k.2)

pub in-flat_map : {A B : Type 0} (f : A → List B) (x : A) (y : B) (xs : List A) → In x xs → In y (f x) → In y (flat_map f xs)
in-flat_map f x y [] h k = absurd h
in-flat_map f x y (z ∷ xs) (inl e) k = in-left y (f z) (flat_map f xs) (subst (λ w. In y (f w)) e k)
in-flat_map f x y (z ∷ xs) (inr h) k = in-right y (f z) (flat_map f xs) (in-flat_map f x y xs h k)

pub flat_map-in : {A B : Type 0} (f : A → List B) (y : B) (xs : List A) → In y (flat_map f xs) → (x : A) × In x xs × In y (f x)
flat_map-in f y [] h = absurd h
flat_map-in {A} f y (x ∷ xs) h = elim (in-either y (f x) (flat_map f xs) h) [
  | inl k ↦ (x, inl refl, k)
  | inr k ↦ (let r : (x : A) × In x xs × In y (f x) = flat_map-in f y xs k in (r.0, inr r.1, r.2))
]

pub in-filter : {A : Type 0} (test : A → Bool) (x : A) (xs : List A) → In x xs → test x ≡ true → In x (filter test xs)
in-filter test x [] h t = absurd h
in-filter test x (y ∷ xs) h t = by_case (in-filter test x xs) (test y) refl h
  where
    by_case : (In x xs → test x ≡ true → In x (filter test xs)) → (b : Bool) → test y ≡ b → In x (y ∷ xs) → In x (cond b (y ∷ filter test xs) (filter test xs))
    by_case go true e (inl k) = inl k
    by_case go true e (inr k) = inr (go k t)
    by_case go false e (inl k) = (let s : test x ≡ false = ap test k ∙ e in cc)
    by_case go false e (inr k) = go k t

pub filter-in : {A : Type 0} (test : A → Bool) (x : A) (xs : List A) → In x (filter test xs) → In x xs × (test x ≡ true)
filter-in test x [] h = absurd h
filter-in test x (y ∷ xs) h = by_case (filter-in test x xs) (test y) refl h
  where
    by_case : (In x (filter test xs) → In x xs × (test x ≡ true)) → (b : Bool) → test y ≡ b → In x (cond b (y ∷ filter test xs) (filter test xs)) → In x (y ∷ xs) × (test x ≡ true)
    by_case go true e (inl k) = (inl k, ap test k ∙ e)
    by_case go true e (inr k) = (let r : In x xs × (test x ≡ true) = go k in (inr r.0, r.1))
    by_case go false e k = (let r : In x xs × (test x ≡ true) = go k in (inr r.0, r.1))

pub in-at : {A : Type 0} (x : A) (xs : List A) → In x xs → (k : ℕ) × (slice_get xs k ≡ Some x)
in-at x [] h = absurd h
in-at x (y ∷ xs) (inl e) = (zero, ap (λ z. Some z) (sym e))
in-at x (y ∷ xs) (inr h) = let r : (k : ℕ) × (slice_get xs k ≡ Some x) = in-at x xs h in (suc r.0, r.1)

pub at-in : {A : Type 0} (x : A) (xs : List A) (k : ℕ) → slice_get xs k ≡ Some x → In x xs
at-in x [] k h = absurd (none-some x h)
at-in x (y ∷ xs) zero h = inl (cc)
at-in x (y ∷ xs) (suc k) h = inr (at-in x xs k h)

pub in-get_or : {A : Type 0} (xs : List A) (k : ℕ) (d : A) → k < length xs → In (get_or xs k d) xs
in-get_or [] k d l = absurd (omega arith)
in-get_or (x ∷ xs) zero d l = inl refl
in-get_or (x ∷ xs) (suc k) d l = inr (in-get_or xs k d (omega arith))

-- where nothing stands the list has ended
pub past-none : {A : Type 0} (xs : List A) (i : ℕ) → slice_get xs i ≡ None → length xs ≤ i
past-none [] i h = omega arith
past-none (x ∷ xs) zero h = cc
past-none (x ∷ xs) (suc i) h = let r : length xs ≤ i = past-none xs i h in omega (arith, r)

pub all-in : {A : Type 0} (P : A → Type 0) (xs : List A) → ((x : A) → In x xs → P x) → All P xs
all-in P xs h = λ k d l. h (get_or xs k d) (in-get_or xs k d l)

pub by-recursion : {A : Type 0} (P : A → Type 0) (x : A) (xs : List A) → AllByRecursion P xs → In x xs → P x
by-recursion P x [] a h = absurd h
by-recursion P x (y ∷ xs) a (inl e) = subst P (sym e) a.0
by-recursion P x (y ∷ xs) a (inr h) = by-recursion P x xs a.1 h

pub weaker-recursion : {A : Type 0} (P Q : A → Type 0) → ((x : A) → P x → Q x) → (xs : List A) → AllByRecursion P xs → AllByRecursion Q xs
weaker-recursion P Q f [] a = tt
weaker-recursion P Q f (x ∷ xs) a = (f x a.0, weaker-recursion P Q f xs a.1)

-- a thing beside its place
pub enumerated-in : {A : Type 0} (e : ℕ × A) (n : ℕ) (xs : List A) → In e (enumerate_from n xs) → (k : ℕ) × (e.0 ≡ n + k) × (slice_get xs k ≡ Some e.1)
enumerated-in e n [] h = absurd h
enumerated-in {A} e n (x ∷ xs) (inl q) = (zero, (let k : e.0 ≡ n = ap (λ (p : ℕ × A). p.0) q in omega (arith, k)), ap (λ (p : ℕ × A). Some p.1) (sym q))
enumerated-in {A} e n (x ∷ xs) (inr h) = let r : (k : ℕ) × (e.0 ≡ n + 1 + k) × (slice_get xs k ≡ Some e.1) = enumerated-in e (n + 1) xs h in (suc r.0, (let q : e.0 ≡ n + 1 + r.0 = r.1 in omega (arith, q)), r.2)

pub in-enumerated : {A : Type 0} (x : A) (n : ℕ) (xs : List A) → In x xs → (k : ℕ) × In (k, x) (enumerate_from n xs)
in-enumerated x n [] h = absurd h
in-enumerated {A} x n (y ∷ xs) (inl e) = (n, inl (ap {A = A} {B = ℕ × A} (λ z. (n, z)) e))
in-enumerated {A} x n (y ∷ xs) (inr h) = let r : (k : ℕ) × In (k, x) (enumerate_from (n + 1) xs) = in-enumerated x (n + 1) xs h in (r.0, inr r.1)

-- answers that are lacking

pub or-none : {A : Type 0} (o p : Option A) → option_or o p ≡ None → (o ≡ None) × (p ≡ None)
or-none None p h = (refl, h)
or-none (Some x) p h = cc

pub first_some-none : {A B : Type 0} (rule : A → Option B) (x : A) (xs : List A) → first_some rule xs ≡ None → In x xs → rule x ≡ None
first_some-none rule x [] n h = absurd h
first_some-none rule x (y ∷ xs) n (inl e) = ap rule e ∙ (or-none (rule y) (first_some rule xs) n).0
first_some-none rule x (y ∷ xs) n (inr h) = first_some-none rule x xs (or-none (rule y) (first_some rule xs) n).1 h

pub first_some-some : {A B : Type 0} (rule : A → Option B) (y : B) (xs : List A) → first_some rule xs ≡ Some y → (x : A) × In x xs × (rule x ≡ Some y)
first_some-some rule y [] h = absurd (none-some y h)
first_some-some {A} rule y (x ∷ xs) h = by_case (first_some-some rule y xs) (rule x) refl h
  where
    by_case : (first_some rule xs ≡ Some y → (x : A) × In x xs × (rule x ≡ Some y)) → (o : Option _) → rule x ≡ o → option_or o (first_some rule xs) ≡ Some y → (z : A) × In z (x ∷ xs) × (rule z ≡ Some y)
    by_case go None e k = let r : (x : A) × In x xs × (rule x ≡ Some y) = go k in (r.0, inr r.1, r.2)
    by_case go (Some z) e k = (x, inl refl, e ∙ k)

pub over-none : {A D : Type 0} (rule : List D → D → Option A) (before xs : List D) (x : D) → over rule before xs ≡ None → In x xs → (b : List D) × (rule b x ≡ None)
over-none rule before [] x n h = absurd h
over-none rule before (y ∷ xs) x n (inl e) = (before, ap (rule before) e ∙ (or-none (rule before y) (over rule (before ++ y ∷ []) xs) n).0)
over-none rule before (y ∷ xs) x n (inr h) = over-none rule (before ++ y ∷ []) xs x (or-none (rule before y) (over rule (before ++ y ∷ []) xs) n).1 h

-- places

pub any-in : {A : Type 0} (test : A → Bool) (x : A) (xs : List A) → In x xs → test x ≡ true → list_any test xs ≡ true
any-in test x [] h t = absurd h
any-in test x (y ∷ xs) (inl e) t = ap (λ b. b || list_any test xs) (sym (ap test e) ∙ t)
any-in test x (y ∷ xs) (inr h) t = later (test y) (list_any test xs) (any-in test x xs h t)
  where
    later : (a b : Bool) → b ≡ true → (a || b) ≡ true
    later true b k = refl
    later false b k = k

pub found-from : {A : Type 0} (test : A → Bool) (n : ℕ) (xs : List A) → list_any test xs ≡ true → (k : ℕ) × (position_from test n xs ≡ Some k)
found-from test n [] h = cc
found-from test n (x ∷ xs) h = by_case (found-from test (n + 1) xs) (test x) h
  where
    by_case : (list_any test xs ≡ true → (k : ℕ) × (position_from test (n + 1) xs ≡ Some k)) → (b : Bool) → (b || list_any test xs) ≡ true → (k : ℕ) × (cond b (Some n) (position_from test (n + 1) xs) ≡ Some k)
    by_case go true h = (n, refl)
    by_case go false h = go h

pub found : {A : Type 0} (test : A → Bool) (xs : List A) → list_any test xs ≡ true → (k : ℕ) × (position test xs ≡ Some k)
found test xs h = let r : (k : ℕ) × (position_from test 0 xs ≡ Some k) = found-from test 0 xs h in (r.0, position_from-zero test xs ∙ r.1)

at-from : {A : Type 0} (test : A → Bool) (n k : ℕ) (xs : List A) → position_from test n xs ≡ Some k → (x : A) × (i : ℕ) × (k ≡ n + i) × (slice_get xs i ≡ Some x) × (test x ≡ true)
at-from test n k [] h = absurd (none-some k h)
at-from {A} test n k (x ∷ xs) h = by_case (at-from test (n + 1) k xs) (test x) refl h
  where
    by_case : (position_from test (n + 1) xs ≡ Some k → (x : A) × (i : ℕ) × (k ≡ n + 1 + i) × (slice_get xs i ≡ Some x) × (test x ≡ true)) → (b : Bool) → test x ≡ b → cond b (Some n) (position_from test (n + 1) xs) ≡ Some k →
        (y : A) × (i : ℕ) × (k ≡ n + i) × (slice_get (x ∷ xs) i ≡ Some y) × (test y ≡ true)
    by_case go true e q = (x, zero, (let s : n ≡ k = cc in omega (arith, s)), refl, e)
    by_case go false e q = let r : (x : A) × (i : ℕ) × (k ≡ n + 1 + i) × (slice_get xs i ≡ Some x) × (test x ≡ true) = go q in (r.0, suc r.1, (let s : k ≡ n + 1 + r.1 = r.2 in omega (arith, s)), r.3, r.4)

-- what stands at the place that is found
pub at-found : {A : Type 0} (test : A → Bool) (k : ℕ) (xs : List A) → position test xs ≡ Some k → (x : A) × (slice_get xs k ≡ Some x) × (test x ≡ true)
at-found {A} test k xs h =
    let r : (x : A) × (i : ℕ) × (k ≡ 0 + i) × (slice_get xs i ≡ Some x) × (test x ≡ true) = at-from test 0 k xs (sym (position_from-zero test xs) ∙ h) in
    let e : k ≡ r.1 = omega (arith, r.2) in
    (r.0, ap (slice_get xs) e ∙ r.3, r.4)

left-from : {A : Type 0} (test : A → Bool) (n k : ℕ) (xs ys : List A) → position_from test n xs ≡ Some k → position_from test n (xs ++ ys) ≡ Some k
left-from test n k [] ys h = absurd (none-some k h)
left-from test n k (x ∷ xs) ys h = by_case (left-from test (n + 1) k xs ys) (test x) h
  where
    by_case : (position_from test (n + 1) xs ≡ Some k → position_from test (n + 1) (xs ++ ys) ≡ Some k) → (b : Bool) → cond b (Some n) (position_from test (n + 1) xs) ≡ Some k → cond b (Some n) (position_from test (n + 1) (xs ++ ys)) ≡ Some k
    by_case go true h = h
    by_case go false h = go h

-- a place in the first of two lists
pub found-left : {A : Type 0} (test : A → Bool) (k : ℕ) (xs ys : List A) → position test xs ≡ Some k → position test (xs ++ ys) ≡ Some k
found-left test k xs ys h = position_from-zero test (xs ++ ys) ∙ left-from test 0 k xs ys (sym (position_from-zero test xs) ∙ h)

right-from : {A : Type 0} (test : A → Bool) (n m k : ℕ) (xs ys : List A) → list_any test xs ≡ false → m ≡ n + length xs → position_from test m ys ≡ Some k → position_from test n (xs ++ ys) ≡ Some k
right-from test n m k [] ys f e h = let q : n ≡ m = omega (arith, e) in ap (λ (i : ℕ). position_from test i ys) q ∙ h
right-from test n m k (x ∷ xs) ys f e h = by_case (λ g. right-from test (n + 1) m k xs ys g (omega (arith, e)) h) (test x) f
  where
    by_case : (list_any test xs ≡ false → position_from test (n + 1) (xs ++ ys) ≡ Some k) → (b : Bool) → (b || list_any test xs) ≡ false → cond b (Some n) (position_from test (n + 1) (xs ++ ys)) ≡ Some k
    by_case go true f = cc
    by_case go false f = go f

shift-from : {A : Type 0} (test : A → Bool) (n m k : ℕ) (xs : List A) → position_from test n xs ≡ Some k → position_from test (m + n) xs ≡ Some (m + k)
shift-from test n m k [] h = absurd (none-some k h)
shift-from test n m k (x ∷ xs) h = by_case (λ g. ap (λ (i : ℕ). position_from test i xs) (omega arith) ∙ shift-from test (n + 1) m k xs g) (test x) h
  where
    by_case : (position_from test (n + 1) xs ≡ Some k → position_from test (m + n + 1) xs ≡ Some (m + k)) → (b : Bool) → cond b (Some n) (position_from test (n + 1) xs) ≡ Some k → cond b (Some (m + n)) (position_from test (m + n + 1) xs) ≡ Some (m + k)
    by_case go true h = (let e : n ≡ k = cc in ap (λ (i : ℕ). Some (m + i)) e)
    by_case go false h = go h

-- a place in the second, where the first has none
pub found-right : {A : Type 0} (test : A → Bool) (k : ℕ) (xs ys : List A) → list_any test xs ≡ false → position test ys ≡ Some k → position test (xs ++ ys) ≡ Some (length xs + k)
found-right test k xs ys f h =
    position_from-zero test (xs ++ ys)
    ∙ right-from test 0 (length xs + 0) (length xs + k) xs ys f (omega arith) (shift-from test 0 (length xs) k ys (sym (position_from-zero test ys) ∙ h))
