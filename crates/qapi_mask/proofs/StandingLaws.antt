-- The types that stand for others are types of the table.
use Rattle.std.proofs.Common.{◌≡◌, ◌≤◌, ◌<◌, ◌+◌, ℕ, zero, suc, Bool, true, false, not, cond, List, [], ◌∷◌, length, get_or, set, refl, sym, ap, ◌∙◌, subst, arith, Option, Some, None, position}
use Rattle.std.specs.{List.All, List.position_or_len, Prelude.◌==◌}
use Rattle.std.proofs.lemmas.{Slice.Eq.bytes_eq-Decides}
use Rattle.qapi_types.specs.declared.kind.Kind.{Kind}
use Rattle.qapi_types.specs.declared.kind.Kind.TheVariants as kinds
use Rattle.qapi_types.specs.{Goodness.RefersBelow, Types.kind_of}
use Rattle.qapi_mask.specs.Naming.{place_of, is_text, is_base, builtin_of, element_of, base_in, base_of, shown_in, shown_of}
use Rattle.qapi_mask.specs.Tables.{Tells, array_at}
use Rattle.qapi_mask.proofs.TableLaws.{first_from, fill-set, fill-skip}

len-step : (b : Bool) (m n : ℕ) → m ≡ n → cond (not b) (1 + m) 0 ≡ cond b zero (suc n)
len-step true m n e = refl
len-step false m n e = omega (arith, e)

pub place-len : {X : Type 0} (test : X → Bool) (xs : List X) → position_or_len test xs ≡ place_of test xs
place-len test [] = refl
place-len test (x ∷ xs) = len-step (test x) (position_or_len test xs) (place_of test xs) (place-len test xs)

within-step : (b : Bool) (m n : ℕ) → m ≤ n → cond b zero (suc m) ≤ suc n
within-step true m n l = omega arith
within-step false m n l = omega (arith, l)

pub place-within : {X : Type 0} (test : X → Bool) (xs : List X) → place_of test xs ≤ length xs
place-within test [] = omega arith
place-within test (x ∷ xs) = within-step (test x) (place_of test xs) (length xs) (place-within test xs)

some-of : (b : Bool) (n i : ℕ) → cond b (Some n) None ≡ Some i → n ≡ i
some-of true n i h = cc
some-of false n i h = cc

none-of : (b : Bool) (n : ℕ) → cond b (Some n) None ≡ None → b ≡ false
none-of true n h = cc
none-of false n h = refl

pub place-some : {X : Type 0} (test : X → Bool) (xs : List X) (i : ℕ) → position test xs ≡ Some i → i ≡ place_of test xs
place-some test xs i h = sym (some-of _ _ i h) ∙ place-len test xs

pub place-none : {X : Type 0} (test : X → Bool) (xs : List X) → position test xs ≡ None → length xs ≡ place_of test xs
place-none test xs h =
    let past = none-of _ _ h in let same = place-len test xs in let within = place-within test xs in grind (arith, past, same, within)

below-step : (b : Bool) (m n : ℕ) → m < n → cond b zero (suc m) < suc n
below-step true m n l = omega arith
below-step false m n l = omega (arith, l)

at-once : (b : Bool) (m n : ℕ) → b ≡ true → cond b zero (suc m) < suc n
at-once true m n h = omega arith
at-once false m n h = cc

-- what passes at an index stands at or behind the first that passes
pub place-below : {X : Type 0} (test : X → Bool) (xs : List X) (i : ℕ) (d : X) → i < length xs → test (get_or xs i d) ≡ true → place_of test xs < length xs
place-below test [] i d l h = absurd (omega (arith, l))
place-below test (y ∷ xs) zero d l h = at-once (test y) (place_of test xs) (length xs) h
place-below test (y ∷ xs) (suc i) d l h = below-step (test y) (place_of test xs) (length xs) (place-below test xs i d (omega (arith, l)) h)

base-in : (table : List Kind) (t : ℕ) (name : Option (List ℕ)) → t < length table → builtin_of (kind_of table t) ≡ name → base_in table t name < length table
base-in table t None l e = l
base-in table t (Some name) l e = place-below (λ kind. is_text name (builtin_of kind)) table t kinds.Null l (ap (is_text name) e ∙ (bytes_eq-Decides name name).1 refl)

pub base-below : (table : List Kind) (t : ℕ) → t < length table → base_of table t < length table
base-below table t l = base-in table t (builtin_of (kind_of table t)) l refl

pub element-at : (n : ℕ) (kind : Kind) (e : ℕ) → RefersBelow n kind → element_of kind ≡ Some e → e < n
element-at n (kinds.Array a) e h is = (let same : a ≡ e = cc in subst (λ x. x < n) same h)
element-at n kinds.Str e h is = cc
element-at n kinds.Number e h is = cc
element-at n (kinds.Whole whole) e h is = cc
element-at n kinds.Bool e h is = cc
element-at n kinds.Null e h is = cc
element-at n kinds.Any e h is = cc
element-at n (kinds.Enum values features) e h is = cc
element-at n (kinds.Object def) e h is = cc
element-at n (kinds.Alternate types features) e h is = cc

pub element-below : (table : List Kind) (t e : ℕ) → All (RefersBelow (length table)) table → t < length table → element_of (kind_of table t) ≡ Some e → e < length table
element-below table t e h l is = element-at (length table) (kind_of table t) e (h t kinds.Null l) is

-- the table of first arrays, filled from the last type to the first
abbrev pub arrays_from : List Kind → ℕ → ℕ → ℕ
arrays_from table = first_from (λ b kind. is_base table b (element_of kind)) table

pub fill-array : (table : List Kind) (left later c e : ℕ) (list : List ℕ) → left < length table → later ≡ left + 1 → element_of (kind_of table left) ≡ Some e → c ≡ base_of table e →
    Tells (arrays_from table later) (length table) list → Tells (arrays_from table left) (length table) (set list c left)
fill-array table left later c e list l next is same t =
    fill-set (λ b kind. is_base table b (element_of kind)) table (length table) left c (kind_of table left) kinds.Null list l refl
    (λ b. ap (is_base table b) is ∙ ap (λ x. x == b) (sym same)) (subst (λ m. Tells (arrays_from table m) (length table) list) next t)

pub skip-array : (table : List Kind) (left later : ℕ) (list : List ℕ) → left < length table → later ≡ left + 1 → element_of (kind_of table left) ≡ None →
    Tells (arrays_from table later) (length table) list → Tells (arrays_from table left) (length table) list
skip-array table left later list l next is t =
    fill-skip (λ b kind. is_base table b (element_of kind)) table (length table) left (kind_of table left) kinds.Null list l refl
    (λ b. ap (is_base table b) is) (subst (λ m. Tells (arrays_from table m) (length table) list) next t)

pub shown-array : (table : List Kind) (t e : ℕ) → element_of (kind_of table t) ≡ Some e → shown_of table t ≡ array_at table (base_of table e)
shown-array table t e is = ap (shown_in table t) is

pub shown-plain : (table : List Kind) (t : ℕ) → element_of (kind_of table t) ≡ None → shown_of table t ≡ base_of table t
shown-plain table t is = ap (shown_in table t) is

same-number : (n : ℕ) → (n == n) ≡ true
same-number n = grind arith

shown-in : (table : List Kind) (t : ℕ) (element : Option ℕ) → All (RefersBelow (length table)) table → t < length table → element_of (kind_of table t) ≡ element → shown_in table t element < length table
shown-in table t None h l is = base-below table t l
shown-in table t (Some e) h l is = place-below (λ kind. is_base table (base_of table e) (element_of kind)) table t kinds.Null l (ap (is_base table (base_of table e)) is ∙ same-number (base_of table e))

pub shown-below : (table : List Kind) (t : ℕ) → All (RefersBelow (length table)) table → t < length table → shown_of table t < length table
shown-below table t h l = shown-in table t (element_of (kind_of table t)) h l refl
