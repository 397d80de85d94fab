-- What stands for a type has its name, and types of one name have one entry.
use Rattle.std.proofs.Common.{◌≡◌, ℕ, ◌<◌, ◌≤◌, ◌^◌, true, cond, List, [], ◌∷◌, ◌++◌, map, length, refl, ap, sym, ◌∙◌, subst, inl, inr, arith, Option, Some, None}
use Rattle.std.specs.Prelude.{codes, filter, slice_index_or}
use Rattle.std.specs.{Char.digit_value, Fmt.decimal, Str.bytes_eq, Str.Parse.AllDigits}
use Rattle.std.proofs.lemmas.List.{append_cancel_right, append_cancel_left}
use Rattle.std.proofs.lemmas.Fmt.{decimal_injective, decimal_is_IsNumeral}
use Rattle.std.proofs.lemmas.Grind.{common_steps}
use Rattle.std.proofs.lemmas.Bool.{eqb-true, eq-eqb}
use Rattle.std.proofs.lemmas.Slice.Eq.{bytes_eq-Decides}
use Rattle.std.proofs.Math.Dec.{eqb}
use Rattle.qapi_types.specs.declared.{kind.Kind.Kind, parts.Parts.Parts}
use Rattle.qapi_types.specs.declared.kind.Kind.TheVariants as kinds
use Rattle.qapi_types.specs.{Chains.has, Types.kind_of}
use Rattle.qm_admit.specs.Fitting.{Among}
use Rattle.qapi_mask.specs.Orders.{AreBelow, IsClosed, Walks}
use Rattle.qapi_mask.specs.Entries.{Builtin, Array, entry_of, refs_of}
use Rattle.qapi_mask.specs.Naming.{builtin_of, element_of, place_of, is_text, base_in, base_of, is_base, shown_in, shown_of, first_refs, refs_shown, listed_of, is_listed, inner_in, inner_of, is_numbered, numbered_of, own_name_in, own_name_of, mask_in, mask_of}
use Rattle.qapi_types.specs.Prelude.{empty_of}
use Rattle.qapi_mask.proofs.Lists.{among-map, among-source}
use Rattle.qapi_mask.proofs.OrderLaws.{walks, closed, apart-all, nothing-apart, readings-below, has-all, few-below}
use Rattle.qapi_mask.proofs.Placing.{place-below, place-passes, has-below, place-injective, among-has, has-among, among-filter, filter-among}
use Rattle.qapi_mask.proofs.Sound.{IsSound}

pub text-is : (a : List ℕ) (o : Option (List ℕ)) → is_text a o ≡ true → o ≡ Some a
text-is a None h = absurd cc
text-is a (Some b) h = ap Some ((bytes_eq-Decides b a).0 h)

is-text : (a : List ℕ) (o : Option (List ℕ)) → o ≡ Some a → is_text a o ≡ true
is-text a None h = absurd cc
is-text a (Some b) h = (bytes_eq-Decides b a).1 (let k : b ≡ a = cc in k)

builtin-no-array : (kind : Kind) (a : List ℕ) → builtin_of kind ≡ Some a → element_of kind ≡ None
builtin-no-array (kinds.Array e) a h = absurd cc
builtin-no-array kind a h = refl

array-is : (kind : Kind) (e : ℕ) → element_of kind ≡ Some e → kind ≡ kinds.Array e
array-is (kinds.Array x) e h = ap kinds.Array (let k : x ≡ e = cc in k)
array-is kind e h = absurd cc

array-no-builtin : (kind : Kind) (e : ℕ) → element_of kind ≡ Some e → builtin_of kind ≡ None
array-no-builtin (kinds.Array x) e h = refl
array-no-builtin kind e h = absurd cc

cons-rest : (x : ℕ) (xs ys : List ℕ) → x ∷ xs ≡ x ∷ ys → xs ≡ ys
cons-rest x xs ys h = append_cancel_left (x ∷ []) xs ys h

abbrev type_named : List ℕ → List ℕ
type_named a = cond (bytes_eq a (codes "str")) (codes "string") (cond (bytes_eq a (codes "bool")) (codes "boolean") (cond (bytes_eq a (codes "any")) (codes "value") a))

some-text : (a b : List ℕ) → Some a ≡ Some b → a ≡ b
some-text a b h = cc

builtin-entry : (table : List Kind) (name_of : ℕ → List ℕ) (empty : ℕ) (kind : Kind) (a : List ℕ) → builtin_of kind ≡ Some a → entry_of table name_of empty kind ≡ Builtin (type_named a)
builtin-entry table name_of empty kinds.Str a h = ap (λ (a : List ℕ). Builtin (type_named a)) (some-text (codes "str") a h)
builtin-entry table name_of empty kinds.Number a h = ap (λ (a : List ℕ). Builtin (type_named a)) (some-text (codes "number") a h)
builtin-entry table name_of empty (kinds.Whole whole) a h = ap (λ (a : List ℕ). Builtin (type_named a)) (some-text (codes "int") a h)
builtin-entry table name_of empty kinds.Bool a h = ap (λ (a : List ℕ). Builtin (type_named a)) (some-text (codes "bool") a h)
builtin-entry table name_of empty kinds.Null a h = ap (λ (a : List ℕ). Builtin (type_named a)) (some-text (codes "null") a h)
builtin-entry table name_of empty kinds.Any a h = ap (λ (a : List ℕ). Builtin (type_named a)) (some-text (codes "any") a h)
builtin-entry table name_of empty kind a h = absurd cc

bracket-not-digits : (rest : List ℕ) → AllDigits 10 (91 ∷ rest) → ⊥
bracket-not-digits rest d = let l : digit_value 91 < 10 = d.0 in omega arith

builtin-head : (kind : Kind) (a : List ℕ) → builtin_of kind ≡ Some a → 96 < slice_index_or a 0 0
builtin-head kinds.Str a h = subst (λ (a : List ℕ). 96 < slice_index_or a 0 0) (some-text (codes "str") a h) (omega arith)
builtin-head kinds.Number a h = subst (λ (a : List ℕ). 96 < slice_index_or a 0 0) (some-text (codes "number") a h) (omega arith)
builtin-head (kinds.Whole whole) a h = subst (λ (a : List ℕ). 96 < slice_index_or a 0 0) (some-text (codes "int") a h) (omega arith)
builtin-head kinds.Bool a h = subst (λ (a : List ℕ). 96 < slice_index_or a 0 0) (some-text (codes "bool") a h) (omega arith)
builtin-head kinds.Null a h = subst (λ (a : List ℕ). 96 < slice_index_or a 0 0) (some-text (codes "null") a h) (omega arith)
builtin-head kinds.Any a h = subst (λ (a : List ℕ). 96 < slice_index_or a 0 0) (some-text (codes "any") a h) (omega arith)
builtin-head kind a h = absurd cc

letter-no-digit : (x : ℕ) → 96 < x → digit_value x < 10 → ⊥
letter-no-digit x l d = grind (arith, common_steps, l, d)

letters-no-digits : (a : List ℕ) → 96 < slice_index_or a 0 0 → AllDigits 10 a → ⊥
letters-no-digits [] l d = absurd (omega arith)
letters-no-digits (x ∷ xs) l d = letter-no-digit x l d.0

bracket-not-builtin : (kind : Kind) (a rest : List ℕ) → builtin_of kind ≡ Some a → a ≡ 91 ∷ rest → ⊥
bracket-not-builtin kind a rest h e = let k : 96 < slice_index_or (91 ∷ rest) 0 0 = subst (λ (a : List ℕ). 96 < slice_index_or a 0 0) e (builtin-head kind a h) in omega arith

module _ (p : Parts) (good : IsSound p) where
  -- the type that stands for one has its built-in name
  base-name-at : (t : ℕ) (o : Option (List ℕ)) → builtin_of (kind_of p.kinds t) ≡ o → base_in p.kinds t o < length p.kinds → builtin_of (kind_of p.kinds (base_in p.kinds t o)) ≡ o
  base-name-at t None h l = h
  base-name-at t (Some a) h l = text-is a _ (place-passes (λ kind. is_text a (builtin_of kind)) kinds.Null p.kinds l)

  base-name : (t : ℕ) → base_of p.kinds t < length p.kinds → builtin_of (kind_of p.kinds (base_of p.kinds t)) ≡ builtin_of (kind_of p.kinds t)
  base-name t l = base-name-at t (builtin_of (kind_of p.kinds t)) refl l

  base-below-at : (t : ℕ) (o : Option (List ℕ)) → builtin_of (kind_of p.kinds t) ≡ o → t < length p.kinds → base_in p.kinds t o < length p.kinds
  base-below-at t None h l = l
  base-below-at t (Some a) h l = place-below (λ kind. is_text a (builtin_of kind)) kinds.Null p.kinds t l (is-text a (builtin_of (kind_of p.kinds t)) h)

  pub base-below : (t : ℕ) → t < length p.kinds → base_of p.kinds t < length p.kinds
  base-below t l = base-below-at t (builtin_of (kind_of p.kinds t)) refl l

  own-name-at : (t : ℕ) (o : Option (List ℕ)) → builtin_of (kind_of p.kinds t) ≡ o → base_in p.kinds t o < length p.kinds → own_name_of p (base_in p.kinds t o) ≡ own_name_in p t o
  own-name-at t None h l = ap (own_name_in p t) h
  own-name-at t (Some a) h l = ap (own_name_in p (base_in p.kinds t (Some a))) (base-name-at t (Some a) h l)

  own-name : (t : ℕ) → base_of p.kinds t < length p.kinds → own_name_of p (base_of p.kinds t) ≡ own_name_of p t
  own-name t l = own-name-at t (builtin_of (kind_of p.kinds t)) refl l

  pub element-below : (t e : ℕ) → element_of (kind_of p.kinds t) ≡ Some e → e < length p.kinds
  element-below t e h = good.refs t e (subst (λ (kind : Kind). Among e (refs_of p.kinds (empty_of p) kind)) (sym (array-is (kind_of p.kinds t) e h)) (inl refl))

  base-plain-at : (t : ℕ) (o : Option (List ℕ)) → builtin_of (kind_of p.kinds t) ≡ o → element_of (kind_of p.kinds t) ≡ None → base_in p.kinds t o < length p.kinds → element_of (kind_of p.kinds (base_in p.kinds t o)) ≡ None
  base-plain-at t None h k l = k
  base-plain-at t (Some a) h k l = builtin-no-array (kind_of p.kinds (base_in p.kinds t (Some a))) a (base-name-at t (Some a) h l)

  -- what stands for an array of e is an array of an element for which the same type stands
  pub record Alike (e u : ℕ) : Type 0 where
    pub of : ℕ
    pub kind : element_of (kind_of p.kinds u) ≡ Some of
    pub base : base_of p.kinds of ≡ base_of p.kinds e

  alike : (e u : ℕ) (o : Option ℕ) → element_of (kind_of p.kinds u) ≡ o → is_base p.kinds (base_of p.kinds e) o ≡ true → Alike e u
  alike e u None k h = absurd cc
  alike e u (Some x) k h = record { of = x; kind = k; base = eqb-true (base_of p.kinds x) (base_of p.kinds e) h }

  shown-array : (t e : ℕ) → element_of (kind_of p.kinds t) ≡ Some e → shown_of p.kinds t < length p.kinds → Alike e (shown_of p.kinds t)
  shown-array t e k l =
      let same : shown_of p.kinds t ≡ shown_in p.kinds t (Some e) = ap (shown_in p.kinds t) k in
      let below : shown_in p.kinds t (Some e) < length p.kinds = subst (λ (u : ℕ). u < length p.kinds) same l in
      let a : Alike e (shown_in p.kinds t (Some e)) = alike e (shown_in p.kinds t (Some e)) _ refl (place-passes (λ kind. is_base p.kinds (base_of p.kinds e) (element_of kind)) kinds.Null p.kinds below) in
      subst (Alike e) (sym same) a

  shown-plain : (t : ℕ) → element_of (kind_of p.kinds t) ≡ None → shown_of p.kinds t ≡ base_of p.kinds t
  shown-plain t k = ap (shown_in p.kinds t) k

  mask-array : (t e : ℕ) → element_of (kind_of p.kinds t) ≡ Some e → mask_of p t ≡ codes "[" ++ (own_name_of p e ++ codes "]")
  mask-array t e k = ap (mask_in p t) k

  mask-plain : (t : ℕ) → element_of (kind_of p.kinds t) ≡ None → mask_of p t ≡ own_name_of p t
  mask-plain t k = ap (mask_in p t) k

  alike-name : (e u : ℕ) (a : Alike e u) → e < length p.kinds → own_name_of p a.of ≡ own_name_of p e
  alike-name e u a l =
      let below : base_of p.kinds e < length p.kinds = base-below e l in
      sym (own-name a.of (subst (λ (b : ℕ). b < length p.kinds) (sym a.base) below)) ∙ ap (own_name_of p) a.base ∙ own-name e below

  -- what stands for a type has its name
  mask-shown-at : (t : ℕ) (o : Option ℕ) → element_of (kind_of p.kinds t) ≡ o → shown_of p.kinds t < length p.kinds → mask_of p (shown_of p.kinds t) ≡ mask_of p t
  mask-shown-at t None k l =
      let same = shown-plain t k in
      let below : base_of p.kinds t < length p.kinds = subst (λ (u : ℕ). u < length p.kinds) same l in
      ap (mask_of p) same ∙ mask-plain (base_of p.kinds t) (base-plain-at t (builtin_of (kind_of p.kinds t)) refl k below) ∙ own-name t below ∙ sym (mask-plain t k)
  mask-shown-at t (Some e) k l =
      let a = shown-array t e k l in
      mask-array (shown_of p.kinds t) a.of a.kind ∙ ap (λ (n : List ℕ). 91 ∷ n ++ 93 ∷ []) (alike-name e (shown_of p.kinds t) a (element-below t e k)) ∙ sym (mask-array t e k)

  pub mask-shown : (t : ℕ) → shown_of p.kinds t < length p.kinds → mask_of p (shown_of p.kinds t) ≡ mask_of p t
  mask-shown t l = mask-shown-at t (element_of (kind_of p.kinds t)) refl l

  shown-below-at : (t : ℕ) (o : Option ℕ) → element_of (kind_of p.kinds t) ≡ o → t < length p.kinds → shown_in p.kinds t o < length p.kinds
  shown-below-at t None k l = base-below t l
  shown-below-at t (Some e) k l = place-below (λ kind. is_base p.kinds (base_of p.kinds e) (element_of kind)) kinds.Null p.kinds t l (ap (is_base p.kinds (base_of p.kinds e)) k ∙ eq-eqb (base_of p.kinds e) (base_of p.kinds e) refl)

  pub shown-below : (t : ℕ) → t < length p.kinds → shown_of p.kinds t < length p.kinds
  shown-below t l = shown-below-at t (element_of (kind_of p.kinds t)) refl l

  map-below : (xs : List ℕ) → ((r : ℕ) → Among r xs → r < length p.kinds) → AreBelow (length p.kinds) (map (shown_of p.kinds) xs)
  map-below xs h x k = let y = among-source (shown_of p.kinds) x xs (among-has x (map (shown_of p.kinds) xs) k) in subst (λ (u : ℕ). u < length p.kinds) y.is (shown-below y.of (h y.of y.among))

  pub first-below : AreBelow (length p.kinds) (map (shown_of p.kinds) (first_refs p))
  first-below = map-below (first_refs p) good.firsts

  pub refs-below : (t : ℕ) → AreBelow (length p.kinds) (refs_shown p t)
  refs-below t = map-below (refs_of p.kinds (empty_of p) (kind_of p.kinds t)) (good.refs t)

  pub listed-below : AreBelow (length p.kinds) (listed_of p)
  unfolding listed_of
  listed-below = readings-below (map (shown_of p.kinds) (first_refs p)) (refs_shown p) (length p.kinds) (length p.kinds) first-below refs-below

  listed-closed : IsClosed (map (shown_of p.kinds) (first_refs p)) (refs_shown p) (listed_of p)
  unfolding listed_of
  listed-closed = closed (map (shown_of p.kinds) (first_refs p)) (refs_shown p) (length p.kinds) first-below refs-below

  -- a walk along the list, entry by entry, finds the listed types
  pub listed-walks : Walks (map (shown_of p.kinds) (first_refs p)) (refs_shown p) (listed_of p)
  unfolding listed_of
  listed-walks = walks (map (shown_of p.kinds) (first_refs p)) (refs_shown p) (length p.kinds) first-below refs-below

  builtin-no-refs : (kind : Kind) (a : List ℕ) → builtin_of kind ≡ Some a → refs_of p.kinds (empty_of p) kind ≡ []
  builtin-no-refs (kinds.Array e) a h = absurd cc
  builtin-no-refs (kinds.Object def) a h = absurd cc
  builtin-no-refs (kinds.Alternate types features) a h = absurd cc
  builtin-no-refs kind a h = refl

  -- a type that an entry refers to is listed
  ref-shown-array : (t e r : ℕ) → element_of (kind_of p.kinds t) ≡ Some e → is_listed p t ≡ true → Among r (refs_of p.kinds (empty_of p) (kind_of p.kinds t)) → is_listed p r ≡ true
  ref-shown-array t e r k l among =
      let u = shown_of p.kinds t in
      let a = shown-array t e k (listed-below u l) in
      let r-is : e ≡ r = (elim (subst (λ (kind : Kind). Among r (refs_of p.kinds (empty_of p) kind)) (array-is (kind_of p.kinds t) e k) among) as (λ _. e ≡ r) [ inl h ↦ h | inr h ↦ absurd h ]) in
      let shown : shown_of p.kinds a.of ≡ shown_of p.kinds r =
      shown-plain a.of (good.elements u a.of (array-is (kind_of p.kinds u) a.of a.kind)) ∙ a.base ∙ sym (shown-plain e (good.elements t e (array-is (kind_of p.kinds t) e k))) ∙ ap (shown_of p.kinds) r-is in
      let here : Among a.of (refs_of p.kinds (empty_of p) (kind_of p.kinds u)) = subst (λ (kind : Kind). Among a.of (refs_of p.kinds (empty_of p) kind)) (sym (array-is (kind_of p.kinds u) a.of a.kind)) (inl refl) in
      subst (λ (x : ℕ). has x (listed_of p) ≡ true) shown
      (listed-closed.next u (shown_of p.kinds a.of) l (has-among (shown_of p.kinds a.of) (refs_shown p u) (among-map (shown_of p.kinds) a.of (refs_of p.kinds (empty_of p) (kind_of p.kinds u)) here)))

  ref-shown-plain : (t r : ℕ) (o : Option (List ℕ)) → element_of (kind_of p.kinds t) ≡ None → builtin_of (kind_of p.kinds t) ≡ o → is_listed p t ≡ true → Among r (refs_of p.kinds (empty_of p) (kind_of p.kinds t)) → is_listed p r ≡ true
  ref-shown-plain t r (Some a) k h l among = absurd (subst (Among r) (builtin-no-refs (kind_of p.kinds t) a h) among)
  ref-shown-plain t r None k h l among =
      let same : shown_of p.kinds t ≡ t = shown-plain t k ∙ ap (base_in p.kinds t) h in
      listed-closed.next t (shown_of p.kinds r) (subst (λ (x : ℕ). has x (listed_of p) ≡ true) same l) (has-among (shown_of p.kinds r) (refs_shown p t) (among-map (shown_of p.kinds) r (refs_of p.kinds (empty_of p) (kind_of p.kinds t)) among))

  ref-at : (t r : ℕ) (o : Option ℕ) → element_of (kind_of p.kinds t) ≡ o → is_listed p t ≡ true → Among r (refs_of p.kinds (empty_of p) (kind_of p.kinds t)) → is_listed p r ≡ true
  ref-at t r None k l among = ref-shown-plain t r (builtin_of (kind_of p.kinds t)) k refl l among
  ref-at t r (Some e) k l among = ref-shown-array t e r k l among

  pub ref-listed : (t r : ℕ) → is_listed p t ≡ true → Among r (refs_of p.kinds (empty_of p) (kind_of p.kinds t)) → is_listed p r ≡ true
  ref-listed t r l among = ref-at t r (element_of (kind_of p.kinds t)) refl l among

  -- what commands refer to is listed
  pub first-listed : (r : ℕ) → Among r (first_refs p) → is_listed p r ≡ true
  first-listed r among = listed-closed.firsts (shown_of p.kinds r) (has-among (shown_of p.kinds r) (map (shown_of p.kinds) (first_refs p)) (among-map (shown_of p.kinds) r (first_refs p) among))

  -- the types named by numbers
  inner-below-at : (t : ℕ) (o : Option ℕ) → element_of (kind_of p.kinds t) ≡ o → t < length p.kinds → inner_in p.kinds t o < length p.kinds
  inner-below-at t None k l = l
  inner-below-at t (Some e) k l = base-below e (element-below t e k)

  pub numbered-below : AreBelow (length p.kinds) (numbered_of p)
  unfolding numbered_of
  numbered-below x h =
      let among = filter-among (is_numbered p.kinds) x (map (inner_of p.kinds) (listed_of p)) (among-has x (filter (is_numbered p.kinds) (map (inner_of p.kinds) (listed_of p))) (sym (has-all x [] (filter (is_numbered p.kinds) (map (inner_of p.kinds) (listed_of p)))) ∙ h)) in
      let y = among-source (inner_of p.kinds) x (listed_of p) among in
      subst (λ (u : ℕ). u < length p.kinds) y.is (inner-below-at y.of (element_of (kind_of p.kinds y.of)) refl (listed-below y.of (has-among y.of (listed_of p) y.among)))

  pub numbered-few : length (numbered_of p) ≤ length p.kinds
  unfolding numbered_of
  numbered-few = few-below (numbered_of p) (length p.kinds) (apart-all [] (filter (is_numbered p.kinds) (map (inner_of p.kinds) (listed_of p))) nothing-apart) numbered-below

  number-test : (t : ℕ) → element_of (kind_of p.kinds t) ≡ None → builtin_of (kind_of p.kinds t) ≡ None → is_numbered p.kinds t ≡ true
  number-test t k h = rw (h, k) refl

  in-numbered : (t : ℕ) → element_of (kind_of p.kinds t) ≡ None → builtin_of (kind_of p.kinds t) ≡ None → has t (listed_of p) ≡ true → has t (numbered_of p) ≡ true
  unfolding numbered_of
  in-numbered t k h l =
      let inner : inner_of p.kinds t ≡ t = ap (inner_in p.kinds t) k in
      let among : Among t (map (inner_of p.kinds) (listed_of p)) = subst (λ (x : ℕ). Among x (map (inner_of p.kinds) (listed_of p))) inner (among-map (inner_of p.kinds) t (listed_of p) (among-has t (listed_of p) l)) in
      has-all t [] (filter (is_numbered p.kinds) (map (inner_of p.kinds) (listed_of p))) ∙ has-among t _ (among-filter (is_numbered p.kinds) t (map (inner_of p.kinds) (listed_of p)) among (number-test t k h))

  number-small : (t : ℕ) → has t (numbered_of p) ≡ true → place_of (λ u. eqb u t) (numbered_of p) < 2 ^ 64
  number-small t h = let a = has-below t (numbered_of p) h in let b = numbered-few in let c = good.few in omega arith

  own-number : (t : ℕ) → builtin_of (kind_of p.kinds t) ≡ None → own_name_of p t ≡ decimal (place_of (λ u. eqb u t) (numbered_of p))
  own-number t h = ap (own_name_in p t) h

  own-builtin : (t : ℕ) (a : List ℕ) → builtin_of (kind_of p.kinds t) ≡ Some a → own_name_of p t ≡ a
  own-builtin t a h = ap (own_name_in p t) h

  number-digits : (t : ℕ) → has t (numbered_of p) ≡ true → AllDigits 10 (decimal (place_of (λ u. eqb u t) (numbered_of p)))
  number-digits t h = (decimal_is_IsNumeral (place_of (λ u. eqb u t) (numbered_of p)) (number-small t h)).0.1

  entry-array : (t e : ℕ) → element_of (kind_of p.kinds t) ≡ Some e → entry_of p.kinds (mask_of p) (empty_of p) (kind_of p.kinds t) ≡ Array (own_name_of p e)
  entry-array t e k = ap (entry_of p.kinds (mask_of p) (empty_of p)) (array-is (kind_of p.kinds t) e k) ∙ ap Array (mask-plain e (good.elements t e (array-is (kind_of p.kinds t) e k)))

  -- two that stand for themselves and have one name
  same-plain : (u t : ℕ) (of_u of_t : Option (List ℕ)) → element_of (kind_of p.kinds u) ≡ None → element_of (kind_of p.kinds t) ≡ None → builtin_of (kind_of p.kinds u) ≡ of_u → builtin_of (kind_of p.kinds t) ≡ of_t →
      has u (listed_of p) ≡ true → has (base_in p.kinds t of_t) (listed_of p) ≡ true → own_name_of p u ≡ own_name_of p t → entry_of p.kinds (mask_of p) (empty_of p) (kind_of p.kinds u) ≡ entry_of p.kinds (mask_of p) (empty_of p) (kind_of p.kinds t)
  same-plain u t (Some a) (Some b) ku kt of_u of_t lu lt e =
      let ab : a ≡ b = sym (own-builtin u a of_u) ∙ e ∙ own-builtin t b of_t in
      builtin-entry p.kinds (mask_of p) (empty_of p) (kind_of p.kinds u) a of_u ∙ ap (λ (a : List ℕ). Builtin (type_named a)) ab ∙ sym (builtin-entry p.kinds (mask_of p) (empty_of p) (kind_of p.kinds t) b of_t)
  same-plain u t (Some a) None ku kt of_u of_t lu lt e =
      absurd (letters-no-digits a (builtin-head (kind_of p.kinds u) a of_u) (subst (AllDigits 10) (sym (sym (own-builtin u a of_u) ∙ e ∙ own-number t of_t)) (number-digits t (in-numbered t kt of_t lt))))
  same-plain u t None (Some b) ku kt of_u of_t lu lt e =
      absurd (letters-no-digits b (builtin-head (kind_of p.kinds t) b of_t) (subst (AllDigits 10) (sym (own-number u of_u) ∙ e ∙ own-builtin t b of_t) (number-digits u (in-numbered u ku of_u lu))))
  same-plain u t None None ku kt of_u of_t lu lt e =
      let nu = in-numbered u ku of_u lu in
      let nt = in-numbered t kt of_t lt in
      let places = decimal_injective (place_of (λ x. eqb x u) (numbered_of p)) (place_of (λ x. eqb x t) (numbered_of p)) (number-small u nu) (number-small t nt) (sym (own-number u of_u) ∙ e ∙ own-number t of_t) in
      ap (λ (x : ℕ). entry_of p.kinds (mask_of p) (empty_of p) (kind_of p.kinds x)) (place-injective u t (numbered_of p) nu nt places)

  -- no bracket begins the name of a type that is no array
  bracket-plain : (t : ℕ) (of_t : Option (List ℕ)) (rest : List ℕ) → element_of (kind_of p.kinds t) ≡ None → builtin_of (kind_of p.kinds t) ≡ of_t → (of_t ≡ None → has t (listed_of p) ≡ true) → own_name_of p t ≡ 91 ∷ rest → ⊥
  bracket-plain t (Some b) rest k of_t l e = bracket-not-builtin (kind_of p.kinds t) b rest of_t (sym (own-builtin t b of_t) ∙ e)
  bracket-plain t None rest k of_t l e = bracket-not-digits rest (subst (AllDigits 10) (sym (own-number t of_t) ∙ e) (number-digits t (in-numbered t k of_t (l refl))))

  -- a listed type that stands for itself has what the test below asks
  listed-base : (t : ℕ) → element_of (kind_of p.kinds t) ≡ None → is_listed p t ≡ true → has (base_of p.kinds t) (listed_of p) ≡ true
  listed-base t k l = subst (λ (x : ℕ). has x (listed_of p) ≡ true) (shown-plain t k) l

  pub same-at : (u t : ℕ) (of_u of_t : Option ℕ) → element_of (kind_of p.kinds u) ≡ of_u → element_of (kind_of p.kinds t) ≡ of_t → has u (listed_of p) ≡ true → is_listed p t ≡ true → mask_of p u ≡ mask_of p t →
      entry_of p.kinds (mask_of p) (empty_of p) (kind_of p.kinds u) ≡ entry_of p.kinds (mask_of p) (empty_of p) (kind_of p.kinds t)
  same-at u t None None of_u of_t lu lt e =
      same-plain u t (builtin_of (kind_of p.kinds u)) (builtin_of (kind_of p.kinds t)) of_u of_t refl refl lu (listed-base t of_t lt) (sym (mask-plain u of_u) ∙ e ∙ mask-plain t of_t)
  same-at u t (Some x) None of_u of_t lu lt e =
      absurd (bracket-plain t (builtin_of (kind_of p.kinds t)) (own_name_of p x ++ 93 ∷ []) of_t refl (λ h. subst (λ (o : Option (List ℕ)). has (base_in p.kinds t o) (listed_of p) ≡ true) h (listed-base t of_t lt)) (sym (mask-plain t of_t) ∙ sym e ∙ mask-array u x of_u))
  same-at u t None (Some y) of_u of_t lu lt e =
      absurd (bracket-plain u (builtin_of (kind_of p.kinds u)) (own_name_of p y ++ 93 ∷ []) of_u refl (λ h. lu) (sym (mask-plain u of_u) ∙ e ∙ mask-array t y of_t))
  same-at u t (Some x) (Some y) of_u of_t lu lt e =
      let brackets : codes "[" ++ (own_name_of p x ++ codes "]") ≡ codes "[" ++ (own_name_of p y ++ codes "]") = sym (mask-array u x of_u) ∙ e ∙ mask-array t y of_t in
      let names : own_name_of p x ≡ own_name_of p y = append_cancel_right (own_name_of p x) (own_name_of p y) (93 ∷ []) (cons-rest 91 _ _ brackets) in
      entry-array u x of_u ∙ ap Array names ∙ sym (entry-array t y of_t)
