-- What stands at a place of a value that fits, fits that place's type.
use Rattle.std.proofs.Common.{◌≡◌, ℕ, true, List, ap, sym, ◌∙◌, subst, inl, inr, Some, None}
use Rattle.std.specs.Prelude.{ℤ}
use Rattle.qm_json.specs.declared.value.{Json.Json, Member.Member}
use Rattle.qapi_types.specs.declared.kind.{JsonKind.JsonKind, Kind.Kind, MemberDef.MemberDef, Whole.Whole}
use Rattle.qapi_types.specs.declared.kind.JsonKind.TheVariants as sorts
use Rattle.qapi_types.specs.declared.kind.Kind.TheVariants as kinds
use Rattle.qapi_types.specs.Types.{kind_of, json_kind_of}
use Rattle.qm_admit.specs.Ranges.{is_in_range}
use Rattle.qm_admit.specs.Views.{View, IsNull, IsBool, IsInt, IsNum, IsStr, IsArr, IsObj, view_of}
use Rattle.qm_admit.specs.Fitting.{Among, IsMember, Fits, plain, array, alternate, object, FitItems, no_items, items, FitMembers, no_members, members, fits_plainly}
use Rattle.qapi_mask.specs.Bounds.{Stands, here, item, alternative, member, IsInBounds}
use Rattle.qapi_mask.proofs.Members.{member-object}

-- the kind of JSON values that a value is of
abbrev sort_in : View → JsonKind
sort_in IsNull = sorts.Null
sort_in IsBool = sorts.Boolean
sort_in (IsInt n) = sorts.Number
sort_in IsNum = sorts.Number
sort_in (IsStr bytes) = sorts.String
sort_in (IsArr vs) = sorts.Array
sort_in (IsObj ms) = sorts.Object

-- the type is of one kind of JSON values, and no other alternative is of it
pub record IsSorted (table : List Kind) (types : List ℕ) (a : ℕ) : Type 0 where
  pub sort : JsonKind
  pub is : json_kind_of (kind_of table a) ≡ Some sort
  pub alone : (b : ℕ) → Among b types → json_kind_of (kind_of table b) ≡ Some sort → a ≡ b

-- a place of a value has one type
pub record IsApart (table : List Kind) : Type 0 where
  pub alternatives : (t : ℕ) (types : List ℕ) (features : List (List ℕ)) (a : ℕ) → kind_of table t ≡ kinds.Alternate types features → Among a types → IsSorted table types a
  -- no two members along a choice of branches have one name
  pub members : (given : List Member) (t : ℕ) (m n : MemberDef) → IsMember table given t m → IsMember table given t n → m.name ≡ n.name → m.type_id ≡ n.type_id

some-is : {X : Type 0} (a b : X) → Some a ≡ Some b → a ≡ b
some-is a b h = cc

plain-sort : (kind : Kind) (view : View) (sort : JsonKind) → fits_plainly kind view ≡ true → json_kind_of kind ≡ Some sort → sort_in view ≡ sort
plain-sort kinds.Str (IsStr bytes) sort h e = some-is sorts.String sort e
plain-sort kinds.Number (IsInt n) sort h e = some-is sorts.Number sort e
plain-sort kinds.Number IsNum sort h e = some-is sorts.Number sort e
plain-sort (kinds.Whole whole) (IsInt n) sort h e = some-is sorts.Number sort e
plain-sort kinds.Bool IsBool sort h e = some-is sorts.Boolean sort e
plain-sort kinds.Null IsNull sort h e = some-is sorts.Null sort e
plain-sort (kinds.Enum values features) (IsStr bytes) sort h e = some-is sorts.String sort e
plain-sort kinds.Any view sort h e = absurd cc
plain-sort kind view sort h e = absurd cc

object-kind : {table : List Kind} {given : List Member} {t : ℕ} {m : MemberDef} → IsMember table given t m → json_kind_of (kind_of table t) ≡ Some sorts.Object
object-kind r = ap json_kind_of (member-object r).is

module _ (table : List Kind) (apart : IsApart table) where
  -- what fits a type of one sort is of that sort
  pub fits-sort : {t : ℕ} {v : Json} (sort : JsonKind) → Fits table t v → json_kind_of (kind_of table t) ≡ Some sort → sort_in (view_of v) ≡ sort
  fits-sort {t = t} {v = v} sort (plain h) e = plain-sort (kind_of table t) (view_of v) sort h e
  fits-sort sort (array x vs k is fs) e = ap sort_in is ∙ some-is sorts.Array sort (sym (ap json_kind_of k) ∙ e)
  fits-sort sort (alternate types features a k among f) e = let h : None ≡ Some sort = sym (ap json_kind_of k) ∙ e in absurd cc
  fits-sort sort (object def given k is h fs) e = ap sort_in is ∙ some-is sorts.Object sort (sym (ap json_kind_of k) ∙ e)

  -- where a whole number stands at a place of a whole type, a value of one sort is of the first type's
  stands-sort : {t u : ℕ} {v w : Json} (sort : JsonKind) (whole : Whole) (n : ℤ) → kind_of table u ≡ kinds.Whole whole → view_of w ≡ IsInt n → Stands table t v u w → json_kind_of (kind_of table t) ≡ Some sort → sort_in (view_of v) ≡ sort
  stands-sort {t = t} {u = u} {v = v} {w = w} sort whole n ku iw (here e f) h =
      ap (λ (v : Json). sort_in (view_of v)) (sym f) ∙ ap sort_in iw ∙ some-is sorts.Number sort (sym (ap json_kind_of ku) ∙ ap (λ (t : ℕ). json_kind_of (kind_of table t)) e ∙ h)
  stands-sort sort whole n ku iw (item x vs y k is among st) h = ap sort_in is ∙ some-is sorts.Array sort (sym (ap json_kind_of k) ∙ h)
  stands-sort sort whole n ku iw (alternative types features a k among st) h = let h : None ≡ Some sort = sym (ap json_kind_of k) ∙ h in absurd cc
  stands-sort sort whole n ku iw (member given m x is is_member among same st) h = ap sort_in is ∙ some-is sorts.Object sort (sym (object-kind is_member) ∙ h)

  item-among : {e : ℕ} {vs : List Json} {y : Json} → FitItems table e vs → Among y vs → Fits table e y
  item-among no_items a = absurd a
  item-among {e = e} (items f fs) (inl is) = subst (λ (v : Json). Fits table e v) is f
  item-among (items f fs) (inr a) = item-among fs a

  array-parts : (kind : Kind) (view : View) (e : ℕ) → kind ≡ kinds.Array e → fits_plainly kind view ≡ true → ⊥
  array-parts kind view e k h = let g : fits_plainly (kinds.Array e) view ≡ true = subst (λ (kind : Kind). fits_plainly kind view ≡ true) k h in absurd cc

  an-item : {t : ℕ} {v : Json} (e : ℕ) (vs : List Json) (y : Json) → Fits table t v → kind_of table t ≡ kinds.Array e → view_of v ≡ IsArr vs → Among y vs → Fits table e y
  an-item {t = t} {v = v} e vs y (plain h) k is a = absurd (array-parts (kind_of table t) (view_of v) e k h)
  an-item {v = v} e vs y (array x us kx isx fs) k is a =
      let same : x ≡ e = (let h : kinds.Array x ≡ kinds.Array e = sym kx ∙ k in cc) in
      let list : us ≡ vs = (let h : IsArr us ≡ IsArr vs = sym isx ∙ is in cc) in
      item-among (subst (λ (e : ℕ). FitItems table e vs) same (subst (λ (l : List Json). FitItems table x l) list fs)) a
  an-item e vs y (alternate types features b kb among f) k is a = let h : kinds.Alternate types features ≡ kinds.Array e = sym kb ∙ k in absurd cc
  an-item e vs y (object def given kd isd h fs) k is a = let h : kinds.Object def ≡ kinds.Array e = sym kd ∙ k in absurd cc

  pub member-among : {given : List Member} {t : ℕ} {xs : List Member} {y : Member} (m : MemberDef) → FitMembers table given t xs → Among y xs → IsMember table given t m → m.name ≡ y.name → Fits table m.type_id y.value
  member-among m no_members a is_member same = absurd a
  member-among {given = given} {t = t} {y = y} m (members {x = x} d is_d e f fs) (inl is) is_member same =
      let type : d.type_id ≡ m.type_id = apart.members given t d m is_d is_member (e ∙ ap (λ (x : Member). x.name) is ∙ sym same) in
      subst (λ (u : ℕ). Fits table u y.value) type (subst (λ (x : Member). Fits table d.type_id x.value) is f)
  member-among m (members d is_d e f fs) (inr a) is_member same = member-among m fs a is_member same

  mapping-parts : (kind : Kind) (view : View) → json_kind_of kind ≡ Some sorts.Object → fits_plainly kind view ≡ true → ⊥
  mapping-parts (kinds.Object def) view k h = absurd cc
  mapping-parts kind view k h = absurd cc

  a-member : {t : ℕ} {v : Json} (given : List Member) (m : MemberDef) (y : Member) → Fits table t v → view_of v ≡ IsObj given → IsMember table given t m → Among y given → m.name ≡ y.name → Fits table m.type_id y.value
  a-member {t = t} {v = v} given m y (plain h) is is_member a same = absurd (mapping-parts (kind_of table t) (view_of v) (object-kind is_member) h)
  a-member given m y (array x vs k isx fs) is is_member a same = let h : Some sorts.Array ≡ Some sorts.Object = sym (ap json_kind_of k) ∙ object-kind is_member in absurd cc
  a-member given m y (alternate types features b k among f) is is_member a same = let h : None ≡ Some sorts.Object = sym (ap json_kind_of k) ∙ object-kind is_member in absurd cc
  a-member {t = t} given m y (object def xs k isx h fs) is is_member a same =
      let list : xs ≡ given = (let h : IsObj xs ≡ IsObj given = sym isx ∙ is in cc) in
      member-among m (subst (λ (l : List Member). FitMembers table l t l) list fs) a is_member same

  alternate-parts : (kind : Kind) (view : View) (types : List ℕ) (features : List (List ℕ)) → kind ≡ kinds.Alternate types features → fits_plainly kind view ≡ true → ⊥
  alternate-parts kind view types features k h = let g : fits_plainly (kinds.Alternate types features) view ≡ true = subst (λ (kind : Kind). fits_plainly kind view ≡ true) k h in absurd cc

  -- an alternative whose sort is the value's is the one that the value fits
  pub an-alternative : {t : ℕ} {v : Json} (types : List ℕ) (features : List (List ℕ)) (a : ℕ) → Fits table t v → kind_of table t ≡ kinds.Alternate types features → Among a types → ((sort : JsonKind) → json_kind_of (kind_of table a) ≡ Some sort → sort_in (view_of v) ≡ sort) → Fits table a v
  an-alternative {t = t} {v = v} types features a (plain h) k among sorted = absurd (alternate-parts (kind_of table t) (view_of v) types features k h)
  an-alternative types features a (array x vs kx isx fs) k among sorted = let h : kinds.Array x ≡ kinds.Alternate types features = sym kx ∙ k in absurd cc
  an-alternative types features a (object def xs kx isx h fs) k among sorted = let h : kinds.Object def ≡ kinds.Alternate types features = sym kx ∙ k in absurd cc
  an-alternative {t = t} {v = v} types features a (alternate us others b kb among_b f) k among sorted =
      let list : us ≡ types = (let h : kinds.Alternate us others ≡ kinds.Alternate types features = sym kb ∙ k in cc) in
      let of_a = apart.alternatives t types features a k among in
      let of_b = apart.alternatives t types features b k (subst (λ (l : List ℕ). Among b l) list among_b) in
      let sort_b : json_kind_of (kind_of table b) ≡ Some of_a.sort = of_b.is ∙ ap Some (sym (fits-sort of_b.sort f of_b.is) ∙ sorted of_a.sort of_a.is) in
      subst (λ (u : ℕ). Fits table u v) (sym (of_a.alone b (subst (λ (l : List ℕ). Among b l) list among_b) sort_b)) f

  stands-fit : {t u : ℕ} {v w : Json} (whole : Whole) (n : ℤ) → kind_of table u ≡ kinds.Whole whole → view_of w ≡ IsInt n → Stands table t v u w → Fits table t v → Fits table u w
  stands-fit {t = t} {u = u} {v = v} {w = w} whole n ku iw (here e f) h = subst (λ (u : ℕ). Fits table u w) (sym e) (subst (λ (v : Json). Fits table t v) (sym f) h)
  stands-fit whole n ku iw (item x vs y k is among st) h = stands-fit whole n ku iw st (an-item x vs y h k is among)
  stands-fit whole n ku iw (alternative types features a k among st) h = stands-fit whole n ku iw st (an-alternative types features a h k among (λ sort e. stands-sort sort whole n ku iw st e))
  stands-fit whole n ku iw (member given m x is is_member among same st) h = stands-fit whole n ku iw st (a-member given m x h is is_member among same)

  whole-in : (kind : Kind) (view : View) (whole : Whole) (n : ℤ) → kind ≡ kinds.Whole whole → view ≡ IsInt n → fits_plainly kind view ≡ true → is_in_range whole n ≡ true
  whole-in kind view whole n k is h = subst (λ (view : View). fits_plainly (kinds.Whole whole) view ≡ true) is (subst (λ (kind : Kind). fits_plainly kind view ≡ true) k h)

  whole-fits : {u : ℕ} {w : Json} (whole : Whole) (n : ℤ) → kind_of table u ≡ kinds.Whole whole → view_of w ≡ IsInt n → Fits table u w → is_in_range whole n ≡ true
  whole-fits {u = u} {w = w} whole n k is (plain h) = whole-in (kind_of table u) (view_of w) whole n k is h
  whole-fits whole n k is (array x vs kx isx fs) = let h : kinds.Array x ≡ kinds.Whole whole = sym kx ∙ k in absurd cc
  whole-fits whole n k is (alternate us features b kb among_b f) = let h : kinds.Alternate us features ≡ kinds.Whole whole = sym kb ∙ k in absurd cc
  whole-fits whole n k is (object def xs kx isx h fs) = let h : kinds.Object def ≡ kinds.Whole whole = sym kx ∙ k in absurd cc

  pub in-bounds : {t : ℕ} {v : Json} → Fits table t v → IsInBounds table t v
  in-bounds f = λ u w whole n ku iw st. whole-fits whole n ku iw (stands-fit whole n ku iw st f)
