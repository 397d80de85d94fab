-- In a value that fits there is no fault.
use Rattle.std.proofs.Common.{◌≡◌, ℕ, ◌+◌, ◌<◌, Bool, true, false, cond, List, [], ◌∷◌, map, length, refl, ap, sym, ◌∙◌, subst, inl, inr, Option, Some, None, IsSome, find, All, AllPairs}
use Rattle.std.specs.List.{AllByRecursion}
use Rattle.qm_base.specs.Names.{is_named}
use Rattle.qm_json.specs.declared.value.{Json.Json, Json.out-Json, Member.Member}
use Rattle.qm_json.specs.declared.value.Json.TheOpen.{Json-F}
use Rattle.qm_json.specs.declared.value.Json.TheOpen as layer
use Rattle.qapi_types.specs.declared.kind.{JsonKind.JsonKind, Kind.Kind, MemberDef.MemberDef, ObjectDef.ObjectDef}
use Rattle.qapi_types.specs.declared.kind.JsonKind.TheVariants as sorts
use Rattle.qapi_types.specs.declared.kind.Kind.TheVariants as kinds
use Rattle.qapi_types.specs.Types.{kind_of, branch_types, value_names, json_kind_of}
use Rattle.qapi_types.specs.Chains.{NoneOnCycle}
use Rattle.qapi_types.specs.Choices.{AllApart}
use Rattle.qapi_types.specs.Goodness.{HasApartAlternatives, AreToldApart, choices_of as choices_table}
use Rattle.qm_admit.specs.Ranges.{is_in_range}
use Rattle.qm_admit.specs.Views.{View, IsArr, IsObj, view_of, layer_view, kind_in}
use Rattle.qm_admit.specs.Fitting.{Among, fits_plainly, IsMember, HasMandatory, Fits, plain, array, alternate, object, FitItems, no_items, items, FitMembers, no_members, members}
use Rattle.qm_admit.specs.declared.path.PathStep.TheVariants.{Place}
use Rattle.qm_admit.specs.Misfits.{inner_of, inside, items_misfit, is_known, object_misfit, kind_misfit, is_of, alternative_of, walked_as, first_misfit}
use Rattle.qm_admit.specs.Walks.{inners, chosen_types, asked}
use Rattle.qm_admit.proofs.Inductions.{Inside, every-layer}
use Rattle.qm_admit.proofs.Lists.{part-among, all-among, pairs-head, pairs-tail}
use Rattle.qm_admit.proofs.Branches.{within, listed, chosen-member, same-member}
use Rattle.qm_admit.proofs.GivenMembers.{or-none, passes, unchecked, types-none, known-by, none-unknown}
use Rattle.qm_admit.proofs.Fitted.{first-at, IsAlternate, several, one, alternates}

plain-none : (table : List Kind) (t : ℕ) (kind : Kind) (y : Json-F Json Member) → fits_plainly kind (layer_view y) ≡ true → kind_misfit table t kind (asked table y) ≡ None
unfolding asked
plain-none table t kinds.Any y h = refl
plain-none table t kinds.Null layer.Json-F.Null h = refl
plain-none table t kinds.Bool (layer.Json-F.Bool b) h = refl
plain-none table t kinds.Str (layer.Json-F.Str bytes) h = refl
plain-none table t kinds.Number (layer.Json-F.Int n) h = refl
plain-none table t kinds.Number (layer.Json-F.Num text) h = refl
plain-none table t (kinds.Whole whole) (layer.Json-F.Int n) h = passes (is_in_range whole n) _ h
plain-none table t (kinds.Enum values features) (layer.Json-F.Str bytes) h = passes (is_named (value_names (kinds.Enum values features)) bytes) _ h
plain-none table t kind y h = absurd cc

-- the kind of JSON values of what fits a type of one such kind
plain-sort : (kind : Kind) (y : Json-F Json Member) (sort : JsonKind) → fits_plainly kind (layer_view y) ≡ true → json_kind_of kind ≡ Some sort → kind_in y ≡ sort
plain-sort kinds.Any y sort h e = absurd cc
plain-sort kinds.Null layer.Json-F.Null sort h e = cc
plain-sort kinds.Bool (layer.Json-F.Bool b) sort h e = cc
plain-sort kinds.Str (layer.Json-F.Str bytes) sort h e = cc
plain-sort kinds.Number (layer.Json-F.Int n) sort h e = cc
plain-sort kinds.Number (layer.Json-F.Num text) sort h e = cc
plain-sort (kinds.Whole whole) (layer.Json-F.Int n) sort h e = cc
plain-sort (kinds.Enum values features) (layer.Json-F.Str bytes) sort h e = cc
plain-sort kind y sort h e = absurd cc

seen-array : (y : Json-F Json Member) (vs : List Json) → layer_view y ≡ IsArr vs → y ≡ layer.Json-F.Arr vs
seen-array (layer.Json-F.Arr xs) vs e = let h : xs ≡ vs = cc in ap layer.Json-F.Arr h
seen-array y vs e = absurd cc

seen-object : (y : Json-F Json Member) (ms : List Member) → layer_view y ≡ IsObj ms → y ≡ layer.Json-F.Obj ms
seen-object (layer.Json-F.Obj xs) ms e = let h : xs ≡ ms = cc in ap layer.Json-F.Obj h
seen-object y ms e = absurd cc

fits-sort : {table : List Kind} {t : ℕ} {v : Json} (sort : JsonKind) → Fits table t v → json_kind_of (kind_of table t) ≡ Some sort → kind_in (out-Json v) ≡ sort
fits-sort {table = table} {t = t} {v = v} sort (plain h) e = plain-sort (kind_of table t) (out-Json v) sort h e
fits-sort {v = v} sort (array x vs k is fs) e = let h : Some sorts.Array ≡ Some sort = sym (ap json_kind_of k) ∙ e in ap kind_in (seen-array (out-Json v) vs is) ∙ cc
fits-sort sort (alternate types features a k among f) e = let h : None ≡ Some sort = sym (ap json_kind_of k) ∙ e in absurd cc
fits-sort {v = v} sort (object def given k is m fs) e = let h : Some sorts.Object ≡ Some sort = sym (ap json_kind_of k) ∙ e in ap kind_in (seen-object (out-Json v) given is) ∙ cc

is_of-itself : (sort : JsonKind) → is_of sort (Some sort) ≡ true
is_of-itself sorts.Null = refl
is_of-itself sorts.Boolean = refl
is_of-itself sorts.Number = refl
is_of-itself sorts.String = refl
is_of-itself sorts.Array = refl
is_of-itself sorts.Object = refl

is_of-told : (sort : JsonKind) (told : Option JsonKind) → is_of sort told ≡ true → told ≡ Some sort
is_of-told sorts.Null (Some sorts.Null) h = refl
is_of-told sorts.Boolean (Some sorts.Boolean) h = refl
is_of-told sorts.Number (Some sorts.Number) h = refl
is_of-told sorts.String (Some sorts.String) h = refl
is_of-told sorts.Array (Some sorts.Array) h = refl
is_of-told sorts.Object (Some sorts.Object) h = refl
is_of-told sort told h = absurd cc

-- of alternatives told apart, the one of the kind is found
the-alternative : (table : List Kind) (sort : JsonKind) (a : ℕ) (types : List ℕ) → AllPairs (λ t u. json_kind_of (kind_of table t) ≡ json_kind_of (kind_of table u) → ⊥) types → Among a types → json_kind_of (kind_of table a) ≡ Some sort →
    find (λ a. is_of sort (json_kind_of (kind_of table a))) types ≡ Some a
the-alternative table sort a [] h among e = absurd among
the-alternative table sort a (b ∷ types) h among e =
    by_case (λ among. the-alternative table sort a types (pairs-tail (λ t u. json_kind_of (kind_of table t) ≡ json_kind_of (kind_of table u) → ⊥) b types h) among e) (is_of sort (json_kind_of (kind_of table b))) refl among
  where
    by_case : (Among a types → find (λ a. is_of sort (json_kind_of (kind_of table a))) types ≡ Some a) → (r : Bool) → is_of sort (json_kind_of (kind_of table b)) ≡ r → Among a (b ∷ types) →
        cond r (Some b) (find (λ a. is_of sort (json_kind_of (kind_of table a))) types) ≡ Some a
    by_case go true f (inl s) = ap Some s
    by_case go true f (inr x) = absurd (all-among (λ u. json_kind_of (kind_of table b) ≡ json_kind_of (kind_of table u) → ⊥) a types (pairs-head (λ t u. json_kind_of (kind_of table t) ≡ json_kind_of (kind_of table u) → ⊥) b types h) x
        (is_of-told sort (json_kind_of (kind_of table b)) f ∙ sym e))
    by_case go false f (inl s) = let g : false ≡ true = sym f ∙ ap (λ b. is_of sort (json_kind_of (kind_of table b))) s ∙ ap (is_of sort) e ∙ is_of-itself sort in absurd cc
    by_case go false f (inr x) = go x

-- a given member fits as one of the type
record FitsAs (table : List Kind) (given : List Member) (t : ℕ) (x : Member) : Type 0 where
  pub member : MemberDef
  pub is : IsMember table given t member
  pub named : member.name ≡ x.name
  pub fits : Fits table member.type_id x.value

fits-as : {table : List Kind} {given : List Member} {t : ℕ} {xs : List Member} → FitMembers table given t xs → (x : Member) → Among x xs → FitsAs table given t x
fits-as no_members x a = absurd a
fits-as {table = table} {given = given} {t = t} (members m is e f fs) x (inl s) = subst (λ (x : Member). FitsAs table given t x) s (record { member = m; is = is; named = e; fits = f })
fits-as (members m is e f fs) x (inr a) = fits-as fs x a

the-sort : (o : Option JsonKind) → IsSome o → (sort : JsonKind) × (o ≡ Some sort)
the-sort None h = absurd cc
the-sort (Some sort) h = (sort, refl)

module _ (table : List Kind) (cycles : NoneOnCycle (map branch_types table) (length table)) (apart : AllApart (choices_table table)) (told : All (HasApartAlternatives table) table) where
  -- there is no fault in a value that fits
  abbrev pub FaultlessIfFits : Json → Type 0
  FaultlessIfFits v = (t : ℕ) → Fits table t v → first_misfit table t v ≡ None

  items-none : {e : ℕ} {vs : List Json} → FitItems table e vs → AllByRecursion FaultlessIfFits vs → (place : ℕ) → items_misfit e place (map (inner_of table) vs) ≡ None
  items-none no_items all place = refl
  items-none {e = e} (items {v = v} {vs = vs} f fs) all place = or-none _ _ (ap (inside (Place place)) (all.0 e f)) (items-none fs all.1 (place + 1))

  object-none : (given : List Member) (t : ℕ) → HasMandatory table given t → FitMembers table given t given → AllByRecursion (λ (x : Member). FaultlessIfFits x.value) given →
      object_misfit table (inners table given) (chosen_types table given t) ≡ None
  object-none given t mandatory fs all =
      or-none _ _
      (types-none table given types (λ u q m a b. let is = chosen-member table given t u m a b in unchecked table given u q m (mandatory m is) (λ x c e. all-fit m is x c e)))
      (none-unknown table given types all-named)
    where
      types : List ℕ
      types = chosen_types table given t

      all-fit : (m : MemberDef) → IsMember table given t m → (x : Member) → Among x given → x.name ≡ m.name → first_misfit table m.type_id x.value ≡ None
      all-fit m is x c e =
          let f = fits-as fs x c in
          let same : f.member ≡ m = same-member table apart given f.is is (f.named ∙ e) in
          part-among (λ (x : Member). FaultlessIfFits x.value) x given all c m.type_id (subst (λ (m : MemberDef). Fits table m.type_id x.value) same f.fits)

      all-named : (x : Member) → Among x given → is_known table types x.name ≡ true
      all-named x c =
          let f = fits-as fs x c in
          let l = listed table cycles given f.is in
          known-by table given types l.type_id f.member x.name l.among l.member f.named

  plain-at : (v : Json) (y : Json-F Json Member) (t : ℕ) → out-Json v ≡ y → fits_plainly (kind_of table t) (view_of v) ≡ true → kind_misfit table t (kind_of table t) (asked table y) ≡ None
  plain-at v y t o h = plain-none table t (kind_of table t) y (ap (λ (y : Json-F Json Member). fits_plainly (kind_of table t) (layer_view y)) (sym o) ∙ h)

  array-at : (v : Json) (y : Json-F Json Member) (t e : ℕ) (vs : List Json) → out-Json v ≡ y → Inside FaultlessIfFits y → kind_of table t ≡ kinds.Array e → view_of v ≡ IsArr vs → FitItems table e vs →
      kind_misfit table t (kind_of table t) (asked table y) ≡ None
  unfolding asked
  array-at v y t e vs o all k is fs =
      let s = seen-array y vs (ap layer_view (sym o) ∙ is) in
      (λ i. kind_misfit table t (k i) (asked table (s i))) ∙ items-none fs (subst (Inside FaultlessIfFits) s all) 0

  object-at : (v : Json) (y : Json-F Json Member) (t : ℕ) (def : ObjectDef) (given : List Member) → out-Json v ≡ y → Inside FaultlessIfFits y → kind_of table t ≡ kinds.Object def → view_of v ≡ IsObj given → HasMandatory table given t →
      FitMembers table given t given → kind_misfit table t (kind_of table t) (asked table y) ≡ None
  unfolding asked
  object-at v y t def given o all k is m fs =
      let s = seen-object y given (ap layer_view (sym o) ∙ is) in
      (λ i. kind_misfit table t (k i) (asked table (s i))) ∙ object-none given t m fs (subst (Inside FaultlessIfFits) s all)

  -- the same of a type of one kind of JSON values
  one-sort : {t : ℕ} {v : Json} (y : Json-F Json Member) (sort : JsonKind) → out-Json v ≡ y → Inside FaultlessIfFits y → Fits table t v → json_kind_of (kind_of table t) ≡ Some sort → kind_misfit table t (kind_of table t) (asked table y) ≡ None
  one-sort {t = t} {v = v} y sort o all (plain h) e = plain-at v y t o h
  one-sort {t = t} {v = v} y sort o all (array x vs k is fs) e = array-at v y t x vs o all k is fs
  one-sort y sort o all (alternate types features a k among f) e = let h : None ≡ Some sort = sym (ap json_kind_of k) ∙ e in absurd cc
  one-sort {t = t} {v = v} y sort o all (object def given k is m fs) e = object-at v y t def given o all k is m fs

  not-plain : (kind : Kind) (view : View) (types : List ℕ) (features : List (List ℕ)) → kind ≡ kinds.Alternate types features → fits_plainly kind view ≡ true → ⊥
  not-plain kind view types features k h = let g : fits_plainly (kinds.Alternate types features) view ≡ true = subst (λ (kind : Kind). fits_plainly kind view ≡ true) k h in cc

  alone : (t : ℕ) (kind : Kind) (sort : JsonKind) (view : View) → IsAlternate table sort t kind → fits_plainly kind view ≡ true → alternative_of table sort t kind ≡ Some t
  alone t kind sort view (several types features) h = absurd (not-plain kind view types features refl h)
  alone t kind sort view (one e) h = e

  told-apart : (t : ℕ) (types : List ℕ) (features : List (List ℕ)) → kind_of table t ≡ kinds.Alternate types features → AreToldApart table types
  told-apart t types features k =
      let l : t < length table = within table t (λ (kind : Kind). kind ≡ kinds.Alternate types features) k (λ e. cc) in
      subst (λ (kind : Kind). HasApartAlternatives table kind) k (told t kinds.Null l)

  faultless : {t : ℕ} {v : Json} (y : Json-F Json Member) → out-Json v ≡ y → Inside FaultlessIfFits y → Fits table t v → walked_as table (alternative_of table (kind_in y) t (kind_of table t)) (asked table y) ≡ None
  faultless {t = t} {v = v} y o all (plain h) =
      ap (λ o. walked_as table o (asked table y)) (alone t (kind_of table t) (kind_in y) (view_of v) (alternates table (kind_in y) t (kind_of table t)) h) ∙ plain-at v y t o h
  faultless {t = t} {v = v} y o all (array e vs k is fs) = ap (λ kind. walked_as table (alternative_of table (kind_in y) t kind) (asked table y)) k ∙ array-at v y t e vs o all k is fs
  faultless {t = t} {v = v} y o all (object def given k is m fs) = ap (λ kind. walked_as table (alternative_of table (kind_in y) t kind) (asked table y)) k ∙ object-at v y t def given o all k is m fs
  faultless {t = t} {v = v} y o all (alternate types features a k among f) =
      let apart = told-apart t types features k in
      let sort = the-sort (json_kind_of (kind_of table a)) (all-among (λ t. IsSome (json_kind_of (kind_of table t))) a types apart.0 among) in
      let is : kind_in y ≡ sort.0 = ap kind_in (sym o) ∙ fits-sort sort.0 f sort.1 in
      ap (λ kind. walked_as table (alternative_of table (kind_in y) t kind) (asked table y)) k
      ∙ ap (λ o. walked_as table o (asked table y)) (the-alternative table (kind_in y) a types apart.1 among (sort.1 ∙ ap Some (sym is)))
      ∙ one-sort y sort.0 o all f sort.1

  pub no-fault : (v : Json) → FaultlessIfFits v
  no-fault = every-layer FaultlessIfFits (λ v y o all t f. first-at table t v y o ∙ faultless y o all f)
