-- A value in which there is no fault fits, where it is clean.
use Rattle.std.proofs.Common.{◌≡◌, ℕ, ◌+◌, true, ◌&&◌, List, [], ◌∷◌, map, length, refl, ap, sym, ◌∙◌, inl, inr, Option, Some, None, find}
use Rattle.std.specs.List.{list_all, AllByRecursion}
use Rattle.std.proofs.lemmas.Bool.{and_parts}
use Rattle.qm_base.specs.Names.{is_named}
use Rattle.qm_json.specs.declared.value.{Json.Json, Json.out-Json, Json.roll-Json, Member.Member}
use Rattle.qm_json.specs.declared.value.Json.TheVariants.{rolls-Arr, rolls-Obj}
use Rattle.qm_json.specs.declared.value.Json.TheViews.{roll-out-Json}
use Rattle.qm_json.specs.declared.value.Json.TheOpen.{Json-F}
use Rattle.qm_json.specs.declared.value.Json.TheOpen as layer
use Rattle.qm_json.specs.Cleanness.{IsClean, is_clean, is_clean_member, are_distinct}
use Rattle.qm_json.specs.Members.{has_name}
use Rattle.qm_json.proofs.CleanLaws.{is_clean-Arr, is_clean-Obj, is_clean_member-is}
use Rattle.qm_json.proofs.Distinct.{names}
use Rattle.qapi_types.specs.declared.kind.{JsonKind.JsonKind, Kind.Kind, MemberDef.MemberDef, ObjectDef.ObjectDef}
use Rattle.qapi_types.specs.declared.kind.Kind.TheVariants as kinds
use Rattle.qapi_types.specs.Types.{kind_of, branch_types, value_names, json_kind_of}
use Rattle.qapi_types.specs.Chains.{NoneOnCycle}
use Rattle.qm_admit.specs.Ranges.{is_in_range}
use Rattle.qm_admit.specs.Views.{layer_view, kind_in}
use Rattle.qm_admit.specs.Fitting.{Among, fits_plainly, IsMember, HasMandatory, Fits, plain, array, alternate, object, FitItems, no_items, items, FitMembers, no_members, members}
use Rattle.qm_admit.specs.Misfits.{inner_of, items_misfit, types_misfit, object_misfit, kind_misfit, is_of, alternative_of, walked_as, first_misfit}
use Rattle.qm_admit.specs.Walks.{inners, chosen_types, asked}
use Rattle.qm_admit.proofs.{Layers.first-is, Inductions.Inside, Inductions.every-layer}
use Rattle.qm_admit.proofs.Lists.{part-among, passes-among, found-among}
use Rattle.qm_admit.proofs.Branches.{listed, chosen-member}
use Rattle.qm_admit.proofs.GivenMembers.{or-first, or-second, mapped-none, passed, named-once, has-among, Checked, gone, good, types-each, Known, all-known}

-- the first fault of a value, by its layer
pub first-at : (table : List Kind) (t : ℕ) (v : Json) (y : Json-F Json Member) → out-Json v ≡ y → first_misfit table t v ≡ walked_as table (alternative_of table (kind_in y) t (kind_of table t)) (asked table y)
first-at table t v y o = first-is table t v ∙ ap (λ (y : Json-F Json Member). walked_as table (alternative_of table (kind_in y) t (kind_of table t)) (asked table y)) o

-- why a layer has no fault at a type of the kind
pub data IsFaultless (table : List Kind) (t : ℕ) : Kind → Json-F Json Member → Type 0 where
  by_itself : {kind : Kind} {y : Json-F Json Member} → fits_plainly kind (layer_view y) ≡ true → IsFaultless table t kind y
  by_items : (e : ℕ) (vs : List Json) → items_misfit e 0 (map (inner_of table) vs) ≡ None → IsFaultless table t (kinds.Array e) (layer.Json-F.Arr vs)
  by_members : (def : ObjectDef) (given : List Member) → object_misfit table (inners table given) (chosen_types table given t) ≡ None → IsFaultless table t (kinds.Object def) (layer.Json-F.Obj given)

faultless-layer : (table : List Kind) (t : ℕ) (kind : Kind) (y : Json-F Json Member) → kind_misfit table t kind (asked table y) ≡ None → IsFaultless table t kind y
unfolding asked
faultless-layer table t kinds.Any y h = by_itself refl
faultless-layer table t kinds.Null layer.Json-F.Null h = by_itself refl
faultless-layer table t kinds.Bool (layer.Json-F.Bool b) h = by_itself refl
faultless-layer table t kinds.Str (layer.Json-F.Str bytes) h = by_itself refl
faultless-layer table t kinds.Number (layer.Json-F.Int n) h = by_itself refl
faultless-layer table t kinds.Number (layer.Json-F.Num text) h = by_itself refl
faultless-layer table t (kinds.Whole whole) (layer.Json-F.Int n) h = by_itself (passed (is_in_range whole n) _ h)
faultless-layer table t (kinds.Enum values features) (layer.Json-F.Str bytes) h = by_itself (passed (is_named (value_names (kinds.Enum values features)) bytes) _ h)
faultless-layer table t (kinds.Array e) (layer.Json-F.Arr vs) h = by_items e vs h
faultless-layer table t (kinds.Object def) (layer.Json-F.Obj given) h = by_members def given h
faultless-layer table t kind y h = absurd cc

-- whether a type of the kind is an alternate, or its values are walked as of the type itself
pub data IsAlternate (table : List Kind) (sort : JsonKind) (t : ℕ) : Kind → Type 0 where
  several : (types features : _) → IsAlternate table sort t (kinds.Alternate types features)
  one : {kind : Kind} → alternative_of table sort t kind ≡ Some t → IsAlternate table sort t kind

pub alternates : (table : List Kind) (sort : JsonKind) (t : ℕ) (kind : Kind) → IsAlternate table sort t kind
alternates table sort t (kinds.Alternate types features) = several types features
alternates table sort t kind = one refl

clean-items : (v : Json) (vs : List Json) → out-Json v ≡ layer.Json-F.Arr vs → IsClean v → list_all is_clean vs ≡ true
clean-items v vs o c = sym (is_clean-Arr vs) ∙ ap is_clean (sym (rolls-Arr vs) ∙ ap roll-Json (sym o) ∙ roll-out-Json v) ∙ c

clean-members : (v : Json) (ms : List Member) → out-Json v ≡ layer.Json-F.Obj ms → IsClean v → (are_distinct (names ms) && list_all is_clean_member ms) ≡ true
clean-members v ms o c = sym (is_clean-Obj ms) ∙ ap is_clean (sym (rolls-Obj ms) ∙ ap roll-Json (sym o) ∙ roll-out-Json v) ∙ c

module _ (table : List Kind) (cycles : NoneOnCycle (map branch_types table) (length table)) where
  -- a value in which there is no fault fits
  abbrev pub FitsUnlessFaulty : Json → Type 0
  FitsUnlessFaulty v = IsClean v → (t : ℕ) → first_misfit table t v ≡ None → Fits table t v

  fit-items : (e place : ℕ) (vs : List Json) → AllByRecursion FitsUnlessFaulty vs → list_all is_clean vs ≡ true → items_misfit e place (map (inner_of table) vs) ≡ None → FitItems table e vs
  fit-items e place [] all c h = no_items
  fit-items e place (v ∷ vs) all c h =
      let parts = and_parts _ _ c in
      items (all.0 parts.0 e (mapped-none _ _ (or-first _ _ h)))
      (fit-items e (place + 1) vs all.1 parts.1 (or-second _ _ h))

  fit-members : (given : List Member) (t : ℕ) (xs : List Member) → ((x : Member) → Among x xs → Among x given) → AllByRecursion (λ (x : Member). FitsUnlessFaulty x.value) given → are_distinct (names given) ≡ true →
      list_all is_clean_member given ≡ true → ((x : Member) → Among x given → Known table given (chosen_types table given t) x.name) → ((m : MemberDef) → IsMember table given t m → Checked table given m) → FitMembers table given t xs
  fit-members given t [] within all d c known checks = no_members
  fit-members given t (x ∷ xs) within all d c known checks =
      let a = within x (inl refl) in
      let k = known x a in
      let m = chosen-member table given t k.type_id k.member k.among k.is in
      let clean : IsClean x.value = (and_parts _ _ (sym (is_clean_member-is x) ∙ passes-among is_clean_member x given c a)).1 in
      members k.member m k.named (part-among (λ (x : Member). FitsUnlessFaulty x.value) x given all a clean k.member.type_id (unfaulty x a k.member k.named (checks k.member m)))
      (fit-members given t xs (λ y a. within y (inr a)) all d c known checks)
    where
      unfaulty : (x : Member) → Among x given → (m : MemberDef) → m.name ≡ x.name → Checked table given m → first_misfit table m.type_id x.value ≡ None
      unfaulty x a m e (gone none o) = absurd (none x a (sym e))
      unfaulty x a m e (good y b f h) = ap (λ (x : Member). first_misfit table m.type_id x.value) (named-once x y given d a b (sym e ∙ sym f)) ∙ h

  mandatory-given : (given : List Member) (t : ℕ) → ((m : MemberDef) → IsMember table given t m → Checked table given m) → HasMandatory table given t
  mandatory-given given t checks m is o = by_check (checks m is)
    where
      by_check : Checked table given m → has_name given m.name ≡ true
      by_check (gone none p) = absurd cc
      by_check (good y b f h) = has-among y m.name given b f

  checks-of : (given : List Member) (t : ℕ) → types_misfit table (inners table given) (chosen_types table given t) ≡ None → (m : MemberDef) → IsMember table given t m → Checked table given m
  checks-of given t h m is = let l = listed table cycles given is in types-each table given (chosen_types table given t) h l.type_id m l.among l.member

  fit-kind : (v : Json) (t : ℕ) (kind : Kind) (y : Json-F Json Member) → IsFaultless table t kind y → kind_of table t ≡ kind → out-Json v ≡ y → IsClean v → Inside FitsUnlessFaulty y → Fits table t v
  fit-kind v t kind y (by_itself h) k o c all = plain ((λ i. fits_plainly (k i) (layer_view (o i))) ∙ h)
  fit-kind v t kind y (by_items e vs h) k o c all = array e vs k (ap layer_view o) (fit-items e 0 vs all (clean-items v vs o c) h)
  fit-kind v t kind y (by_members def given h) k o c all =
      let types = chosen_types table given t in
      let parts = and_parts _ _ (clean-members v given o c) in
      let checks = checks-of given t (or-first _ _ h) in
      let known = all-known table given types (or-second _ _ h) in
      object def given k (ap layer_view o) (mandatory-given given t checks) (fit-members given t given (λ x a. a) all parts.0 parts.1 known checks)

  fit-layer : (v : Json) (y : Json-F Json Member) → out-Json v ≡ y → Inside FitsUnlessFaulty y → FitsUnlessFaulty v
  fit-layer v y o all c t h = by_alternate (kind_of table t) (alternates table (kind_in y) t (kind_of table t)) refl
    where
      walk : walked_as table (alternative_of table (kind_in y) t (kind_of table t)) (asked table y) ≡ None
      walk = sym (first-at table t v y o) ∙ h

      at : (a : ℕ) → walked_as table (Some a) (asked table y) ≡ None → Fits table a v
      at a w = fit-kind v a (kind_of table a) y (faultless-layer table a (kind_of table a) y w) refl o c all

      by_found : (types : List ℕ) (features : List (List ℕ)) (found : Option ℕ) → kind_of table t ≡ kinds.Alternate types features → find (λ a. is_of (kind_in y) (json_kind_of (kind_of table a))) types ≡ found →
          walked_as table found (asked table y) ≡ None → Fits table t v
      by_found types features None k f w = absurd cc
      by_found types features (Some a) k f w = alternate types features a k (found-among (λ a. is_of (kind_in y) (json_kind_of (kind_of table a))) a types f) (at a w)

      by_alternate : (kind : Kind) → IsAlternate table (kind_in y) t kind → kind_of table t ≡ kind → Fits table t v
      by_alternate kind (several types features) k =
          let e = ap (alternative_of table (kind_in y) t) k in
          by_found types features (find (λ a. is_of (kind_in y) (json_kind_of (kind_of table a))) types) k refl (ap (λ o. walked_as table o (asked table y)) (sym e) ∙ walk)
      by_alternate kind (one e) k = at t (ap (λ o. walked_as table o (asked table y)) (sym (ap (alternative_of table (kind_in y) t) k ∙ e)) ∙ walk)

  pub fit : (v : Json) → FitsUnlessFaulty v
  fit = every-layer FitsUnlessFaulty fit-layer
