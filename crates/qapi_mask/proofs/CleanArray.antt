-- The introspection array of parts whose names are UTF-8 is clean.
use Rattle.std.proofs.Common.{◌≡◌, ◌≤◌, ◌+◌, ℕ, zero, suc, Bool, true, false, cond, List, [], ◌∷◌, ◌++◌, map, length, refl, sym, ◌∙◌, subst, inl, inr, arith, Option, Some, None, slice_get}
use Rattle.std.specs.Prelude.{codes, option_map}
use Rattle.std.specs.{List.All, List.flat_map, Option.option_and_then, Option.unwrap_or}
use Rattle.std.proofs.Math.Dec.{eqb}
use Rattle.std.proofs.lemmas.{Bool.and_from, Fmt.IsAscii-decimal, List.Folds.list_all-append, Str.IsUtf8-append, Str.IsUtf8-from_is_utf8, Str.is_utf8-from_IsUtf8}
use Rattle.qm_json.specs.declared.value.{Json.Json, Member.Member}
use Rattle.qm_json.specs.declared.value.Json.TheVariants as json
use Rattle.qm_json.specs.Cleanness.{IsClean, is_clean}
use Rattle.qm_json.proofs.CleanLaws.{is_clean-Arr, is_clean-Bool}
use Rattle.qapi_types.specs.declared.kind.{Branch.Branch, Kind.Kind, MemberDef.MemberDef, ObjectDef.ObjectDef, ValueDef.ValueDef}
use Rattle.qapi_types.specs.declared.kind.Kind.TheVariants as kinds
use Rattle.qapi_types.specs.declared.parts.{CommandDef.CommandDef, EventDef.EventDef, Parts.Parts}
use Rattle.qapi_types.specs.Texts.{HasTexts, names_within}
use Rattle.qapi_types.specs.{Prelude.empty_of, Types.kind_of, Types.tag_member, Types.tag_values, Types.values_at, Types.values_of}
use Rattle.qm_admit.specs.{Fitting.Among, Tags.Case, Tags.Tag, Tags.cases_from}
use Rattle.qapi_mask.specs.Calls.{Call, Command, Event, calls_of}
use Rattle.qapi_mask.specs.Entries.{entry_of, member_entry, tag_entry, value_entry, variant_of}
use Rattle.qapi_mask.specs.Introspection.{call_json, entry_at, introspection_of, oob_members, type_json}
use Rattle.qapi_mask.specs.Naming.{argument_type, builtin_of, element_of, listed_of, mask_in, mask_of, numbered_of, own_name_in, own_name_of, place_of}
use Rattle.qapi_mask.specs.Printing.{features_members, with_text}
use Rattle.qapi_mask.proofs.CleanEntries.{AreClean, AreNamed, Each, IsEntryText, IsMemberText, IsTagText, IsText, IsValueText, IsVariantText, all-each, ascii-text, clean-entry, clean-text, clean-value, clean-with, each-map, mark, more, none, text}
use Rattle.qapi_mask.proofs.Elements.{all-among, all-index}
use Rattle.qapi_mask.proofs.Introduced.{among-given}
use Rattle.qapi_mask.proofs.Lists.{among-left, among-right}
use Rattle.qapi_mask.proofs.NamingLaws.{numbered-few}
use Rattle.qapi_mask.proofs.Sound.{IsOf, IsSound, calls-are-of}

place-most : {X : Type 0} (test : X → Bool) (xs : List X) → place_of test xs ≤ length xs
place-most test [] = omega arith
place-most test (x ∷ xs) = by_case (test x) (place-most test xs)
  where
    by_case : (b : Bool) → place_of test xs ≤ length xs → cond b zero (suc (place_of test xs)) ≤ suc (length xs)
    by_case true h = omega arith
    by_case false h = omega (arith, h)

builtin-text : (kind : Kind) (name : List ℕ) → builtin_of kind ≡ Some name → IsText name
builtin-text kinds.Str name h = subst IsText (let e : codes "str" ≡ name = cc in e) (text (codes "str") refl)
builtin-text kinds.Number name h = subst IsText (let e : codes "number" ≡ name = cc in e) (text (codes "number") refl)
builtin-text (kinds.Whole whole) name h = subst IsText (let e : codes "int" ≡ name = cc in e) (text (codes "int") refl)
builtin-text kinds.Bool name h = subst IsText (let e : codes "bool" ≡ name = cc in e) (text (codes "bool") refl)
builtin-text kinds.Null name h = subst IsText (let e : codes "null" ≡ name = cc in e) (text (codes "null") refl)
builtin-text kinds.Any name h = subst IsText (let e : codes "any" ≡ name = cc in e) (text (codes "any") refl)
builtin-text kind name h = absurd cc

append-text : (a b : List ℕ) → IsText a → IsText b → IsText (a ++ b)
append-text a b h k = is_utf8-from_IsUtf8 (a ++ b) (IsUtf8-append a b (IsUtf8-from_is_utf8 a h) (IsUtf8-from_is_utf8 b k))

got-among : {X : Type 0} (xs : List X) (k : ℕ) (x : X) → slice_get xs k ≡ Some x → Among x xs
got-among [] k x h = absurd cc
got-among (y ∷ xs) zero x h = inl cc
got-among (y ∷ xs) (suc k) x h = inr (got-among xs k x h)

-- the name of a case is that of a value
case-text : (branches : List Branch) (p : ℕ) (values : List ValueDef) → Each (λ (v : ValueDef). IsText v.name) values → Each (λ (c : Case). IsText c.name) (cases_from branches p values)
case-text branches p [] h c a = absurd a
case-text branches p (v ∷ values) h c (inl e) = subst (λ (c : Case). IsText c.name) e (h v (inl refl))
case-text branches p (v ∷ values) h c (inr a) = case-text branches (p + 1) values (λ w b. h w (inr b)) c a

value-text : (kind : Kind) → Each IsText (names_within kind) → Each (λ (v : ValueDef). IsText v.name) (values_of kind)
value-text (kinds.Enum values features) h v a = h v.name (among-left v.name (flat_map (λ (v : ValueDef). v.name ∷ v.features) values) features (among-given (λ (v : ValueDef). v.name ∷ v.features) v.name v values a (inl refl)))
value-text kind h v a = absurd a

tag-among : (ms : List MemberDef) (o : Option ℕ) (m : MemberDef) → option_and_then (λ q. slice_get ms q) o ≡ Some m → Among m ms
tag-among ms None m h = absurd cc
tag-among ms (Some q) m h = got-among ms q m h

module _ (p : Parts) (good : IsSound p) (texts : HasTexts p) where
  own-text-at : (t : ℕ) (o : Option (List ℕ)) → builtin_of (kind_of p.kinds t) ≡ o → IsText (own_name_in p t o)
  own-text-at t (Some name) h = builtin-text (kind_of p.kinds t) name h
  own-text-at t None h =
      let n : ℕ = place_of (λ u. eqb u t) (numbered_of p) in
      let a = place-most (λ u. eqb u t) (numbered_of p) in
      let b = numbered-few p good in
      let c = good.few in
      ascii-text _ (IsAscii-decimal n (omega (arith, a, b, c)))

  own-text : (t : ℕ) → IsText (own_name_of p t)
  own-text t = own-text-at t (builtin_of (kind_of p.kinds t)) refl

  mask-text-at : (t : ℕ) (o : Option ℕ) → IsText (mask_in p t o)
  mask-text-at t None = own-text t
  mask-text-at t (Some e) = append-text (codes "[") _ (text (codes "[") refl) (append-text (own_name_of p e) (codes "]") (own-text e) (text (codes "]") refl))

  mask-text : (t : ℕ) → IsText (mask_of p t)
  mask-text t = mask-text-at t (element_of (kind_of p.kinds t))

  kind-texts : (t : ℕ) → Each IsText (names_within (kind_of p.kinds t))
  kind-texts t name a = all-among IsText name (names_within (kind_of p.kinds t)) (all-index (λ (kind : Kind). All IsText (names_within kind)) kinds.Null p.kinds t texts.types (λ k d l. absurd (omega (arith, l)))) a

  -- commands and events

  clean-oob : (b : Bool) → AreClean (oob_members b)
  clean-oob false = none
  clean-oob true = more (clean-value (codes "allow-oob") (json.Bool true) refl (is_clean-Bool true)) none

  abbrev told : List ℕ → List ℕ → List ℕ → Bool → List Member
  told name arg ret oob = with_text (codes "name") name ∷ with_text (codes "meta-type") (codes "command") ∷ with_text (codes "arg-type") arg ∷ with_text (codes "ret-type") ret ∷ oob_members oob

  distinct : (name arg ret : List ℕ) (b : Bool) → AreNamed (told name arg ret b)
  distinct name arg ret true = refl
  distinct name arg ret false = refl

  distinct-marked : (name arg ret : List ℕ) (b : Bool) → AreNamed (told name arg ret b ++ mark)
  distinct-marked name arg ret true = refl
  distinct-marked name arg ret false = refl

  clean-command : (name arg ret : List ℕ) (oob : Bool) (features : List (List ℕ)) → IsText name → IsText arg → IsText ret → Each IsText features →
      is_clean (json.Obj (told name arg ret oob ++ features_members features)) ≡ true
  clean-command name arg ret oob features n a r h = clean-with (told name arg ret oob) features (distinct name arg ret oob) (distinct-marked name arg ret oob)
      (more (clean-text (codes "name") name refl n)
      (more (clean-text (codes "meta-type") (codes "command") refl (text (codes "command") refl))
      (more (clean-text (codes "arg-type") arg refl a)
      (more (clean-text (codes "ret-type") ret refl r) (clean-oob oob))))) h

  clean-event : (name arg : List ℕ) (features : List (List ℕ)) → IsText name → IsText arg → Each IsText features →
      is_clean (json.Obj ((with_text (codes "name") name ∷ with_text (codes "meta-type") (codes "event") ∷ with_text (codes "arg-type") arg ∷ []) ++ features_members features)) ≡ true
  clean-event name arg features n a h = clean-with (with_text (codes "name") name ∷ with_text (codes "meta-type") (codes "event") ∷ with_text (codes "arg-type") arg ∷ []) features refl refl
      (more (clean-text (codes "name") name refl n)
      (more (clean-text (codes "meta-type") (codes "event") refl (text (codes "event") refl))
      (more (clean-text (codes "arg-type") arg refl a) none))) h

  clean-call : (call : Call) → IsOf p call → is_clean (call_json p call) ≡ true
  clean-call (Command c) a =
      let names = all-among (λ (c : CommandDef). All IsText (c.name ∷ c.features)) c p.commands texts.commands a in
      clean-command c.name (mask_of p (argument_type p.kinds c.arg)) (mask_of p c.ret) c.allow_oob c.features (all-among IsText c.name (c.name ∷ c.features) names (inl refl)) (mask-text (argument_type p.kinds c.arg)) (mask-text c.ret)
      (λ f b. all-among IsText f (c.name ∷ c.features) names (inr b))
  clean-call (Event e) a =
      let names = all-among (λ (e : EventDef). All IsText (e.name ∷ e.features)) e p.events texts.events a in
      clean-event e.name (mask_of p e.arg) e.features (all-among IsText e.name (e.name ∷ e.features) names (inl refl)) (mask-text e.arg) (λ f b. all-among IsText f (e.name ∷ e.features) names (inr b))

  -- types

  variant-texts : (branches : List Branch) (values : List ValueDef) → Each (λ (v : ValueDef). IsText v.name) values → Each IsVariantText (map (variant_of (mask_of p) (empty_of p)) (cases_from branches 0 values))
  variant-texts branches values h = each-map IsVariantText (variant_of (mask_of p) (empty_of p)) (cases_from branches 0 values) (λ c a. (case-text branches 0 values h c a, mask-text (unwrap_or c.branch (empty_of p))))

  values-text : (m : MemberDef) → Each (λ (v : ValueDef). IsText v.name) (values_at p.kinds (Some m))
  values-text m = value-text (kind_of p.kinds m.type_id) (kind-texts m.type_id)

  tag-texts : (def : ObjectDef) (o : Option MemberDef) → tag_member (kinds.Object def) ≡ o → Each (λ (m : MemberDef). IsText m.name) def.members →
      IsTagText (option_map (tag_entry (mask_of p) (empty_of p)) (option_map (λ (m : MemberDef). let t : Tag = record { name = m.name; cases = cases_from def.branches 0 (tag_values p.kinds (kinds.Object def)) } in t) o))
  tag-texts def None e h = tt
  tag-texts def (Some m) e h =
      let values : Each (λ (v : ValueDef). IsText v.name) (tag_values p.kinds (kinds.Object def)) = subst (λ (o : Option MemberDef). Each (λ (v : ValueDef). IsText v.name) (values_at p.kinds o)) (sym e) (values-text m) in
      (h m (tag-among def.members def.tag m e), variant-texts def.branches (tag_values p.kinds (kinds.Object def)) values)

  entry-text : (kind : Kind) → Each IsText (names_within kind) → IsEntryText (entry_of p.kinds (mask_of p) (empty_of p) kind)
  entry-text kinds.Str h = text (codes "string") refl
  entry-text kinds.Number h = text (codes "number") refl
  entry-text (kinds.Whole whole) h = text (codes "int") refl
  entry-text kinds.Bool h = text (codes "boolean") refl
  entry-text kinds.Null h = text (codes "null") refl
  entry-text kinds.Any h = text (codes "value") refl
  entry-text (kinds.Array e) h = mask-text e
  entry-text (kinds.Alternate types features) h = (each-map IsText (mask_of p) types (λ t a. mask-text t), h)
  entry-text (kinds.Enum values features) h =
      let named : ValueDef → List (List ℕ) = λ (v : ValueDef). v.name ∷ v.features in
      let within : (v : ValueDef) (n : List ℕ) → Among v values → Among n (named v) → IsText n = λ v n a b. h n (among-left n (flat_map named values) features (among-given named n v values a b)) in
      (each-map IsValueText value_entry values (λ v a. (within v v.name a (inl refl), λ f b. within v f a (inr b))), λ f b. h f (among-right f (flat_map named values) features b))
  entry-text (kinds.Object def) h =
      let named : MemberDef → List (List ℕ) = λ (m : MemberDef). m.name ∷ m.features in
      let within : (m : MemberDef) (n : List ℕ) → Among m def.members → Among n (named m) → IsText n = λ m n a b. h n (among-left n (flat_map named def.members) def.features (among-given named n m def.members a b)) in (
        each-map IsMemberText (member_entry (mask_of p)) def.members (λ m a. (within m m.name a (inl refl), mask-text m.type_id, λ f b. within m f a (inr b))),
        tag-texts def (tag_member (kinds.Object def)) refl (λ m a. within m m.name a (inl refl)),
        λ f b. h f (among-right f (flat_map named def.members) def.features b),
      )

  clean-type : (t : ℕ) → is_clean (type_json p t) ≡ true
  clean-type t = clean-entry (mask_of p t) (entry_at p t) (mask-text t) (entry-text (kind_of p.kinds t) (kind-texts t))

  pub array-clean : IsClean (introspection_of p)
  array-clean =
      let calls : List Json = map (call_json p) (calls_of p) in
      let types : List Json = map (type_json p) (listed_of p) in
      is_clean-Arr (calls ++ types) ∙ list_all-append is_clean calls types ∙ and_from _ _
      (all-each is_clean calls (each-map (λ (v : Json). is_clean v ≡ true) (call_json p) (calls_of p) (λ call a. clean-call call (calls-are-of p (length p.commands + length p.events) call a))))
      (all-each is_clean types (each-map (λ (v : Json). is_clean v ≡ true) (type_json p) (listed_of p) (λ t a. clean-type t)))
