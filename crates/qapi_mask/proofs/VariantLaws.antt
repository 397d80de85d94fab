-- The variants of a union, value by value.
use Rattle.std.proofs.Common.{append_assoc, length-take-le, ◌≡◌, ◌<◌, ◌+◌, ℕ, List, [], ◌∷◌, ◌++◌, length, map, take, get_or, refl, sym, ap, ◌∙◌, subst, arith, Option, Some, option_map}
use Rattle.std.specs.{Option.unwrap_or, Prelude.codes}
use Rattle.std.specs.List.{All}
use Rattle.qm_json.specs.declared.value.Json.{Json}
use Rattle.qm_json.specs.declared.value.Json.TheVariants as json
use Rattle.qapi_types.specs.declared.kind.{Branch.Branch, Kind.Kind, MemberDef.MemberDef, ValueDef.ValueDef}
use Rattle.qapi_types.specs.Types.{branches_of, tag_member, tag_values}
use Rattle.qm_json.specs.declared.value.Member.{Member}
use Rattle.qapi_types.specs.declared.kind.Kind.TheVariants as kinds
use Rattle.qapi_types.specs.{declared.parts.Parts.Parts, Goodness.IsGood, Goodness.RefersBelow}
use Rattle.qm_admit.specs.Tags.{Case, Tag, branch_at, cases_from, tag_of}
use Rattle.qapi_mask.specs.{Below.variant_jsons, Entries.refs_of_tag, Entries.tag_entry, Entries.variant_of, Printing.tag_members, Printing.variant_json, Printing.with_text, Printing.with_value}
use Rattle.qapi_types.specs.Prelude.{HasPrelude, empty_of}
use Rattle.qapi_mask.proofs.{BuildLaws.all-of, ListingLaws.taken, Lists.among-right, Sound.empty-below, Sound.refs-below, TableLaws.cases-long}

jsons-end : (name_of : ℕ → List ℕ) (values : List ValueDef) (types : List ℕ) (v : ValueDef) (t : ℕ) → length values ≡ length types →
    variant_jsons name_of (values ++ v ∷ []) (types ++ t ∷ []) ≡ variant_jsons name_of values types ++ variant_json (record { case = v.name; type = name_of t }) ∷ []
jsons-end name_of [] [] v t l = refl
jsons-end name_of [] (u ∷ types) v t l = cc
jsons-end name_of (w ∷ values) [] v t l = cc
jsons-end name_of (w ∷ values) (u ∷ types) v t l = ap (λ js. variant_json (record { case = w.name; type = name_of u }) ∷ js) (jsons-end name_of values types v t (omega (arith, l)))

-- one value more
pub jsons-more : (name_of : ℕ → List ℕ) (values : List ValueDef) (types : List ℕ) (i : ℕ) (v : ValueDef) (t : ℕ) (items new : List Json) → length types ≡ length values → i < length values →
    v ≡ get_or values i v → t ≡ get_or types i 0 → items ≡ variant_jsons name_of (take i values) (take i types) → new ≡ items ++ variant_json (record { case = v.name; type = name_of t }) ∷ [] →
    new ≡ variant_jsons name_of (take (i + 1) values) (take (i + 1) types)
jsons-more name_of values types i v t items new l m e f before now =
    now ∙ ap (λ js. js ++ variant_json (record { case = v.name; type = name_of t }) ∷ []) before
    ∙ sym (jsons-end name_of (take i values) (take i types) v t (length-take-le i values (omega (arith, m)) ∙ sym (length-take-le i types (omega (arith, l, m)))))
    ∙ (λ k. variant_jsons name_of (ends-values k) (ends-types k))
  where
    ends-values : take i values ++ v ∷ [] ≡ take (i + 1) values
    ends-values = ap (λ x. take i values ++ x ∷ []) e ∙ sym (taken values i v m)

    ends-types : take i types ++ t ∷ [] ≡ take (i + 1) types
    ends-types = ap (λ x. take i types ++ x ∷ []) f ∙ sym (taken types i 0 (omega (arith, l, m)))

jsons-cases : (name_of : ℕ → List ℕ) (branches : List Branch) (empty p : ℕ) (values : List ValueDef) →
    variant_jsons name_of values (map (λ (c : Case). unwrap_or c.branch empty) (cases_from branches p values)) ≡ map variant_json (map (variant_of name_of empty) (cases_from branches p values))
jsons-cases name_of branches empty p [] = refl
jsons-cases name_of branches empty p (v ∷ values) =
    ap (λ js. variant_json (record { case = v.name; type = name_of (unwrap_or (branch_at branches p) empty) }) ∷ js) (jsons-cases name_of branches empty (p + 1) values)

abbrev tag_with : List Kind → Kind → MemberDef → Tag
tag_with table kind m = record { name = m.name; cases = cases_from (branches_of kind) 0 (tag_values table kind) }

tag-is : (table : List Kind) (kind : Kind) (m : MemberDef) → tag_member kind ≡ Some m → tag_of table kind ≡ Some (tag_with table kind m)
tag-is table kind m h = ap (option_map (tag_with table kind)) h

-- the members of an entry that tell of a union's tag
pub tag-told : (table : List Kind) (kind : Kind) (name_of : ℕ → List ℕ) (empty : ℕ) (m : MemberDef) (name types : List ℕ) (value : Json) →
    tag_member kind ≡ Some m → name ≡ m.name → types ≡ refs_of_tag empty (tag_of table kind) → value ≡ json.Arr (variant_jsons name_of (tag_values table kind) types) →
    with_text (codes "tag") name ∷ with_value (codes "variants") value ∷ [] ≡ tag_members (option_map (tag_entry name_of empty) (tag_of table kind))
tag-told table kind name_of empty m name types value h n t v =
    let is = tag-is table kind m h in
    ap (λ x. with_text (codes "tag") x ∷ with_value (codes "variants") value ∷ []) n
    ∙ ap (λ x. with_text (codes "tag") m.name ∷ with_value (codes "variants") x ∷ [])
    (v ∙ ap json.Arr (ap (variant_jsons name_of (tag_values table kind)) (t ∙ ap (refs_of_tag empty) is) ∙ jsons-cases name_of (branches_of kind) empty 0 (tag_values table kind)))
    ∙ sym (ap (λ (o : Option Tag). tag_members (option_map (tag_entry name_of empty) o)) is)

pub types-long : (table : List Kind) (kind : Kind) (empty : ℕ) (m : MemberDef) (types : List ℕ) → tag_member kind ≡ Some m → types ≡ refs_of_tag empty (tag_of table kind) → length types ≡ length (tag_values table kind)
types-long table kind empty m types h t = ap length (t ∙ ap (refs_of_tag empty) (tag-is table kind m h)) ∙ cases-long (branches_of kind) empty 0 (tag_values table kind)

module _ (p : Parts) (good : IsGood p) (prelude : HasPrelude p) where
  variants-in : (kind : Kind) → RefersBelow (length p.kinds) kind → All (λ x. x < length p.kinds) (refs_of_tag (empty_of p) (tag_of p.kinds kind))
  variants-in (kinds.Object def) h = all-of (λ x. x < length p.kinds) _ (λ x a. refs-below p.kinds (length p.kinds) (empty_of p) x (kinds.Object def) (empty-below p good prelude) h (among-right x (map (λ (m : MemberDef). m.type_id) def.members) _ a))
  variants-in kinds.Str h = (λ i d l. absurd (omega (arith, l)))
  variants-in kinds.Number h = (λ i d l. absurd (omega (arith, l)))
  variants-in (kinds.Whole whole) h = (λ i d l. absurd (omega (arith, l)))
  variants-in kinds.Bool h = (λ i d l. absurd (omega (arith, l)))
  variants-in kinds.Null h = (λ i d l. absurd (omega (arith, l)))
  variants-in kinds.Any h = (λ i d l. absurd (omega (arith, l)))
  variants-in (kinds.Enum values features) h = (λ i d l. absurd (omega (arith, l)))
  variants-in (kinds.Array e) h = (λ i d l. absurd (omega (arith, l)))
  variants-in (kinds.Alternate types features) h = (λ i d l. absurd (omega (arith, l)))

  pub variants-within : (kind : Kind) (types : List ℕ) → RefersBelow (length p.kinds) kind → types ≡ refs_of_tag (empty_of p) (tag_of p.kinds kind) → All (λ x. x < length p.kinds) types
  variants-within kind types h is = subst (λ xs. All (λ x. x < length p.kinds) xs) (sym is) (variants-in kind h)

-- members that were put one by one
pub put-two : (m₀ m₁ m₂ : List Member) (a b : Member) → m₁ ≡ m₀ ++ a ∷ [] → m₂ ≡ m₁ ++ b ∷ [] → m₂ ≡ m₀ ++ a ∷ b ∷ []
put-two m₀ m₁ m₂ a b f s = s ∙ ap (λ l. l ++ b ∷ []) f ∙ append_assoc m₀ (a ∷ []) (b ∷ [])

pub put-after : (m₀ m₁ m₂ rest : List Member) (a b c : Member) → m₀ ≡ a ∷ b ∷ [] → m₁ ≡ m₀ ++ c ∷ [] → m₂ ≡ m₁ ++ rest → m₂ ≡ a ∷ b ∷ c ∷ rest
put-after m₀ m₁ m₂ rest a b c f s t = t ∙ ap (λ l. l ++ rest) (s ∙ ap (λ l. l ++ c ∷ []) f)

pub put-on : (m₀ m₁ m₂ m₃ oob rest : List Member) (a b c d : Member) → m₀ ≡ a ∷ b ∷ [] → m₁ ≡ m₀ ++ c ∷ [] → m₂ ≡ m₁ ++ d ∷ [] → m₃ ≡ m₂ ++ oob → (m₄ : List Member) → m₄ ≡ m₃ ++ rest → m₄ ≡ a ∷ b ∷ c ∷ d ∷ (oob ++ rest)
put-on m₀ m₁ m₂ m₃ oob rest a b c d f s t u m₄ v = v ∙ ap (λ l. l ++ rest) (u ∙ ap (λ l. l ++ oob) (t ∙ ap (λ l. l ++ d ∷ []) (s ∙ ap (λ l. l ++ c ∷ []) f)))
