-- Tags and branches of definitions without a fault.
use Rattle.std.proofs.Common.{◌≡◌, ◌<◌, ◌+◌, ◌&&◌, ◌==◌, ℕ, Bool, true, false, not, cond, nat_eq, List, [], ◌∷◌, length, map, get_or, All, Option, Some, None, is_some, IfSome, slice_get, option_map, option_and_then, unwrap_or, refl, sym, ap, ◌∙◌, subst, arith, bytes_eq}
use Rattle.std.specs.{List.AllPairs, List.list_any}
use Rattle.std.proofs.lemmas.{Bool.Decides.Decides-eqb, Option.none-some, Option.same_Some, Option.slice_get-map, Option.slice_get_within}
use Rattle.std.proofs.lemmas.List.{get_or-map, length-map, Elements.All-map, Elements.All-nil}
use Rattle.qapi_types.specs.declared.kind.{Branch.Branch, Kind.Kind, MemberDef.MemberDef, ValueDef.ValueDef}
use Rattle.qapi_types.specs.declared.kind.Kind.TheVariants as kinds
use Rattle.qapi_types.specs.Choices.{AllApart, AreApart, names_of, stands, stays}
use Rattle.qapi_types.specs.Goodness.{HasBranches, HasPositions, HasTag, HaveOwnValues}
use Rattle.qapi_types.specs.Types.{branches_of, member_names, members_of as kind_members, tag_position}
use Rattle.qapi_types.specs.{Goodness.choices_of, Lookups.place_of, Types.is_enum, Types.is_object, Types.kind_of, Types.tag_values, Types.value_names, Types.values_at, Types.values_of}
use Rattle.qapi_types.proofs.{ChoiceLaws.itself, NameLemmas.list_any-map, FaultLaws.names-at}
use Rattle.qapi_define.specs.declared.definition.{Definition.Definition, EnumValue.EnumValue, Member.Member, Sort.Sort, Variant.Variant}
use Rattle.qapi_define.specs.declared.definition.Part.TheVariants as part
use Rattle.qapi_define.specs.declared.definition.Sort.TheVariants as sorts
use Rattle.qapi_define.specs.Saying.{discriminator_of, variants_of}
use Rattle.qapi_define.specs.Saying.{values_of as written_values}
use Rattle.qapi_rules.specs.{Clashes.clash_of_variant, Cycles.cycles_pass, NamesRules.names_pass}
use Rattle.qapi_rules.specs.Meanings.{Entity, nothing, built_in, defined, entity_of, has_value, is_alternate_sort, is_type}
use Rattle.qapi_rules.specs.Meanings.{is_enum as means_enum}
use Rattle.qapi_rules.specs.References.{branch_without_value, enum_of_branches, enum_of_member, members_of_base, references_pass, unless}
use Rattle.qapi_number.specs.declared.{implicit.ImplicitType.ImplicitType, numbering.Numbering.Numbering}
use Rattle.qapi_number.specs.declared.implicit.ImplicitType.TheVariants as implicit
use Rattle.qapi_number.specs.Kinds.{all_members, branch_def, builtin_kinds, implicit_kind, kind_defined, kinds_of, member_def, member_defs, object_with, qtype_names, qtype_number, tag_names, tag_of, value_names_at}
use Rattle.qapi_number.specs.{Numbering.number_of_implicit, Numbering.numbering_of, Numbering.type_number}
use Rattle.qapi_number.specs.TypeNames.{number_of_name, types_of}
use Rattle.qapi_check.proofs.ListLaws.{In, all-in, any-in, found, in-at, in-get_or, first_some-none, first_some-some, weaker-recursion}
use Rattle.qapi_check.proofs.NameLaws.{taken-none, variants-part, part-apart}
use Rattle.qapi_check.proofs.NamedLaws.{IsOwn, Named, own, given, any-flip, fits, kind-given, kind-own, name-at, named-type, number-of, object-same, own-at, place-once, same-name}
use Rattle.qapi_check.proofs.NumberLaws.{kind-defined, kinds-all, kinds-long}
use Rattle.qapi_check.proofs.ReferenceLaws.{IsReferring, no-pairs, pairs-over, referring, unless-none, variant-type}
use Rattle.qapi_check.proofs.GraphLaws.{base-members, both, branch-may, negated}
use Rattle.qapi_check.proofs.ApartLaws.{branches-of-union, names-of-values}

-- the member that chooses among the branches
record IsTag (defs : List Definition) (d : Definition) (t : ℕ) (name : List ℕ) (m : Member) : Type 0 where
  among : In m (all_members (types_of defs) t)
  named : m.name ≡ name
  mandatory : m.optional ≡ false
  plain : m.of.is_array ≡ false
  enum : means_enum (entity_of defs m.of.name) ≡ true
  values : (v : Variant) → In v (variants_of d) → has_value v.name (entity_of defs m.of.name) ≡ true

-- the member by its place among the numbered ones
pub record IsPlaced (n : Numbering) (d : Definition) (t p : ℕ) (m : Member) : Type 0 where
  pub tag : tag_of d (member_defs n (all_members n.types t)) ≡ Some p
  pub at : slice_get (member_defs n (all_members n.types t)) p ≡ Some (member_def n m)

enum-type : (e : Entity) → means_enum e ≡ true → is_type e ≡ true
enum-type nothing h = cc
enum-type (built_in b) h = refl
enum-type (defined d) h = by_sort d.sort refl h
  where
    by_sort : (s : Sort) → d.sort ≡ s → means_enum (defined d) ≡ true → is_type (defined d) ≡ true
    by_sort sorts.Enum q h = rw q refl
    by_sort sorts.Struct q h = rw q refl
    by_sort sorts.Union q h = rw q refl
    by_sort sorts.Alternate q h = rw q refl
    by_sort sorts.Command q h = (let k = rw q at h in cc)
    by_sort sorts.Event q h = (let k = rw q at h in cc)

-- a member of which the rules take the enum
record IsEnumMember (defs : List Definition) (name : List ℕ) (m : Member) (e : Entity) : Type 0 where
  named : m.name ≡ name
  mandatory : m.optional ≡ false
  plain : m.of.is_array ≡ false
  enum : means_enum (entity_of defs m.of.name) ≡ true
  is : entity_of defs m.of.name ≡ e

enum-member : (defs : List Definition) (name : List ℕ) (m : Member) (e : Entity) → enum_of_member defs name m ≡ Some e → IsEnumMember defs name m e
enum-member defs name m e h = by_case (bytes_eq m.name name && not m.optional && not m.of.is_array && means_enum (entity_of defs m.of.name)) refl h
  where
    by_case : (b : Bool) → (bytes_eq m.name name && not m.optional && not m.of.is_array && means_enum (entity_of defs m.of.name)) ≡ b → cond b (Some (entity_of defs m.of.name)) None ≡ Some e → IsEnumMember defs name m e
    by_case false q k = absurd (none-some e k)
    by_case true q k =
        let a = both (bytes_eq m.name name && not m.optional && not m.of.is_array) (means_enum (entity_of defs m.of.name)) q in
        let b = both (bytes_eq m.name name && not m.optional) (not m.of.is_array) a.0 in
        let c = both (bytes_eq m.name name) (not m.optional) b.0 in
        record { named = same-name m.name name c.0; mandatory = negated m.optional c.1; plain = negated m.of.is_array b.1; enum = a.1; is = same_Some (entity_of defs m.of.name) e k }

-- the enum's values, by numbers and as they are written

enum-names : (n : Numbering) (s : Sort) (t : ℕ) (d : Definition) → d.sort ≡ s → means_enum (defined d) ≡ true → value_names (kind_defined n s t d) ≡ map (λ (v : EnumValue). v.name) (written_values d)
enum-names n sorts.Enum t d e h = names-of-values (written_values d)
enum-names n sorts.Struct t d e h = (let k = rw e at h in cc)
enum-names n sorts.Union t d e h = (let k = rw e at h in cc)
enum-names n sorts.Alternate t d e h = (let k = rw e at h in cc)
enum-names n sorts.Command t d e h = (let k = rw e at h in cc)
enum-names n sorts.Event t d e h = (let k = rw e at h in cc)

tag-values : (defs : List Definition) (name : List ℕ) → Named defs name → means_enum (entity_of defs name) ≡ true →
    value_names_at (types_of defs) (number_of_name (types_of defs) name) ≡ value_names (kind_of (kinds_of (numbering_of defs) defs) (number_of_name (types_of defs) name))
tag-values defs name (own d o) h =
    ap (value_names_at (types_of defs)) (number-of (types_of defs) name o.number o.typed)
    ∙ ap (λ b. cond b qtype_names (map (λ (v : EnumValue). v.name) (unwrap_or (option_map written_values (slice_get (types_of defs) o.number)) []))) other
    ∙ ap (λ p. map (λ (v : EnumValue). v.name) (unwrap_or (option_map written_values p) [])) o.at_number
    ∙ sym (ap value_names (kind-own defs name d o) ∙ enum-names (numbering_of defs) d.sort o.number d refl (subst (λ x. means_enum x ≡ true) o.means h))
  where
    other : (o.number == qtype_number (types_of defs)) ≡ false
    other = differs (nat_eq o.number (qtype_number (types_of defs))) refl
      where
        differs : (b : Bool) → nat_eq o.number (qtype_number (types_of defs)) ≡ b → b ≡ false
        differs false e = refl
        differs true e = (let l = slice_get_within (types_of defs) o.number d o.at_number in let q : o.number ≡ length (types_of defs) + 15 = (Decides-eqb o.number (length (types_of defs) + 15)).0 e in absurd (omega (arith, l, q)))
tag-values defs name (given k g) h =
    let q : k ≡ 15 = (fits k name g.named).last (subst (λ x. means_enum x ≡ true) g.means h) in
    ap (value_names_at (types_of defs)) (number-of (types_of defs) name (length (types_of defs) + k) g.typed)
    ∙ ap (λ b. cond b qtype_names (map (λ (v : EnumValue). v.name) (unwrap_or (option_map written_values (slice_get (types_of defs) (length (types_of defs) + k))) []))) ((Decides-eqb (length (types_of defs) + k) (length (types_of defs) + 15)).1 (ap (λ (j : ℕ). length (types_of defs) + j) q))
    ∙ sym (ap value_names (kind-given defs name k g) ∙ ap (λ (j : ℕ). value_names (get_or builtin_kinds j kinds.Null)) q)

enum-defined : (n : Numbering) (s : Sort) (t : ℕ) (d : Definition) → d.sort ≡ s → means_enum (defined d) ≡ true → is_enum (kind_defined n s t d) ≡ true
enum-defined n sorts.Enum t d e h = refl
enum-defined n sorts.Struct t d e h = (let k = rw e at h in cc)
enum-defined n sorts.Union t d e h = (let k = rw e at h in cc)
enum-defined n sorts.Alternate t d e h = (let k = rw e at h in cc)
enum-defined n sorts.Command t d e h = (let k = rw e at h in cc)
enum-defined n sorts.Event t d e h = (let k = rw e at h in cc)

enum-same : (defs : List Definition) (name : List ℕ) → Named defs name → means_enum (entity_of defs name) ≡ true → is_enum (kind_of (kinds_of (numbering_of defs) defs) (number_of_name (types_of defs) name)) ≡ true
enum-same defs name (own d o) h = ap is_enum (kind-own defs name d o) ∙ enum-defined (numbering_of defs) d.sort o.number d refl (subst (λ e. means_enum e ≡ true) o.means h)
enum-same defs name (given k g) h = ap is_enum (kind-given defs name k g) ∙ (fits k name g.named).enum ∙ subst (λ e. means_enum e ≡ true) g.means h

-- a value of the enum stands among the names
value-stands : (defs : List Definition) (name v : List ℕ) → Named defs name → means_enum (entity_of defs name) ≡ true → has_value v (entity_of defs name) ≡ true → stands v (value_names_at (types_of defs) (number_of_name (types_of defs) name)) ≡ true
value-stands defs name v (own d o) m h =
    let k : list_any (λ (value : EnumValue). bytes_eq value.name v) (written_values d) ≡ true = subst (λ e. has_value v e ≡ true) o.means h in
    let l : stands v (map (λ (v : EnumValue). v.name) (written_values d)) ≡ true = sym (any-flip v (map (λ (v : EnumValue). v.name) (written_values d))) ∙ list_any-map (λ (value : EnumValue). value.name) (λ x. bytes_eq x v) (written_values d) ∙ k in
    subst (λ l. stands v l ≡ true) (sym (tag-values defs name (own d o) m ∙ ap value_names (kind-own defs name d o) ∙ enum-names (numbering_of defs) d.sort o.number d refl (subst (λ x. means_enum x ≡ true) o.means m))) l
value-stands defs name v (given k g) m h = subst (λ l. stands v l ≡ true) (sym (tag-values defs name (given k g) m ∙ ap value_names (kind-given defs name k g))) ((fits k name g.named).values v (subst (λ e. has_value v e ≡ true) g.means h))

-- two branches of different names
abbrev Unlike : Variant → Variant → Type 0
Unlike v w = v.name ≡ w.name → ⊥

before-unlike : (before : List Variant) (w : Variant) → clash_of_variant before w ≡ None → (v : Variant) → In v before → Unlike v w
before-unlike before w h v i e =
    let n : stands w.name (map (λ (x : Variant). x.name) before) ≡ false = taken-none (map (λ (x : Variant). x.name) before) w.name h in
    let k : list_any (λ (x : Variant). bytes_eq w.name x.name) before ≡ true = any-in (λ (x : Variant). bytes_eq w.name x.name) v before i (subst (λ z. bytes_eq w.name z ≡ true) (sym e) (itself w.name)) in
    let l : stands w.name (map (λ (x : Variant). x.name) before) ≡ true = list_any-map (λ (x : Variant). x.name) (bytes_eq w.name) before ∙ k in
    cc

variants-unlike : (defs : List Definition) (d : Definition) → names_pass defs ≡ None → In d defs → AllPairs Unlike (variants_of d)
variants-unlike defs d names i = variants-part d (λ vs. AllPairs Unlike vs) (no-pairs Unlike) (λ vs j. pairs-over Unlike clash_of_variant before-unlike [] vs (part-apart defs d (part.Variants vs) names i j) (no-pairs Unlike))

-- the values that choose branches of different names differ
values-differ : (n : Numbering) (names : List (List ℕ)) (vs : List Variant) → ((v : Variant) → In v vs → stands v.name names ≡ true) → AllPairs Unlike vs → HaveOwnValues (map (branch_def n names) vs)
values-differ n names [] f u = λ x y e l m. absurd (omega arith)
values-differ n names (v ∷ vs) f u = λ x y e l m.
    (let z : length (map (branch_def n names) (v ∷ vs)) ≡ length (v ∷ vs) = length-map (v ∷ vs) (branch_def n names) in
    let q : y < length (v ∷ vs) = omega (arith, m, z) in
    let p : x < length (v ∷ vs) = omega (arith, l, q) in
    λ h. differ (get_or (v ∷ vs) x v) (get_or (v ∷ vs) y v) (f _ (in-get_or (v ∷ vs) x v p)) (f _ (in-get_or (v ∷ vs) y v q)) (u x y v l q)
    (ap (λ (b : Branch). b.value) (sym (get_or-map (branch_def n names) (v ∷ vs) x v e p)) ∙ h ∙ ap (λ (b : Branch). b.value) (get_or-map (branch_def n names) (v ∷ vs) y v e q)))
  where
    differ : (a b : Variant) → stands a.name names ≡ true → stands b.name names ≡ true → Unlike a b → unwrap_or (place_of names a.name) 0 ≡ unwrap_or (place_of names b.name) 0 → ⊥
    differ a b s t w h =
        let i : (k : ℕ) × (place_of names a.name ≡ Some k) = found (bytes_eq a.name) names s in
        let j : (k : ℕ) × (place_of names b.name ≡ Some k) = found (bytes_eq b.name) names t in
        let k : i.0 ≡ j.0 = sym (ap (λ (o : Option ℕ). unwrap_or o 0) i.1) ∙ h ∙ ap (λ (o : Option ℕ). unwrap_or o 0) j.1 in
        w (same_Some a.name b.name (sym (name-at names a.name i.0 i.1) ∙ ap (slice_get names) k ∙ name-at names b.name j.0 j.1))

-- the place of a value that stands is within the values
value-within : (names : List (List ℕ)) (name : List ℕ) → stands name names ≡ true → unwrap_or (place_of names name) 0 < length names
value-within names name s =
    let i : (k : ℕ) × (place_of names name ≡ Some k) = found (bytes_eq name) names s in
    let l = slice_get_within names i.0 name (name-at names name i.0 i.1) in
    let e : unwrap_or (place_of names name) 0 ≡ i.0 = ap (λ (o : Option ℕ). unwrap_or o 0) i.1 in
    omega (arith, l, e)

module _ (defs : List Definition) (names : names_pass defs ≡ None) (references : references_pass defs ≡ None) (cycles : cycles_pass defs ≡ None) where
  -- the discriminator is a member
  tag-member : (d : Definition) (t : ℕ) (name : List ℕ) → slice_get (types_of defs) t ≡ Some d → IsReferring defs d → discriminator_of d ≡ Some name → (m : Member) × IsTag defs d t name m
  tag-member d t name g r e = by_enum (enum_of_branches defs d name) refl
    where
      some : is_some (enum_of_branches defs d name) ≡ true
      some = unless-none (is_some (enum_of_branches defs d name)) name (sym (ap (λ o. option_and_then (λ name. unless (is_some (enum_of_branches defs d name)) name) o) e) ∙ r.discriminator)

      by_enum : (o : Option Entity) → enum_of_branches defs d name ≡ o → (m : Member) × IsTag defs d t name m
      by_enum None h = (let k = rw h at some in cc)
      by_enum (Some e2) h =
          let k : (m : Member) × In m (members_of_base defs d) × (enum_of_member defs name m ≡ Some e2) = first_some-some (enum_of_member defs name) e2 (members_of_base defs d) h in
          let i : IsEnumMember defs name k.0 e2 = enum-member defs name k.0 e2 k.2 in
          let b : branch_without_value e2 (variants_of d) ≡ None = sym (ap (λ o. option_and_then (λ entity. branch_without_value entity (variants_of d)) (option_and_then (enum_of_branches defs d) o)) e ∙ ap (λ o. option_and_then (λ entity. branch_without_value entity (variants_of d)) o) h) ∙ r.branch in (
            k.0,
            record {
              among = base-members defs names references cycles t d k.0 g k.1;
              named = i.named;
              mandatory = i.mandatory;
              plain = i.plain;
              enum = i.enum;
              values = λ v j. subst (λ x. has_value v.name x ≡ true) (sym i.is) (unless-none (has_value v.name e2) v.name (first_some-none (λ (v : Variant). unless (has_value v.name e2) v.name) v (variants_of d) b j));
            },
          )

  placed-tag : (d : Definition) (t : ℕ) (name : List ℕ) (m : Member) → IsTag defs d t name m → discriminator_of d ≡ Some name → AreApart (map (λ (m : MemberDef). m.name) (member_defs (numbering_of defs) (all_members (types_of defs) t))) → (p : ℕ) × IsPlaced (numbering_of defs) d t p m
  placed-tag d t name m k e apart =
      let i : (p : ℕ) × (slice_get (all_members (types_of defs) t) p ≡ Some m) = in-at m (all_members (types_of defs) t) k.among in
      let a : slice_get (member_defs (numbering_of defs) (all_members (types_of defs) t)) i.0 ≡ Some (member_def (numbering_of defs) m) = slice_get-map (member_def (numbering_of defs)) (all_members (types_of defs) t) i.0 ∙ ap (option_map (member_def (numbering_of defs))) i.1 in
      let b : slice_get (map (λ (m : MemberDef). m.name) (member_defs (numbering_of defs) (all_members (types_of defs) t))) i.0 ≡ Some name =
      slice_get-map (λ (m : MemberDef). m.name) (member_defs (numbering_of defs) (all_members (types_of defs) t)) i.0 ∙ ap (option_map (λ (m : MemberDef). m.name)) a ∙ ap (λ x. Some x) k.named in (
        i.0,
        record {
          tag = ap (option_and_then (place_of (map (λ (m : MemberDef). m.name) (member_defs (numbering_of defs) (all_members (types_of defs) t))))) e ∙ place-once i.0 (map (λ (m : MemberDef). m.name) (member_defs (numbering_of defs) (all_members (types_of defs) t))) name b apart;
          at = a;
        },
      )

  -- the type that has no name of arrays
  plain-number : (m : Member) → m.of.is_array ≡ false → type_number (numbering_of defs) m.of ≡ number_of_name (types_of defs) m.of.name
  plain-number m e = ap (λ b. cond b (number_of_implicit (numbering_of defs) (implicit.Array (number_of_name (types_of defs) m.of.name))) (number_of_name (types_of defs) m.of.name)) e

  tag-type : (d : Definition) (t : ℕ) (name : List ℕ) (m : Member) → IsTag defs d t name m → Named defs m.of.name
  tag-type d t name m k = named-type defs m.of.name names (enum-type (entity_of defs m.of.name) k.enum)

-- the members of a type by numbers
abbrev pub members_by : List Definition → ℕ → List MemberDef
members_by defs t = member_defs (numbering_of defs) (all_members (types_of defs) t)

abbrev pub all_kinds : List Definition → List Kind
all_kinds defs = kinds_of (numbering_of defs) defs

abbrev object_by : List Definition → Definition → ℕ → Kind
object_by defs d t = kinds.Object (object_with (numbering_of defs) d (members_by defs t))

abbrev names_by : List Definition → Definition → ℕ → List (List ℕ)
names_by defs d t = tag_names (types_of defs) (members_by defs t) (tag_of d (members_by defs t))

-- the names of the branches are values of the tag
record IsValued (defs : List Definition) (d : Definition) (t : ℕ) : Type 0 where
  stand : (v : Variant) → In v (variants_of d) → stands v.name (names_by defs d t) ≡ true
  long : length (tag_values (all_kinds defs) (object_by defs d t)) ≡ length (names_by defs d t)

-- positions, tag and branches of a type are as they should be
abbrev pub IsUnionGood : List Kind → Kind → Type 0
IsUnionGood table kind = HasPositions table kind × HasTag table kind × HasBranches table kind

without-tag : (table : List Kind) (kind : Kind) → tag_position kind ≡ None → branches_of kind ≡ [] → IsUnionGood table kind
without-tag table kind t b = (
  (subst (λ (o : Option ℕ). IfSome o (λ p. p < length (kind_members kind))) (sym t) tt, subst (λ bs. All (λ (b : Branch). b.value < length (tag_values table kind)) bs) (sym b) (All-nil (λ (b : Branch). b.value < length (tag_values table kind)))),
  subst (λ (o : Option ℕ). IfSome (option_and_then (λ p. slice_get (kind_members kind) p) o) (λ (m : MemberDef). (m.optional ≡ false) × (is_enum (kind_of table m.type_id) ≡ true))) (sym t) tt,
  (subst (λ bs. All (λ (b : Branch). is_object (kind_of table b.type_id) ≡ true) bs) (sym b) (All-nil (λ (b : Branch). is_object (kind_of table b.type_id) ≡ true)), subst HaveOwnValues (sym b) (no-pairs (λ (b c : Branch). b.value ≡ c.value → ⊥))),
)

module _ (defs : List Definition) (names : names_pass defs ≡ None) (references : references_pass defs ≡ None) (cycles : cycles_pass defs ≡ None) where
  -- a type without a discriminator has no branches
  no-branches : (d : Definition) (v : Variant) → discriminator_of d ≡ None → is_alternate_sort d.sort ≡ false → In v (variants_of d) → ⊥
  no-branches d v e a j = let u = branches-of-union d v a j in let k : is_some (discriminator_of d) ≡ false = ap is_some e in (let l = u.1 in cc)

  valued : (d : Definition) (t : ℕ) → slice_get (types_of defs) t ≡ Some d → In d defs → IsReferring defs d → is_alternate_sort d.sort ≡ false → AreApart (map (λ (m : MemberDef). m.name) (members_by defs t)) → IsValued defs d t
  valued d t g i r a apart = by_name (discriminator_of d) refl
    where
      by_name : (o : Option (List ℕ)) → discriminator_of d ≡ o → IsValued defs d t
      by_name None e =
          let n : tag_of d (members_by defs t) ≡ None = ap (option_and_then (place_of (map (λ (m : MemberDef). m.name) (members_by defs t)))) e in
          record {
            stand = λ v j. absurd (no-branches d v e a j);
            long = ap (λ (o : Option ℕ). length (values_at (all_kinds defs) (option_and_then (λ p. slice_get (members_by defs t) p) o))) n ∙ sym (ap (λ (o : Option ℕ). length (tag_names (types_of defs) (members_by defs t) o)) n);
          }
      by_name (Some name) e =
          let m : (m : Member) × IsTag defs d t name m = tag-member defs names references cycles d t name g r e in
          let p : (p : ℕ) × IsPlaced (numbering_of defs) d t p m.0 = placed-tag defs names references cycles d t name m.0 m.1 e apart in
          let w : Named defs m.0.of.name = tag-type defs names references cycles d t name m.0 m.1 in
          let q : type_number (numbering_of defs) m.0.of ≡ number_of_name (types_of defs) m.0.of.name = plain-number defs names references cycles m.0 m.1.plain in
          let there : names_by defs d t ≡ value_names_at (types_of defs) (number_of_name (types_of defs) m.0.of.name) =
          ap (tag_names (types_of defs) (members_by defs t)) p.1.tag
          ∙ ap (λ (o : Option MemberDef). unwrap_or (option_map (λ (m : MemberDef). value_names_at (types_of defs) m.type_id) o) []) p.1.at
          ∙ ap (value_names_at (types_of defs)) q in
          let values : length (tag_values (all_kinds defs) (object_by defs d t)) ≡ length (values_of (kind_of (all_kinds defs) (number_of_name (types_of defs) m.0.of.name))) =
          ap (λ (o : Option ℕ). length (values_at (all_kinds defs) (option_and_then (λ p. slice_get (members_by defs t) p) o))) p.1.tag
          ∙ ap (λ (o : Option MemberDef). length (values_at (all_kinds defs) o)) p.1.at
          ∙ ap (λ (k : ℕ). length (values_of (kind_of (all_kinds defs) k))) q in
          record {
            stand = λ v j. subst (λ l. stands v.name l ≡ true) (sym there) (value-stands defs m.0.of.name v.name w m.1.enum (m.1.values v j));
            long =
                values
                ∙ sym (length-map (values_of (kind_of (all_kinds defs) (number_of_name (types_of defs) m.0.of.name))) (λ (v : ValueDef). v.name))
                ∙ ap length (sym (tag-values defs m.0.of.name w m.1.enum)) ∙ ap length (sym there);
          }

  own-tag : (d : Definition) (t : ℕ) → slice_get (types_of defs) t ≡ Some d → IsReferring defs d → AreApart (map (λ (m : MemberDef). m.name) (members_by defs t)) → HasTag (all_kinds defs) (object_by defs d t)
  own-tag d t g r apart = by_name (discriminator_of d) refl
    where
      by_name : (o : Option (List ℕ)) → discriminator_of d ≡ o → HasTag (all_kinds defs) (object_by defs d t)
      by_name None e =
          let n : tag_of d (members_by defs t) ≡ None = ap (option_and_then (place_of (map (λ (m : MemberDef). m.name) (members_by defs t)))) e in
          subst (λ (o : Option ℕ). IfSome (option_and_then (λ p. slice_get (members_by defs t) p) o) (λ (m : MemberDef). (m.optional ≡ false) × (is_enum (kind_of (all_kinds defs) m.type_id) ≡ true))) (sym n) tt
      by_name (Some name) e =
          let m : (m : Member) × IsTag defs d t name m = tag-member defs names references cycles d t name g r e in
          let p : (p : ℕ) × IsPlaced (numbering_of defs) d t p m.0 = placed-tag defs names references cycles d t name m.0 m.1 e apart in
          let w : Named defs m.0.of.name = tag-type defs names references cycles d t name m.0 m.1 in
          let q : type_number (numbering_of defs) m.0.of ≡ number_of_name (types_of defs) m.0.of.name = plain-number defs names references cycles m.0 m.1.plain in
          subst (λ (o : Option MemberDef). IfSome o (λ (m : MemberDef). (m.optional ≡ false) × (is_enum (kind_of (all_kinds defs) m.type_id) ≡ true))) (sym (ap (option_and_then (λ p. slice_get (members_by defs t) p)) p.1.tag ∙ p.1.at))
          (m.1.mandatory, ap (λ (k : ℕ). is_enum (kind_of (all_kinds defs) k)) q ∙ enum-same defs m.0.of.name w m.1.enum)

  tag-within : (d : Definition) (t : ℕ) → IfSome (tag_of d (members_by defs t)) (λ p. p < length (members_by defs t))
  tag-within d t = by_name (discriminator_of d)
    where
      by_place : (name : List ℕ) (o : Option ℕ) → place_of (map (λ (m : MemberDef). m.name) (members_by defs t)) name ≡ o → IfSome o (λ p. p < length (members_by defs t))
      by_place name None e = tt
      by_place name (Some p) e = let l = slice_get_within (map (λ (m : MemberDef). m.name) (members_by defs t)) p name (name-at (map (λ (m : MemberDef). m.name) (members_by defs t)) name p e) in let n : length (map (λ (m : MemberDef). m.name) (members_by defs t)) ≡ length (members_by defs t) = length-map (members_by defs t) (λ (m : MemberDef). m.name) in omega (arith, l, n)

      by_name : (o : Option (List ℕ)) → IfSome (option_and_then (place_of (map (λ (m : MemberDef). m.name) (members_by defs t))) o) (λ p. p < length (members_by defs t))
      by_name None = tt
      by_name (Some name) = by_place name (place_of (map (λ (m : MemberDef). m.name) (members_by defs t)) name) refl

  own-good : (d : Definition) (t : ℕ) → slice_get (types_of defs) t ≡ Some d → In d defs → IsReferring defs d → is_alternate_sort d.sort ≡ false → AreApart (map (λ (m : MemberDef). m.name) (members_by defs t)) → IsUnionGood (all_kinds defs) (object_by defs d t)
  own-good d t g i r a apart =
      let v : IsValued defs d t = valued d t g i r a apart in (
        (
          tag-within d t,
          All-map (λ (b : Branch). b.value < length (tag_values (all_kinds defs) (object_by defs d t))) (branch_def (numbering_of defs) (names_by defs d t)) (variants_of d)
              (all-in (λ (w : Variant). unwrap_or (place_of (names_by defs d t) w.name) 0 < length (tag_values (all_kinds defs) (object_by defs d t))) (variants_of d) (λ w j. (let l = value-within (names_by defs d t) w.name (v.stand w j) in omega (arith, l, v.long)))),
        ),
        own-tag d t g r apart,
        (
          All-map (λ (b : Branch). is_object (kind_of (all_kinds defs) b.type_id) ≡ true) (branch_def (numbering_of defs) (names_by defs d t)) (variants_of d)
              (all-in (λ (w : Variant). is_object (kind_of (all_kinds defs) (type_number (numbering_of defs) w.of)) ≡ true) (variants_of d) (λ w j. object w j)),
          values-differ (numbering_of defs) (names_by defs d t) (variants_of d) v.stand (variants-unlike defs d names i),
        ),
      )
    where
      object : (w : Variant) → In w (variants_of d) → is_object (kind_of (all_kinds defs) (type_number (numbering_of defs) w.of)) ≡ true
      object w j =
          let m = branch-may defs d w r a j in
          ap (λ b. is_object (kind_of (all_kinds defs) (cond b (number_of_implicit (numbering_of defs) (implicit.Array (number_of_name (types_of defs) w.of.name))) (number_of_name (types_of defs) w.of.name)))) m.0
          ∙ object-same defs w.of.name (named-type defs w.of.name names (variant-type defs d r w j)) m.1

  defined-good : (s : Sort) (t : ℕ) (d : Definition) → d.sort ≡ s → slice_get (types_of defs) t ≡ Some d → In d defs → IsReferring defs d → AreApart (member_names (kind_defined (numbering_of defs) s t d)) → IsUnionGood (all_kinds defs) (kind_defined (numbering_of defs) s t d)
  defined-good sorts.Enum t d e g i r apart = without-tag (all_kinds defs) (kind_defined (numbering_of defs) sorts.Enum t d) refl refl
  defined-good sorts.Alternate t d e g i r apart = without-tag (all_kinds defs) (kind_defined (numbering_of defs) sorts.Alternate t d) refl refl
  defined-good sorts.Struct t d e g i r apart = own-good d t g i r (ap is_alternate_sort e) apart
  defined-good sorts.Union t d e g i r apart = own-good d t g i r (ap is_alternate_sort e) apart
  defined-good sorts.Command t d e g i r apart = own-good d t g i r (ap is_alternate_sort e) apart
  defined-good sorts.Event t d e g i r apart = own-good d t g i r (ap is_alternate_sort e) apart

  implicit-good : (x : ImplicitType) → IsUnionGood (all_kinds defs) (implicit_kind (numbering_of defs) defs x)
  implicit-good (implicit.Array e) = without-tag (all_kinds defs) (kinds.Array e) refl refl
  implicit-good (implicit.Members at) = without-tag (all_kinds defs) (implicit_kind (numbering_of defs) defs (implicit.Members at)) refl refl
  implicit-good implicit.Empty = without-tag (all_kinds defs) (implicit_kind (numbering_of defs) defs implicit.Empty) refl refl

  -- positions, tags and branches are in order, where no type has a member's name twice
  pub unions-good : AllApart (choices_of (all_kinds defs)) → All (IsUnionGood (all_kinds defs)) (all_kinds defs)
  unions-good apart = kinds-all (IsUnionGood (all_kinds defs)) (numbering_of defs) defs
      (λ t d g. (let w : IsOwn defs d.name d = own-at defs d t names g in defined-good d.sort t d refl g w.among (referring defs d references w.among) (own-names t d g)))
      (weaker-recursion (λ k. (tag_position k ≡ None) × (branches_of k ≡ [])) (IsUnionGood (all_kinds defs)) (λ k h. without-tag (all_kinds defs) k h.0 h.1) builtin_kinds
      ((refl, refl), ((refl, refl), ((refl, refl), ((refl, refl), ((refl, refl), ((refl, refl), ((refl, refl), ((refl, refl), ((refl, refl), ((refl, refl), ((refl, refl), ((refl, refl), ((refl, refl), ((refl, refl), ((refl, refl), ((refl, refl), tt)))))))))))))))))
      (λ x h. implicit-good x)
    where
      own-names : (t : ℕ) (d : Definition) → slice_get (types_of defs) t ≡ Some d → AreApart (member_names (kind_defined (numbering_of defs) d.sort t d))
      own-names t d g =
          let l = slice_get_within (types_of defs) t d g in
          let n : length (map member_names (all_kinds defs)) ≡ length (all_kinds defs) = length-map (all_kinds defs) member_names in
          subst AreApart (names-at (all_kinds defs) t ∙ ap member_names (kind-defined (numbering_of defs) defs t d g)) (apart t (omega (arith, l, n, kinds-long (numbering_of defs) defs)) (names_of (map member_names (all_kinds defs)) t) (stays t))
