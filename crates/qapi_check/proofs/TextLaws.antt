-- The names in the table of definitions without a bad name are UTF-8.
use Rattle.std.proofs.Common.{◌≡◌, ◌+◌, ℕ, Bool, true, false, cond, List, [], ◌∷◌, ◌++◌, length, codes, All, Option, Some, None, slice_get, unwrap_or, option_map, Result, IfOk, refl, sym, subst, inl, inr, arith}
use Rattle.std.specs.List.{enumerate_from, filter, flat_map}
use Rattle.std.specs.{Option.option_and_then, Str.is_utf8}
use Rattle.std.proofs.lemmas.List.Elements.{All-cons, All-nil}
use Rattle.qapi_types.specs.declared.kind.{MemberDef.MemberDef, ValueDef.ValueDef}
use Rattle.qapi_types.specs.declared.parts.{CommandDef.CommandDef, EventDef.EventDef, Parts.Parts}
use Rattle.qapi_types.specs.Texts.{AreTexts, HasTexts, names_within}
use Rattle.qapi_define.specs.declared.definition.{Definition.Definition, EnumValue.EnumValue, Member.Member, Part.Part, Sort.Sort}
use Rattle.qapi_define.specs.declared.definition.Part.TheVariants as part
use Rattle.qapi_define.specs.declared.definition.Sort.TheVariants as sorts
use Rattle.qapi_define.specs.Saying.{base_members_in, base_members_of, features_in, features_of, first_some, members_in, members_of, values_in, values_of}
use Rattle.qapi_load.specs.declared.source.Source.{Source}
use Rattle.qapi_rules.specs.declared.fault.CheckFault.{CheckFault}
use Rattle.qapi_rules.specs.BadNames.{bad, bad_feature, bad_in, bad_member, bad_member_name, bad_name, bad_value, in_order}
use Rattle.qapi_rules.specs.{Names.is_name, Names.without_star, NamesRules.names_pass, NamesRules.names_rules}
use Rattle.qapi_number.specs.declared.{implicit.ImplicitType.ImplicitType, numbering.Numbering.Numbering}
use Rattle.qapi_number.specs.declared.implicit.ImplicitType.TheVariants as implicit
use Rattle.qapi_number.specs.Kinds.{all_members, bases_of, implicit_kind, kind_defined, line_from, member_def, member_defs, members_at, own_members, own_members_at, qtype_kind, value_def, value_defs}
use Rattle.qapi_number.specs.{Numbering.numbering_of, TypeNames.is_type_sort}
use Rattle.qapi_number.specs.PartsOf.{calls_of, command_in, commands_of, event_in, events_of, is_call_sort, parts_of}
use Rattle.qapi_check.specs.Checking.{checked_sources, first_fault, table_unless}
use Rattle.qapi_check.specs.Passes.{all_definitions, names_fault, numbered}
use Rattle.qapi_check.proofs.ListLaws.{In, all-in, at-in, by-recursion, enumerated-in, filter-in, first_some-none, first_some-some, flat_map-in, in-either, map-in, or-none, over-none}
use Rattle.qapi_check.proofs.{NameLaws.bad-none, NameTexts.literal, NameTexts.name-text, NumberLaws.kinds-all}

abbrev IsText : List ℕ → Type 0
IsText name = is_utf8 name ≡ true

-- each name of the list is UTF-8
abbrev EachText : List (List ℕ) → Type 0
EachText names = (name : List ℕ) → In name names → IsText name

texts : (names : List (List ℕ)) → EachText names → AreTexts names
texts names h = all-in IsText names h

bad-text : (digit_first : Bool) (name other : List ℕ) → cond (is_name digit_first name) None (Some other) ≡ None → IsText name
bad-text digit_first name other h = by_case (is_name digit_first name) refl h
  where
    by_case : (b : Bool) → is_name digit_first name ≡ b → cond b None (Some other) ≡ None → IsText name
    by_case true e k = name-text digit_first name e
    by_case false e k = cc

features-text : (features : List (List ℕ)) → bad_feature features ≡ None → EachText features
features-text features h name i = bad-text false name (without_star name) (first_some-none (bad false) name features h i)

member-text : (m : Member) → bad_member m ≡ None → EachText (m.name ∷ m.features)
member-text m h name i =
    let n : (bad_member_name m.name ≡ None) × (bad_feature m.features ≡ None) = or-none _ _ h in by_case n name i
  where
    by_case : (bad_member_name m.name ≡ None) × (bad_feature m.features ≡ None) → (name : List ℕ) → In name (m.name ∷ m.features) → IsText name
    by_case n name (inl e) = subst IsText (sym e) (bad-text false m.name m.name n.0)
    by_case n name (inr i) = features-text m.features n.1 name i

order-none : (b : Bool) (own inside : Option (List ℕ)) → in_order b own inside ≡ None → (own ≡ None) × (inside ≡ None)
order-none true own inside h = let n = or-none inside own h in (n.1, n.0)
order-none false own inside h = or-none own inside h

value-text : (v : EnumValue) → bad_value v ≡ None → EachText (v.name ∷ v.features)
value-text v h name i = by_case (order-none v.features_first _ _ h) name i
  where
    by_case : (bad true v.name ≡ None) × (bad_feature v.features ≡ None) → (name : List ℕ) → In name (v.name ∷ v.features) → IsText name
    by_case n name (inl e) = subst IsText (sym e) (bad-text true v.name (without_star v.name) n.0)
    by_case n name (inr i) = features-text v.features n.1 name i

-- the names in a definition

record HasOwnTexts (d : Definition) : Type 0 where
  pub own : IsText d.name
  pub features : EachText (features_of d)
  pub values : (v : EnumValue) → In v (values_of d) → EachText (v.name ∷ v.features)
  pub members : (m : Member) → In m (unwrap_or (members_of d) []) → EachText (m.name ∷ m.features)
  pub base_members : (m : Member) → In m (base_members_of d) → EachText (m.name ∷ m.features)

-- what holds of none, and of what a part says, holds of what a definition says
said : {A : Type 0} (says : Part → Option (List A)) (P : List A → Type 0) (parts : List Part) → P [] → ((p : Part) (xs : List A) → In p parts → says p ≡ Some xs → P xs) → P (unwrap_or (first_some says parts) [])
said {A} says P parts none some = by_case (first_some says parts) refl
  where
    by_case : (o : Option (List A)) → first_some says parts ≡ o → P (unwrap_or o [])
    by_case None e = none
    by_case (Some xs) e = let r : (p : Part) × In p parts × (says p ≡ Some xs) = first_some-some says xs parts e in some r.0 xs r.1 r.2

values-said : (s : Sort) (p : Part) (vs : List EnumValue) → values_in p ≡ Some vs → bad_in s p ≡ None → (v : EnumValue) → In v vs → EachText (v.name ∷ v.features)
values-said s (part.Values values) vs e h v i = let q : values ≡ vs = cc in value-text v (first_some-none bad_value v values h (subst (In v) (sym q) i))
values-said s (part.Base name) vs e h v i = cc
values-said s (part.BaseMembers members) vs e h v i = cc
values-said s (part.Discriminator name) vs e h v i = cc
values-said s (part.Members members) vs e h v i = cc
values-said s (part.Data name) vs e h v i = cc
values-said s (part.Variants variants) vs e h v i = cc
values-said s (part.Returns of) vs e h v i = cc
values-said s (part.Features features) vs e h v i = cc

members-said : (s : Sort) (p : Part) (ms : List Member) → members_in p ≡ Some ms → bad_in s p ≡ None → (m : Member) → In m ms → EachText (m.name ∷ m.features)
members-said s (part.Members members) ms e h m i = let q : members ≡ ms = cc in member-text m (first_some-none bad_member m members h (subst (In m) (sym q) i))
members-said s (part.Values values) ms e h m i = cc
members-said s (part.Base name) ms e h m i = cc
members-said s (part.BaseMembers members) ms e h m i = cc
members-said s (part.Discriminator name) ms e h m i = cc
members-said s (part.Data name) ms e h m i = cc
members-said s (part.Variants variants) ms e h m i = cc
members-said s (part.Returns of) ms e h m i = cc
members-said s (part.Features features) ms e h m i = cc

base-members-said : (s : Sort) (p : Part) (ms : List Member) → base_members_in p ≡ Some ms → bad_in s p ≡ None → (m : Member) → In m ms → EachText (m.name ∷ m.features)
base-members-said s (part.BaseMembers members) ms e h m i = let q : members ≡ ms = cc in member-text m (first_some-none bad_member m members h (subst (In m) (sym q) i))
base-members-said s (part.Values values) ms e h m i = cc
base-members-said s (part.Base name) ms e h m i = cc
base-members-said s (part.Discriminator name) ms e h m i = cc
base-members-said s (part.Members members) ms e h m i = cc
base-members-said s (part.Data name) ms e h m i = cc
base-members-said s (part.Variants variants) ms e h m i = cc
base-members-said s (part.Returns of) ms e h m i = cc
base-members-said s (part.Features features) ms e h m i = cc

features-said : (s : Sort) (p : Part) (fs : List (List ℕ)) → features_in p ≡ Some fs → bad_in s p ≡ None → EachText fs
features-said s (part.Features features) fs e h = let q : features ≡ fs = cc in subst EachText q (features-text features h)
features-said s (part.Values values) fs e h = cc
features-said s (part.Base name) fs e h = cc
features-said s (part.BaseMembers members) fs e h = cc
features-said s (part.Discriminator name) fs e h = cc
features-said s (part.Members members) fs e h = cc
features-said s (part.Data name) fs e h = cc
features-said s (part.Variants variants) fs e h = cc
features-said s (part.Returns of) fs e h = cc

definition-text : (d : Definition) → bad_name d ≡ None → HasOwnTexts d
unfolding bad_name
definition-text d h =
    let n : (bad false d.name ≡ None) × (first_some (bad_in d.sort) d.parts ≡ None) = or-none (bad false d.name) (first_some (bad_in d.sort) d.parts) h in
    let inside : (p : Part) → In p d.parts → bad_in d.sort p ≡ None = λ p i. first_some-none (bad_in d.sort) p d.parts n.1 i in
    record {
      own = bad-text false d.name (without_star d.name) n.0;
      features = said features_in EachText d.parts (λ name i. absurd i) (λ p fs i e. features-said d.sort p fs e (inside p i));
      values = said values_in (λ (vs : List EnumValue). (v : EnumValue) → In v vs → EachText (v.name ∷ v.features)) d.parts (λ v i. absurd i) (λ p vs i e. values-said d.sort p vs e (inside p i));
      members = said members_in (λ (ms : List Member). (m : Member) → In m ms → EachText (m.name ∷ m.features)) d.parts (λ m i. absurd i) (λ p ms i e. members-said d.sort p ms e (inside p i));
      base_members = said base_members_in (λ (ms : List Member). (m : Member) → In m ms → EachText (m.name ∷ m.features)) d.parts (λ m i. absurd i) (λ p ms i e. base-members-said d.sort p ms e (inside p i));
    }

module _ (defs : List Definition) (h : names_pass defs ≡ None) where
  abbrev n : Numbering
  n = numbering_of defs

  has-texts : (d : Definition) → In d defs → HasOwnTexts d
  has-texts d i = let r : (b : List Definition) × (names_rules b d ≡ None) = over-none names_rules [] defs d h i in definition-text d (bad-none r.0 d r.1)

  -- commands and events

  called-in : (e : ℕ × (ℕ × Definition)) → In e (calls_of defs) → In e.1.1 defs
  called-in e i =
      let calls : List (ℕ × Definition) = filter (λ (e : ℕ × Definition). is_call_sort e.1.sort) (enumerate_from 0 defs) in
      let r : (k : ℕ) × (e.0 ≡ 0 + k) × (slice_get calls k ≡ Some e.1) = enumerated-in e 0 calls i in
      let s = filter-in (λ (e : ℕ × Definition). is_call_sort e.1.sort) e.1 (enumerate_from 0 defs) (at-in e.1 calls r.0 r.2) in
      let t : (k : ℕ) × (e.1.0 ≡ 0 + k) × (slice_get defs k ≡ Some e.1.1) = enumerated-in e.1 0 defs s.0 in
      at-in e.1.1 defs t.0 t.2

  own-and-features : (d : Definition) → In d defs → AreTexts (d.name ∷ features_of d)
  own-and-features d i = let t = has-texts d i in All-cons IsText d.name (features_of d) t.own (texts (features_of d) t.features)

  command-text : (c : CommandDef) (s : Sort) (place at : ℕ) (d : Definition) → In d defs → In c (command_in n s place at d) → AreTexts (c.name ∷ c.features)
  command-text c sorts.Command place at d i (inl e) = subst (λ (c : CommandDef). AreTexts (c.name ∷ c.features)) (sym e) (own-and-features d i)
  command-text c sorts.Command place at d i (inr k) = absurd k
  command-text c sorts.Event place at d i k = absurd k
  command-text c sorts.Enum place at d i k = absurd k
  command-text c sorts.Struct place at d i k = absurd k
  command-text c sorts.Union place at d i k = absurd k
  command-text c sorts.Alternate place at d i k = absurd k

  event-text : (v : EventDef) (s : Sort) (place at : ℕ) (d : Definition) → In d defs → In v (event_in n s place at d) → AreTexts (v.name ∷ v.features)
  event-text v sorts.Event place at d i (inl e) = subst (λ (v : EventDef). AreTexts (v.name ∷ v.features)) (sym e) (own-and-features d i)
  event-text v sorts.Event place at d i (inr k) = absurd k
  event-text v sorts.Command place at d i k = absurd k
  event-text v sorts.Enum place at d i k = absurd k
  event-text v sorts.Struct place at d i k = absurd k
  event-text v sorts.Union place at d i k = absurd k
  event-text v sorts.Alternate place at d i k = absurd k

  commands-text : All (λ (c : CommandDef). AreTexts (c.name ∷ c.features)) (commands_of n defs)
  commands-text = all-in (λ (c : CommandDef). AreTexts (c.name ∷ c.features)) (commands_of n defs) (λ c i.
      (let r : (e : ℕ × (ℕ × Definition)) × In e (calls_of defs) × In c (command_in n e.1.1.sort e.0 e.1.0 e.1.1) = flat_map-in (λ (e : ℕ × (ℕ × Definition)). command_in n e.1.1.sort e.0 e.1.0 e.1.1) c (calls_of defs) i in
      command-text c r.0.1.1.sort r.0.0 r.0.1.0 r.0.1.1 (called-in r.0 r.1) r.2))

  events-text : All (λ (v : EventDef). AreTexts (v.name ∷ v.features)) (events_of n defs)
  events-text = all-in (λ (v : EventDef). AreTexts (v.name ∷ v.features)) (events_of n defs) (λ v i.
      (let r : (e : ℕ × (ℕ × Definition)) × In e (calls_of defs) × In v (event_in n e.1.1.sort e.0 e.1.0 e.1.1) = flat_map-in (λ (e : ℕ × (ℕ × Definition)). event_in n e.1.1.sort e.0 e.1.0 e.1.1) v (calls_of defs) i in
      event-text v r.0.1.1.sort r.0.0 r.0.1.0 r.0.1.1 (called-in r.0 r.1) r.2))

  -- types

  -- names that lists give, and then those of features
  listed-text : {X : Type 0} (named : X → List (List ℕ)) (xs : List X) (features : List (List ℕ)) → ((x : X) → In x xs → EachText (named x)) → EachText features → AreTexts (flat_map named xs ++ features)
  listed-text {X} named xs features each own = texts (flat_map named xs ++ features) (λ name i. elim (in-either name (flat_map named xs) features i) [
    | inl k ↦ (let r : (x : X) × In x xs × In name (named x) = flat_map-in named name xs k in each r.0 r.1 name r.2)
    | inr k ↦ own name k
  ])

  defs-text : (ms : List Member) → ((m : Member) → In m ms → EachText (m.name ∷ m.features)) → (x : MemberDef) → In x (member_defs n ms) → EachText (x.name ∷ x.features)
  defs-text ms each x i = let r : (m : Member) × In m ms × (x ≡ member_def n m) = map-in (member_def n) x ms i in subst (λ (x : MemberDef). EachText (x.name ∷ x.features)) (sym r.2) (each r.0 r.1)

  own-member-text : (m : Member) (o : Option Definition) → ((d : Definition) → o ≡ Some d → In d defs) → In m (unwrap_or (option_map own_members o) []) → EachText (m.name ∷ m.features)
  own-member-text m None g i = absurd i
  own-member-text m (Some d) g i = elim (in-either m (base_members_of d) (unwrap_or (members_of d) []) i) as (λ _. EachText (m.name ∷ m.features)) [
    | inl k ↦ (has-texts d (g d refl)).base_members m k
    | inr k ↦ (has-texts d (g d refl)).members m k
  ]

  type-in : (d : Definition) (t : ℕ) → slice_get n.types t ≡ Some d → In d defs
  type-in d t e = (filter-in (λ (d : Definition). is_type_sort d.sort) d defs (at-in d n.types t e)).0

  members-text : (t : ℕ) (m : Member) → In m (all_members n.types t) → EachText (m.name ∷ m.features)
  members-text t m i =
      let line : List ℕ = line_from (length n.types) (bases_of n.types) (Some t) in
      let r : (u : ℕ) × In u line × In m (own_members_at n.types u) = flat_map-in (own_members_at n.types) m line i in
      own-member-text m (slice_get n.types r.0) (λ d e. type-in d r.0 e) r.2

  object-text : (t : ℕ) (d : Definition) → In d defs → AreTexts (flat_map (λ (m : MemberDef). m.name ∷ m.features) (member_defs n (all_members n.types t)) ++ features_of d)
  object-text t d i = listed-text (λ (m : MemberDef). m.name ∷ m.features) (member_defs n (all_members n.types t)) (features_of d) (defs-text (all_members n.types t) (members-text t)) (has-texts d i).features

  kind-text : (s : Sort) (t : ℕ) (d : Definition) → In d defs → AreTexts (names_within (kind_defined n s t d))
  kind-text sorts.Enum t d i = listed-text (λ (v : ValueDef). v.name ∷ v.features) (value_defs (values_of d)) (features_of d) (λ x k.
      (let r : (v : EnumValue) × In v (values_of d) × (x ≡ value_def v.name v.features) = map-in (λ (v : EnumValue). value_def v.name v.features) x (values_of d) k in
      subst (λ (x : ValueDef). EachText (x.name ∷ x.features)) (sym r.2) ((has-texts d i).values r.0 r.1))) (has-texts d i).features
  kind-text sorts.Alternate t d i = texts (features_of d) (has-texts d i).features
  kind-text sorts.Struct t d i = object-text t d i
  kind-text sorts.Union t d i = object-text t d i
  kind-text sorts.Command t d i = object-text t d i
  kind-text sorts.Event t d i = object-text t d i

  no-text : AreTexts []
  no-text = All-nil IsText

  written-text : (m : Member) (o : Option Definition) → ((d : Definition) → o ≡ Some d → In d defs) → In m (unwrap_or (option_and_then members_of o) []) → EachText (m.name ∷ m.features)
  written-text m None g i = absurd i
  written-text m (Some d) g i = (has-texts d (g d refl)).members m i

  implicit-text : (x : ImplicitType) → AreTexts (names_within (implicit_kind n defs x))
  implicit-text (implicit.Array e) = no-text
  implicit-text implicit.Empty = no-text
  implicit-text (implicit.Members at) = listed-text (λ (m : MemberDef). m.name ∷ m.features) (member_defs n (members_at defs at)) [] (defs-text (members_at defs at) (λ m i. written-text m (slice_get defs at) (λ d e. at-in d defs at e) i)) (λ name i. absurd i)

  qtype-text : AreTexts (names_within qtype_kind)
  qtype-text = all-in IsText (names_within qtype_kind) (λ name i. by-recursion IsText name (names_within qtype_kind)
      (literal (codes "none") refl, (literal (codes "qnull") refl, (literal (codes "qnum") refl, (literal (codes "qstring") refl, (literal (codes "qdict") refl, (literal (codes "qlist") refl, (literal (codes "qbool") refl, tt))))))) i)

  pub parts-text : HasTexts (parts_of defs)
  parts-text = record {
    commands = commands-text;
    events = events-text;
    types = kinds-all (λ kind. AreTexts (names_within kind)) n defs (λ t d e. kind-text d.sort t d (type-in d t e))
        (no-text, (no-text, (no-text, (no-text, (no-text, (no-text, (no-text, (no-text, (no-text, (no-text, (no-text, (no-text, (no-text, (no-text, (no-text, (qtype-text, tt))))))))))))))))
        (λ x i. implicit-text x);
  }

unless-texts : (fault : Option CheckFault) (definitions : List Definition) → fault ≡ first_fault definitions → IfOk (table_unless fault definitions) HasTexts
unfolding names_fault numbered
unless-texts None definitions e = parts-text definitions (or-none _ _ (sym e)).0
unless-texts (Some fault) definitions e = tt

-- the names in the table of expressions are UTF-8
pub table_has_texts : (defines : List (List ℕ)) (sources : List Source) (answer : Result Parts CheckFault) → answer ≡ checked_sources defines sources → IfOk answer HasTexts
table_has_texts defines sources answer e = subst (λ (r : Result Parts CheckFault). IfOk r HasTexts) (sym e) (unless-texts (first_fault (all_definitions defines sources)) (all_definitions defines sources) refl)
