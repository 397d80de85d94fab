-- Types of definitions without a fault are on no cycle of branches, and no name stands twice along them.
use Rattle.std.proofs.Common.{◌≡◌, ◌<◌, ◌≤◌, ◌+◌, ◌-◌, ℕ, zero, suc, Bool, true, false, cond, if◌then◌else◌, List, [], ◌∷◌, ◌++◌, length, map, get_or, All, Option, Some, None, is_some, option_to_list, slice_get, option_and_then, unwrap_or, refl, sym, ap, ◌∙◌, subst, inl, inr, arith, append_assoc}
use Rattle.std.specs.{List.AllByRecursion}
use Rattle.std.proofs.Math.ListN.{get_or-map}
use Rattle.std.proofs.lemmas.{Bool.cases_lt}
use Rattle.std.proofs.lemmas.List.{get_or_past, length-append, length-map, Elements.filter_agree}
use Rattle.qapi_types.specs.declared.kind.{Branch.Branch, Kind.Kind, MemberDef.MemberDef, ValueDef.ValueDef}
use Rattle.qapi_types.specs.declared.kind.Kind.TheVariants as kinds
use Rattle.qapi_types.specs.{Chains.has, Chains.row_of, Chains.Refers, Chains.Leads, Chains.by_one, Chains.and_one, Chains.IsInside, Chains.NoneOnCycle}
use Rattle.qapi_types.specs.Choices.{AllApart, Along, AreApart, Table, again, names_of, stays, takes}
use Rattle.qapi_types.specs.{Goodness.choices_of, Goodness.HasApartValues, Types.branch_types, Types.kind_of, Types.member_names}
use Rattle.qapi_types.proofs.{ChainLaws.row-holds, ChoiceLaws.again-none, FaultLaws.names-at}
use Rattle.qapi_define.specs.declared.definition.{Definition.Definition, EnumValue.EnumValue, Member.Member, Sort.Sort, Variant.Variant}
use Rattle.qapi_define.specs.declared.definition.Sort.TheVariants as sorts
use Rattle.qapi_define.specs.Saying.{discriminator_of, first_some, has_variants, members_of, sort_has_variants, values_of, variants_in, variants_of}
use Rattle.qapi_rules.specs.declared.{fault.CheckRule.TheVariants.MemberClash}
use Rattle.qapi_rules.specs.{Blames.over, Cycles.cycles_pass, Cycles.branches_of, Meanings.is_alternate_sort, Meanings.is_union_sort, NamesRules.names_pass, References.references_pass}
use Rattle.qapi_number.specs.declared.{implicit.ImplicitType.ImplicitType, numbering.Numbering.Numbering}
use Rattle.qapi_number.specs.declared.implicit.ImplicitType.TheVariants as implicit
use Rattle.qapi_number.specs.Kinds.{all_members, base_number, branch_def, builtin_kinds, implicit_kind, kind_defined, kinds_of, member_def, member_defs, members_at, qtype_names, tag_names, tag_of, value_defs}
use Rattle.qapi_number.specs.{Implicit.implicit_types_of, Numbering.number_of_implicit, Numbering.numbering_of, Numbering.type_number, TypeNames.is_type_sort, TypeNames.number_of_name, TypeNames.types_of}
use Rattle.qapi_check.specs.Clashes.{is_type_sort as is_checked_sort}
use Rattle.qapi_check.specs.{Clashes.again_in, Clashes.clash_of, Clashes.clashes_pass, Clashes.clashes_rule, Clashes.defines_type, Clashes.type_definitions, Walking.LeadsTo}
use Rattle.qapi_check.proofs.ListLaws.{In, at-in, by-recursion, in-get_or, in-map, in-right, map-in, or-none, past-none, first_some-none}
use Rattle.qapi_check.proofs.{NamedLaws.IsOwn, NamedLaws.own-at, NameLaws.fault-none, NameLaws.members-apart, NameLaws.no-names, NameLaws.values-apart}
use Rattle.qapi_check.proofs.NumberLaws.{kind-builtin, kind-defined, kind-implicit, kinds-all, kinds-long}
use Rattle.qapi_check.proofs.ReferenceLaws.{referring}
use Rattle.qapi_check.proofs.GraphLaws.{branch-may, has-in, in-has, none-numbered, numbered_graph, numbered_references, row-at}
use Rattle.qapi_check.proofs.TrailLaws.{goes_on, no_trail, too_long}

-- ---- types that no definition names

rest-kind : (P : Kind → Type 0) (defs : List Definition) → P kinds.Null → AllByRecursion P builtin_kinds → ((x : ImplicitType) → P (implicit_kind (numbering_of defs) defs x)) → (a : ℕ) → length (types_of defs) ≤ a → P (kind_of (kinds_of (numbering_of defs) defs) a)
rest-kind P defs none given rest a low = elim (cases_lt a (length (types_of defs) + 16)) [
  | inl k ↦ (let j : ℕ = a - length (types_of defs) in let q : length (types_of defs) + j ≡ a = omega arith in let b : j < 16 = omega arith in
      subst (λ (i : ℕ). P (kind_of (kinds_of (numbering_of defs) defs) i)) q (subst P (sym (kind-builtin (numbering_of defs) defs j b)) (by-recursion P (get_or builtin_kinds j kinds.Null) builtin_kinds given (in-get_or builtin_kinds j kinds.Null b))))
  | inr k ↦ (let j : ℕ = a - (length (types_of defs) + 16) in let q : length (types_of defs) + 16 + j ≡ a = omega arith in
      subst (λ (i : ℕ). P (kind_of (kinds_of (numbering_of defs) defs) i)) q (by_get j (slice_get (implicit_types_of defs) j) refl))
]
  where
    by_get : (j : ℕ) → (o : Option ImplicitType) → slice_get (implicit_types_of defs) j ≡ o → P (kind_of (kinds_of (numbering_of defs) defs) (length (types_of defs) + 16 + j))
    by_get j (Some x) g = subst P (sym (kind-implicit (numbering_of defs) defs j x g)) (rest x)
    by_get j None g = (let p : length (implicit_types_of defs) ≤ j = past-none (implicit_types_of defs) j g in subst P (sym (get_or_past (kinds_of (numbering_of defs) defs) (length (types_of defs) + 16 + j) kinds.Null (omega (arith, p, kinds-long (numbering_of defs) defs)))) none)

-- no branches
abbrev HasNoBranch : Kind → Type 0
HasNoBranch kind = branch_types kind ≡ []

implicit-no-branch : (defs : List Definition) (x : ImplicitType) → HasNoBranch (implicit_kind (numbering_of defs) defs x)
implicit-no-branch defs (implicit.Array e) = refl
implicit-no-branch defs (implicit.Members at) = refl
implicit-no-branch defs implicit.Empty = refl

pub rest-no-branch : (defs : List Definition) (a : ℕ) → length (types_of defs) ≤ a → HasNoBranch (kind_of (kinds_of (numbering_of defs) defs) a)
rest-no-branch defs a low = rest-kind HasNoBranch defs refl (refl, (refl, (refl, (refl, (refl, (refl, (refl, (refl, (refl, (refl, (refl, (refl, (refl, (refl, (refl, (refl, tt)))))))))))))))) (implicit-no-branch defs) a low

pub names-of-defs : (n : Numbering) (ms : List Member) → map (λ (m : MemberDef). m.name) (map (member_def n) ms) ≡ map (λ (m : Member). m.name) ms
names-of-defs n [] = refl
names-of-defs n (m ∷ ms) = ap {A = List (List ℕ)} (λ l. m.name ∷ l) (names-of-defs n ms)

pub names-of-values : (vs : List EnumValue) → map (λ (v : ValueDef). v.name) (value_defs vs) ≡ map (λ (v : EnumValue). v.name) vs
names-of-values [] = refl
names-of-values (v ∷ vs) = ap {A = List (List ℕ)} (λ l. v.name ∷ l) (names-of-values vs)

abbrev HasApartMembers : Kind → Type 0
HasApartMembers kind = AreApart (member_names kind)

written-apart : (defs : List Definition) (at : ℕ) → names_pass defs ≡ None → AreApart (map (λ (m : Member). m.name) (members_at defs at))
written-apart defs at names = by_get (slice_get defs at) refl
  where
    by_get : (o : Option Definition) → slice_get defs at ≡ o → AreApart (map (λ (m : Member). m.name) (unwrap_or (option_and_then members_of o) []))
    by_get None e = no-names
    by_get (Some d) e = members-apart defs d names (at-in d defs at e)

implicit-apart : (defs : List Definition) (x : ImplicitType) → names_pass defs ≡ None → HasApartMembers (implicit_kind (numbering_of defs) defs x)
implicit-apart defs (implicit.Array e) names = no-names
implicit-apart defs (implicit.Members at) names = subst AreApart (sym (names-of-defs (numbering_of defs) (members_at defs at))) (written-apart defs at names)
implicit-apart defs implicit.Empty names = no-names

rest-apart : (defs : List Definition) (a : ℕ) → names_pass defs ≡ None → length (types_of defs) ≤ a → HasApartMembers (kind_of (kinds_of (numbering_of defs) defs) a)
rest-apart defs a names low = rest-kind HasApartMembers defs no-names
    (no-names, (no-names, (no-names, (no-names, (no-names, (no-names, (no-names, (no-names, (no-names, (no-names, (no-names, (no-names, (no-names, (no-names, (no-names, (no-names, tt))))))))))))))))
    (λ x. implicit-apart defs x names) a low

-- ---- values

own-values : (defs : List Definition) (s : Sort) (t : ℕ) (d : Definition) → names_pass defs ≡ None → In d defs → HasApartValues (kind_defined (numbering_of defs) s t d)
own-values defs sorts.Enum t d names i = subst AreApart (sym (names-of-values (values_of d))) (values-apart defs d names i)
own-values defs sorts.Struct t d names i = no-names
own-values defs sorts.Union t d names i = no-names
own-values defs sorts.Alternate t d names i = no-names
own-values defs sorts.Command t d names i = no-names
own-values defs sorts.Event t d names i = no-names

implicit-values : (defs : List Definition) (x : ImplicitType) → HasApartValues (implicit_kind (numbering_of defs) defs x)
implicit-values defs (implicit.Array e) = no-names
implicit-values defs (implicit.Members at) = no-names
implicit-values defs implicit.Empty = no-names

qtype-apart : AreApart qtype_names
qtype-apart = again-none [] qtype_names no-names refl

-- no enum has a value twice
pub all-values : (defs : List Definition) → names_pass defs ≡ None → All HasApartValues (kinds_of (numbering_of defs) defs)
all-values defs names = kinds-all HasApartValues (numbering_of defs) defs
    (λ t d g. own-values defs d.sort t d names (own-at defs d t names g).among)
    (no-names, (no-names, (no-names, (no-names, (no-names, (no-names, (no-names, (no-names, (no-names, (no-names, (no-names, (no-names, (no-names, (no-names, (no-names, (qtype-apart, tt))))))))))))))))
    (λ x h. implicit-values defs x)

-- ---- cycles

-- what has branches and is no alternate is a union with a discriminator
tagged-union : (s : Sort) (tagged : Bool) → sort_has_variants s tagged ≡ true → is_alternate_sort s ≡ false → (is_union_sort s ≡ true) × (tagged ≡ true)
tagged-union sorts.Alternate tagged h a = cc
tagged-union sorts.Union tagged h a = (refl, h)
tagged-union sorts.Enum tagged h a = cc
tagged-union sorts.Struct tagged h a = cc
tagged-union sorts.Command tagged h a = cc
tagged-union sorts.Event tagged h a = cc

pub branches-of-union : (d : Definition) (v : Variant) → is_alternate_sort d.sort ≡ false → In v (variants_of d) → (is_union_sort d.sort ≡ true) × (is_some (discriminator_of d) ≡ true)
branches-of-union d v a i = by_case (has_variants d) refl i
  where
    by_case : (b : Bool) → has_variants d ≡ b → In v (if b then unwrap_or (first_some variants_in d.parts) [] else []) → (is_union_sort d.sort ≡ true) × (is_some (discriminator_of d) ≡ true)
    by_case true e j = tagged-union d.sort (is_some (discriminator_of d)) e a
    by_case false e j = absurd j

-- a branch by its number
record IsBranch (n : Numbering) (d : Definition) (b : ℕ) : Type 0 where
  plain : is_alternate_sort d.sort ≡ false
  variant : Variant
  among : In variant (variants_of d)
  number : b ≡ type_number n variant.of

object-branch : (n : Numbering) (d : Definition) (names : List (List ℕ)) (b : ℕ) → is_alternate_sort d.sort ≡ false → In b (map (λ (b : Branch). b.type_id) (map (branch_def n names) (variants_of d))) → IsBranch n d b
object-branch n d names b a i =
    let k : (c : Branch) × In c (map (branch_def n names) (variants_of d)) × (b ≡ c.type_id) = map-in (λ (b : Branch). b.type_id) b (map (branch_def n names) (variants_of d)) i in
    let v : (v : Variant) × In v (variants_of d) × (k.0 ≡ branch_def n names v) = map-in (branch_def n names) k.0 (variants_of d) k.1 in
    record { plain = a; variant = v.0; among = v.1; number = k.2 ∙ ap (λ (c : Branch). c.type_id) v.2 }

branch-in : (n : Numbering) (s : Sort) (t : ℕ) (d : Definition) (b : ℕ) → d.sort ≡ s → In b (branch_types (kind_defined n s t d)) → IsBranch n d b
branch-in n sorts.Enum t d b e i = absurd i
branch-in n sorts.Alternate t d b e i = absurd i
branch-in n sorts.Struct t d b e i = object-branch n d (tag_names n.types (member_defs n (all_members n.types t)) (tag_of d (member_defs n (all_members n.types t)))) b (ap is_alternate_sort e) i
branch-in n sorts.Union t d b e i = object-branch n d (tag_names n.types (member_defs n (all_members n.types t)) (tag_of d (member_defs n (all_members n.types t)))) b (ap is_alternate_sort e) i
branch-in n sorts.Command t d b e i = object-branch n d (tag_names n.types (member_defs n (all_members n.types t)) (tag_of d (member_defs n (all_members n.types t)))) b (ap is_alternate_sort e) i
branch-in n sorts.Event t d b e i = object-branch n d (tag_names n.types (member_defs n (all_members n.types t)) (tag_of d (member_defs n (all_members n.types t)))) b (ap is_alternate_sort e) i

kinds-row : (table : List Kind) (a : ℕ) → row_of (map branch_types table) a ≡ branch_types (kind_of table a)
kinds-row table a = get_or-map branch_types table a kinds.Null

module _ (defs : List Definition) (names : names_pass defs ≡ None) (references : references_pass defs ≡ None) where
  branch-numbered : (a b : ℕ) (d : Definition) → slice_get (types_of defs) a ≡ Some d → In b (branch_types (kind_of (kinds_of (numbering_of defs) defs) a)) → In b (numbered_references (types_of defs) d)
  branch-numbered a b d g i =
      let w : IsOwn defs d.name d = own-at defs d a names g in
      let k : IsBranch (numbering_of defs) d b = branch-in (numbering_of defs) d.sort a d b refl (subst (λ k. In b (branch_types k)) (kind-defined (numbering_of defs) defs a d g) i) in
      let u : (is_union_sort d.sort ≡ true) × (is_some (discriminator_of d) ≡ true) = branches-of-union d k.variant k.plain k.among in
      let m = branch-may defs d k.variant (referring defs d references w.among) k.plain k.among in
      let j : In k.variant (branches_of d) = subst (λ c. In k.variant (cond c (variants_of d) [])) (sym u.0) k.among in
      let q : b ≡ number_of_name (types_of defs) k.variant.of.name = k.number ∙ ap (λ c. cond c (number_of_implicit (numbering_of defs) (implicit.Array (number_of_name (types_of defs) k.variant.of.name))) (number_of_name (types_of defs) k.variant.of.name)) m.0 in
      subst (λ (c : ℕ). In c (numbered_references (types_of defs) d)) (sym q)
      (in-right (number_of_name (types_of defs) k.variant.of.name) (option_to_list (base_number (types_of defs) d)) (map (λ (v : Variant). number_of_name (types_of defs) v.of.name) (branches_of d)) (in-map (λ (v : Variant). number_of_name (types_of defs) v.of.name) k.variant (branches_of d) j))

  kinds-step : (a b : ℕ) → Refers (map branch_types (kinds_of (numbering_of defs) defs)) a b → (a < length (types_of defs)) × Refers (numbered_graph (types_of defs)) a b
  kinds-step a b h = elim (cases_lt a (length (types_of defs))) [ inl l ↦ (l, by_get (slice_get (types_of defs) a) refl l) | inr l ↦ absurd (subst (λ r. In b r) (rest-no-branch defs a l) there) ]
    where
      there : In b (branch_types (kind_of (kinds_of (numbering_of defs) defs) a))
      there = has-in b (branch_types (kind_of (kinds_of (numbering_of defs) defs) a)) (subst (λ r. has b r ≡ true) (kinds-row (kinds_of (numbering_of defs) defs) a) h)

      by_get : (o : Option Definition) → slice_get (types_of defs) a ≡ o → a < length (types_of defs) → Refers (numbered_graph (types_of defs)) a b
      by_get (Some d) g l = subst (λ r. has b r ≡ true) (sym (row-at defs a d g)) (in-has b (numbered_references (types_of defs) d) (branch-numbered a b d g there))
      by_get None g l = (let k = past-none (types_of defs) a g in absurd (omega (arith, l, k)))

  kinds-leads : (a b : ℕ) → Leads (map branch_types (kinds_of (numbering_of defs) defs)) a b → (a < length (types_of defs)) × Leads (numbered_graph (types_of defs)) a b
  kinds-leads a b (by_one r) = let k = kinds-step a b r in (k.0, by_one k.1)
  kinds-leads a b (and_one {b = c} l r) = let k = kinds-leads a c l in (k.0, and_one k.1 (kinds-step c b r).1)

  -- no type is on a cycle of branches
  pub no-cycle : cycles_pass defs ≡ None → NoneOnCycle (map branch_types (kinds_of (numbering_of defs) defs)) (length (kinds_of (numbering_of defs) defs))
  no-cycle c a l h =
      let k = kinds-leads a a h in
      let z : length (numbered_graph (types_of defs)) ≡ length (types_of defs) = length-map (types_of defs) (numbered_references (types_of defs)) in
      none-numbered defs names references c a (omega (arith, z, k.0)) k.1

-- ---- names along branches

none-at : (t : Table) (before ds : List Definition) → over (clashes_rule t) before ds ≡ None → (a : ℕ) → length before ≤ a → a < length before + length ds → clash_of t a ≡ None
none-at t before [] h a low high = absurd (omega arith)
none-at t before (d ∷ ds) h a low high =
    let n : (clashes_rule t before d ≡ None) × (over (clashes_rule t) (before ++ d ∷ []) ds ≡ None) = or-none (clashes_rule t before d) (over (clashes_rule t) (before ++ d ∷ []) ds) h in
    elim (cases_lt (length before) a) [
      | inl k ↦ none-at t (before ++ d ∷ []) ds n.1 a (omega (arith, length-append before (d ∷ []))) (omega (arith, length-append before (d ∷ [])))
      | inr k ↦ (let e : length before ≡ a = omega arith in ap (clash_of t) (sym e) ∙ fault-none MemberClash d (clash_of t (length before)) n.0)
    ]

same-sorts : (s : Sort) → is_checked_sort s ≡ is_type_sort s
same-sorts sorts.Enum = refl
same-sorts sorts.Struct = refl
same-sorts sorts.Union = refl
same-sorts sorts.Alternate = refl
same-sorts sorts.Command = refl
same-sorts sorts.Event = refl

-- no type clashes
clash-none : (t : Table) (defs : List Definition) → clashes_pass t defs ≡ None → (a : ℕ) → a < length (types_of defs) → clash_of t a ≡ None
unfolding clashes_pass
clash-none t defs h a l = none-at t [] (type_definitions defs) h a (omega arith) (let e : length (type_definitions defs) ≡ length (types_of defs) = ap length (filter_agree defines_type (λ (d : Definition). is_type_sort d.sort) (λ d. same-sorts d.sort) defs) in omega (arith, e, l))

-- where no name is found twice from a type on, none stands twice along its branches
apart-along : (n : ℕ) (t : Table) (seen : List (List ℕ)) (a : ℕ) (past : List ℕ) → IsInside t.branches → NoneOnCycle t.branches (length t.branches) → again_in n t seen a ≡ None → AreApart seen → LeadsTo t.branches past a → a < length t.branches → length past + n ≡ length t.branches →
    (ns : List (List ℕ)) → Along t a ns → AreApart (seen ++ ns)
apart-along zero t seen a past inside free h apart trail l s ns m = absurd (too_long t.branches past a free trail l (omega (arith, s)))
apart-along (suc n) t seen a past inside free h apart trail l s ns m = by_along (λ b r ms k. apart-along n t (seen ++ names_of t.names a) b (a ∷ past) inside free (first_some-none (again_in n t (seen ++ names_of t.names a)) b (row_of t.branches a) p.1 (has-in b (row_of t.branches a) r)) (again-none seen (names_of t.names a) apart p.0) (goes_on t.branches past a b free trail l r) (row-holds t.branches a b inside r) (omega (arith, s)) ms k) m
  where
    p : (again seen (names_of t.names a) ≡ None) × (first_some (again_in n t (seen ++ names_of t.names a)) (row_of t.branches a) ≡ None)
    p = or-none (again seen (names_of t.names a)) (first_some (again_in n t (seen ++ names_of t.names a)) (row_of t.branches a)) h

    by_along : ((b : ℕ) → Refers t.branches a b → (ms : List (List ℕ)) → Along t b ms → AreApart ((seen ++ names_of t.names a) ++ ms)) → {ms : List (List ℕ)} → Along t a ms → AreApart (seen ++ ms)
    by_along go (stays b) = again-none seen (names_of t.names a) apart p.0
    by_along go (takes {b = b} {ns = ms} r k) = subst AreApart (append_assoc seen (names_of t.names a) ms) (go b r ms k)

clash-apart : (t : Table) (a : ℕ) → IsInside t.branches → NoneOnCycle t.branches (length t.branches) → a < length t.branches → clash_of t a ≡ None → (ns : List (List ℕ)) → Along t a ns → AreApart ns
unfolding clash_of
clash-apart t a inside free l h ns m = apart-along (length t.branches) t [] a [] inside free h no-names (no_trail t.branches a) l (omega arith) ns m

own-apart : (t : Table) (a : ℕ) → row_of t.branches a ≡ [] → AreApart (names_of t.names a) → (ns : List (List ℕ)) → Along t a ns → AreApart ns
own-apart t a none apart ns m = by_along m
  where
    by_along : {ms : List (List ℕ)} → Along t a ms → AreApart ms
    by_along (stays b) = apart
    by_along (takes {b = b} r k) = (let z : has b [] ≡ true = subst (λ l. has b l ≡ true) none r in cc)

-- no name stands twice along any choice of branches
pub all-apart : (defs : List Definition) → names_pass defs ≡ None → IsInside (map branch_types (kinds_of (numbering_of defs) defs)) → NoneOnCycle (map branch_types (kinds_of (numbering_of defs) defs)) (length (kinds_of (numbering_of defs) defs)) → clashes_pass (choices_of (kinds_of (numbering_of defs) defs)) defs ≡ None →
    AllApart (choices_of (kinds_of (numbering_of defs) defs))
all-apart defs names inside free h a l ns m = elim (cases_lt a (length (types_of defs))) [
  | inl k ↦ clash-apart (choices_of (kinds_of (numbering_of defs) defs)) a inside (λ b w. free b (omega (arith, w, long))) (omega (arith, l, other, long)) (clash-none (choices_of (kinds_of (numbering_of defs) defs)) defs h a k) ns m
  | inr k ↦ own-apart (choices_of (kinds_of (numbering_of defs) defs)) a (kinds-row (kinds_of (numbering_of defs) defs) a ∙ rest-no-branch defs a k) (subst AreApart (sym (names-at (kinds_of (numbering_of defs) defs) a)) (rest-apart defs a names k)) ns m
]
  where
    long : length (map branch_types (kinds_of (numbering_of defs) defs)) ≡ length (kinds_of (numbering_of defs) defs)
    long = length-map (kinds_of (numbering_of defs) defs) branch_types

    other : length (map member_names (kinds_of (numbering_of defs) defs)) ≡ length (kinds_of (numbering_of defs) defs)
    other = length-map (kinds_of (numbering_of defs) defs) member_names
