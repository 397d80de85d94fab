-- What definitions without a fault of names give: names that stand once.
use Rattle.std.proofs.Common.{◌≡◌, ℕ, Bool, true, false, cond, if◌then◌else◌, List, [], ◌∷◌, ◌++◌, map, Option, Some, None, unwrap_or, refl, sym, ap, subst, arith, append_assoc, append-nil}
use Rattle.std.specs.Option.{option_or}
use Rattle.std.proofs.lemmas.{List.map-append}
use Rattle.qapi_types.specs.Choices.{AreApart, stands}
use Rattle.qapi_types.proofs.ChoiceLaws.{again-none}
use Rattle.qapi_define.specs.declared.definition.{Definition.Definition, EnumValue.EnumValue, Member.Member, Part.Part, Variant.Variant}
use Rattle.qapi_define.specs.declared.definition.Part.TheVariants as part
use Rattle.qapi_define.specs.Saying.{first_some, has_variants, members_in, members_of, values_in, values_of, variants_in, variants_of}
use Rattle.qapi_rules.specs.declared.fault.{CheckFault.CheckFault, CheckRule.CheckRule}
use Rattle.qapi_rules.specs.declared.fault.CheckRule.TheVariants.{BadName, MemberClash, NoSuccessResponse, Redefined}
use Rattle.qapi_rules.specs.{BadNames.bad_name, BadNames.in_order, Blames.fault, Blames.over, BuiltIns.is_built_in, Clashes.clash, Clashes.clash_in, Clashes.clash_of_member, Clashes.clash_of_value, Clashes.clash_of_variant, Clashes.repeated, Clashes.taken}
use Rattle.qapi_rules.specs.NamesRules.{names_pass, names_rules, redefined, without_response}
use Rattle.qapi_check.proofs.ListLaws.{In, or-none, over-none, first_some-none, first_some-some}

pub fault-none : (rule : CheckRule) (d : Definition) (o : Option (List ℕ)) → fault rule d o ≡ None → o ≡ None
fault-none rule d None h = refl
fault-none rule d (Some x) h = cc

pub taken-none : (names : List (List ℕ)) (name : List ℕ) → taken names name ≡ None → stands name names ≡ false
taken-none names name h = by_case (stands name names) h
  where
    by_case : (b : Bool) → cond b (Some name) None ≡ None → b ≡ false
    by_case true h = cc
    by_case false h = refl

pushed : (names : List (List ℕ)) (x : List ℕ) → AreApart names → stands x names ≡ false → AreApart (names ++ x ∷ [])
pushed names x a h = again-none names (x ∷ []) a (ap (λ b. cond b (Some x) None) h)

-- names that are apart from those before each are apart
pub apart-over : {A D : Type 0} (name_of : D → List ℕ) (rule : List D → D → Option A) → ((before : List D) (d : D) → rule before d ≡ None → stands (name_of d) (map name_of before) ≡ false) →
    (before ds : List D) → over rule before ds ≡ None → AreApart (map name_of before) → AreApart (map name_of (before ++ ds))
apart-over name_of rule tells before [] h a = subst (λ l. AreApart (map name_of l)) (sym (append-nil before)) a
apart-over name_of rule tells before (d ∷ ds) h a =
    let n : (rule before d ≡ None) × (over rule (before ++ d ∷ []) ds ≡ None) = or-none (rule before d) (over rule (before ++ d ∷ []) ds) h in
    subst (λ l. AreApart (map name_of l)) (append_assoc before (d ∷ []) ds)
    (apart-over name_of rule tells (before ++ d ∷ []) ds n.1 (subst AreApart (sym (map-append name_of before (d ∷ []))) (pushed (map name_of before) (name_of d) a (tells before d n.0))))

pub no-names : AreApart []
no-names x = omega arith

-- a definition

rules-none : (before : List Definition) (d : Definition) → names_rules before d ≡ None → (redefined before d ≡ None) × (clash d ≡ None)
rules-none before d h =
    let a : (fault BadName d (bad_name d) ≡ None) × (option_or (fault NoSuccessResponse d (without_response d)) (option_or (fault Redefined d (redefined before d)) (option_or (fault MemberClash d (clash d)) None)) ≡ None) = or-none _ _ h in
    let b : (fault NoSuccessResponse d (without_response d) ≡ None) × (option_or (fault Redefined d (redefined before d)) (option_or (fault MemberClash d (clash d)) None) ≡ None) = or-none _ _ a.1 in
    let c : (fault Redefined d (redefined before d) ≡ None) × (option_or (fault MemberClash d (clash d)) None ≡ None) = or-none _ _ b.1 in
    let e : (fault MemberClash d (clash d) ≡ None) × (◌≡◌ {A = Option CheckFault} None None) = or-none _ _ c.1 in
    (fault-none Redefined d (redefined before d) c.0, fault-none MemberClash d (clash d) e.0)

-- no name of a definition is bad
pub bad-none : (before : List Definition) (d : Definition) → names_rules before d ≡ None → bad_name d ≡ None
bad-none before d h =
    let a : (fault BadName d (bad_name d) ≡ None) × (option_or (fault NoSuccessResponse d (without_response d)) (option_or (fault Redefined d (redefined before d)) (option_or (fault MemberClash d (clash d)) None)) ≡ None) = or-none _ _ h in
    fault-none BadName d (bad_name d) a.0

redefined-none : (before : List Definition) (d : Definition) → redefined before d ≡ None → (is_built_in d.name ≡ false) × (stands d.name (map (λ (x : Definition). x.name) before) ≡ false)
redefined-none before d h = by_case (is_built_in d.name) refl h
  where
    by_case : (b : Bool) → is_built_in d.name ≡ b → cond b (Some d.name) (taken (map (λ (x : Definition). x.name) before) d.name) ≡ None → (is_built_in d.name ≡ false) × (stands d.name (map (λ (x : Definition). x.name) before) ≡ false)
    by_case true e h = cc
    by_case false e h = (e, taken-none (map (λ (x : Definition). x.name) before) d.name h)

-- no two definitions have one name
pub names-apart : (defs : List Definition) → names_pass defs ≡ None → AreApart (map (λ (d : Definition). d.name) defs)
names-apart defs h = apart-over (λ (d : Definition). d.name) names_rules (λ before d n. (redefined-none before d (rules-none before d n).0).1) [] defs h no-names

-- none has a built-in type's
pub not-built-in : (defs : List Definition) (d : Definition) → names_pass defs ≡ None → In d defs → is_built_in d.name ≡ false
not-built-in defs d h i = let r : (b : List Definition) × (names_rules b d ≡ None) = over-none names_rules [] defs d h i in (redefined-none r.0 d (rules-none r.0 d r.1).0).0

-- no part of it has a name twice
pub part-apart : (defs : List Definition) (d : Definition) (p : Part) → names_pass defs ≡ None → In d defs → In p d.parts → clash_in p ≡ None
unfolding clash
part-apart defs d p h i j = let r : (b : List Definition) × (names_rules b d ≡ None) = over-none names_rules [] defs d h i in first_some-none clash_in p d.parts (rules-none r.0 d r.1).1 j

is-values : (p : Part) (vs : List EnumValue) → values_in p ≡ Some vs → p ≡ part.Values vs
is-values (part.Values values) vs h = cc
is-values (part.Base name) vs h = cc
is-values (part.BaseMembers members) vs h = cc
is-values (part.Discriminator name) vs h = cc
is-values (part.Members members) vs h = cc
is-values (part.Data name) vs h = cc
is-values (part.Variants variants) vs h = cc
is-values (part.Returns of) vs h = cc
is-values (part.Features features) vs h = cc

is-members : (p : Part) (ms : List Member) → members_in p ≡ Some ms → p ≡ part.Members ms
is-members (part.Values values) ms h = cc
is-members (part.Base name) ms h = cc
is-members (part.BaseMembers members) ms h = cc
is-members (part.Discriminator name) ms h = cc
is-members (part.Members members) ms h = cc
is-members (part.Data name) ms h = cc
is-members (part.Variants variants) ms h = cc
is-members (part.Returns of) ms h = cc
is-members (part.Features features) ms h = cc

is-variants : (p : Part) (vs : List Variant) → variants_in p ≡ Some vs → p ≡ part.Variants vs
is-variants (part.Values values) vs h = cc
is-variants (part.Base name) vs h = cc
is-variants (part.BaseMembers members) vs h = cc
is-variants (part.Discriminator name) vs h = cc
is-variants (part.Members members) vs h = cc
is-variants (part.Data name) vs h = cc
is-variants (part.Variants variants) vs h = cc
is-variants (part.Returns of) vs h = cc
is-variants (part.Features features) vs h = cc

-- the branches or alternatives are none, or one of the parts
pub variants-part : (d : Definition) (P : List Variant → Type 0) → P [] → ((vs : List Variant) → In (part.Variants vs) d.parts → P vs) → P (variants_of d)
variants-part d P none some = by_sort (has_variants d)
  where
    by_case : (o : Option (List Variant)) → first_some variants_in d.parts ≡ o → P (unwrap_or o [])
    by_case None e = none
    by_case (Some vs) e = let r : (p : Part) × In p d.parts × (variants_in p ≡ Some vs) = first_some-some variants_in vs d.parts e in some vs (subst (λ p. In p d.parts) (is-variants r.0 vs r.2) r.1)

    by_sort : (b : Bool) → P (if b then unwrap_or (first_some variants_in d.parts) [] else [])
    by_sort true = by_case (first_some variants_in d.parts) refl
    by_sort false = none

own-first : (b : Bool) (own inside : Option (List ℕ)) → in_order b own inside ≡ None → own ≡ None
own-first true own inside h = (or-none inside own h).1
own-first false own inside h = (or-none own inside h).0

pub values-apart : (defs : List Definition) (d : Definition) → names_pass defs ≡ None → In d defs → AreApart (map (λ (v : EnumValue). v.name) (values_of d))
values-apart defs d h i = by_case (first_some values_in d.parts) refl
  where
    by_case : (o : Option (List EnumValue)) → first_some values_in d.parts ≡ o → AreApart (map (λ (v : EnumValue). v.name) (unwrap_or o []))
    by_case None e = no-names
    by_case (Some vs) e =
        let r : (p : Part) × In p d.parts × (values_in p ≡ Some vs) = first_some-some values_in vs d.parts e in
        let n : clash_in (part.Values vs) ≡ None = part-apart defs d (part.Values vs) h i (subst (λ p. In p d.parts) (is-values r.0 vs r.2) r.1) in
        apart-over (λ (v : EnumValue). v.name) clash_of_value (λ before v k. taken-none (map (λ (x : EnumValue). x.name) before) v.name (own-first v.features_first (taken (map (λ (x : EnumValue). x.name) before) v.name) (repeated v.features) k)) [] vs n no-names

pub members-apart : (defs : List Definition) (d : Definition) → names_pass defs ≡ None → In d defs → AreApart (map (λ (m : Member). m.name) (unwrap_or (members_of d) []))
members-apart defs d h i = by_case (members_of d) refl
  where
    by_case : (o : Option (List Member)) → members_of d ≡ o → AreApart (map (λ (m : Member). m.name) (unwrap_or o []))
    by_case None e = no-names
    by_case (Some ms) e =
        let r : (p : Part) × In p d.parts × (members_in p ≡ Some ms) = first_some-some members_in ms d.parts e in
        let n : clash_in (part.Members ms) ≡ None = part-apart defs d (part.Members ms) h i (subst (λ p. In p d.parts) (is-members r.0 ms r.2) r.1) in
        apart-over (λ (m : Member). m.name) clash_of_member (λ before m k. taken-none (map (λ (x : Member). x.name) before) m.name (or-none (taken (map (λ (x : Member). x.name) before) m.name) (repeated m.features) k).0) [] ms n no-names

pub variants-apart : (defs : List Definition) (d : Definition) → names_pass defs ≡ None → In d defs → AreApart (map (λ (v : Variant). v.name) (variants_of d))
variants-apart defs d h i = variants-part d (λ vs. AreApart (map (λ (v : Variant). v.name) vs)) no-names (λ vs j.
    apart-over (λ (v : Variant). v.name) clash_of_variant (λ before v k. taken-none (map (λ (x : Variant). x.name) before) v.name k) [] vs (part-apart defs d (part.Variants vs) h i j) no-names)
