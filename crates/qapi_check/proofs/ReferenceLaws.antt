-- What definitions without a fault of references give.
use Rattle.std.proofs.Common.{◌≡◌, ◌||◌, ℕ, Bool, true, false, not, cond, List, [], ◌∷◌, ◌++◌, get_or, Option, Some, None, unwrap_or, option_map, refl, sym, ap, ◌∙◌, subst, arith}
use Rattle.std.specs.{List.list_any, List.AllPairs, Option.option_or, Option.IsSome}
use Rattle.std.proofs.lemmas.List.{append_assoc, append-nil, Quantifiers.all_pairs_push}
use Rattle.std.proofs.lemmas.Bool.Decides.{Decides-eqb}
use Rattle.qapi_types.specs.declared.kind.JsonKind.{JsonKind}
use Rattle.qapi_types.specs.declared.kind.JsonKind.TheVariants as json
use Rattle.qapi_define.specs.declared.definition.{Definition.Definition, Sort.Sort, Variant.Variant}
use Rattle.qapi_define.specs.declared.definition.Part.TheVariants as part
use Rattle.qapi_define.specs.declared.definition.Sort.TheVariants as sorts
use Rattle.qapi_define.specs.Saying.{variants_of}
use Rattle.qapi_rules.specs.declared.{fault.CheckFault.CheckFault, fault.CheckRule.CheckRule}
use Rattle.qapi_rules.specs.declared.fault.CheckRule.TheVariants.{UnknownType, BadBase, BadDiscriminator, UnknownBranch, BadData, KindClash}
use Rattle.qapi_rules.specs.declared.meaning.BuiltIn.TheVariants as built_ins
use Rattle.qapi_rules.specs.Blames.{over}
use Rattle.qapi_rules.specs.Meanings.{Entity, nothing, built_in, defined, are_same, entity_of, is_alternate_sort, is_mixed, is_type, kind_number, kind_of}
use Rattle.qapi_rules.specs.References.{judged, unless, unknown, unknown_in, unknown_type, bad_base, bad_discriminator, unknown_branch, bad_data, bad_data_in, kind_clash, bad_reference, references_pass, may_be_alternative, may_be_variant, kind_of_alternative, is_of_kind, has_kind_of_one, clash_after}
use Rattle.qapi_check.proofs.ListLaws.{In, any-in, in-get_or, or-none, first_some-none}
use Rattle.qapi_check.proofs.NameLaws.{variants-part}

judged-none : (rule : CheckRule) (d : Definition) (o : Option (List ℕ)) → judged rule d o ≡ None → o ≡ None
judged-none rule d None h = refl
judged-none rule d (Some x) h = cc

pub unless-none : (good : Bool) (name : List ℕ) → unless good name ≡ None → good ≡ true
unless-none true name h = refl
unless-none false name h = cc

-- no rule of references has a fault in the definition
pub record IsReferring (defs : List Definition) (d : Definition) : Type 0 where
  pub type : unknown_type defs d ≡ None
  pub base : bad_base defs d ≡ None
  pub discriminator : bad_discriminator defs d ≡ None
  pub branch : unknown_branch defs d ≡ None
  pub data_ : bad_data defs d ≡ None
  pub kinds : kind_clash defs d ≡ None

pub referring : (defs : List Definition) (d : Definition) → references_pass defs ≡ None → In d defs → IsReferring defs d
unfolding bad_reference
referring defs d h i =
    let z : bad_reference defs d ≡ None = first_some-none (bad_reference defs) d defs h i in
    let a : (judged UnknownType d (unknown_type defs d) ≡ None) × (option_or (judged BadBase d (bad_base defs d)) (option_or (judged BadDiscriminator d (bad_discriminator defs d)) (option_or (judged UnknownBranch d (unknown_branch defs d)) (option_or (judged BadData d (bad_data defs d)) (option_or (judged KindClash d (kind_clash defs d)) None)))) ≡ None) = or-none _ _ z in
    let b : (judged BadBase d (bad_base defs d) ≡ None) × (option_or (judged BadDiscriminator d (bad_discriminator defs d)) (option_or (judged UnknownBranch d (unknown_branch defs d)) (option_or (judged BadData d (bad_data defs d)) (option_or (judged KindClash d (kind_clash defs d)) None))) ≡ None) = or-none _ _ a.1 in
    let c : (judged BadDiscriminator d (bad_discriminator defs d) ≡ None) × (option_or (judged UnknownBranch d (unknown_branch defs d)) (option_or (judged BadData d (bad_data defs d)) (option_or (judged KindClash d (kind_clash defs d)) None)) ≡ None) = or-none _ _ b.1 in
    let e : (judged UnknownBranch d (unknown_branch defs d) ≡ None) × (option_or (judged BadData d (bad_data defs d)) (option_or (judged KindClash d (kind_clash defs d)) None) ≡ None) = or-none _ _ c.1 in
    let f : (judged BadData d (bad_data defs d) ≡ None) × (option_or (judged KindClash d (kind_clash defs d)) None ≡ None) = or-none _ _ e.1 in
    let g : (judged KindClash d (kind_clash defs d) ≡ None) × (◌≡◌ {A = Option CheckFault} None None) = or-none _ _ f.1 in
    record {
      type = judged-none UnknownType d (unknown_type defs d) a.0;
      base = judged-none BadBase d (bad_base defs d) b.0;
      discriminator = judged-none BadDiscriminator d (bad_discriminator defs d) c.0;
      branch = judged-none UnknownBranch d (unknown_branch defs d) e.0;
      data_ = judged-none BadData d (bad_data defs d) f.0;
      kinds = judged-none KindClash d (kind_clash defs d) g.0;
    }

-- each branch or alternative refers to a type
pub variant-type : (defs : List Definition) (d : Definition) → IsReferring defs d → (v : Variant) → In v (variants_of d) → is_type (entity_of defs v.of.name) ≡ true
variant-type defs d r = variants-part d (λ vs. (v : Variant) → In v vs → is_type (entity_of defs v.of.name) ≡ true) (λ v i. absurd i) (λ vs j v i.
    unless-none (is_type (entity_of defs v.of.name)) v.of.name (first_some-none (λ (v : Variant). unknown defs v.of.name) v vs (first_some-none (unknown_in defs) (part.Variants vs) d.parts r.type j) i))

-- and may stand there
pub variant-may : (defs : List Definition) (d : Definition) → IsReferring defs d → (v : Variant) → In v (variants_of d) → may_be_variant defs (is_alternate_sort d.sort) v ≡ true
variant-may defs d r = variants-part d (λ vs. (v : Variant) → In v vs → may_be_variant defs (is_alternate_sort d.sort) v ≡ true) (λ v i. absurd i) (λ vs j v i.
    unless-none (may_be_variant defs (is_alternate_sort d.sort) v) v.name (first_some-none (λ (v : Variant). unless (may_be_variant defs (is_alternate_sort d.sort) v) v.name) v vs (first_some-none (bad_data_in defs d) (part.Variants vs) d.parts r.data_ j) i))

-- alternatives

kind-defined : (s : Sort) (d : Definition) → d.sort ≡ s → is_type (defined d) ≡ true → is_mixed (defined d) ≡ false → IsSome (kind_of (defined d))
kind-defined sorts.Enum d e t m = rw e refl
kind-defined sorts.Struct d e t m = rw e refl
kind-defined sorts.Union d e t m = rw e refl
kind-defined sorts.Alternate d e t m = (let k = rw e at m in cc)
kind-defined sorts.Command d e t m = (let k = rw e at t in cc)
kind-defined sorts.Event d e t m = (let k = rw e at t in cc)

one-kind : (e : Entity) → is_type e ≡ true → is_mixed e ≡ false → IsSome (kind_of e)
one-kind nothing t m = cc
one-kind (built_in (built_ins.Simple kind)) t m = refl
one-kind (built_in built_ins.QType) t m = refl
one-kind (built_in built_ins.Any) t m = cc
one-kind (defined d) t m = kind-defined d.sort d refl t m

-- an alternative is of one kind of JSON values
pub alternative-kind : (defs : List Definition) (v : Variant) → is_type (entity_of defs v.of.name) ≡ true → may_be_alternative defs v ≡ true → IsSome (kind_of_alternative defs v)
alternative-kind defs v t m = by_case v.of.is_array m
  where
    by_case : (b : Bool) → (b || not (is_mixed (entity_of defs v.of.name))) ≡ true → IsSome (cond b (Some json.Array) (kind_of (entity_of defs v.of.name)))
    by_case true m = refl
    by_case false m = one-kind (entity_of defs v.of.name) t (unmixed (is_mixed (entity_of defs v.of.name)) m)
      where
        unmixed : (b : Bool) → not b ≡ true → b ≡ false
        unmixed true h = cc
        unmixed false h = refl

-- what a rule tells of each thing and those before it holds of all pairs
pub pairs-over : {A D : Type 0} (R : D → D → Type 0) (rule : List D → D → Option A) → ((before : List D) (d : D) → rule before d ≡ None → (b : D) → In b before → R b d) →
    (before ds : List D) → over rule before ds ≡ None → AllPairs R before → AllPairs R (before ++ ds)
pairs-over R rule tells before [] h a = subst (AllPairs R) (sym (append-nil before)) a
pairs-over R rule tells before (d ∷ ds) h a =
    let n : (rule before d ≡ None) × (over rule (before ++ d ∷ []) ds ≡ None) = or-none (rule before d) (over rule (before ++ d ∷ []) ds) h in
    subst (AllPairs R) (append_assoc before (d ∷ []) ds)
    (pairs-over R rule tells (before ++ d ∷ []) ds n.1 (all_pairs_push R before d a (λ k e l. tells before d n.0 (get_or before k e) (in-get_or before k e l))))

-- the two are of different kinds
abbrev pub Unlike : List Definition → Variant → Variant → Type 0
Unlike defs v w = (kind : JsonKind) → kind_of_alternative defs v ≡ Some kind → kind_of_alternative defs w ≡ Some kind → ⊥

pub no-pairs : {D : Type 0} (R : D → D → Type 0) → AllPairs R []
no-pairs R = λ i j d l m. absurd (omega arith)

after-none : (defs : List Definition) (before : List Variant) (w : Variant) → clash_after defs before w ≡ None → (v : Variant) → In v before → Unlike defs v w
after-none defs before w h v i kind k l =
    let n : has_kind_of_one defs before w ≡ false = negated (has_kind_of_one defs before w) (unless-none (not (has_kind_of_one defs before w)) w.name h) in
    let o : has_kind_of_one defs before w ≡ list_any (is_of_kind defs kind) before = ap (λ (o : Option JsonKind). unwrap_or (option_map (λ kind. list_any (is_of_kind defs kind) before) o) false) l in
    let s : is_of_kind defs kind v ≡ true = ap (λ (o : Option JsonKind). unwrap_or (option_map (are_same kind) o) false) k ∙ (Decides-eqb (kind_number kind) (kind_number kind)).1 refl in
    let t : list_any (is_of_kind defs kind) before ≡ true = any-in (is_of_kind defs kind) v before i s in
    cc
  where
    negated : (b : Bool) → not b ≡ true → b ≡ false
    negated true h = cc
    negated false h = refl

-- no two alternatives are of one kind
pub alternatives-unlike : (defs : List Definition) (d : Definition) → IsReferring defs d → is_alternate_sort d.sort ≡ true → AllPairs (Unlike defs) (variants_of d)
alternatives-unlike defs d r a = pairs-over (Unlike defs) (clash_after defs) (after-none defs) [] (variants_of d) (sym (ap (λ b. cond b (over (clash_after defs) [] (variants_of d)) None) a) ∙ r.kinds) (no-pairs (Unlike defs))
