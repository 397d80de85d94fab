-- Alternatives of definitions without a fault are told apart.
use Rattle.std.proofs.Common.{◌≡◌, ◌<◌, ℕ, Bool, true, false, cond, List, [], ◌∷◌, length, map, get_or, Option, Some, None, All, refl, sym, ap, ◌∙◌, subst, arith}
use Rattle.std.specs.{List.AllPairs, Option.IsSome}
use Rattle.std.proofs.lemmas.List.{get_or-map, length-map, Elements.All-map}
use Rattle.qapi_types.specs.declared.kind.{JsonKind.JsonKind}
use Rattle.qapi_types.specs.declared.kind.JsonKind.TheVariants as json
use Rattle.qapi_types.specs.{Goodness.AreToldApart, Goodness.HasApartAlternatives, Types.json_kind_of, Types.kind_of}
use Rattle.qapi_define.specs.declared.definition.{Definition.Definition, Sort.Sort, Variant.Variant}
use Rattle.qapi_define.specs.declared.definition.Sort.TheVariants as sorts
use Rattle.qapi_define.specs.Saying.{variants_of}
use Rattle.qapi_rules.specs.{Meanings.entity_of, Meanings.is_alternate_sort, Meanings.kind_of as kind_meant, NamesRules.names_pass}
use Rattle.qapi_rules.specs.References.{kind_of_alternative, may_be_alternative, may_be_branch, references_pass}
use Rattle.qapi_number.specs.declared.implicit.ImplicitType.{ImplicitType}
use Rattle.qapi_number.specs.declared.implicit.ImplicitType.TheVariants as implicit
use Rattle.qapi_number.specs.Kinds.{implicit_kind, kind_defined, kinds_of}
use Rattle.qapi_number.specs.Numbering.{number_of_implicit, numbering_of, type_number}
use Rattle.qapi_number.specs.TypeNames.{number_of_name, types_of}
use Rattle.qapi_check.proofs.ListLaws.{In, all-in, in-get_or}
use Rattle.qapi_check.proofs.{ArrayLaws.array-kind, NamedLaws.IsOwn, NamedLaws.json-same, NamedLaws.named-type, NamedLaws.own-at, NumberLaws.kinds-all}
use Rattle.qapi_check.proofs.ReferenceLaws.{IsReferring, Unlike, alternative-kind, alternatives-unlike, referring, variant-may, variant-type}

-- the kind of JSON values that the alternative's number has is the one that the rules mean
alternative-json : (defs : List Definition) (d : Definition) (v : Variant) → names_pass defs ≡ None → In d defs → IsReferring defs d → In v (variants_of d) →
    json_kind_of (kind_of (kinds_of (numbering_of defs) defs) (type_number (numbering_of defs) v.of)) ≡ kind_of_alternative defs v
alternative-json defs d v names i r j = by_case v.of.is_array refl
  where
    by_case : (b : Bool) → v.of.is_array ≡ b → json_kind_of (kind_of (kinds_of (numbering_of defs) defs) (type_number (numbering_of defs) v.of)) ≡ kind_of_alternative defs v
    by_case true e = ap json_kind_of (array-kind defs d v i j e) ∙ sym (ap (λ b. cond b (Some json.Array) (kind_meant (entity_of defs v.of.name))) e)
    by_case false e =
        ap (λ (t : ℕ). json_kind_of (kind_of (kinds_of (numbering_of defs) defs) t)) (ap (λ b. cond b (number_of_implicit (numbering_of defs) (implicit.Array (number_of_name (types_of defs) v.of.name))) (number_of_name (types_of defs) v.of.name)) e)
        ∙ json-same defs v.of.name (named-type defs v.of.name names (variant-type defs d r v j))
        ∙ sym (ap (λ b. cond b (Some json.Array) (kind_meant (entity_of defs v.of.name))) e)

told-apart : (defs : List Definition) (d : Definition) → names_pass defs ≡ None → In d defs → IsReferring defs d → is_alternate_sort d.sort ≡ true →
    AreToldApart (kinds_of (numbering_of defs) defs) (map (λ (v : Variant). type_number (numbering_of defs) v.of) (variants_of d))
told-apart defs d names i r a = (
  All-map (λ t. IsSome (json_kind_of (kind_of (kinds_of (numbering_of defs) defs) t))) (λ (v : Variant). type_number (numbering_of defs) v.of) (variants_of d)
      (all-in (λ (v : Variant). IsSome (json_kind_of (kind_of (kinds_of (numbering_of defs) defs) (type_number (numbering_of defs) v.of)))) (variants_of d) (λ v j. subst IsSome (sym (told v j)) (is-kind v j))),
  pairs (variants_of d) (λ v j. j) (alternatives-unlike defs d r a),
)
  where
    told : (v : Variant) → In v (variants_of d) → json_kind_of (kind_of (kinds_of (numbering_of defs) defs) (type_number (numbering_of defs) v.of)) ≡ kind_of_alternative defs v
    told v j = alternative-json defs d v names i r j

    is-kind : (v : Variant) → In v (variants_of d) → IsSome (kind_of_alternative defs v)
    is-kind v j = alternative-kind defs v (variant-type defs d r v j) (sym (ap (λ b. cond b (may_be_alternative defs v) (may_be_branch defs v)) a) ∙ variant-may defs d r v j)

    apart : (v w : Variant) → In v (variants_of d) → In w (variants_of d) → Unlike defs v w → json_kind_of (kind_of (kinds_of (numbering_of defs) defs) (type_number (numbering_of defs) v.of)) ≡ json_kind_of (kind_of (kinds_of (numbering_of defs) defs) (type_number (numbering_of defs) w.of)) → ⊥
    apart v w j k u e = by_kind (kind_of_alternative defs v) refl (is-kind v j)
      where
        by_kind : (o : Option JsonKind) → kind_of_alternative defs v ≡ o → IsSome o → ⊥
        by_kind None h s = cc
        by_kind (Some kind) h s = u kind h (sym (told w k) ∙ sym e ∙ told v j ∙ h)

    pairs : (vs : List Variant) → ((v : Variant) → In v vs → In v (variants_of d)) → AllPairs (Unlike defs) vs →
        AllPairs (λ t u. json_kind_of (kind_of (kinds_of (numbering_of defs) defs) t) ≡ json_kind_of (kind_of (kinds_of (numbering_of defs) defs) u) → ⊥) (map (λ (v : Variant). type_number (numbering_of defs) v.of) vs)
    pairs [] sub u = λ x y e l m. absurd (omega arith)
    pairs (v ∷ vs) sub u = λ x y e l m.
        (let n : length (map (λ (v : Variant). type_number (numbering_of defs) v.of) (v ∷ vs)) ≡ length (v ∷ vs) = length-map (v ∷ vs) (λ (v : Variant). type_number (numbering_of defs) v.of) in
        let q : y < length (v ∷ vs) = omega (arith, m, n) in
        let p : x < length (v ∷ vs) = omega (arith, l, q) in
        let f = get_or-map (λ (v : Variant). type_number (numbering_of defs) v.of) (v ∷ vs) x v e p in
        let g = get_or-map (λ (v : Variant). type_number (numbering_of defs) v.of) (v ∷ vs) y v e q in
        λ h. apart (get_or (v ∷ vs) x v) (get_or (v ∷ vs) y v) (sub _ (in-get_or (v ∷ vs) x v p)) (sub _ (in-get_or (v ∷ vs) y v q)) (u x y v l q)
        (ap (λ (t : ℕ). json_kind_of (kind_of (kinds_of (numbering_of defs) defs) t)) (sym f) ∙ h ∙ ap (λ (t : ℕ). json_kind_of (kind_of (kinds_of (numbering_of defs) defs) t)) g))

own-apart : (defs : List Definition) (s : Sort) (t : ℕ) (d : Definition) → d.sort ≡ s → names_pass defs ≡ None → In d defs → IsReferring defs d → HasApartAlternatives (kinds_of (numbering_of defs) defs) (kind_defined (numbering_of defs) s t d)
own-apart defs sorts.Alternate t d e names i r = told-apart defs d names i r (ap is_alternate_sort e)
own-apart defs sorts.Enum t d e names i r = tt
own-apart defs sorts.Struct t d e names i r = tt
own-apart defs sorts.Union t d e names i r = tt
own-apart defs sorts.Command t d e names i r = tt
own-apart defs sorts.Event t d e names i r = tt

implicit-apart : (defs : List Definition) (x : ImplicitType) → HasApartAlternatives (kinds_of (numbering_of defs) defs) (implicit_kind (numbering_of defs) defs x)
implicit-apart defs (implicit.Array e) = tt
implicit-apart defs (implicit.Members at) = tt
implicit-apart defs implicit.Empty = tt

-- the alternatives of each alternate are told apart
pub alternatives-apart : (defs : List Definition) → names_pass defs ≡ None → references_pass defs ≡ None → All (HasApartAlternatives (kinds_of (numbering_of defs) defs)) (kinds_of (numbering_of defs) defs)
alternatives-apart defs names references = kinds-all (HasApartAlternatives (kinds_of (numbering_of defs) defs)) (numbering_of defs) defs
    (λ t d g. (let o : IsOwn defs d.name d = own-at defs d t names g in own-apart defs d.sort t d refl names o.among (referring defs d references o.among)))
    (tt, (tt, (tt, (tt, (tt, (tt, (tt, (tt, (tt, (tt, (tt, (tt, (tt, (tt, (tt, (tt, tt))))))))))))))))
    (λ x h. implicit-apart defs x)
