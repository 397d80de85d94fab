-- Each array that a branch or an alternative refers to has its type.
use Rattle.std.proofs.Common.{◌≡◌, ◌+◌, ◌||◌, ℕ, Bool, true, false, cond, List, [], ◌∷◌, ◌++◌, length, Option, Some, fold, position, slice_get, unwrap_or, option_map, refl, sym, ap, ◌∙◌, subst, inl, inr}
use Rattle.std.specs.List.{enumerate_from, flat_map, list_any}
use Rattle.std.proofs.lemmas.{Bool.Decides.Decides-eqb, List.Folds.list_any-append}
use Rattle.qapi_types.specs.declared.kind.Kind.TheVariants as kinds
use Rattle.qapi_types.specs.Types.{kind_of}
use Rattle.qapi_define.specs.declared.definition.{Definition.Definition, Variant.Variant}
use Rattle.qapi_define.specs.declared.definition.Part.TheVariants as part
use Rattle.qapi_define.specs.Saying.{variants_of}
use Rattle.qapi_number.specs.declared.implicit.ImplicitType.{ImplicitType}
use Rattle.qapi_number.specs.declared.implicit.ImplicitType.TheVariants as implicit
use Rattle.qapi_number.specs.Implicit.{same, implied, implied_by_part, implied_by, lacks_data, with_implicit, implicit_types_of}
use Rattle.qapi_number.specs.Kinds.{implicit_kind, kinds_of}
use Rattle.qapi_number.specs.Numbering.{number_of_implicit, numbering_of, type_number}
use Rattle.qapi_number.specs.TypeNames.{number_of_name, type_names, types_of}
use Rattle.qapi_check.proofs.ListLaws.{In, at-found, found, in-enumerated, in-flat_map, in-left}
use Rattle.qapi_check.proofs.{NameLaws.variants-part, NumberLaws.kind-implicit, NumberLaws.names-long}

same-itself : (x : ImplicitType) → same x x ≡ true
same-itself (implicit.Array e) = (Decides-eqb e e).1 refl
same-itself (implicit.Members at) = (Decides-eqb at at).1 refl
same-itself implicit.Empty = refl

same-one : (x y : ImplicitType) → same x y ≡ true → y ≡ x
same-one (implicit.Array a) (implicit.Array b) h = ap (λ (k : ℕ). implicit.Array k) (sym ((Decides-eqb a b).0 h))
same-one (implicit.Members a) (implicit.Members b) h = ap (λ (k : ℕ). implicit.Members k) (sym ((Decides-eqb a b).0 h))
same-one implicit.Empty implicit.Empty h = refl
same-one (implicit.Array a) (implicit.Members b) h = cc
same-one (implicit.Array a) implicit.Empty h = cc
same-one (implicit.Members a) (implicit.Array b) h = cc
same-one (implicit.Members a) implicit.Empty h = cc
same-one implicit.Empty (implicit.Array b) h = cc
same-one implicit.Empty (implicit.Members b) h = cc

sooner : (a b : Bool) → a ≡ true → (a || b) ≡ true
sooner true b h = refl
sooner false b h = cc

later : (a b : Bool) → b ≡ true → (a || b) ≡ true
later true b h = refl
later false b h = h

kept : (x y : ImplicitType) (known : List ImplicitType) → list_any (same x) known ≡ true → list_any (same x) (with_implicit known y) ≡ true
kept x y known h = by_case (list_any (same y) known)
  where
    by_case : (b : Bool) → list_any (same x) (cond b known (known ++ y ∷ [])) ≡ true
    by_case true = h
    by_case false = list_any-append (same x) known (y ∷ []) ∙ sooner (list_any (same x) known) (list_any (same x) (y ∷ [])) h

new : (x : ImplicitType) (known : List ImplicitType) → list_any (same x) (with_implicit known x) ≡ true
new x known = by_case (list_any (same x) known) refl
  where
    by_case : (b : Bool) → list_any (same x) known ≡ b → list_any (same x) (cond b known (known ++ x ∷ [])) ≡ true
    by_case true e = e
    by_case false e = list_any-append (same x) known (x ∷ []) ∙ later (list_any (same x) known) (list_any (same x) (x ∷ [])) (sooner (same x x) false (same-itself x))

all-kept : (x : ImplicitType) (known ones : List ImplicitType) → list_any (same x) known ≡ true → list_any (same x) (fold with_implicit known ones) ≡ true
all-kept x known [] h = h
all-kept x known (y ∷ ones) h = all-kept x (with_implicit known y) ones (kept x y known h)

pub gathered : (x : ImplicitType) (known ones : List ImplicitType) → In x ones → list_any (same x) (fold with_implicit known ones) ≡ true
gathered x known [] h = absurd h
gathered x known (y ∷ ones) (inl e) = all-kept x (with_implicit known y) ones (subst (λ z. list_any (same x) (with_implicit known z) ≡ true) e (new x known))
gathered x known (y ∷ ones) (inr h) = gathered x (with_implicit known y) ones h

needed : (defs : List Definition) (d : Definition) (v : Variant) → In d defs → In v (variants_of d) → v.of.is_array ≡ true → list_any (same (implicit.Array (number_of_name (types_of defs) v.of.name))) (implicit_types_of defs) ≡ true
needed defs d v i j a =
    let k : (k : ℕ) × In (k, d) (enumerate_from 0 defs) = in-enumerated d 0 defs i in
    gathered one [] (flat_map (implied_by (types_of defs)) (enumerate_from 0 defs)) (in-flat_map (implied_by (types_of defs)) (k.0, d) one (enumerate_from 0 defs) k.1 (in-left one (flat_map (implied_by_part (types_of defs) d.sort k.0) d.parts) (cond (lacks_data d.sort d) (implicit.Empty ∷ []) []) (by_part k.0)))
  where
    one : ImplicitType
    one = implicit.Array (number_of_name (types_of defs) v.of.name)

    this : In one (implied (types_of defs) v.of)
    this = subst (λ b. In one (cond b (implicit.Array (number_of_name (types_of defs) v.of.name) ∷ []) [])) (sym a) (inl refl)

    by_part : (at : ℕ) → In one (flat_map (implied_by_part (types_of defs) d.sort at) d.parts)
    by_part at = variants-part d (λ vs. In v vs → In one (flat_map (implied_by_part (types_of defs) d.sort at) d.parts)) (λ k. absurd k) (λ vs p k.
        in-flat_map (implied_by_part (types_of defs) d.sort at) (part.Variants vs) one d.parts p (in-flat_map (λ (v : Variant). implied (types_of defs) v.of) v one vs k this)) j

-- the type of the number of a type without a name is that type, if it is needed
pub kind-needed : (defs : List Definition) (one : ImplicitType) → list_any (same one) (implicit_types_of defs) ≡ true →
    kind_of (kinds_of (numbering_of defs) defs) (number_of_implicit (numbering_of defs) one) ≡ implicit_kind (numbering_of defs) defs one
kind-needed defs one h =
    let p : (p : ℕ) × (position (same one) (implicit_types_of defs) ≡ Some p) = found (same one) (implicit_types_of defs) h in
    let x : (x : ImplicitType) × (slice_get (implicit_types_of defs) p.0 ≡ Some x) × (same one x ≡ true) = at-found (same one) p.0 (implicit_types_of defs) p.1 in
    let number : number_of_implicit (numbering_of defs) one ≡ length (types_of defs) + 16 + p.0 =
    ap (λ (o : Option ℕ). unwrap_or (option_map (λ q. length (type_names (types_of defs)) + q) o) 0) p.1
    ∙ ap (λ (m : ℕ). m + p.0) (names-long (types_of defs)) in
    ap (λ (t : ℕ). kind_of (kinds_of (numbering_of defs) defs) t) number
    ∙ kind-implicit (numbering_of defs) defs p.0 x.0 x.1
    ∙ ap (implicit_kind (numbering_of defs) defs) (same-one one x.0 x.2)

-- the type of its number is that array
pub array-kind : (defs : List Definition) (d : Definition) (v : Variant) → In d defs → In v (variants_of d) → v.of.is_array ≡ true →
    kind_of (kinds_of (numbering_of defs) defs) (type_number (numbering_of defs) v.of) ≡ kinds.Array (number_of_name (types_of defs) v.of.name)
array-kind defs d v i j a =
    let e : ℕ = number_of_name (types_of defs) v.of.name in
    ap (λ b. kind_of (kinds_of (numbering_of defs) defs) (cond b (number_of_implicit (numbering_of defs) (implicit.Array e)) e)) a
    ∙ kind-needed defs (implicit.Array e) (needed defs d v i j a)
