-- Numbers of types are in range, and what the types of the numbers are.
use Rattle.std.proofs.Common.{◌≡◌, ◌<◌, ◌≤◌, ◌+◌, ◌-◌, ◌⊎◌, ℕ, suc, Bool, true, false, cond, List, [], ◌∷◌, ◌++◌, length, map, get_or, Option, Some, None, slice_get, position, unwrap_or, fold, option_map, refl, sym, ap, ◌∙◌, subst, inl, inr, arith, bytes_eq, All}
use Rattle.std.specs.List.{AllByRecursion, enumerate_from, list_any, flat_map}
use Rattle.std.proofs.lemmas.{Bool.cases_lt, Option.slice_get_within, Option.get_or_from_slice_get}
use Rattle.std.proofs.lemmas.List.{length-append, length-map, get_or_append_left, get_or-append-add, get_or-map, FromFn.get_or-enumerate_from, Elements.All-map, Elements.All-nil}
use Rattle.qapi_types.specs.declared.kind.{Branch.Branch, Kind.Kind, MemberDef.MemberDef}
use Rattle.qapi_types.specs.declared.kind.Kind.TheVariants as kinds
use Rattle.qapi_types.specs.declared.parts.{CommandDef.CommandDef, EventDef.EventDef}
use Rattle.qapi_types.specs.declared.parts.ArgType.TheVariants as args
use Rattle.qapi_types.specs.{Goodness.RefersBelow, Goodness.TakesBelow, Goodness.CommandBelow, Goodness.HasPlainElement, Lookups.place_of, Types.kind_of, Types.is_array}
use Rattle.qapi_define.specs.declared.definition.{Definition.Definition, Member.Member, Part.Part, Sort.Sort, TypeName.TypeName, Variant.Variant}
use Rattle.qapi_define.specs.declared.definition.Part.TheVariants as part
use Rattle.qapi_define.specs.declared.definition.Sort.TheVariants as sorts
use Rattle.qapi_define.specs.Saying.{data_of, members_of, returns_of, variants_of}
use Rattle.qapi_number.specs.declared.{implicit.ImplicitType.ImplicitType, numbering.Numbering.Numbering}
use Rattle.qapi_number.specs.declared.implicit.ImplicitType.TheVariants as implicit
use Rattle.qapi_number.specs.Implicit.{same, implied, implied_by_members, implied_by_part, implied_by, written, lacks_data, with_implicit, implicit_types_of}
use Rattle.qapi_number.specs.Kinds.{member_def, all_members, tag_of, tag_names, member_defs, branch_def, kind_defined, builtin_kinds, implicit_kind, defined_kinds, kinds_of, members_at}
use Rattle.qapi_number.specs.Numbering.{numbering_of, number_of_implicit, type_number}
use Rattle.qapi_number.specs.PartsOf.{arg_of, calls_of, command_in, commands_of, data_number, event_in, events_of, returned_number}
use Rattle.qapi_number.specs.TypeNames.{types_of, type_names, builtin_names, number_of_name}
use Rattle.qapi_check.proofs.ListLaws.{In, in-either, map-in, flat_map-in, all-in, in-get_or, by-recursion, enumerated-in, at-found, past-none}

enumerate-long : {A : Type 0} (n : ℕ) (xs : List A) → length (enumerate_from n xs) ≡ length xs
enumerate-long n [] = refl
enumerate-long n (x ∷ xs) = ap suc (enumerate-long (n + 1) xs)

abbrev defined_at : Numbering → ℕ × Definition → Kind
defined_at n e = kind_defined n e.1.sort e.0 e.1

defined-long : (n : Numbering) → length (defined_kinds n) ≡ length n.types
defined-long n = length-map (enumerate_from 0 n.types) (defined_at n) ∙ enumerate-long 0 n.types

named-long : (n : Numbering) → length (defined_kinds n ++ builtin_kinds) ≡ length n.types + 16
named-long n = let b : length builtin_kinds ≡ 16 = refl in omega (arith, length-append (defined_kinds n) builtin_kinds, defined-long n, b)

pub kinds-long : (n : Numbering) (defs : List Definition) → length (kinds_of n defs) ≡ length n.types + 16 + length n.implicit
kinds-long n defs = omega (arith, length-append (defined_kinds n ++ builtin_kinds) (map (implicit_kind n defs) n.implicit), named-long n, length-map n.implicit (implicit_kind n defs))

pub names-long : (types : List Definition) → length (type_names types) ≡ length types + 16
names-long types = let b : length builtin_names ≡ 16 = refl in omega (arith, length-append (map (λ (d : Definition). d.name) types) builtin_names, length-map types (λ (d : Definition). d.name), b)

pub number-below : (types : List Definition) (name : List ℕ) → number_of_name types name < length types + 16
number-below types name = by_case (place_of (type_names types) name) refl
  where
    by_case : (o : Option ℕ) → place_of (type_names types) name ≡ o → unwrap_or o 0 < length types + 16
    by_case None e = omega arith
    by_case (Some k) e =
        let r : (x : List ℕ) × (slice_get (type_names types) k ≡ Some x) × (bytes_eq name x ≡ true) = at-found (bytes_eq name) k (type_names types) e in
        let l : k < length (type_names types) = slice_get_within (type_names types) k r.0 r.1 in
        omega (arith, l, names-long types)

pub implicit-below : (n : Numbering) (one : ImplicitType) → number_of_implicit n one < length n.types + 16 + length n.implicit
implicit-below n one = by_case (position (same one) n.implicit) refl
  where
    by_case : (o : Option ℕ) → position (same one) n.implicit ≡ o → unwrap_or (option_map (λ p. length (type_names n.types) + p) o) 0 < length n.types + 16 + length n.implicit
    by_case None e = omega arith
    by_case (Some k) e =
        let r : (x : ImplicitType) × (slice_get n.implicit k ≡ Some x) × (same one x ≡ true) = at-found (same one) k n.implicit e in
        let l : k < length n.implicit = slice_get_within n.implicit k r.0 r.1 in
        omega (arith, l, names-long n.types)

pub type-below : (n : Numbering) (of : TypeName) → type_number n of < length n.types + 16 + length n.implicit
type-below n of = by_case of.is_array
  where
    by_case : (b : Bool) → cond b (number_of_implicit n (implicit.Array (number_of_name n.types of.name))) (number_of_name n.types of.name) < length n.types + 16 + length n.implicit
    by_case true = implicit-below n (implicit.Array (number_of_name n.types of.name))
    by_case false = let l = number-below n.types of.name in omega (arith, l)

-- what the type of a number is

pub kind-defined : (n : Numbering) (defs : List Definition) (t : ℕ) (d : Definition) → slice_get n.types t ≡ Some d → kind_of (kinds_of n defs) t ≡ kind_defined n d.sort t d
kind-defined n defs t d h =
    get_or_append_left (defined_kinds n ++ builtin_kinds) (map (implicit_kind n defs) n.implicit) kinds.Null t (omega (arith, l, named-long n))
    ∙ get_or_append_left (defined_kinds n) builtin_kinds kinds.Null t (omega (arith, l, defined-long n))
    ∙ get_or-map (defined_at n) (enumerate_from 0 n.types) t (0, d) kinds.Null (omega (arith, l, enumerate-long 0 n.types))
    ∙ ap (defined_at n) here
  where
    l : t < length n.types
    l = slice_get_within n.types t d h

    z : 0 + t ≡ t
    z = omega arith

    here : get_or (enumerate_from 0 n.types) t (0, d) ≡ (t, d)
    here = get_or-enumerate_from 0 n.types t (0, d) l ∙ ap {A = ℕ} {B = ℕ × Definition} (λ k. (k, get_or n.types t d)) z ∙ ap {A = Definition} {B = ℕ × Definition} (λ x. (t, x)) (get_or_from_slice_get n.types t d d h)

pub kind-builtin : (n : Numbering) (defs : List Definition) (k : ℕ) → k < 16 → kind_of (kinds_of n defs) (length n.types + k) ≡ get_or builtin_kinds k kinds.Null
kind-builtin n defs k l =
    get_or_append_left (defined_kinds n ++ builtin_kinds) (map (implicit_kind n defs) n.implicit) kinds.Null (length n.types + k) (omega (arith, l, named-long n))
    ∙ ap (λ (m : ℕ). get_or (defined_kinds n ++ builtin_kinds) (m + k) kinds.Null) (sym (defined-long n))
    ∙ get_or-append-add (defined_kinds n) builtin_kinds k kinds.Null

pub kind-implicit : (n : Numbering) (defs : List Definition) (p : ℕ) (x : ImplicitType) → slice_get n.implicit p ≡ Some x → kind_of (kinds_of n defs) (length n.types + 16 + p) ≡ implicit_kind n defs x
kind-implicit n defs p x h =
    ap (λ (m : ℕ). get_or (kinds_of n defs) (m + p) kinds.Null) (sym (named-long n))
    ∙ get_or-append-add (defined_kinds n ++ builtin_kinds) (map (implicit_kind n defs) n.implicit) p kinds.Null
    ∙ get_or-map (implicit_kind n defs) n.implicit p x kinds.Null (slice_get_within n.implicit p x h)
    ∙ ap (implicit_kind n defs) (get_or_from_slice_get n.implicit p x x h)

-- what holds of each definition's type, of the built-in types and of those without names holds of all
pub kinds-all : (P : Kind → Type 0) (n : Numbering) (defs : List Definition) → ((t : ℕ) (d : Definition) → slice_get n.types t ≡ Some d → P (kind_defined n d.sort t d)) → AllByRecursion P builtin_kinds →
    ((x : ImplicitType) → In x n.implicit → P (implicit_kind n defs x)) → All P (kinds_of n defs)
kinds-all P n defs own given rest = all-in P (kinds_of n defs) (λ k h. elim (in-either k (defined_kinds n ++ builtin_kinds) (map (implicit_kind n defs) n.implicit) h) [
  | inl a ↦ elim (in-either k (defined_kinds n) builtin_kinds a) [ inl b ↦ first k (map-in (defined_at n) k (enumerate_from 0 n.types) b) | inr b ↦ by-recursion P k builtin_kinds given b ]
  | inr a ↦ last k (map-in (implicit_kind n defs) k n.implicit a)
])
  where
    first : (k : Kind) → (e : ℕ × Definition) × In e (enumerate_from 0 n.types) × (k ≡ defined_at n e) → P k
    first k e =
        let r : (i : ℕ) × (e.0.0 ≡ 0 + i) × (slice_get n.types i ≡ Some e.0.1) = enumerated-in e.0 0 n.types e.1 in
        let q : r.0 ≡ e.0.0 = omega (arith, r.1) in
        subst P (sym e.2) (own e.0.0 e.0.1 (subst (λ (i : ℕ). slice_get n.types i ≡ Some e.0.1) q r.2))

    last : (k : Kind) → (x : ImplicitType) × In x n.implicit × (k ≡ implicit_kind n defs x) → P k
    last k x = subst P (sym x.2) (rest x.0 x.1)

-- types without names

-- an array of a type that has a name
abbrev pub IsOfNamed : List Definition → ImplicitType → Type 0
IsOfNamed types (implicit.Array e) = (name : List ℕ) × (e ≡ number_of_name types name)
IsOfNamed types other = Unit {0}

implied-named : (types : List Definition) (of : TypeName) (x : ImplicitType) → In x (implied types of) → IsOfNamed types x
implied-named types of x h = by_case of.is_array h
  where
    by_case : (b : Bool) → In x (cond b (implicit.Array (number_of_name types of.name) ∷ []) []) → IsOfNamed types x
    by_case true (inl e) = subst (IsOfNamed types) (sym e) (of.name, refl)
    by_case true (inr k) = absurd k
    by_case false k = absurd k

members-named : (types : List Definition) (members : List Member) (x : ImplicitType) → In x (implied_by_members types members) → IsOfNamed types x
members-named types members x h = let r : (m : Member) × In m members × In x (implied types m.of) = flat_map-in (λ (m : Member). implied types m.of) x members h in implied-named types r.0.of x r.2

written-named : (types : List Definition) (s : Sort) (at : ℕ) (x : ImplicitType) → In x (written s at) → IsOfNamed types x
written-named types sorts.Command at x (inl e) = subst (IsOfNamed types) (sym e) tt
written-named types sorts.Command at x (inr h) = absurd h
written-named types sorts.Event at x (inl e) = subst (IsOfNamed types) (sym e) tt
written-named types sorts.Event at x (inr h) = absurd h
written-named types sorts.Enum at x h = absurd h
written-named types sorts.Struct at x h = absurd h
written-named types sorts.Union at x h = absurd h
written-named types sorts.Alternate at x h = absurd h

part-named : (types : List Definition) (s : Sort) (at : ℕ) (p : Part) (x : ImplicitType) → In x (implied_by_part types s at p) → IsOfNamed types x
part-named types s at (part.BaseMembers members) x h = members-named types members x h
part-named types s at (part.Members members) x h = elim (in-either x (written s at) (implied_by_members types members) h) [ inl k ↦ written-named types s at x k | inr k ↦ members-named types members x k ]
part-named types s at (part.Variants variants) x h = let r : (v : Variant) × In v variants × In x (implied types v.of) = flat_map-in (λ (v : Variant). implied types v.of) x variants h in implied-named types r.0.of x r.2
part-named types s at (part.Returns of) x h = implied-named types of x h
part-named types s at (part.Values values) x h = absurd h
part-named types s at (part.Base name) x h = absurd h
part-named types s at (part.Discriminator name) x h = absurd h
part-named types s at (part.Data name) x h = absurd h
part-named types s at (part.Features features) x h = absurd h

definition-named : (types : List Definition) (e : ℕ × Definition) (x : ImplicitType) → In x (implied_by types e) → IsOfNamed types x
definition-named types e x h = elim (in-either x (flat_map (implied_by_part types e.1.sort e.0) e.1.parts) (cond (lacks_data e.1.sort e.1) (implicit.Empty ∷ []) []) h) [
  | inl k ↦ (let r : (p : Part) × In p e.1.parts × In x (implied_by_part types e.1.sort e.0 p) = flat_map-in (implied_by_part types e.1.sort e.0) x e.1.parts k in part-named types e.1.sort e.0 r.0 x r.2)
  | inr k ↦ empty (lacks_data e.1.sort e.1) k
]
  where
    empty : (b : Bool) → In x (cond b (implicit.Empty ∷ []) []) → IsOfNamed types x
    empty true (inl q) = subst (IsOfNamed types) (sym q) tt
    empty true (inr k) = absurd k
    empty false k = absurd k

fold-in : (x : ImplicitType) (known ones : List ImplicitType) → In x (fold with_implicit known ones) → In x known ⊎ In x ones
fold-in x known [] h = inl h
fold-in x known (y ∷ ones) h = elim (fold-in x (with_implicit known y) ones h) [ inl k ↦ by_case (list_any (same y) known) k | inr k ↦ inr (inr k) ]
  where
    by_case : (b : Bool) → In x (cond b known (known ++ y ∷ [])) → In x known ⊎ In x (y ∷ ones)
    by_case true k = inl k
    by_case false k = elim (in-either x known (y ∷ []) k) [ inl q ↦ inl q | inr q ↦ elim q [ inl e ↦ inr (inl e) | inr z ↦ absurd z ] ]

pub implicit-named : (defs : List Definition) (x : ImplicitType) → In x (implicit_types_of defs) → IsOfNamed (types_of defs) x
implicit-named defs x h = elim (fold-in x [] (flat_map (implied_by (types_of defs)) (enumerate_from 0 defs)) h) [
  | inl k ↦ absurd k
  | inr k ↦ (let r : (e : ℕ × Definition) × In e (enumerate_from 0 defs) × In x (implied_by (types_of defs) e) = flat_map-in (implied_by (types_of defs)) x (enumerate_from 0 defs) k in definition-named (types_of defs) r.0 x r.2)
]

-- all that refers to types

defined-refers : (n : Numbering) (top : ℕ) → ((of : TypeName) → type_number n of < top) → (s : Sort) (t : ℕ) (d : Definition) → RefersBelow top (kind_defined n s t d)
defined-refers n top below sorts.Enum t d = tt
defined-refers n top below sorts.Alternate t d = All-map (λ x. x < top) (λ (v : Variant). type_number n v.of) (variants_of d) (λ k e l. below _)
defined-refers n top below sorts.Struct t d = (All-map (λ (m : MemberDef). m.type_id < top) (member_def n) (all_members n.types t) (λ k e l. below _), All-map (λ (b : Branch). b.type_id < top) (branch_def n (tag_names n.types (member_defs n (all_members n.types t)) (tag_of d (member_defs n (all_members n.types t))))) (variants_of d) (λ k e l. below _))
defined-refers n top below sorts.Union t d = (All-map (λ (m : MemberDef). m.type_id < top) (member_def n) (all_members n.types t) (λ k e l. below _), All-map (λ (b : Branch). b.type_id < top) (branch_def n (tag_names n.types (member_defs n (all_members n.types t)) (tag_of d (member_defs n (all_members n.types t))))) (variants_of d) (λ k e l. below _))
defined-refers n top below sorts.Command t d = (All-map (λ (m : MemberDef). m.type_id < top) (member_def n) (all_members n.types t) (λ k e l. below _), All-map (λ (b : Branch). b.type_id < top) (branch_def n (tag_names n.types (member_defs n (all_members n.types t)) (tag_of d (member_defs n (all_members n.types t))))) (variants_of d) (λ k e l. below _))
defined-refers n top below sorts.Event t d = (All-map (λ (m : MemberDef). m.type_id < top) (member_def n) (all_members n.types t) (λ k e l. below _), All-map (λ (b : Branch). b.type_id < top) (branch_def n (tag_names n.types (member_defs n (all_members n.types t)) (tag_of d (member_defs n (all_members n.types t))))) (variants_of d) (λ k e l. below _))

below-all : (defs : List Definition) (of : TypeName) → type_number (numbering_of defs) of < length (kinds_of (numbering_of defs) defs)
below-all defs of = let l = type-below (numbering_of defs) of in omega (arith, l, kinds-long (numbering_of defs) defs)

implicit-refers : (defs : List Definition) (x : ImplicitType) → IsOfNamed (types_of defs) x → RefersBelow (length (kinds_of (numbering_of defs) defs)) (implicit_kind (numbering_of defs) defs x)
implicit-refers defs (implicit.Array e) h = let l : number_of_name (types_of defs) h.0 < length (types_of defs) + 16 = number-below (types_of defs) h.0 in omega (arith, l, h.1, kinds-long (numbering_of defs) defs)
implicit-refers defs (implicit.Members at) h = (All-map (λ (m : MemberDef). m.type_id < length (kinds_of (numbering_of defs) defs)) (member_def (numbering_of defs)) (members_at defs at) (λ k e l. below-all defs _), All-nil (λ (b : Branch). b.type_id < length (kinds_of (numbering_of defs) defs)))
implicit-refers defs implicit.Empty h = (All-nil (λ (m : MemberDef). m.type_id < length (kinds_of (numbering_of defs) defs)), All-nil (λ (b : Branch). b.type_id < length (kinds_of (numbering_of defs) defs)))

-- all types refer to types
pub types-refer : (defs : List Definition) → All (RefersBelow (length (kinds_of (numbering_of defs) defs))) (kinds_of (numbering_of defs) defs)
types-refer defs = kinds-all (RefersBelow (length (kinds_of (numbering_of defs) defs))) (numbering_of defs) defs
    (λ t d h. defined-refers (numbering_of defs) (length (kinds_of (numbering_of defs) defs)) (below-all defs) d.sort t d)
    (tt, (tt, (tt, (tt, (tt, (tt, (tt, (tt, (tt, (tt, (tt, (tt, (tt, (tt, (tt, (tt, tt))))))))))))))))
    (λ x h. implicit-refers defs x (implicit-named defs x h))

data-below : (defs : List Definition) (at : ℕ) (members : Option (List Member)) (name : Option (List ℕ)) → data_number (numbering_of defs) at members name < length (kinds_of (numbering_of defs) defs)
data-below defs at (Some members) name = let l = implicit-below (numbering_of defs) (implicit.Members at) in omega (arith, l, kinds-long (numbering_of defs) defs)
data-below defs at None (Some name) = let l : number_of_name (types_of defs) name < length (types_of defs) + 16 = number-below (types_of defs) name in omega (arith, l, kinds-long (numbering_of defs) defs)
data-below defs at None None = let l = implicit-below (numbering_of defs) implicit.Empty in omega (arith, l, kinds-long (numbering_of defs) defs)

returned-below : (defs : List Definition) (of : Option TypeName) → returned_number (numbering_of defs) of < length (kinds_of (numbering_of defs) defs)
returned-below defs (Some of) = below-all defs of
returned-below defs None = let l = implicit-below (numbering_of defs) implicit.Empty in omega (arith, l, kinds-long (numbering_of defs) defs)

arg-below : (defs : List Definition) (at : ℕ) (d : Definition) → TakesBelow (length (kinds_of (numbering_of defs) defs)) (arg_of (numbering_of defs) at d)
arg-below defs at d = by_case d.flags.generated
  where
    by_case : (b : Bool) → TakesBelow (length (kinds_of (numbering_of defs) defs)) (cond b (args.Typed (data_number (numbering_of defs) at (members_of d) (data_of d))) args.AnyObject)
    by_case true = data-below defs at (members_of d) (data_of d)
    by_case false = tt

command-below : (defs : List Definition) (c : CommandDef) (place at : ℕ) (s : Sort) (d : Definition) → In c (command_in (numbering_of defs) s place at d) → CommandBelow (length (kinds_of (numbering_of defs) defs)) c
command-below defs c place at sorts.Command d (inl e) = subst (CommandBelow (length (kinds_of (numbering_of defs) defs))) (sym e) (arg-below defs at d, returned-below defs (returns_of d))
command-below defs c place at sorts.Command d (inr h) = absurd h
command-below defs c place at sorts.Event d h = absurd h
command-below defs c place at sorts.Enum d h = absurd h
command-below defs c place at sorts.Struct d h = absurd h
command-below defs c place at sorts.Union d h = absurd h
command-below defs c place at sorts.Alternate d h = absurd h

event-below : (defs : List Definition) (v : EventDef) (place at : ℕ) (s : Sort) (d : Definition) → In v (event_in (numbering_of defs) s place at d) → v.arg < length (kinds_of (numbering_of defs) defs)
event-below defs v place at sorts.Event d (inl e) = subst (λ (v : EventDef). v.arg < length (kinds_of (numbering_of defs) defs)) (sym e) (data-below defs at (members_of d) (data_of d))
event-below defs v place at sorts.Event d (inr h) = absurd h
event-below defs v place at sorts.Command d h = absurd h
event-below defs v place at sorts.Enum d h = absurd h
event-below defs v place at sorts.Struct d h = absurd h
event-below defs v place at sorts.Union d h = absurd h
event-below defs v place at sorts.Alternate d h = absurd h

-- all commands and events refer to types
pub commands-refer : (defs : List Definition) → All (CommandBelow (length (kinds_of (numbering_of defs) defs))) (commands_of (numbering_of defs) defs)
commands-refer defs = all-in (CommandBelow (length (kinds_of (numbering_of defs) defs))) (commands_of (numbering_of defs) defs) (λ c h.
    (let r : (e : ℕ × (ℕ × Definition)) × In e (calls_of defs) × In c (command_in (numbering_of defs) e.1.1.sort e.0 e.1.0 e.1.1) = flat_map-in (λ (e : ℕ × (ℕ × Definition)). command_in (numbering_of defs) e.1.1.sort e.0 e.1.0 e.1.1) c (calls_of defs) h in
    command-below defs c r.0.0 r.0.1.0 r.0.1.1.sort r.0.1.1 r.2))

pub events-refer : (defs : List Definition) → All (λ (v : EventDef). v.arg < length (kinds_of (numbering_of defs) defs)) (events_of (numbering_of defs) defs)
events-refer defs = all-in (λ (v : EventDef). v.arg < length (kinds_of (numbering_of defs) defs)) (events_of (numbering_of defs) defs) (λ v h.
    (let r : (e : ℕ × (ℕ × Definition)) × In e (calls_of defs) × In v (event_in (numbering_of defs) e.1.1.sort e.0 e.1.0 e.1.1) = flat_map-in (λ (e : ℕ × (ℕ × Definition)). event_in (numbering_of defs) e.1.1.sort e.0 e.1.0 e.1.1) v (calls_of defs) h in
    event-below defs v r.0.0 r.0.1.0 r.0.1.1.sort r.0.1.1 r.2))

-- elements of arrays are of types that have names, so they are no arrays

defined-plain : (n : Numbering) (s : Sort) (t : ℕ) (d : Definition) → is_array (kind_defined n s t d) ≡ false
defined-plain n sorts.Enum t d = refl
defined-plain n sorts.Struct t d = refl
defined-plain n sorts.Union t d = refl
defined-plain n sorts.Alternate t d = refl
defined-plain n sorts.Command t d = refl
defined-plain n sorts.Event t d = refl

builtin-plain : (k : Kind) → In k builtin_kinds → is_array k ≡ false
builtin-plain k h = by-recursion (λ k. is_array k ≡ false) k builtin_kinds (refl, (refl, (refl, (refl, (refl, (refl, (refl, (refl, (refl, (refl, (refl, (refl, (refl, (refl, (refl, (refl, tt)))))))))))))))) h

named-plain : (n : Numbering) (defs : List Definition) (e : ℕ) → e < length n.types + 16 → is_array (kind_of (kinds_of n defs) e) ≡ false
named-plain n defs e l = elim (cases_lt e (length n.types)) [
  | inl k ↦ by_get (slice_get n.types e) refl k
  | inr k ↦ (let j : ℕ = e - length n.types in let q : length n.types + j ≡ e = omega arith in let b : j < 16 = omega arith in
      subst (λ (i : ℕ). is_array (kind_of (kinds_of n defs) i) ≡ false) q (ap is_array (kind-builtin n defs j b) ∙ builtin-plain (get_or builtin_kinds j kinds.Null) (in-get_or builtin_kinds j kinds.Null b)))
]
  where
    by_get : (o : Option Definition) → slice_get n.types e ≡ o → e < length n.types → is_array (kind_of (kinds_of n defs) e) ≡ false
    by_get None h k = (let p : length n.types ≤ e = past-none n.types e h in absurd (omega (arith, k, p)))
    by_get (Some d) h k = ap is_array (kind-defined n defs e d h) ∙ defined-plain n d.sort e d

defined-elements : (n : Numbering) (table : List Kind) (s : Sort) (t : ℕ) (d : Definition) → HasPlainElement table (kind_defined n s t d)
defined-elements n table sorts.Enum t d = tt
defined-elements n table sorts.Struct t d = tt
defined-elements n table sorts.Union t d = tt
defined-elements n table sorts.Alternate t d = tt
defined-elements n table sorts.Command t d = tt
defined-elements n table sorts.Event t d = tt

implicit-elements : (defs : List Definition) (x : ImplicitType) → IsOfNamed (types_of defs) x → HasPlainElement (kinds_of (numbering_of defs) defs) (implicit_kind (numbering_of defs) defs x)
implicit-elements defs (implicit.Array e) h = named-plain (numbering_of defs) defs e (let l : number_of_name (types_of defs) h.0 < length (types_of defs) + 16 = number-below (types_of defs) h.0 in omega (arith, l, h.1))
implicit-elements defs (implicit.Members at) h = tt
implicit-elements defs implicit.Empty h = tt

pub elements-plain : (defs : List Definition) → All (HasPlainElement (kinds_of (numbering_of defs) defs)) (kinds_of (numbering_of defs) defs)
elements-plain defs = kinds-all (HasPlainElement (kinds_of (numbering_of defs) defs)) (numbering_of defs) defs
    (λ t d h. defined-elements (numbering_of defs) (kinds_of (numbering_of defs) defs) d.sort t d)
    (tt, (tt, (tt, (tt, (tt, (tt, (tt, (tt, (tt, (tt, (tt, (tt, (tt, (tt, (tt, (tt, tt))))))))))))))))
    (λ x h. implicit-elements defs x (implicit-named defs x h))
