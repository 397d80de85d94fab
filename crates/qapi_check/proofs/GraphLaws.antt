-- Bases and branches by the numbers of types: what definitions without a cycle give.
use Rattle.std.proofs.Common.{◌≡◌, ◌<◌, ◌+◌, ◌||◌, ◌&&◌, ℕ, zero, suc, Bool, true, false, not, cond, nat_eq, List, [], ◌∷◌, ◌++◌, length, map, Option, Some, None, option_to_list, slice_get, option_map, option_and_then, unwrap_or, refl, sym, ap, ◌∙◌, subst, inl, inr, arith}
use Rattle.std.specs.{List.cons_option, List.filter_map, List.flat_map}
use Rattle.std.proofs.lemmas.{Bool.cases_lt, Bool.Decides.Decides-eqb, Grind.flat_map-append, Option.get_or_from_slice_get, Option.slice_get_within}
use Rattle.std.proofs.lemmas.List.{append-nil, get_or-map, get_or_past, length-map}
use Rattle.qapi_types.specs.{Chains.has, Chains.row_of, Chains.Refers, Chains.Leads, Chains.by_one, Chains.and_one, Chains.NoneOnCycle, Lookups.place_of}
use Rattle.qapi_types.proofs.ChainLaws.{either}
use Rattle.qapi_define.specs.declared.definition.{Definition.Definition, Member.Member, Sort.Sort, Variant.Variant}
use Rattle.qapi_define.specs.declared.definition.Sort.TheVariants as sorts
use Rattle.qapi_define.specs.Saying.{base_members_of, base_of, variants_of}
use Rattle.qapi_rules.specs.Cycles.{branches_of, cycles_pass, reference_graph, references_of, referred}
use Rattle.qapi_rules.specs.Meanings.{Entity, nothing, built_in, defined, definition_of, entity_of, is_alternate_sort, is_struct, is_type, is_union, is_union_sort, names_of}
use Rattle.qapi_rules.specs.NamesRules.{names_pass}
use Rattle.qapi_rules.specs.References.{base_definition, line_from, may_be_alternative, may_be_branch, members_in_line, members_of_base, own_members, references_pass, unless}
use Rattle.qapi_rules.proofs.CycleLaws.{none_on_cycle}
use Rattle.qapi_number.specs.Kinds.{all_members, base_at, base_number, bases_of, line_from as numbered_line, own_members as written_members, own_members_at}
use Rattle.qapi_number.specs.TypeNames.{number_of_name, type_names, types_of}
use Rattle.qapi_check.specs.Walking.{LeadsTo}
use Rattle.qapi_check.proofs.ListLaws.{In, any-in, in-either, in-left, in-map, in-right, map-in, past-none}
use Rattle.qapi_check.proofs.NamedLaws.{IsOwn, Named, own, given, named-type, number-of, own-at}
use Rattle.qapi_check.proofs.ReferenceLaws.{IsReferring, referring, unless-none, variant-may, variant-type}
use Rattle.qapi_check.proofs.TrailLaws.{goes_on, no_trail, too_long}

pub has-in : (n : ℕ) (xs : List ℕ) → has n xs ≡ true → In n xs
has-in n [] h = cc
has-in n (x ∷ xs) h = elim (either (nat_eq n x) (has n xs) h) [ inl e ↦ inl ((Decides-eqb n x).0 e) | inr k ↦ inr (has-in n xs k) ]

pub in-has : (n : ℕ) (xs : List ℕ) → In n xs → has n xs ≡ true
in-has n xs h = any-in (nat_eq n) n xs h ((Decides-eqb n n).1 refl)

in-filter_map : {A B : Type 0} (f : A → Option B) (x : A) (y : B) (xs : List A) → In x xs → f x ≡ Some y → In y (filter_map f xs)
in-filter_map f x y [] h e = absurd h
in-filter_map f x y (z ∷ xs) (inl q) e = subst (λ o. In y (cons_option o (filter_map f xs))) (sym (ap f (sym q) ∙ e)) (inl refl)
in-filter_map {A} {B} f x y (z ∷ xs) (inr h) e = by_case (in-filter_map f x y xs h e) (f z)
  where
    by_case : In y (filter_map f xs) → (o : Option B) → In y (cons_option o (filter_map f xs))
    by_case go None = go
    by_case go (Some w) = inr go

-- what a type refers to, by numbers: its base, and the types of its branches
abbrev pub numbered_references : List Definition → Definition → List ℕ
numbered_references types d = option_to_list (base_number types d) ++ map (λ (v : Variant). number_of_name types v.of.name) (branches_of d)

abbrev pub numbered_graph : List Definition → List (List ℕ)
numbered_graph types = map (numbered_references types) types

pub both : (a b : Bool) → (a && b) ≡ true → (a ≡ true) × (b ≡ true)
both true true h = (refl, refl)
both true false h = cc
both false b h = cc

pub negated : (b : Bool) → not b ≡ true → b ≡ false
negated true h = cc
negated false h = refl

-- a branch is of no array, and of a struct or of a union
pub branch-may : (defs : List Definition) (d : Definition) (v : Variant) → IsReferring defs d → is_alternate_sort d.sort ≡ false → In v (variants_of d) → (v.of.is_array ≡ false) × ((is_struct (entity_of defs v.of.name) || is_union (entity_of defs v.of.name)) ≡ true)
branch-may defs d v r a j =
    let m : (not v.of.is_array && (is_struct (entity_of defs v.of.name) || is_union (entity_of defs v.of.name))) ≡ true = sym (ap (λ b. cond b (may_be_alternative defs v) (may_be_branch defs v)) a) ∙ variant-may defs d r v j in
    let p = both (not v.of.is_array) (is_struct (entity_of defs v.of.name) || is_union (entity_of defs v.of.name)) m in
    (negated v.of.is_array p.0, p.1)

-- a name of a struct or of a union is that of a defined type
pub object-own : (defs : List Definition) (name : List ℕ) → Named defs name → (is_struct (entity_of defs name) || is_union (entity_of defs name)) ≡ true → (e : Definition) × IsOwn defs name e
object-own defs name (own e o) h = (e, o)
object-own defs name (given k g) h = (let q : (is_struct (entity_of defs name) || is_union (entity_of defs name)) ≡ false = ap (λ x. is_struct x || is_union x) g.means in cc)

struct-type : (e : Entity) → is_struct e ≡ true → is_type e ≡ true
struct-type nothing h = cc
struct-type (built_in b) h = cc
struct-type (defined d) h = by_sort d.sort refl h
  where
    by_sort : (s : Sort) → d.sort ≡ s → is_struct (defined d) ≡ true → is_type (defined d) ≡ true
    by_sort sorts.Struct q h = rw q refl
    by_sort sorts.Enum q h = rw q refl
    by_sort sorts.Union q h = rw q refl
    by_sort sorts.Alternate q h = rw q refl
    by_sort sorts.Command q h = (let k = rw q at h in cc)
    by_sort sorts.Event q h = (let k = rw q at h in cc)

sooner : (a b : Bool) → a ≡ true → (a || b) ≡ true
sooner true b h = refl
sooner false b h = cc

-- the base is a defined type
pub base-own : (defs : List Definition) (d : Definition) (name : List ℕ) → names_pass defs ≡ None → IsReferring defs d → base_of d ≡ Some name → (e : Definition) × IsOwn defs name e
base-own defs d name names r b =
    let s : is_struct (entity_of defs name) ≡ true = unless-none (is_struct (entity_of defs name)) name (sym (ap (λ o. option_and_then (λ name. unless (is_struct (entity_of defs name)) name) o) b) ∙ r.base) in
    object-own defs name (named-type defs name names (struct-type (entity_of defs name) s)) (sooner (is_struct (entity_of defs name)) (is_union (entity_of defs name)) s)

-- the place of the definition of a type's number
abbrev place_at : List Definition → ℕ → ℕ
place_at defs a = unwrap_or (option_and_then (λ (d : Definition). place_of (names_of defs) d.name) (slice_get (types_of defs) a)) 0

placed : (defs : List Definition) (name : List ℕ) (e : Definition) (o : IsOwn defs name e) → place_at defs o.number ≡ o.place
placed defs name e o =
    ap (λ p. unwrap_or (option_and_then (λ (d : Definition). place_of (names_of defs) d.name) p) 0) o.at_number
    ∙ ap (λ n. unwrap_or (place_of (names_of defs) n) 0) o.named
    ∙ ap (λ (p : Option ℕ). unwrap_or p 0) o.placed

pub row-at : (defs : List Definition) (a : ℕ) (d : Definition) → slice_get (types_of defs) a ≡ Some d → row_of (numbered_graph (types_of defs)) a ≡ numbered_references (types_of defs) d
row-at defs a d g = get_or-map (numbered_references (types_of defs)) (types_of defs) a d [] (slice_get_within (types_of defs) a d g) ∙ ap (numbered_references (types_of defs)) (get_or_from_slice_get (types_of defs) a d d g)

graph-row : (defs : List Definition) (p : ℕ) (d : Definition) → slice_get defs p ≡ Some d → row_of (reference_graph defs) p ≡ references_of defs d
graph-row defs p d g = get_or-map (references_of defs) defs p d [] (slice_get_within defs p d g) ∙ ap (references_of defs) (get_or_from_slice_get defs p d d g)

-- a name that a definition refers to leads on in the graph of definitions
named-refers : (defs : List Definition) (a : ℕ) (d : Definition) (name : List ℕ) (e : Definition) → IsOwn defs d.name d → slice_get (types_of defs) a ≡ Some d → In name (referred d) → (o : IsOwn defs name e) → Refers (reference_graph defs) (place_at defs a) (place_at defs o.number)
named-refers defs a d name e w g i o =
    let p : place_at defs a ≡ w.place = ap (λ p. unwrap_or (option_and_then (λ (d : Definition). place_of (names_of defs) d.name) p) 0) g ∙ ap (λ (p : Option ℕ). unwrap_or p 0) w.placed in
    let row : row_of (reference_graph defs) (place_at defs a) ≡ references_of defs d = ap (row_of (reference_graph defs)) p ∙ graph-row defs w.place d w.at_place in
    subst (λ l. has (place_at defs o.number) l ≡ true) (sym row)
    (subst (λ (q : ℕ). has q (references_of defs d) ≡ true) (sym (placed defs name e o)) (in-has o.place (references_of defs d) (in-filter_map (place_of (names_of defs)) name o.place (referred d) i o.placed)))

not-alternate : (s : Sort) → is_union_sort s ≡ true → is_alternate_sort s ≡ false
not-alternate sorts.Union h = refl
not-alternate sorts.Struct h = refl
not-alternate sorts.Enum h = refl
not-alternate sorts.Command h = refl
not-alternate sorts.Event h = refl
not-alternate sorts.Alternate h = cc

-- the branches of a union are its variants
union-variants : (d : Definition) (v : Variant) → In v (branches_of d) → (is_union_sort d.sort ≡ true) × In v (variants_of d)
union-variants d v h = by_case (is_union_sort d.sort) refl h
  where
    by_case : (b : Bool) → is_union_sort d.sort ≡ b → In v (cond b (variants_of d) []) → (is_union_sort d.sort ≡ true) × In v (variants_of d)
    by_case true e k = (e, k)
    by_case false e k = absurd k

module _ (defs : List Definition) (names : names_pass defs ≡ None) (references : references_pass defs ≡ None) where
  -- a reference by numbers is one of definitions
  refers-on : (a b : ℕ) (d : Definition) → slice_get (types_of defs) a ≡ Some d → In b (numbered_references (types_of defs) d) → Refers (reference_graph defs) (place_at defs a) (place_at defs b)
  refers-on a b d g i = elim (in-either b (option_to_list (base_number (types_of defs) d)) (map (λ (v : Variant). number_of_name (types_of defs) v.of.name) (branches_of d)) i) [
    | inl k ↦ by_base (base_of d) refl k
    | inr k ↦ by_branch (map-in (λ (v : Variant). number_of_name (types_of defs) v.of.name) b (branches_of d) k)
  ]
    where
      w : IsOwn defs d.name d
      w = own-at defs d a names g

      r : IsReferring defs d
      r = referring defs d references w.among

      by_base : (o : Option (List ℕ)) → base_of d ≡ o → In b (option_to_list (option_and_then (place_of (type_names (types_of defs))) o)) → Refers (reference_graph defs) (place_at defs a) (place_at defs b)
      by_base None e k = absurd k
      by_base (Some name) e k =
          let o : (e : Definition) × IsOwn defs name e = base-own defs d name names r e in
          let l : In b (o.1.number ∷ []) = subst (λ (p : Option ℕ). In b (option_to_list p)) o.1.typed k in
          let q : b ≡ o.1.number = elim l [ inl z ↦ z | inr z ↦ absurd z ] in
          let j : In name (referred d) = in-left name (option_to_list (base_of d)) (map (λ (v : Variant). v.of.name) (branches_of d)) (subst (λ p. In name (option_to_list p)) (sym e) (inl refl)) in
          subst (λ (c : ℕ). Refers (reference_graph defs) (place_at defs a) (place_at defs c)) (sym q) (named-refers defs a d name o.0 w g j o.1)

      by_branch : (v : Variant) × In v (branches_of d) × (b ≡ number_of_name (types_of defs) v.of.name) → Refers (reference_graph defs) (place_at defs a) (place_at defs b)
      by_branch v =
          let u : (is_union_sort d.sort ≡ true) × In v.0 (variants_of d) = union-variants d v.0 v.1 in
          let m = branch-may defs d v.0 r (not-alternate d.sort u.0) u.1 in
          let o : (e : Definition) × IsOwn defs v.0.of.name e = object-own defs v.0.of.name (named-type defs v.0.of.name names (variant-type defs d r v.0 u.1)) m.1 in
          let q : b ≡ o.1.number = v.2 ∙ number-of (types_of defs) v.0.of.name o.1.number o.1.typed in
          let j : In v.0.of.name (referred d) = in-right v.0.of.name (option_to_list (base_of d)) (map (λ (v : Variant). v.of.name) (branches_of d)) (in-map (λ (v : Variant). v.of.name) v.0 (branches_of d) v.1) in
          subst (λ (c : ℕ). Refers (reference_graph defs) (place_at defs a) (place_at defs c)) (sym q) (named-refers defs a d v.0.of.name o.0 w g j o.1)

  step-on : (a b : ℕ) → Refers (numbered_graph (types_of defs)) a b → Refers (reference_graph defs) (place_at defs a) (place_at defs b)
  step-on a b h = elim (cases_lt a (length (types_of defs))) [
    | inl l ↦ by_get (slice_get (types_of defs) a) refl l
    | inr l ↦ (let e : row_of (numbered_graph (types_of defs)) a ≡ [] = get_or_past (numbered_graph (types_of defs)) a [] (let n : length (numbered_graph (types_of defs)) ≡ length (types_of defs) = length-map (types_of defs) (numbered_references (types_of defs)) in omega (arith, n, l)) in let k : has b [] ≡ true = subst (λ r. has b r ≡ true) e h in cc)
  ]
    where
      by_get : (o : Option Definition) → slice_get (types_of defs) a ≡ o → a < length (types_of defs) → Refers (reference_graph defs) (place_at defs a) (place_at defs b)
      by_get (Some d) g l = refers-on a b d g (has-in b (numbered_references (types_of defs) d) (subst (λ r. has b r ≡ true) (row-at defs a d g) h))
      by_get None g l = (let k = past-none (types_of defs) a g in absurd (omega (arith, l, k)))

  leads-on : (a b : ℕ) → Leads (numbered_graph (types_of defs)) a b → Leads (reference_graph defs) (place_at defs a) (place_at defs b)
  leads-on a b (by_one r) = by_one (step-on a b r)
  leads-on a b (and_one {b = c} l r) = and_one (leads-on a c l) (step-on c b r)

  -- no type is on a cycle of bases and branches
  pub none-numbered : cycles_pass defs ≡ None → NoneOnCycle (numbered_graph (types_of defs)) (length (numbered_graph (types_of defs)))
  none-numbered h a l k = by_get (slice_get (types_of defs) a) refl
    where
      l2 : a < length (types_of defs)
      l2 = let n : length (numbered_graph (types_of defs)) ≡ length (types_of defs) = length-map (types_of defs) (numbered_references (types_of defs)) in omega (arith, n, l)

      by_get : (o : Option Definition) → slice_get (types_of defs) a ≡ o → ⊥
      by_get None g = (let k = past-none (types_of defs) a g in absurd (omega (arith, l2, k)))
      by_get (Some d) g =
          let w : IsOwn defs d.name d = own-at defs d a names g in
          let p : place_at defs a ≡ w.place = ap (λ p. unwrap_or (option_and_then (λ (d : Definition). place_of (names_of defs) d.name) p) 0) g ∙ ap (λ (p : Option ℕ). unwrap_or p 0) w.placed in
          let q : w.place < length defs = slice_get_within defs w.place d w.at_place in
          none_on_cycle defs h (place_at defs a) (omega (arith, p, q)) (leads-on a a k)

  -- members of bases

  own-there : (a : ℕ) (e : Definition) (m : Member) → slice_get (types_of defs) a ≡ Some e → In m (written_members e) → In m (own_members_at (types_of defs) a)
  own-there a e m g i = subst (λ o. In m (unwrap_or (option_map written_members o) [])) (sym g) i

  -- the members along a line of bases are those of the numbers in it
  members-on : cycles_pass defs ≡ None → (n k a : ℕ) (e : Definition) (past : List ℕ) (m : Member) → slice_get (types_of defs) a ≡ Some e → LeadsTo (numbered_graph (types_of defs)) past a → length past + k ≡ length (types_of defs) →
      In m (members_in_line n defs (Some e)) → In m (flat_map (own_members_at (types_of defs)) (numbered_line k (bases_of (types_of defs)) (Some a)))
  members-on c zero k a e past m g t s i = absurd i
  members-on c (suc n) zero a e past m g t s i =
      absurd (too_long (numbered_graph (types_of defs)) past a (none-numbered c) t (let q = slice_get_within (types_of defs) a e g in let z : length (numbered_graph (types_of defs)) ≡ length (types_of defs) = length-map (types_of defs) (numbered_references (types_of defs)) in omega (arith, q, z)) (let z : length (numbered_graph (types_of defs)) ≡ length (types_of defs) = length-map (types_of defs) (numbered_references (types_of defs)) in omega (arith, z, s)))
  members-on c (suc n) (suc k) a e past m g t s i =
      subst (λ l. In m l) (sym (flat_map-append (own_members_at (types_of defs)) (numbered_line k (bases_of (types_of defs)) (base_at (bases_of (types_of defs)) a)) (a ∷ [])))
      (elim (in-either m (members_in_line n defs (base_definition defs e)) (flat_map own_members (e ∷ [])) (subst (λ l. In m l) (flat_map-append own_members (line_from n defs (base_definition defs e)) (e ∷ [])) i)) [
        | inl j ↦ in-left m before here (by_base (base_of e) refl (members-on c n k) j)
        | inr j ↦ in-right m before here (in-left m (own_members_at (types_of defs) a) [] (own-there a e m g (in-right m (base_members_of e) (own_members e) (subst (λ l. In m l) (append-nil (own_members e)) j))))
      ])
    where
      before : List Member
      before = flat_map (own_members_at (types_of defs)) (numbered_line k (bases_of (types_of defs)) (base_at (bases_of (types_of defs)) a))

      here : List Member
      here = flat_map (own_members_at (types_of defs)) (a ∷ [])

      l : a < length (types_of defs)
      l = slice_get_within (types_of defs) a e g

      long : length (numbered_graph (types_of defs)) ≡ length (types_of defs)
      long = length-map (types_of defs) (numbered_references (types_of defs))

      base-at : base_at (bases_of (types_of defs)) a ≡ base_number (types_of defs) e
      base-at = get_or-map (base_number (types_of defs)) (types_of defs) a e None l ∙ ap (base_number (types_of defs)) (get_or_from_slice_get (types_of defs) a e e g)

      none-in : (n : ℕ) → In m (members_in_line n defs None) → ⊥
      none-in zero j = j
      none-in (suc n) j = j

      by_base : (o : Option (List ℕ)) → base_of e ≡ o →
          ((a : ℕ) (e : Definition) (past : List ℕ) (m : Member) → slice_get (types_of defs) a ≡ Some e → LeadsTo (numbered_graph (types_of defs)) past a → length past + k ≡ length (types_of defs) → In m (members_in_line n defs (Some e)) → In m (flat_map (own_members_at (types_of defs)) (numbered_line k (bases_of (types_of defs)) (Some a)))) →
          In m (members_in_line n defs (option_and_then (definition_of defs) o)) → In m (flat_map (own_members_at (types_of defs)) (numbered_line k (bases_of (types_of defs)) (base_at (bases_of (types_of defs)) a)))
      by_base None q go j = absurd (none-in n j)
      by_base (Some name) q go j =
          let w : IsOwn defs e.name e = own-at defs e a names g in
          let o : (f : Definition) × IsOwn defs name f = base-own defs e name names (referring defs e references w.among) q in
          let found : definition_of defs name ≡ Some o.0 = ap (option_and_then (slice_get defs)) o.1.placed ∙ o.1.at_place in
          let number : base_at (bases_of (types_of defs)) a ≡ Some o.1.number = base-at ∙ ap (option_and_then (place_of (type_names (types_of defs)))) q ∙ o.1.typed in
          let refers : Refers (numbered_graph (types_of defs)) a o.1.number = subst (λ r. has o.1.number r ≡ true) (sym (row-at defs a e g)) (in-has o.1.number (numbered_references (types_of defs) e) (in-left o.1.number (option_to_list (base_number (types_of defs) e)) (map (λ (v : Variant). number_of_name (types_of defs) v.of.name) (branches_of e)) (subst (λ (p : Option ℕ). In o.1.number (option_to_list p)) (sym (sym base-at ∙ number)) (inl refl)))) in
          subst (λ (p : Option ℕ). In m (flat_map (own_members_at (types_of defs)) (numbered_line k (bases_of (types_of defs)) p))) (sym number)
          (go o.1.number o.0 (a ∷ past) m o.1.at_number (goes_on (numbered_graph (types_of defs)) past a o.1.number (none-numbered c) t (omega (arith, l, long)) refers) (omega (arith, s)) (subst (λ p. In m (members_in_line n defs p)) found j))

  -- the members of the base are among those of the type
  pub base-members : cycles_pass defs ≡ None → (t : ℕ) (d : Definition) (m : Member) → slice_get (types_of defs) t ≡ Some d → In m (members_of_base defs d) → In m (all_members (types_of defs) t)
  base-members c t d m g i = elim (in-either m (base_members_of d) (members_in_line (length defs) defs (base_definition defs d)) i) [
    | inl j ↦ last (length (types_of defs)) refl (own-there t d m g (in-left m (base_members_of d) (own_members d) j))
    | inr j ↦ members-on c (suc (length defs)) (length (types_of defs)) t d [] m g (no_trail (numbered_graph (types_of defs)) t) (omega arith)
        (subst (λ l. In m l) (sym (flat_map-append own_members (line_from (length defs) defs (base_definition defs d)) (d ∷ []))) (in-left m (members_in_line (length defs) defs (base_definition defs d)) (flat_map own_members (d ∷ [])) j))
  ]
    where
      last : (n : ℕ) → length (types_of defs) ≡ n → In m (own_members_at (types_of defs) t) → In m (flat_map (own_members_at (types_of defs)) (numbered_line n (bases_of (types_of defs)) (Some t)))
      last zero e j = (let l = slice_get_within (types_of defs) t d g in absurd (omega (arith, l, e)))
      last (suc n) e j =
          subst (λ l. In m l) (sym (flat_map-append (own_members_at (types_of defs)) (numbered_line n (bases_of (types_of defs)) (base_at (bases_of (types_of defs)) t)) (t ∷ [])))
          (in-right m (flat_map (own_members_at (types_of defs)) (numbered_line n (bases_of (types_of defs)) (base_at (bases_of (types_of defs)) t))) (flat_map (own_members_at (types_of defs)) (t ∷ [])) (in-left m (own_members_at (types_of defs) t) [] j))
