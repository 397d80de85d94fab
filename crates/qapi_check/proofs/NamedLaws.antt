-- What a name stands for, and the type of its number.
use Rattle.std.proofs.Common.{◌≡◌, ◌≤◌, ◌+◌, ◌||◌, ℕ, zero, suc, Bool, true, false, cond, List, [], ◌∷◌, length, map, get_or, Option, Some, None, is_some, slice_get, unwrap_or, option_and_then, option_map, refl, sym, ap, ◌∙◌, subst, inl, inr, arith, bytes_eq}
use Rattle.std.specs.List.{list_any, position_from}
use Rattle.std.proofs.lemmas.{List.length-map, Option.none-some, Option.slice_get-map, Option.slice_get_within, Slice.Eq.bytes_eq-Decides}
use Rattle.std.proofs.lemmas.Iterator.Adapters.{position_from-zero}
use Rattle.qapi_types.specs.declared.kind.{Kind.Kind}
use Rattle.qapi_types.specs.declared.kind.Kind.TheVariants as kinds
use Rattle.qapi_types.specs.{Choices.AreApart, Choices.stands, Choices.times, Lookups.place_of}
use Rattle.qapi_types.specs.Types.{is_enum, is_object, json_kind_of, kind_of, value_names}
use Rattle.qapi_types.proofs.{ChoiceLaws.itself, ChoiceLaws.times-stands, NameLemmas.list_any-map}
use Rattle.qapi_define.specs.declared.definition.{Definition.Definition, Sort.Sort}
use Rattle.qapi_define.specs.declared.definition.Sort.TheVariants as sorts
use Rattle.qapi_rules.specs.BuiltIns.{built_in as place_built_in, is_built_in}
use Rattle.qapi_rules.specs.declared.built_ins.TheConstants.{BUILT_INS}
use Rattle.qapi_rules.specs.NamesRules.{names_pass}
use Rattle.qapi_rules.specs.Meanings.{built_in, defined, built_in_of, definition_of, entity_of, entity_of_definition, has_value, is_type, names_of}
use Rattle.qapi_rules.specs.Meanings.{is_enum as means_enum, is_struct as means_struct, is_union as means_union, kind_of as kind_meant}
use Rattle.qapi_number.specs.declared.numbering.Numbering.{Numbering}
use Rattle.qapi_number.specs.Kinds.{builtin_kinds, kind_defined, kinds_of}
use Rattle.qapi_number.specs.Numbering.{numbering_of}
use Rattle.qapi_number.specs.TypeNames.{builtin_names, is_type_sort, number_of_name, type_names, types_of}
use Rattle.qapi_check.proofs.ListLaws.{In, any-in, at-found, at-in, found, found-left, found-right, in-at, in-filter, filter-in}
use Rattle.qapi_check.proofs.{CallLaws.fewer, NameLaws.names-apart, NameLaws.not-built-in, NumberLaws.kind-builtin, NumberLaws.kind-defined}

pub same-name : (a b : List ℕ) → bytes_eq a b ≡ true → a ≡ b
same-name a b h = (bytes_eq-Decides a b).0 h

-- a place is found exactly where there is one

some-any : {A : Type 0} (test : A → Bool) (n : ℕ) (xs : List A) → is_some (position_from test n xs) ≡ list_any test xs
some-any test n [] = refl
some-any test n (x ∷ xs) = by_case (test x) (some-any test (n + 1) xs)
  where
    by_case : (b : Bool) → is_some (position_from test (n + 1) xs) ≡ list_any test xs → is_some (cond b (Some n) (position_from test (n + 1) xs)) ≡ (b || list_any test xs)
    by_case true go = refl
    by_case false go = go

flip : (a b : List ℕ) → bytes_eq a b ≡ bytes_eq b a
flip a b = by_case (bytes_eq a b) refl (bytes_eq b a) refl
  where
    by_case : (x : Bool) → bytes_eq a b ≡ x → (y : Bool) → bytes_eq b a ≡ y → x ≡ y
    by_case true e true f = refl
    by_case false e false f = refl
    by_case true e false f = (let k : bytes_eq b a ≡ true = subst (λ z. bytes_eq b z ≡ true) (sym (same-name a b e)) (itself b) in cc)
    by_case false e true f = (let k : bytes_eq a b ≡ true = subst (λ z. bytes_eq a z ≡ true) (sym (same-name b a f)) (itself a) in cc)

pub any-flip : (name : List ℕ) (xs : List (List ℕ)) → list_any (λ x. bytes_eq x name) xs ≡ stands name xs
any-flip name [] = refl
any-flip name (x ∷ xs) = ap (λ b. b || list_any (λ x. bytes_eq x name) xs) (flip x name) ∙ ap (λ b. bytes_eq name x || b) (any-flip name xs)

-- the rules and the numbers have the same built-in types
pub built-in-stands : (name : List ℕ) → is_built_in name ≡ stands name builtin_names
unfolding place_built_in
built-in-stands name =
    ap is_some (position_from-zero (λ b. bytes_eq b.now name) BUILT_INS)
    ∙ some-any (λ b. bytes_eq b.now name) 0 BUILT_INS
    ∙ sym (list_any-map (λ b. b.now) (λ (x : List ℕ). bytes_eq x name) BUILT_INS)
    ∙ any-flip name builtin_names

-- the place of a name that stands once

place-from : (n i : ℕ) (names : List (List ℕ)) (name : List ℕ) → slice_get names i ≡ Some name → AreApart names → position_from (bytes_eq name) n names ≡ Some (n + i)
place-from n i [] name h a = absurd (none-some name h)
place-from n zero (x ∷ names) name h a =
    let e : x ≡ name = cc in
    let t : bytes_eq name x ≡ true = subst (λ z. bytes_eq name z ≡ true) (sym e) (itself name) in
    let z : n ≡ n + 0 = omega arith in
    ap (λ b. cond b (Some n) (position_from (bytes_eq name) (n + 1) names)) t ∙ ap (λ (k : ℕ). Some k) z
place-from n (suc i) (x ∷ names) name h a = by_case (place-from (n + 1) i names name h rest) (bytes_eq name x) refl
  where
    rest : AreApart names
    rest y = let k : times y (x ∷ names) ≤ 1 = a y in omega (arith, k)

    there : stands name names ≡ true
    there = any-in (bytes_eq name) name names (at-in name names i h) (itself name)

    by_case : position_from (bytes_eq name) (n + 1) names ≡ Some (n + 1 + i) → (b : Bool) → bytes_eq name x ≡ b → cond b (Some n) (position_from (bytes_eq name) (n + 1) names) ≡ Some (n + suc i)
    by_case go true e = (let k : cond (bytes_eq name x) 1 0 + times name names ≤ 1 = a name in let l : 1 ≤ times name names = times-stands name names there in let m : 1 + times name names ≤ 1 = subst (λ b. cond b 1 0 + times name names ≤ 1) e k in absurd (omega (arith, l, m)))
    by_case go false e = (let q : n + 1 + i ≡ n + suc i = omega arith in go ∙ ap (λ (k : ℕ). Some k) q)

pub place-once : (i : ℕ) (names : List (List ℕ)) (name : List ℕ) → slice_get names i ≡ Some name → AreApart names → place_of names name ≡ Some i
place-once i names name h a = position_from-zero (bytes_eq name) names ∙ place-from 0 i names name h a ∙ ap (λ (k : ℕ). Some k) (let z : 0 + i ≡ i = omega arith in z)

-- the name at its place
pub name-at : (names : List (List ℕ)) (name : List ℕ) (p : ℕ) → place_of names name ≡ Some p → slice_get names p ≡ Some name
name-at names name p h = let r : (x : List ℕ) × (slice_get names p ≡ Some x) × (bytes_eq name x ≡ true) = at-found (bytes_eq name) p names h in r.1 ∙ ap (λ z. Some z) (sym (same-name name r.0 r.2))

-- what is told by an entry is told of the thing it is made of
pub entry-of : {A B : Type 0} (f : A → B) (xs : List A) (p : ℕ) (y : B) → slice_get (map f xs) p ≡ Some y → (x : A) × (slice_get xs p ≡ Some x) × (f x ≡ y)
entry-of f [] p y h = absurd (none-some y h)
entry-of f (x ∷ xs) zero y h = (x, refl, cc)
entry-of f (x ∷ xs) (suc p) y h = entry-of f xs p y h

pub types-apart : (defs : List Definition) → names_pass defs ≡ None → AreApart (map (λ (d : Definition). d.name) (types_of defs))
types-apart defs h x = let a = fewer (λ (d : Definition). d.name) (λ (d : Definition). is_type_sort d.sort) defs x in let b : times x (map (λ (d : Definition). d.name) defs) ≤ 1 = names-apart defs h x in omega (arith, a, b)

-- a name of a defined type
pub record IsOwn (defs : List Definition) (name : List ℕ) (d : Definition) : Type 0 where
  pub place : ℕ
  pub number : ℕ
  pub among : In d defs
  pub named : d.name ≡ name
  pub sort : is_type_sort d.sort ≡ true
  pub placed : place_of (names_of defs) name ≡ Some place
  pub at_place : slice_get defs place ≡ Some d
  pub at_number : slice_get (types_of defs) number ≡ Some d
  pub typed : place_of (type_names (types_of defs)) name ≡ Some number
  pub means : entity_of defs name ≡ defined d

-- a name of a built-in type
pub record IsGiven (defs : List Definition) (name : List ℕ) (k : ℕ) : Type 0 where
  pub named : slice_get builtin_names k ≡ Some name
  pub typed : place_of (type_names (types_of defs)) name ≡ Some (length (types_of defs) + k)
  pub means : entity_of defs name ≡ built_in (built_in_of name)

pub data Named (defs : List Definition) (name : List ℕ) : Type 0 where
  own : (d : Definition) → IsOwn defs name d → Named defs name
  given : (k : ℕ) → IsGiven defs name k → Named defs name

pub number-of : (types : List Definition) (name : List ℕ) (k : ℕ) → place_of (type_names types) name ≡ Some k → number_of_name types name ≡ k
number-of types name k h = ap (λ (o : Option ℕ). unwrap_or o 0) h

-- a definition of a type by its place among the types
pub own-at : (defs : List Definition) (d : Definition) (t : ℕ) → names_pass defs ≡ None → slice_get (types_of defs) t ≡ Some d → IsOwn defs d.name d
own-at defs d t h g =
    let i : In d defs × (is_type_sort d.sort ≡ true) = filter-in (λ (d : Definition). is_type_sort d.sort) d defs (at-in d (types_of defs) t g) in
    let p : (k : ℕ) × (slice_get defs k ≡ Some d) = in-at d defs i.0 in
    let f : place_of (names_of defs) d.name ≡ Some p.0 = place-once p.0 (names_of defs) d.name (slice_get-map (λ (d : Definition). d.name) defs p.0 ∙ ap (option_map (λ (d : Definition). d.name)) p.1) (names-apart defs h) in
    record {
      place = p.0;
      number = t;
      among = i.0;
      named = refl;
      sort = i.1;
      placed = f;
      at_place = p.1;
      at_number = g;
      typed = found-left (bytes_eq d.name) t (map (λ (d : Definition). d.name) (types_of defs)) builtin_names (place-once t (map (λ (d : Definition). d.name) (types_of defs)) d.name (slice_get-map (λ (d : Definition). d.name) (types_of defs) t ∙ ap (option_map (λ (d : Definition). d.name)) g) (types-apart defs h));
      means =
          ap (λ b. cond b (built_in (built_in_of d.name)) (entity_of_definition (definition_of defs d.name))) (not-built-in defs d h i.0)
          ∙ ap (λ o. entity_of_definition (option_and_then (slice_get defs) o)) f
          ∙ ap entity_of_definition p.1;
    }

none-stands : (defs : List Definition) (name : List ℕ) → names_pass defs ≡ None → is_built_in name ≡ true → (ds : List Definition) → ((d : Definition) → In d ds → In d defs) → stands name (map (λ (d : Definition). d.name) ds) ≡ false
none-stands defs name h b [] sub = refl
none-stands defs name h b (d ∷ ds) sub = by_case (none-stands defs name h b ds (λ e i. sub e (inr i))) (bytes_eq name d.name) refl
  where
    by_case : stands name (map (λ (d : Definition). d.name) ds) ≡ false → (c : Bool) → bytes_eq name d.name ≡ c → (c || stands name (map (λ (d : Definition). d.name) ds)) ≡ false
    by_case go true e = (let k : is_built_in d.name ≡ false = not-built-in defs d h (sub d (inl refl)) in let l : is_built_in d.name ≡ true = subst (λ z. is_built_in z ≡ true) (same-name name d.name e) b in cc)
    by_case go false e = go

-- a name that is a type's is that of a defined or of a built-in type
pub named-type : (defs : List Definition) (name : List ℕ) → names_pass defs ≡ None → is_type (entity_of defs name) ≡ true → Named defs name
named-type defs name h t = by_case (is_built_in name) refl t
  where
    by_definition : is_built_in name ≡ false → (o : Option ℕ) → place_of (names_of defs) name ≡ o → is_type (entity_of_definition (option_and_then (slice_get defs) o)) ≡ true → Named defs name
    by_definition b None e t = cc
    by_definition b (Some p) e t =
        let g : (d : Definition) × (slice_get defs p ≡ Some d) × (d.name ≡ name) = entry-of (λ (d : Definition). d.name) defs p name (name-at (names_of defs) name p e) in
        let s : is_type_sort g.0.sort ≡ true = subst (λ o. is_type (entity_of_definition o) ≡ true) g.1 t in
        let k : (t : ℕ) × (slice_get (types_of defs) t ≡ Some g.0) = in-at g.0 (types_of defs) (in-filter (λ (d : Definition). is_type_sort d.sort) g.0 defs (at-in g.0 defs p g.1) s) in
        own g.0 (subst (λ z. IsOwn defs z g.0) g.2 (own-at defs g.0 k.0 h k.1))

    by_case : (b : Bool) → is_built_in name ≡ b → is_type (cond b (built_in (built_in_of name)) (entity_of_definition (definition_of defs name))) ≡ true → Named defs name
    by_case true b t =
        let f : (k : ℕ) × (place_of builtin_names name ≡ Some k) = found (bytes_eq name) builtin_names (sym (built-in-stands name) ∙ b) in
        let none : stands name (map (λ (d : Definition). d.name) (types_of defs)) ≡ false = none-stands defs name h b (types_of defs) (λ d i. (filter-in (λ (d : Definition). is_type_sort d.sort) d defs i).0) in
        given f.0 (record {
          named = name-at builtin_names name f.0 f.1;
          typed = found-right (bytes_eq name) f.0 (map (λ (d : Definition). d.name) (types_of defs)) builtin_names none f.1 ∙ ap (λ (m : ℕ). Some (m + f.0)) (length-map (types_of defs) (λ (d : Definition). d.name));
          means = ap (λ b. cond b (built_in (built_in_of name)) (entity_of_definition (definition_of defs name))) b;
        })
    by_case false b t = by_definition b (place_of (names_of defs) name) refl t

-- built-in types, in the rules and by their numbers

-- the kind is that of the built-in type of the name
pub record Fits (i : ℕ) (x : List ℕ) (k : Kind) : Type 0 where
  pub json : json_kind_of k ≡ kind_meant (built_in (built_in_of x))
  pub enum : is_enum k ≡ means_enum (built_in (built_in_of x))
  pub last : means_enum (built_in (built_in_of x)) ≡ true → i ≡ 15
  pub values : (v : List ℕ) → has_value v (built_in (built_in_of x)) ≡ true → stands v (value_names k) ≡ true

abbrev Agree : ℕ → List (List ℕ) → List Kind → Type 0
Agree i (x ∷ xs) (k ∷ ks) = Fits i x k × Agree (suc i) xs ks
Agree i xs ks = Unit {0}

agreed : Agree 0 builtin_names builtin_kinds
agreed = (
  record { json = refl; enum = refl; last = λ h. cc; values = λ v h. cc },
  (
    record { json = refl; enum = refl; last = λ h. cc; values = λ v h. cc },
    (
      record { json = refl; enum = refl; last = λ h. cc; values = λ v h. cc },
      (
        record { json = refl; enum = refl; last = λ h. cc; values = λ v h. cc },
        (
          record { json = refl; enum = refl; last = λ h. cc; values = λ v h. cc },
          (
            record { json = refl; enum = refl; last = λ h. cc; values = λ v h. cc },
            (
              record { json = refl; enum = refl; last = λ h. cc; values = λ v h. cc },
              (
                record { json = refl; enum = refl; last = λ h. cc; values = λ v h. cc },
                (
                  record { json = refl; enum = refl; last = λ h. cc; values = λ v h. cc },
                  (
                    record { json = refl; enum = refl; last = λ h. cc; values = λ v h. cc },
                    (
                      record { json = refl; enum = refl; last = λ h. cc; values = λ v h. cc },
                      (
                        record { json = refl; enum = refl; last = λ h. cc; values = λ v h. cc },
                        (
                          record { json = refl; enum = refl; last = λ h. cc; values = λ v h. cc },
                          (
                            record { json = refl; enum = refl; last = λ h. cc; values = λ v h. cc },
                            (
                              record { json = refl; enum = refl; last = λ h. cc; values = λ v h. cc },
                              (record { json = refl; enum = refl; last = λ h. refl; values = λ v h. h }, tt),
                            ),
                          ),
                        ),
                      ),
                    ),
                  ),
                ),
              ),
            ),
          ),
        ),
      ),
    ),
  ),
)

fits-from : (i k : ℕ) (xs : List (List ℕ)) (ks : List Kind) (x : List ℕ) → length xs ≡ length ks → Agree i xs ks → slice_get xs k ≡ Some x → Fits (i + k) x (get_or ks k kinds.Null)
fits-from i k [] ks x l a h = absurd (none-some x h)
fits-from i k (y ∷ xs) [] x l a h = absurd (omega (arith, l))
fits-from i zero (y ∷ xs) (z ∷ ks) x l a h =
    let e : y ≡ x = cc in
    let q : i ≡ i + 0 = omega arith in
    subst (λ (j : ℕ). Fits j x z) q (subst (λ w. Fits i w z) e a.0)
fits-from i (suc k) (y ∷ xs) (z ∷ ks) x l a h = let q : suc i + k ≡ i + suc k = omega arith in subst (λ (j : ℕ). Fits j x (get_or ks k kinds.Null)) q (fits-from (suc i) k xs ks x (omega (arith, l)) a.1 h)

pub fits : (k : ℕ) (x : List ℕ) → slice_get builtin_names k ≡ Some x → Fits k x (get_or builtin_kinds k kinds.Null)
fits k x h = subst (λ (j : ℕ). Fits j x (get_or builtin_kinds k kinds.Null)) (let z : 0 + k ≡ k = omega arith in z) (fits-from 0 k builtin_names builtin_kinds x refl agreed h)

-- the kind at the number of a name

pub kind-own : (defs : List Definition) (name : List ℕ) (d : Definition) (o : IsOwn defs name d) → kind_of (kinds_of (numbering_of defs) defs) (number_of_name (types_of defs) name) ≡ kind_defined (numbering_of defs) d.sort o.number d
kind-own defs name d o = ap (λ (t : ℕ). kind_of (kinds_of (numbering_of defs) defs) t) (number-of (types_of defs) name o.number o.typed) ∙ kind-defined (numbering_of defs) defs o.number d o.at_number

pub kind-given : (defs : List Definition) (name : List ℕ) (k : ℕ) (g : IsGiven defs name k) → kind_of (kinds_of (numbering_of defs) defs) (number_of_name (types_of defs) name) ≡ get_or builtin_kinds k kinds.Null
kind-given defs name k g = ap (λ (t : ℕ). kind_of (kinds_of (numbering_of defs) defs) t) (number-of (types_of defs) name (length (types_of defs) + k) g.typed) ∙ kind-builtin (numbering_of defs) defs k (slice_get_within builtin_names k name g.named)

json-defined : (n : Numbering) (s : Sort) (t : ℕ) (d : Definition) → is_type_sort s ≡ true → d.sort ≡ s → json_kind_of (kind_defined n s t d) ≡ kind_meant (defined d)
json-defined n sorts.Enum t d h e = rw e refl
json-defined n sorts.Struct t d h e = rw e refl
json-defined n sorts.Union t d h e = rw e refl
json-defined n sorts.Alternate t d h e = rw e refl
json-defined n sorts.Command t d h e = cc
json-defined n sorts.Event t d h e = cc

-- the kind of JSON values is the one that the rules mean
pub json-same : (defs : List Definition) (name : List ℕ) → Named defs name → json_kind_of (kind_of (kinds_of (numbering_of defs) defs) (number_of_name (types_of defs) name)) ≡ kind_meant (entity_of defs name)
json-same defs name (own d o) = ap json_kind_of (kind-own defs name d o) ∙ json-defined (numbering_of defs) d.sort o.number d o.sort refl ∙ ap kind_meant (sym o.means)
json-same defs name (given k g) = ap json_kind_of (kind-given defs name k g) ∙ (fits k name g.named).json ∙ ap kind_meant (sym g.means)

object-defined : (n : Numbering) (s : Sort) (t : ℕ) (d : Definition) → d.sort ≡ s → (means_struct (defined d) || means_union (defined d)) ≡ true → is_object (kind_defined n s t d) ≡ true
object-defined n sorts.Struct t d e h = refl
object-defined n sorts.Union t d e h = refl
object-defined n sorts.Command t d e h = refl
object-defined n sorts.Event t d e h = refl
object-defined n sorts.Enum t d e h = (let k = rw e at h in cc)
object-defined n sorts.Alternate t d e h = (let k = rw e at h in cc)

-- what is a struct or a union is an object type
pub object-same : (defs : List Definition) (name : List ℕ) → Named defs name → (means_struct (entity_of defs name) || means_union (entity_of defs name)) ≡ true → is_object (kind_of (kinds_of (numbering_of defs) defs) (number_of_name (types_of defs) name)) ≡ true
object-same defs name (own d o) h = ap is_object (kind-own defs name d o) ∙ object-defined (numbering_of defs) d.sort o.number d refl (subst (λ e. (means_struct e || means_union e) ≡ true) o.means h)
object-same defs name (given k g) h = let q : (means_struct (built_in (built_in_of name)) || means_union (built_in (built_in_of name))) ≡ true = subst (λ e. (means_struct e || means_union e) ≡ true) g.means h in cc
