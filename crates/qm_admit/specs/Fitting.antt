-- Which values fit a type (QAPI code generation guide, "Schema syntax"; ranges and the kinds of alternatives
-- are this project's own rule).
use Rattle.std.specs.Prelude.{◌≡◌, ℕ, Bool, true, false, ◌⊎◌, List, [], ◌∷◌, Option, Some, option_and_then}
use Rattle.qm_json.specs.declared.value.{Json.Json, Member.Member}
use Rattle.qm_json.specs.Members.{has_name, value_in}
use Rattle.qapi_types.specs.declared.kind.{Kind.Kind, MemberDef.MemberDef, ObjectDef.ObjectDef}
use Rattle.qapi_types.specs.declared.kind.Kind.TheVariants as kinds
use Rattle.qapi_types.specs.Types.{kind_of, members_of, value_names}
use Rattle.qm_base.specs.Names.{is_named}
use Rattle.qm_admit.specs.{Ranges.is_in_range, Tags.chosen_by}
use Rattle.qm_admit.specs.Views.{View, IsNull, IsBool, IsInt, IsNum, IsStr, IsArr, IsObj, view_of, string_of}

-- the element stands in the list
abbrev pub Among : {X : Type 0} → X → List X → Type 0
Among x [] = ⊥
Among x (y ∷ ys) = (y ≡ x) ⊎ Among x ys

-- the value is of a type that says nothing of what stands inside a value
abbrev pub fits_plainly : Kind → View → Bool
fits_plainly kinds.Any view = true
fits_plainly kinds.Str (IsStr bytes) = true
fits_plainly kinds.Number (IsInt n) = true
fits_plainly kinds.Number IsNum = true
fits_plainly (kinds.Whole whole) (IsInt n) = is_in_range whole n
fits_plainly kinds.Bool IsBool = true
fits_plainly kinds.Null IsNull = true
fits_plainly (kinds.Enum values features) (IsStr bytes) = is_named (value_names (kinds.Enum values features)) bytes
fits_plainly kind view = false

-- the text of the first of the members of the name
abbrev pub text_in : List Member → List ℕ → Option (List ℕ)
text_in given name = option_and_then string_of (value_in given name)

-- the type of the branch that the given members choose by the tag
abbrev pub chosen : List Kind → List Member → ℕ → Option ℕ
chosen table given t = chosen_by (text_in given) table t

-- the member is one of the type's own, or of the branch that the given members choose
pub data IsMember (table : List Kind) (given : List Member) : ℕ → MemberDef → Type 0 where
  own : {t : ℕ} {m : MemberDef} → Among m (members_of (kind_of table t)) → IsMember table given t m
  of_branch : {t : ℕ} {m : MemberDef} (b : ℕ) → chosen table given t ≡ Some b → IsMember table given b m → IsMember table given t m

-- each mandatory member is given
abbrev pub HasMandatory : List Kind → List Member → ℕ → Type 0
HasMandatory table given t = (m : MemberDef) → IsMember table given t m → m.optional ≡ false → has_name given m.name ≡ true

mutual
  -- the value fits the type
  pub data Fits : List Kind → ℕ → Json → Type 0 where
    plain : {table : List Kind} {t : ℕ} {v : Json} → fits_plainly (kind_of table t) (view_of v) ≡ true → Fits table t v
    array : {table : List Kind} {t : ℕ} {v : Json} (e : ℕ) (items : List Json) → kind_of table t ≡ kinds.Array e → view_of v ≡ IsArr items → FitItems table e items → Fits table t v
    alternate : {table : List Kind} {t : ℕ} {v : Json} (types : List ℕ) (features : List (List ℕ)) (a : ℕ) → kind_of table t ≡ kinds.Alternate types features → Among a types →
        Fits table a v → Fits table t v
    object : {table : List Kind} {t : ℕ} {v : Json} (def : ObjectDef) (given : List Member) → kind_of table t ≡ kinds.Object def → view_of v ≡ IsObj given →
        HasMandatory table given t → FitMembers table given t given → Fits table t v

  -- each item fits the type
  pub data FitItems : List Kind → ℕ → List Json → Type 0 where
    no_items : {table : List Kind} {e : ℕ} → FitItems table e []
    items : {table : List Kind} {e : ℕ} {v : Json} {vs : List Json} → Fits table e v → FitItems table e vs → FitItems table e (v ∷ vs)

  -- each of these members is one of the type, by the choice of all that are given, and its value fits that member's type
  pub data FitMembers : List Kind → List Member → ℕ → List Member → Type 0 where
    no_members : {table : List Kind} {given : List Member} {t : ℕ} → FitMembers table given t []
    members : {table : List Kind} {given : List Member} {t : ℕ} {x : Member} {xs : List Member} (m : MemberDef) → IsMember table given t m → m.name ≡ x.name →
        Fits table m.type_id x.value → FitMembers table given t xs → FitMembers table given t (x ∷ xs)
