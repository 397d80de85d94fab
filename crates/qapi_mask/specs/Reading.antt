-- Which values a client takes a type's name to admit, from the introspection array alone (QAPI code generation guide,
-- "Client JSON Protocol introspection").
use Rattle.std.specs.Prelude.{ℕ, Bool, true, false, cond, ◌≡◌, ◌||◌, List, [], ◌∷◌, map, Option, Some, None, option_map, option_and_then, find, codes}
use Rattle.std.specs.{List.flat_map, List.list_any, Option.unwrap_or, Str.bytes_eq}
use Rattle.qm_json.specs.declared.value.{Json.Json, Member.Member}
use Rattle.qm_json.specs.Members.{has_name, value_in, members_of}
use Rattle.qm_admit.specs.{Fitting.Among, Fitting.text_in, Paths.items_in}
use Rattle.qm_admit.specs.Views.{View, IsNull, IsBool, IsInt, IsNum, IsStr, IsArr, IsObj, view_of, string_of}

-- what a client keeps of a member, a variant, a tag and an entry

pub record MemberRead : Type 0 where
  pub name : List ℕ
  pub type : List ℕ
  pub optional : Bool

pub record VariantRead : Type 0 where
  pub case : List ℕ
  pub type : List ℕ

pub record TagRead : Type 0 where
  pub name : List ℕ
  pub variants : List VariantRead

pub data EntryRead : Type 0 where
  BuiltinRead : List ℕ → EntryRead
  EnumRead : List (List ℕ) → EntryRead
  ArrayRead : List ℕ → EntryRead
  ObjectRead : List MemberRead → Option TagRead → EntryRead
  AlternateRead : List (List ℕ) → EntryRead

-- a string's bytes; of any other value none
abbrev pub text_of : Json → List ℕ
text_of value = unwrap_or (string_of value) []

-- the text and the items of a member
abbrev pub text_at : List ℕ → List Member → List ℕ
text_at name members = unwrap_or (text_in members name) []

abbrev pub items_at : List ℕ → List Member → List Json
items_at name members = unwrap_or (option_map (λ value. items_in (view_of value)) (value_in members name)) []

abbrev pub read_member : Json → MemberRead
read_member value = record { name = text_at (codes "name") (members_of value); type = text_at (codes "type") (members_of value); optional = has_name (members_of value) (codes "default") }

abbrev pub read_variant : Json → VariantRead
read_variant value = record { case = text_at (codes "case") (members_of value); type = text_at (codes "type") (members_of value) }

abbrev pub read_tag : List Member → Option TagRead
read_tag members = cond (has_name members (codes "tag")) (Some (record { name = text_at (codes "tag") members; variants = map read_variant (items_at (codes "variants") members) })) None

-- the entry that members tell, by the text of `meta-type`; none of a command or an event
abbrev pub entry_from : List ℕ → List Member → Option EntryRead
entry_from meta members =
    cond (bytes_eq meta (codes "builtin")) (Some (BuiltinRead (text_at (codes "json-type") members)))
    (cond (bytes_eq meta (codes "enum")) (Some (EnumRead (map text_of (items_at (codes "values") members))))
    (cond (bytes_eq meta (codes "array")) (Some (ArrayRead (text_at (codes "element-type") members)))
    (cond (bytes_eq meta (codes "object")) (Some (ObjectRead (map read_member (items_at (codes "members") members)) (read_tag members)))
    (cond (bytes_eq meta (codes "alternate")) (Some (AlternateRead (map (λ value. text_at (codes "type") (members_of value)) (items_at (codes "members") members)))) None))))

pub record Named : Type 0 where
  pub name : List ℕ
  pub entry : EntryRead

abbrev pub named_from : List ℕ → Option EntryRead → List Named
named_from name None = []
named_from name (Some entry) = record { name = name; entry = entry } ∷ []

abbrev pub read_item : Json → List Named
read_item value = named_from (text_at (codes "name") (members_of value)) (entry_from (text_at (codes "meta-type") (members_of value)) (members_of value))

-- a look-up of entries by their types' names
abbrev pub LookUp : Type 0
LookUp = List ℕ → Option EntryRead

-- the first entry of a type of the name in an introspection array
abbrev pub entry_in : Json → LookUp
entry_in array = λ name. option_map (λ (n : Named). n.entry) (find (λ (n : Named). bytes_eq n.name name) (flat_map read_item (items_in (view_of array))))

-- the value is of the builtin type of that JSON type
abbrev pub is_of_type : List ℕ → View → Bool
is_of_type type IsNull = bytes_eq type (codes "null") || bytes_eq type (codes "value")
is_of_type type IsBool = bytes_eq type (codes "boolean") || bytes_eq type (codes "value")
is_of_type type (IsInt n) = bytes_eq type (codes "int") || bytes_eq type (codes "number") || bytes_eq type (codes "value")
is_of_type type IsNum = bytes_eq type (codes "number") || bytes_eq type (codes "value")
is_of_type type (IsStr bytes) = bytes_eq type (codes "string") || bytes_eq type (codes "value")
is_of_type type (IsArr items) = bytes_eq type (codes "value")
is_of_type type (IsObj members) = bytes_eq type (codes "value")

-- the value is one that an entry without parts admits
abbrev pub reads_plainly : EntryRead → View → Bool
reads_plainly (BuiltinRead type) view = is_of_type type view
reads_plainly (EnumRead values) (IsStr bytes) = list_any (λ value. bytes_eq value bytes) values
reads_plainly entry view = false

abbrev pub variant_for : List Member → TagRead → Option VariantRead
variant_for given tag = option_and_then (λ text. find (λ (v : VariantRead). bytes_eq v.case text) tag.variants) (text_in given tag.name)

-- the variant that the members choose by the tag
abbrev pub read_choice : Option TagRead → List Member → Option VariantRead
read_choice tag given = option_and_then (variant_for given) tag

pub data IsReadMember : LookUp → List Member → List ℕ → MemberRead → Type 0 where
  own : {look : LookUp} {given : List Member} {n : List ℕ} {m : MemberRead} (ms : List MemberRead) (tag : Option TagRead) → look n ≡ Some (ObjectRead ms tag) →
      Among m ms → IsReadMember look given n m
  of_variant : {look : LookUp} {given : List Member} {n : List ℕ} {m : MemberRead} (ms : List MemberRead) (tag : Option TagRead) (x : VariantRead) → look n ≡ Some (ObjectRead ms tag) →
      read_choice tag given ≡ Some x → IsReadMember look given x.type m → IsReadMember look given n m

abbrev pub HasReadMandatory : LookUp → List Member → List ℕ → Type 0
HasReadMandatory look given n = (m : MemberRead) → IsReadMember look given n m → m.optional ≡ false → has_name given m.name ≡ true

mutual
  -- the entry of the name admits the value
  pub data Reads : LookUp → List ℕ → Json → Type 0 where
    plain : {look : LookUp} {n : List ℕ} {v : Json} (entry : EntryRead) → look n ≡ Some entry → reads_plainly entry (view_of v) ≡ true → Reads look n v
    array : {look : LookUp} {n : List ℕ} {v : Json} (e : List ℕ) (items : List Json) → look n ≡ Some (ArrayRead e) → view_of v ≡ IsArr items → ReadItems look e items → Reads look n v
    alternate : {look : LookUp} {n : List ℕ} {v : Json} (names : List (List ℕ)) (a : List ℕ) → look n ≡ Some (AlternateRead names) → Among a names → Reads look a v → Reads look n v
    object : {look : LookUp} {n : List ℕ} {v : Json} (ms : List MemberRead) (tag : Option TagRead) (given : List Member) → look n ≡ Some (ObjectRead ms tag) → view_of v ≡ IsObj given →
        HasReadMandatory look given n → ReadMembers look given n given → Reads look n v

  pub data ReadItems : LookUp → List ℕ → List Json → Type 0 where
    no_items : {look : LookUp} {e : List ℕ} → ReadItems look e []
    items : {look : LookUp} {e : List ℕ} {v : Json} {vs : List Json} → Reads look e v → ReadItems look e vs → ReadItems look e (v ∷ vs)

  pub data ReadMembers : LookUp → List Member → List ℕ → List Member → Type 0 where
    no_members : {look : LookUp} {given : List Member} {n : List ℕ} → ReadMembers look given n []
    members : {look : LookUp} {given : List Member} {n : List ℕ} {x : Member} {xs : List Member} (m : MemberRead) → IsReadMember look given n m → m.name ≡ x.name →
        Reads look m.type x.value → ReadMembers look given n xs → ReadMembers look given n (x ∷ xs)

-- what a client reads of a command
pub record CommandRead : Type 0 where
  pub name : List ℕ
  pub arg_type : List ℕ
  pub ret_type : List ℕ

abbrev pub command_from : List Member → List CommandRead
command_from ms = cond (bytes_eq (text_at (codes "meta-type") ms) (codes "command"))
    (record { name = text_at (codes "name") ms; arg_type = text_at (codes "arg-type") ms; ret_type = text_at (codes "ret-type") ms } ∷ []) []

-- the commands that an introspection array tells of
abbrev pub commands_in : Json → List CommandRead
commands_in told = flat_map (λ value. command_from (members_of value)) (items_in (view_of told))
