-- Entries as JSON (QAPI code generation guide, "Client JSON Protocol introspection").
use Rattle.std.specs.Prelude.{ℕ, Bool, true, false, List, [], ◌∷◌, ◌++◌, map, Option, Some, None, codes}
use Rattle.qm_json.specs.declared.value.{Json.Json, Member.Member}
use Rattle.qm_json.specs.declared.value.Json.TheVariants as json
use Rattle.qapi_mask.specs.Entries.{Entry, Builtin, Enum, Array, Object, Alternate, MemberEntry, ValueEntry, Variant, TagEntry}

abbrev pub with_value : List ℕ → Json → Member
with_value name value = record { name = name; value = value }

abbrev pub with_text : List ℕ → List ℕ → Member
with_text name text = with_value name (json.Str text)

-- features, where there are some
abbrev pub features_members : List (List ℕ) → List Member
features_members [] = []
features_members (name ∷ names) = with_value (codes "features") (json.Arr (map json.Str (name ∷ names))) ∷ []

abbrev pub default_members : Bool → List Member
default_members false = []
default_members true = with_value (codes "default") json.Null ∷ []

abbrev pub member_json : MemberEntry → Json
member_json m = json.Obj (with_text (codes "name") m.name ∷ with_text (codes "type") m.type ∷ (default_members m.optional ++ features_members m.features))

abbrev pub value_json : ValueEntry → Json
value_json v = json.Obj (with_text (codes "name") v.name ∷ features_members v.features)

abbrev pub variant_json : Variant → Json
variant_json v = json.Obj (with_text (codes "case") v.case ∷ with_text (codes "type") v.type ∷ [])

abbrev pub alternative_json : List ℕ → Json
alternative_json type = json.Obj (with_text (codes "type") type ∷ [])

abbrev pub tag_members : Option TagEntry → List Member
tag_members None = []
tag_members (Some tag) = with_text (codes "tag") tag.name ∷ with_value (codes "variants") (json.Arr (map variant_json tag.variants)) ∷ []

abbrev pub meta_type : Entry → List ℕ
meta_type (Builtin type) = codes "builtin"
meta_type (Enum values features) = codes "enum"
meta_type (Array e) = codes "array"
meta_type (Object members tag features) = codes "object"
meta_type (Alternate types features) = codes "alternate"

abbrev pub entry_members : Entry → List Member
entry_members (Builtin type) = with_text (codes "json-type") type ∷ []
entry_members (Enum values features) = with_value (codes "members") (json.Arr (map value_json values)) ∷ with_value (codes "values") (json.Arr (map (λ (v : ValueEntry). json.Str v.name) values)) ∷ features_members features
entry_members (Array e) = with_text (codes "element-type") e ∷ []
entry_members (Object members tag features) = with_value (codes "members") (json.Arr (map member_json members)) ∷ (tag_members tag ++ features_members features)
entry_members (Alternate types features) = with_value (codes "members") (json.Arr (map alternative_json types)) ∷ features_members features

-- the object that tells of a type of the name
abbrev pub entry_json : List ℕ → Entry → Json
entry_json name entry = json.Obj (with_text (codes "name") name ∷ with_text (codes "meta-type") (meta_type entry) ∷ entry_members entry)
