-- Names in definitions that are not formed as names are (QAPI code generation guide, "Naming rules and
-- reserved names"). What is told has no star; a member's name has lost its own.
use Rattle.std.specs.Prelude.{ℕ, Bool, true, false, cond, List, Option, Some, None}
use Rattle.std.specs.Option.{option_or}
use Rattle.qapi_define.specs.Saying.{first_some}
use Rattle.qapi_define.specs.declared.definition.{Definition.Definition, EnumValue.EnumValue, Member.Member, Part.Part, Sort.Sort, Variant.Variant}
use Rattle.qapi_define.specs.declared.definition.Part.TheVariants as part
use Rattle.qapi_define.specs.declared.definition.Sort.TheVariants as sort
use Rattle.qapi_rules.specs.Names.{is_name, without_star}

-- of a value's name and its features, what is told first in the text
abbrev pub in_order : Bool → Option (List ℕ) → Option (List ℕ) → Option (List ℕ)
in_order features_first own inside = cond features_first (option_or inside own) (option_or own inside)

-- the name, where it is not formed as names are
abbrev pub bad : Bool → List ℕ → Option (List ℕ)
bad digit_first name = cond (is_name digit_first name) None (Some (without_star name))

-- the same of a member's name
abbrev pub bad_member_name : List ℕ → Option (List ℕ)
bad_member_name name = cond (is_name false name) None (Some name)

-- the first bad name of features
abbrev pub bad_feature : List (List ℕ) → Option (List ℕ)
bad_feature features = first_some (bad false) features

-- the first bad name of a value, which may begin with a digit, and its features
abbrev pub bad_value : EnumValue → Option (List ℕ)
bad_value v = in_order v.features_first (bad true v.name) (bad_feature v.features)

-- the first bad name of a member and its features
abbrev pub bad_member : Member → Option (List ℕ)
bad_member m = option_or (bad_member_name m.name) (bad_feature m.features)

-- the definition is a union
abbrev pub is_union : Sort → Bool
is_union sort.Union = true
is_union _ = false

-- a union's branch is named by a value; an alternate's alternative is not
abbrev pub bad_variant : Sort → Variant → Option (List ℕ)
bad_variant s v = bad (is_union s) v.name

-- the first bad name of a part, in the order of the text; references are not judged
abbrev pub bad_in : Sort → Part → Option (List ℕ)
bad_in s (part.Values values) = first_some bad_value values
bad_in s (part.BaseMembers members) = first_some bad_member members
bad_in s (part.Members members) = first_some bad_member members
bad_in s (part.Variants variants) = first_some (bad_variant s) variants
bad_in s (part.Features features) = bad_feature features
bad_in s _ = None

-- the first bad name of a definition: its own first, then those inside
unfoldable pub bad_name : Definition → Option (List ℕ)
bad_name d = option_or (bad false d.name) (first_some (bad_in d.sort) d.parts)
