-- Names that stand a second time in one list of a definition (QAPI code generation guide, "Naming rules
-- and reserved names").
use Rattle.std.specs.Prelude.{ℕ, cond, List, [], map, Option, Some, None}
use Rattle.std.specs.Option.{option_or}
use Rattle.qapi_define.specs.Saying.{first_some}
use Rattle.qapi_define.specs.declared.definition.{Definition.Definition, EnumValue.EnumValue, Member.Member, Part.Part, Variant.Variant}
use Rattle.qapi_define.specs.declared.definition.Part.TheVariants as part
use Rattle.qapi_types.specs.Choices.{stands}
use Rattle.qapi_rules.specs.{BadNames.in_order, Blames.over}

-- the name, where it is among the names before
abbrev pub taken : List (List ℕ) → List ℕ → Option (List ℕ)
taken names name = cond (stands name names) (Some name) None

-- the first name that stands a second time
abbrev pub repeated : List (List ℕ) → Option (List ℕ)
repeated names = over taken [] names

-- a value's name that stands among those before, or one of its features that stands twice
abbrev pub clash_of_value : List EnumValue → EnumValue → Option (List ℕ)
clash_of_value before v = in_order v.features_first (taken (map (λ x. x.name) before) v.name) (repeated v.features)

-- a member's name that stands among those before, or one of its features that stands twice
abbrev pub clash_of_member : List Member → Member → Option (List ℕ)
clash_of_member before m = option_or (taken (map (λ x. x.name) before) m.name) (repeated m.features)

-- a branch or an alternative that stands among those before
abbrev pub clash_of_variant : List Variant → Variant → Option (List ℕ)
clash_of_variant before v = taken (map (λ x. x.name) before) v.name

-- the first name of a part that stands a second time in its list, in the order of the text
abbrev pub clash_in : Part → Option (List ℕ)
clash_in (part.Values values) = over clash_of_value [] values
clash_in (part.BaseMembers members) = over clash_of_member [] members
clash_in (part.Members members) = over clash_of_member [] members
clash_in (part.Variants variants) = over clash_of_variant [] variants
clash_in (part.Features features) = repeated features
clash_in _ = None

-- the first of a definition
unfoldable pub clash : Definition → Option (List ℕ)
clash d = first_some clash_in d.parts
