-- What a definition says, part by part (QAPI code generation guide, "Schema syntax").
use Rattle.std.specs.Prelude.{ℕ, Bool, true, false, if◌then◌else◌, List, [], ◌∷◌, Option, Some, None, unwrap_or}
use Rattle.std.specs.Option.{is_some, option_or}
use Rattle.qapi_define.specs.declared.definition.{Definition.Definition, EnumValue.EnumValue, Member.Member, Part.Part, Sort.Sort, TypeName.TypeName, Variant.Variant}
use Rattle.qapi_define.specs.declared.definition.Part.TheVariants as part
use Rattle.qapi_define.specs.declared.definition.Sort.TheVariants as sorts

-- the first answer over things in order
abbrev pub first_some : {A B : Type 0} → (A → Option B) → List A → Option B
first_some rule [] = None
first_some rule (x ∷ xs) = option_or (rule x) (first_some rule xs)

abbrev pub values_in : Part → Option (List EnumValue)
values_in (part.Values values) = Some values
values_in _ = None

abbrev pub base_in : Part → Option (List ℕ)
base_in (part.Base name) = Some name
base_in _ = None

abbrev pub base_members_in : Part → Option (List Member)
base_members_in (part.BaseMembers members) = Some members
base_members_in _ = None

abbrev pub discriminator_in : Part → Option (List ℕ)
discriminator_in (part.Discriminator name) = Some name
discriminator_in _ = None

abbrev pub members_in : Part → Option (List Member)
members_in (part.Members members) = Some members
members_in _ = None

abbrev pub data_in : Part → Option (List ℕ)
data_in (part.Data name) = Some name
data_in _ = None

abbrev pub variants_in : Part → Option (List Variant)
variants_in (part.Variants variants) = Some variants
variants_in _ = None

abbrev pub returns_in : Part → Option TypeName
returns_in (part.Returns of) = Some of
returns_in _ = None

abbrev pub features_in : Part → Option (List (List ℕ))
features_in (part.Features features) = Some features
features_in _ = None

-- the values of an enum; none where it says none
abbrev pub values_of : Definition → List EnumValue
values_of d = unwrap_or (first_some values_in d.parts) []

-- the name of its base
abbrev pub base_of : Definition → Option (List ℕ)
base_of d = first_some base_in d.parts

-- the members of its base, where they are written out
abbrev pub base_members_of : Definition → List Member
base_members_of d = unwrap_or (first_some base_members_in d.parts) []

-- the discriminator of a union
abbrev pub discriminator_of : Definition → Option (List ℕ)
discriminator_of d = first_some discriminator_in d.parts

-- its own members, where they are written out
abbrev pub members_of : Definition → Option (List Member)
members_of d = first_some members_in d.parts

-- the name of the type of what a command takes or an event has
abbrev pub data_of : Definition → Option (List ℕ)
data_of d = first_some data_in d.parts

-- an alternate has alternatives, a union with a discriminator has branches, and nothing else has either
abbrev pub sort_has_variants : Sort → Bool → Bool
sort_has_variants sorts.Alternate has_discriminator = true
sort_has_variants sorts.Union has_discriminator = has_discriminator
sort_has_variants sort has_discriminator = false

-- the same of a definition
abbrev pub has_variants : Definition → Bool
has_variants d = sort_has_variants d.sort (is_some (discriminator_of d))

-- the branches of a union with a discriminator, or the alternatives of an alternate; nothing else has any
abbrev pub variants_of : Definition → List Variant
variants_of d = if has_variants d then unwrap_or (first_some variants_in d.parts) [] else []

-- what a command returns
abbrev pub returns_of : Definition → Option TypeName
returns_of d = first_some returns_in d.parts

-- its features
abbrev pub features_of : Definition → List (List ℕ)
features_of d = unwrap_or (first_some features_in d.parts) []
