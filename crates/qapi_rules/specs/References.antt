-- The rules of references between definitions (QAPI code generation guide, "Schema syntax"), each with the name at fault.
use Rattle.std.specs.Prelude.{ℕ, zero, suc, Bool, false, not, ◌&&◌, ◌||◌, cond, List, [], ◌∷◌, ◌++◌, length, Option, Some, None, is_some, unwrap_or}
use Rattle.std.specs.{List.flat_map, List.list_any, Option.option_and_then, Option.option_map, Str.bytes_eq}
use Rattle.qapi_define.specs.declared.definition.{Definition.Definition, Member.Member, Part.Part, Variant.Variant}
use Rattle.qapi_define.specs.declared.definition.Part.TheVariants as part
use Rattle.qapi_define.specs.Saying.{first_some, base_of, base_members_of, discriminator_of, members_of, variants_of}
use Rattle.qapi_types.specs.declared.kind.JsonKind.{JsonKind}
use Rattle.qapi_types.specs.declared.kind.JsonKind.TheVariants as json
use Rattle.qapi_rules.specs.declared.fault.{CheckFault.CheckFault, CheckRule.CheckRule}
use Rattle.qapi_rules.specs.declared.fault.CheckRule.TheVariants.{UnknownType, BadBase, BadDiscriminator, UnknownBranch, BadData, KindClash}
use Rattle.qapi_rules.specs.{Blames.fault, Blames.first_of, Blames.over, Names.without_star}
use Rattle.qapi_rules.specs.Meanings.{Entity, definition_of, entity_of, is_type, is_struct, is_union, is_mixed, is_enum, is_alternate_sort, has_value, kind_of, are_same}

-- the fault of a definition by the rule, where there is a name at fault, which is told without a star
abbrev pub judged : CheckRule → Definition → Option (List ℕ) → Option CheckFault
judged rule d name = fault rule d (option_map without_star name)

-- the name, where it is not as it should be
abbrev pub unless : Bool → List ℕ → Option (List ℕ)
unless good name = cond good None (Some name)

-- the name, where it is no type
abbrev pub unknown : List Definition → List ℕ → Option (List ℕ)
unknown defs name = unless (is_type (entity_of defs name)) name

abbrev pub unknown_in_members : List Definition → List Member → Option (List ℕ)
unknown_in_members defs members = first_some (λ m. unknown defs m.of.name) members

abbrev pub unknown_in : List Definition → Part → Option (List ℕ)
unknown_in defs (part.Base name) = unknown defs name
unknown_in defs (part.BaseMembers members) = unknown_in_members defs members
unknown_in defs (part.Members members) = unknown_in_members defs members
unknown_in defs (part.Data name) = unknown defs name
unknown_in defs (part.Variants variants) = first_some (λ v. unknown defs v.of.name) variants
unknown_in defs (part.Returns of) = unknown defs of.name
unknown_in defs other = None

-- the first reference that is to no type
abbrev pub unknown_type : List Definition → Definition → Option (List ℕ)
unknown_type defs d = first_some (unknown_in defs) d.parts

-- the name of the base, where it is no struct's
abbrev pub bad_base : List Definition → Definition → Option (List ℕ)
bad_base defs d = option_and_then (λ name. unless (is_struct (entity_of defs name)) name) (base_of d)

-- the definition of its base
abbrev pub base_definition : List Definition → Definition → Option Definition
base_definition defs d = option_and_then (definition_of defs) (base_of d)

-- a definition after its bases, at most so many in all
abbrev pub line_from : ℕ → List Definition → Option Definition → List Definition
line_from zero defs d = []
line_from (suc n) defs None = []
line_from (suc n) defs (Some d) = line_from n defs (base_definition defs d) ++ d ∷ []

abbrev pub own_members : Definition → List Member
own_members d = unwrap_or (members_of d) []

-- the members of a definition after those of its bases, at most so many in all
abbrev pub members_in_line : ℕ → List Definition → Option Definition → List Member
members_in_line n defs d = flat_map own_members (line_from n defs d)

-- the members of the base: those written out, or those of the base of the name after those of its bases
abbrev pub members_of_base : List Definition → Definition → List Member
members_of_base defs d = base_members_of d ++ members_in_line (length defs) defs (base_definition defs d)

-- the enum that the member is of, where it is a mandatory member of the name and of an enum
abbrev pub enum_of_member : List Definition → List ℕ → Member → Option Entity
enum_of_member defs name m =
    cond (bytes_eq m.name name && not m.optional && not m.of.is_array && is_enum (entity_of defs m.of.name)) (Some (entity_of defs m.of.name)) None

-- the enum of the member of the base whose value chooses the branch
abbrev pub enum_of_branches : List Definition → Definition → List ℕ → Option Entity
enum_of_branches defs d name = first_some (enum_of_member defs name) (members_of_base defs d)

-- the discriminator, where it is no mandatory member of the base or not of an enum
abbrev pub bad_discriminator : List Definition → Definition → Option (List ℕ)
bad_discriminator defs d = option_and_then (λ name. unless (is_some (enum_of_branches defs d name)) name) (discriminator_of d)

abbrev pub enum_of_discriminator : List Definition → Definition → Option Entity
enum_of_discriminator defs d = option_and_then (enum_of_branches defs d) (discriminator_of d)

abbrev pub branch_without_value : Entity → List Variant → Option (List ℕ)
branch_without_value entity variants = first_some (λ v. unless (has_value v.name entity) v.name) variants

-- the first branch that is for no value of the enum
abbrev pub unknown_branch : List Definition → Definition → Option (List ℕ)
unknown_branch defs d =
    option_and_then (λ entity. branch_without_value entity (variants_of d)) (enum_of_discriminator defs d)

-- a branch is of a struct or of a union
abbrev pub may_be_branch : List Definition → Variant → Bool
may_be_branch defs v = not v.of.is_array && (is_struct (entity_of defs v.of.name) || is_union (entity_of defs v.of.name))

-- an alternative is of an array, or of a type that is not all values and no alternate
abbrev pub may_be_alternative : List Definition → Variant → Bool
may_be_alternative defs v = v.of.is_array || not (is_mixed (entity_of defs v.of.name))

abbrev pub may_be_variant : List Definition → Bool → Variant → Bool
may_be_variant defs is_alternate v = cond is_alternate (may_be_alternative defs v) (may_be_branch defs v)

-- the data of a command or an event is of a struct, or where it is boxed of a union
abbrev pub may_be_data : List Definition → Bool → List ℕ → Bool
may_be_data defs boxed name = is_struct (entity_of defs name) || (boxed && is_union (entity_of defs name))

abbrev pub bad_variant : List Definition → Bool → List Variant → Option (List ℕ)
bad_variant defs is_alternate variants = first_some (λ v. unless (may_be_variant defs is_alternate v) v.name) variants

abbrev pub bad_data_in : List Definition → Definition → Part → Option (List ℕ)
bad_data_in defs d (part.Variants variants) = bad_variant defs (is_alternate_sort d.sort) variants
bad_data_in defs d (part.Data name) = unless (may_be_data defs d.flags.boxed name) name
bad_data_in defs d other = None

-- the first branch or alternative that is of no type that may stand there, or the type that the data names where it may not
abbrev pub bad_data : List Definition → Definition → Option (List ℕ)
bad_data defs d = first_some (bad_data_in defs d) d.parts

-- the kind of JSON values that the alternative takes, where it is one kind
abbrev pub kind_of_alternative : List Definition → Variant → Option JsonKind
kind_of_alternative defs v = cond v.of.is_array (Some json.Array) (kind_of (entity_of defs v.of.name))

abbrev pub is_of_kind : List Definition → JsonKind → Variant → Bool
is_of_kind defs kind v = unwrap_or (option_map (are_same kind) (kind_of_alternative defs v)) false

-- one of those before is of the same kind
abbrev pub has_kind_of_one : List Definition → List Variant → Variant → Bool
has_kind_of_one defs before v = unwrap_or (option_map (λ kind. list_any (is_of_kind defs kind) before) (kind_of_alternative defs v)) false

abbrev pub clash_after : List Definition → List Variant → Variant → Option (List ℕ)
clash_after defs before v = unless (not (has_kind_of_one defs before v)) v.name

-- the first alternative of the same JSON kind as one before it
abbrev pub kind_clash : List Definition → Definition → Option (List ℕ)
kind_clash defs d = cond (is_alternate_sort d.sort) (over (clash_after defs) [] (variants_of d)) None

-- the same over the members of a definition and of its bases
abbrev pub enum_in_line : ℕ → List Definition → List ℕ → Option Definition → Option Entity
enum_in_line n defs name d = first_some (enum_of_member defs name) (members_in_line n defs d)

-- the rules in their order
unfoldable pub bad_reference : List Definition → Definition → Option CheckFault
bad_reference defs d = first_of (
    judged UnknownType d (unknown_type defs d)
    ∷ judged BadBase d (bad_base defs d)
    ∷ judged BadDiscriminator d (bad_discriminator defs d)
    ∷ judged UnknownBranch d (unknown_branch defs d)
    ∷ judged BadData d (bad_data defs d)
    ∷ judged KindClash d (kind_clash defs d)
    ∷ [])

-- the first fault of references, over definitions in reading order
abbrev pub references_pass : List Definition → Option CheckFault
references_pass defs = first_some (bad_reference defs) defs
