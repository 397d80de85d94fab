-- What a client keeps of what introspection tells.
use Rattle.std.specs.Prelude.{map, option_map}
use Rattle.qapi_types.specs.declared.{parts.CommandDef.CommandDef, parts.Parts.Parts}
use Rattle.qapi_mask.specs.Entries.{MemberEntry, ValueEntry, Variant, TagEntry, Entry, Builtin, Enum, Array, Object, Alternate}
use Rattle.qapi_mask.specs.Naming.{argument_type, mask_of}
use Rattle.qapi_mask.specs.Reading.{CommandRead, MemberRead, VariantRead, TagRead, EntryRead, BuiltinRead, EnumRead, ArrayRead, ObjectRead, AlternateRead}

-- a command as a client knows it: its name, and those of the types of what it takes and of what it returns
abbrev pub command_told : Parts → CommandDef → CommandRead
command_told p c = record { name = c.name; arg_type = mask_of p (argument_type p.kinds c.arg); ret_type = mask_of p c.ret }

-- The rest serves private laws: an entry without its features.

abbrev pub member_told : MemberEntry → MemberRead
member_told m = record { name = m.name; type = m.type; optional = m.optional }

abbrev pub variant_told : Variant → VariantRead
variant_told v = record { case = v.case; type = v.type }

abbrev pub tag_told : TagEntry → TagRead
tag_told tag = record { name = tag.name; variants = map variant_told tag.variants }

abbrev pub entry_told : Entry → EntryRead
entry_told (Builtin type) = BuiltinRead type
entry_told (Enum values features) = EnumRead (map (λ (v : ValueEntry). v.name) values)
entry_told (Array e) = ArrayRead e
entry_told (Object members tag features) = ObjectRead (map member_told members) (option_map tag_told tag)
entry_told (Alternate types features) = AlternateRead types
