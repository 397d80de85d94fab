-- What stands before each schema, as far as introspection needs it (this project's own rule).
use Rattle.std.specs.Prelude.{◌≡◌, ◌<◌, ℕ, false, [], length, None}
use Rattle.std.specs.List.{slice_index_or}
use Rattle.qapi_types.specs.declared.kind.Kind.TheVariants.{Any, Object}
use Rattle.qapi_types.specs.declared.parts.{ArgType.TheVariants.AnyObject, CommandDef.CommandDef, Parts.Parts}
use Rattle.qapi_types.specs.Types.{kind_of}

abbrev pub no_command : CommandDef
no_command = record { name = []; place = 0; arg = AnyObject; ret = 0; allow_oob = false; allow_preconfig = false; features = [] }

-- the type of objects without members: what the first command returns
abbrev pub empty_of : Parts → ℕ
empty_of p = (slice_index_or p.commands 0 no_command).ret

-- the first command returns the objects without members, and some type has all values
pub record HasPrelude (p : Parts) : Type 0 where
  pub first : 0 < length p.commands
  pub empty : kind_of p.kinds (empty_of p) ≡ Object (record { members = []; tag = None; branches = []; features = [] })
  pub any : ℕ
  pub any_in : any < length p.kinds
  pub is_any : kind_of p.kinds any ≡ Any
