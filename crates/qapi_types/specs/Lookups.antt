-- Looking names up.
use Rattle.std.specs.Prelude.{◌≡◌, ℕ, List, [], ◌∷◌, ◌++◌, map, Option, cond, position}
use Rattle.std.specs.Str.{bytes_eq}
use Rattle.qm_base.specs.Names.{is_named}
use Rattle.qapi_types.specs.declared.{kind.Kind.Kind, parts.CommandDef.CommandDef, parts.EventDef.EventDef, parts.Parts.Parts}
use Rattle.qapi_types.specs.declared.kind.Kind.TheVariants as kinds
use Rattle.qapi_types.specs.Types.{member_names, value_names}

-- the place of the first of the names that is the name, or none
abbrev pub place_of : List (List ℕ) → List ℕ → Option ℕ
place_of names name = position (bytes_eq name) names

abbrev pub command_names : Parts → List (List ℕ)
command_names p = map (λ (c : CommandDef). c.name) p.commands

abbrev pub event_names : Parts → List (List ℕ)
event_names p = map (λ (e : EventDef). e.name) p.events

-- The rest serves private functions.

abbrev pub with_name : List (List ℕ) → List ℕ → List (List ℕ)
with_name names name = cond (is_named names name) names (names ++ name ∷ [])

-- the names that a type has: of its members or its values
abbrev pub names_in : Kind → List (List ℕ)
names_in (kinds.Object def) = member_names (kinds.Object def)
names_in (kinds.Enum values features) = value_names (kinds.Enum values features)
names_in kind = []

-- the tables hold the names of the commands, of the events, and of each type's members or values
abbrev pub AreIndexed : Parts → List (List ℕ) → List (List ℕ) → List (List (List ℕ)) → Type 0
AreIndexed p commands events tables = (commands ≡ command_names p) × (events ≡ event_names p) × (tables ≡ map names_in p.kinds)
