-- A table that begins with the definitions that stand before those of each schema (the definitions and their place are
-- this project's own choice).
use Rattle.std.specs.Prelude.{◌≡◌, ℕ, List, ◌++◌, map}
use Rattle.std.specs.List.{enumerate_from}
use Rattle.qapi_types.specs.declared.{kind.Kind.Kind, parts.Parts.Parts}
use Rattle.qapi_define.specs.declared.definition.Definition.{Definition}
use Rattle.qapi_number.specs.declared.numbering.Numbering.{Numbering}
use Rattle.qapi_number.specs.{Kinds.kind_defined, Numbering.numbering_of, PartsOf.commands_of, PartsOf.events_of, Prelude.prelude, TypeNames.types_of}

-- the types of some definitions that stand first
abbrev pub first_kinds : Numbering → List Definition → List Kind
first_kinds n definitions = map (λ (e : ℕ × Definition). kind_defined n e.1.sort e.0 e.1) (enumerate_from 0 (types_of definitions))

-- the commands, events and types of some definitions stand first, with the numbers that a numbering gives
pub record BeginsWith (first : List Definition) (n : Numbering) (p : Parts) : Type 0 where
  pub rest : Parts
  pub commands : p.commands ≡ commands_of n first ++ rest.commands
  pub events : p.events ≡ events_of n first ++ rest.events
  pub kinds : p.kinds ≡ first_kinds n first ++ rest.kinds

-- the definitions that stand before those of each schema are first, with their numbers among all definitions
abbrev pub BeginsWithPrelude : Parts → Type 0
BeginsWithPrelude p = (others : List Definition) × BeginsWith prelude (numbering_of (prelude ++ others)) p
