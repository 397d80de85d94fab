-- Commands and events in the order of their definitions.
use Rattle.std.specs.Prelude.{ℕ, zero, suc, ◌+◌, ◌==◌, List, [], ◌∷◌, ◌++◌, length, Option, Some, None, option_map, find}
use Rattle.std.specs.Option.{option_or}
use Rattle.qapi_types.specs.declared.parts.{CommandDef.CommandDef, EventDef.EventDef, Parts.Parts}

-- a command or an event
pub data Call : Type 0 where
  Command : CommandDef → Call
  Event : EventDef → Call

-- the one that so many commands and events are defined before
abbrev pub call_at : Parts → ℕ → Option Call
call_at p n = option_or (option_map Command (find (λ (c : CommandDef). c.place == n) p.commands)) (option_map Event (find (λ (e : EventDef). e.place == n) p.events))

abbrev pub one_or_none : Option Call → List Call
one_or_none None = []
one_or_none (Some call) = call ∷ []

-- those with the first so many places
abbrev pub calls_before : Parts → ℕ → List Call
calls_before p zero = []
calls_before p (suc n) = calls_before p n ++ one_or_none (call_at p n)

-- all of them, by their places
abbrev pub calls_of : Parts → List Call
calls_of p = calls_before p (length p.commands + length p.events)
