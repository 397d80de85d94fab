use Rattle.std.proofs.Common.{◌≡◌, ◌-◌, length}
use Rattle.std.specs.Option.{option_copied, option_map, option_or}
use Rattle.qapi_rules.specs.Meanings.{meant}
use Rattle.qapi_rules.specs.References.{enum_in_line}
use Rattle.qapi_rules.proofs.branches.enum_in_line.Given as goal

abbrev pub invariant-loop-turn : goal.invariant-loop-turn
invariant-loop-turn l = option_or (enum_in_line (length l.table - l.turn) l.table l.name (option_copied l.next)) (option_map meant l.found) ≡ enum_in_line (length l.table) l.table l.name (option_copied l.fn.definition)
