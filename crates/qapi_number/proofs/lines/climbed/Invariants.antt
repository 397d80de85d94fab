use Rattle.std.proofs.Common.{◌≡◌, ◌-◌, ◌++◌, reverse, length, Some}
use Rattle.qapi_number.specs.Kinds.{line_from}
use Rattle.qapi_number.proofs.lines.climbed.Given as goal

abbrev pub invariant-loop-turn : goal.invariant-loop-turn
invariant-loop-turn l = line_from (length l.bases - l._turn) l.bases l.next ++ reverse l.line.items ≡ line_from (length l.bases) l.bases (Some l.fn.number)
