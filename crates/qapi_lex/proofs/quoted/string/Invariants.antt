use Rattle.std.proofs.Common.{◌≡◌, drop, false}
use Rattle.qapi_lex.specs.Strings.{longer, quoted}
use Rattle.qapi_lex.proofs.quoted.string.Given as goal

-- what was read, followed by what the rest gives, is what the whole gives
abbrev pub invariant-loop-i : goal.invariant-loop-i
invariant-loop-i l = longer l.text l.i (quoted l.line l.escaped (drop l.i l.bytes)) ≡ quoted l.line false l.bytes
