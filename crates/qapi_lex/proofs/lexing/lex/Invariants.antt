use Rattle.std.proofs.Common.{◌≡◌, ◌-◌, ◌≤◌, drop, length}
use Rattle.qapi_lex.specs.Tokens.{followed_by, tokens_after, tokens_of}
use Rattle.qapi_lex.proofs.lexing.lex.Given as goal

-- the tokens so far, followed by those of the rest, are those of the whole
abbrev pub invariant-loop-i : goal.invariant-loop-i
invariant-loop-i l = record {
  within : l.i ≤ length l.text;
  lexed : followed_by l.tokens (tokens_after 0 l.spot (drop l.i l.text)) ≡ tokens_of l.text;
}

abbrev pub decreases-loop-i : goal.decreases-loop-i
decreases-loop-i l = length l.text - l.i
