use Rattle.std.proofs.Common.{◌∙◌, ◌+◌, ap, sym, Some, ℕ, List}
use Rattle.qm_read.specs.declared.token.Lexeme.{Lexeme}
use Rattle.qm_read.specs.declared.token.Token.TheVariants as tokens
use Rattle.qm_read.proofs.StringLemmas.{plain_lexeme}
use Rattle.qm_read.proofs.lexer.string_lexeme.Goals as goal

pub returns-then-rest-count-clause-value : goal.returns-then-rest-count-clause-value
returns-then-rest-count-clause-value c =
    ap (λ (text : List ℕ). let l : Lexeme = record { token = Some (tokens.Str text); more = c.span_length-count.result + 1 } in l) c.in_ok-text.ensures
    ∙ sym (plain_lexeme c.args.place c.args.quote c.span_length-count.result c.args.rest.now c.span_length-count.ensures.value c.if-count-rest.true c.if-rest-count.true)
