use Rattle.std.proofs.Common.{◌≡◌, ◌-◌, ◌<◌, ◌∙◌, ap, arith, length, List}
use Rattle.std.proofs.lemmas.List.{length-drop}
use Rattle.qapi_lex.specs.{declared.token.Token.Token, Tokens.followed_by, Tokens.tokens_after, Tokens.tokens_of}
use Rattle.qapi_lex.proofs.PieceLaws.{next_piece, followed_by-nothing}
use Rattle.qapi_lex.proofs.lexing.lex.Goals as goal

pub loop-i-init : goal.loop-i-init
unfolding tokens_of
loop-i-init c = record {
  within = omega arith;
  lexed = ap (λ (ts : List Token). followed_by ts (tokens_after 0 c.first-spot.result c.args.text.now)) c.new-tokens.ensures
      ∙ followed_by-nothing (tokens_after 0 c.first-spot.result c.args.text.now)
      ∙ ap (λ s. tokens_after 0 s c.args.text.now) c.first-spot.ensures;
}

pub loop-i-preserved : goal.loop-i-preserved
loop-i-preserved c =
    let left : length c.from-rest.result.now ≡ length c.args.text.now - c.loop-i.i = ap length c.from-rest.ensures ∙ length-drop c.loop-i.i c.args.text.now in
    let some : 0 < length c.from-rest.result.now = omega arith in
    record {
      within = omega (arith, c.in_ok-piece.ensures.within, c.more-length.ensures);
      lexed = next_piece _ c.args.text.now c.from-rest.result.now c.loop-i.tokens c.keep.new.tokens c.loop-i.i c.more-length.result c.loop-i.spot c.past_all-next.result c.in_ok-piece.piece c.from-rest.ensures some (c.in_ok-piece.ensures.value (λ e. cc)) c.more-length.ensures c.past_all-next.ensures c.in_ok-keep.ensures c.loop-i.invariant.lexed;
    }
