use Rattle.std.proofs.Common.{List, position, ◌+◌, ℕ, take, length, ap, sym, ◌∙◌, subst, arith}
use Rattle.std.proofs.lemmas.List.{length-drop}
use Rattle.qm_history.specs.{Lines.is_line_feed, Readings.step, Readings.ReadsTo}
use Rattle.qm_history.proofs.TextLaws.{reads-next, reads-refused, reads-unfinished, reads-whole, reads-open}
use Rattle.qm_history.proofs.reading.read_history.Goals as goal

pub returns-in-None : goal.returns-in-None
returns-in-None c =
    let found = ap (position is_line_feed) (sym c.past-rest.ensures) ∙ sym c.line_feed_at.ensures.place ∙ c.in-None.is in
    c.refusal.ensures c.args.text.now (reads-unfinished c.args.text.now c.loop-place.place (c.loop-place.lines + 1) c.loop-place.reading c.loop-place.invariant.so_far c.loop-place-test.true found)

pub returns-in-Ok-None : goal.returns-in-Ok-None
returns-in-Ok-None c =
    let found = ap (position is_line_feed) (sym c.past-rest.ensures) ∙ sym c.line_feed_at.ensures.place ∙ c.in-Some.is in
    let stuck = ap (λ (l : List ℕ). step c.loop-place.reading (take c.in-Some.at l)) (sym c.past-rest.ensures) ∙ sym c.in-Ok-None.ensures ∙ c.in-Ok-None.field-0-is in
    c.refusal-in-Ok-None.ensures c.args.text.now (reads-refused c.args.text.now c.loop-place.place (c.loop-place.lines + 1) c.in-Some.at c.loop-place.reading c.loop-place.invariant.so_far found stuck)

pub loop-place-preserved : goal.loop-place-preserved
loop-place-preserved c =
    let found = ap (position is_line_feed) (sym c.past-rest.ensures) ∙ sym c.line_feed_at.ensures.place ∙ c.in-Some.is in
    let next = ap (λ (l : List ℕ). step c.loop-place.reading (take c.in-Some.at l)) (sym c.past-rest.ensures) ∙ sym c.in-Ok-Some.ensures ∙ c.in-Ok-Some.field-0-is in
    record {
      within = omega (arith, c.in-Some.ensures.within, ap length c.past-rest.ensures, length-drop c.loop-place.place c.args.text.now);
      few = omega (arith, c.loop-place.invariant.few);
      so_far = reads-next c.args.text.now c.loop-place.place (c.loop-place.lines + 1) c.in-Some.at c.loop-place.reading c.in-Ok-Some.next c.loop-place.invariant.so_far found next;
    }

pub returns-in-Ended : goal.returns-in-Ended
returns-in-Ended c = reads-whole c.args.text.now c.loop-place.place (c.loop-place.lines + 1) c.in-Ended.entries c.loop-place-test.false (subst (ReadsTo c.args.text.now c.loop-place.place (c.loop-place.lines + 1)) c.in-Ended.is c.loop-place.invariant.so_far)

pub returns : goal.returns
returns c = c.refusal-in_default.ensures c.args.text.now (reads-open c.args.text.now c.loop-place.place (c.loop-place.lines + 1) c.loop-place.reading c.loop-place-test.false (λ entries e. c.in_default.not-Ended entries e) c.loop-place.invariant.so_far)
