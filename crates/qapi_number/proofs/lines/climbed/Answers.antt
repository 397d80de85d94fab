use Rattle.std.proofs.Common.{ℕ, ◌+◌, ◌-◌, ◌++◌, List, Option, length, reverse, ap, ◌∙◌}
use Rattle.qapi_number.specs.Kinds.{base_at, line_from}
use Rattle.qapi_number.proofs.LineLaws.{line_none, line_step}
use Rattle.qapi_number.proofs.lines.climbed.Goals as goal

pub returns-in-None : goal.returns-in-None
returns-in-None c = line_none (length c.args.bases.now - c.loop-turn._turn) c.args.bases.now c.loop-turn.next c.loop-turn.line.items _ c.in-None.is c.loop-turn.invariant

pub loop-turn-preserved : goal.loop-turn-preserved
loop-turn-preserved c =
    ap (λ (o : Option ℕ). line_from (length c.args.bases.now - (c.loop-turn._turn + 1)) c.args.bases.now o ++ reverse c.push.new.self.items) c.base_at-next.ensures
    ∙ ap (λ (l : List ℕ). line_from (length c.args.bases.now - (c.loop-turn._turn + 1)) c.args.bases.now (base_at c.args.bases.now c.in-Some.number) ++ reverse l) c.in-Ok.ensures.items
    ∙ line_step (length c.args.bases.now) c.loop-turn._turn c.in-Some.number c.args.bases.now c.loop-turn.next c.loop-turn.line.items _ c.loop-turn-test.true c.in-Some.is c.loop-turn.invariant
