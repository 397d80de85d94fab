use Rattle.std.proofs.lemmas.Result.{IfOk-weaker}
use Rattle.qm_script.proofs.LineSteps.{skipped_line, ordered_line, bad_line}
use Rattle.qm_script.proofs.player.Player.line.Goals as goal

pub returns-then-is_skipped : goal.returns-then-is_skipped
returns-then-is_skipped c = skipped_line c.args.self.now c.args.line.now c.is_skipped.result c.is_skipped.ensures c.if-is_skipped.true

pub returns-in-Some : goal.returns-in-Some
returns-in-Some c =
    IfOk-weaker c.ordered.result _ _ (λ stop. ordered_line c.args.self.now c.ordered.new.self c.args.line.now c.is_skipped.result c.order_of_line.result c.in-Some.order stop
    c.is_skipped.ensures c.if-is_skipped.false c.order_of_line.ensures c.in-Some.is) c.ordered.ensures

pub returns-in-None : goal.returns-in-None
returns-in-None c = bad_line c.args.self.now c.args.line.now c.is_skipped.result c.order_of_line.result c.is_skipped.ensures c.if-is_skipped.false c.order_of_line.ensures c.in-None.is
