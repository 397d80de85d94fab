use Rattle.std.proofs.Common.{◌+◌, arith}
use Rattle.qm_script.proofs.TurnLemmas.{stop_finishes, line_goes_on}
use Rattle.qm_script.proofs.replays.run.Goals as goal

pub returns-in-Some : goal.returns-in-Some
returns-in-Some c = rw (c.told_number.ensures) (
    stop_finishes (c.loop-rest.number + 1) c.loop-rest.player c.line.new.self c.loop-rest.rest.now c.first_line.result.0.now c.first_line.result.1.now
    c.in_ok-stop.field-0 c.in-Some.stop _ c.first_line.ensures.lines c.loop-rest.invariant.0 c.in_ok-stop.ensures c.in-Some.is
    )

pub loop-rest-preserved : goal.loop-rest-preserved
loop-rest-preserved c = (
  line_goes_on (c.loop-rest.number + 1) c.loop-rest.player c.line.new.self c.loop-rest.rest.now c.first_line.result.0.now c.first_line.result.1.now
      c.in_ok-stop.field-0 _ c.first_line.ensures.lines c.loop-rest.invariant.0 c.in_ok-stop.ensures c.in_default.is,
  omega (arith, c.loop-rest.invariant.1, c.first_line.ensures.shorter),
)
