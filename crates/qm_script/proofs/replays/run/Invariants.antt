use Rattle.std.proofs.Common.{◌≡◌, ◌+◌, ◌≤◌, length}
use Rattle.qm_script.specs.{Lines.lines_of, Playing.played_from}
use Rattle.qm_script.proofs.replays.run.Given as goal

abbrev pub decreases-loop-rest : goal.decreases-loop-rest
decreases-loop-rest l = length l.rest

abbrev pub invariant-loop-rest : goal.invariant-loop-rest
invariant-loop-rest l =
    (played_from l.player.world l.player.limits (l.number + 1) l.player.played (lines_of l.rest) ≡ played_from l.fn.player.world l.fn.player.limits 1 l.fn.player.played (lines_of l.fn.script))
    × (l.number + length l.rest ≤ length l.fn.script)
