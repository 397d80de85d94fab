use Rattle.std.proofs.Common.{arith}
use Rattle.qm_core.specs.Legal.{past_of}
use Rattle.qm_core.proofs.Keeping.{sessions-count}
use Rattle.qm_core.proofs.Pasts.{few-sessions}
use Rattle.qm_core.proofs.monitor.Monitor.opened.Goals as goal

pub overflow_cast-result : goal.overflow_cast-result
overflow_cast-result c =
    let sound = c.self.invariant in
    omega (arith, c.len.ensures, sessions-count (past_of c.self.inside.journal.items) c.self.inside.sessions.items sound.sessions, few-sessions _ sound.legal.ordered)

pub returns-clause-few : goal.returns-clause-few
returns-clause-few c =
    let sound = c.self.invariant in
    omega (arith, c.len.ensures, sessions-count (past_of c.self.inside.journal.items) c.self.inside.sessions.items sound.sessions, few-sessions _ sound.legal.ordered)
