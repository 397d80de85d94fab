use Rattle.std.proofs.Common.{ap, sym, ◌∙◌}
use Rattle.std.specs.Box.{with_value}
use Rattle.std.proofs.lemmas.Result.{on_err_weaker}
use Rattle.qm_core.specs.declared.sessions.{Place.TheVariants.Open, Session.Session}
use Rattle.qm_core.proofs.monitor.reply_steps.tell.Goals as goal

pub returns-in-Open-clause-err : goal.returns-in-Open-clause-err
returns-in-Open-clause-err c =
    on_err_weaker c.answered.result (λ same. ap (λ (x : Session). Open (with_value c.in-Open.state x)) (same ∙ c.deref_mut.ensures.value) ∙ sym c.in-Open.is) c.answered.ensures.err
