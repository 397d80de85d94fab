use Rattle.std.proofs.Common.{◌≡◌, ap, ◌∙◌}
use Rattle.std.proofs.lemmas.Result.{IfOk-weaker}
use Rattle.qm_core.specs.{Legal.past_of, Standing.named_of, Standing.running_of}
use Rattle.qm_script.specs.Players.{Playing}
use Rattle.qm_script.proofs.LineSteps.{finish_none, finish_some}
use Rattle.qm_script.proofs.player.Player.finish.Goals as goal

pub returns-in-Some : goal.returns-in-Some
returns-in-Some c =
    let known : c.running.result ≡ named_of (running_of (past_of c.args.self.now.played.journal)) = c.running.ensures ∙ ap (λ (p : Playing). named_of (running_of (past_of p.played.journal))) c.self.view_is in
    IfOk-weaker c.finish_request.result _ _ (λ stop. finish_some c.args.self.now c.finish_request.new.self c.args.moment c.running.result c.in-Some.request stop known c.in-Some.is) c.finish_request.ensures

pub returns-in-None : goal.returns-in-None
returns-in-None c =
    let known : c.running.result ≡ named_of (running_of (past_of c.args.self.now.played.journal)) = c.running.ensures ∙ ap (λ (p : Playing). named_of (running_of (past_of p.played.journal))) c.self.view_is in
    finish_none c.args.self.now c.args.moment c.running.result known c.in-None.is
