use Rattle.std.proofs.lemmas.Result.{IfOk-weaker}
use Rattle.qm_script.proofs.SessionLemmas.{admit_none, admit_some}
use Rattle.qm_script.proofs.player.Player.admit_at.Goals as goal

pub returns-in-Some : goal.returns-in-Some
returns-in-Some c =
    IfOk-weaker c.admit_input.result _ _
    (λ stop. admit_some c.args.self.now c.admit_input.new.self c.args.session c.in_ok-input.field-0 c.in-Some.input stop c.requires c.in_ok-input.ensures.value c.in-Some.is) c.admit_input.ensures

pub returns-in-None : goal.returns-in-None
returns-in-None c = admit_none c.args.self.now c.args.session c.in_ok-input.field-0 c.requires c.in_ok-input.ensures.value c.in-None.is
