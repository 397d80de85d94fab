use Rattle.std.proofs.Common.{◌≡◌, ap, ◌∙◌}
use Rattle.std.proofs.lemmas.Result.{IfOk-weaker}
use Rattle.qm_core.specs.{Legal.past_of, Standing.named_of, Standing.open_out_of_band_of}
use Rattle.qm_script.specs.Players.{Playing}
use Rattle.qm_script.proofs.SessionLemmas.{oob_none, oob_some}
use Rattle.qm_script.proofs.player.Player.oob_at.Goals as goal

pub returns-in-Some : goal.returns-in-Some
returns-in-Some c =
    let s = c.args.session in
    let known : c.open_out_of_band.result ≡ named_of (open_out_of_band_of s (past_of c.args.self.now.played.journal)) = c.open_out_of_band.ensures ∙ ap (λ (p : Playing). named_of (open_out_of_band_of s (past_of p.played.journal))) c.self.view_is in
    IfOk-weaker c.finish_out_of_band.result _ _
    (λ stop. oob_some c.args.self.now c.finish_out_of_band.new.self s c.args.moment c.open_out_of_band.result c.in-Some.request stop c.requires known c.in-Some.is) c.finish_out_of_band.ensures

pub returns-in-None : goal.returns-in-None
returns-in-None c =
    let s = c.args.session in
    let known : c.open_out_of_band.result ≡ named_of (open_out_of_band_of s (past_of c.args.self.now.played.journal)) = c.open_out_of_band.ensures ∙ ap (λ (p : Playing). named_of (open_out_of_band_of s (past_of p.played.journal))) c.self.view_is in
    oob_none c.args.self.now s c.args.moment c.open_out_of_band.result c.requires known c.in-None.is
