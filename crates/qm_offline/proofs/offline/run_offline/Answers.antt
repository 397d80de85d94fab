use Rattle.std.proofs.Common.{rules, refl, map, string_bytes}
use Rattle.qm_offline.specs.Words.{words_of}
use Rattle.qm_offline.proofs.{Refusing.loaded_after, Refusing.not_loaded, Runs.kept_answers}
use Rattle.qm_offline.proofs.offline.run_offline.Goals as goal

pub returns-in-Ok : goal.returns-in-Ok
returns-in-Ok g c =
    let words = words_of (map string_bytes c.args.words.now) in
    kept_answers _ _ _ _ _ c.in-Ok.ensures.same refl c.in-Ok.ensures.cause
    (c.run.ensures words (loaded_after _ _ words c.in-Ok.loaded c.in-Ok.ensures.same c.in-Ok.ensures.given))

pub returns-in-Err : goal.returns-in-Err
returns-in-Err g c = not_loaded _ _ _ c.in-Err.refusal c.in-Err.ensures.given c.in-Err.ensures.cause (search rules) c.report.ensures.nothing
