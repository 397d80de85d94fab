use Rattle.std.proofs.Common.{rules, ℕ, List, ap, ◌∙◌}
use Rattle.qapi_load.specs.Files.{text_of}
use Rattle.qm_offline.proofs.Refusing.{bound_nothing, bound_read}
use Rattle.qm_offline.proofs.loading.bound.Goals as goal

pub returns-in-Ok-clause-given : goal.returns-in-Ok-clause-given
returns-in-Ok-clause-given g c =
    bound_read _ c.args.words.now c.args.schema c.over_text.result c.args.name c.in-Ok.text c.requires.named
    (λ told e. c.in-Ok.ensures.value told e ∙ ap (λ (n : List ℕ). text_of n told) (search rules)) c.over_text.ensures.value

pub returns-in-Err-Failed-clause-given : goal.returns-in-Err-Failed-clause-given
returns-in-Err-Failed-clause-given g c = bound_nothing _ _ _ _ (λ is. is)

pub returns-clause-given : goal.returns-clause-given
returns-clause-given g c = bound_nothing _ _ _ _ (λ is. is)
