use Rattle.std.proofs.Common.{rules, ℕ, List, refl, ap, sym, ◌∙◌, Some, None}
use Rattle.qapi_load.specs.Files.{text_of}
use Rattle.qm_offline.specs.Output.{missing as no_file}
use Rattle.qm_offline.proofs.Runs.{answered, may_read, unread, wanted_memory}
use Rattle.qm_offline.proofs.offline.replay_script.Goals as goal

pub returns-in-Ok-Some : goal.returns-in-Ok-Some
returns-in-Ok-Some g c = λ words is.
    answered _ _ c.args.world c.args.limits c.args.name (Some c.in-Ok-Some.script) is
    (λ files e. sym c.in-Ok-Some.field-0-is ∙ c.in-Ok-Some.ensures.value files e ∙ ap (λ (n : List ℕ). text_of n files) (search rules)) (search rules) (search rules)

pub returns-in-Ok-None : goal.returns-in-Ok-None
returns-in-Ok-None g c = λ words is.
    answered _ _ c.args.world c.args.limits c.args.name None is
    (λ files e. sym c.in-Ok-None.field-0-is ∙ c.in-Ok-None.ensures.value files e ∙ ap (λ (n : List ℕ). text_of n files) (search rules)) (search rules)
    (c.put_text.ensures.ends (no_file c.args.name).bytes (search rules))

pub returns-in-Err-Failed : goal.returns-in-Err-Failed
returns-in-Err-Failed g c = λ words is.
    unread _ _ c.args.name (may_read _ words _ c.args.name refl is) (search rules) (search rules) c.refuse_unread.ensures.line c.refuse_unread.ensures.nothing

pub returns : goal.returns
returns g c = λ words is. wanted_memory _ refl refl
