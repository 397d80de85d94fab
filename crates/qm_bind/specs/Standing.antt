-- What the commands do that stand before each schema (this project's own rule).
use Rattle.std.specs.Prelude.{ℕ, if◌then◌else◌, List, [], ◌∷◌, codes, Option, Some, None, option_map}
use Rattle.std.specs.{Option.option_or, Str.bytes_eq}
use Rattle.qm_plan.specs.declared.templates.Template.{Template, TheVariants.Arg, TheVariants.Version, TheVariants.Commands, TheVariants.Introspection, TheVariants.Jobs}
use Rattle.qm_plan.specs.declared.recipes.{Act.Act, Act.TheVariants.OnJob, Act.TheVariants.Negotiate, Act.TheVariants.Quit, Recipe.Recipe, Waiting.TheVariants.No}
use Rattle.qm_plan.specs.declared.verbs.Verb.{Verb, TheVariants.Cancel, TheVariants.Pause, TheVariants.Resume, TheVariants.Complete, TheVariants.Finalize, TheVariants.Dismiss}
use Rattle.qm_bind.specs.Recipes.{empty_object}

-- what is asked of a job
abbrev pub verb_named : List ℕ → Option Verb
verb_named name =
    if bytes_eq name (codes "job-cancel") then Some Cancel
    else if bytes_eq name (codes "job-pause") then Some Pause
    else if bytes_eq name (codes "job-resume") then Some Resume
    else if bytes_eq name (codes "job-complete") then Some Complete
    else if bytes_eq name (codes "job-finalize") then Some Finalize
    else if bytes_eq name (codes "job-dismiss") then Some Dismiss
    else None

-- the act of a command that is asked of the job of its argument `id`, ends the negotiation, or stops the monitor
abbrev pub act_named : List ℕ → Option Act
act_named name =
    if bytes_eq name (codes "qmp_capabilities") then Some Negotiate
    else if bytes_eq name (codes "quit") then Some Quit
    else option_map (λ verb. OnJob verb (Arg (codes "id"))) (verb_named name)

-- what a query returns
abbrev pub answer_named : List ℕ → Option Template
answer_named name =
    if bytes_eq name (codes "query-version") then Some Version
    else if bytes_eq name (codes "query-commands") then Some Commands
    else if bytes_eq name (codes "query-qmp-schema") then Some Introspection
    else if bytes_eq name (codes "query-jobs") then Some Jobs
    else None

abbrev pub acting : Act → Recipe
acting act = record { acts = act ∷ []; ret = empty_object; waiting = No }

abbrev pub answering : Template → Recipe
answering ret = record { acts = []; ret = ret; waiting = No }

-- the recipe of a command of the name, where one stands before each schema
unfoldable pub standing_recipe : List ℕ → Option Recipe
standing_recipe name = option_or (option_map acting (act_named name)) (option_map answering (answer_named name))
