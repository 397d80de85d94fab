-- What comes of a command that takes effect (this project's own rule).
use Rattle.std.specs.Prelude.{ℕ, if◌then◌else◌, List, [], ◌∷◌, ◌++◌, codes, map, slice_get, Result, Ok, Err}
use Rattle.std.specs.Option.{option_map_or}
use Rattle.qm_base.specs.Names.{is_named}
use Rattle.qm_json.specs.declared.value.Json.{Json, TheVariants.Obj, TheVariants.Arr, TheVariants.Str}
use Rattle.qapi_types.specs.declared.parts.CommandDef.{CommandDef}
use Rattle.qm_admit.specs.declared.verdict.Verdict.{Verdict as Admission, TheVariants.Yes, TheVariants.No}
use Rattle.qm_admit.specs.Misfits.{return_misfit, verdict_of as admission_of}
use Rattle.qm_caps.specs.Greetings.{named, version_value}
use Rattle.qm_plan.specs.{Applying.Outcome, Applying.applied_of, Stores.Contents, declared.facts.Facts.Facts, declared.recipes.Plan.Plan}
use Rattle.qm_plan.specs.declared.applied.ApplyFault.{ApplyFault, TheVariants.Failed, TheVariants.TallyFull, TheVariants.Memory}
use Rattle.qm_core.specs.declared.world.World.{World}

-- what a command returns, or what its failure says
abbrev pub Effect : Type 0
Effect = Result Json (List ℕ)

-- the name of a command; none of a number past the commands
abbrev pub command_name_at : World → ℕ → List ℕ
command_name_at world command = option_map_or (λ (c : CommandDef). c.name) (slice_get world.schema.commands command) []

-- the commands that fail, since they are not built
abbrev pub unbuilt_names : List (List ℕ)
unbuilt_names =
    codes "query-jobs"
    ∷ codes "job-cancel" ∷ codes "job-pause" ∷ codes "job-resume" ∷ codes "job-complete" ∷ codes "job-finalize" ∷ codes "job-dismiss" ∷ []

abbrev pub unbuilt_text : List ℕ → List ℕ
unbuilt_text name = codes "The command " ++ name ++ codes " is not built"

-- what is told of a command: its name (QMP Reference Manual, `query-commands`)
abbrev pub command_value : CommandDef → Json
command_value command = Obj (named (codes "name") (Str command.name) ∷ [])

-- what plans can return of the monitor itself; there are no jobs yet
abbrev pub facts_of : World → Facts
facts_of world = record {
  version = version_value;
  commands = Arr (map command_value world.schema.commands);
  introspection = world.introspection;
  jobs = Arr [];
}

-- a value is returned where it fits the command's return type
abbrev pub returned : Json → Admission → Effect
returned value Yes = Ok value
returned value (No fault path) = Err (codes "The return value does not fit its type")

abbrev pub full_text : List ℕ → List ℕ
full_text name = codes "Tally '" ++ name ++ codes "' is full"

-- what a plan's failure says; want of memory is none
abbrev pub failure_text : ApplyFault → List ℕ
failure_text (Failed text) = text
failure_text (TallyFull name) = full_text name
failure_text Memory = []

-- what a plan that does not fail returns
abbrev pub outcome_effect : World → ℕ → Json → Effect
outcome_effect world command value = returned value (admission_of (return_misfit world.schema command value))

abbrev pub applied_effect : World → ℕ → Result Outcome ApplyFault → Effect
applied_effect world command (Ok outcome) = outcome_effect world command outcome.ret
applied_effect world command (Err fault) = Err (failure_text fault)

-- what comes of the command of this name and number, by its plan and the store
abbrev pub named_effect : World → Contents → ℕ → Plan → List ℕ → Effect
named_effect world store command plan name =
    if is_named unbuilt_names name then Err (unbuilt_text name)
    else applied_effect world command (applied_of (facts_of world) plan store)

-- what comes of the command of the number
abbrev pub effect_of : World → Contents → ℕ → Plan → Effect
effect_of world store command plan = named_effect world store command plan (command_name_at world command)
