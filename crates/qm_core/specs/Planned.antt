-- The call that a request makes, and its plan (this project's own rule).
use Rattle.std.specs.Prelude.{ℕ, Bool, true, false, if◌then◌else◌, [], Option, Some, None, option_map, slice_get, unwrap_or}
use Rattle.std.specs.{List.filter_map, Option.option_and_then}
use Rattle.qm_json.specs.declared.value.Json.{Json}
use Rattle.qm_caps.specs.{Lanes.is_in_band, declared.mode.Mode.Mode, declared.mode.Mode.TheVariants.Command, declared.mode.Mode.TheVariants.CommandOob}
use Rattle.qm_plan.specs.{Applying.enabled_by, Plans.plan_of, Plans.arguments_of, Plans.no_members, declared.templates.Template.TheVariants.Const}
use Rattle.qm_plan.specs.declared.{calls.Call.Call, recipes.Plan.Plan, recipes.Recipe.Recipe, recipes.Waiting.TheVariants.No}
use Rattle.qm_core.specs.{Inputs.arguments_in, Inputs.document_of, Inputs.lane_of, Verdicts.Verdict, Verdicts.Refused, Verdicts.Run, Verdicts.verdict_of}
use Rattle.qm_core.specs.declared.{requests.Admitted.Admitted, requests.Request.Request, requests.Started.Started, world.World.World}

-- the command that takes effect by a verdict; none by a refusal
abbrev pub command_by : Verdict → Option ℕ
command_by (Refused refusal) = None
command_by (Run command) = Some command

-- the command of a request that takes effect
abbrev pub command_for : World → Request → Option ℕ
command_for world request = command_by (verdict_of world request.mode request.input)

-- the same of a request, where there is one
abbrev pub command_in : World → Option Request → Option ℕ
command_in world request = option_and_then (command_for world) request

-- the call of a command by a value
abbrev pub call_with : Option ℕ → Option Json → Option Call
call_with (Some command) (Some value) = Some record { command = command; request = value }
call_with command value = None

-- the call that a request makes; none of a request that is refused
abbrev pub call_of : World → Request → Option Call
call_of world request = call_with (command_for world request) (document_of request.input)

-- what is told of a request that is started
abbrev pub started_of : World → Request → Started
started_of world request = record { session = request.session; number = request.number; call = call_of world request }

-- what is told of a request that is admitted: its call, where it is run out of band
abbrev pub admitted_as : World → Request → Admitted
admitted_as world request =
    let lane = lane_of request.mode request.input in
    record { number = request.number; lane = lane; call = if is_in_band lane then None else call_of world request }

-- a recipe without acts, which returns the empty object
abbrev pub plain_recipe : Recipe
plain_recipe = record { acts = []; ret = Const no_members; waiting = No }

-- the recipe of a command
abbrev pub recipe_at : World → ℕ → Recipe
recipe_at world command = unwrap_or (slice_get world.binding.recipes command) plain_recipe

-- the plan of a command that a request calls
abbrev pub plan_for : World → Request → ℕ → Plan
plan_for world request command = plan_of (recipe_at world command) (arguments_of (arguments_in request.input))

-- the plan of a request; none of one that is refused
abbrev pub planned_for : World → Request → Option Plan
planned_for world request = option_map (plan_for world request) (command_for world request)

-- the plan of a request, where there is one
abbrev pub planned_of : World → Option Request → Option Plan
planned_of world request = option_and_then (planned_for world) request

abbrev pub is_true : Option Bool → Bool
is_true (Some true) = true
is_true _ = false

-- the plan enables execution out of band
abbrev pub enables_out_of_band : Plan → Bool
enables_out_of_band plan = is_true (slice_get (filter_map enabled_by plan.acts) 0)

-- the command mode that negotiation by a plan opens (QMP specification, "Capabilities Negotiation")
abbrev pub mode_by : Option Plan → Mode
mode_by None = Command
mode_by (Some plan) = if enables_out_of_band plan then CommandOob else Command
