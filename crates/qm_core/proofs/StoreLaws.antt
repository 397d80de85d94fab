-- A reply changes the store exactly where it is no error; and what a call plans.
use Rattle.std.proofs.Common.{◌≡◌, ℕ, true, false, List, ◌∷◌, codes, Option, Some, None, option_map, Result, Ok, Err, refl, ap, ◌∙◌}
use Rattle.qm_json.specs.declared.value.Json.TheViews.{outs-Obj}
use Rattle.qm_json.specs.{Members.has_name, Members.layer_members, Members.member_of, Members.members_of, declared.value.Json.Json, declared.value.Json.TheVariants.Obj, declared.value.Member.Member}
use Rattle.std.specs.Bool.{if◌then◌else◌}
use Rattle.qm_caps.specs.declared.mode.Mode.{Mode}
use Rattle.qm_plan.specs.{Plans.arguments_of, Plans.given_arguments, Plans.plan_of, declared.calls.Call.Call}
use Rattle.qm_plan.specs.{Applying.Outcome, Applying.applied_of, Stores.Contents, declared.applied.ApplyFault.ApplyFault}
use Rattle.qm_core.specs.{Inputs.arguments_in, Inputs.document_of, Planned.call_of, Planned.call_with, Planned.recipe_at}
use Rattle.qm_core.specs.{Effects.Effect, Effects.effect_of, Effects.facts_of, Planned.command_by, Planned.command_for, Planned.plan_for, Planned.planned_for, Replies.effect_member, Replies.id_of, Replies.id_members, Replies.is_return, Replies.outcome_of, Replies.reply_to, State.stored, State.effect_store, State.verdict_store, State.left_by, Verdicts.verdict_of}
use Rattle.qm_core.specs.declared.{inputs.Input.Input, inputs.Input.TheVariants.Doc, inputs.Input.TheVariants.Bad, requests.Request.Request, world.World.World}
use Rattle.qm_core.specs.Verdicts.{Refusal, Verdict, Refused, Run}

-- the members of an object are these
pub members_back : (members : List Member) → members_of (Obj members) ≡ members
members_back members = ap layer_members (outs-Obj members)

return_first : (value : Json) (ids : List Member) → is_return (Obj (effect_member (Ok value) ∷ ids)) ≡ true
return_first value ids = ap (λ (l : List Member). has_name l (codes "return")) (members_back (effect_member (Ok value) ∷ ids))

error_first : (text : List ℕ) (ids : List Member) → has_name ids (codes "return") ≡ false → is_return (Obj (effect_member (Err text) ∷ ids)) ≡ false
error_first text ids none = ap (λ (l : List Member). has_name l (codes "return")) (members_back (effect_member (Err text) ∷ ids)) ∙ none

-- the store by a plan's outcome and an effect, told by its reply
told_by_effect : (store : Contents) (applied : Result Outcome ApplyFault) (effect : Effect) (ids : List Member) → has_name ids (codes "return") ≡ false →
    (if is_return (Obj (effect_member effect ∷ ids)) then left_by store applied else store) ≡ effect_store store applied effect
told_by_effect store applied (Ok value) ids none = rw (return_first value ids) refl
told_by_effect store applied (Err text) ids none = rw (error_first text ids none) refl

id_is_no_return : (id : Option Json) → has_name (id_members id) (codes "return") ≡ false
id_is_no_return None = refl
id_is_no_return (Some value) = refl

ids_are_no_return : (input : Input) → has_name (id_of input) (codes "return") ≡ false
ids_are_no_return (Doc value) = id_is_no_return (member_of value (codes "id"))
ids_are_no_return (Bad bad) = refl

told_by_verdict : (world : World) (store : Contents) (request : Request) (verdict : Verdict) (ids : List Member) → has_name ids (codes "return") ≡ false →
    stored world store (option_map (plan_for world request) (command_by verdict)) (Obj (outcome_of world store request verdict ∷ ids)) ≡ verdict_store world store request verdict
told_by_verdict world store request (Refused refusal) ids none = refl
told_by_verdict world store request (Run command) ids none =
    let plan = plan_for world request command in
    told_by_effect store (applied_of (facts_of world) plan store) (effect_of world store command plan) ids none

-- the store after the reply to a request is that after its verdict
pub stored_by_verdict : (world : World) (store : Contents) (request : Request) →
    stored world store (planned_for world request) (reply_to world store request) ≡ verdict_store world store request (verdict_of world request.mode request.input)
stored_by_verdict world store request =
    told_by_verdict world store request (verdict_of world request.mode request.input) (id_of request.input) (ids_are_no_return request.input)

run_by : (verdict : Verdict) (command : ℕ) → Some command ≡ command_by verdict → Run command ≡ verdict
run_by (Refused refusal) command told = absurd cc
run_by (Run c) command told = (let same : command ≡ c = cc in ap Run same)

-- the verdict on a request whose command takes effect
pub run_by_command : (world : World) (request : Request) (command : ℕ) → Some command ≡ command_for world request → Run command ≡ verdict_of world request.mode request.input
run_by_command world request = run_by (verdict_of world request.mode request.input)

-- the plan of a command with the arguments of an input, and of the call that the input makes
planned_call_of : (world : World) (value : Json) (command : Option ℕ) →
    option_map (λ (c : ℕ). plan_of (recipe_at world c) (arguments_of (arguments_in (Doc value)))) command
    ≡ option_map (λ (call : Call). plan_of (recipe_at world call.command) (arguments_of (given_arguments call))) (call_with command (Some value))
planned_call_of world value None = refl
planned_call_of world value (Some command) = refl

planned_by_input : (world : World) (mode : Mode) (input : Input) →
    (let command = command_by (verdict_of world mode input) in
    option_map (λ (c : ℕ). plan_of (recipe_at world c) (arguments_of (arguments_in input))) command
    ≡ option_map (λ (call : Call). plan_of (recipe_at world call.command) (arguments_of (given_arguments call))) (call_with command (document_of input)))
planned_by_input world mode (Doc value) = planned_call_of world value (command_by (verdict_of world mode (Doc value)))
planned_by_input world mode (Bad bad) = refl

-- the plan of a request is that of the call that it makes
pub planned_call : (world : World) (request : Request) →
    planned_for world request ≡ option_map (λ (call : Call). plan_of (recipe_at world call.command) (arguments_of (given_arguments call))) (call_of world request)
planned_call world request = planned_by_input world request.mode request.input

-- the reply to a request that is refused is an error
pub refused-error : (world : World) (store : Contents) (request : Request) (refusal : Refusal) → verdict_of world request.mode request.input ≡ Refused refusal → is_return (reply_to world store request) ≡ false
refused-error world store request refusal refused =
    ap (λ (v : Verdict). is_return (Obj (outcome_of world store request v ∷ id_of request.input))) refused
    ∙ ap (λ (l : List Member). has_name l (codes "return")) (members_back (outcome_of world store request (Refused refusal) ∷ id_of request.input)) ∙ ids_are_no_return request.input
