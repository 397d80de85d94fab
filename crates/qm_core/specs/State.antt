-- The store at a place of a journal (this project's own rule).
use Rattle.std.specs.Prelude.{if◌then◌else◌, List, [], ◌∷◌, Option, Some, None, Result, Ok, Err}
use Rattle.qm_json.specs.declared.value.Json.{Json}
use Rattle.qm_plan.specs.{Applying.Outcome, Applying.applied_of, Stores.Contents, Stores.first_of}
use Rattle.qm_plan.specs.declared.{applied.ApplyFault.ApplyFault, recipes.Plan.Plan}
use Rattle.qm_core.specs.{Effects.Effect, Effects.effect_of, Effects.facts_of, Planned.plan_for, Replies.is_return, declared.entries.Entry.Entry, declared.entries.Entry.TheVariants.Done, declared.entries.Entry.TheVariants.OobDone, declared.requests.Request.Request, declared.world.World.World}
use Rattle.qm_core.specs.Verdicts.{Verdict, Refused, Run}

-- the store that a plan leaves; one that fails leaves the store as it was
abbrev pub left_by : Contents → Result Outcome ApplyFault → Contents
left_by store (Ok outcome) = outcome.store
left_by store (Err fault) = store

-- the store after an effect: what its plan leaves, where it is no failure
abbrev pub effect_store : Contents → Result Outcome ApplyFault → Effect → Contents
effect_store store applied (Ok value) = left_by store applied
effect_store store applied (Err text) = store

-- the store after a verdict
abbrev pub verdict_store : World → Contents → Request → Verdict → Contents
verdict_store world store request (Refused refusal) = store
verdict_store world store request (Run command) =
    let plan = plan_for world request command in
    effect_store store (applied_of (facts_of world) plan store) (effect_of world store command plan)

-- the store after a reply: what its plan leaves, where it is no error
abbrev pub stored : World → Contents → Option Plan → Json → Contents
stored world store None reply = store
stored world store (Some plan) reply = if is_return reply then left_by store (applied_of (facts_of world) plan store) else store

-- the store: first values, and then the plans of all replies in order
abbrev pub store_of : World → List Entry → Contents
store_of world [] = first_of world.binding.cells world.binding.tallies
store_of world (Done s k plan reply moment ∷ past) = stored world (store_of world past) plan reply
store_of world (OobDone s k plan reply moment ∷ past) = stored world (store_of world past) plan reply
store_of world (e ∷ past) = store_of world past
