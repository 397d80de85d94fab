-- What a plan does, as far as store, return value and what it asks for go: its first failure, or all of it
-- (this project's own rule). Values are set, tallies grow and failures come in order, each act on what those
-- before it left; all else is made of the store after all of these.
use Rattle.std.specs.Prelude.{ℕ, ◌+◌, nat_lt, Bool, true, false, if◌then◌else◌, List, [], ◌∷◌, Option, Some, None, option_map, unwrap_or, slice_get, Result, Ok, Err}
use Rattle.std.specs.{List.filter_map, List.list_any}
use Rattle.qm_json.specs.declared.value.Json.{Json}
use Rattle.qm_plan.specs.{Plans.no_members, Stores.Contents, Stores.with_cell, Stores.with_tally, Stores.tally_of, Stores.committed, Templates.value_of}
use Rattle.qm_plan.specs.declared.{events.Raised.Raised, facts.Facts.Facts, templates.Template.Template, templates.Template.TheVariants.Const, TheConstants.MOST_COUNT}
use Rattle.qm_plan.specs.declared.applied.{Applied.Applied, ApplyFault.ApplyFault, ApplyFault.TheVariants.Failed, ApplyFault.TheVariants.TallyFull}
use Rattle.qm_plan.specs.declared.recipes.{Act.Act, Plan.Plan}
use Rattle.qm_plan.specs.declared.recipes.Act.TheVariants.{Set, Add, Raise, Start, OnJob, Enable, Quit, Fail}

-- the store with a greater count, unless that passes the greatest
abbrev pub added : List ℕ → ℕ → Contents → Result Contents ApplyFault
added name count store = if nat_lt MOST_COUNT count then Err (TallyFull name) else Ok (with_tally name count store)

-- the store after an act, or its failure
abbrev pub act_of : Facts → Act → Contents → Result Contents ApplyFault
act_of facts (Set cell to) store = Ok (with_cell cell (value_of facts store to) store)
act_of facts (Add tally by) store = added tally (unwrap_or (tally_of tally store) 0 + by) store
act_of facts (Fail text) store = Err (Failed text)
act_of facts act store = Ok store

-- the store after acts in order, or the first failure
abbrev pub then_acts : (Contents → Result Contents ApplyFault) → Result Contents ApplyFault → Result Contents ApplyFault
then_acts next (Ok store) = next store
then_acts next (Err fault) = Err fault

abbrev pub acts_of : Facts → List Act → Contents → Result Contents ApplyFault
acts_of facts [] store = Ok store
acts_of facts (act ∷ acts) store = then_acts (acts_of facts acts) (act_of facts act store)

-- an act on a job, its id a constant
abbrev pub job_act_of : Facts → Contents → Act → Option Act
job_act_of facts store (Start id units ready manual) = Some (Start (Const (value_of facts store id)) units ready manual)
job_act_of facts store (OnJob verb id) = Some (OnJob verb (Const (value_of facts store id)))
job_act_of facts store act = None

-- the data of an event; without any it is the empty object
abbrev pub payload_of : Facts → Contents → Option Template → Json
payload_of facts store payload = unwrap_or (option_map (value_of facts store) payload) no_members

-- the event that an act raises
abbrev pub raised_of : Facts → Contents → Act → Option Raised
raised_of facts store (Raise event payload) = Some (record { event = event; payload = payload_of facts store payload })
raised_of facts store act = None

-- what an act enables, where it ends the negotiation
abbrev pub enabled_by : Act → Option Bool
enabled_by (Enable oob) = Some oob
enabled_by act = None

abbrev pub is_quit : Act → Bool
is_quit Quit = true
is_quit act = false

-- what comes of a plan that does not fail
pub record Outcome : Type 0 where
  pub ret : Json
  pub store : Contents
  pub jobs : List Act
  pub raised : List Raised
  pub enable : Option Bool
  pub quit : Bool

abbrev pub outcome_after : Facts → Plan → Contents → Outcome
outcome_after facts plan store = record {
  ret = value_of facts store plan.ret;
  store = store;
  jobs = filter_map (job_act_of facts store) plan.acts;
  raised = filter_map (raised_of facts store) plan.acts;
  enable = slice_get (filter_map enabled_by plan.acts) 0;
  quit = list_any is_quit plan.acts;
}

abbrev pub outcome_from : Facts → Plan → Result Contents ApplyFault → Result Outcome ApplyFault
outcome_from facts plan (Ok store) = Ok (outcome_after facts plan store)
outcome_from facts plan (Err fault) = Err fault

-- the first failure of a plan, or what comes of it
abbrev pub applied_of : Facts → Plan → Contents → Result Outcome ApplyFault
applied_of facts plan store = outcome_from facts plan (acts_of facts plan.acts store)

-- the outcome that is told of by changes of the store
abbrev pub outcome_in : Applied → Contents → Outcome
outcome_in applied store = record {
  ret = applied.ret;
  store = committed applied.changes store;
  jobs = applied.jobs;
  raised = applied.raised;
  enable = applied.enable;
  quit = applied.quit;
}
