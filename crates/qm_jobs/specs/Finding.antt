-- What a verb finds before the table is changed. This serves private functions.
use Rattle.std.specs.Prelude.{◌≡◌, ◌≢◌, ℕ, List, Result, Ok, Err, IfOk, IfErr}
use Rattle.qm_jobs.specs.{Jobs.Job, Table.verb_of, Table.with_state, declared.jobs.Going.Going, declared.jobs.JobFault.JobFault}
use Rattle.qm_jobs.specs.declared.jobs.JobFault.TheVariants.{Memory}
use Rattle.qm_plan.specs.declared.verbs.Verb.{Verb}

-- the changes, and how the job stands after them
pub record Finds (table : List Job) (verb : Verb) (id : List ℕ) (result : Result Going JobFault) : Type 0 where
  pub ok : IfOk result (λ g. verb_of table verb id ≡ Ok (record { changes = g.changes; table = with_state id g.state table }))
  pub err : IfErr result (λ fault. fault ≢ Memory → verb_of table verb id ≡ Err fault)
  pub refused : IfErr (verb_of table verb id) (λ fault. result ≡ Err fault)
