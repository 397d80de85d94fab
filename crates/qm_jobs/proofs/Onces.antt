-- Calls leave tables in which each id stands once.
use Rattle.std.proofs.Common.{◌≡◌, ◌≤◌, ℕ, nat_le, Bool, true, false, cond, ◌||◌, List, [], ◌∷◌, ◌++◌, length, flat_map, Option, Some, None, Result, Ok, Err, refl, ap, sym, ◌∙◌, subst, arith, length-append}
use Rattle.std.specs.List.{list_any}
use Rattle.std.specs.Str.{bytes_eq}
use Rattle.std.proofs.lemmas.Bool.Decides.{nat_tests}
use Rattle.std.proofs.lemmas.List.Folds.{list_any-append}
use Rattle.std.proofs.lemmas.Slice.Eq.{bytes_eq-Decides}
use Rattle.qm_jobs.specs.Jobs.{Job, has_id}
use Rattle.qm_jobs.specs.Once.{IsOnce, IsTable}
use Rattle.qm_jobs.specs.States.{stands, worked, gone}
use Rattle.qm_jobs.specs.Table.{Outcome, kept, with_state, state_of, start_of, verb_of, verb_on, go_of, work_of}
use Rattle.qm_jobs.specs.Ways.{way_of}
use Rattle.qm_jobs.specs.declared.changes.Change.{Change}
use Rattle.qm_jobs.specs.declared.jobs.JobFault.{JobFault}
use Rattle.qm_jobs.specs.declared.jobs.JobFault.TheVariants.{JobExists, JobsFull}
use Rattle.qm_jobs.specs.declared.jobs.TheConstants.{MOST_JOBS}
use Rattle.qm_jobs.specs.declared.state.JobState.{JobState}
use Rattle.qm_jobs.specs.declared.ways.Way.{Way}
use Rattle.qm_plan.specs.declared.verbs.Verb.{Verb}

none_first : (a b : Bool) → (a || b) ≡ false → (a ≡ false) × (b ≡ false)
none_first true b h = absurd cc
none_first false b h = (refl, h)

none_both : (a b : Bool) → a ≡ false → b ≡ false → (a || b) ≡ false
none_both a b p q = ap (λ (c : Bool). c || b) p ∙ q

-- what is left of a job: itself at another state, or nothing
abbrev left : (Job → Bool) → (Job → JobState) → Job → List Job
left test state job = cond (test job) (record job { state = state job } ∷ []) []

module _ (test : Job → Bool) (state : Job → JobState) where
  none_left : (id : List ℕ) (table : List Job) → list_any (has_id id) table ≡ false → list_any (has_id id) (flat_map (left test state) table) ≡ false
  none_left id [] h = refl
  none_left id (job ∷ table) h = (let parts = none_first (has_id id job) (list_any (has_id id) table) h in either (test job) parts.0 (none_left id table parts.1)) where
    either : (b : Bool) → has_id id job ≡ false → list_any (has_id id) (flat_map (left test state) table) ≡ false →
        list_any (has_id id) (cond b (record job { state = state job } ∷ []) [] ++ flat_map (left test state) table) ≡ false
    either true first rest = none_both (has_id id job) _ first rest
    either false first rest = rest

  once_left : (table : List Job) → IsOnce table → IsOnce (flat_map (left test state) table)
  once_left [] h = tt
  once_left (job ∷ table) h = either (test job) (once_left table h.1) (none_left job.id table h.0) where
    either : (b : Bool) → IsOnce (flat_map (left test state) table) → list_any (has_id job.id) (flat_map (left test state) table) ≡ false →
        IsOnce (cond b (record job { state = state job } ∷ []) [] ++ flat_map (left test state) table)
    either true more none = (none, more)
    either false more none = more

  few_left : (table : List Job) → length (flat_map (left test state) table) ≤ length table
  few_left [] = omega arith
  few_left (job ∷ table) = either (test job) (few_left table) where
    either : (b : Bool) → length (flat_map (left test state) table) ≤ length table →
        length (cond b (record job { state = state job } ∷ []) [] ++ flat_map (left test state) table) ≤ length (job ∷ table)
    either true h = omega (arith, h)
    either false h = omega (arith, h)

  table_left : (table : List Job) → IsTable table → IsTable (flat_map (left test state) table)
  table_left table t = record { once = once_left table t.once; few = omega (arith, few_left table, t.few) }

pub work_leaves : (table : List Job) → IsTable table → IsTable (work_of table).table
work_leaves table t = table_left (λ job. stands (worked job.state)) (λ job. worked job.state) table t

-- a verb's change as what is left of each job
with-left : (id : List ℕ) (state : JobState) (table : List Job) →
    with_state id state table ≡ flat_map (left (λ job. cond (has_id id job) (stands state) true) (λ job. cond (has_id id job) state job.state)) table
with-left id state [] = refl
with-left id state (job ∷ table) = either (has_id id job) (with-left id state table) where
  either : (b : Bool) → with_state id state table ≡ flat_map (left (λ job. cond (has_id id job) (stands state) true) (λ job. cond (has_id id job) state job.state)) table →
      cond b (kept (record job { state = state })) (job ∷ []) ++ with_state id state table
      ≡ cond (cond b (stands state) true) (record job { state = cond b state job.state } ∷ []) [] ++ flat_map (left (λ job. cond (has_id id job) (stands state) true) (λ job. cond (has_id id job) state job.state)) table
  either true more = ap (λ (t : List Job). kept (record job { state = state }) ++ t) more
  either false more = ap (λ (t : List Job). job ∷ t) more

pub verb_leaves : (table : List Job) (verb : Verb) (id : List ℕ) (o : Outcome) → IsTable table → verb_of table verb id ≡ Ok o → IsTable o.table
verb_leaves table verb id o t is = found (state_of id table) is where
  along : (state : JobState) (changes : List Change) → ◌≡◌ {A = Result Outcome JobFault} (Ok (record { changes = changes; table = with_state id state table })) (Ok o) → IsTable o.table
  along state changes is =
      let same : record { changes = changes; table = with_state id state table } ≡ o = cc in
      subst IsTable (ap (λ (o : Outcome). o.table) same)
      (subst IsTable (sym (with-left id state table)) (table_left (λ job. cond (has_id id job) (stands state) true) (λ job. cond (has_id id job) state job.state) table t))

  gone_by : (state : JobState) (way : Option Way) → go_of table id state way ≡ Ok o → IsTable o.table
  gone_by state None is = absurd cc
  gone_by state (Some way) is = along (gone way state) _ is

  found : (state : Option JobState) → verb_on table verb id state ≡ Ok o → IsTable o.table
  found None is = absurd cc
  found (Some state) is = gone_by state (way_of verb state.status) is

apart_back : (a b : List ℕ) → bytes_eq a b ≡ false → bytes_eq b a ≡ false
apart_back a b h = either (bytes_eq b a) refl where
  either : (r : Bool) → bytes_eq b a ≡ r → bytes_eq b a ≡ false
  either true is = (let same : bytes_eq a b ≡ true = (bytes_eq-Decides a b).1 (sym ((bytes_eq-Decides b a).0 is)) in absurd cc)
  either false is = is

once_push : (table : List Job) (job : Job) → IsOnce table → list_any (has_id job.id) table ≡ false → IsOnce (table ++ job ∷ [])
once_push [] job h none = (refl, tt)
once_push (x ∷ table) job h none =
    let parts = none_first (has_id job.id x) (list_any (has_id job.id) table) none in
    (list_any-append (has_id x.id) table (job ∷ []) ∙ none_both _ _ h.0 (none_both (has_id x.id job) false (apart_back job.id x.id parts.0) refl), once_push table job h.1 parts.1)

pub start_leaves : (table : List Job) (id : List ℕ) (state : JobState) (o : Outcome) → IsTable table → start_of table id state ≡ Ok o → IsTable o.table
start_leaves table id state o t is = either (list_any (has_id id) table) (nat_le MOST_JOBS (length table)) _ refl refl is where
  few : nat_le MOST_JOBS (length table) ≡ false → length (table ++ record { id = id; state = state } ∷ []) ≤ MOST_JOBS
  few full = grind (arith, nat_tests, length-append table (record { id = id; state = state } ∷ []))

  either : (a b : Bool) (changes : List Change) → list_any (has_id id) table ≡ a → nat_le MOST_JOBS (length table) ≡ b →
      cond a (Err JobExists) (cond b (Err JobsFull) (Ok (record { changes = changes; table = table ++ record { id = id; state = state } ∷ [] }))) ≡ Ok o → IsTable o.table
  either true b changes none full is = absurd cc
  either false true changes none full is = absurd cc
  either false false changes none full is =
      let same : record { changes = changes; table = table ++ record { id = id; state = state } ∷ [] } ≡ o = cc in
      subst IsTable (ap (λ (o : Outcome). o.table) same) (record { once = once_push table (record { id = id; state = state }) t.once none; few = few full })
