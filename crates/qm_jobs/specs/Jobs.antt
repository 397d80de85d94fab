-- A job of the table (this project's own rule).
use Rattle.std.specs.Prelude.{ℕ, Bool, List, map, refl}
use Rattle.std.specs.{Coded.Coded, Coded.code_by, Coded.coded×, Coded.coded_list, Coded.coded_ℕ, Str.bytes_eq}
use Rattle.qm_jobs.specs.declared.state.JobState.{JobState}

-- its id, and how it stands
pub record Job : Type 0 where
  pub id : List ℕ
  pub state : JobState

-- it is stored as the pair of its fields
abbrev pub job_code : Coded JobState → Coded Job
job_code code = code_by (List ℕ × JobState) (coded× (coded_list coded_ℕ) code) (λ j. (j.id, j.state)) (λ p. record { id = p.0; state = p.1 }) (λ _. refl)

-- a job has the id
abbrev pub has_id : List ℕ → Job → Bool
has_id id job = bytes_eq id job.id

-- the jobs of pairs of a key and a state
abbrev pub table_of : {K : Type 0} → (K → List ℕ) → List (K × JobState) → List Job
table_of id_of entries = map (λ e. record { id = id_of e.0; state = e.1 }) entries
