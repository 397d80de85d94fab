-- The words of the statuses (QEMU QMP Reference Manual, "JobStatus").
use Rattle.std.specs.Prelude.{ℕ, List, codes}
use Rattle.qm_jobs.specs.declared.status.Status.{Status}
use Rattle.qm_jobs.specs.declared.status.Status.TheVariants.{Undefined, Created, Running, Paused, Ready, Standby, Waiting, Pending, Aborting, Concluded, Null}

abbrev pub name_of : Status → List ℕ
name_of Undefined = codes "undefined"
name_of Created = codes "created"
name_of Running = codes "running"
name_of Paused = codes "paused"
name_of Ready = codes "ready"
name_of Standby = codes "standby"
name_of Waiting = codes "waiting"
name_of Pending = codes "pending"
name_of Aborting = codes "aborting"
name_of Concluded = codes "concluded"
name_of Null = codes "null"
