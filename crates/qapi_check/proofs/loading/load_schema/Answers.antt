use Rattle.std.proofs.Common.{rules}
use Rattle.qapi_check.proofs.FromLaws.{table_from, fault_from}
use Rattle.qapi_check.proofs.loading.load_schema.Goals as goal

pub returns-in-Ok-check_sources-clause-given : goal.returns-in-Ok-check_sources-clause-given
returns-in-Ok-check_sources-clause-given g c = table_from _ _ _ c.in-Ok.sources _ (search rules) (search rules)

pub returns-clause-given : goal.returns-clause-given
returns-clause-given g c = fault_from _ _ _ c.in-Ok.sources _ (search rules) (search rules)
