use Rattle.std.proofs.Common.{[], arith, take}
use Rattle.std.specs.List.{enumerate_from}
use Rattle.qapi_number.specs.Implicit.{with_implicit, implied_by}
use Rattle.qapi_number.proofs.EnumerateLaws.{folded, enumerate_item}
use Rattle.qapi_number.proofs.references.implicit_types.Goals as goal

pub loop-at-preserved : goal.loop-at-preserved
loop-at-preserved c = folded with_implicit (implied_by c.args.types.now) [] _ _ (enumerate_from 0 (take c.loop-at.at c.args.definitions.now)) _ (c.loop-at.at, c.index-definitions-at.result) (enumerate_item c.args.definitions.now c.loop-at.at c.index-definitions-at.result (omega arith) c.index-definitions-at.is) c.loop-at.invariant c.in_ok-note_definition.ensures
