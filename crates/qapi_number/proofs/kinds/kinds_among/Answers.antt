use Rattle.std.proofs.Common.{ℕ, arith, map, take}
use Rattle.std.specs.List.{enumerate_from}
use Rattle.qapi_define.specs.declared.definition.Definition.{Definition}
use Rattle.qapi_number.specs.Kinds.{kind_defined}
use Rattle.qapi_number.proofs.EnumerateLaws.{mapped, enumerate_told}
use Rattle.qapi_number.proofs.kinds.kinds_among.Goals as goal

pub loop-at-preserved : goal.loop-at-preserved
loop-at-preserved c = mapped (λ (e : ℕ × Definition). kind_defined c.args.numbering.now e.1.sort e.0 e.1) (enumerate_from 0 (map (λ k. k.now) (take c.loop-at.at c.args.definitions.now))) _ (c.loop-at.at, c.index-definitions-at.result.now) _ _ (enumerate_told (λ k. k.now) c.args.definitions.now c.loop-at.at c.index-definitions-at.result (omega arith) c.index-definitions-at.is) c.loop-at.invariant c.in_ok-add_defined_kind.ensures
