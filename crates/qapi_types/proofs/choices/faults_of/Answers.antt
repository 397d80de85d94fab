use Rattle.std.proofs.Common.{map, ap, ◌∙◌, rules}
use Rattle.qapi_types.proofs.FaultLaws.{faults_alone, faults_led}
use Rattle.qapi_types.proofs.choices.faults_of.Goals as goal

pub returns-then-is_empty : goal.returns-then-is_empty
returns-then-is_empty c = faults_alone c.args.kinds.now c.args.number c.args.graph.now c.references_of.result.now (map (λ k. k.now) c.as_slice.result.now) c.kind_at.result.now c.in_ok-set.set c.is_none.result c.requires.graph c.references_of.ensures (search rules) c.in_ok-set.ensures (ap (map (λ k. k.now)) c.as_slice.ensures ∙ c.in_ok-names.ensures) c.kind_at.ensures (search rules)

pub returns : goal.returns
returns c = faults_led c.args.kinds.now c.args.number c.args.graph.now (map (λ k. k.now) c.as_slice.result.now) c.kind_at.result.now c.in_ok-set.set c.in_ok-marks.marks.items _ _ c.requires.graph c.in_ok-set.ensures (ap (map (λ k. k.now)) c.as_slice.ensures ∙ c.in_ok-names.ensures) c.kind_at.ensures c.in_ok-marks.ensures c.requires.within (search rules) (search rules)
