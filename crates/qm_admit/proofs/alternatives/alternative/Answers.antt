use Rattle.std.proofs.Common.{◌<◌, ◌∙◌, sym, length, subst, IfSome, Option, ℕ}
use Rattle.std.specs.List.{All}
use Rattle.qapi_types.specs.Types.{kind_of, json_kind_of}
use Rattle.qm_admit.specs.Misfits.{is_of}
use Rattle.qm_admit.proofs.GoodParts.{alternatives-within}
use Rattle.qm_admit.proofs.Positions.{found-all}
use Rattle.qm_admit.proofs.alternatives.alternative.Goals as goal

pub returns-in-Alternate-clause-within : goal.returns-in-Alternate-clause-within
returns-in-Alternate-clause-within c =
    subst (λ (o : Option ℕ). IfSome o (λ a. a < length c.args.schema.now.kinds)) (sym c.alternative_in.ensures)
    (found-all (λ a. a < length c.args.schema.now.kinds) (λ a. is_of c.args.sort (json_kind_of (kind_of c.as_slice-kinds.result.now a))) c.as_slice.result.now
    (subst (All (λ a. a < length c.args.schema.now.kinds)) (sym c.as_slice.ensures) (alternatives-within c.args.schema.now c.parts.ensures.good c.args.type_id c.requires c.in-Alternate.types c.in-Alternate.field-1 (sym c.kind.ensures ∙ c.in-Alternate.is))))
