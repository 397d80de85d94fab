use Rattle.std.proofs.Common.{[], ◌∷◌, ◌++◌, ap, sym, ◌∙◌}
use Rattle.qapi_number.specs.Kinds.{implicit_kind}
use Rattle.qapi_number.proofs.RestLaws.{rest_some, rest_none}
use Rattle.qapi_number.proofs.kinds.add_implicit_kind.Goals as goal

pub returns-in_ok-push-in-Some : goal.returns-in_ok-push-in-Some
returns-in_ok-push-in-Some c = rest_some (implicit_kind c.args.numbering.now c.args.definitions.now) c.args.numbering.now.implicit c.args.place c.in-Some.one c.args.kinds.now c.push.new.self (sym c.in-Some.ensures) (c.in_ok-push-in-Some.ensures.ok ∙ ap (λ k. c.args.kinds.now ++ k ∷ []) c.in_ok-kind-in-Some.ensures)

pub returns-in-None : goal.returns-in-None
returns-in-None c = rest_none (implicit_kind c.args.numbering.now c.args.definitions.now) c.args.numbering.now.implicit c.args.place c.args.kinds.now (sym c.in-None.ensures)
