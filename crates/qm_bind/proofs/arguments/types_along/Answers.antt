use Rattle.std.proofs.Common.{◌≡◌, ◌∙◌, ◌++◌, [], ◌∷◌, List, Bool, ℕ, sym, ap, subst}
use Rattle.std.proofs.lemmas.Result.{IfOk-weaker}
use Rattle.qapi_types.specs.Chains.{IsReachedFrom}
use Rattle.qm_bind.specs.Walks.{AreAlong, marked_from}
use Rattle.qm_bind.proofs.ArgumentLaws.{along-marked}
use Rattle.qm_bind.proofs.arguments.types_along.Goals as goal

pub returns : goal.returns
returns c = IfOk-weaker c.with_marked.result (λ all. all ≡ c.push.new.self ++ marked_from 0 c.deref.result.now) (λ types. AreAlong c.args.graph.now c.args.type_id types)
    (λ all e. along-marked c.args.graph.now c.args.type_id c.deref.result.now c.push.new.self all (subst (λ (marks : List Bool). IsReachedFrom c.args.graph.now c.args.type_id marks) (sym c.deref.ensures.value) c.in_ok-marks.ensures)
    (c.in_ok-push.ensures.ok ∙ ap (λ (l : List ℕ). l ++ c.args.type_id ∷ []) c.new-types.ensures) e)
    c.with_marked.ensures
