use Rattle.std.proofs.Common.{◌≡◌, ◌∙◌, ap, sym, List, ℕ, arith}
use Rattle.std.specs.Prelude.{not}
use Rattle.std.specs.List.{position_from}
use Rattle.qm_json.specs.declared.value.Member.{Member}
use Rattle.qm_admit.specs.Misfits.{is_known}
use Rattle.qm_admit.specs.Walks.{chosen_types}
use Rattle.qm_admit.proofs.Positions.{from-zero, from-stops, from-end}
use Rattle.qm_admit.proofs.unexpected.first_unknown.Goals as goal

pub returns-then-not-is_known : goal.returns-then-not-is_known
returns-then-not-is_known c =
    let p = λ (x : Member). not (is_known c.args.schema.now.kinds (chosen_types c.args.schema.now.kinds c.args.given.now c.args.type_id) x.name) in
    let e : is_known c.args.schema.now.kinds (chosen_types c.args.schema.now.kinds c.args.given.now c.args.type_id) c.index-given-i.result.name ≡ c.is_known.result = ap (λ (n : List ℕ). is_known c.args.schema.now.kinds (chosen_types c.args.schema.now.kinds c.args.given.now c.args.type_id) n) (sym c.as_slice.ensures) ∙ sym c.is_known.ensures in
    sym (from-zero p c.args.given.now ∙ from-stops p c.args.given.now c.loop-i.i c.index-given-i.result (position_from p 0 c.args.given.now) c.loop-i-test.true c.index-given-i.is c.loop-i.invariant (ap not e ∙ grind (arith, c.if-not-is_known.true)))

pub returns : goal.returns
returns c =
    let p = λ (x : Member). not (is_known c.args.schema.now.kinds (chosen_types c.args.schema.now.kinds c.args.given.now c.args.type_id) x.name) in
    sym (from-zero p c.args.given.now ∙ from-end p c.args.given.now c.loop-i.i (position_from p 0 c.args.given.now) c.loop-i-test.false c.loop-i.invariant)
