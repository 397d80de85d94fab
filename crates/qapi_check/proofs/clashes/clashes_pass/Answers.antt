use Rattle.std.proofs.Common.{ap, sym, ◌∙◌, rules}
use Rattle.std.specs.Option.{option_map}
use Rattle.qapi_rules.specs.{Blames.fault, Blames.told, declared.fault.CheckRule.TheVariants.MemberClash}
use Rattle.qapi_types.specs.Goodness.{choices_of}
use Rattle.qapi_check.specs.Clashes.{clash_of}
use Rattle.qapi_check.proofs.PassLaws.{among_found, among_none}
use Rattle.qapi_check.proofs.clashes.clashes_pass.Goals as goal

pub returns-in-Some : goal.returns-in-Some
returns-in-Some c = among_found (choices_of c.args.kinds.now) c.args.definitions.now c.loop-definition.definition-index c.loop-definition.number c.definition-item.result c.definition-item.result (told c.in-Some.blame) c.loop-definition.invariant (search rules) (search rules) (search rules)
    (ap (option_map told) (sym c.in-Some.is) ∙ c.in_ok-blame.ensures ∙ ap (λ k. fault MemberClash c.definition-item.result (clash_of (choices_of k) c.loop-definition.number)) c.in_ok-choices.ensures)

pub returns : goal.returns
returns c = among_none (choices_of c.args.kinds.now) c.args.definitions.now c.loop-definition.definition-index c.loop-definition.number c.loop-definition.invariant c.loop-definition-test.false
