use Rattle.std.proofs.Common.{ℕ, List, ap, ◌∙◌}
use Rattle.qapi_number.specs.Numbering.{number_of_implicit}
use Rattle.qapi_number.specs.TypeNames.{number_of_name}
use Rattle.qapi_number.specs.declared.implicit.ImplicitType.TheVariants as implicit
use Rattle.qapi_number.proofs.ChoiceLaws.{picked_first, picked_second}
use Rattle.qapi_number.proofs.numbering.Numbering.type_number.Goals as goal

pub returns-then-of : goal.returns-then-of
returns-then-of c = picked_first c.args.of.now.is_array _ (number_of_implicit c.args.self.now (implicit.Array (number_of_name c.args.self.now.types c.args.of.now.name))) (number_of_name c.args.self.now.types c.args.of.now.name) c.if-of.true
    (c.in_ok-arrays.ensures ∙ ap (λ (name : List ℕ). number_of_implicit c.args.self.now (implicit.Array (number_of_name c.args.self.now.types name))) c.as_slice.ensures)

pub returns : goal.returns
returns c = picked_second c.args.of.now.is_array _ (number_of_implicit c.args.self.now (implicit.Array (number_of_name c.args.self.now.types c.args.of.now.name))) (number_of_name c.args.self.now.types c.args.of.now.name) c.if-of.false
    (c.in_ok-number.ensures ∙ ap (number_of_name c.args.self.now.types) c.as_slice-2.ensures)
