use Rattle.std.proofs.Common.{rules, subst, length}
use Rattle.qapi_mask.specs.Tables.{Tells, number_in}
use Rattle.qapi_mask.proofs.BuildLaws.{below-all, numbered-is, numbered-small}
use Rattle.qapi_mask.proofs.naming.Naming.of.Goals as goal

pub numbered-requires-clause-within : goal.numbered-requires-clause-within
numbered-requires-clause-within c =
    (let below = below-all _ c.in_ok-listed.listed.found.items c.in_ok-listed.ensures.marks.below in search rules)

pub numbers-requires-clause-within : goal.numbers-requires-clause-within
numbers-requires-clause-within c =
    (let below = below-all _ c.in_ok-numbered.numbered.found.items c.in_ok-numbered.ensures.marks.below in search rules)

pub numbers-requires-clause-few : goal.numbers-requires-clause-few
numbers-requires-clause-few c =
    (let few = numbered-small c.args.schema.now c.parts-parts.ensures.good c.requires c.in_ok-numbered.numbered.found.items
    (numbered-is c.args.schema.now c.parts-parts.ensures.good c.requires c.in_ok-numbered.numbered.found.items c.as_slice-4.result.now (search rules) (search rules)) in search rules)

pub invariant_of-result : goal.invariant_of-result
invariant_of-result c =
    let is = numbered-is c.args.schema.now c.parts-parts.ensures.good c.requires c.in_ok-numbered.numbered.found.items c.as_slice-4.result.now (search rules) (search rules) in
    record {
      good = c.parts-parts.ensures.good;
      begun = c.requires;
      shown_is = search rules;
      listed_is = search rules;
      marks_are = search rules;
      numbers_are = subst (λ xs. Tells (number_in xs) (length c.args.schema.now.kinds) c.in_ok-numbers.numbers.items) is (search rules);
    }
