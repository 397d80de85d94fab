use Rattle.std.proofs.Common.{rules, get_or}
use Rattle.qapi_mask.specs.Naming.{mask_of}
use Rattle.qapi_mask.proofs.VariantLaws.{jsons-more}
use Rattle.qapi_mask.proofs.objects.variant_objects.Goals as goal

pub loop-at-preserved : goal.loop-at-preserved
loop-at-preserved c =
    jsons-more (mask_of c.args.naming.now) c.args.values.now c.args.types.now c.loop-at.at c.index-values-at.result (get_or c.args.types.now c.loop-at.at 0) _ _ c.requires.long (search rules) (search rules) (search rules)
    c.loop-at.invariant (search rules)
