use Rattle.std.proofs.Common.{rules, ap, ◌∙◌, ◌++◌, List}
use Rattle.qm_json.specs.declared.value.Member.{Member}
use Rattle.qapi_mask.specs.{Naming.mask_of}
use Rattle.qapi_types.specs.Prelude.{empty_of}
use Rattle.qapi_mask.proofs.VariantLaws.{put-two, tag-told, types-long, variants-within}
use Rattle.qapi_mask.proofs.objects.put_tag.Goals as goal

pub variant_objects-requires-clause-long : goal.variant_objects-requires-clause-long
variant_objects-requires-clause-long c =
    (let long = types-long c.args.naming.now.kinds c.args.kind.now (empty_of c.args.naming.now) c.args.tag.now c.as_slice.result.now c.requires.tag (search rules) in search rules)

pub variant_objects-requires-clause-below : goal.variant_objects-requires-clause-below
variant_objects-requires-clause-below c =
    variants-within c.args.naming.now (search rules) (search rules) c.args.kind.now c.as_slice.result.now c.requires.below (search rules)

pub returns : goal.returns
returns c =
    put-two _ _ _ _ _ c.in_ok-put_text.ensures c.in_ok-put.ensures
    ∙ ap (λ (ms : List Member). c.args.members.now ++ ms) (tag-told c.args.naming.now.kinds c.args.kind.now (mask_of c.args.naming.now) (empty_of c.args.naming.now) c.args.tag.now c.as_slice-2.result.now c.as_slice.result.now c.in_ok-variants.variants c.requires.tag (search rules) (search rules) (search rules))
