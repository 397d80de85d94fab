use Rattle.std.proofs.Common.{rules}
use Rattle.qapi_mask.proofs.{BuildLaws.below-all, CallBounds.calls-below, NamingLaws.listed-below, Sound.sound}
use Rattle.qapi_mask.proofs.introspection.introspect.Goals as goal

pub put_calls-requires : goal.put_calls-requires
put_calls-requires c =
    (let below = calls-below c.args.schema.now (search rules) c.as_slice.result.now (search rules) in search rules)

pub put_types-requires : goal.put_types-requires
put_types-requires c =
    (let below = below-all _ _ (listed-below c.args.schema.now (sound c.args.schema.now (search rules) c.requires.begun)) in search rules)
