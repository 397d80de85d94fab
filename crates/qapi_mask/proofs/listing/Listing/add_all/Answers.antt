use Rattle.std.proofs.Common.{rules, get_or}
use Rattle.qapi_mask.proofs.ListingLaws.{added}
use Rattle.qapi_mask.proofs.listing.Listing.add_all.Goals as goal

pub loop-number-preserved : goal.loop-number-preserved
loop-number-preserved c =
    (added _ _ _ _ (λ x. get_or c.args.table.now x 0) c.loop-number.number-index c.entry.result (search rules) (search rules) c.loop-number.invariant.0 c.in_ok-add.ensures.found, search rules)
