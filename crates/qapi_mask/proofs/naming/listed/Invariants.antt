use Rattle.std.proofs.Common.{length}
use Rattle.qapi_mask.specs.Tables.{IsMarked}
use Rattle.qapi_mask.proofs.BuildLaws.{WalksTo}
use Rattle.qapi_mask.proofs.naming.listed.Given as goal

abbrev pub invariant-loop-walked : goal.invariant-loop-walked
invariant-loop-walked l =
    WalksTo l.parts l.walked l.listing.found.items × IsMarked (length l.parts.kinds) l.listing.found.items l.listing.marks.items
