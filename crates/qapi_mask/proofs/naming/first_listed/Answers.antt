use Rattle.std.proofs.Common.{rules}
use Rattle.qapi_mask.proofs.BuildLaws.{firsts-added, firsts-in, table-within}
use Rattle.qapi_mask.proofs.naming.first_listed.Goals as goal

pub add_all-requires-clause-within : goal.add_all-requires-clause-within
add_all-requires-clause-within c = firsts-in c.args.parts.now c.requires.good c.requires.begun _ _ (search rules) c.requires.shown.long

pub add_all-requires-clause-table : goal.add_all-requires-clause-table
add_all-requires-clause-table c = (search (rules, table-within))

pub returns-clause-found : goal.returns-clause-found
returns-clause-found c =
    firsts-added c.args.parts.now c.requires.good c.requires.begun c.args.shown.now c.as_slice-2.result.now c.in_ok-listing.listing.found.items _ c.requires.shown (search rules) c.in_ok-listing.ensures.none c.in_ok-add_all.ensures.found
