use Rattle.std.proofs.Common.{rules}
use Rattle.qapi_mask.proofs.BuildLaws.{refs-added, refs-within, table-within}
use Rattle.qapi_mask.proofs.naming.add_entry.Goals as goal

pub add_all-requires-clause-within : goal.add_all-requires-clause-within
add_all-requires-clause-within c = (search (rules, refs-within))

pub add_all-requires-clause-table : goal.add_all-requires-clause-table
add_all-requires-clause-table c = (search (rules, table-within))

pub returns-clause-found : goal.returns-clause-found
returns-clause-found c =
    refs-added c.args.parts.now c.requires.good c.requires.begun c.args.shown.now c.as_slice.result.now c.args.listing.now.found.items _ c.args.number c.requires.shown (search rules) c.in_ok-add_all.ensures.found
