use Rattle.std.proofs.Common.{rules, length}
use Rattle.qapi_mask.proofs.BuildLaws.{entry-below, walks-begin, walks-end, walks-few, walks-on}
use Rattle.qapi_mask.proofs.naming.listed.Goals as goal

pub loop-walked-init : goal.loop-walked-init
loop-walked-init c = (walks-begin c.args.parts.now c.requires.good c.requires.begun _ c.in_ok-listing.ensures.found, c.in_ok-listing.ensures.marks)

pub returns-then-walked-len-clause-found : goal.returns-then-walked-len-clause-found
returns-then-walked-len-clause-found c =
    walks-end c.args.parts.now c.requires.good c.requires.begun c.loop-walked.walked _ c.loop-walked.invariant.0 (search rules)

pub add_entry-requires-clause-within : goal.add_entry-requires-clause-within
add_entry-requires-clause-within c =
    (let below = entry-below (length c.args.parts.now.kinds) c.loop-walked.listing.found.items c.loop-walked.listing.marks.items c.loop-walked.walked c.loop-walked.invariant.1 (search rules) in search rules)

pub loop-walked-preserved : goal.loop-walked-preserved
loop-walked-preserved c =
    (walks-on c.args.parts.now c.requires.good c.requires.begun c.loop-walked.walked c.at-number.result _ _ c.loop-walked.invariant.0 (search rules) (search rules) c.in_ok-add_entry.ensures.found, c.in_ok-add_entry.ensures.marks)

pub returns-clause-found : goal.returns-clause-found
returns-clause-found c =
    walks-end c.args.parts.now c.requires.good c.requires.begun c.loop-walked.walked _ c.loop-walked.invariant.0
    (let few = walks-few c.args.parts.now c.requires.good c.requires.begun c.loop-walked.walked _ c.loop-walked.invariant.0 in search rules)
