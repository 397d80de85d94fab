use Rattle.qm_jobs.proofs.listing.info.Goals as goal

pub returns : goal.returns
returns c =
    rw (c.into_json.ensures, c.in_ok-add-2.ensures.ok, c.in_ok-add.ensures.ok, c.in_ok-members.ensures, c.number.ensures, c.number-2.ensures)
