use Rattle.qm_queue.proofs.tree.+settle.Given as goal

abbrev pub decreases-settle : goal.decreases-settle
decreases-settle l = l.place
