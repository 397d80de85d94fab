use Rattle.std.proofs.Common.{◌≡◌, ◌++◌, take, drop, length, arith}
use Rattle.qm_queue.proofs.Settling.{whole}
use Rattle.qm_queue.proofs.tree.Tree.set.Goals as goal

pub invariant_of-self : goal.invariant_of-self
invariant_of-self c =
    let bests : take c.self.inside.bests.len (c.settle.new.bests ++ drop (length c.settle.new.bests) c.self.inside.bests.items) ≡ c.settle.new.bests =
    whole c.self.inside.bests.len c.settle.new.bests _ (omega arith) in
    rw bests (rw c.as_slice.ensures.value at c.settle.ensures)
