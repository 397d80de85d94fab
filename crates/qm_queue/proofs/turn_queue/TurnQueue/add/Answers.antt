use Rattle.std.proofs.Common.{◌≡◌, ◌++◌, ◌∷◌, [], rules}
use Rattle.qm_queue.proofs.Lining.{queue-line}
use Rattle.qm_queue.proofs.turn_queue.TurnQueue.add.Goals as goal

pub invariant_of-self-else-not-put : goal.invariant_of-self-else-not-put
invariant_of-self-else-not-put c =
    let put : c.put.new.self ≡ c.self.inside.line ++ c.args.item ∷ [] = search rules in
    let within = rw (← c.self.view_is) at c.requires.within in
    let free = rw (← c.self.view_is) at c.requires.free in
    rw put (queue-line c.self.inside.items.items c.self.inside.tree c.self.inside.line c.args.place c.args.item within free c.requires.numbered c.self.invariant)
