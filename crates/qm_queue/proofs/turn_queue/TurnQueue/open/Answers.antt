use Rattle.std.proofs.Common.{◌≡◌, ◌++◌, ◌∷◌, [], None, rules}
use Rattle.qm_queue.proofs.Lining.{queue-more}
use Rattle.qm_queue.proofs.turn_queue.TurnQueue.open.Goals as goal

pub invariant_of-self-else-is_err-2 : goal.invariant_of-self-else-is_err-2
invariant_of-self-else-is_err-2 c =
    let items : c.push.new.self.items ≡ c.self.inside.items.items ++ None ∷ [] = search rules in
    let tree : c.open.new.self ≡ c.self.inside.tree ++ None ∷ [] = search rules in
    let line : c.reserve.new.self ≡ c.self.inside.line = search rules in
    rw (items, tree, line) (queue-more c.self.inside.items.items c.self.inside.tree c.self.inside.line c.self.invariant)
