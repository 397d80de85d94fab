use Rattle.std.proofs.Common.{rules, ◌≡◌, ◌++◌, ◌∷◌, [], None}
use Rattle.qm_queue.proofs.Settling.{tree-more}
use Rattle.qm_queue.proofs.tree.Tree.open.Goals as goal

pub invariant_of-self-else-is_err-2 : goal.invariant_of-self-else-is_err-2
invariant_of-self-else-is_err-2 c =
    let bests : c.push.new.self.items ≡ c.self.inside.bests.items ++ None ∷ [] = search rules in
    let owns : c.push-2.new.self.items ≡ c.self.inside.owns.items ++ None ∷ [] = search rules in
    rw (bests, owns) (tree-more _ _ c.self.invariant)
