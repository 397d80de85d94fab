use Rattle.std.proofs.Common.{◌≡◌, ◌∙◌, ap, Option, List}
use Rattle.qm_queue.specs.{Trees.item_at, declared.turns.TurnItem.TurnItem}
use Rattle.qm_queue.proofs.Settling.{root-first}
use Rattle.qm_queue.proofs.tree.Tree.first.Goals as goal

pub returns : goal.returns
returns c =
    let root : c.root.result ≡ item_at c.self.inside.bests.items 0 = c.root.ensures ∙ ap (λ (xs : List (Option TurnItem)). item_at xs 0) c.as_slice.ensures.value in
    rw (← c.self.view_is, root) (root-first c.self.inside.owns.items c.self.inside.bests.items c.self.invariant)
