use Rattle.std.proofs.Common.{◌<◌, ◌∙◌, sym, arith, length}
use Rattle.qm_queue.proofs.Settling.{told-already, same-item, told-below, told-first}
use Rattle.qm_queue.proofs.tree.+settle.Goals as goal

pub returns-then-eq : goal.returns-then-eq
returns-then-eq t c =
    told-already c.args.owns.now c.args.bests.now c.args.place c.requires.tree (same-item _ _ (sym c.eq.ensures ∙ c.if-eq.true) ∙ c.best-best.ensures)

pub settle-requires : goal.settle-requires
settle-requires t c =
    let within : c.args.place < length c.args.bests.now = omega (arith, c.requires.tree.same) in
    (omega arith, (omega arith, rw c.best-best.ensures (told-below c.args.owns.now c.args.bests.now c.args.place c.requires.tree within c.if-place-gt0.true)))

pub returns-else-place-gt0 : goal.returns-else-place-gt0
returns-else-place-gt0 t c =
    let within : c.args.place < length c.args.bests.now = omega (arith, c.requires.tree.same) in
    rw c.best-best.ensures (told-first c.args.owns.now c.args.bests.now c.args.place c.requires.tree within (omega arith))
