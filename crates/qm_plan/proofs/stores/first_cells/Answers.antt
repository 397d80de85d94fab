use Rattle.std.proofs.Common.{refl}
use Rattle.qm_plan.specs.{Stores.Held, declared.cells.Cell.Cell}
use Rattle.qm_plan.proofs.Tables.{new-at}
use Rattle.qm_plan.proofs.stores.first_cells.Goals as goal

pub put_cell-requires : goal.put_cell-requires
put_cell-requires c =
    rw c.as_slice.ensures
    (new-at (λ (c : Cell). c.name) (λ (c : Cell). record { name = c.name; value = c.first }) (λ (h : Held). h.name) (λ c. refl)
    c.args.cells.now c.loop-cell.cell-index c.cell-item.result _ c.loop-cell-test.true c.cell-item.is c.requires c.loop-cell.invariant)
