use Rattle.std.proofs.Common.{◌≡◌, map, take}
use Rattle.qm_plan.specs.{Stores.held_of, declared.cells.Cell.Cell}
use Rattle.qm_plan.proofs.stores.first_cells.Given as goal

abbrev pub invariant-loop-cell : goal.invariant-loop-cell
invariant-loop-cell l = held_of (λ key. key.items) l.made.entries ≡ map (λ (c : Cell). record { name = c.name; value = c.first }) (take l.cell-index l.cells)
