-- Worlds that a monitor can be made for (this project's own rule).
use Rattle.std.specs.Prelude.{IsTrue}
use Rattle.qm_json.specs.Cleanness.{are_distinct}
use Rattle.qm_plan.specs.Stores.{names_of}
use Rattle.qm_core.specs.declared.world.World.{World}

-- the names of the cells are distinct, and those of the tallies
pub record IsReady (world : World) : Type 0 where
  pub cells : IsTrue (are_distinct (names_of world.binding.cells))
  pub tallies : IsTrue (are_distinct world.binding.tallies)
