-- Names of items, one item after the other, and tests of which both must hold.
use Rattle.std.proofs.Common.{◌≡◌, ℕ, Bool, true, false, ◌&&◌, List, ap, sym, ◌∙◌, bytes_eq}
use Rattle.std.specs.List.{list_any}
use Rattle.qm_base.specs.Names.{is_named}
use Rattle.qm_plan.specs.Stores.{names_of}
use Rattle.qm_plan.specs.declared.cells.Cell.{Cell}
use Rattle.qapi_types.proofs.NameLemmas.{list_any-map}

-- the first holds, so the second decides
pub second-decides : (r s d a w : Bool) → r ≡ true → r ≡ d → s ≡ a → w ≡ (d && a) → s ≡ w
second-decides r s d a w e f g h = g ∙ ap (λ (b : Bool). b && a) (sym e ∙ f) ∙ sym h

-- the first does not hold
pub first-decides : (r d a w : Bool) → r ≡ false → r ≡ d → w ≡ (d && a) → r ≡ w
first-decides r d a w e f h = e ∙ ap (λ (b : Bool). b && a) (sym e ∙ f) ∙ sym h

-- a cell has the name
pub cell-named : (cells : List Cell) (name : List ℕ) → list_any (λ (c : Cell). bytes_eq name c.name) cells ≡ is_named (names_of cells) name
cell-named cells name = sym (list_any-map (λ (c : Cell). c.name) (bytes_eq name) cells)
