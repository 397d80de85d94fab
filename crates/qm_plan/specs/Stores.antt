-- Stores: named values and named counts (this project's own rule).
use Rattle.std.specs.Prelude.{◌≡◌, ℕ, if◌then◌else◌, false, List, [], ◌∷◌, map, Option, Some, None, option_map, find, refl}
use Rattle.std.specs.{Coded.Coded, Coded.code_by, Coded.coded×, Coded.coded_list, Coded.coded_ℕ, List.list_any, Option.option_or, Str.bytes_eq}
use Rattle.qm_json.specs.declared.value.Json.{Json}
use Rattle.qm_plan.specs.declared.{cells.Cell.Cell, changes.StoreChange.StoreChange}
use Rattle.qm_plan.specs.declared.changes.StoreChange.TheVariants as change

-- a cell as it stands
pub record Held : Type 0 where
  pub name : List ℕ
  pub value : Json

-- a tally as it stands
pub record Count : Type 0 where
  pub name : List ℕ
  pub count : ℕ

-- what contracts see of a store
pub record Contents : Type 0 where
  pub cells : List Held
  pub tallies : List Count

-- the store of first values, with tallies of 0
abbrev pub first_of : List Cell → List (List ℕ) → Contents
first_of cells tallies = record {
  cells = map (λ (c : Cell). record { name = c.name; value = c.first }) cells;
  tallies = map (λ (name : List ℕ). record { name = name; count = 0 }) tallies;
}

-- the value of a cell
abbrev pub cell_of : List ℕ → Contents → Option Json
cell_of name store = option_map (λ c. c.value) (find (λ c. bytes_eq name c.name) store.cells)

-- the count of a tally
abbrev pub tally_of : List ℕ → Contents → Option ℕ
tally_of name store = option_map (λ t. t.count) (find (λ t. bytes_eq name t.name) store.tallies)

-- a cell with another value, where it has the name
abbrev pub set_cell : List ℕ → Json → Held → Held
set_cell name value c = if bytes_eq name c.name then record c { value = value } else c

-- the store with another value in the cell of a name
abbrev pub with_cell : List ℕ → Json → Contents → Contents
with_cell name value store = record store { cells = map (set_cell name value) store.cells }

-- a tally with another count, where it has the name
abbrev pub set_tally : List ℕ → ℕ → Count → Count
set_tally name count t = if bytes_eq name t.name then record t { count = count } else t

-- the store with another count of the tally of a name
abbrev pub with_tally : List ℕ → ℕ → Contents → Contents
with_tally name count store = record store { tallies = map (set_tally name count) store.tallies }

-- the store after a change
abbrev pub changed : StoreChange → Contents → Contents
changed (change.Cell name value) store = with_cell name value store
changed (change.Tally name count) store = with_tally name count store

-- the store after changes, the oldest first
abbrev pub committed : List StoreChange → Contents → Contents
committed [] store = store
committed (change ∷ changes) store = committed changes (changed change store)

-- cells and tallies are stored as pairs of their fields, and a store as its cells and its tallies
abbrev pub held_code : Coded Json → Coded Held
held_code json = code_by (List ℕ × Json) (coded× (coded_list coded_ℕ) json) (λ c. (c.name, c.value)) (λ p. record { name = p.0; value = p.1 }) (λ _. refl)

abbrev pub count_code : Coded Count
count_code = code_by (List ℕ × ℕ) (coded× (coded_list coded_ℕ) coded_ℕ) (λ t. (t.name, t.count)) (λ p. record { name = p.0; count = p.1 }) (λ _. refl)

abbrev pub contents_code : Coded Json → Coded Contents
contents_code json =
    code_by (List Held × List Count) (coded× (coded_list (held_code json)) (coded_list count_code))
    (λ s. (s.cells, s.tallies)) (λ p. record { cells = p.0; tallies = p.1 }) (λ _. refl)

-- the cells of pairs of a key and a value
abbrev pub held_of : {K : Type 0} → (K → List ℕ) → List (K × Json) → List Held
held_of name_of entries = map (λ e. record { name = name_of e.0; value = e.1 }) entries

-- the tallies of pairs of a key and a count
abbrev pub counts_of : {K : Type 0} → (K → List ℕ) → List (K × ℕ) → List Count
counts_of name_of entries = map (λ e. record { name = name_of e.0; count = e.1 }) entries

-- no cell has the name
abbrev pub LacksCell : List ℕ → List Held → Type 0
LacksCell name cells = list_any (λ c. bytes_eq name c.name) cells ≡ false

-- no tally has the name
abbrev pub LacksTally : List ℕ → List Count → Type 0
LacksTally name tallies = list_any (λ t. bytes_eq name t.name) tallies ≡ false

-- the names of first values
abbrev pub names_of : List Cell → List (List ℕ)
names_of cells = map (λ (c : Cell). c.name) cells

-- the value that a change gives the cell of a name
abbrev pub cell_in : List ℕ → StoreChange → Option Json
cell_in name (change.Cell other value) = if bytes_eq other name then Some value else None
cell_in name (change.Tally other count) = None

-- the count that a change gives the tally of a name
abbrev pub tally_in : List ℕ → StoreChange → Option ℕ
tally_in name (change.Cell other value) = None
tally_in name (change.Tally other count) = if bytes_eq other name then Some count else None

-- what the newest of the changes that give something gives
abbrev pub newest : {V : Type 0} → (StoreChange → Option V) → List StoreChange → Option V
newest given [] = None
newest given (change ∷ changes) = option_or (newest given changes) (given change)
