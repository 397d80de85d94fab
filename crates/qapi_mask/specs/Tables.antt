-- Tables by the numbers of types. This serves private functions.
use Rattle.std.specs.Prelude.{◌≡◌, ◌<◌, ◌==◌, ℕ, Bool, true, List, length, slice_index_or}
use Rattle.std.specs.Option.{unwrap_or}
use Rattle.qapi_types.specs.declared.kind.{Branch.Branch, Kind.Kind}
use Rattle.qm_admit.specs.Tags.{branch_at}
use Rattle.qapi_types.specs.{declared.parts.Parts.Parts, Goodness.IsGood}
use Rattle.qapi_mask.specs.Naming.{place_of, is_base, element_of, listed_of, numbered_of, shown_of}
use Rattle.qapi_types.specs.Prelude.{HasPrelude}
use Rattle.qapi_types.specs.Chains.{has, marked}

-- the list has what the function says of each number below n
pub record Tells (f : ℕ → ℕ) (n : ℕ) (list : List ℕ) : Type 0 where
  pub long : length list ≡ n
  pub each : (t : ℕ) → t < n → slice_index_or list t 0 ≡ f t

-- the marks of n numbers are those of the numbers in the list, which are all below n
pub record IsMarked (n : ℕ) (list : List ℕ) (marks : List Bool) : Type 0 where
  pub long : length marks ≡ n
  pub below : (x : ℕ) → has x list ≡ true → x < n
  pub each : (x : ℕ) → marked marks x ≡ has x list

-- the first array whose elements the type stands for
abbrev pub array_at : List Kind → ℕ → ℕ
array_at table b = place_of (λ kind. is_base table b (element_of kind)) table

-- where a type stands among the numbered ones
abbrev pub number_in : List ℕ → ℕ → ℕ
number_in numbered t = place_of (λ u. u == t) numbered

-- the type of the branch of each value of a tag's enum; the empty type, where the value has none
abbrev pub type_at : List Branch → ℕ → ℕ → ℕ
type_at branches empty p = unwrap_or (branch_at branches p) empty

-- which types are listed, by the type that stands for each, and the numbers of those that are named by numbers
pub record IsNamed (p : Parts) (shown listed : List ℕ) (marks : List Bool) (numbers : List ℕ) : Type 0 where
  pub good : IsGood p
  pub begun : HasPrelude p
  pub shown_is : Tells (shown_of p.kinds) (length p.kinds) shown
  pub listed_is : listed ≡ listed_of p
  pub marks_are : IsMarked (length p.kinds) listed marks
  pub numbers_are : Tells (number_in (numbered_of p)) (length p.kinds) numbers
