-- Shapes of values by those of the values inside. This serves private functions.
use Rattle.std.specs.Prelude.{◌≡◌, ℕ, ◌+◌, Bool, ◌&&◌, List, [], ◌∷◌}
use Rattle.std.specs.List.{list_all}
use Rattle.qapi_tree.specs.declared.{shapes.Wanted.Wanted, table.Form.Form, table.Shape.Shape, table.ListRule.ListRule, table.DictRule.DictRule, tree.Tree.Tree, tree.Tree.TheOpen.Tree-F, tree.Tree.TheOpen.TreeMember-F, tree.Tree.TheFolds.fold-Tree, tree.TreeMember.TreeMember}
use Rattle.qapi_tree.specs.declared.tree.Tree.TheOpen as layer
use Rattle.qapi_tree.specs.Shapes.{rule_for, fits_rule, has_needed, takes_list, takes_dict, has_shape}

-- the sum of what is counted of each item
abbrev pub total : {A : Type 0} → (A → ℕ) → List A → ℕ
total count [] = 0
total count (x ∷ xs) = count x + total count xs

abbrev pub count_layer : Tree-F ℕ ℕ → ℕ
count_layer (layer.Tree-F.Flag b) = 1
count_layer (layer.Tree-F.Str text) = 1
count_layer (layer.Tree-F.List items) = total (λ n. n) items + 1
count_layer (layer.Tree-F.Dict members) = total (λ n. n) members + 1

abbrev pub count_member : TreeMember-F ℕ ℕ → ℕ
count_member m = m.tree

-- how many values a value has, itself among them
abbrev pub count_of : Tree → ℕ
count_of = fold-Tree ℕ ℕ count_layer count_member

abbrev pub items_count : List Tree → ℕ
items_count items = total count_of items

abbrev pub values_count : List TreeMember → ℕ
values_count members = total (λ m. count_of m.tree) members

-- how many values are still to be looked at
abbrev pub left_in : List Wanted → ℕ
left_in wanted = total (λ w. count_of w.tree.now) wanted

-- each value that is asked about has its shape
abbrev pub are_shaped : List Wanted → Bool
are_shaped wanted = list_all (λ w. has_shape w.tree.now w.shape) wanted

abbrev pub items_have : Shape → List Tree → Bool
items_have shape items = list_all (λ t. has_shape t shape) items

abbrev pub values_have : Shape → List TreeMember → Bool
values_have shape members = list_all (λ m. has_shape m.tree shape) members

abbrev pub has_needed_keys : Form → List TreeMember → Bool
has_needed_keys form members = has_needed (λ m. m.key) form members

abbrev pub member_fits : Form → TreeMember → Bool
member_fits form m = fits_rule (rule_for form m.key) (has_shape m.tree)

abbrev pub members_fit : Form → List TreeMember → Bool
members_fit form members = list_all (member_fits form) members

abbrev pub list_fits : ListRule → List Tree → Bool
list_fits rule items = takes_list has_shape rule items

abbrev pub dict_fits : DictRule → List TreeMember → Bool
dict_fits rule members = takes_dict (λ m. m.key) (λ m. has_shape m.tree) rule members

-- the values that are asked about, the new ones among them, all have their shapes exactly where
-- those before had and this holds; false says that it does not hold
abbrev pub Asks : Bool → Bool → Bool → Bool → Type 0
Asks answer new holds old = (answer && new) ≡ (holds && old)
