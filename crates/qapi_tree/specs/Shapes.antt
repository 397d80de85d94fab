-- Which values are of which shape (QAPI code generation guide, "Schema syntax").
use Rattle.std.specs.Prelude.{ℕ, ◌==◌, Bool, true, false, not, ◌&&◌, ◌||◌, List, length, Option, Some, None, find}
use Rattle.std.specs.{List.list_all, List.list_any, Str.bytes_eq}
use Rattle.qapi_tree.specs.declared.table.{Key.Key, Form.Form, Shape.Shape, KeyRule.KeyRule, KeyRule.TheVariants.Needed, KeyRule.TheVariants.Optional, ScalarRule.ScalarRule}
use Rattle.qapi_tree.specs.declared.table.ScalarRule.TheVariants as scalar
use Rattle.qapi_tree.specs.{declared.table.ListRule.ListRule, declared.table.DictRule.DictRule, declared.tree.Tree.Tree, declared.tree.Tree.TheOpen.Tree-F, declared.tree.Tree.TheOpen.TreeMember-F, declared.tree.Tree.TheFolds.fold-Tree, Table.name, Table.keys, Table.rule_of}
use Rattle.qapi_tree.specs.declared.table.ListRule.TheVariants as list
use Rattle.qapi_tree.specs.declared.table.DictRule.TheVariants as dict
use Rattle.qapi_tree.specs.declared.tree.Tree.TheOpen as layer

abbrev pub key_in : KeyRule → Key
key_in (Needed key shape) = key
key_in (Optional key shape) = key

abbrev pub shape_in : KeyRule → Shape
shape_in (Needed key shape) = shape
shape_in (Optional key shape) = shape

abbrev pub is_needed : KeyRule → Bool
is_needed (Needed key shape) = true
is_needed (Optional key shape) = false

-- the rule of a form for a key
abbrev pub rule_for : Form → List ℕ → Option KeyRule
rule_for form key = find (λ r. bytes_eq (name (key_in r)) key) (keys form)

-- a member, its value by the shapes that it has
pub record KeyAndShapes : Type 0 where
  pub key : List ℕ
  pub has : Shape → Bool

-- the value has the shape that the rule wants
abbrev pub fits_rule : Option KeyRule → (Shape → Bool) → Bool
fits_rule None has = false
fits_rule (Some r) has = has (shape_in r)

-- the keys that the form wants are there
abbrev pub has_needed : {M : Type 0} → (M → List ℕ) → Form → List M → Bool
has_needed key_of form members =
    list_all (λ r. not (is_needed r) || list_any (λ m. bytes_eq (key_of m) (name (key_in r))) members) (keys form)

abbrev pub takes_text : ScalarRule → Bool
takes_text scalar.Text = true
takes_text scalar.Flag = false
takes_text scalar.Never = false

abbrev pub takes_flag : ScalarRule → Bool
takes_flag scalar.Flag = true
takes_flag scalar.Text = false
takes_flag scalar.Never = false

-- items, by whether each has a shape
abbrev pub takes_list : {A : Type 0} → (A → Shape → Bool) → ListRule → List A → Bool
takes_list has list.Never items = false
takes_list has (list.One shape) items = (length items == 1) && list_all (λ x. has x shape) items
takes_list has (list.Each shape) items = list_all (λ x. has x shape) items

-- members, by their keys and whether the value of each has a shape
abbrev pub takes_dict : {M : Type 0} → (M → List ℕ) → (M → Shape → Bool) → DictRule → List M → Bool
takes_dict key_of has dict.Never members = false
takes_dict key_of has dict.Any members = true
takes_dict key_of has (dict.Each shape) members = list_all (λ m. has m shape) members
takes_dict key_of has (dict.Of form) members =
    has_needed key_of form members && list_all (λ m. fits_rule (rule_for form (key_of m)) (has m)) members
takes_dict key_of has (dict.OneOf form) members =
    (length members == 1) && list_all (λ m. fits_rule (rule_for form (key_of m)) (has m)) members

-- one layer, with the shapes of each inner value in its place
abbrev pub shape_layer : Tree-F (Shape → Bool) KeyAndShapes → Shape → Bool
shape_layer (layer.Tree-F.Flag b) s = takes_flag (rule_of s).scalar
shape_layer (layer.Tree-F.Str text) s = takes_text (rule_of s).scalar
shape_layer (layer.Tree-F.List items) s = takes_list (λ has. has) (rule_of s).list items
shape_layer (layer.Tree-F.Dict members) s = takes_dict (λ m. m.key) (λ m. m.has) (rule_of s).dict members

abbrev pub member_layer : TreeMember-F (Shape → Bool) KeyAndShapes → KeyAndShapes
member_layer m = record { key = m.key; has = m.tree }

-- the value has the shape
abbrev pub has_shape : Tree → Shape → Bool
has_shape = fold-Tree (Shape → Bool) KeyAndShapes shape_layer member_layer
