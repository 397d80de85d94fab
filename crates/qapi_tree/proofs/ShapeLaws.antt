-- Shapes, layer by layer.
use Rattle.std.proofs.Common.{◌≡◌, ◌+◌, ◌<◌, drop, get_or, arith, suc, ℕ, Bool, true, false, not, ◌&&◌, ◌||◌, List, [], ◌∷◌, map, length, refl, ap, sym, ◌∙◌}
use Rattle.std.specs.{List.list_all, List.list_any, Str.bytes_eq}
use Rattle.std.proofs.{Math.Seq.drop-cons, lemmas.List.length-map, lemmas.List.Folds.list_all-map}
use Rattle.qapi_tree.specs.declared.{table.Form.Form, table.KeyRule.KeyRule, table.Shape.Shape, table.ListRule.ListRule, table.DictRule.DictRule, table.ShapeRule.ShapeRule, tree.Tree.Tree}
use Rattle.qapi_tree.specs.declared.table.ListRule.TheVariants as list
use Rattle.qapi_tree.specs.declared.table.DictRule.TheVariants as dict
use Rattle.qapi_tree.specs.declared.tree.Tree.TheVariants as trees
use Rattle.qapi_tree.specs.declared.tree.Tree.TheVariants.{rolls-Flag, rolls-Str, rolls-List, rolls-Dict}
use Rattle.qapi_tree.specs.declared.tree.Tree.TheOpen as layer
use Rattle.qapi_tree.specs.declared.tree.{Tree.TheFolds.fold-TreeMember, Tree.TheFolds.fold-roll-Tree, Tree.TheFolds.fold-roll-TreeMember, TreeMember.TreeMember}
use Rattle.qapi_tree.specs.{Asking.Asks, Asking.values_have, Asking.member_fits, Asking.members_fit, Asking.list_fits, Asking.dict_fits, Spelling.has_key}
use Rattle.qapi_tree.specs.Shapes.{key_in, is_needed, KeyAndShapes, rule_for, fits_rule, takes_text, takes_flag, takes_list, takes_dict, shape_layer, member_layer, has_shape}
use Rattle.qapi_tree.specs.Table.{name, keys, rule_of}

pub shape-Flag : (b : Bool) (s : Shape) → has_shape (trees.Flag b) s ≡ takes_flag (rule_of s).scalar
shape-Flag b s = ap (λ (f : Shape → Bool). f s) (ap has_shape (sym (rolls-Flag b)) ∙ fold-roll-Tree (Shape → Bool) KeyAndShapes shape_layer member_layer (layer.Tree-F.Flag b))

pub shape-Str : (text : List ℕ) (s : Shape) → has_shape (trees.Str text) s ≡ takes_text (rule_of s).scalar
shape-Str text s = ap (λ (f : Shape → Bool). f s) (ap has_shape (sym (rolls-Str text)) ∙ fold-roll-Tree (Shape → Bool) KeyAndShapes shape_layer member_layer (layer.Tree-F.Str text))

list-laid : (r : ListRule) (items : List Tree) → takes_list (λ (has : Shape → Bool). has) r (map has_shape items) ≡ list_fits r items
list-laid list.Never items = refl
list-laid (list.One shape) items = rw (length-map items has_shape, list_all-map (λ (has : Shape → Bool). has shape) has_shape items) refl
list-laid (list.Each shape) items = list_all-map (λ (has : Shape → Bool). has shape) has_shape items

pub shape-List : (items : List Tree) (s : Shape) → has_shape (trees.List items) s ≡ list_fits (rule_of s).list items
shape-List items s =
    ap (λ (f : Shape → Bool). f s) (ap has_shape (sym (rolls-List items)) ∙ fold-roll-Tree (Shape → Bool) KeyAndShapes shape_layer member_layer (layer.Tree-F.List items))
    ∙ list-laid (rule_of s).list items

laid : TreeMember → KeyAndShapes
laid m = fold-TreeMember (Shape → Bool) KeyAndShapes shape_layer member_layer m

laid-is : (m : TreeMember) → laid m ≡ record { key = m.key; has = has_shape m.tree }
unfolding laid
laid-is m = fold-roll-TreeMember (Shape → Bool) KeyAndShapes shape_layer member_layer record { key = m.key; tree = m.tree }

values-laid : (shape : Shape) (members : List TreeMember) → list_all (λ (m : KeyAndShapes). m.has shape) (map laid members) ≡ values_have shape members
values-laid shape [] = refl
values-laid shape (m ∷ members) = rw (laid-is m, values-laid shape members) refl

members-laid : (form : Form) (members : List TreeMember) → list_all (λ (m : KeyAndShapes). fits_rule (rule_for form m.key) m.has) (map laid members) ≡ members_fit form members
members-laid form [] = refl
members-laid form (m ∷ members) = rw (laid-is m, members-laid form members) refl

key-laid : (key : List ℕ) (members : List TreeMember) → list_any (λ (m : KeyAndShapes). bytes_eq m.key key) (map laid members) ≡ has_key members key
key-laid key [] = refl
key-laid key (m ∷ members) = rw (laid-is m, key-laid key members) refl

rules-laid : (rules : List KeyRule) (members : List TreeMember) →
    list_all (λ (r : KeyRule). not (is_needed r) || list_any (λ (m : KeyAndShapes). bytes_eq m.key (name (key_in r))) (map laid members)) rules ≡ list_all (λ (r : KeyRule). not (is_needed r) || has_key members (name (key_in r))) rules
rules-laid [] members = refl
rules-laid (r ∷ rules) members = rw (key-laid (name (key_in r)) members, rules-laid rules members) refl

dict-laid : (r : DictRule) (members : List TreeMember) → takes_dict (λ (m : KeyAndShapes). m.key) (λ (m : KeyAndShapes). m.has) r (map laid members) ≡ dict_fits r members
dict-laid dict.Never members = refl
dict-laid dict.Any members = refl
dict-laid (dict.Each shape) members = values-laid shape members
dict-laid (dict.Of form) members = rw (rules-laid (keys form) members, members-laid form members) refl
dict-laid (dict.OneOf form) members = rw (length-map members laid, members-laid form members) refl

pub shape-Dict : (members : List TreeMember) (s : Shape) → has_shape (trees.Dict members) s ≡ dict_fits (rule_of s).dict members
unfolding laid
shape-Dict members s =
    ap (λ (f : Shape → Bool). f s) (ap has_shape (sym (rolls-Dict members)) ∙ fold-roll-Tree (Shape → Bool) KeyAndShapes shape_layer member_layer (layer.Tree-F.Dict members))
    ∙ dict-laid (rule_of s).dict members

-- one more is asked
pub asked_more : (x rest old : Bool) → (rest && (x && old)) ≡ ((x && rest) && old)
asked_more true rest old = refl
asked_more false true old = refl
asked_more false false old = refl

-- one that does not hold
pub asked_false : (x rest old : Bool) → false ≡ (x && old) → ((x && rest) && old) ≡ false
asked_false true true old h = sym h
asked_false true false old h = refl
asked_false false rest old h = refl

pub asked_next : (form : Form) (members : List TreeMember) (i : ℕ) (x : TreeMember) (answer new pending whole : Bool) → i < length members → x ≡ get_or members i x → answer ≡ true →
    Asks answer new (member_fits form x) pending → (members_fit form (drop i members) && pending) ≡ whole → (members_fit form (drop (i + 1) members) && new) ≡ whole
asked_next form members i x answer new pending whole lt at held asks left =
    let taken : new ≡ (member_fits form x && pending) = ap (λ (b : Bool). b && new) (sym held) ∙ asks in
    let count : suc i ≡ i + 1 = omega arith in
    let first : drop i members ≡ x ∷ drop (i + 1) members = drop-cons members i x lt ∙ ap (λ (y : TreeMember). y ∷ drop (suc i) members) (sym at) ∙ ap (λ (k : ℕ). x ∷ drop k members) count in
    ap (λ (b : Bool). members_fit form (drop (i + 1) members) && b) taken
    ∙ asked_more (member_fits form x) (members_fit form (drop (i + 1) members)) pending
    ∙ ap (λ (l : List TreeMember). members_fit form l && pending) (sym first)
    ∙ left

pub shaped_list : (t : Tree) (items now : List Tree) (s : Shape) (r : ShapeRule) → t ≡ trees.List items → now ≡ items → r ≡ rule_of s → has_shape t s ≡ list_fits r.list now
shaped_list t items now s r e f g = ap (λ (t : Tree). has_shape t s) e ∙ shape-List items s ∙ ap (λ (q : ShapeRule). list_fits q.list items) (sym g) ∙ ap (list_fits r.list) (sym f)

pub shaped_dict : (t : Tree) (members now : List TreeMember) (s : Shape) (r : ShapeRule) → t ≡ trees.Dict members → now ≡ members → r ≡ rule_of s → has_shape t s ≡ dict_fits r.dict now
shaped_dict t members now s r e f g = ap (λ (t : Tree). has_shape t s) e ∙ shape-Dict members s ∙ ap (λ (q : ShapeRule). dict_fits q.dict members) (sym g) ∙ ap (dict_fits r.dict) (sym f)
