-- How many frames are still to be gone through.
use Rattle.std.proofs.Common.{◌≡◌, ◌+◌, ℕ, Bool, List, [], ◌∷◌, map, refl, ap, sym, ◌∙◌}
use Rattle.qapi_tree.specs.declared.tree.Tree.{Tree, TheVariants.rolls-Flag, TheVariants.rolls-Str, TheVariants.rolls-List, TheVariants.rolls-Dict}
use Rattle.qapi_tree.specs.declared.tree.Tree.TheVariants as trees
use Rattle.qapi_tree.specs.declared.tree.Tree.TheOpen as layer
use Rattle.qapi_tree.specs.declared.tree.{Tree.TheFolds.fold-TreeMember, Tree.TheFolds.fold-roll-Tree, Tree.TheFolds.fold-roll-TreeMember, TreeMember.TreeMember}
use Rattle.qapi_tree.specs.Asking.{total}
use Rattle.qapi_define.specs.Frames.{turns_layer, turns_member, turns_of, items_turns, members_turns}

mapped : {A B : Type 0} (count : B → ℕ) (same : A → ℕ) (f : A → B) → ((x : A) → count (f x) ≡ same x) → (xs : List A) → total count (map f xs) ≡ total same xs
mapped count same f e [] = refl
mapped count same f e (x ∷ xs) = rw (e x, mapped count same f e xs) refl

pub turns_flag : (b : Bool) → turns_of (trees.Flag b) ≡ 1
turns_flag b = ap turns_of (sym (rolls-Flag b)) ∙ fold-roll-Tree ℕ ℕ turns_layer turns_member (layer.Tree-F.Flag b)

pub turns_str : (text : List ℕ) → turns_of (trees.Str text) ≡ 1
turns_str text = ap turns_of (sym (rolls-Str text)) ∙ fold-roll-Tree ℕ ℕ turns_layer turns_member (layer.Tree-F.Str text)

pub turns_list : (items : List Tree) → turns_of (trees.List items) ≡ items_turns items + 1
turns_list items =
    ap turns_of (sym (rolls-List items)) ∙ fold-roll-Tree ℕ ℕ turns_layer turns_member (layer.Tree-F.List items)
    ∙ ap (λ (n : ℕ). n + 1) (mapped (λ n. n + 1) (λ t. turns_of t + 1) turns_of (λ t. refl) items)

counted : TreeMember → ℕ
counted m = fold-TreeMember ℕ ℕ turns_layer turns_member m

counted-is : (m : TreeMember) → counted m ≡ turns_of m.tree
unfolding counted
counted-is m = fold-roll-TreeMember ℕ ℕ turns_layer turns_member record { key = m.key; tree = m.tree }

pub turns_dict : (members : List TreeMember) → turns_of (trees.Dict members) ≡ members_turns members + 2
unfolding counted
turns_dict members =
    ap turns_of (sym (rolls-Dict members)) ∙ fold-roll-Tree ℕ ℕ turns_layer turns_member (layer.Tree-F.Dict members)
    ∙ ap (λ (n : ℕ). n + 2) (mapped (λ n. n) (λ m. turns_of m.tree) counted counted-is members)

pub listed : (t : Tree) (items now : List Tree) → t ≡ trees.List items → now ≡ items → turns_of t ≡ items_turns now + 1
listed t items now e f = ap turns_of e ∙ turns_list items ∙ ap (λ (l : List Tree). items_turns l + 1) (sym f)

pub membered : (t : Tree) (members now : List TreeMember) → t ≡ trees.Dict members → now ≡ members → turns_of t ≡ members_turns now + 2
membered t members now e f = ap turns_of e ∙ turns_dict members ∙ ap (λ (l : List TreeMember). members_turns l + 2) (sym f)
