-- How many values are still to be looked at.
use Rattle.std.proofs.Common.{◌≡◌, ◌+◌, ◌<◌, ◌≤◌, drop, get_or, arith, suc, ℕ, List, [], ◌∷◌, ◌++◌, map, length, Result, Ok, Err, IfOk, refl, ap, sym, ◌∙◌}
use Rattle.std.proofs.Math.Seq.{drop-cons}
use Rattle.qapi_tree.specs.declared.tree.Tree.{Tree, TheVariants.rolls-Flag, TheVariants.rolls-Str, TheVariants.rolls-List, TheVariants.rolls-Dict}
use Rattle.qapi_tree.specs.declared.tree.Tree.TheVariants as trees
use Rattle.qapi_tree.specs.declared.tree.Tree.TheOpen as layer
use Rattle.qapi_tree.specs.declared.tree.{Tree.TheFolds.fold-TreeMember, Tree.TheFolds.fold-roll-Tree, Tree.TheFolds.fold-roll-TreeMember, TreeMember.TreeMember}
use Rattle.qapi_tree.specs.Asking.{total, count_layer, count_member, count_of, items_count, values_count}

pub pushed : {A : Type 0} (count : A → ℕ) (xs : List A) (x : A) → total count (xs ++ x ∷ []) ≡ total count xs + count x
pushed count [] x = omega arith
pushed count (y ∷ xs) x = let h = pushed count xs x in omega (arith, h)

pub count_next : {A : Type 0} (count : A → ℕ) (xs : List A) (i : ℕ) (x : A) → i < length xs → x ≡ get_or xs i x → total count (drop i xs) ≡ count x + total count (drop (i + 1) xs)
count_next count xs i x lt at =
    let next : suc i ≡ i + 1 = omega arith in
    ap (total count) (drop-cons xs i x lt ∙ ap (λ y. y ∷ drop (suc i) xs) (sym at) ∙ ap (λ (k : ℕ). x ∷ drop k xs) next)

mapped : {A B : Type 0} (count : B → ℕ) (same : A → ℕ) (f : A → B) → ((x : A) → count (f x) ≡ same x) → (xs : List A) → total count (map f xs) ≡ total same xs
mapped count same f e [] = refl
mapped count same f e (x ∷ xs) = rw (e x, mapped count same f e xs) refl

pub count_flag : (b : _) → count_of (trees.Flag b) ≡ 1
count_flag b = ap count_of (sym (rolls-Flag b)) ∙ fold-roll-Tree ℕ ℕ count_layer count_member (layer.Tree-F.Flag b)

pub count_str : (text : List ℕ) → count_of (trees.Str text) ≡ 1
count_str text = ap count_of (sym (rolls-Str text)) ∙ fold-roll-Tree ℕ ℕ count_layer count_member (layer.Tree-F.Str text)

counted : TreeMember → ℕ
counted m = fold-TreeMember ℕ ℕ count_layer count_member m

counted-is : (m : TreeMember) → counted m ≡ count_of m.tree
unfolding counted
counted-is m = fold-roll-TreeMember ℕ ℕ count_layer count_member record { key = m.key; tree = m.tree }

pub listed : (t : Tree) (items now : List Tree) → t ≡ trees.List items → now ≡ items → count_of t ≡ items_count now + 1
listed t items now e f = ap count_of e ∙ ap count_of (sym (rolls-List items)) ∙ fold-roll-Tree ℕ ℕ count_layer count_member (layer.Tree-F.List items) ∙ ap (λ (n : ℕ). n + 1) (mapped (λ n. n) count_of count_of (λ t. refl) items) ∙ ap (λ (l : List Tree). items_count l + 1) (sym f)

pub membered : (t : Tree) (members now : List TreeMember) → t ≡ trees.Dict members → now ≡ members → count_of t ≡ values_count now + 1
unfolding counted
membered t members now e f = ap count_of e ∙ ap count_of (sym (rolls-Dict members)) ∙ fold-roll-Tree ℕ ℕ count_layer count_member (layer.Tree-F.Dict members) ∙ ap (λ (n : ℕ). n + 1) (mapped (λ n. n) (λ m. count_of m.tree) counted counted-is members) ∙ ap (λ (l : List TreeMember). values_count l + 1) (sym f)

pub fewer : {A E : Type 0} (r : Result A E) (new old n m : ℕ) → IfOk r (λ x. new ≤ old + n) → m ≡ n + 1 → IfOk r (λ x. new < old + m)
fewer (Ok x) new old n m h e = omega (arith, h, e)
fewer (Err y) new old n m h e = tt
