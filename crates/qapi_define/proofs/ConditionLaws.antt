-- Conditions, layer by layer.
use Rattle.std.proofs.Common.{◌≡◌, ℕ, Bool, true, false, not, ◌&&◌, ◌||◌, List, [], ◌∷◌, ◌++◌, map, Bor, refl, ap, sym, ◌∙◌}
use Rattle.std.specs.List.{list_all, list_any, IsFirstAndRest}
use Rattle.std.proofs.lemmas.List.Folds.{list_all-map}
use Rattle.qm_base.specs.Names.{is_named}
use Rattle.qapi_tree.specs.declared.tree.Tree.{Tree, TheVariants.rolls-Flag, TheVariants.rolls-Str, TheVariants.rolls-List, TheVariants.rolls-Dict}
use Rattle.qapi_tree.specs.declared.tree.Tree.TheVariants as trees
use Rattle.qapi_tree.specs.declared.tree.Tree.TheOpen as layer
use Rattle.qapi_tree.specs.declared.tree.{Tree.TheFolds.fold-TreeMember, Tree.TheFolds.fold-roll-Tree, Tree.TheFolds.fold-roll-TreeMember, TreeMember.TreeMember}
use Rattle.qapi_define.specs.declared.conditions.Frame.{Frame, TheVariants.Ask, TheVariants.All, TheVariants.Any, TheVariants.Not}
use Rattle.qapi_define.specs.Conditions.{is_all, is_any, Truth, KeyAndTruth, choice_in, truth_layer, member_layer, truth, holds}
use Rattle.qapi_define.specs.Frames.{through, answer, keyed, first_choice, choice_of}

pub truth-Flag : (defines : List (List ℕ)) (b : Bool) → truth defines (trees.Flag b) ≡ record { holds = false; each = [] }
truth-Flag defines b = ap (truth defines) (sym (rolls-Flag b)) ∙ fold-roll-Tree Truth KeyAndTruth (truth_layer defines) member_layer (layer.Tree-F.Flag b)

pub truth-Str : (defines : List (List ℕ)) (name : List ℕ) → truth defines (trees.Str name) ≡ record { holds = is_named defines name; each = [] }
truth-Str defines name = ap (truth defines) (sym (rolls-Str name)) ∙ fold-roll-Tree Truth KeyAndTruth (truth_layer defines) member_layer (layer.Tree-F.Str name)

listed : (defines : List (List ℕ)) (items : List Tree) → map (λ (t : Truth). t.holds) (map (truth defines) items) ≡ map (holds defines) items
listed defines [] = refl
listed defines (t ∷ items) = ap (λ (l : List Bool). holds defines t ∷ l) (listed defines items)

pub truth-List : (defines : List (List ℕ)) (items : List Tree) → truth defines (trees.List items) ≡ record { holds = false; each = map (holds defines) items }
truth-List defines items =
    ap (truth defines) (sym (rolls-List items)) ∙ fold-roll-Tree Truth KeyAndTruth (truth_layer defines) member_layer (layer.Tree-F.List items)
    ∙ (let f : List Bool → Truth = λ l. record { holds = false; each = l } in ap f (listed defines items))

laid : List (List ℕ) → TreeMember → KeyAndTruth
laid defines m = fold-TreeMember Truth KeyAndTruth (truth_layer defines) member_layer m

laid-is : (defines : List (List ℕ)) (m : TreeMember) → laid defines m ≡ keyed defines m
unfolding laid
laid-is defines m = fold-roll-TreeMember Truth KeyAndTruth (truth_layer defines) member_layer record { key = m.key; tree = m.tree }

keyed-all : (defines : List (List ℕ)) (members : List TreeMember) → map (laid defines) members ≡ map (keyed defines) members
keyed-all defines [] = refl
keyed-all defines (m ∷ members) = rw (laid-is defines m, keyed-all defines members) refl

pub truth-Dict : (defines : List (List ℕ)) (members : List TreeMember) → truth defines (trees.Dict members) ≡ record { holds = first_choice defines members; each = [] }
unfolding laid
truth-Dict defines members =
    ap (truth defines) (sym (rolls-Dict members)) ∙ fold-roll-Tree Truth KeyAndTruth (truth_layer defines) member_layer (layer.Tree-F.Dict members)
    ∙ (let f : List KeyAndTruth → Truth = λ l. record { holds = choice_in l; each = [] } in ap f (keyed-all defines members))

-- one frame more, innermost
pub answer_more : (defines : List (List ℕ)) (fs : List Frame) (f : Frame) (b : Bool) → answer defines (fs ++ f ∷ []) b ≡ answer defines fs (through defines f b)
answer_more defines [] f b = refl
answer_more defines (g ∷ fs) f b = ap (through defines g) (answer_more defines fs f b)

two_more : (d : List (List ℕ)) (old mid new : List Frame) (f g : Frame) (b : Bool) → mid ≡ old ++ f ∷ [] → new ≡ mid ++ g ∷ [] → answer d new b ≡ answer d old (through d f (through d g b))
two_more d old mid new f g b m n = ap (λ (l : List Frame). answer d l b) n ∙ answer_more d mid g b ∙ ap (λ (l : List Frame). answer d l (through d g b)) m ∙ answer_more d old f (through d g b)

pub all_more : (d : List (List ℕ)) (old mid new : List Frame) (first : Bor Tree) (rest : Bor (List Tree)) (trees : List Tree) (value : Bool) → value ≡ true → mid ≡ old ++ All rest ∷ [] → new ≡ mid ++ Ask first ∷ [] → IsFirstAndRest trees first.now rest.now → answer d new false ≡ answer d old (value && list_all (holds d) trees)
all_more d old mid new first rest trees value v m n s = two_more d old mid new (All rest) (Ask first) false m n ∙ ap (λ (l : List Tree). answer d old (list_all (holds d) l)) (sym s.0) ∙ ap (λ (b : Bool). answer d old (b && list_all (holds d) trees)) (sym v)

pub any_more : (d : List (List ℕ)) (old mid new : List Frame) (first : Bor Tree) (rest : Bor (List Tree)) (trees : List Tree) (value : Bool) → value ≡ false → mid ≡ old ++ Any rest ∷ [] → new ≡ mid ++ Ask first ∷ [] → IsFirstAndRest trees first.now rest.now → answer d new false ≡ answer d old (value || list_any (holds d) trees)
any_more d old mid new first rest trees value v m n s = two_more d old mid new (Any rest) (Ask first) false m n ∙ ap (λ (l : List Tree). answer d old (list_any (holds d) l)) (sym s.0) ∙ ap (λ (b : Bool). answer d old (b || list_any (holds d) trees)) (sym v)

pub not_more : (d : List (List ℕ)) (old mid new : List Frame) (tree : Bor Tree) → mid ≡ old ++ Not ∷ [] → new ≡ mid ++ Ask tree ∷ [] → answer d new false ≡ answer d old (not (holds d tree.now))
not_more d old mid new tree e n = two_more d old mid new Not (Ask tree) false e n

-- a member `all` or `any`, by the conditions of its list
pub all_chosen : (d : List (List ℕ)) (m : TreeMember) (trees : List Tree) → is_all m.key ≡ true → (truth d m.tree).each ≡ map (holds d) trees → list_all (holds d) trees ≡ choice_of d m
all_chosen d m trees k e = sym (rw (k, e) (list_all-map (λ (b : Bool). b) (holds d) trees))

pub any_chosen : (d : List (List ℕ)) (m : TreeMember) (trees : List Tree) → is_all m.key ≡ false → is_any m.key ≡ true → (truth d m.tree).each ≡ map (holds d) trees → list_any (holds d) trees ≡ choice_of d m
any_chosen d m trees j k e = sym (rw (j, k, e) (list_any-map (holds d) (λ (b : Bool). b) trees))
  where
    list_any-map : {X Y : Type 0} (f : X → Y) (p : Y → Bool) (xs : List X) → list_any p (map f xs) ≡ list_any (λ x. p (f x)) xs
    list_any-map f p [] = refl
    list_any-map f p (x ∷ xs) = ap (λ (b : Bool). p (f x) || b) (list_any-map f p xs)

pub listed_in : (d : List (List ℕ)) (tree : Tree) (items ts : List Tree) → tree ≡ trees.List items → ts ≡ items → (truth d tree).each ≡ map (holds d) ts
listed_in d tree items ts e s = ap (λ (x : Tree). (truth d x).each) e ∙ ap (λ (t : Truth). t.each) (truth-List d items) ∙ ap (map (holds d)) (sym s)

pub chosen_in : (d : List (List ℕ)) (tree : Tree) (members ms : List TreeMember) → tree ≡ trees.Dict members → ms ≡ members → first_choice d ms ≡ holds d tree
chosen_in d tree members ms e s = ap (first_choice d) s ∙ sym (ap (λ (t : Truth). t.holds) (truth-Dict d members)) ∙ ap (holds d) (sym e)
