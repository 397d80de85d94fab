-- Items that stand in a tree or in a line, and the first of them all.
use Rattle.std.proofs.Common.{◌≡◌, ◌≢◌, ℕ, ◌+◌, ◌-◌, ◌<◌, false, List, [], ◌∷◌, ◌++◌, length, drop, slice_get, IfSome, Option, Some, None, refl, ap, sym, ◌∙◌, subst, arith, length-append, ◌⊎◌, inl, inr}
use Rattle.std.proofs.{Math.ListN.set, Math.ListN.length-set, lemmas.Bool.cases_eq}
use Rattle.std.proofs.lemmas.List.{get_or-set_same, get_or-set_other}
use native.Mathlib.Numerals.{unary_clauses}
use Rattle.qm_queue.specs.Firsts.{Among, Leads, IsFirst}
use Rattle.qm_queue.specs.Lines.{IsOrdered, MayFollow, IsParted, IsLive}
use Rattle.qm_queue.specs.Trees.{IsNumbered, item_at}
use Rattle.qm_queue.specs.{Turns.precedes, Turns.earlier_of, Turns.waiting_in, Turns.IsOpened, declared.turns.TurnItem.TurnItem}
use Rattle.qm_queue.proofs.Orders.{precedes-trans, precedes-self, earlier-left, earlier-right, earlier-is, among-left, among-right}
use Rattle.qm_queue.proofs.Settling.{Items, HasPlace, among-waiting, place-of, at-more, some-inside, numbered-with, numbered-more}

front-leads : (xs : List TurnItem) → IsOrdered xs → (b : TurnItem) → Among b xs → Leads (slice_get xs 0) b
front-leads [] o b h = h
front-leads (x ∷ []) o b (inl e) = subst (λ (y : TurnItem). precedes y x ≡ false) e (precedes-self x)
front-leads (x ∷ []) o b (inr h) = absurd h
front-leads (x ∷ y ∷ xs) o b (inl e) = subst (λ (z : TurnItem). precedes z x ≡ false) e (precedes-self x)
front-leads (x ∷ y ∷ xs) o b (inr h) = precedes-trans x y b o.0 (front-leads (y ∷ xs) o.1 b h)

front-among : (xs : List TurnItem) (a : TurnItem) → slice_get xs 0 ≡ Some a → Among a xs
front-among [] a h = absurd cc
front-among (x ∷ xs) a h = inl (let e : x ≡ a = cc in e)

-- the front of a line is its first
pub front_first : (xs : List TurnItem) → IsOrdered xs → IsFirst xs (slice_get xs 0)
front_first xs o = record { leads = front-leads xs o; among = front-among xs }

-- the last of a longer line is that of its rest
last-rest : (x y : TurnItem) (xs : List TurnItem) → slice_get (x ∷ y ∷ xs) (length (x ∷ y ∷ xs) - 1) ≡ slice_get (y ∷ xs) (length (y ∷ xs) - 1)
last-rest x y xs = simp unary_clauses refl

pub ordered_more : (xs : List TurnItem) (a : TurnItem) → IsOrdered xs → MayFollow xs a → IsOrdered (xs ++ a ∷ [])
ordered_more [] a o may = tt
ordered_more (x ∷ []) a o may = (may x refl, tt)
ordered_more (x ∷ y ∷ xs) a o may = (o.0, ordered_more (y ∷ xs) a o.1 (λ last e. may last (last-rest x y xs ∙ e)))

pub ordered_rest : (xs : List TurnItem) → IsOrdered xs → IsOrdered (drop 1 xs)
ordered_rest [] o = tt
ordered_rest (x ∷ []) o = tt
ordered_rest (x ∷ y ∷ xs) o = o.1

-- the first of the tree and of the line is the first of all
pub parted-first : (items tree : Items) (line : List TurnItem) (root front : Option TurnItem) → IsParted items tree line → IsLive items line →
    IsFirst (waiting_in tree) root → IsFirst line front → front ≡ slice_get line 0 → IsFirst (waiting_in items) (earlier_of root front)
parted-first items tree line root front parted live in-tree in-line e = record {
  leads = λ b h. leading b (place-of items b h);
  among = λ a h. standing a (earlier-is root front a h);
} where
  either : (b : TurnItem) (k : ℕ) → (item_at tree k ≡ Some b) ⊎ Among b line → Leads (earlier_of root front) b
  either b k (inl is) = earlier-left root front b (in-tree.leads b (among-waiting tree k b is))
  either b k (inr h) = earlier-right root front b (in-line.leads b h)

  leading : (b : TurnItem) → HasPlace items b → Leads (earlier_of root front) b
  leading b p = either b p.place (parted.each p.place b p.is)

  of-tree : (a : TurnItem) → HasPlace tree a → Among a (waiting_in items)
  of-tree a p = among-waiting items p.place a (parted.kept p.place a p.is)

  standing : (a : TurnItem) → (root ≡ Some a) ⊎ (front ≡ Some a) → Among a (waiting_in items)
  standing a (inl is) = of-tree a (place-of tree a (in-tree.among a is))
  standing a (inr is) = among-waiting items (a.session - 1) a (live a (sym e ∙ is))

pub first-opened : (items : Items) (first : Option TurnItem) → IsNumbered items → IsFirst (waiting_in items) first → IfSome first (λ a. IsOpened a.session items)
first-opened items None numbered is = tt
first-opened items (Some a) numbered is = opened (place-of items a (is.among a refl)) where
  opened : HasPlace items a → IsOpened a.session items
  opened p = (let at : a.session ≡ p.place + 1 = numbered.each p.place a p.is in
      record { counted = omega (arith, at); opened = omega (arith, at, some-inside items p.place a p.is) })

-- what stands at a place after one place was set
at-set : (xs : Items) (place k : ℕ) (x : Option TurnItem) (a : TurnItem) → place < length xs → item_at (set xs place x) k ≡ Some a →
    ((k ≡ place) × (x ≡ Some a)) ⊎ ((k ≢ place) × (item_at xs k ≡ Some a))
at-set xs place k x a within h = either (cases_eq k place) where
  either : (k ≡ place) ⊎ (k ≢ place) → ((k ≡ place) × (x ≡ Some a)) ⊎ ((k ≢ place) × (item_at xs k ≡ Some a))
  either (inl e) = inl (e, sym (get_or-set_same xs place x None within) ∙ subst (λ (j : ℕ). item_at (set xs place x) j ≡ Some a) e h)
  either (inr ne) = inr (ne, sym (get_or-set_other xs place k x None ne) ∙ h)

set-here : (xs : Items) (place k : ℕ) (x : Option TurnItem) (a : TurnItem) → place < length xs → k ≡ place → x ≡ Some a → item_at (set xs place x) k ≡ Some a
set-here xs place k x a within e is = ap (λ (j : ℕ). item_at (set xs place x) j) e ∙ get_or-set_same xs place x None within ∙ is

-- a place is given another item or none, in the tree too
pub parted-set : (items tree : Items) (line line' : List TurnItem) (place : ℕ) (x : Option TurnItem) → place < length items → IsParted items tree line →
    ((k : ℕ) (a : TurnItem) → item_at (set items place x) k ≡ Some a → Among a line → Among a line') →
    IsParted (set items place x) (set tree place x) line'
parted-set items tree line line' place x within parted more = record {
  same = length-set tree place x ∙ parted.same ∙ sym (length-set items place x);
  each = λ k a h. each k a h (at-set items place k x a within h);
  kept = λ k a h. kept k a (at-set tree place k x a in-tree h);
} where
  in-tree : place < length tree
  in-tree = omega (arith, within, parted.same)

  other : (k : ℕ) (a : TurnItem) → item_at (set items place x) k ≡ Some a → k ≢ place → (item_at tree k ≡ Some a) ⊎ Among a line →
      (item_at (set tree place x) k ≡ Some a) ⊎ Among a line'
  other k a h ne (inl is) = inl (get_or-set_other tree place k x None ne ∙ is)
  other k a h ne (inr in-line) = inr (more k a h in-line)

  each : (k : ℕ) (a : TurnItem) → item_at (set items place x) k ≡ Some a → ((k ≡ place) × (x ≡ Some a)) ⊎ ((k ≢ place) × (item_at items k ≡ Some a)) →
      (item_at (set tree place x) k ≡ Some a) ⊎ Among a line'
  each k a h (inl here) = inl (set-here tree place k x a in-tree here.0 here.1)
  each k a h (inr there) = other k a h there.0 (parted.each k a there.1)

  kept : (k : ℕ) (a : TurnItem) → ((k ≡ place) × (x ≡ Some a)) ⊎ ((k ≢ place) × (item_at tree k ≡ Some a)) → item_at (set items place x) k ≡ Some a
  kept k a (inl here) = set-here items place k x a within here.0 here.1
  kept k a (inr there) = get_or-set_other items place k x None there.0 ∙ parted.kept k a there.1

-- a place without an item is given one, which stands in the line
pub parted-line : (items tree : Items) (line : List TurnItem) (place : ℕ) (item : TurnItem) → place < length items → item_at items place ≡ None → IsParted items tree line →
    IsParted (set items place (Some item)) tree (line ++ item ∷ [])
parted-line items tree line place item within free parted = record {
  same = parted.same ∙ sym (length-set items place (Some item));
  each = λ k a h. each k a (at-set items place k (Some item) a within h);
  kept = λ k a h. get_or-set_other items place k (Some item) None (occupied k a (parted.kept k a h)) ∙ parted.kept k a h;
} where
  more : (k : ℕ) (a : TurnItem) → (item_at tree k ≡ Some a) ⊎ Among a line → (item_at tree k ≡ Some a) ⊎ Among a (line ++ item ∷ [])
  more k a (inl is) = inl is
  more k a (inr h) = inr (among-left a line (item ∷ []) h)

  each : (k : ℕ) (a : TurnItem) → ((k ≡ place) × (Some item ≡ Some a)) ⊎ ((k ≢ place) × (item_at items k ≡ Some a)) → (item_at tree k ≡ Some a) ⊎ Among a (line ++ item ∷ [])
  each k a (inl here) = inr (let e : item ≡ a = cc (here.1) in subst (λ (y : TurnItem). Among y (line ++ item ∷ [])) e (among-right item line (item ∷ []) (inl refl)))
  each k a (inr there) = more k a (parted.each k a there.1)

  occupied : (k : ℕ) (a : TurnItem) → item_at items k ≡ Some a → k ≢ place
  occupied k a h e = (let none : item_at items k ≡ None = ap (λ (j : ℕ). item_at items j) e ∙ free in absurd cc)

-- a place without an item is given one
pub live-set : (items : Items) (line : List TurnItem) (place : ℕ) (item : TurnItem) → item_at items place ≡ None → IsLive items line → IsLive (set items place (Some item)) line
live-set items line place item free live = λ a h. get_or-set_other items place (a.session - 1) (Some item) None (occupied a (live a h)) ∙ live a h where
  occupied : (a : TurnItem) → item_at items (a.session - 1) ≡ Some a → (a.session - 1) ≢ place
  occupied a h e = (let none : item_at items (a.session - 1) ≡ None = ap (λ (j : ℕ). item_at items j) e ∙ free in absurd cc)

pub live-line : (items : Items) (line : List TurnItem) (place : ℕ) (item : TurnItem) → place < length items → item_at items place ≡ None → item.session ≡ place + 1 →
    IsLive items line → IsLive (set items place (Some item)) (line ++ item ∷ [])
live-line items [] place item within free at live = λ a h. (let e : item ≡ a = cc in set-here items place (a.session - 1) (Some item) a within
    (let here : item.session - 1 ≡ place = omega (arith, at) in subst (λ (y : TurnItem). y.session - 1 ≡ place) e here) (ap (λ (y : TurnItem). Some y) e))
live-line items (x ∷ xs) place item within free at live = live-set items (x ∷ xs) place item free live

-- one place more, without an item
pub parted-more : (items tree : Items) (line : List TurnItem) → IsParted items tree line → IsParted (items ++ None ∷ []) (tree ++ None ∷ []) line
parted-more items tree line parted = record {
  same = simp length-append (ap (λ (n : ℕ). n + 1) parted.same);
  each = λ k a h. more k a (parted.each k a (sym (at-more items k) ∙ h));
  kept = λ k a h. at-more items k ∙ parted.kept k a (sym (at-more tree k) ∙ h);
} where
  more : (k : ℕ) (a : TurnItem) → (item_at tree k ≡ Some a) ⊎ Among a line → (item_at (tree ++ None ∷ []) k ≡ Some a) ⊎ Among a line
  more k a (inl is) = inl (at-more tree k ∙ is)
  more k a (inr h) = inr h

pub live-more : (items : Items) (line : List TurnItem) → IsLive items line → IsLive (items ++ None ∷ []) line
live-more items line live = λ a h. at-more items (a.session - 1) ∙ live a h

-- an item that no session has is none of the line that counts
pub stale_rest : (items : Items) (line : List TurnItem) (x : TurnItem) → slice_get line 0 ≡ Some x → ((k : ℕ) → item_at items k ≢ Some x) →
    (k : ℕ) (a : TurnItem) → item_at items k ≡ Some a → Among a line → Among a (drop 1 line)
stale_rest items [] x front gone k a h in-line = absurd in-line
stale_rest items (y ∷ ys) x front gone k a h (inl e) = absurd (let same : Some a ≡ Some x = sym (ap (λ (z : TurnItem). Some z) e) ∙ front in gone k (h ∙ same))
stale_rest items (y ∷ ys) x front gone k a h (inr in-line) = in-line

-- what a queue keeps: its items, the tree and the line
abbrev pub IsQueue : Items → Items → List TurnItem → Type 0
IsQueue items tree line = IsNumbered items × IsParted items tree line × IsLive items line

pub queue-first : (items tree : Items) (line : List TurnItem) (root front result : Option TurnItem) → IsQueue items tree line →
    IsFirst (waiting_in tree) root → IsFirst line front → front ≡ slice_get line 0 → result ≡ earlier_of root front → IsFirst (waiting_in items) result
queue-first items tree line root front result queue in-tree in-line e is = rw is (parted-first items tree line root front queue.1 queue.2 in-tree in-line e)

pub queue-line : (items tree : Items) (line : List TurnItem) (place : ℕ) (item : TurnItem) → place < length items → item_at items place ≡ None → item.session ≡ place + 1 →
    IsQueue items tree line → IsQueue (set items place (Some item)) tree (line ++ item ∷ [])
queue-line items tree line place item within free at queue = (
  numbered-with items place (Some item) within at queue.0,
  parted-line items tree line place item within free queue.1,
  live-line items line place item within free at queue.2,
)

pub queue-tree : (items tree : Items) (line : List TurnItem) (place : ℕ) (item : TurnItem) → place < length items → item_at items place ≡ None → item.session ≡ place + 1 →
    IsQueue items tree line → IsQueue (set items place (Some item)) (set tree place (Some item)) line
queue-tree items tree line place item within free at queue = (
  numbered-with items place (Some item) within at queue.0,
  parted-set items tree line line place (Some item) within queue.1 (λ k a h in-line. in-line),
  live-set items line place item free queue.2,
)

pub queue-without : (items tree : Items) (line line' : List TurnItem) (place : ℕ) → place < length items → IsQueue items tree line →
    ((k : ℕ) (a : TurnItem) → item_at (set items place None) k ≡ Some a → Among a line → Among a line') → IsLive (set items place None) line' →
    IsQueue (set items place None) (set tree place None) line'
queue-without items tree line line' place within queue kept live = (
  numbered-with items place None within tt queue.0,
  parted-set items tree line line' place None within queue.1 kept,
  live,
)

pub queue-more : (items tree : Items) (line : List TurnItem) → IsQueue items tree line → IsQueue (items ++ None ∷ []) (tree ++ None ∷ []) line
queue-more items tree line queue = (numbered-more items queue.0, parted-more items tree line queue.1, live-more items line queue.2)
