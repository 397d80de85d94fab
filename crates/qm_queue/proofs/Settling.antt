-- The tree over the places of a list: one place told, one place more, and what its root tells.
use Rattle.std.proofs.Common.{◌≡◌, ◌≢◌, ℕ, ◌+◌, ◌-◌, ◌*◌, ◌/◌, ◌<◌, ◌≤◌, zero, suc, List, [], ◌∷◌, ◌++◌, length, IfSome, take, Option, Some, None, Bool, true, false, nat_eq, ◌&&◌, refl, ap, sym, ◌∙◌, subst, arith, length-append, ◌⊎◌, inl, inr}
use Rattle.std.proofs.{Math.ListN.set, Math.ListN.length-set, Math.Seq.take-append_seam, lemmas.Bool.cases_eq}
use Rattle.std.proofs.lemmas.{List.get_or-set_same, List.get_or-set_other, Bool.Decides.nat_tests}
use Rattle.std.specs.Option.{option_eq}
use Rattle.qm_queue.specs.Trees.{IsTree, IsTreeBut, IsNumbered, item_at, best_below}
use Rattle.qm_queue.specs.{Turns.earlier_of, Turns.waiting_in, declared.turns.TurnItem.TurnItem}
use Rattle.qm_queue.specs.Firsts.{Among, Leads, IsFirst}
use Rattle.qm_queue.proofs.Orders.{leads-self, earlier-left, earlier-right, earlier-is}

abbrev pub Items : Type 0
Items = List (Option TurnItem)

-- what a place tells does not change with a place that is not below it
same-below : (owns bests : Items) (place k : ℕ) (b : Option TurnItem) → 2 * k + 1 ≢ place → 2 * k + 2 ≢ place →
    best_below owns (set bests place b) k ≡ best_below owns bests k
same-below owns bests place k b left right =
    ap (λ (x : Option TurnItem). earlier_of (item_at owns k) (earlier_of x (item_at (set bests place b) (2 * k + 2)))) (get_or-set_other bests place (2 * k + 1) b None left)
    ∙ ap (λ (x : Option TurnItem). earlier_of (item_at owns k) (earlier_of (item_at bests (2 * k + 1)) x)) (get_or-set_other bests place (2 * k + 2) b None right)

-- a place is told, and each other place but the one above it stays
told : (owns bests : Items) (place k : ℕ) → IsTreeBut place owns bests → place < length bests → 2 * k + 1 ≢ place → 2 * k + 2 ≢ place →
    item_at (set bests place (best_below owns bests place)) k ≡ best_below owns (set bests place (best_below owns bests place)) k
told owns bests place k tree within left right =
    let b : Option TurnItem = best_below owns bests place in
    either (cases_eq k place) where
      either : (k ≡ place) ⊎ (k ≢ place) → item_at (set bests place (best_below owns bests place)) k ≡ best_below owns (set bests place (best_below owns bests place)) k
      either (inl e) =
          ap (λ (j : ℕ). item_at (set bests place (best_below owns bests place)) j) e
          ∙ get_or-set_same bests place (best_below owns bests place) None within
          ∙ ap (best_below owns bests) (sym e)
          ∙ sym (same-below owns bests place k (best_below owns bests place) left right)
      either (inr ne) =
          get_or-set_other bests place k (best_below owns bests place) None ne
          ∙ tree.each k ne
          ∙ sym (same-below owns bests place k (best_below owns bests place) left right)

pub told-below : (owns bests : Items) (place : ℕ) → IsTreeBut place owns bests → place < length bests → 0 < place →
    IsTreeBut ((place - 1) / 2) owns (set bests place (best_below owns bests place))
told-below owns bests place tree within below = record {
  same = length-set bests place (best_below owns bests place) ∙ tree.same;
  each = λ k ne. told owns bests place k tree within (omega arith) (omega arith);
}

pub told-first : (owns bests : Items) (place : ℕ) → IsTreeBut place owns bests → place < length bests → place ≡ 0 →
    IsTree owns (set bests place (best_below owns bests place))
told-first owns bests place tree within first = record {
  same = length-set bests place (best_below owns bests place) ∙ tree.same;
  each = λ k. told owns bests place k tree within (omega arith) (omega arith);
}

-- a place told already
pub told-already : (owns bests : Items) (place : ℕ) → IsTreeBut place owns bests → item_at bests place ≡ best_below owns bests place → IsTree owns bests
told-already owns bests place tree here = record { same = tree.same; each = λ k. either k (cases_eq k place) } where
  either : (k : ℕ) → (k ≡ place) ⊎ (k ≢ place) → item_at bests k ≡ best_below owns bests k
  either k (inl e) = subst (λ (j : ℕ). item_at bests j ≡ best_below owns bests j) (sym e) here
  either k (inr ne) = tree.each k ne

same-start : (x y : Option ℕ) → option_eq nat_eq x y ≡ true → x ≡ y
same-start None None h = refl
same-start None (Some n) h = absurd cc
same-start (Some m) None h = absurd cc
same-start (Some m) (Some n) h = (let e : m ≡ n = grind (arith, nat_tests) in ap (λ (k : ℕ). Some k) e)

-- items whose fields are equal
pub same-item : (x y : Option TurnItem) → option_eq (λ a b. nat_eq a.session b.session && option_eq nat_eq a.last_start b.last_start) x y ≡ true → x ≡ y
same-item None None h = refl
same-item None (Some b) h = absurd cc
same-item (Some a) None h = absurd cc
same-item (Some a) (Some b) h = (let parts = both (nat_eq a.session b.session) (option_eq nat_eq a.last_start b.last_start) h in
    let session : a.session ≡ b.session = equal a.session b.session parts.0 in
    let start : a.last_start ≡ b.last_start = same-start a.last_start b.last_start parts.1 in
    λ i. Some (record { session = session i; last_start = start i })) where
      both : (p q : Bool) → (p && q) ≡ true → (p ≡ true) × (q ≡ true)
      both true q h = (refl, h)
      both false q h = absurd cc

      equal : (m n : ℕ) → nat_eq m n ≡ true → m ≡ n
      equal m n h = grind (arith, nat_tests)

-- another item at a place
pub with-item : (owns bests : Items) (place : ℕ) (item : Option TurnItem) → IsTree owns bests → IsTreeBut place (set owns place item) bests
with-item owns bests place item tree = record {
  same = tree.same ∙ sym (length-set owns place item);
  each = λ k ne. tree.each k
      ∙ ap (λ (x : Option TurnItem). earlier_of x (earlier_of (item_at bests (2 * k + 1)) (item_at bests (2 * k + 2)))) (sym (get_or-set_other owns place k item None ne));
}

pub at-more : (xs : Items) (k : ℕ) → item_at (xs ++ None ∷ []) k ≡ item_at xs k
at-more [] zero = refl
at-more [] (suc k) = refl
at-more (x ∷ xs) zero = refl
at-more (x ∷ xs) (suc k) = at-more xs k

-- one place more, without an item
pub tree-more : (owns bests : Items) → IsTree owns bests → IsTree (owns ++ None ∷ []) (bests ++ None ∷ [])
tree-more owns bests tree = record {
  same = simp length-append (ap (λ (n : ℕ). n + 1) tree.same);
  each = λ k. at-more bests k ∙ tree.each k ∙ sym (below k);
} where
  below : (k : ℕ) → best_below (owns ++ None ∷ []) (bests ++ None ∷ []) k ≡ best_below owns bests k
  below k = rw (at-more owns k, at-more bests (2 * k + 1), at-more bests (2 * k + 2)) refl

pub numbered-more : (owns : Items) → IsNumbered owns → IsNumbered (owns ++ None ∷ [])
numbered-more owns is = record { each = λ k a h. is.each k a (sym (at-more owns k) ∙ h) }

pub some-inside : (xs : Items) (k : ℕ) (a : TurnItem) → item_at xs k ≡ Some a → k < length xs
some-inside [] k a h = absurd cc
some-inside (x ∷ xs) zero a h = omega arith
some-inside (x ∷ xs) (suc k) a h = omega (arith, some-inside xs k a h)

-- what leads below leads at the root
climb : (owns bests : Items) → IsTree owns bests → (n j : ℕ) (b : TurnItem) → j ≤ n → Leads (item_at bests j) b → Leads (item_at bests 0) b
climb owns bests tree n zero b low h = h
climb owns bests tree zero (suc j) b low h = absurd (omega (arith, low))
climb owns bests tree (suc n) (suc j) b low h =
    climb owns bests tree n (j / 2) b (omega (arith, low)) (subst (λ (o : Option TurnItem). Leads o b) (sym (tree.each (j / 2))) (either (cases_eq (2 * (j / 2)) j))) where
      either : (2 * (j / 2) ≡ j) ⊎ (2 * (j / 2) ≢ j) → Leads (best_below owns bests (j / 2)) b
      either (inl e) =
          earlier-right (item_at owns (j / 2)) _ b (earlier-left (item_at bests (2 * (j / 2) + 1)) (item_at bests (2 * (j / 2) + 2)) b
          (let is : suc j ≡ 2 * (j / 2) + 1 = omega (arith, e) in subst (λ (i : ℕ). Leads (item_at bests i) b) is h))
      either (inr ne) =
          earlier-right (item_at owns (j / 2)) _ b (earlier-right (item_at bests (2 * (j / 2) + 1)) (item_at bests (2 * (j / 2) + 2)) b
          (let is : suc j ≡ 2 * (j / 2) + 2 = omega (arith, ne) in subst (λ (i : ℕ). Leads (item_at bests i) b) is h))

-- a place with this item
pub record HasPlace (owns : Items) (a : TurnItem) : Type 0 where
  pub place : ℕ
  pub is : item_at owns place ≡ Some a

-- what a place tells is an item of its own or of a place below it
descend : (owns bests : Items) → IsTree owns bests → (n k : ℕ) (a : TurnItem) → length bests ≤ k + n → item_at bests k ≡ Some a → HasPlace owns a
descend owns bests tree zero k a high h = absurd (omega (arith, high, some-inside bests k a h))
descend owns bests tree (suc n) k a high h =
    own (earlier-is (item_at owns k) _ a (sym (tree.each k) ∙ h)) (descend owns bests tree n (2 * k + 1) a (omega (arith, high))) (descend owns bests tree n (2 * k + 2) a (omega (arith, high))) where
      two : (item_at bests (2 * k + 1) ≡ Some a) ⊎ (item_at bests (2 * k + 2) ≡ Some a) →
          (item_at bests (2 * k + 1) ≡ Some a → HasPlace owns a) → (item_at bests (2 * k + 2) ≡ Some a → HasPlace owns a) → HasPlace owns a
      two (inl e) left right = left e
      two (inr e) left right = right e

      own : (item_at owns k ≡ Some a) ⊎ (earlier_of (item_at bests (2 * k + 1)) (item_at bests (2 * k + 2)) ≡ Some a) →
          (item_at bests (2 * k + 1) ≡ Some a → HasPlace owns a) → (item_at bests (2 * k + 2) ≡ Some a → HasPlace owns a) → HasPlace owns a
      own (inl e) left right = record { place = k; is = e }
      own (inr e) left right = two (earlier-is (item_at bests (2 * k + 1)) (item_at bests (2 * k + 2)) a e) left right

pub among-waiting : (owns : Items) (k : ℕ) (a : TurnItem) → item_at owns k ≡ Some a → Among a (waiting_in owns)
among-waiting [] k a h = absurd cc
among-waiting (None ∷ owns) zero a h = absurd cc
among-waiting (Some x ∷ owns) zero a h = inl (let e : x ≡ a = cc in e)
among-waiting (None ∷ owns) (suc k) a h = among-waiting owns k a h
among-waiting (Some x ∷ owns) (suc k) a h = inr (among-waiting owns k a h)

pub place-of : (owns : Items) (a : TurnItem) → Among a (waiting_in owns) → HasPlace owns a
place-of [] a h = absurd h
place-of (None ∷ owns) a h = (let p = place-of owns a h in record { place = suc p.place; is = p.is })
place-of (Some x ∷ owns) a h = either h (place-of owns a) where
  either : (x ≡ a) ⊎ Among a (waiting_in owns) → (Among a (waiting_in owns) → HasPlace owns a) → HasPlace (Some x ∷ owns) a
  either (inl e) later = record { place = 0; is = ap (λ (y : TurnItem). Some y) e }
  either (inr h) later = (let p = later h in record { place = suc p.place; is = p.is })

-- the root tells the first of all items
pub root-first : (owns bests : Items) → IsTree owns bests → IsFirst (waiting_in owns) (item_at bests 0)
root-first owns bests tree = record {
  leads = λ b h. leading b (place-of owns b h);
  among = λ a h. standing a (descend owns bests tree (length bests) 0 a (omega arith) h);
} where
  leading : (b : TurnItem) → HasPlace owns b → Leads (item_at bests 0) b
  leading b p =
      climb owns bests tree p.place p.place b (omega arith)
      (subst (λ (o : Option TurnItem). Leads o b) (sym (tree.each p.place))
      (earlier-left (item_at owns p.place) _ b (subst (λ (o : Option TurnItem). Leads o b) (sym p.is) (leads-self b))))

  standing : (a : TurnItem) → HasPlace owns a → Among a (waiting_in owns)
  standing a p = among-waiting owns p.place a p.is

pub whole : (n : ℕ) (xs ys : Items) → n ≡ length xs → take n (xs ++ ys) ≡ xs
whole n xs ys e = rw e (take-append_seam xs ys)

-- another item at a place, of the session of that place
pub numbered-with : (owns : Items) (place : ℕ) (item : Option TurnItem) → place < length owns → IfSome item (λ a. a.session ≡ place + 1) → IsNumbered owns → IsNumbered (set owns place item)
numbered-with owns place item within here is = record { each = λ k a h. either k a (cases_eq k place) h } where
  known : (o : Option TurnItem) (a : TurnItem) → IfSome o (λ a. a.session ≡ place + 1) → o ≡ Some a → a.session ≡ place + 1
  known None a here e = absurd cc
  known (Some b) a here e = (let same : b ≡ a = cc in subst (λ (x : TurnItem). x.session ≡ place + 1) same here)

  either : (k : ℕ) (a : TurnItem) → (k ≡ place) ⊎ (k ≢ place) → item_at (set owns place item) k ≡ Some a → a.session ≡ k + 1
  either k a (inl e) h =
      let at : item ≡ Some a = sym (get_or-set_same owns place item None within) ∙ subst (λ (j : ℕ). item_at (set owns place item) j ≡ Some a) e h in
      known item a here at ∙ ap (λ (j : ℕ). j + 1) (sym e)
  either k a (inr ne) h = is.each k a (sym (get_or-set_other owns place k item None ne) ∙ h)
