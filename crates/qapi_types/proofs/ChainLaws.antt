-- The search for what a thing leads to.
use Rattle.std.proofs.Common.{◌≡◌, ◌<◌, ◌≤◌, ◌+◌, ◌||◌, ◌⊎◌, ℕ, suc, nat_eq, Bool, true, false, List, [], ◌∷◌, ◌++◌, length, replicate, All, refl, sym, ap, ◌∙◌, subst, inl, inr, arith}
use Rattle.std.proofs.lemmas.List.{Folds.list_any-append, append-nil, length-append, length-replicate, get_or_past, Sums.count_by-le-length}
use Rattle.std.proofs.lemmas.{Bool.cases_lt, Bool.Decides.Decides-eqb, Grind.common_steps}
use Rattle.qapi_types.specs.Chains.{has, row_of, IsInside, Refers, Leads, by_one, and_one, marked, IsReachedFrom, Spread, spread_of, Spreads, IsSearch, IsSearchAfter, marks_in}

pub either : (a b : Bool) → (a || b) ≡ true → (a ≡ true) ⊎ (b ≡ true)
either true b h = inl refl
either false b h = inr h

pub left : (a b : Bool) → a ≡ true → (a || b) ≡ true
left true b h = refl
left false b h = cc

pub right : (a b : Bool) → b ≡ true → (a || b) ≡ true
right true b h = refl
right false b h = h

pub has-left : (n : ℕ) (xs ys : List ℕ) → has n xs ≡ true → has n (xs ++ ys) ≡ true
has-left n xs ys h = list_any-append (nat_eq n) xs ys ∙ left _ _ h

pub has-right : (n : ℕ) (xs ys : List ℕ) → has n ys ≡ true → has n (xs ++ ys) ≡ true
has-right n xs ys h = list_any-append (nat_eq n) xs ys ∙ right _ _ h

pub has-either : (n : ℕ) (xs ys : List ℕ) → has n (xs ++ ys) ≡ true → (has n xs ≡ true) ⊎ (has n ys ≡ true)
has-either n xs ys h = either (has n xs) (has n ys) (sym (list_any-append (nat_eq n) xs ys) ∙ h)

pub spreads-none : (s : Spread) → Spreads s [] s
spreads-none s = record { long = refl; kept = λ b h. h; given = λ b h. cc; only = λ b h. inl h; waits = λ b h. inl h; still = λ b h. h; follows = λ b h. inl h; even = refl }

pub spreads-more : (old mid new : Spread) (xs : List ℕ) (x : ℕ) → Spreads old xs mid → Spreads mid (x ∷ []) new → Spreads old (xs ++ x ∷ []) new
spreads-more old mid new xs x s t = record {
  long = t.long ∙ s.long;
  kept = λ b h. t.kept b (s.kept b h);
  given = λ b h. elim (has-either b xs (x ∷ []) h) [ inl p ↦ t.kept b (s.given b p) | inr p ↦ t.given b p ];
  only = λ b h. elim (t.only b h) [ inl p ↦ elim (s.only b p) [ inl q ↦ inl q | inr q ↦ inr (has-left b xs (x ∷ []) q) ] | inr p ↦ inr (has-right b xs (x ∷ []) p) ];
  waits = λ b h. elim (t.waits b h) [ inl p ↦ elim (s.waits b p) [ inl q ↦ inl q | inr q ↦ inr (t.still b q) ] | inr p ↦ inr p ];
  still = λ b h. t.still b (s.still b h);
  follows = λ b h. elim (t.follows b h) [ inl p ↦ elim (s.follows b p) [ inl q ↦ inl q | inr q ↦ inr (t.kept b q) ] | inr p ↦ inr p ];
  even = omega (arith, s.even, t.even);
}

-- what is marked stands in the list
pub marked-within : (marks : List Bool) (b : ℕ) → marked marks b ≡ true → b < length marks
marked-within marks b h = grind (arith, common_steps)

pub begins-search : (graph : List (List ℕ)) (from : ℕ) (marks : List Bool) (s : Spread) → length marks ≡ length graph → ((b : ℕ) → marked marks b ≡ false) → Spreads (spread_of marks []) (row_of graph from) s → IsSearch graph from s
begins-search graph from marks s long none t = record {
  long = t.long ∙ long;
  leads = λ b h. elim (t.only b h) [ inl p ↦ (let q = none b in cc) | inr p ↦ by_one p ];
  begun = λ b h. t.given b h;
  waiting = λ b h. elim (t.follows b h) [ inl p ↦ cc | inr p ↦ p ];
  closed = λ a b h r. elim (t.waits a h) [ inl p ↦ (let q = none a in cc) | inr p ↦ inl p ];
}

itself : (n : ℕ) → has n (n ∷ []) ≡ true
itself n = grind (arith, common_steps)

same-number : (a b : ℕ) → has a (b ∷ []) ≡ true → a ≡ b
same-number a b h = grind (arith, common_steps)

pub goes-on : (graph : List (List ℕ)) (from : ℕ) (marks : List Bool) (all rest : List ℕ) (a : ℕ) (new : Spread) → IsSearch graph from (spread_of marks all) → all ≡ rest ++ a ∷ [] → Spreads (spread_of marks rest) (row_of graph a) new → IsSearch graph from new
goes-on graph from marks all rest a new s e t =
    let here : marked marks a ≡ true = s.waiting a (subst (λ (l : List ℕ). has a l ≡ true) (sym e) (has-right a rest (a ∷ []) (itself a))) in
    record {
      long = t.long ∙ s.long;
      leads = λ b h. elim (t.only b h) [ inl p ↦ s.leads b p | inr p ↦ and_one (s.leads a here) p ];
      begun = λ b h. t.kept b (s.begun b h);
      waiting = λ b h. elim (t.follows b h) [ inl p ↦ t.kept b (s.waiting b (subst (λ (l : List ℕ). has b l ≡ true) (sym e) (has-left b rest (a ∷ []) p))) | inr p ↦ p ];
      closed = λ x y h r. elim (t.waits x h) [ inl p ↦ among x y (s.closed x y p r) r | inr p ↦ inl p ];
    }
  where
    among : (x y : ℕ) → (has x all ≡ true) ⊎ (marked marks y ≡ true) → Refers graph x y → (has x new.pending ≡ true) ⊎ (marked new.marks y ≡ true)
    among x y (inl p) r = elim (has-either x rest (a ∷ []) (subst (λ (l : List ℕ). has x l ≡ true) e p)) [ inl q ↦ inl (t.still x q) | inr q ↦ inr (t.given y (subst (λ (z : ℕ). has y (row_of graph z) ≡ true) (same-number x a q) r)) ]
    among x y (inr p) r = inr (t.kept y p)

pub ends-search : (graph : List (List ℕ)) (from : ℕ) (marks : List Bool) → IsSearch graph from (spread_of marks []) → IsReachedFrom graph from marks
ends-search graph from marks s = record { long = s.long; leads = s.leads; all = λ b l. found b l }
  where
    found : (b : ℕ) → Leads graph from b → marked marks b ≡ true
    found b (by_one r) = s.begun b r
    found b (and_one l r) = elim (s.closed _ b (found _ l) r) [ inl p ↦ cc | inr p ↦ p ]

pub none-marked : (n b : ℕ) → marked (replicate n false) b ≡ false
none-marked n b = grind (arith, common_steps)

pub row-inside : (graph : List (List ℕ)) (a n : ℕ) → IsInside graph → a < length graph → n ≡ length graph → All (λ b. b < n) (row_of graph a)
row-inside graph a n i l e = λ k d h. rw e (i a [] l k d h)

-- the same, as the code has them
pub begun_from : (graph : List (List ℕ)) (from : ℕ) (marks : List Bool) (pending row : List ℕ) (s : Spread) → marks ≡ replicate (length graph) false → pending ≡ [] → row ≡ row_of graph from → Spreads (spread_of marks pending) row s → IsSearch graph from s
begun_from graph from marks pending row s m p r t =
    begins-search graph from marks s (ap length m ∙ length-replicate (length graph) false) (λ b. ap (λ (l : List Bool). marked l b) m ∙ none-marked (length graph) b)
    (subst (λ (l : List ℕ). Spreads (spread_of marks l) (row_of graph from) s) p (subst (λ (l : List ℕ). Spreads (spread_of marks pending) l s) r t))

pub long_from : (graph : List (List ℕ)) (marks : List Bool) → marks ≡ replicate (length graph) false → length marks ≡ length graph
long_from graph marks m = ap length m ∙ length-replicate (length graph) false

pub inside_from : (graph : List (List ℕ)) (a : ℕ) (row : List ℕ) (marks : List Bool) → IsInside graph → a < length graph → row ≡ row_of graph a → length marks ≡ length graph → All (λ b. b < length marks) row
inside_from graph a row marks i l r e = λ k d h. (let P : List ℕ → Type 0 = λ l. All (λ b. b < length marks) l in subst P (sym r) (row-inside graph a (length marks) i l e) k d h)

pub waits_within : (graph : List (List ℕ)) (from a : ℕ) (marks : List Bool) (all rest : List ℕ) → IsSearch graph from (spread_of marks all) → all ≡ rest ++ a ∷ [] → a < length graph
waits_within graph from a marks all rest s e =
    let h = marked-within marks a (s.waiting a (subst (λ (l : List ℕ). has a l ≡ true) (sym e) (has-right a rest (a ∷ []) (itself a)))) in
    let l : length marks ≡ length graph = s.long in omega (arith, h, l)

pub on_from : (graph : List (List ℕ)) (from a : ℕ) (marks : List Bool) (all rest row : List ℕ) (new : Spread) → IsSearch graph from (spread_of marks all) → all ≡ rest ++ a ∷ [] → row ≡ row_of graph a → Spreads (spread_of marks rest) row new → IsSearch graph from new
on_from graph from a marks all rest row new s e r t = goes-on graph from marks all rest a new s e (subst (λ (l : List ℕ). Spreads (spread_of marks rest) l new) r t)

pub ended_from : (graph : List (List ℕ)) (from : ℕ) (marks : List Bool) (all rest : List ℕ) → IsSearch graph from (spread_of marks all) → all ≡ rest ++ [] → length rest ≡ 0 → IsReachedFrom graph from marks
ended_from graph from marks all rest s e n = ends-search graph from marks (subst (λ (l : List ℕ). IsSearch graph from (spread_of marks l)) (e ∙ append-nil rest ∙ empty rest n) s)
  where
    empty : (xs : List ℕ) → length xs ≡ 0 → xs ≡ []
    empty [] h = refl
    empty (x ∷ xs) h = absurd (omega arith)

-- what stands in a list of which all is below a number
pub has-below : (xs : List ℕ) (n b : ℕ) → All (λ c. c < n) xs → has b xs ≡ true → b < n
has-below [] n b h k = cc
has-below (x ∷ xs) n b h k = elim (either (nat_eq b x) (has b xs) k) [ inl e ↦ (let s : b ≡ x = (Decides-eqb b x).0 e in let l : x < n = h 0 0 (omega arith) in omega (arith, l, s)) | inr r ↦ has-below xs n b (λ i d q. h (suc i) d (omega (arith, q))) r ]

pub row-holds : (graph : List (List ℕ)) (a b : ℕ) → IsInside graph → Refers graph a b → b < length graph
row-holds graph a b i r = elim (cases_lt a (length graph)) [
  | inl l ↦ has-below (row_of graph a) (length graph) b (i a [] l) r
  | inr l ↦ (let past : row_of graph a ≡ [] = get_or_past graph a [] l in let k : has b [] ≡ true = subst (λ (l : List ℕ). has b l ≡ true) past r in cc)
]

-- the search with its turns
pub begun : (graph : List (List ℕ)) (from : ℕ) (marks : List Bool) (pending row : List ℕ) (s : Spread) → marks ≡ replicate (length graph) false → pending ≡ [] → row ≡ row_of graph from → Spreads (spread_of marks pending) row s → IsSearchAfter graph from 0 s
begun graph from marks pending row s m p r t = record {
  search = begun_from graph from marks pending row s m p r t;
  room = (let e : length s.pending + marks_in marks ≡ length pending + marks_in s.marks = t.even in let n : length pending ≡ 0 = ap length p in omega (arith, e, n));
}

pub on : (graph : List (List ℕ)) (from turns a : ℕ) (marks : List Bool) (all rest row : List ℕ) (new : Spread) → IsSearchAfter graph from turns (spread_of marks all) → all ≡ rest ++ a ∷ [] → row ≡ row_of graph a → Spreads (spread_of marks rest) row new → IsSearchAfter graph from (turns + 1) new
on graph from turns a marks all rest row new s e r t = record {
  search = on_from graph from a marks all rest row new s.search e r t;
  room =
      let v : length new.pending + marks_in marks ≡ length rest + marks_in new.marks = t.even in
      let l : length all ≡ length rest + 1 = ap length e ∙ length-append rest (a ∷ []) in
      let h : turns + length all ≤ marks_in marks = s.room in
      omega (arith, v, l, h);
}

-- after as many turns as there are things nothing is left to be followed
pub ended : (graph : List (List ℕ)) (from turns : ℕ) (marks : List Bool) (all : List ℕ) → IsSearchAfter graph from turns (spread_of marks all) → length graph ≤ turns → IsReachedFrom graph from marks
ended graph from turns marks all s l =
    let h : turns + length all ≤ marks_in marks = s.room in
    let c : marks_in marks ≤ length marks = count_by-le-length (λ b. b) marks in
    let g : length marks ≡ length graph = s.search.long in
    ended_from graph from marks all all s.search (sym (append-nil all)) (omega (arith, h, c, g, l))
