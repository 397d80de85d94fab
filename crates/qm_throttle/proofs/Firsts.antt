-- The earliest deadline.
use Rattle.std.proofs.Common.{◌≡◌, ℕ, ◌≤◌, ◌<◌, ◌==◌, true, false, cond, List, [], ◌∷◌, length, Option, Some, None, refl, ap, sym, ◌∙◌, subst, arith}
use Rattle.std.specs.{Cmp.ranks, Map.keys_of, List.Sorted.IsStrictlySortedBy}
use Rattle.std.specs.Ordering.{is_eq, is_gt, MatchOrdering, nat_cmp, ordering_then}
use Rattle.std.specs.declared.cmp.Ordering.{Ordering, TheVariants.Less, TheVariants.Equal, TheVariants.Greater}
use Rattle.std.proofs.lemmas.Bool.Decides.{nat_tests}
use Rattle.qm_throttle.specs.{Deadlines.due_order, Deadlines.has_due, Deadlines.ends_at, Deadlines.is_due, Deadlines.IsKept, Keys.key_order}
use Rattle.qm_throttle.specs.{Steps.window_at, Windows.lesser, Windows.due_in, declared.due.Due.Due, Keys.Key}
use Rattle.qm_throttle.specs.declared.window.Window.{Window}
use Rattle.qm_throttle.proofs.{Keeping.due_at, Keeping.none_at, Orders.IsInOrder, Orders.key_self, Orders.key_equal}
use Rattle.qm_throttle.proofs.Sorting.{in_order_from_sorted}

-- a window ends no sooner
abbrev NotBefore : ℕ → Option Window → Type 0
NotBefore n None = Unit {0}
NotBefore n (Some w) = n ≤ w.deadline

abbrev AtLeast : ℕ → Option ℕ → Type 0
AtLeast n None = Unit {0}
AtLeast n (Some m) = n ≤ m

in_tail : (n : ℕ) (w : Key × Window) (ws : List (Key × Window)) → IsInOrder (keys_of (w ∷ ws)) → ((q : Key) → NotBefore n (window_at q (w ∷ ws))) → (q : Key) → NotBefore n (window_at q ws)
in_tail n w ws order all q = either (key_order q w.0) refl (all q) where
  either : (r : Ordering) → key_order q w.0 ≡ r → NotBefore n (cond (is_eq r) (Some w.1) (window_at q ws)) → NotBefore n (window_at q ws)
  either Less is h = h
  either Equal is h = subst (NotBefore n) (sym (ap (λ (k : Key). window_at k ws) (key_equal q w.0 is) ∙ none_at w.0 ws order.0)) tt
  either Greater is h = h

at_head : (n : ℕ) (w : Key × Window) (ws : List (Key × Window)) → ((q : Key) → NotBefore n (window_at q (w ∷ ws))) → n ≤ w.1.deadline
at_head n w ws all = subst (λ (r : Ordering). NotBefore n (cond (is_eq r) (Some w.1) (window_at w.0 ws))) (key_self w.0) (all w.0)

lesser_at_least : (n m : ℕ) (o : Option ℕ) → n ≤ m → AtLeast n o → n ≤ lesser m o
lesser_at_least n m None h i = h
lesser_at_least n m (Some k) h i = omega (arith, h, i)

none_sooner : (n : ℕ) (ws : List (Key × Window)) → IsInOrder (keys_of ws) → ((q : Key) → NotBefore n (window_at q ws)) → AtLeast n (due_in ws)
none_sooner n [] order all = tt
none_sooner n (w ∷ ws) order all = lesser_at_least n w.1.deadline (due_in ws) (at_head n w ws all) (none_sooner n ws order.1 (in_tail n w ws order all))

lesser_is : (n m : ℕ) (o : Option ℕ) → m ≡ n → AtLeast n o → lesser m o ≡ n
lesser_is n m None h i = h
lesser_is n m (Some k) h i = omega (arith, h, i)

lesser_here : (n m : ℕ) (o : Option ℕ) → n ≤ m → o ≡ Some n → lesser m o ≡ n
lesser_here n m None h i = absurd cc
lesser_here n m (Some k) h i = let same : k ≡ n = cc in omega (arith, h, same)

least_is : (n : ℕ) (ws : List (Key × Window)) → IsInOrder (keys_of ws) → ((q : Key) → NotBefore n (window_at q ws)) → (k : Key) → ends_at n (window_at k ws) ≡ true → due_in ws ≡ Some n
least_is n [] order all k h = absurd cc
least_is n (w ∷ ws) order all k h = either (key_order k w.0) h (λ there. least_is n ws order.1 (in_tail n w ws order all) k there) where
  same : (a b : ℕ) → (a == b) ≡ true → a ≡ b
  same a b h = grind (arith, nat_tests)

  either : (r : Ordering) → ends_at n (cond (is_eq r) (Some w.1) (window_at k ws)) ≡ true → (ends_at n (window_at k ws) ≡ true → due_in ws ≡ Some n) → due_in (w ∷ ws) ≡ Some n
  either Less h more = ap (λ (m : ℕ). let o : Option ℕ = Some m in o) (lesser_here n w.1.deadline (due_in ws) (at_head n w ws all) (more h))
  either Equal h more =
      ap (λ (m : ℕ). let o : Option ℕ = Some m in o) (lesser_is n w.1.deadline (due_in ws) (same w.1.deadline n h) (none_sooner n ws order.1 (in_tail n w ws order all)))
  either Greater h more = ap (λ (m : ℕ). let o : Option ℕ = Some m in o) (lesser_here n w.1.deadline (due_in ws) (at_head n w ws all) (more h))

-- the first deadline is the earliest
pub first_due : (dues : List Due) (ws : List (Key × Window)) (d : Due) → IsKept dues ws → IsStrictlySortedBy key_order (keys_of ws) → has_due dues d ≡ true →
    ((q : Due) → has_due dues q ≡ true → is_gt (due_order d q) ≡ false) → due_in ws ≡ Some d.deadline
first_due dues ws d kept sorted there least = least_is d.deadline ws (in_order_from_sorted (keys_of ws) sorted) all d.key (sym (kept.dues d) ∙ there) where
  same : (n : ℕ) → (n == n) ≡ true
  same n = grind (arith, nat_tests)

  order : (a b : ℕ) (r k : Ordering) → MatchOrdering r (a < b) (a ≡ b) (b < a) → is_gt (ordering_then r k) ≡ false → a ≤ b
  order a b Less k h e = omega (arith, h)
  order a b Equal k h e = omega (arith, h)
  order a b Greater k h e = absurd cc

  either : (q : Key) (o : Option Window) → window_at q ws ≡ o → NotBefore d.deadline o
  either q None is = tt
  either q (Some w) is =
      let found : has_due dues (due_at w.deadline q) ≡ true = kept.dues (due_at w.deadline q) ∙ ap (ends_at w.deadline) is ∙ same w.deadline in
      order d.deadline w.deadline (nat_cmp d.deadline w.deadline) (key_order d.key q) (ranks d.deadline w.deadline) (least (due_at w.deadline q) found)

  all : (q : Key) → NotBefore d.deadline (window_at q ws)
  all q = either q (window_at q ws) refl

-- without a deadline no window is open
pub no_due : (dues : List Due) (ws : List (Key × Window)) → IsKept dues ws → length dues ≡ 0 → due_in ws ≡ None
no_due (d ∷ dues) ws kept none = absurd (omega (arith, none))
no_due [] [] kept none = refl
no_due [] (w ∷ ws) kept none =
    let found : is_due (w ∷ ws) (due_at w.1.deadline w.0) ≡ true = ap (λ (r : Ordering). ends_at w.1.deadline (cond (is_eq r) (Some w.1) (window_at w.0 ws))) (key_self w.0) ∙ same w.1.deadline in
    let lost : has_due [] (due_at w.1.deadline w.0) ≡ true = kept.dues (due_at w.1.deadline w.0) ∙ found in
    absurd cc
  where
    same : (n : ℕ) → (n == n) ≡ true
    same n = grind (arith, nat_tests)
