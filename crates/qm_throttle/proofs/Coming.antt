-- Deadlines that come at or before a moment.
use Rattle.std.proofs.Common.{◌≡◌, ℕ, ◌<◌, ◌==◌, nat_le, Bool, true, false, cond, ◌||◌, ◌&&◌, List, [], ◌∷◌, Option, Some, None, refl, ap, sym, ◌∙◌, subst, arith}
use Rattle.std.specs.{BTreeMap.is_at, Cmp.ranks, List.AllByRecursion, List.Sorted.IsStrictlySortedBy}
use Rattle.std.specs.{Ordering.is_eq, Ordering.MatchOrdering, Ordering.nat_cmp, Ordering.ordering_then, declared.cmp.Ordering.Ordering}
use Rattle.std.specs.declared.cmp.Ordering.TheVariants.{Less, Equal, Greater}
use Rattle.std.proofs.lemmas.{Bool.Decides.nat_tests, Map.Keys.sorted_head}
use Rattle.qm_throttle.specs.Deadlines.{due_order, has_due, key_comes, has_come, ends_at, IsKept}
use Rattle.qm_throttle.specs.{Keys.key_order, Steps.window_at, declared.due.Due.Due, Keys.Key, declared.window.Window.Window}
use Rattle.qm_throttle.proofs.{Keeping.due_at, Keeping.tied_at, Orders.key_self, Orders.key_back, Orders.key_equal}

not_before : (a b m : ℕ) (r k : Ordering) → MatchOrdering r (a < b) (a ≡ b) (b < a) → ordering_then r k ≡ Less → nat_le a m ≡ false → nat_le b m ≡ false
not_before a b m Less k h e late = grind (arith, nat_tests)
not_before a b m Equal k h e late = grind (arith, nat_tests)
not_before a b m Greater k h e late = absurd cc

-- none comes after one that does not
none_come : (m : ℕ) (d : Due) (dues : List Due) (k : Key) → nat_le d.deadline m ≡ false → AllByRecursion (λ x. due_order d x ≡ Less) dues → key_comes m dues k ≡ false
none_come m d [] k late h = refl
none_come m d (x ∷ dues) k late h =
    ap (λ (b : Bool). (b && is_at (key_order x.key) k) || key_comes m dues k) (not_before d.deadline x.deadline m (nat_cmp d.deadline x.deadline) (key_order d.key x.key) (ranks d.deadline x.deadline) h.0 late)
    ∙ none_come m d dues k late h.1

pub none_comes : (m : ℕ) (d : Due) (dues : List Due) (k : Key) → nat_le d.deadline m ≡ false → IsStrictlySortedBy due_order (d ∷ dues) → key_comes m (d ∷ dues) k ≡ false
none_comes m d dues k late sorted =
    ap (λ (b : Bool). (b && is_at (key_order d.key) k) || key_comes m dues k) late ∙ none_come m d dues k late (sorted_head due_order d dues sorted)

pub one_comes : (m : ℕ) (d : Due) (dues : List Due) (k : Key) (b c : Bool) → nat_le d.deadline m ≡ true → c ≡ cond (is_at (key_order d.key) k) true b → (b || key_comes m (d ∷ dues) k) ≡ (c || key_comes m dues k)
one_comes m d dues k b c come is =
    ap (λ (t : Bool). b || ((t && is_at (key_order d.key) k) || key_comes m dues k)) come ∙ turn b (is_at (key_order d.key) k) (key_comes m dues k) ∙ ap (λ (t : Bool). t || key_comes m dues k) (sym is) where
      turn : (b t e : Bool) → (b || (t || e)) ≡ (cond t true b || e)
      turn true true e = refl
      turn true false e = refl
      turn false true e = refl
      turn false false e = refl

-- a deadline is found where one of its key comes
comes_due : (m : ℕ) (all dues : List Due) (k : Key) (ws : List (Key × Window)) → IsKept all ws → ((d : Due) → has_due dues d ≡ true → has_due all d ≡ true) → key_comes m dues k ≡ true → has_come m (window_at k ws) ≡ true
comes_due m all [] k ws kept within h = absurd cc
comes_due m all (d ∷ dues) k ws kept within h = either (nat_le d.deadline m) (key_order d.key k) refl refl h (comes_due m all dues k ws kept (λ x in_rest. within x (or_true (is_at (due_order x) d) (has_due dues x) in_rest))) where
  or_true : (a b : Bool) → b ≡ true → (a || b) ≡ true
  or_true true b h = refl
  or_true false b h = h

  itself : has_due (d ∷ dues) d ≡ true
  itself = ap (λ (b : Bool). b || has_due dues d) (tied_at d.deadline d.key d ∙ ap (λ (r : Ordering). cond (is_eq r) (d.deadline == d.deadline) false) (key_self d.key) ∙ same d.deadline) where
    same : (n : ℕ) → (n == n) ≡ true
    same n = grind (arith, nat_tests)

  found : (o : Option Window) → ends_at d.deadline o ≡ true → nat_le d.deadline m ≡ true → has_come m o ≡ true
  found None e le = absurd cc
  found (Some w) e le = grind (arith, nat_tests)

  either : (b : Bool) (r : Ordering) → nat_le d.deadline m ≡ b → key_order d.key k ≡ r → ((b && is_eq r) || key_comes m dues k) ≡ true → (key_comes m dues k ≡ true → has_come m (window_at k ws) ≡ true) → has_come m (window_at k ws) ≡ true
  either true Less le is h more = more h
  either true Equal le is h more =
      subst (λ (j : Key). has_come m (window_at j ws) ≡ true) (key_equal d.key k is) (found (window_at d.key ws) (sym (kept.dues d) ∙ within d itself) le)
  either true Greater le is h more = more h
  either false Less le is h more = more h
  either false Equal le is h more = more h
  either false Greater le is h more = more h

due_comes : (m n : ℕ) (dues : List Due) (k : Key) → nat_le n m ≡ true → has_due dues (due_at n k) ≡ true → key_comes m dues k ≡ true
due_comes m n [] k le h = absurd cc
due_comes m n (d ∷ dues) k le h = either (n == d.deadline) (key_order k d.key) refl refl (sym (ap (λ (b : Bool). b || has_due dues (due_at n k)) (tied_at n k d)) ∙ h) (due_comes m n dues k le) where
  or_true : (a b : Bool) → b ≡ true → (a || b) ≡ true
  or_true true b h = refl
  or_true false b h = h

  late : (a b : ℕ) → (a == b) ≡ true → nat_le a m ≡ true → nat_le b m ≡ true
  late a b e le = grind (arith, nat_tests)

  either : (b : Bool) (r : Ordering) → (n == d.deadline) ≡ b → key_order k d.key ≡ r → (cond (is_eq r) b false || has_due dues (due_at n k)) ≡ true → (has_due dues (due_at n k) ≡ true → key_comes m dues k ≡ true) → key_comes m (d ∷ dues) k ≡ true
  either b Less at is h more = or_true (nat_le d.deadline m && is_at (key_order d.key) k) (key_comes m dues k) (more h)
  either true Equal at is h more =
      ap (λ (b : Bool). (b && is_at (key_order d.key) k) || key_comes m dues k) (late n d.deadline at le)
      ∙ ap (λ (r : Ordering). is_eq r || key_comes m dues k) (key_back k d.key Equal is)
  either false Equal at is h more = or_true (nat_le d.deadline m && is_at (key_order d.key) k) (key_comes m dues k) (more h)
  either b Greater at is h more = or_true (nat_le d.deadline m && is_at (key_order d.key) k) (key_comes m dues k) (more h)

from_both : (a b : Bool) → (a ≡ true → b ≡ true) → (b ≡ true → a ≡ true) → a ≡ b
from_both true b f g = sym (f refl)
from_both false true f g = g refl
from_both false false f g = refl

-- the keys whose deadlines come are those of the windows that end
pub comes_where_ends : (m : ℕ) (dues : List Due) (ws : List (Key × Window)) (k : Key) → IsKept dues ws → key_comes m dues k ≡ has_come m (window_at k ws)
comes_where_ends m dues ws k kept = from_both (key_comes m dues k) (has_come m (window_at k ws)) (comes_due m dues dues k ws kept (λ d h. h)) (back (window_at k ws) refl) where
  same : (n : ℕ) → (n == n) ≡ true
  same n = grind (arith, nat_tests)

  back : (o : Option Window) → window_at k ws ≡ o → has_come m o ≡ true → key_comes m dues k ≡ true
  back None is h = absurd cc
  back (Some w) is h = due_comes m w.deadline dues k h (kept.dues (due_at w.deadline k) ∙ ap (ends_at w.deadline) is ∙ same w.deadline)
