-- Deadlines beside their windows at a tick.
use Rattle.std.proofs.Common.{◌≡◌, ℕ, ◌+◌, ◌<◌, ◌==◌, nat_le, Bool, true, false, cond, ◌||◌, ◌&&◌, List, [], ◌∷◌, ◌++◌, Option, Some, None, refl, ap, sym, ◌∙◌, subst, arith}
use Rattle.std.specs.{BTreeMap.is_at, BTreeSet.BTreeSet, BTreeSet.contains, List.flat_map, List.Sorted.IsStrictlySortedBy, Map.keys_of}
use Rattle.std.specs.{Ordering.is_eq, declared.cmp.Ordering.Ordering}
use Rattle.std.specs.declared.cmp.Ordering.TheVariants.{Less, Equal, Greater}
use Rattle.std.proofs.lemmas.{Bool.Decides.nat_tests, List.Folds.list_any-append}
use Rattle.qm_throttle.specs.Deadlines.{due_order, has_due, is_listed, ends_at, has_come, next_due, next_of, next_at, Lasts, IsKept}
use Rattle.qm_throttle.specs.{Endings.opened_again, Keys.key_order, Keys.same_key, Steps.window_at, Steps.opens_again, Steps.ticked}
use Rattle.qm_throttle.specs.{declared.due.Due.Due, Keys.Key, declared.sent.Sent.Sent, declared.window.Window.Window}
use Rattle.qm_throttle.proofs.Keeping.{due_at, tied_at, none_at}
use Rattle.qm_throttle.proofs.{Orders.IsInOrder, Orders.key_back, Orders.key_equal, Orders.is_in, Sorting.in_order_from_sorted}

-- a window that opens where another with a kept event ends has this deadline
abbrev opens_until : ℕ → ℕ → ℕ → Option Sent → Bool
opens_until m d p None = false
opens_until m d p (Some e) = (m + p) == d

abbrev next_ends : ℕ → ℕ → Option Window → Bool
next_ends m d None = false
next_ends m d (Some w) = opens_until m d w.period w.kept

-- a window after a tick
abbrev reopened_of : ℕ → Window → Option Sent → Option Window
reopened_of m w None = None
reopened_of m w (Some e) = Some (opened_again m w)

abbrev ticked_of : ℕ → Option Window → Option Window
ticked_of m None = None
ticked_of m (Some w) = cond (nat_le w.deadline m) (reopened_of m w w.kept) (Some w)

or_false : (b : Bool) → (b || false) ≡ b
or_false true = refl
or_false false = refl

never : (b : Bool) → cond b false false ≡ false
never true = refl
never false = refl

listed_next : (m : ℕ) (k : Key) (o : Option Window) (q : Due) → is_listed (next_of m k o) q ≡ cond (same_key k q.key) (next_ends m q.deadline o) false
listed_next m k None q = sym (never (same_key k q.key))
listed_next m k (Some w) q = either w.kept where
  either : (kept : Option Sent) → is_listed (next_due m k w.period kept) q ≡ cond (same_key k q.key) (opens_until m q.deadline w.period kept) false
  either None = sym (never (same_key k q.key))
  either (Some e) = or_false (is_at (due_order (due_at (m + w.period) k)) q) ∙ tied_at (m + w.period) k q

absorbed : (i n : Bool) → (n || (i && n)) ≡ n
absorbed true true = refl
absorbed true false = refl
absorbed false true = refl
absorbed false false = refl

-- the next deadlines are those of the keys that are there and open again
listed_all : (m : ℕ) (ws : List (Key × Window)) (keys : List Key) (q : Due) → is_listed (flat_map (next_at m ws) keys) q ≡ (is_in q.key keys && next_ends m q.deadline (window_at q.key ws))
listed_all m ws [] q = refl
listed_all m ws (k ∷ keys) q =
    list_any-append (λ d. is_at (due_order d) q) (next_at m ws k) (flat_map (next_at m ws) keys)
    ∙ ap (λ (b : Bool). b || is_listed (flat_map (next_at m ws) keys) q) (listed_next m k (window_at k ws) q)
    ∙ ap (λ (b : Bool). cond (same_key k q.key) (next_ends m q.deadline (window_at k ws)) false || b) (listed_all m ws keys q)
    ∙ either (key_order k q.key) refl
  where
    apart : (r : Ordering) → key_order k q.key ≡ r → is_eq r ≡ false → (cond (is_eq r) (next_ends m q.deadline (window_at k ws)) false || (is_in q.key keys && next_ends m q.deadline (window_at q.key ws)))
        ≡ ((same_key q.key k || is_in q.key keys) && next_ends m q.deadline (window_at q.key ws))
    apart Less is h = sym (ap (λ (r : Ordering). (is_eq r || is_in q.key keys) && next_ends m q.deadline (window_at q.key ws)) (key_back k q.key Less is))
    apart Equal is h = absurd cc
    apart Greater is h = sym (ap (λ (r : Ordering). (is_eq r || is_in q.key keys) && next_ends m q.deadline (window_at q.key ws)) (key_back k q.key Greater is))

    either : (r : Ordering) → key_order k q.key ≡ r → (cond (is_eq r) (next_ends m q.deadline (window_at k ws)) false || (is_in q.key keys && next_ends m q.deadline (window_at q.key ws)))
        ≡ ((same_key q.key k || is_in q.key keys) && next_ends m q.deadline (window_at q.key ws))
    either Less is = apart Less is refl
    either Equal is =
        ap (λ (j : Key). next_ends m q.deadline (window_at j ws) || (is_in q.key keys && next_ends m q.deadline (window_at q.key ws))) (key_equal k q.key is)
        ∙ absorbed (is_in q.key keys) (next_ends m q.deadline (window_at q.key ws))
        ∙ sym (ap (λ (r : Ordering). (is_eq r || is_in q.key keys) && next_ends m q.deadline (window_at q.key ws)) (key_back k q.key Equal is))
    either Greater is = apart Greater is refl

-- the window of a key after a tick
at_ticked : (m : ℕ) (ws : List (Key × Window)) (q : Key) → IsInOrder (keys_of ws) → window_at q (flat_map (ticked m) ws) ≡ ticked_of m (window_at q ws)
at_ticked m [] q order = refl
at_ticked m (w ∷ ws) q order = either (nat_le w.1.deadline m) w.1.kept (key_order q w.0) refl refl refl (at_ticked m ws q order.1) where
  none : key_order q w.0 ≡ Equal → window_at q ws ≡ None
  none is = ap (λ (k : Key). window_at k ws) (key_equal q w.0 is) ∙ none_at w.0 ws order.0

  here : (b : Bool) (kept : Option Sent) → nat_le w.1.deadline m ≡ b → w.1.kept ≡ kept → ticked_of m (Some w.1) ≡ cond b (reopened_of m w.1 kept) (Some w.1)
  here b kept le is = ap (λ (b : Bool). cond b (reopened_of m w.1 w.1.kept) (Some w.1)) le ∙ ap (λ (o : Option Sent). cond b (reopened_of m w.1 o) (Some w.1)) is

  either : (b : Bool) (kept : Option Sent) (r : Ordering) → nat_le w.1.deadline m ≡ b → w.1.kept ≡ kept → key_order q w.0 ≡ r → window_at q (flat_map (ticked m) ws) ≡ ticked_of m (window_at q ws) →
      window_at q (cond b (opens_again m w kept) (w ∷ []) ++ flat_map (ticked m) ws) ≡ ticked_of m (cond (is_eq r) (Some w.1) (window_at q ws))
  either true None Less le kept is more = more
  either true None Equal le kept is more = more ∙ ap (ticked_of m) (none is) ∙ sym (here true None le kept)
  either true None Greater le kept is more = more
  either true (Some e) Less le kept is more = ap (λ (r : Ordering). cond (is_eq r) (Some (opened_again m w.1)) (window_at q (flat_map (ticked m) ws))) is ∙ more
  either true (Some e) Equal le kept is more = ap (λ (r : Ordering). cond (is_eq r) (Some (opened_again m w.1)) (window_at q (flat_map (ticked m) ws))) is ∙ sym (here true (Some e) le kept)
  either true (Some e) Greater le kept is more = ap (λ (r : Ordering). cond (is_eq r) (Some (opened_again m w.1)) (window_at q (flat_map (ticked m) ws))) is ∙ more
  either false kept Less le is_kept is more = ap (λ (r : Ordering). cond (is_eq r) (Some w.1) (window_at q (flat_map (ticked m) ws))) is ∙ more
  either false kept Equal le is_kept is more = ap (λ (r : Ordering). cond (is_eq r) (Some w.1) (window_at q (flat_map (ticked m) ws))) is ∙ sym (here false kept le is_kept)
  either false kept Greater le is_kept is more = ap (λ (r : Ordering). cond (is_eq r) (Some w.1) (window_at q (flat_map (ticked m) ws))) is ∙ more

closes : (m d a : ℕ) → nat_le a m ≡ true → cond (nat_le d m) false (a == d) ≡ false
closes m d a le = grind (arith, nat_tests)

stays : (m d a : ℕ) → nat_le a m ≡ false → cond (nat_le d m) false (a == d) ≡ (a == d)
stays m d a le = grind (arith, nat_tests)

opens : (m d a p : ℕ) → 0 < p → nat_le a m ≡ true → cond (nat_le d m) false (((m + p) == d) || (a == d)) ≡ ((m + p) == d)
opens m d a p lasts le = grind (arith, nat_tests)

apart_from : (m d a p : ℕ) → 0 < p → nat_le a m ≡ true → ((m + p) == d) ≡ true → (a == d) ≡ false
apart_from m d a p lasts le is = grind (arith, nat_tests)

-- the deadlines of a key after a tick
due_ticked : (m d : ℕ) (o : Option Window) → Lasts o → cond (nat_le d m) false ((has_come m o && next_ends m d o) || ends_at d o) ≡ ends_at d (ticked_of m o)
due_ticked m d None lasts = never (nat_le d m)
due_ticked m d (Some w) lasts = either (nat_le w.deadline m) w.kept refl where
  either : (b : Bool) (kept : Option Sent) → nat_le w.deadline m ≡ b → cond (nat_le d m) false ((b && opens_until m d w.period kept) || (w.deadline == d)) ≡ ends_at d (cond b (reopened_of m w kept) (Some w))
  either true None le = closes m d w.deadline le
  either true (Some e) le = opens m d w.deadline w.period lasts le
  either false kept le = stays m d w.deadline le

lasts_ticked : (m : ℕ) (o : Option Window) → Lasts o → Lasts (ticked_of m o)
lasts_ticked m None lasts = tt
lasts_ticked m (Some w) lasts = either (nat_le w.deadline m) w.kept where
  either : (b : Bool) (kept : Option Sent) → Lasts (cond b (reopened_of m w kept) (Some w))
  either true None = tt
  either true (Some e) = lasts
  either false kept = lasts

clash : (m d : ℕ) (o : Option Window) → Lasts o → (has_come m o && next_ends m d o) ≡ true → ends_at d o ≡ false
clash m d None lasts h = refl
clash m d (Some w) lasts h = either (nat_le w.deadline m) w.kept refl h where
  either : (b : Bool) (kept : Option Sent) → nat_le w.deadline m ≡ b → (b && opens_until m d w.period kept) ≡ true → (w.deadline == d) ≡ false
  either true None le h = absurd cc
  either true (Some e) le h = apart_from m d w.deadline w.period lasts le h
  either false kept le h = absurd cc

-- the keys of the windows that end, and the deadlines of those that open there
pub record IsPlan (m : ℕ) (ws : List (Key × Window)) (ended : BTreeSet Key) (nexts : List Due) : Type 0 where
  pub ends : (k : Key) → contains key_order ended k ≡ has_come m (window_at k ws)
  pub opens : nexts ≡ flat_map (next_at m ws) ended.keys

listed_plan : (m : ℕ) (ws : List (Key × Window)) (ended : BTreeSet Key) (nexts : List Due) → IsPlan m ws ended nexts → (q : Due) → is_listed nexts q ≡ (has_come m (window_at q.key ws) && next_ends m q.deadline (window_at q.key ws))
listed_plan m ws ended nexts plan q =
    ap (λ (l : List Due). is_listed l q) plan.opens ∙ listed_all m ws ended.keys q ∙ ap (λ (b : Bool). b && next_ends m q.deadline (window_at q.key ws)) (plan.ends q.key)

pub none_there : (m : ℕ) (dues : List Due) (ws : List (Key × Window)) (ended : BTreeSet Key) (nexts : List Due) → IsKept dues ws → IsPlan m ws ended nexts → (q : Due) → is_listed nexts q ≡ true → has_due dues q ≡ false
none_there m dues ws ended nexts kept plan q listed =
    kept.dues q ∙ clash m q.deadline (window_at q.key ws) (kept.lasting q.key) (sym (listed_plan m ws ended nexts plan q) ∙ listed)

pub kept_same : (dues more : List Due) (ws : List (Key × Window)) → IsKept dues ws → ((q : Due) → has_due more q ≡ has_due dues q) → IsKept more ws
kept_same dues more ws kept same = record { dues = λ q. same q ∙ kept.dues q; lasting = kept.lasting }

pub kept_ticked : (m : ℕ) (dues mid late : List Due) (ws new : List (Key × Window)) (ended : BTreeSet Key) (nexts : List Due) → IsKept dues ws → IsStrictlySortedBy key_order (keys_of ws) → IsPlan m ws ended nexts →
    ((q : Due) → has_due mid q ≡ (is_listed nexts q || has_due dues q)) → ((q : Due) → has_due late q ≡ cond (nat_le q.deadline m) false (has_due mid q)) → new ≡ flat_map (ticked m) ws → IsKept late new
kept_ticked m dues mid late ws new ended nexts kept sorted plan put taken is = record {
  dues = λ q. taken q
      ∙ ap (λ (b : Bool). cond (nat_le q.deadline m) false b)
      (put q ∙ ap (λ (b : Bool). b || has_due dues q) (listed_plan m ws ended nexts plan q) ∙ ap (λ (b : Bool). (has_come m (window_at q.key ws) && next_ends m q.deadline (window_at q.key ws)) || b) (kept.dues q))
      ∙ due_ticked m q.deadline (window_at q.key ws) (kept.lasting q.key)
      ∙ ap (ends_at q.deadline) (sym (at q.key));
  lasting = λ k. subst Lasts (sym (at k)) (lasts_ticked m (window_at k ws) (kept.lasting k));
} where
  at : (k : Key) → window_at k new ≡ ticked_of m (window_at k ws)
  at k = ap (window_at k) is ∙ at_ticked m ws k (in_order_from_sorted (keys_of ws) sorted)
