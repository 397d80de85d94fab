-- Windows that end, one after the other.
use Rattle.std.proofs.Common.{◌≡◌, ℕ, nat_le, Bool, true, false, cond, ◌||◌, List, [], ◌∷◌, ◌++◌, Option, Some, None, refl, ap, sym, ◌∙◌, subst}
use Rattle.std.specs.{BTreeMap.is_at, BTreeSet.BTreeSet, BTreeSet.contains, List.flat_map, List.Sorted.IsStrictlySortedBy}
use Rattle.std.specs.{Map.lookup, Map.keys_of, Map.remove_entry, Map.set_value, Option.option_to_list, Ordering.is_eq}
use Rattle.std.specs.declared.cmp.Ordering.{Ordering, TheVariants.Less, TheVariants.Equal, TheVariants.Greater}
use Rattle.std.proofs.lemmas.Map.Lookups.{btree_set_from_contains}
use Rattle.qm_throttle.specs.Deadlines.{has_come}
use Rattle.qm_throttle.specs.Endings.{opened_again, kept_of, opened_in, after_end, ended_in, ended_at}
use Rattle.qm_throttle.specs.Keys.{key_order, key_total, same_key}
use Rattle.qm_throttle.specs.{Steps.window_at, Steps.opens_again, Steps.ticked, Steps.sent_at, Keys.Key, declared.sent.Sent.Sent}
use Rattle.qm_throttle.specs.declared.window.Window.{Window}
use Rattle.qm_throttle.proofs.Orders.{IsBefore, IsInOrder, is_in, key_self, key_back, key_equal, none_before}
use Rattle.qm_throttle.proofs.Sorting.{in_order_from_sorted, sorted_from_in_order}

remove-none : (test : Key → Bool) (ws : List (Key × Window)) → lookup test ws ≡ None → remove_entry test ws ≡ ws
remove-none test [] h = refl
remove-none test (w ∷ ws) h = either (test w.0) h (remove-none test ws) where
  either : (b : Bool) → cond b (Some w.1) (lookup test ws) ≡ None → (lookup test ws ≡ None → remove_entry test ws ≡ ws) → cond b ws (w ∷ remove_entry test ws) ≡ w ∷ ws
  either true h more = absurd cc
  either false h more = ap (λ (l : List (Key × Window)). w ∷ l) (more h)

remove-set : (test : Key → Bool) (ws : List (Key × Window)) (v : Window) → remove_entry test (set_value test ws v) ≡ remove_entry test ws
remove-set test [] v = refl
remove-set test (w ∷ ws) v = either (test w.0) refl (remove-set test ws v) where
  either : (b : Bool) → test w.0 ≡ b → remove_entry test (set_value test ws v) ≡ remove_entry test ws →
      remove_entry test (cond b ((w.0, v) ∷ ws) (w ∷ set_value test ws v)) ≡ cond b ws (w ∷ remove_entry test ws)
  either true is more = ap (λ (b : Bool). cond b ws ((w.0, v) ∷ remove_entry test ws)) is
  either false is more = ap (λ (b : Bool). cond b (set_value test ws v) (w ∷ remove_entry test (set_value test ws v))) is ∙ ap (λ (l : List (Key × Window)). w ∷ l) more

-- a window in which nothing is kept is closed
pub closed : (m : ℕ) (k : Key) (ws : List (Key × Window)) (o : Option Window) → window_at k ws ≡ o → kept_of o ≡ [] → remove_entry (is_at (key_order k)) (opened_in m k ws o) ≡ ended_in m k ws o
closed m k ws None is none = remove-none (is_at (key_order k)) ws is
closed m k ws (Some w) is none = either w.kept none where
  either : (kept : Option Sent) → option_to_list kept ≡ [] → remove_entry (is_at (key_order k)) (set_value (is_at (key_order k)) ws (opened_again m w)) ≡ after_end m k ws w kept
  either None h = remove-set (is_at (key_order k)) ws (opened_again m w)
  either (Some e) h = absurd cc

-- one in which an event is kept opens again
pub reopens : (m : ℕ) (k : Key) (ws : List (Key × Window)) (o : Option Window) (e : Sent) → kept_of o ≡ e ∷ [] → opened_in m k ws o ≡ ended_in m k ws o
reopens m k ws None e kept = absurd cc
reopens m k ws (Some w) e kept = either w.kept kept where
  either : (kept : Option Sent) → option_to_list kept ≡ e ∷ [] → set_value (is_at (key_order k)) ws (opened_again m w) ≡ after_end m k ws w kept
  either None h = absurd cc
  either (Some f) h = refl

-- the windows after those of some keys ended
abbrev pub ended_all : ℕ → List Key → List (Key × Window) → List (Key × Window)
ended_all m [] ws = ws
ended_all m (k ∷ keys) ws = ended_all m keys (ended_at m k ws)

-- what was kept in them
abbrev pub sent_all : ℕ → List Key → List (Key × Window) → List Sent
sent_all m [] ws = []
sent_all m (k ∷ keys) ws = kept_of (window_at k ws) ++ sent_all m keys (ended_at m k ws)

-- the keys of the windows that end at a moment
abbrev pub ended_keys : ℕ → List (Key × Window) → List Key
ended_keys m [] = []
ended_keys m (w ∷ ws) = cond (nat_le w.1.deadline m) (w.0 ∷ ended_keys m ws) (ended_keys m ws)

after : (k j : Key) → key_order k j ≡ Less → same_key j k ≡ false
after k j less = ap is_eq (key_back k j Less less)

skip_end : (m : ℕ) (k : Key) (w : Key × Window) (ws : List (Key × Window)) (v : Window) (kept : Option Sent) → same_key k w.0 ≡ false → after_end m k (w ∷ ws) v kept ≡ w ∷ after_end m k ws v kept
skip_end m k w ws v None h = ap (λ (b : Bool). cond b ws (w ∷ remove_entry (is_at (key_order k)) ws)) h
skip_end m k w ws v (Some e) h = ap (λ (b : Bool). cond b ((w.0, opened_again m v) ∷ ws) (w ∷ set_value (is_at (key_order k)) ws (opened_again m v))) h

skip_one : (m : ℕ) (k : Key) (w : Key × Window) (ws : List (Key × Window)) → same_key k w.0 ≡ false → ended_at m k (w ∷ ws) ≡ w ∷ ended_at m k ws
skip_one m k w ws h = ap (λ (b : Bool). ended_in m k (w ∷ ws) (cond b (Some w.1) (window_at k ws))) h ∙ either (window_at k ws) where
  either : (o : Option Window) → ended_in m k (w ∷ ws) o ≡ w ∷ ended_in m k ws o
  either None = refl
  either (Some v) = skip_end m k w ws v v.kept h

skip_all : (m : ℕ) (keys : List Key) (w : Key × Window) (ws : List (Key × Window)) → IsBefore w.0 keys → ended_all m keys (w ∷ ws) ≡ w ∷ ended_all m keys ws
skip_all m [] w ws h = refl
skip_all m (k ∷ keys) w ws h = ap (ended_all m keys) (skip_one m k w ws (after w.0 k h.0)) ∙ skip_all m keys w (ended_at m k ws) h.1

skip_sent : (m : ℕ) (keys : List Key) (w : Key × Window) (ws : List (Key × Window)) → IsBefore w.0 keys → sent_all m keys (w ∷ ws) ≡ sent_all m keys ws
skip_sent m [] w ws h = refl
skip_sent m (k ∷ keys) w ws h =
    ap (λ (b : Bool). kept_of (cond b (Some w.1) (window_at k ws)) ++ sent_all m keys (ended_at m k (w ∷ ws))) (after w.0 k h.0)
    ∙ ap (λ (l : List Sent). kept_of (window_at k ws) ++ l) (ap (sent_all m keys) (skip_one m k w ws (after w.0 k h.0)) ∙ skip_sent m keys w (ended_at m k ws) h.1)

before_ended : (k : Key) (m : ℕ) (ws : List (Key × Window)) → IsBefore k (keys_of ws) → IsBefore k (ended_keys m ws)
before_ended k m [] h = tt
before_ended k m (w ∷ ws) h = either (nat_le w.1.deadline m) (before_ended k m ws h.1) where
  either : (b : Bool) → IsBefore k (ended_keys m ws) → IsBefore k (cond b (w.0 ∷ ended_keys m ws) (ended_keys m ws))
  either true more = (h.0, more)
  either false more = more

in_order_ended : (m : ℕ) (ws : List (Key × Window)) → IsInOrder (keys_of ws) → IsInOrder (ended_keys m ws)
in_order_ended m [] h = tt
in_order_ended m (w ∷ ws) h = either (nat_le w.1.deadline m) (in_order_ended m ws h.1) where
  either : (b : Bool) → IsInOrder (ended_keys m ws) → IsInOrder (cond b (w.0 ∷ ended_keys m ws) (ended_keys m ws))
  either true more = (before_ended w.0 m ws h.0, more)
  either false more = more

first_ends : (m : ℕ) (w : Key × Window) (ws : List (Key × Window)) → ended_at m w.0 (w ∷ ws) ≡ opens_again m w w.1.kept ++ ws
first_ends m w ws = ap (λ (r : Ordering). ended_in m w.0 (w ∷ ws) (cond (is_eq r) (Some w.1) (window_at w.0 ws))) (key_self w.0) ∙ either w.1.kept where
  either : (kept : Option Sent) → after_end m w.0 (w ∷ ws) w.1 kept ≡ opens_again m w kept ++ ws
  either None = ap (λ (r : Ordering). cond (is_eq r) ws (w ∷ remove_entry (is_at (key_order w.0)) ws)) (key_self w.0)
  either (Some e) = ap (λ (r : Ordering). cond (is_eq r) ((w.0, opened_again m w.1) ∷ ws) (w ∷ set_value (is_at (key_order w.0)) ws (opened_again m w.1))) (key_self w.0)

skip_opened : (m : ℕ) (keys : List Key) (w : Key × Window) (kept : Option Sent) (ws : List (Key × Window)) → IsBefore w.0 keys → ended_all m keys (opens_again m w kept ++ ws) ≡ opens_again m w kept ++ ended_all m keys ws
skip_opened m keys w None ws h = refl
skip_opened m keys w (Some e) ws h = skip_all m keys (w.0, opened_again m w.1) ws h

skip_opened_sent : (m : ℕ) (keys : List Key) (w : Key × Window) (kept : Option Sent) (ws : List (Key × Window)) → IsBefore w.0 keys → sent_all m keys (opens_again m w kept ++ ws) ≡ sent_all m keys ws
skip_opened_sent m keys w None ws h = refl
skip_opened_sent m keys w (Some e) ws h = skip_sent m keys (w.0, opened_again m w.1) ws h

all_end : (m : ℕ) (ws : List (Key × Window)) → IsInOrder (keys_of ws) → ended_all m (ended_keys m ws) ws ≡ flat_map (ticked m) ws
all_end m [] h = refl
all_end m (w ∷ ws) h = either (nat_le w.1.deadline m) (all_end m ws h.1) (before_ended w.0 m ws h.0) where
  either : (b : Bool) → ended_all m (ended_keys m ws) ws ≡ flat_map (ticked m) ws → IsBefore w.0 (ended_keys m ws) →
      ended_all m (cond b (w.0 ∷ ended_keys m ws) (ended_keys m ws)) (w ∷ ws) ≡ cond b (opens_again m w w.1.kept) (w ∷ []) ++ flat_map (ticked m) ws
  either true more before =
      ap (ended_all m (ended_keys m ws)) (first_ends m w ws) ∙ skip_opened m (ended_keys m ws) w w.1.kept ws before ∙ ap (λ (l : List (Key × Window)). opens_again m w w.1.kept ++ l) more
  either false more before = skip_all m (ended_keys m ws) w ws before ∙ ap (λ (l : List (Key × Window)). w ∷ l) more

all_send : (m : ℕ) (ws : List (Key × Window)) → IsInOrder (keys_of ws) → sent_all m (ended_keys m ws) ws ≡ flat_map (sent_at m) ws
all_send m [] h = refl
all_send m (w ∷ ws) h = either (nat_le w.1.deadline m) (all_send m ws h.1) (before_ended w.0 m ws h.0) where
  either : (b : Bool) → sent_all m (ended_keys m ws) ws ≡ flat_map (sent_at m) ws → IsBefore w.0 (ended_keys m ws) →
      sent_all m (cond b (w.0 ∷ ended_keys m ws) (ended_keys m ws)) (w ∷ ws) ≡ cond b (option_to_list w.1.kept) [] ++ flat_map (sent_at m) ws
  either true more before =
      ap (λ (r : Ordering). kept_of (cond (is_eq r) (Some w.1) (window_at w.0 ws)) ++ sent_all m (ended_keys m ws) (ended_at m w.0 (w ∷ ws))) (key_self w.0)
      ∙ ap (λ (l : List Sent). option_to_list w.1.kept ++ l) (ap (sent_all m (ended_keys m ws)) (first_ends m w ws) ∙ skip_opened_sent m (ended_keys m ws) w w.1.kept ws before ∙ more)
  either false more before = skip_sent m (ended_keys m ws) w ws before ∙ more

ends : (m : ℕ) (ws : List (Key × Window)) (q : Key) → IsInOrder (keys_of ws) → is_in q (ended_keys m ws) ≡ has_come m (window_at q ws)
ends m [] q h = refl
ends m (w ∷ ws) q h = either (nat_le w.1.deadline m) (key_order q w.0) refl refl (ends m ws q h.1) where
  none : key_order q w.0 ≡ Equal → is_in q (ended_keys m ws) ≡ false
  none is = none_before q (ended_keys m ws) (subst (λ (k : Key). IsBefore k (ended_keys m ws)) (sym (key_equal q w.0 is)) (before_ended w.0 m ws h.0))

  either : (b : Bool) (r : Ordering) → nat_le w.1.deadline m ≡ b → key_order q w.0 ≡ r → is_in q (ended_keys m ws) ≡ has_come m (window_at q ws) →
      is_in q (cond b (w.0 ∷ ended_keys m ws) (ended_keys m ws)) ≡ has_come m (cond (is_eq r) (Some w.1) (window_at q ws))
  either true Less le is more = ap (λ (r : Ordering). is_eq r || is_in q (ended_keys m ws)) is ∙ more
  either true Equal le is more = ap (λ (r : Ordering). is_eq r || is_in q (ended_keys m ws)) is ∙ sym le
  either true Greater le is more = ap (λ (r : Ordering). is_eq r || is_in q (ended_keys m ws)) is ∙ more
  either false Less le is more = more
  either false Equal le is more = none is ∙ sym le
  either false Greater le is more = more

-- keys in order that are those of the windows that end
keys_end : (m : ℕ) (ws : List (Key × Window)) (es : BTreeSet Key) → IsStrictlySortedBy key_order (keys_of ws) → IsStrictlySortedBy key_order es.keys →
    ((k : Key) → contains key_order es k ≡ has_come m (window_at k ws)) → es.keys ≡ ended_keys m ws
keys_end m ws es sorted_ws sorted_es are =
    let order : IsInOrder (keys_of ws) = in_order_from_sorted (keys_of ws) sorted_ws in
    btree_set_from_contains key_total es (record { keys = ended_keys m ws }) sorted_es (sorted_from_in_order (ended_keys m ws) (in_order_ended m ws order)) (λ q. are q ∙ sym (ends m ws q order)) key_equal

pub windows_end : (m : ℕ) (ws : List (Key × Window)) (es : BTreeSet Key) → IsStrictlySortedBy key_order (keys_of ws) → IsStrictlySortedBy key_order es.keys →
    ((k : Key) → contains key_order es k ≡ has_come m (window_at k ws)) → flat_map (ticked m) ws ≡ ended_all m es.keys ws
windows_end m ws es sorted_ws sorted_es are =
    sym (ap (λ (keys : List Key). ended_all m keys ws) (keys_end m ws es sorted_ws sorted_es are) ∙ all_end m ws (in_order_from_sorted (keys_of ws) sorted_ws))

pub events_sent : (m : ℕ) (ws : List (Key × Window)) (es : BTreeSet Key) → IsStrictlySortedBy key_order (keys_of ws) → IsStrictlySortedBy key_order es.keys →
    ((k : Key) → contains key_order es k ≡ has_come m (window_at k ws)) → flat_map (sent_at m) ws ≡ sent_all m es.keys ws
events_sent m ws es sorted_ws sorted_es are =
    sym (ap (λ (keys : List Key). sent_all m keys ws) (keys_end m ws es sorted_ws sorted_es are) ∙ all_send m ws (in_order_from_sorted (keys_of ws) sorted_ws))
