-- Deadlines beside their windows.
use Rattle.std.proofs.Common.{◌≡◌, ℕ, ◌<◌, ◌==◌, Bool, true, false, cond, List, [], ◌∷◌, Option, Some, None, refl, ap, sym, ◌∙◌, subst, arith}
use Rattle.std.specs.{BTreeMap.is_at, BTreeMap.insert_entry, Map.keys_of, Map.set_value}
use Rattle.std.specs.Ordering.{is_eq, match_ordering, MatchOrdering, nat_cmp, ordering_then}
use Rattle.std.specs.declared.cmp.Ordering.{Ordering, TheVariants.Less, TheVariants.Equal, TheVariants.Greater}
use Rattle.std.specs.{Cmp.ranks, List.Sorted.IsStrictlySortedBy}
use Rattle.std.proofs.lemmas.Bool.Decides.{nat_tests}
use Rattle.qm_throttle.specs.Deadlines.{due_order, has_due, ends_at, is_due, Lasts, IsKept}
use Rattle.qm_throttle.specs.Keys.{key_order, same_key}
use Rattle.qm_throttle.specs.Steps.{Stepped, window_at, keeping, kept_in, kept_at, unkept, opened_by, behind, raised_among}
use Rattle.qm_throttle.specs.{declared.due.Due.Due, Keys.Key, declared.sent.Sent.Sent, declared.window.Window.Window}
use Rattle.qm_throttle.proofs.{Orders.IsBefore, Orders.IsInOrder, Orders.before_trans, Orders.key_equal, Sorting.in_order_from_sorted}

-- an event kept in a window changes no deadline and no period
abbrev IsLike : Option Window → Option Window → Type 0
IsLike o p = ((d : ℕ) → ends_at d o ≡ ends_at d p) × (Lasts p → Lasts o)

like_set : (k : Key) (e : Sent) (w : Window) (ws : List (Key × Window)) → window_at k ws ≡ Some w → (q : Key) → IsLike (window_at q (set_value (is_at (key_order k)) ws (keeping e w))) (window_at q ws)
like_set k e w [] at q = (λ d. refl, λ h. h)
like_set k e w (v ∷ ws) at q = either (is_eq (key_order k v.0)) (is_eq (key_order q v.0)) refl at (λ a. like_set k e w ws a q) where
  either : (b c : Bool) → is_eq (key_order q v.0) ≡ c → cond b (Some v.1) (window_at k ws) ≡ Some w → (window_at k ws ≡ Some w → IsLike (window_at q (set_value (is_at (key_order k)) ws (keeping e w))) (window_at q ws)) →
      IsLike (window_at q (cond b ((v.0, keeping e w) ∷ ws) (v ∷ set_value (is_at (key_order k)) ws (keeping e w)))) (cond c (Some v.1) (window_at q ws))
  either true true is at more =
      let same : v.1 ≡ w = cc in
      subst (λ (c : Bool). IsLike (cond c (Some (keeping e w)) (window_at q ws)) (Some v.1)) (sym is) (subst (λ (x : Window). IsLike (Some (keeping e w)) (Some x)) (sym same) (λ d. refl, λ h. h))
  either true false is at more = subst (λ (c : Bool). IsLike (cond c (Some (keeping e w)) (window_at q ws)) (window_at q ws)) (sym is) (λ d. refl, λ h. h)
  either false true is at more = subst (λ (c : Bool). IsLike (cond c (Some v.1) (window_at q (set_value (is_at (key_order k)) ws (keeping e w)))) (Some v.1)) (sym is) (λ d. refl, λ h. h)
  either false false is at more = subst (λ (c : Bool). IsLike (cond c (Some v.1) (window_at q (set_value (is_at (key_order k)) ws (keeping e w)))) (window_at q ws)) (sym is) (more at)

pub kept_keeping : (dues : List Due) (ws : List (Key × Window)) (k : Key) (e : Sent) → IsKept dues ws → IsKept dues (kept_at k e ws)
kept_keeping dues ws k e kept = either (window_at k ws) refl where
  either : (o : Option Window) → window_at k ws ≡ o → IsKept dues (kept_in k e ws o)
  either None is = kept
  either (Some w) is = record {
    dues = λ q. kept.dues q ∙ sym ((like_set k e w ws is q.key).0 q.deadline);
    lasting = λ q. (like_set k e w ws is q).1 (kept.lasting q);
  }

-- ties of deadlines
pub tied : (a b : ℕ) (r : Ordering) → is_eq (ordering_then (nat_cmp a b) r) ≡ cond (is_eq r) (a == b) false
tied a b r = either (nat_cmp a b) r (ranks a b) where
  either : (o r : Ordering) → MatchOrdering o (a < b) (a ≡ b) (b < a) → is_eq (ordering_then o r) ≡ cond (is_eq r) (a == b) false
  either Less Less h = refl
  either Less Equal h = grind (arith, nat_tests)
  either Less Greater h = refl
  either Equal Less h = refl
  either Equal Equal h = grind (arith, nat_tests)
  either Equal Greater h = refl
  either Greater Less h = refl
  either Greater Equal h = grind (arith, nat_tests)
  either Greater Greater h = refl

-- a deadline of a key
abbrev pub due_at : ℕ → Key → Due
due_at deadline key = record { deadline = deadline; key = key }

pub tied_at : (d : ℕ) (k : Key) (q : Due) → is_at (due_order (due_at d k)) q ≡ cond (same_key k q.key) (d == q.deadline) false
tied_at d k q = tied d q.deadline (key_order k q.key)

pub none_is_due : (ws : List (Key × Window)) (k : Key) (q : Due) → window_at k ws ≡ None → key_order k q.key ≡ Equal → is_due ws q ≡ false
none_is_due ws k q none is = ap (ends_at q.deadline) (ap (λ (j : Key). window_at j ws) (sym (key_equal k q.key is)) ∙ none)

-- a window that opened, and its deadline beside it
pub kept_opened : (dues more : List Due) (ws new : List (Key × Window)) (k : Key) (v : Window) → IsKept dues ws → window_at k ws ≡ None → 0 < v.period →
    ((q : Due) → has_due more q ≡ cond (is_at (due_order (due_at v.deadline k)) q) true (has_due dues q)) →
    ((q : Key) → window_at q new ≡ cond (is_at (key_order k) q) (Some v) (window_at q ws)) → IsKept more new
kept_opened dues more ws new k v kept none lasts put opened = record {
  dues = λ q. put q ∙ either q (key_order k q.key) refl ∙ sym (ap (ends_at q.deadline) (opened q.key));
  lasting = λ q. subst Lasts (sym (opened q)) (lasting (is_at (key_order k) q) (window_at q ws) (kept.lasting q));
} where
  either : (q : Due) (r : Ordering) → key_order k q.key ≡ r → cond (is_at (due_order (due_at v.deadline k)) q) true (has_due dues q) ≡ ends_at q.deadline (cond (is_eq r) (Some v) (window_at q.key ws))
  either q Less is =
      ap (λ (b : Bool). cond b true (has_due dues q)) (tied_at v.deadline k q ∙ ap (λ (r : Ordering). cond (is_eq r) (v.deadline == q.deadline) false) is) ∙ kept.dues q
  either q Equal is =
      ap (λ (b : Bool). cond b true (has_due dues q)) (tied_at v.deadline k q ∙ ap (λ (r : Ordering). cond (is_eq r) (v.deadline == q.deadline) false) is)
      ∙ ap (λ (b : Bool). cond (v.deadline == q.deadline) true b) (kept.dues q ∙ none_is_due ws k q none is) ∙ itself (v.deadline == q.deadline)
    where
      itself : (b : Bool) → cond b true false ≡ b
      itself true = refl
      itself false = refl
  either q Greater is =
      ap (λ (b : Bool). cond b true (has_due dues q)) (tied_at v.deadline k q ∙ ap (λ (r : Ordering). cond (is_eq r) (v.deadline == q.deadline) false) is) ∙ kept.dues q

  lasting : (b : Bool) (o : Option Window) → Lasts o → Lasts (cond b (Some v) o)
  lasting true o h = lasts
  lasting false o h = h

-- a deadline that was put in and taken out again
pub kept_back : (dues more back : List Due) (ws : List (Key × Window)) (k : Key) (d : ℕ) → IsKept dues ws → window_at k ws ≡ None →
    ((q : Due) → has_due more q ≡ cond (is_at (due_order (due_at d k)) q) true (has_due dues q)) →
    ((q : Due) → has_due back q ≡ cond (is_at (due_order (due_at d k)) q) false (has_due more q)) → IsKept back ws
kept_back dues more back ws k d kept none put taken = record {
  dues = λ q. taken q ∙ ap (λ (b : Bool). cond (is_at (due_order (due_at d k)) q) false b) (put q) ∙ either q (key_order k q.key) refl;
  lasting = kept.lasting;
} where
  either : (q : Due) (r : Ordering) → key_order k q.key ≡ r →
      cond (is_at (due_order (due_at d k)) q) false (cond (is_at (due_order (due_at d k)) q) true (has_due dues q)) ≡ is_due ws q
  either q Less is =
      ap (λ (b : Bool). cond b false (cond b true (has_due dues q))) (tied_at d k q ∙ ap (λ (r : Ordering). cond (is_eq r) (d == q.deadline) false) is) ∙ kept.dues q
  either q Equal is = here (is_at (due_order (due_at d k)) q) ∙ sym (none_is_due ws k q none is) where
    here : (b : Bool) → cond b false (cond b true (has_due dues q)) ≡ false
    here true = refl
    here false = kept.dues q ∙ none_is_due ws k q none is
  either q Greater is =
      ap (λ (b : Bool). cond b false (cond b true (has_due dues q))) (tied_at d k q ∙ ap (λ (r : Ordering). cond (is_eq r) (d == q.deadline) false) is) ∙ kept.dues q

-- an event of a key without a window is sent, and opens one
pub raised-sent : (p : ℕ) (k : Key) (e : Sent) (ws : List (Key × Window)) → window_at k ws ≡ None → raised_among p k e ws ≡ record { sent = e ∷ []; windows = insert_entry key_order ws k (opened_by p e) }
raised-sent p k e [] none = refl
raised-sent p k e (w ∷ ws) none = either (key_order k w.0) none (raised-sent p k e ws) where
  either : (r : Ordering) → cond (is_eq r) (Some w.1) (window_at k ws) ≡ None → (window_at k ws ≡ None → raised_among p k e ws ≡ record { sent = e ∷ []; windows = insert_entry key_order ws k (opened_by p e) }) →
      match_ordering r (record { sent = e ∷ []; windows = (k, opened_by p e) ∷ w ∷ ws }) (record { sent = []; windows = (w.0, keeping e w.1) ∷ ws }) (behind (w ∷ []) (raised_among p k e ws))
      ≡ record { sent = e ∷ []; windows = match_ordering r ((k, opened_by p e) ∷ w ∷ ws) ((w.0, opened_by p e) ∷ ws) (w ∷ insert_entry key_order ws k (opened_by p e)) }
  either Less none more = refl
  either Equal none more = absurd cc
  either Greater none more = ap (behind (w ∷ [])) (more none)

-- no window of a key that comes before all
pub none_at : (k : Key) (ws : List (Key × Window)) → IsBefore k (keys_of ws) → window_at k ws ≡ None
none_at k [] h = refl
none_at k (w ∷ ws) h = ap (λ (r : Ordering). cond (is_eq r) (Some w.1) (window_at k ws)) h.0 ∙ none_at k ws h.1

-- an event of a key with a window is kept in it
raised_kept : (p : ℕ) (k : Key) (e : Sent) (v : Window) (ws : List (Key × Window)) → IsInOrder (keys_of ws) → window_at k ws ≡ Some v →
    raised_among p k e ws ≡ record { sent = []; windows = set_value (is_at (key_order k)) ws (keeping e v) }
raised_kept p k e v [] order at = absurd cc
raised_kept p k e v (w ∷ ws) order at = either (key_order k w.0) refl at (raised_kept p k e v ws order.1) where
  either : (r : Ordering) → key_order k w.0 ≡ r → cond (is_eq r) (Some w.1) (window_at k ws) ≡ Some v →
      (window_at k ws ≡ Some v → raised_among p k e ws ≡ record { sent = []; windows = set_value (is_at (key_order k)) ws (keeping e v) }) →
      match_ordering r (record { sent = e ∷ []; windows = (k, opened_by p e) ∷ w ∷ ws }) (record { sent = []; windows = (w.0, keeping e w.1) ∷ ws }) (behind (w ∷ []) (raised_among p k e ws))
      ≡ record { sent = []; windows = cond (is_eq r) ((w.0, keeping e v) ∷ ws) (w ∷ set_value (is_at (key_order k)) ws (keeping e v)) }
  either Less is at more = let none : window_at k ws ≡ None = none_at k ws (before_trans k w.0 (keys_of ws) is order.0) in absurd cc
  either Equal is at more = let same : w.1 ≡ v = cc in ap (λ (x : Window). let s : Stepped = record { sent = []; windows = (w.0, keeping e x) ∷ ws } in s) same
  either Greater is at more = ap (behind (w ∷ [])) (more at)

pub raised-kept : (p : ℕ) (k : Key) (e : Sent) (ws : List (Key × Window)) → IsStrictlySortedBy key_order (keys_of ws) → unkept e (window_at k ws) ≡ None →
    raised_among p k e ws ≡ record { sent = []; windows = kept_at k e ws }
raised-kept p k e ws sorted none = either (window_at k ws) refl none where
  either : (o : Option Window) → window_at k ws ≡ o → unkept e o ≡ None → raised_among p k e ws ≡ record { sent = []; windows = kept_in k e ws o }
  either None is none = absurd cc
  either (Some v) is none = raised_kept p k e v ws (in_order_from_sorted (keys_of ws) sorted) is

-- an event that is given back found no window
pub given_back : (e f : Sent) (o : Option Window) → unkept e o ≡ Some f → (o ≡ None) × (e ≡ f)
given_back e f None h = (refl, cc)
given_back e f (Some w) h = absurd cc
