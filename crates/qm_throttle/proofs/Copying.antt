-- Windows copied one after the other.
use Rattle.std.proofs.Common.{◌≡◌, ◌<◌, cond, List, [], ◌∷◌, ◌++◌, Some, None, refl, ap, sym, ◌∙◌, subst, append_assoc}
use Rattle.std.specs.{BTreeMap.insert_entry, List.Sorted.IsStrictlySortedBy, Map.keys_of, Ordering.is_eq, Ordering.match_ordering}
use Rattle.std.specs.declared.cmp.Ordering.{Ordering, TheVariants.Less, TheVariants.Greater}
use Rattle.qm_throttle.specs.{Deadlines.Lasts, Keys.key_order, Steps.window_at, Keys.Key, declared.window.Window.Window}
use Rattle.qm_throttle.proofs.{Orders.IsBefore, Orders.IsInOrder, Orders.key_self, Orders.key_back, Sorting.in_order_from_sorted}

less_at : (j : Key) (xs : List (Key × Window)) (k : Key) (w : Window) (rest : List (Key × Window)) → IsBefore j (keys_of (xs ++ (k, w) ∷ rest)) → key_order j k ≡ Less
less_at j [] k w rest h = h.0
less_at j (x ∷ xs) k w rest h = less_at j xs k w rest h.1

-- what stands before a window among windows in order
pub record IsNext (xs : List (Key × Window)) (k : Key) (w : Window) (rest : List (Key × Window)) : Type 0 where
  pub absent : window_at k xs ≡ None
  pub found : window_at k (xs ++ (k, w) ∷ rest) ≡ Some w
  pub put : insert_entry key_order xs k w ≡ xs ++ (k, w) ∷ []

next_in : (xs : List (Key × Window)) (k : Key) (w : Window) (rest : List (Key × Window)) → IsInOrder (keys_of (xs ++ (k, w) ∷ rest)) → IsNext xs k w rest
next_in [] k w rest order = record {
  absent = refl;
  found = ap (λ (r : Ordering). cond (is_eq r) (Some w) (window_at k rest)) (key_self k);
  put = refl;
}
next_in (x ∷ xs) k w rest order =
    let more = next_in xs k w rest order.1 in
    let after : key_order k x.0 ≡ Greater = key_back x.0 k Less (less_at x.0 xs k w rest order.0) in
    record {
      absent = ap (λ (r : Ordering). cond (is_eq r) (Some x.1) (window_at k xs)) after ∙ more.absent;
      found = ap (λ (r : Ordering). cond (is_eq r) (Some x.1) (window_at k (xs ++ (k, w) ∷ rest))) after ∙ more.found;
      put = ap (λ (r : Ordering). match_ordering r ((k, w) ∷ x ∷ xs) ((x.0, w) ∷ xs) (x ∷ insert_entry key_order xs k w)) after ∙ ap (λ (l : List (Key × Window)). x ∷ l) more.put;
    }

pub next_of_all : (all xs rest next : List (Key × Window)) (k : Key) (w : Window) → all ≡ xs ++ rest → rest ≡ (k, w) ∷ next → IsStrictlySortedBy key_order (keys_of all) → IsNext xs k w next
next_of_all all xs rest next k w is at sorted =
    next_in xs k w next (in_order_from_sorted (keys_of (xs ++ (k, w) ∷ next)) (subst (λ (l : List (Key × Window)). IsStrictlySortedBy key_order (keys_of l)) (is ∙ ap (λ (l : List (Key × Window)). xs ++ l) at) sorted))

pub one_copied : (all xs rest next : List (Key × Window)) (k : Key) (w : Window) → all ≡ xs ++ rest → rest ≡ (k, w) ∷ next → IsNext xs k w next → all ≡ insert_entry key_order xs k w ++ next
one_copied all xs rest next k w is at h =
    is ∙ ap (λ (l : List (Key × Window)). xs ++ l) at ∙ sym (append_assoc xs ((k, w) ∷ []) next) ∙ ap (λ (l : List (Key × Window)). l ++ next) (sym h.put)

pub copied_lasts : (all xs rest next : List (Key × Window)) (k : Key) (w : Window) → all ≡ xs ++ rest → rest ≡ (k, w) ∷ next → IsNext xs k w next → ((q : Key) → Lasts (window_at q all)) → 0 < w.period
copied_lasts all xs rest next k w is at h lasting =
    subst Lasts (ap (λ (l : List (Key × Window)). window_at k l) (is ∙ ap (λ (l : List (Key × Window)). xs ++ l) at) ∙ h.found) (lasting k)
