-- An event raised among windows in the order of their keys.
use Rattle.std.proofs.Common.{◌≡◌, ℕ, false, ◌||◌, List, [], ◌∷◌, ◌++◌, Option, Some, None, refl, ap, sym, ◌∙◌, subst, append-nil}
use Rattle.std.specs.{List.flat_map, Ordering.match_ordering, Ordering.is_eq, declared.cmp.Ordering.Ordering}
use Rattle.std.specs.declared.cmp.Ordering.TheVariants.{Less, Equal, Greater}
use Rattle.qm_throttle.specs.Keys.{key_order, same_key, with_key}
use Rattle.qm_throttle.specs.Steps.{Stepped, opened_by, keeping, behind, raised_among}
use Rattle.qm_throttle.specs.{Windows.Open, Windows.window_of, declared.sent.Sent.Sent, Keys.Key, declared.window.Window.Window}
use Rattle.qm_throttle.proofs.Orders.{IsBefore, IsInOrder, before_trans, is_in, key_back, key_equal, none_before}

-- the event is sent, and its window stands before others
abbrev in_front : ℕ → Key → Sent → List (Key × Window) → Stepped
in_front p i e ws = record { sent = e ∷ []; windows = (i, opened_by p e) ∷ ws }

apart_after : (k j : Key) → key_order k j ≡ Less → same_key j k ≡ false
apart_after k j less = ap is_eq (key_back k j Less less)

-- what is told of keys that do not change
pub same_after : (f g : Key → List (Key × Window)) (k : Key) (keys : List Key) → ((j : Key) → same_key j k ≡ false → g j ≡ f j) → IsBefore k keys → flat_map g keys ≡ flat_map f keys
same_after f g k [] same h = refl
same_after f g k (j ∷ keys) same h =
    ap (λ (l : List (Key × Window)). l ++ flat_map g keys) (same j (apart_after k j h.0)) ∙ ap (λ (l : List (Key × Window)). f j ++ l) (same_after f g k keys same h.1)

head_before : (p : ℕ) (i : Key) (e : Sent) (q : ℕ) (j : Key) (o : Option Open) (ws : List (Key × Window)) → key_order i j ≡ Less → raised_among p i e ws ≡ in_front p i e ws →
    raised_among p i e (window_of q j o ++ ws) ≡ in_front p i e (window_of q j o ++ ws)
head_before p i e q j None ws less h = h
head_before p i e q j (Some w) ws less h =
    let head : Key × Window = (j, record { period = q; deadline = w.deadline; kept = w.kept }) in
    ap (λ (r : Ordering). match_ordering r (in_front p i e (head ∷ ws)) (record { sent = []; windows = (head.0, keeping e head.1) ∷ ws }) (behind (head ∷ []) (raised_among p i e ws))) less

put_before : (p : ℕ) (i : Key) (e : Sent) (q : Key → ℕ) (g : Key → Option Open) (keys : List Key) → IsBefore i keys →
    raised_among p i e (flat_map (λ k. window_of (q k) k (g k)) keys) ≡ in_front p i e (flat_map (λ k. window_of (q k) k (g k)) keys)
put_before p i e q g [] h = refl
put_before p i e q g (j ∷ keys) h = head_before p i e (q j) j (g j) (flat_map (λ k. window_of (q k) k (g k)) keys) h.0 (put_before p i e q g keys h.1)

head_after : (p : ℕ) (i : Key) (e : Sent) (q : ℕ) (j : Key) (o : Option Open) (ws : List (Key × Window)) → key_order i j ≡ Greater →
    raised_among p i e (window_of q j o ++ ws) ≡ behind (window_of q j o) (raised_among p i e ws)
head_after p i e q j None ws greater = refl
head_after p i e q j (Some w) ws greater =
    let head : Key × Window = (j, record { period = q; deadline = w.deadline; kept = w.kept }) in
    ap (λ (r : Ordering). match_ordering r (in_front p i e (head ∷ ws)) (record { sent = []; windows = (head.0, keeping e head.1) ∷ ws }) (behind (head ∷ []) (raised_among p i e ws))) greater

-- what was raised among some windows, and then others
abbrev ahead : Stepped → List (Key × Window) → Stepped
ahead s ws = record { sent = s.sent; windows = s.windows ++ ws }

head_at : (p : ℕ) (i : Key) (e : Sent) (q : ℕ) (j : Key) (o : Option Open) (ws : List (Key × Window)) → key_order i j ≡ Equal → raised_among p i e ws ≡ in_front p i e ws →
    raised_among p i e (window_of q j o ++ ws) ≡ ahead (raised_among p i e (window_of q j o)) ws
head_at p i e q j None ws equal h = h
head_at p i e q j (Some w) ws equal h =
    let head : Key × Window = (j, record { period = q; deadline = w.deadline; kept = w.kept }) in
    ap (λ (r : Ordering). match_ordering r (in_front p i e (head ∷ ws)) (record { sent = []; windows = (head.0, keeping e head.1) ∷ ws }) (behind (head ∷ []) (raised_among p i e ws))) equal
    ∙ sym (ap (λ (r : Ordering). ahead (match_ordering r (in_front p i e (head ∷ [])) (record { sent = []; windows = (head.0, keeping e head.1) ∷ [] }) (behind (head ∷ []) (raised_among p i e []))) ws) equal)

-- the windows g of the keys become h, which differs at the key of the event alone
pub record IsRaised (p : ℕ) (i : Key) (e : Sent) (q : Key → ℕ) (g : Key → Option Open) (h : Key → List (Key × Window)) (events : List Sent) : Type 0 where
  pub others : (j : Key) → same_key j i ≡ false → h j ≡ window_of (q j) j (g j)
  pub here : h i ≡ (raised_among p i e (window_of (q i) i (g i))).windows
  pub sent : events ≡ (raised_among p i e (window_of (q i) i (g i))).sent

pub raised_at : (p : ℕ) (i : Key) (e : Sent) (q : Key → ℕ) (g : Key → Option Open) (h : Key → List (Key × Window)) (sent : List Sent) → IsRaised p i e q g h sent →
    (keys : List Key) → IsInOrder keys → (is_in i keys ≡ false → g i ≡ None) →
    raised_among p i e (flat_map (λ k. window_of (q k) k (g k)) keys) ≡ record { sent = sent; windows = flat_map h (with_key i keys) }
raised_at p i e q g h sent r [] order absent =
    let none : raised_among p i e (window_of (q i) i (g i)) ≡ in_front p i e [] = ap (λ (o : Option Open). raised_among p i e (window_of (q i) i o)) (absent refl) in
    let sends : sent ≡ e ∷ [] = r.sent ∙ ap (λ (s : Stepped). s.sent) none in
    let holds : h i ++ [] ≡ (i, opened_by p e) ∷ [] = append-nil (h i) ∙ r.here ∙ ap (λ (s : Stepped). s.windows) none in
    cc
raised_at p i e q g h sent r (j ∷ keys) order absent = either (key_order i j) refl (λ a. raised_at p i e q g h sent r keys order.1 a) where
  either : (o : Ordering) → key_order i j ≡ o → ((is_in i keys ≡ false → g i ≡ None) → raised_among p i e (flat_map (λ k. window_of (q k) k (g k)) keys) ≡ record { sent = sent; windows = flat_map h (with_key i keys) }) →
      raised_among p i e (window_of (q j) j (g j) ++ flat_map (λ k. window_of (q k) k (g k)) keys) ≡ record { sent = sent; windows = flat_map h (match_ordering o (i ∷ j ∷ keys) (j ∷ keys) (j ∷ with_key i keys)) }
  either Less is more =
      let before : IsBefore i (j ∷ keys) = (is, before_trans i j keys is order.0) in
      let none : raised_among p i e (window_of (q i) i (g i)) ≡ in_front p i e [] = ap (λ (o : Option Open). raised_among p i e (window_of (q i) i o)) (absent (none_before i (j ∷ keys) before)) in
      let sends : sent ≡ e ∷ [] = r.sent ∙ ap (λ (s : Stepped). s.sent) none in
      let holds : h i ≡ (i, opened_by p e) ∷ [] = r.here ∙ ap (λ (s : Stepped). s.windows) none in
      let rest : h j ++ flat_map h keys ≡ window_of (q j) j (g j) ++ flat_map (λ k. window_of (q k) k (g k)) keys = same_after (λ k. window_of (q k) k (g k)) h i (j ∷ keys) r.others before in
      put_before p i e q g (j ∷ keys) before
      ∙ ap (λ (l : List Sent). let s : Stepped = record { sent = l; windows = (i, opened_by p e) ∷ (window_of (q j) j (g j) ++ flat_map (λ k. window_of (q k) k (g k)) keys) } in s) (sym sends)
      ∙ ap (λ (l : List (Key × Window)). let s : Stepped = record { sent = sent; windows = (i, opened_by p e) ∷ l } in s) (sym rest)
      ∙ ap (λ (l : List (Key × Window)). let s : Stepped = record { sent = sent; windows = l ++ (h j ++ flat_map h keys) } in s) (sym holds)
  either Equal is more =
      let same : i ≡ j = key_equal i j is in
      let before : IsBefore i keys = subst (λ (k : Key). IsBefore k keys) (sym same) order.0 in
      let rest : flat_map h keys ≡ flat_map (λ k. window_of (q k) k (g k)) keys = same_after (λ k. window_of (q k) k (g k)) h i keys r.others before in
      let holds : h j ≡ (raised_among p i e (window_of (q j) j (g j))).windows = subst (λ (k : Key). h k ≡ (raised_among p i e (window_of (q k) k (g k))).windows) same r.here in
      let sends : sent ≡ (raised_among p i e (window_of (q j) j (g j))).sent = subst (λ (k : Key). sent ≡ (raised_among p i e (window_of (q k) k (g k))).sent) same r.sent in
      head_at p i e (q j) j (g j) (flat_map (λ k. window_of (q k) k (g k)) keys) is (put_before p i e q g keys before)
      ∙ ap (λ (l : List Sent). let s : Stepped = record { sent = l; windows = (raised_among p i e (window_of (q j) j (g j))).windows ++ flat_map (λ k. window_of (q k) k (g k)) keys } in s) (sym sends)
      ∙ ap (λ (l : List (Key × Window)). let s : Stepped = record { sent = sent; windows = (raised_among p i e (window_of (q j) j (g j))).windows ++ l } in s) (sym rest)
      ∙ ap (λ (l : List (Key × Window)). let s : Stepped = record { sent = sent; windows = l ++ flat_map h keys } in s) (sym holds)
  either Greater is more =
      let apart : same_key j i ≡ false = ap is_eq (key_back i j Greater is) in
      let inner = more (λ none. absent (ap (λ (r : Ordering). is_eq r || is_in i keys) is ∙ none)) in
      head_after p i e (q j) j (g j) (flat_map (λ k. window_of (q k) k (g k)) keys) is
      ∙ ap (behind (window_of (q j) j (g j))) inner
      ∙ ap (λ (l : List (Key × Window)). let s : Stepped = record { sent = sent; windows = l ++ flat_map h (with_key i keys) } in s) (sym (r.others j apart))

-- where no key changes, and the key of the event has no window
pub same_with : (f h : Key → List (Key × Window)) (e : Key) → ((j : Key) → h j ≡ f j) → f e ≡ [] → (keys : List Key) → flat_map h (with_key e keys) ≡ flat_map f keys
same_with f h e same none [] = append-nil (h e) ∙ same e ∙ none
same_with f h e same none (j ∷ keys) = either (key_order e j) (same_with f h e same none keys) where
  all : (keys : List Key) → flat_map h keys ≡ flat_map f keys
  all [] = refl
  all (k ∷ keys) = ap (λ (l : List (Key × Window)). l ++ flat_map h keys) (same k) ∙ ap (λ (l : List (Key × Window)). f k ++ l) (all keys)

  either : (o : Ordering) → flat_map h (with_key e keys) ≡ flat_map f keys → flat_map h (match_ordering o (e ∷ j ∷ keys) (j ∷ keys) (j ∷ with_key e keys)) ≡ f j ++ flat_map f keys
  either Less more = ap (λ (l : List (Key × Window)). l ++ (h j ++ flat_map h keys)) (same e ∙ none) ∙ all (j ∷ keys)
  either Equal more = all (j ∷ keys)
  either Greater more = ap (λ (l : List (Key × Window)). l ++ flat_map h (with_key e keys)) (same j) ∙ ap (λ (l : List (Key × Window)). f j ++ l) more

-- what is told of one key alone
pub only_of : (s : Key → List Sent) (e : Key) → ((j : Key) → same_key j e ≡ false → s j ≡ []) → (keys : List Key) → IsInOrder keys → flat_map s (with_key e keys) ≡ s e
only_of s e none [] order = append-nil (s e)
only_of s e none (j ∷ keys) order = either (key_order e j) refl (only_of s e none keys order.1) where
  nothing : (keys : List Key) → IsBefore e keys → flat_map s keys ≡ []
  nothing [] h = refl
  nothing (k ∷ keys) h = ap (λ (l : List Sent). l ++ flat_map s keys) (none k (apart_after e k h.0)) ∙ nothing keys h.1

  either : (o : Ordering) → key_order e j ≡ o → flat_map s (with_key e keys) ≡ s e → flat_map s (match_ordering o (e ∷ j ∷ keys) (j ∷ keys) (j ∷ with_key e keys)) ≡ s e
  either Less is more = ap (λ (l : List Sent). s e ++ l) (nothing (j ∷ keys) (is, before_trans e j keys is order.0)) ∙ append-nil (s e)
  either Equal is more =
      let same : e ≡ j = key_equal e j is in
      ap (λ (l : List Sent). s j ++ l) (nothing keys (subst (λ (k : Key). IsBefore k keys) (sym same) order.0)) ∙ append-nil (s j) ∙ ap s (sym same)
  either Greater is more = ap (λ (l : List Sent). l ++ flat_map s (with_key e keys)) (none j (ap is_eq (key_back e j Greater is))) ∙ more
