-- One call on the open windows is one more call of the whole list.
use Rattle.std.proofs.Common.{◌≡◌, ℕ, ◌+◌, ◌==◌, nat_le, Bool, true, false, cond, ◌||◌, List, [], ◌∷◌, ◌++◌, length, drop, filter, Option, Some, None, refl, ap, sym, ◌∙◌, append-nil, arith}
use Rattle.std.specs.{List.flat_map, Option.option_map, Option.option_to_list, Ordering.match_ordering, Ordering.is_eq}
use Rattle.std.specs.declared.cmp.Ordering.{Ordering, TheVariants.Less, TheVariants.Equal, TheVariants.Greater}
use Rattle.std.proofs.lemmas.{Bool.Decides.Decides-eqb, Grind.flat_map-append, List.Elements.filter-append}
use Rattle.std.proofs.Math.Seq.{drop-append_seam, drop-length}
use Rattle.qm_throttle.specs.Keys.{key_order, same_key, period_of}
use Rattle.qm_throttle.specs.Steps.{Throttling, Follows, Steps, Does, Stepped, opened_by, keeping, behind, raised_among, opens_again, ticked, sent_at, stepped}
use Rattle.qm_throttle.specs.Windows.{Call, Raise, Tick, Cut, Open, cut_from, cut_of, concerns, fresh_window, keys_after, sent_of, sent_for, window_of, windows_for, windows_of, due_in, due_of}
use Rattle.qm_throttle.specs.{declared.sent.Sent.Sent, Keys.Key, declared.window.Window.Window}
use Rattle.qm_plan.specs.declared.events.Period.{Period}
use Rattle.qm_throttle.proofs.Cuts.{sends, moves, moved, reopened, cut-more, none_without_period}
use Rattle.qm_throttle.proofs.Orders.{in_order_after, in_after, is_in, keys_after-append, key_equal, key_self, raises_key}
use Rattle.qm_throttle.proofs.Raising.{IsRaised, raised_at, same_with, only_of}

concerned : (k : Key) (calls : List Call) (x : Call) (b : Bool) → concerns k x ≡ b → filter (concerns k) (calls ++ x ∷ []) ≡ filter (concerns k) calls ++ cond b (x ∷ []) []
concerned k calls x b is = filter-append (concerns k) calls (x ∷ []) ∙ ap (λ (b : Bool). filter (concerns k) calls ++ cond b (x ∷ []) []) is

cut-concerned : (periods : List Period) (k : Key) (calls : List Call) (x : Call) → concerns k x ≡ true →
    cut_of periods k (calls ++ x ∷ []) ≡ moved (period_of periods k.name) (cut_of periods k calls) x
unfolding cut_of
cut-concerned periods k calls x is =
    ap (λ (l : List Call). cut_from (period_of periods k.name) None 0 l) (concerned k calls x true is)
    ∙ cut-more (period_of periods k.name) None 0 (filter (concerns k) calls) x (omega arith)

cut-other : (periods : List Period) (k : Key) (calls : List Call) (x : Call) → concerns k x ≡ false → cut_of periods k (calls ++ x ∷ []) ≡ cut_of periods k calls
unfolding cut_of
cut-other periods k calls x is =
    ap (λ (l : List Call). cut_from (period_of periods k.name) None 0 l) (concerned k calls x false is ∙ append-nil (filter (concerns k) calls))

idle : (p : ℕ) (k : Key) (calls : List Call) → raises_key k calls ≡ false → (cut_from p None 0 (filter (concerns k) calls)).window ≡ None
idle p k [] none = refl
idle p k (Raise i e ∷ calls) none = either (same_key k i) none (idle p k calls) where
  either : (b : Bool) → (b || raises_key k calls) ≡ false → (raises_key k calls ≡ false → (cut_from p None 0 (filter (concerns k) calls)).window ≡ None) →
      (cut_from p None 0 (cond b (Raise i e ∷ filter (concerns k) calls) (filter (concerns k) calls))).window ≡ None
  either true none more = absurd cc
  either false none more = more none
idle p k (Tick m ∷ calls) none = idle p k calls none

-- a key that was not raised has no window
no_window : (periods : List Period) (k : Key) (calls : List Call) → is_in k (keys_after [] calls) ≡ false → (cut_of periods k calls).window ≡ None
unfolding cut_of
no_window periods k calls none = idle (period_of periods k.name) k calls (sym (in_after k [] calls) ∙ none)

no_period : (periods : List Period) (k : Key) (calls : List Call) → period_of periods k.name ≡ 0 → (cut_of periods k calls).window ≡ None
unfolding cut_of
no_period periods k calls none =
    ap (λ (p : ℕ). (cut_from p None 0 (filter (concerns k) calls)).window) none ∙ none_without_period 0 (filter (concerns k) calls)

sent-concerned : (periods : List Period) (calls : List Call) (x : Call) (k : Key) → concerns k x ≡ true → sent_for periods calls x k ≡ sends (cut_of periods k calls).window x
sent-concerned periods calls x k is =
    let before = cut_of periods k calls in
    ap (λ (c : Cut). drop (length before.sent) c.sent) (cut-concerned periods k calls x is) ∙ drop-append_seam before.sent (sends before.window x)

sent-other : (periods : List Period) (calls : List Call) (x : Call) (k : Key) → concerns k x ≡ false → sent_for periods calls x k ≡ []
sent-other periods calls x k is =
    let before = cut_of periods k calls in
    ap (λ (c : Cut). drop (length before.sent) c.sent) (cut-other periods k calls x is) ∙ drop-length before.sent

nested : {A : Type 0} (f : Key → List (Key × Window)) (g : Key × Window → List A) (h : Key → List A) → ((k : Key) → flat_map g (f k) ≡ h k) → (keys : List Key) → flat_map g (flat_map f keys) ≡ flat_map h keys
nested f g h same [] = refl
nested {A} f g h same (k ∷ keys) =
    flat_map-append g (f k) (flat_map f keys) ∙ ap (λ (l : List A). l ++ flat_map g (flat_map f keys)) (same k) ∙ ap (λ (l : List A). h k ++ l) (nested f g h same keys)

tick_sends : (p m : ℕ) (k : Key) (o : Option Open) → flat_map (sent_at m) (window_of p k o) ≡ sends o (Tick m)
tick_sends p m k None = refl
tick_sends p m k (Some w) = append-nil (cond (nat_le w.deadline m) (option_to_list w.kept) [])

tick_moves : (p m : ℕ) (k : Key) (o : Option Open) → flat_map (ticked m) (window_of p k o) ≡ window_of p k (moves p o (Tick m))
tick_moves p m k None = refl
tick_moves p m k (Some w) = append-nil (ticked m (k, record { period = p; deadline = w.deadline; kept = w.kept })) ∙ either (nat_le w.deadline m) w.kept where
  either : (b : Bool) (kept : Option Sent) →
      cond b (opens_again m (k, record { period = p; deadline = w.deadline; kept = w.kept }) kept) ((k, record { period = p; deadline = w.deadline; kept = w.kept }) ∷ [])
      ≡ window_of p k (cond b (reopened p m kept) (Some w))
  either true None = refl
  either true (Some e) = refl
  either false kept = refl

stepped-tick : (periods : List Period) (calls : List Call) (m : ℕ) →
    stepped periods (windows_of periods calls) (Tick m) ≡ record { sent = sent_of periods calls (Tick m); windows = windows_of periods (calls ++ Tick m ∷ []) }
unfolding windows_of sent_of
stepped-tick periods calls m =
    let keys = keys_after [] calls in
    let kept : keys_after [] (calls ++ Tick m ∷ []) ≡ keys = keys_after-append [] calls (Tick m) in
    let sent = nested (windows_for periods calls) (sent_at m) (sent_for periods calls (Tick m))
    (λ k. tick_sends (period_of periods k.name) m k (cut_of periods k calls).window ∙ sym (sent-concerned periods calls (Tick m) k refl)) keys
    ∙ ap (λ (l : List Key). flat_map (sent_for periods calls (Tick m)) l) (sym kept) in
    let windows = nested (windows_for periods calls) (ticked m) (windows_for periods (calls ++ Tick m ∷ []))
    (λ k. tick_moves (period_of periods k.name) m k (cut_of periods k calls).window
    ∙ ap (λ (c : Cut). window_of (period_of periods k.name) k c.window) (sym (cut-concerned periods k calls (Tick m) refl))) keys
    ∙ ap (λ (l : List Key). flat_map (windows_for periods (calls ++ Tick m ∷ [])) l) (sym kept) in
    λ i. record { sent = sent i; windows = windows i }

raise_moves : (p : ℕ) (i : Key) (e : Sent) (o : Option Open) → (p == 0) ≡ false → window_of p i (moves p o (Raise i e)) ≡ (raised_among p i e (window_of p i o)).windows
raise_moves p i e None some = ap (λ (b : Bool). window_of p i (option_map fresh_window (cond b None (Some (e.moment + p))))) some
raise_moves p i e (Some w) some =
    let head : Key × Window = (i, record { period = p; deadline = w.deadline; kept = w.kept }) in
    sym (ap (λ (r : Ordering). (match_ordering r (let s : Stepped = record { sent = e ∷ []; windows = (i, opened_by p e) ∷ head ∷ [] } in s) (record { sent = []; windows = (head.0, keeping e head.1) ∷ [] }) (behind (head ∷ []) (raised_among p i e []))).windows) (key_self i))

raise_sends : (p : ℕ) (i : Key) (e : Sent) (o : Option Open) → sends o (Raise i e) ≡ (raised_among p i e (window_of p i o)).sent
raise_sends p i e None = refl
raise_sends p i e (Some w) =
    let head : Key × Window = (i, record { period = p; deadline = w.deadline; kept = w.kept }) in
    sym (ap (λ (r : Ordering). (match_ordering r (let s : Stepped = record { sent = e ∷ []; windows = (i, opened_by p e) ∷ head ∷ [] } in s) (record { sent = []; windows = (head.0, keeping e head.1) ∷ [] }) (behind (head ∷ []) (raised_among p i e []))).sent) (key_self i))

window_without : (p : ℕ) (k : Key) (o : Option Open) → o ≡ None → window_of p k o ≡ []
window_without p k o none = ap (λ (o : Option Open). window_of p k o) none

same_equal : (j k : Key) → same_key j k ≡ true → j ≡ k
same_equal j k is = key_equal j k (equal (key_order j k) is) where
  equal : (r : Ordering) → is_eq r ≡ true → r ≡ Equal
  equal Less h = absurd cc
  equal Equal h = refl
  equal Greater h = absurd cc

-- without a period no window changes
windows_stay : (periods : List Period) (calls : List Call) (i : Key) (e : Sent) → period_of periods i.name ≡ 0 → (j : Key) → windows_for periods (calls ++ Raise i e ∷ []) j ≡ windows_for periods calls j
windows_stay periods calls i e none j = either (same_key j i) refl where
  either : (b : Bool) → same_key j i ≡ b → windows_for periods (calls ++ Raise i e ∷ []) j ≡ windows_for periods calls j
  either true is =
      let p = period_of periods j.name in
      let zero : p ≡ 0 = ap (λ (k : Key). period_of periods k.name) (same_equal j i is) ∙ none in
      window_without p j _ (no_period periods j (calls ++ Raise i e ∷ []) zero) ∙ sym (window_without p j _ (no_period periods j calls zero))
  either false is = ap (λ (c : Cut). window_of (period_of periods j.name) j c.window) (cut-other periods j calls (Raise i e) is)

sent_alone : (periods : List Period) (calls : List Call) (i : Key) (e : Sent) → sent_of periods calls (Raise i e) ≡ sends (cut_of periods i calls).window (Raise i e)
unfolding sent_of
sent_alone periods calls i e =
    ap (λ (l : List Key). flat_map (sent_for periods calls (Raise i e)) l) (keys_after-append [] calls (Raise i e))
    ∙ only_of (sent_for periods calls (Raise i e)) i (λ j apart. sent-other periods calls (Raise i e) j apart) (keys_after [] calls) (in_order_after [] calls tt)
    ∙ sent-concerned periods calls (Raise i e) i (ap is_eq (key_self i))

stepped-raise : (periods : List Period) (calls : List Call) (i : Key) (e : Sent) →
    stepped periods (windows_of periods calls) (Raise i e) ≡ record { sent = sent_of periods calls (Raise i e); windows = windows_of periods (calls ++ Raise i e ∷ []) }
unfolding windows_of
stepped-raise periods calls i e = either (period_of periods i.name == 0) refl where
  either : (b : Bool) → (period_of periods i.name == 0) ≡ b →
      cond b (record { sent = e ∷ []; windows = flat_map (windows_for periods calls) (keys_after [] calls) }) (raised_among (period_of periods i.name) i e (flat_map (windows_for periods calls) (keys_after [] calls)))
      ≡ record { sent = sent_of periods calls (Raise i e); windows = flat_map (windows_for periods (calls ++ Raise i e ∷ [])) (keys_after [] (calls ++ Raise i e ∷ [])) }
  either true is =
      let p = period_of periods i.name in
      let zero : p ≡ 0 = (Decides-eqb p 0).0 is in
      let none = no_period periods i calls zero in
      let sent : e ∷ [] ≡ sent_of periods calls (Raise i e) = sym (sent_alone periods calls i e ∙ ap (λ (o : Option Open). sends o (Raise i e)) none) in
      let windows : flat_map (windows_for periods calls) (keys_after [] calls) ≡ flat_map (windows_for periods (calls ++ Raise i e ∷ [])) (keys_after [] (calls ++ Raise i e ∷ [])) =
      sym (ap (λ (l : List Key). flat_map (windows_for periods (calls ++ Raise i e ∷ [])) l) (keys_after-append [] calls (Raise i e))
      ∙ same_with (windows_for periods calls) (windows_for periods (calls ++ Raise i e ∷ [])) i (windows_stay periods calls i e zero) (window_without p i _ none) (keys_after [] calls)) in
      λ i. record { sent = sent i; windows = windows i }
  either false is =
      let p = period_of periods i.name in
      let q : Key → ℕ = λ k. period_of periods k.name in
      let g : Key → Option Open = λ k. (cut_of periods k calls).window in
      let itself : same_key i i ≡ true = ap is_eq (key_self i) in
      let raised : IsRaised p i e q g (windows_for periods (calls ++ Raise i e ∷ [])) (sent_of periods calls (Raise i e)) = record {
        others = λ j apart. ap (λ (c : Cut). window_of (q j) j c.window) (cut-other periods j calls (Raise i e) apart);
        here = ap (λ (c : Cut). window_of p i c.window) (cut-concerned periods i calls (Raise i e) itself) ∙ raise_moves p i e (g i) is;
        sent = sent_alone periods calls i e ∙ raise_sends p i e (g i);
      } in
      raised_at p i e q g (windows_for periods (calls ++ Raise i e ∷ [])) (sent_of periods calls (Raise i e)) raised (keys_after [] calls) (in_order_after [] calls tt) (no_window periods i calls)
      ∙ ap (λ (l : List Key). let s : Stepped = record { sent = sent_of periods calls (Raise i e); windows = flat_map (windows_for periods (calls ++ Raise i e ∷ [])) l } in s) (sym (keys_after-append [] calls (Raise i e)))

-- one call on the windows after some calls is the call after those
pub stepped-more : (periods : List Period) (calls : List Call) (call : Call) →
    stepped periods (windows_of periods calls) call ≡ record { sent = sent_of periods calls call; windows = windows_of periods (calls ++ call ∷ []) }
stepped-more periods calls (Raise i e) = stepped-raise periods calls i e
stepped-more periods calls (Tick m) = stepped-tick periods calls m

-- what one call does to the windows is what it does after any calls that they follow
pub steps_from : (old new : Throttling) (call : Call) (events : List Sent) → Does old call events new → Steps old call events new
steps_from old new call events d =
    let more : (calls : List Call) → Follows old calls → stepped old.periods old.windows call ≡ record { sent = sent_of old.periods calls call; windows = windows_of old.periods (calls ++ call ∷ []) } =
    λ calls follows. ap (λ (w : List (Key × Window)). stepped old.periods w call) follows ∙ stepped-more old.periods calls call in
    record {
      periods = d.periods;
      sent = λ calls follows. d.sent ∙ ap (λ (s : Stepped). s.sent) (more calls follows);
      follows = λ calls follows. d.windows ∙ ap (λ (s : Stepped). s.windows) (more calls follows) ∙ ap (λ (p : List Period). windows_of p (calls ++ call ∷ [])) (sym d.periods);
    }

pub nothing_follows : (periods : List Period) → windows_of periods [] ≡ []
unfolding windows_of
nothing_follows periods = refl

pub due_from : (periods : List Period) (windows : List (Key × Window)) (calls : List Call) → windows ≡ windows_of periods calls → due_in windows ≡ due_of periods calls
due_from periods windows calls follows = ap due_in follows
