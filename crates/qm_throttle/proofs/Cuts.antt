-- One more call at the end of the calls of a key.
use Rattle.std.proofs.Common.{◌≡◌, ℕ, zero, suc, ◌+◌, ◌<◌, ◌≤◌, nat_le, Bool, true, false, cond, List, [], ◌∷◌, ◌++◌, length, take, Option, Some, None, refl, ap, sym, ◌∙◌, append-nil, append_assoc, arith}
use Rattle.std.specs.Option.{option_map, option_to_list}
use Rattle.std.proofs.{lemmas.List.take-append-le, Math.Seq.take-length}
use Rattle.qm_throttle.specs.Windows.{Call, Raise, Tick, Cut, End, Open, cut_from, window_cut, end_of, last_raised, opened, fresh_window, after_sent, one_later, option_or}
use Rattle.qm_throttle.specs.{Keys.Key, declared.sent.Sent.Sent}

-- what one call sends
abbrev pub sends : Option Open → Call → List Sent
sends None (Raise j e) = e ∷ []
sends None (Tick m) = []
sends (Some w) (Raise j e) = []
sends (Some w) (Tick m) = cond (nat_le w.deadline m) (option_to_list w.kept) []

abbrev pub reopened : ℕ → ℕ → Option Sent → Option Open
reopened p m kept = option_map (λ _. fresh_window (m + p)) kept

-- the window after one call
abbrev pub moves : ℕ → Option Open → Call → Option Open
moves p None (Raise j e) = option_map fresh_window (opened p e.moment)
moves p None (Tick m) = None
moves p (Some w) (Raise j e) = Some (record { deadline = w.deadline; kept = Some e })
moves p (Some w) (Tick m) = cond (nat_le w.deadline m) (reopened p m w.kept) (Some w)

abbrev pub moved : ℕ → Cut → Call → Cut
moved p cut call = record { sent = cut.sent ++ sends cut.window call; window = moves p cut.window call }

after_moved : (p : ℕ) (events : List Sent) (cut : Cut) (call : Call) → after_sent events (moved p cut call) ≡ moved p (after_sent events cut) call
after_moved p events cut call =
    ap (λ (l : List Sent). let c : Cut = record { sent = l; window = moves p cut.window call } in c) (sym (append_assoc events cut.sent (sends cut.window call)))

last-raise : (calls : List Call) (j : Key) (e : Sent) → last_raised (calls ++ Raise j e ∷ []) ≡ Some e
last-raise [] j e = refl
last-raise (Raise i f ∷ calls) j e = ap (λ (o : Option Sent). option_or o (Some f)) (last-raise calls j e)
last-raise (Tick m ∷ calls) j e = last-raise calls j e

last-tick : (calls : List Call) (m : ℕ) → last_raised (calls ++ Tick m ∷ []) ≡ last_raised calls
last-tick [] m = refl
last-tick (Raise j f ∷ calls) m = ap (λ (o : Option Sent). option_or o (Some f)) (last-tick calls m)
last-tick (Tick n ∷ calls) m = last-tick calls m

-- an end that comes so many calls later
abbrev later_by : ℕ → Option End → Option End
later_by n None = None
later_by n (Some e) = Some (record e { place = e.place + n })

later_none : (end : Option End) → end ≡ later_by 0 end
later_none None = refl
later_none (Some e) = ap (λ (n : ℕ). let r : Option End = Some (record { place = n; moment = e.moment }) in r) (omega arith)

later_more : (n : ℕ) (end : Option End) → one_later (later_by n end) ≡ later_by (suc n) end
later_more n None = refl
later_more n (Some e) = ap (λ (n : ℕ). let r : Option End = Some (record { place = n; moment = e.moment }) in r) (omega arith)

or_later : (n : ℕ) (first other : Option End) → one_later (option_or first (later_by n other)) ≡ option_or (one_later first) (later_by (suc n) other)
or_later n None other = later_more n other
or_later n (Some e) other = refl

end-more : (d : ℕ) (calls : List Call) (x : Call) → end_of d (calls ++ x ∷ []) ≡ option_or (end_of d calls) (later_by (length calls) (end_of d (x ∷ [])))
end-more d [] x = later_none (end_of d (x ∷ []))
end-more d (Raise j e ∷ calls) x = ap one_later (end-more d calls x) ∙ or_later (length calls) (end_of d calls) (end_of d (x ∷ []))
end-more d (Tick m ∷ calls) x = either (nat_le d m) (end-more d calls x) where
  either : (b : Bool) → end_of d (calls ++ x ∷ []) ≡ option_or (end_of d calls) (later_by (length calls) (end_of d (x ∷ []))) → cond b (Some (record { place = 0; moment = m })) (one_later (end_of d (calls ++ x ∷ [])))
      ≡ option_or (cond b (Some (record { place = 0; moment = m })) (one_later (end_of d calls))) (later_by (suc (length calls)) (end_of d (x ∷ [])))
  either true more = refl
  either false more = ap one_later more ∙ or_later (length calls) (end_of d calls) (end_of d (x ∷ []))

-- the end lies within so many calls
abbrev IsWithin : ℕ → Option End → Type 0
IsWithin n None = Unit {0}
IsWithin n (Some e) = e.place < n

within_more : (n : ℕ) (end : Option End) → IsWithin n end → IsWithin (suc n) (one_later end)
within_more n None h = tt
within_more n (Some e) h = omega (arith, h)

end_within : (d : ℕ) (calls : List Call) → IsWithin (length calls) (end_of d calls)
end_within d [] = tt
end_within d (Raise j e ∷ calls) = within_more (length calls) (end_of d calls) (end_within d calls)
end_within d (Tick m ∷ calls) = either (nat_le d m) (end_within d calls) where
  either : (b : Bool) → IsWithin (length calls) (end_of d calls) → IsWithin (suc (length calls)) (cond b (Some (record { place = 0; moment = m })) (one_later (end_of d calls)))
  either true h = omega arith
  either false h = within_more (length calls) (end_of d calls) h

-- where all calls are passed over
passed_all : (p : ℕ) (o : Option ℕ) (calls : List Call) (x : Call) → cut_from p o (suc (length calls)) (calls ++ x ∷ []) ≡ record { sent = []; window = option_map fresh_window o }
passed_all p o [] x = refl
passed_all p o (c ∷ calls) x = passed_all p o calls x

opens : (p m : ℕ) (kept : Option Sent) → option_map fresh_window (option_map (λ _. m + p) kept) ≡ reopened p m kept
opens p m None = refl
opens p m (Some e) = refl

-- the calls after the first, with one more, grow as told
abbrev Grows : ℕ → List Call → Call → Type 0
Grows p calls x = (o : Option ℕ) (k : ℕ) → k ≤ length calls → cut_from p o k (calls ++ x ∷ []) ≡ moved p (cut_from p o k calls) x

-- a window whose end was there before
ended_before : (p d : ℕ) (c : Call) (calls : List Call) (x : Call) → Grows p calls x → (e : End) → e.place < suc (length calls) →
    window_cut p d (c ∷ (calls ++ x ∷ [])) (Some e) (λ o k. cut_from p o k (calls ++ x ∷ []))
    ≡ moved p (window_cut p d (c ∷ calls) (Some e) (λ o k. cut_from p o k calls)) x
ended_before p d c calls x grows e h =
    let same : take e.place ((c ∷ calls) ++ x ∷ []) ≡ take e.place (c ∷ calls) = take-append-le e.place (c ∷ calls) (x ∷ []) (omega (arith, h)) in
    let kept = last_raised (take e.place (c ∷ calls)) in
    let next = option_map (λ (_ : Sent). e.moment + p) kept in
    ap (λ (l : List Call). after_sent (option_to_list (last_raised l)) (cut_from p (option_map (λ (_ : Sent). e.moment + p) (last_raised l)) e.place (calls ++ x ∷ []))) same
    ∙ ap (after_sent (option_to_list kept)) (grows next e.place (omega (arith, h)))
    ∙ after_moved p (option_to_list kept) (cut_from p next e.place calls) x

-- a window that the last call ends
ended_now : (p d m : ℕ) (c : Call) (calls : List Call) (k : ℕ) → k ≡ suc (length calls) →
    window_cut p d (c ∷ (calls ++ Tick m ∷ [])) (Some (record { place = k; moment = m })) (λ o k. cut_from p o k (calls ++ Tick m ∷ []))
    ≡ record { sent = option_to_list (last_raised (c ∷ calls)); window = reopened p m (last_raised (c ∷ calls)) }
ended_now p d m c calls k is =
    let all : take k ((c ∷ calls) ++ Tick m ∷ []) ≡ c ∷ calls =
    rw is (take-append-le (suc (length calls)) (c ∷ calls) (Tick m ∷ []) (omega arith) ∙ take-length (c ∷ calls)) in
    let kept = last_raised (c ∷ calls) in
    let next = option_map (λ (_ : Sent). m + p) kept in
    let rest : cut_from p next k (calls ++ Tick m ∷ []) ≡ record { sent = []; window = option_map fresh_window next } = rw is (passed_all p next calls (Tick m)) in
    ap (λ (l : List Call). after_sent (option_to_list (last_raised l)) (cut_from p (option_map (λ (_ : Sent). m + p) (last_raised l)) k (calls ++ Tick m ∷ []))) all
    ∙ ap (after_sent (option_to_list kept)) rest
    ∙ ap (λ (l : List Sent). let r : Cut = record { sent = l; window = option_map fresh_window next } in r) (append-nil (option_to_list kept))
    ∙ ap (λ (w : Option Open). let r : Cut = record { sent = option_to_list kept; window = w } in r) (opens p m kept)

-- a window that nothing ended before
open_before : (p d : ℕ) (c : Call) (calls : List Call) (x : Call) →
    window_cut p d (c ∷ (calls ++ x ∷ [])) (later_by (suc (length calls)) (end_of d (x ∷ []))) (λ o k. cut_from p o k (calls ++ x ∷ []))
    ≡ moved p (record { sent = []; window = Some (record { deadline = d; kept = last_raised (c ∷ calls) }) }) x
open_before p d c calls (Raise j e) =
    ap (λ (o : Option Sent). let r : Cut = record { sent = []; window = Some (record { deadline = d; kept = o }) } in r) (last-raise (c ∷ calls) j e)
open_before p d c calls (Tick m) = either (nat_le d m) where
  either : (b : Bool) →
      window_cut p d (c ∷ (calls ++ Tick m ∷ [])) (later_by (suc (length calls)) (cond b (Some (record { place = 0; moment = m })) None)) (λ o k. cut_from p o k (calls ++ Tick m ∷ []))
      ≡ record { sent = cond b (option_to_list (last_raised (c ∷ calls))) []; window = cond b (reopened p m (last_raised (c ∷ calls))) (Some (record { deadline = d; kept = last_raised (c ∷ calls) })) }
  either true = ended_now p d m c calls (0 + suc (length calls)) (omega arith)
  either false = ap (λ (o : Option Sent). let r : Cut = record { sent = []; window = Some (record { deadline = d; kept = o }) } in r) (last-tick (c ∷ calls) m)

window-more : (p d : ℕ) (c : Call) (calls : List Call) (x : Call) → Grows p calls x → (end : Option End) → IsWithin (suc (length calls)) end →
    window_cut p d (c ∷ (calls ++ x ∷ [])) (option_or end (later_by (suc (length calls)) (end_of d (x ∷ [])))) (λ o k. cut_from p o k (calls ++ x ∷ []))
    ≡ moved p (window_cut p d (c ∷ calls) end (λ o k. cut_from p o k calls)) x
window-more p d c calls x grows None h = open_before p d c calls x
window-more p d c calls x grows (Some e) h = ended_before p d c calls x grows e h

-- one more call, after at least as many as are passed over
pub cut-more : (p : ℕ) (o : Option ℕ) (k : ℕ) (calls : List Call) (x : Call) → k ≤ length calls → cut_from p o k (calls ++ x ∷ []) ≡ moved p (cut_from p o k calls) x
cut-more p None zero [] (Raise j e) h = refl
cut-more p None zero [] (Tick m) h = refl
cut-more p (Some d) zero [] (Raise j e) h = refl
cut-more p (Some d) zero [] (Tick m) h = either (nat_le d m) where
  either : (b : Bool) → window_cut p d (Tick m ∷ []) (cond b (Some (record { place = 0; moment = m })) None) (λ o k. cut_from p o k [])
      ≡ record { sent = cond b (option_to_list {X = Sent} None) []; window = cond b (reopened p m None) (Some (fresh_window d)) }
  either true = refl
  either false = refl
cut-more p o (suc k) [] x h = absurd (omega (arith, h))
cut-more p o (suc k) (c ∷ calls) x h = cut-more p o k calls x (omega (arith, h))
cut-more p None zero (Raise j e ∷ calls) x h =
    ap (after_sent (e ∷ [])) (cut-more p (opened p e.moment) 0 calls x (omega arith)) ∙ after_moved p (e ∷ []) (cut_from p (opened p e.moment) 0 calls) x
cut-more p None zero (Tick m ∷ calls) x h = cut-more p None 0 calls x (omega arith)
cut-more p (Some d) zero (c ∷ calls) x h =
    ap (λ (end : Option End). window_cut p d (c ∷ (calls ++ x ∷ [])) end (λ o k. cut_from p o k (calls ++ x ∷ []))) (end-more d (c ∷ calls) x)
    ∙ window-more p d c calls x (λ o k le. cut-more p o k calls x le) (end_of d (c ∷ calls)) (end_within d (c ∷ calls))

-- without a period no window opens
pub none_without_period : (k : ℕ) (calls : List Call) → (cut_from 0 None k calls).window ≡ None
none_without_period k [] = refl
none_without_period (suc k) (c ∷ calls) = none_without_period k calls
none_without_period zero (Raise j e ∷ calls) = none_without_period 0 calls
none_without_period zero (Tick m ∷ calls) = none_without_period 0 calls
