-- The periods of events, and what an event raised does.
use Rattle.std.proofs.Common.{◌≡◌, ◌≢◌, ◌↔◌, ℕ, zero, suc, ◌<◌, ◌==◌, Bool, true, false, cond, not, ◌&&◌, ◌||◌, List, [], ◌∷◌, length, map, get_or, Option, Some, None, refl, ap, sym, ◌∙◌, subst, arith}
use Rattle.std.specs.{List.list_any, Option.option_to_list, Str.bytes_eq}
use Rattle.std.specs.Prelude.{IsTrue}
use Rattle.std.proofs.lemmas.{Bool.Decides.nat_tests, Option.slice_get-get_or, Slice.Eq.bytes_eq-Decides}
use Rattle.qm_json.specs.{Cleanness.are_distinct, declared.value.Json.Json}
use Rattle.qm_plan.specs.declared.events.{Period.Period, Raised.Raised}
use Rattle.qm_throttle.specs.Keys.{key_by, key_of, period_of}
use Rattle.qm_throttle.specs.Steps.{Throttling, Does, IsHeld, Stepped, raised_in, raised_among, window_at}
use Rattle.qm_throttle.specs.{Windows.event_of, Windows.raise_of, Keys.Key, declared.sent.Sent.Sent}

apart_at : (name : List ℕ) (ps : List Period) (i : ℕ) (p : Period) → i < length ps → p ≡ get_or ps i p → list_any (λ other. bytes_eq other name) (map (λ p. p.name) ps) ≡ false → bytes_eq p.name name ≡ false
apart_at name [] i p h is none = absurd (omega (arith, h))
apart_at name (q ∷ qs) zero p h is none = either (bytes_eq q.name name) refl none where
  either : (b : Bool) → bytes_eq q.name name ≡ b → (b || list_any (λ other. bytes_eq other name) (map (λ p. p.name) qs)) ≡ false → bytes_eq p.name name ≡ false
  either true eq none = absurd cc
  either false eq none = ap (λ (p : Period). bytes_eq p.name name) is ∙ eq
apart_at name (q ∷ qs) (suc i) p h is none = either (bytes_eq q.name name) none (apart_at name qs i p (omega (arith, h)) is) where
  either : (b : Bool) → (b || list_any (λ other. bytes_eq other name) (map (λ p. p.name) qs)) ≡ false → (list_any (λ other. bytes_eq other name) (map (λ p. p.name) qs) ≡ false → bytes_eq p.name name ≡ false) → bytes_eq p.name name ≡ false
  either true none more = absurd cc
  either false none more = more none

both_true : (a b : Bool) → (not a && b) ≡ true → (a ≡ false) × (b ≡ true)
both_true true b h = absurd cc
both_true false b h = (refl, h)

turned : (xs ys : List ℕ) → bytes_eq ys xs ≡ false → bytes_eq xs ys ≡ false
turned xs ys apart = either (bytes_eq xs ys) refl where
  either : (b : Bool) → bytes_eq xs ys ≡ b → b ≡ false
  either false is = refl
  either true is = let back : bytes_eq ys xs ≡ true = (bytes_eq-Decides ys xs).1 (sym ((bytes_eq-Decides xs ys).0 is)) in absurd cc

-- the period of a number is that of its name, where names are distinct
period_named : (ps : List Period) (i : ℕ) (p : Period) → i < length ps → p ≡ get_or ps i p → are_distinct (map (λ p. p.name) ps) ≡ true → period_of ps p.name ≡ p.micros
period_named [] i p h is distinct = absurd (omega (arith, h))
period_named (q ∷ qs) zero p h is distinct =
    ap (λ (b : Bool). cond b q.micros (period_of qs p.name)) ((bytes_eq-Decides q.name p.name).1 (ap (λ (p : Period). p.name) (sym is))) ∙ ap (λ (p : Period). p.micros) (sym is)
period_named (q ∷ qs) (suc i) p h is distinct =
    let parts = both_true (list_any (λ other. bytes_eq other q.name) (map (λ p. p.name) qs)) (are_distinct (map (λ p. p.name) qs)) distinct in
    ap (λ (b : Bool). cond b q.micros (period_of qs p.name)) (turned q.name p.name (apart_at q.name qs i p (omega (arith, h)) is parts.0))
    ∙ period_named qs i p (omega (arith, h)) is parts.1

-- the key of an event, and how long its windows last
pub record IsOf (ps : List Period) (event : ℕ) (payload : Json) (p : Period) : Type 0 where
  pub key : key_of ps event payload ≡ key_by (Some p) payload
  pub lasts : period_of ps (key_of ps event payload).name ≡ p.micros

pub period_found : (ps : List Period) (i : ℕ) (p : Period) (payload : Json) → i < length ps → p ≡ get_or ps i p → IsTrue (are_distinct (map (λ p. p.name) ps)) → IsOf ps i payload p
period_found ps i p payload h is distinct =
    let key : key_of ps i payload ≡ key_by (Some p) payload = ap (λ (o : Option Period). key_by o payload) (slice_get-get_or ps i p h ∙ ap (λ (p : Period). let o : Option Period = Some p in o) (sym is)) in
    record { key = key; lasts = ap (λ (k : Key). period_of ps k.name) key ∙ period_named ps i p h is distinct }

-- an event without a period
pub sent_at_once : (t : Throttling) (raised : Raised) (m : ℕ) (p : Period) → IsOf t.periods raised.event raised.payload p → p.micros ≡ 0 → Does t (raise_of t.periods raised m) (event_of raised m ∷ []) t
sent_at_once t raised m p of none =
    let key = key_of t.periods raised.event raised.payload in
    let zero : period_of t.periods key.name ≡ 0 = of.lasts ∙ none in
    record {
      periods = refl;
      sent = sym (ap (λ (n : ℕ). (raised_in n key (event_of raised m) t.windows).sent) zero);
      windows = sym (ap (λ (n : ℕ). (raised_in n key (event_of raised m) t.windows).windows) zero);
    }

pub not_held : (t : Throttling) (raised : Raised) (p : Period) (e : Sent) → IsOf t.periods raised.event raised.payload p → p.micros ≡ 0 → (let o : Option Sent = Some e in o ≡ None) ↔ IsHeld t raised
not_held t raised p e of none = (λ h. absurd cc, λ held. absurd (held.0 (of.lasts ∙ none)))

some_period : (n : ℕ) → n ≢ 0 → (n == 0) ≡ false
some_period n h = grind (arith, nat_tests)

-- one with a period
pub raised_as : (t new : Throttling) (raised : Raised) (m : ℕ) (p : Period) (key : Key) (sent : Option Sent) → IsOf t.periods raised.event raised.payload p → p.micros ≢ 0 → key ≡ key_by (Some p) raised.payload → new.periods ≡ t.periods →
    option_to_list sent ≡ (raised_among p.micros key (event_of raised m) t.windows).sent → new.windows ≡ (raised_among p.micros key (event_of raised m) t.windows).windows → Does t (raise_of t.periods raised m) (option_to_list sent) new
raised_as t new raised m p key sent of some is same sends stands =
    let whole = key_of t.periods raised.event raised.payload in
    let e = event_of raised m in
    let told : raised_among p.micros key e t.windows ≡ raised_in (period_of t.periods whole.name) whole e t.windows =
    ap (λ (k : Key). raised_among p.micros k e t.windows) (is ∙ sym of.key)
    ∙ sym (ap (λ (b : Bool). let s : Stepped = cond b (record { sent = e ∷ []; windows = t.windows }) (raised_among p.micros whole e t.windows) in s) (some_period p.micros some))
    ∙ ap (λ (n : ℕ). raised_in n whole e t.windows) (sym of.lasts) in
    record {
      periods = same;
      sent = sends ∙ ap (λ (s : Stepped). s.sent) told;
      windows = stands ∙ ap (λ (s : Stepped). s.windows) told;
    }

pub held_where : (t : Throttling) (raised : Raised) (p : Period) (key : Key) (sent : Option Sent) → IsOf t.periods raised.event raised.payload p → p.micros ≢ 0 → key ≡ key_by (Some p) raised.payload →
    (sent ≡ None) ↔ (window_at key t.windows ≢ None) → (sent ≡ None) ↔ IsHeld t raised
held_where t raised p key sent of some is held =
    let same : key ≡ key_of t.periods raised.event raised.payload = is ∙ sym of.key in
    (λ none. (λ zero. some (sym of.lasts ∙ zero), subst (λ (k : Key). window_at k t.windows ≢ None) same (held.0 none)), λ h. held.1 (subst (λ (k : Key). window_at k t.windows ≢ None) (sym same) h.1))
