use Rattle.std.proofs.Common.{◌≡◌, ◌≢◌, ◌↔◌, ◌∷◌, [], List, None, Some, get_or, map, ap, sym, ◌∙◌, subst, rules}
use Rattle.std.specs.Prelude.{IsTrue}
use Rattle.qm_json.specs.Cleanness.{are_distinct}
use Rattle.qm_plan.specs.declared.events.Period.{Period}
use Rattle.qm_throttle.specs.{Keys.key_by, Steps.Throttling, Steps.Does, Steps.raised_among, Steps.window_at}
use Rattle.qm_throttle.specs.{Windows.event_of, Windows.raise_of, Keys.Key, declared.sent.Sent.Sent, declared.window.Window.Window}
use Rattle.qm_throttle.proofs.Periods.{period_found, sent_at_once, not_held, raised_as, held_where}
use Rattle.qm_throttle.proofs.throttle.Throttle.raise_in.Goals as goal

pub returns-then-micros-eq0-clause-ok : goal.returns-then-micros-eq0-clause-ok
returns-then-micros-eq0-clause-ok c =
    let periods = c.as_slice.ensures ∙ ap (λ (t : Throttling). t.periods) c.self.view_is in
    let distinct = subst (λ (t : Throttling). IsTrue (are_distinct (map (λ p. p.name) t.periods))) c.self.view_is c.self.invariant in
    let at = subst (λ (ps : List Period). c.index-as_slice-raised.result ≡ get_or ps c.args.raised.event c.index-as_slice-raised.result) periods c.index-as_slice-raised.is in
    let of = period_found c.args.self.now.periods c.args.raised.event c.index-as_slice-raised.result c.args.raised.payload c.requires at distinct in
    subst (λ (e : Sent). Does c.args.self.now (raise_of c.args.self.now.periods c.args.raised c.args.moment) (e ∷ []) c.args.self.now) (sym c.at.ensures)
    (sent_at_once c.args.self.now c.args.raised c.args.moment c.index-as_slice-raised.result of c.if-micros-eq0.true)

pub returns-then-micros-eq0-clause-none : goal.returns-then-micros-eq0-clause-none
returns-then-micros-eq0-clause-none c =
    let periods = c.as_slice.ensures ∙ ap (λ (t : Throttling). t.periods) c.self.view_is in
    let distinct = subst (λ (t : Throttling). IsTrue (are_distinct (map (λ p. p.name) t.periods))) c.self.view_is c.self.invariant in
    let at = subst (λ (ps : List Period). c.index-as_slice-raised.result ≡ get_or ps c.args.raised.event c.index-as_slice-raised.result) periods c.index-as_slice-raised.is in
    let of = period_found c.args.self.now.periods c.args.raised.event c.index-as_slice-raised.result c.args.raised.payload c.requires at distinct in
    not_held c.args.self.now c.args.raised c.index-as_slice-raised.result c.at.result of c.if-micros-eq0.true

pub returns-clause-ok : goal.returns-clause-ok
returns-clause-ok c =
    let periods = c.as_slice.ensures ∙ ap (λ (t : Throttling). t.periods) c.self.view_is in
    let distinct = subst (λ (t : Throttling). IsTrue (are_distinct (map (λ p. p.name) t.periods))) c.self.view_is c.self.invariant in
    let at = subst (λ (ps : List Period). c.index-as_slice-raised.result ≡ get_or ps c.args.raised.event c.index-as_slice-raised.result) periods c.index-as_slice-raised.is in
    let of = period_found c.args.self.now.periods c.args.raised.event c.index-as_slice-raised.result c.args.raised.payload c.requires at distinct in
    let windows : c.self.inside.windows ≡ c.args.self.now.windows = ap (λ (t : Throttling). t.windows) c.self.view_is in
    let key : c.in_ok-key.key ≡ key_by (Some c.index-as_slice-raised.result) c.args.raised.payload = search rules in
    let p = c.index-as_slice-raised.result.micros in
    raised_as c.args.self.now _ c.args.raised c.args.moment c.index-as_slice-raised.result c.in_ok-key.key c.in_ok-sent.sent of c.if-micros-eq0.false key (ap (λ (t : Throttling). t.periods) c.self.view_is)
    (c.in_ok-sent.ensures.sent ∙ ap (λ (e : Sent). (raised_among p c.in_ok-key.key e c.self.inside.windows).sent) c.at-event.ensures ∙ ap (λ (ws : List (Key × Window)). (raised_among p c.in_ok-key.key (event_of c.args.raised c.args.moment) ws).sent) windows)
    (c.in_ok-sent.ensures.windows ∙ ap (λ (e : Sent). (raised_among p c.in_ok-key.key e c.self.inside.windows).windows) c.at-event.ensures
    ∙ ap (λ (ws : List (Key × Window)). (raised_among p c.in_ok-key.key (event_of c.args.raised c.args.moment) ws).windows) windows)

pub returns-clause-none : goal.returns-clause-none
returns-clause-none c =
    let periods = c.as_slice.ensures ∙ ap (λ (t : Throttling). t.periods) c.self.view_is in
    let distinct = subst (λ (t : Throttling). IsTrue (are_distinct (map (λ p. p.name) t.periods))) c.self.view_is c.self.invariant in
    let at = subst (λ (ps : List Period). c.index-as_slice-raised.result ≡ get_or ps c.args.raised.event c.index-as_slice-raised.result) periods c.index-as_slice-raised.is in
    let of = period_found c.args.self.now.periods c.args.raised.event c.index-as_slice-raised.result c.args.raised.payload c.requires at distinct in
    let windows : c.self.inside.windows ≡ c.args.self.now.windows = ap (λ (t : Throttling). t.windows) c.self.view_is in
    let key : c.in_ok-key.key ≡ key_by (Some c.index-as_slice-raised.result) c.args.raised.payload = search rules in
    held_where c.args.self.now c.args.raised c.index-as_slice-raised.result c.in_ok-key.key c.in_ok-sent.sent of c.if-micros-eq0.false key
    (subst (λ (ws : List (Key × Window)). (c.in_ok-sent.sent ≡ None) ↔ (window_at c.in_ok-key.key ws ≢ None)) windows c.in_ok-sent.ensures.none)
