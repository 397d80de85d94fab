use Rattle.std.proofs.Common.{◌≡◌, List, [], ◌∷◌, None, ap, sym, ◌∙◌, subst}
use Rattle.std.specs.{BTreeMap.insert_entry, List.Sorted.IsStrictlySortedBy, Map.keys_of}
use Rattle.qm_throttle.specs.{Keys.key_order, Steps.Stepped, Steps.window_at, Steps.kept_in, Steps.unkept, Steps.opened_by, Keys.Key}
use Rattle.qm_throttle.specs.declared.{sent.Sent.Sent, window.Window.Window}
use Rattle.qm_throttle.proofs.Keeping.{raised-sent, raised-kept, given_back}
use Rattle.qm_throttle.proofs.windows.Windows.raise.Goals as goal

pub returns-clause-sent : goal.returns-clause-sent
returns-clause-sent c =
    let found = given_back c.args.event c.in-Some.event (window_at c.args.key c.args.self.now) (sym c.keep.ensures.given ∙ c.in-Some.is) in
    let absent : window_at c.args.key c.args.self.now ≡ None = found.0 in
    ap (λ (e : Sent). e ∷ []) (sym found.1) ∙ sym (ap (λ (s : Stepped). s.sent) (raised-sent c.args.period c.args.key c.args.event c.args.self.now absent))

pub returns-clause-windows : goal.returns-clause-windows
returns-clause-windows c =
    let found = given_back c.args.event c.in-Some.event (window_at c.args.key c.args.self.now) (sym c.keep.ensures.given ∙ c.in-Some.is) in
    let absent : window_at c.args.key c.args.self.now ≡ None = found.0 in
    let same : c.keep.new.self ≡ c.args.self.now = c.keep.ensures.kept ∙ ap (kept_in c.args.key c.args.event c.args.self.now) found.0 in
    c.in_ok-open.ensures.ok
    ∙ ap (λ (ws : List (Key × Window)). insert_entry key_order ws c.args.key (opened_by c.args.period c.in-Some.event)) same
    ∙ ap (λ (e : Sent). insert_entry key_order c.args.self.now c.args.key (opened_by c.args.period e)) (sym found.1)
    ∙ sym (ap (λ (s : Stepped). s.windows) (raised-sent c.args.period c.args.key c.args.event c.args.self.now absent))

pub returns-in_default-clause-sent : goal.returns-in_default-clause-sent
returns-in_default-clause-sent c =
    let none : unkept c.args.event (window_at c.args.key c.args.self.now) ≡ None = sym c.keep.ensures.given ∙ c.in_default.is in
    let sorted = subst (λ (ws : List (Key × Window)). IsStrictlySortedBy key_order (keys_of ws)) c.self.view_is c.len.ensures.ordered in
    sym (ap (λ (s : Stepped). s.sent) (raised-kept c.args.period c.args.key c.args.event c.args.self.now sorted none))

pub returns-in_default-clause-windows : goal.returns-in_default-clause-windows
returns-in_default-clause-windows c =
    let none : unkept c.args.event (window_at c.args.key c.args.self.now) ≡ None = sym c.keep.ensures.given ∙ c.in_default.is in
    let sorted = subst (λ (ws : List (Key × Window)). IsStrictlySortedBy key_order (keys_of ws)) c.self.view_is c.len.ensures.ordered in
    c.keep.ensures.kept ∙ sym (ap (λ (s : Stepped). s.windows) (raised-kept c.args.period c.args.key c.args.event c.args.self.now sorted none))
