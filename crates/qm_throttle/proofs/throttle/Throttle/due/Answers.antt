use Rattle.std.proofs.Common.{◌≡◌, List, [], ◌∷◌, None, refl, ap, sym, ◌∙◌, rules}
use Rattle.qm_throttle.specs.{Windows.due_in, Keys.Key, declared.window.Window.Window}
use Rattle.qm_throttle.proofs.throttle.Throttle.due.Goals as goal

none_open : (ws : List (Key × Window)) → due_in ws ≡ None → ws ≡ []
none_open [] h = refl
none_open (w ∷ ws) h = absurd cc

pub returns-clause-none : goal.returns-clause-none
returns-clause-none c = (λ none. none_open c.args.self.now.windows (sym told ∙ none), λ none. told ∙ ap due_in none) where
  told : c.due.result ≡ due_in c.args.self.now.windows
  told = search rules
