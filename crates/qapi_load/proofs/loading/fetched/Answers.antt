use Rattle.std.proofs.Common.{rules, Option, List, ℕ}
use Rattle.qapi_load.specs.{Causes.IsAnswer, Loading.parsed, Steps.Fetches}
use Rattle.qapi_load.proofs.Given.{over_text}
use Rattle.qapi_load.proofs.loading.fetched.Goals as goal

pub returns-in-Ok-clause-given : goal.returns-in-Ok-clause-given
returns-in-Ok-clause-given g c =
    over_text (g.L.Library.files c.args.library.now) c.args.wanted.name c.in-Ok.text
    (λ (text : Option (List ℕ)). IsAnswer c.found.result → Fetches c.found.result (parsed c.args.wanted.place c.args.wanted.name text))
    (λ files e. let here = c.in-Ok.ensures.value files e in search rules) (search rules)
