use Rattle.std.proofs.Common.{◌≡◌, ◌↔◌, IsTrue, Bool}
use Rattle.std.proofs.lemmas.Result.{IfOk-weaker}
use Rattle.std.proofs.lemmas.Bool.Decides.{same_from_decides}
use Rattle.qapi_types.specs.Chains.{Leads}
use Rattle.qapi_rules.specs.Cycles.{is_on_cycle}
use Rattle.qapi_rules.proofs.CycleLaws.{on_cycle-decides}
use Rattle.qapi_rules.proofs.cycles.is_on_cycle.Goals as goal

pub returns : goal.returns
returns c = IfOk-weaker c.leads_back.result (λ (yes : Bool). IsTrue yes ↔ Leads c.args.graph.now c.args.place c.args.place) (λ (yes : Bool). yes ≡ is_on_cycle c.args.graph.now c.args.place) (λ yes h. same_from_decides yes (is_on_cycle c.args.graph.now c.args.place) h (on_cycle-decides c.args.graph.now c.args.place)) c.leads_back.ensures
