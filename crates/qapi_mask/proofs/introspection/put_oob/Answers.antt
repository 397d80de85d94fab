use Rattle.std.proofs.Common.{rules, ◌≡◌, ◌++◌, Bool, true, subst, OnOk}
use Rattle.qapi_mask.specs.Introspection.{oob_members}
use Rattle.qapi_mask.proofs.introspection.put_oob.Goals as goal

pub returns : goal.returns
returns c =
    let is : true ≡ c.args.allowed = search rules in
    subst (λ (b : Bool). OnOk c.put.result (c.put.new.members ≡ c.args.members.now ++ oob_members b)) is c.put.ensures
