use Rattle.std.proofs.Common.{rules, ◌≡◌, ◌∷◌, ◌++◌, ap, ◌∙◌}
use Rattle.std.specs.Prelude.{codes}
use Rattle.qm_json.specs.declared.value.Json.TheVariants as json
use Rattle.qapi_mask.specs.{Introspection.oob_members, Naming.argument_type, Naming.mask_of, Printing.features_members, Printing.with_text}
use Rattle.qapi_mask.proofs.{Sound.argument-below, VariantLaws.put-on}
use Rattle.qapi_mask.proofs.introspection.command_object.Goals as goal

pub name-requires : goal.name-requires
name-requires c =
    (let below = argument-below c.args.naming.now (search rules) (search rules) c.args.command.now.arg c.requires.0 in search rules)

pub returns : goal.returns
returns c =
    let name : c.as_slice.result.now ≡ c.args.command.now.name = search rules in
    let arg : c.as_slice-3.result.now ≡ mask_of c.args.naming.now (argument_type c.args.naming.now.kinds c.args.command.now.arg) = search rules in
    let ret : c.as_slice-4.result.now ≡ mask_of c.args.naming.now c.args.command.now.ret = search rules in
    let features : c.as_slice-5.result.now ≡ c.args.command.now.features = search rules in
    ap json.Obj (put-on _ _ _ _ _ _ _ _ _ _ c.in_ok-members.ensures c.in_ok-put_text.ensures c.in_ok-put_text-2.ensures c.in_ok-put_oob.ensures _ c.in_ok-put_features.ensures
    ∙ (λ k. with_text (codes "name") (name k) ∷ with_text (codes "meta-type") (codes "command") ∷ with_text (codes "arg-type") (arg k) ∷ with_text (codes "ret-type") (ret k) ∷ (oob_members c.args.command.now.allow_oob ++ features_members (features k))))
