use Rattle.std.proofs.Common.{rules, ◌≡◌, ◌∷◌, ap, ◌∙◌}
use Rattle.std.specs.Prelude.{codes}
use Rattle.qm_json.specs.declared.value.Json.TheVariants as json
use Rattle.qapi_mask.specs.{Naming.mask_of, Printing.features_members, Printing.with_text}
use Rattle.qapi_mask.proofs.VariantLaws.{put-after}
use Rattle.qapi_mask.proofs.introspection.event_object.Goals as goal

pub returns : goal.returns
returns c =
    let name : c.as_slice.result.now ≡ c.args.event.now.name = search rules in
    let arg : c.as_slice-2.result.now ≡ mask_of c.args.naming.now c.args.event.now.arg = search rules in
    let features : c.as_slice-3.result.now ≡ c.args.event.now.features = search rules in
    ap json.Obj (put-after _ _ _ _ _ _ _ c.in_ok-members.ensures c.in_ok-put_text.ensures c.in_ok-put_features.ensures
    ∙ (λ k. with_text (codes "name") (name k) ∷ with_text (codes "meta-type") (codes "event") ∷ with_text (codes "arg-type") (arg k) ∷ features_members (features k)))
