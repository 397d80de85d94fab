-- What is left of a template that has templates in it.
use Rattle.std.proofs.Common.{◌≡◌, List, Option, Some, ap, sym, ◌∙◌}
use Rattle.std.specs.List.{filter_map}
use Rattle.qm_json.specs.declared.value.Json.{Json}
use Rattle.qm_plan.specs.Templates.{filled, filled_member, filled_layer, filled_member_layer}
use Rattle.qm_plan.specs.declared.templates.{Template.Template, TemplateMember.TemplateMember, Template.TheFolds.fold-roll-Template}
use Rattle.qm_plan.specs.declared.templates.Template.TheVariants as template
use Rattle.qm_plan.specs.declared.templates.Template.TheVariants.{rolls-Object, rolls-Array}
use Rattle.qm_plan.specs.declared.templates.Template.TheOpen as layer
use Rattle.qm_plan.proofs.Gathering.{left-map}

pub filled-Object : (arguments : Json) (members : List TemplateMember) → filled arguments (template.Object members) ≡ Some (template.Object (filter_map (filled_member arguments) members))
filled-Object arguments members =
    ap (filled arguments) (sym (rolls-Object members))
    ∙ fold-roll-Template (Option Template) (Option TemplateMember) (filled_layer arguments) filled_member_layer (layer.Template-F.Object members)
    ∙ ap (λ (l : List TemplateMember). Some (template.Object l)) (left-map (filled_member arguments) members)

pub filled-Array : (arguments : Json) (items : List Template) → filled arguments (template.Array items) ≡ Some (template.Array (filter_map (filled arguments) items))
filled-Array arguments items =
    ap (filled arguments) (sym (rolls-Array items))
    ∙ fold-roll-Template (Option Template) (Option TemplateMember) (filled_layer arguments) filled_member_layer (layer.Template-F.Array items)
    ∙ ap (λ (l : List Template). Some (template.Array l)) (left-map (filled arguments) items)
