-- What templates stand for (this project's own rule).
use Rattle.std.specs.Prelude.{Option, Some, option_map, unwrap_or, pos}
use Rattle.std.specs.List.{filter_map}
use Rattle.qm_json.specs.{declared.value.Json.Json, declared.value.Member.Member, Members.member_of}
use Rattle.qm_json.specs.declared.value.Json.TheVariants as json
use Rattle.qm_plan.specs.{Stores.Contents, Stores.cell_of, Stores.tally_of, declared.facts.Facts.Facts}
use Rattle.qm_plan.specs.declared.templates.{Template.Template, TemplateMember.TemplateMember, Template.TheOpen.Template-F, Template.TheOpen.TemplateMember-F, Template.TheFolds.fold-Template, Template.TheFolds.fold-TemplateMember}
use Rattle.qm_plan.specs.declared.templates.Template.TheVariants as template
use Rattle.qm_plan.specs.declared.templates.Template.TheOpen as layer

-- a member of an object is left out with its template
abbrev pub filled_member_layer : TemplateMember-F (Option Template) (Option TemplateMember) → Option TemplateMember
filled_member_layer m = option_map (λ t. record { name = m.name; template = t }) m.template

-- one layer, with what is left of each inner template in its place
abbrev pub filled_layer : Json → Template-F (Option Template) (Option TemplateMember) → Option Template
filled_layer arguments (layer.Template-F.Const value) = Some (template.Const value)
filled_layer arguments (layer.Template-F.Arg name) = option_map template.Const (member_of arguments name)
filled_layer arguments layer.Template-F.Args = Some (template.Const arguments)
filled_layer arguments (layer.Template-F.Cell name) = Some (template.Cell name)
filled_layer arguments (layer.Template-F.Tally name) = Some (template.Tally name)
filled_layer arguments (layer.Template-F.Object members) = Some (template.Object (filter_map (λ m. m) members))
filled_layer arguments (layer.Template-F.Array items) = Some (template.Array (filter_map (λ item. item) items))
filled_layer arguments layer.Template-F.Version = Some template.Version
filled_layer arguments layer.Template-F.Commands = Some template.Commands
filled_layer arguments layer.Template-F.Introspection = Some template.Introspection
filled_layer arguments layer.Template-F.Jobs = Some template.Jobs

-- the template with arguments in their places; nothing is left of an argument that is absent, nor of
-- its member of an object or its place in an array
abbrev pub filled : Json → Template → Option Template
filled arguments = fold-Template (Option Template) (Option TemplateMember) (filled_layer arguments) filled_member_layer

-- the same of a member
abbrev pub filled_member : Json → TemplateMember → Option TemplateMember
filled_member arguments = fold-TemplateMember (Option Template) (Option TemplateMember) (filled_layer arguments) filled_member_layer

abbrev pub value_member_layer : TemplateMember-F Json Member → Member
value_member_layer m = record { name = m.name; value = m.template }

-- one layer, with the value of each inner template in its place; what is not there is null, or 0
abbrev pub value_layer : Facts → Contents → Template-F Json Member → Json
value_layer facts store (layer.Template-F.Const value) = value
value_layer facts store (layer.Template-F.Arg name) = json.Null
value_layer facts store layer.Template-F.Args = json.Null
value_layer facts store (layer.Template-F.Cell name) = unwrap_or (cell_of name store) json.Null
value_layer facts store (layer.Template-F.Tally name) = json.Int (pos (unwrap_or (tally_of name store) 0))
value_layer facts store (layer.Template-F.Object members) = json.Obj members
value_layer facts store (layer.Template-F.Array items) = json.Arr items
value_layer facts store layer.Template-F.Version = facts.version
value_layer facts store layer.Template-F.Commands = facts.commands
value_layer facts store layer.Template-F.Introspection = facts.introspection
value_layer facts store layer.Template-F.Jobs = facts.jobs

-- the value that a plan's template stands for
abbrev pub value_of : Facts → Contents → Template → Json
value_of facts store = fold-Template Json Member (value_layer facts store) value_member_layer

-- the same of a member
abbrev pub value_of_member : Facts → Contents → TemplateMember → Member
value_of_member facts store = fold-TemplateMember Json Member (value_layer facts store) value_member_layer
