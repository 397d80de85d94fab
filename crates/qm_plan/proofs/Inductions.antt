-- Properties that pass from the parts of a template to the template, and what is asked of a clean template, layer by layer.
use Rattle.std.proofs.Common.{◌≡◌, ℕ, Bool, ◌&&◌, List, [], ◌∷◌, map, refl, ap, sym, ◌∙◌, subst}
use Rattle.std.specs.{List.AllByRecursion, List.list_all, Str.is_utf8}
use Rattle.std.proofs.lemmas.List.Folds.{list_all-map}
use Rattle.qm_json.specs.{declared.value.Json.Json, Cleanness.NameAndTest, Cleanness.are_distinct, Cleanness.is_clean}
use Rattle.qm_plan.specs.Cleanness.{is_clean_template, is_clean_member, clean_layer, clean_member_layer}
use Rattle.qm_plan.specs.declared.templates.{Template.Template, Template.roll-Template, Template.map-Template, TemplateMember.TemplateMember}
use Rattle.qm_plan.specs.declared.templates.Template.{TheFolds.ind-Template, TheFolds.fold-TemplateMember, TheFolds.fold-roll-Template, TheFolds.fold-roll-TemplateMember, TheOpen.Template-F}
use Rattle.qm_plan.specs.declared.templates.Template.TheVariants as template
use Rattle.qm_plan.specs.declared.templates.Template.TheVariants.{rolls-Const, rolls-Arg, rolls-Args, rolls-Cell, rolls-Tally, rolls-Object, rolls-Array, rolls-Version, rolls-Commands, rolls-Introspection, rolls-Jobs}
use Rattle.qm_plan.specs.declared.templates.Template.TheOpen as layer

-- what is asked of each sort of template, where its parts have the property
pub record Inductive (P : Template → Type 0) : Type 0 where
  pub constant : (value : Json) → P (template.Const value)
  pub arg : (name : List ℕ) → P (template.Arg name)
  pub args : P template.Args
  pub cell : (name : List ℕ) → P (template.Cell name)
  pub tally : (name : List ℕ) → P (template.Tally name)
  pub object : (members : List TemplateMember) → AllByRecursion (λ (m : TemplateMember). P m.template) members → P (template.Object members)
  pub array : (items : List Template) → AllByRecursion P items → P (template.Array items)
  pub version : P template.Version
  pub commands : P template.Commands
  pub introspection : P template.Introspection
  pub jobs : P template.Jobs

each : {X : Type 0} (P : X → Type 0) (xs : List ((x : X) × P x)) → AllByRecursion P (map (λ e. e.0) xs)
each P [] = tt
each P (x ∷ xs) = (x.1, each P xs)

-- y is a layer with the property beside each part
layered : (P : Template → Type 0) → Inductive P → (y : Template-F ((t : Template) × P t) ((m : TemplateMember) × P m.template)) →
    P (roll-Template (map-Template ((t : Template) × P t) ((m : TemplateMember) × P m.template) Template TemplateMember (λ e. e.0) (λ e. e.0) y))
layered P h (layer.Template-F.Const value) = subst P (sym (rolls-Const value)) (h.constant value)
layered P h (layer.Template-F.Arg name) = subst P (sym (rolls-Arg name)) (h.arg name)
layered P h layer.Template-F.Args = subst P (sym rolls-Args) h.args
layered P h (layer.Template-F.Cell name) = subst P (sym (rolls-Cell name)) (h.cell name)
layered P h (layer.Template-F.Tally name) = subst P (sym (rolls-Tally name)) (h.tally name)
layered P h (layer.Template-F.Object members) = subst P (sym (rolls-Object (map (λ e. e.0) members))) (h.object (map (λ e. e.0) members) (each (λ (m : TemplateMember). P m.template) members))
layered P h (layer.Template-F.Array items) = subst P (sym (rolls-Array (map (λ e. e.0) items))) (h.array (map (λ e. e.0) items) (each P items))
layered P h layer.Template-F.Version = subst P (sym rolls-Version) h.version
layered P h layer.Template-F.Commands = subst P (sym rolls-Commands) h.commands
layered P h layer.Template-F.Introspection = subst P (sym rolls-Introspection) h.introspection
layered P h layer.Template-F.Jobs = subst P (sym rolls-Jobs) h.jobs

-- each template has a property that passes from its parts to it
pub every-Template : (P : Template → Type 0) → Inductive P → (t : Template) → P t
every-Template P h = ind-Template P (λ (m : TemplateMember). P m.template)
    (λ x y is. subst (λ z. P (roll-Template z)) is (layered P h y))
    (λ x y is. subst (λ z. P z.template) is y.template.1)

pub is_clean-Const : (value : Json) → is_clean_template (template.Const value) ≡ is_clean value
is_clean-Const value = ap is_clean_template (sym (rolls-Const value)) ∙ fold-roll-Template Bool NameAndTest clean_layer clean_member_layer (layer.Template-F.Const value)

pub is_clean-Array : (items : List Template) → is_clean_template (template.Array items) ≡ list_all is_clean_template items
is_clean-Array items =
    ap is_clean_template (sym (rolls-Array items)) ∙ fold-roll-Template Bool NameAndTest clean_layer clean_member_layer (layer.Template-F.Array items) ∙ list_all-map (λ (b : Bool). b) is_clean_template items

tested : TemplateMember → NameAndTest
tested m = fold-TemplateMember Bool NameAndTest clean_layer clean_member_layer m

tested-is : (m : TemplateMember) → tested m ≡ record { name = m.name; is_clean = is_utf8 m.name && is_clean_template m.template }
unfolding tested
tested-is m = fold-roll-TemplateMember Bool NameAndTest clean_layer clean_member_layer record { name = m.name; template = m.template }

tested-names : (members : List TemplateMember) → map (λ (t : NameAndTest). t.name) (map tested members) ≡ map (λ (m : TemplateMember). m.name) members
tested-names [] = refl
tested-names (m ∷ members) = rw (tested-is m, tested-names members) refl

pub is_clean-Object : (members : List TemplateMember) → is_clean_template (template.Object members) ≡ (are_distinct (map (λ (m : TemplateMember). m.name) members) && list_all is_clean_member members)
unfolding tested
is_clean-Object members = ap is_clean_template (sym (rolls-Object members)) ∙ fold-roll-Template Bool NameAndTest clean_layer clean_member_layer (layer.Template-F.Object members)
    ∙ ap (λ names. are_distinct names && list_all (λ (t : NameAndTest). t.is_clean) (map tested members)) (tested-names members)
    ∙ ap (λ b. are_distinct (map (λ (m : TemplateMember). m.name) members) && b) (list_all-map (λ (t : NameAndTest). t.is_clean) tested members)

pub is_clean_member-is : (m : TemplateMember) → is_clean_member m ≡ (is_utf8 m.name && is_clean_template m.template)
unfolding tested
is_clean_member-is m = ap (λ (t : NameAndTest). t.is_clean) (tested-is m)
