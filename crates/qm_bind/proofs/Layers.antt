-- What a value is read as, by its outermost layer.
use Rattle.std.proofs.Common.{◌≡◌, if◌then◌else◌, List, [], ◌∷◌, map, None, option_map, refl, ap, sym, ◌∙◌}
use Rattle.std.specs.Prelude.{codes}
use Rattle.std.specs.{List.AllByRecursion, Str.bytes_eq}
use Rattle.qm_json.specs.declared.value.{Json.Json, Json.roll-Json, Json.out-Json, Json.map-Json, Member.Member, Json.TheOpen.Json-F, Json.TheOpen.Member-F, Json.TheFolds.fold-Member, Json.TheFolds.fold-roll-Json, Json.TheFolds.fold-roll-Member}
use Rattle.qm_json.specs.declared.value.Json.TheVariants as json
use Rattle.qm_json.specs.declared.value.Json.TheOpen as layer
use Rattle.qm_json.specs.declared.value.Json.TheViews.{roll-out-Json, outs-Obj}
use Rattle.qm_json.specs.declared.value.Json.TheVariants.{rolls-Null, rolls-Bool, rolls-Int, rolls-Num, rolls-Str, rolls-Arr, rolls-Obj}
use Rattle.qm_json.proofs.Inductions.{every-Json}
use Rattle.qm_plan.specs.declared.templates.Template.TheVariants as template
use Rattle.qm_bind.specs.Grammar.{Scope, Reading, NamedReading, each_of, named_template, named_value, reading_layer, reading_member_layer, reading_of, simple_template, template_by, template_in, template_of}
use Rattle.qm_bind.specs.Walks.{item_templates, layer_members, layer_template, layer_templates, member_template, member_templates, template_among, template_at}

folded : Scope → Member → NamedReading
folded scope = fold-Member Reading NamedReading (reading_layer scope) reading_member_layer

named : Scope → Member → NamedReading
named scope m = record { name = m.name; reading = reading_of scope m.value }

folded-is : (scope : Scope) (m : Member) → folded scope m ≡ named scope m
unfolding folded named
folded-is scope m = fold-roll-Member Reading NamedReading (reading_layer scope) reading_member_layer record { name = m.name; value = m.value }

inside : Scope → Json-F Json Member → Json-F Reading NamedReading
inside scope y = map-Json Json Member Reading NamedReading (reading_of scope) (folded scope) y

rolled : (scope : Scope) (y : Json-F Json Member) → reading_of scope (roll-Json y) ≡ reading_layer scope (inside scope y)
unfolding folded inside
rolled scope y = fold-roll-Json Reading NamedReading (reading_layer scope) reading_member_layer y

reading-is : (scope : Scope) (v : Json) → reading_of scope v ≡ reading_layer scope (inside scope (out-Json v))
reading-is scope v = ap (reading_of scope) (sym (roll-out-Json v)) ∙ rolled scope (out-Json v)

items-are : (scope : Scope) (items : List Json) → map (λ (i : Reading). i.template) (map (reading_of scope) items) ≡ map (template_of scope) items
unfolding template_of
items-are scope [] = refl
items-are scope (v ∷ items) = λ j. (reading_of scope v).template ∷ items-are scope items j

members-are : (scope : Scope) (members : List Member) → map named_template (map (folded scope) members) ≡ map (member_template scope) members
unfolding template_of named
members-are scope [] = refl
members-are scope (m ∷ members) = λ j. named_template (folded-is scope m j) ∷ members-are scope members j

items-layer : (scope : Scope) (y : Json-F Json Member) → (reading_layer scope (inside scope y)).items ≡ layer_templates scope y
unfolding inside
items-layer scope layer.Json-F.Null = refl
items-layer scope (layer.Json-F.Bool b) = refl
items-layer scope (layer.Json-F.Int n) = refl
items-layer scope (layer.Json-F.Num text) = refl
items-layer scope (layer.Json-F.Str bytes) = refl
items-layer scope (layer.Json-F.Arr items) = ap each_of (items-are scope items)
items-layer scope (layer.Json-F.Obj members) = refl

members-layer : (scope : Scope) (y : Json-F Json Member) → (reading_layer scope (inside scope y)).members ≡ layer_members scope y
unfolding inside
members-layer scope layer.Json-F.Null = refl
members-layer scope (layer.Json-F.Bool b) = refl
members-layer scope (layer.Json-F.Int n) = refl
members-layer scope (layer.Json-F.Num text) = refl
members-layer scope (layer.Json-F.Str bytes) = refl
members-layer scope (layer.Json-F.Arr items) = refl
members-layer scope (layer.Json-F.Obj members) = ap each_of (members-are scope members)

items-is : (scope : Scope) (v : Json) → (reading_of scope v).items ≡ item_templates scope v
items-is scope v = ap (λ (r : Reading). r.items) (reading-is scope v) ∙ items-layer scope (out-Json v)

members-is : (scope : Scope) (v : Json) → (reading_of scope v).members ≡ member_templates scope v
members-is scope v = ap (λ (r : Reading). r.members) (reading-is scope v) ∙ members-layer scope (out-Json v)

-- a value is read as itself
values-are : (scope : Scope) (items : List Json) → AllByRecursion (λ v. (reading_of scope v).value ≡ v) items → map (λ (i : Reading). i.value) (map (reading_of scope) items) ≡ items
values-are scope [] h = refl
values-are scope (v ∷ items) h = λ j. h.0 j ∷ values-are scope items h.1 j

named-values-are : (scope : Scope) (members : List Member) → AllByRecursion (λ (m : Member). (reading_of scope m.value).value ≡ m.value) members → map named_value (map (folded scope) members) ≡ members
unfolding named
named-values-are scope [] h = refl
named-values-are scope (m ∷ members) h = (λ j. named_value (folded-is scope m j) ∷ map named_value (map (folded scope) members)) ∙ (λ j. record { name = m.name; value = h.0 j } ∷ named-values-are scope members h.1 j)

value-of : (scope : Scope) (y : Json-F Json Member) (v : Json) → roll-Json y ≡ v → (reading_layer scope (inside scope y)).value ≡ v → (reading_of scope v).value ≡ v
value-of scope y v is h = ap (λ (u : Json). (reading_of scope u).value) (sym is) ∙ ap (λ (r : Reading). r.value) (rolled scope y) ∙ h

value-is : (scope : Scope) (v : Json) → (reading_of scope v).value ≡ v
unfolding inside
value-is scope = every-Json (λ v. (reading_of scope v).value ≡ v) (record {
  null = value-of scope layer.Json-F.Null json.Null rolls-Null refl;
  bool = λ b. value-of scope (layer.Json-F.Bool b) (json.Bool b) (rolls-Bool b) refl;
  int = λ n. value-of scope (layer.Json-F.Int n) (json.Int n) (rolls-Int n) refl;
  num = λ text. value-of scope (layer.Json-F.Num text) (json.Num text) (rolls-Num text) refl;
  string = λ bytes. value-of scope (layer.Json-F.Str bytes) (json.Str bytes) (rolls-Str bytes) refl;
  array = λ items all. value-of scope (layer.Json-F.Arr items) (json.Arr items) (rolls-Arr items) (ap json.Arr (values-are scope items all));
  object = λ members all. value-of scope (layer.Json-F.Obj members) (json.Obj members) (rolls-Obj members) (ap json.Obj (named-values-are scope members all));
})

one-is : (scope : Scope) (m : Member) → template_by scope m.name (reading_of scope m.value) ≡ template_at scope m
one-is scope m = λ j.
    if bytes_eq m.name (codes "object") then option_map template.Object (members-is scope m.value j)
    else if bytes_eq m.name (codes "array") then option_map template.Array (items-is scope m.value j)
    else simple_template scope m.name (value-is scope m.value j)

among-is : (scope : Scope) (members : List Member) → template_in scope (map (folded scope) members) ≡ template_among scope members
unfolding named
among-is scope [] = refl
among-is scope (m ∷ []) = ap (λ (n : NamedReading). template_by scope n.name n.reading) (folded-is scope m) ∙ one-is scope m
among-is scope (m ∷ n ∷ members) = refl

template-layer : (scope : Scope) (y : Json-F Json Member) → (reading_layer scope (inside scope y)).template ≡ layer_template scope y
unfolding inside
template-layer scope layer.Json-F.Null = refl
template-layer scope (layer.Json-F.Bool b) = refl
template-layer scope (layer.Json-F.Int n) = refl
template-layer scope (layer.Json-F.Num text) = refl
template-layer scope (layer.Json-F.Str bytes) = refl
template-layer scope (layer.Json-F.Arr items) = refl
template-layer scope (layer.Json-F.Obj members) = among-is scope members

-- a template by the outermost layer of its value
pub template-is : (scope : Scope) (v : Json) → template_of scope v ≡ layer_template scope (out-Json v)
unfolding template_of
template-is scope v = ap (λ (r : Reading). r.template) (reading-is scope v) ∙ template-layer scope (out-Json v)

pub template-object : (scope : Scope) (v : Json) (members : List Member) → v ≡ json.Obj members → template_of scope v ≡ template_among scope members
template-object scope v members is = template-is scope v ∙ ap (layer_template scope) (ap out-Json is ∙ outs-Obj members)

-- what is no object is no template
pub template-other : (scope : Scope) (v : Json) → ((members : List Member) → v ≡ json.Obj members → ⊥) → template_of scope v ≡ None
template-other scope v never = template-is scope v ∙ by_layer (out-Json v) refl
  where
    by_layer : (y : Json-F Json Member) → out-Json v ≡ y → layer_template scope y ≡ None
    by_layer layer.Json-F.Null e = refl
    by_layer (layer.Json-F.Bool b) e = refl
    by_layer (layer.Json-F.Int n) e = refl
    by_layer (layer.Json-F.Num text) e = refl
    by_layer (layer.Json-F.Str bytes) e = refl
    by_layer (layer.Json-F.Arr items) e = refl
    by_layer (layer.Json-F.Obj members) e = absurd (never members (sym (roll-out-Json v) ∙ ap roll-Json e ∙ rolls-Obj members))
