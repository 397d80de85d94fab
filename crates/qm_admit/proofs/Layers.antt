-- What is asked of a value, by its outermost layer.
use Rattle.std.proofs.Common.{◌≡◌, ℕ, Bool, true, false, cond, List, [], ◌∷◌, map, refl, ap, sym, ◌∙◌, Option, Some}
use Rattle.std.specs.Prelude.{find}
use Rattle.std.specs.{Option.option_map, Option.option_and_then, Str.bytes_eq}
use Rattle.qm_json.specs.declared.value.{Json.Json, Json.roll-Json, Json.out-Json, Json.map-Json, Member.Member, Json.TheOpen.Json-F, Json.TheOpen.Member-F, Json.TheFolds.fold-Member, Json.TheFolds.fold-roll-Json, Json.TheFolds.fold-roll-Member}
use Rattle.qm_json.specs.declared.value.Json.TheOpen as layer
use Rattle.qm_json.specs.declared.value.Json.TheViews.{roll-out-Json}
use Rattle.qapi_types.specs.declared.kind.{JsonKind.JsonKind, Kind.Kind}
use Rattle.qapi_types.specs.Types.{kind_of}
use Rattle.qm_admit.specs.{Fitting.chosen, Fitting.text_in as text_given, Tags.chosen_by}
use Rattle.qm_admit.specs.Misfits.{Inner, NamedInner, inner_layer, named_layer, inner_of, text_of_layer, text_in, first_misfit, walked_as, alternative_of}
use Rattle.qm_admit.specs.Views.{layer_view, string_in, string_of, kind_in}
use Rattle.qm_admit.specs.Walks.{asked, inners, named_inner}

folded : List Kind → Member → NamedInner
folded table = fold-Member Inner NamedInner (inner_layer table) named_layer

folded-is : (table : List Kind) (m : Member) → folded table m ≡ named_inner table m
unfolding folded
folded-is table m = fold-roll-Member Inner NamedInner (inner_layer table) named_layer record { name = m.name; value = m.value }

folded-all : (table : List Kind) (given : List Member) → map (folded table) given ≡ inners table given
folded-all table [] = refl
folded-all table (m ∷ given) = λ j. folded-is table m j ∷ folded-all table given j

mapped : (table : List Kind) (y : Json-F Json Member) → map-Json Json Member Inner NamedInner (inner_of table) (folded table) y ≡ asked table y
unfolding asked
mapped table layer.Json-F.Null = refl
mapped table (layer.Json-F.Bool b) = refl
mapped table (layer.Json-F.Int n) = refl
mapped table (layer.Json-F.Num text) = refl
mapped table (layer.Json-F.Str bytes) = refl
mapped table (layer.Json-F.Arr items) = refl
mapped table (layer.Json-F.Obj given) = ap layer.Json-F.Obj (folded-all table given)

rolled : (table : List Kind) (y : Json-F Json Member) → inner_of table (roll-Json y) ≡ inner_layer table (map-Json Json Member Inner NamedInner (inner_of table) (folded table) y)
unfolding folded
rolled table y = fold-roll-Json Inner NamedInner (inner_layer table) named_layer y

pub inner-is : (table : List Kind) (v : Json) → inner_of table v ≡ inner_layer table (asked table (out-Json v))
inner-is table v = ap (inner_of table) (sym (roll-out-Json v)) ∙ rolled table (out-Json v) ∙ ap (inner_layer table) (mapped table (out-Json v))

kind-asked : (table : List Kind) (y : Json-F Json Member) → kind_in (asked table y) ≡ kind_in y
unfolding asked
kind-asked table layer.Json-F.Null = refl
kind-asked table (layer.Json-F.Bool b) = refl
kind-asked table (layer.Json-F.Int n) = refl
kind-asked table (layer.Json-F.Num text) = refl
kind-asked table (layer.Json-F.Str bytes) = refl
kind-asked table (layer.Json-F.Arr items) = refl
kind-asked table (layer.Json-F.Obj given) = refl

text-asked : (table : List Kind) (y : Json-F Json Member) → text_of_layer (asked table y) ≡ string_in (layer_view y)
unfolding asked
text-asked table layer.Json-F.Null = refl
text-asked table (layer.Json-F.Bool b) = refl
text-asked table (layer.Json-F.Int n) = refl
text-asked table (layer.Json-F.Num text) = refl
text-asked table (layer.Json-F.Str bytes) = refl
text-asked table (layer.Json-F.Arr items) = refl
text-asked table (layer.Json-F.Obj given) = refl

-- the first fault of a value, where an alternate is resolved first
pub first-is : (table : List Kind) (t : ℕ) (v : Json) → first_misfit table t v ≡ walked_as table (alternative_of table (kind_in (out-Json v)) t (kind_of table t)) (asked table (out-Json v))
first-is table t v = ap (λ (x : Inner). x.misfit t) (inner-is table v)
    ∙ ap (λ (sort : JsonKind). walked_as table (alternative_of table sort t (kind_of table t)) (asked table (out-Json v))) (kind-asked table (out-Json v))

text-is : (table : List Kind) (v : Json) → (inner_of table v).text ≡ string_of v
text-is table v = ap (λ (x : Inner). x.text) (inner-is table v) ∙ text-asked table (out-Json v)

text-in : (table : List Kind) (given : List Member) (name : List ℕ) → text_in (inners table given) name ≡ text_given given name
text-in table [] name = refl
text-in table (m ∷ given) name = by_case (text-in table given name) (bytes_eq m.name name)
  where
    by_case : text_in (inners table given) name ≡ text_given given name → (b : Bool) → option_and_then (λ (x : NamedInner). x.inner.text) (cond b (Some (named_inner table m)) (find (λ (x : NamedInner). bytes_eq x.name name) (inners table given))) ≡ option_and_then string_of (option_map (λ (m : Member). m.value) (cond b (Some m) (find (λ (m : Member). bytes_eq m.name name) given)))
    by_case go true = text-is table m.value
    by_case go false = go

-- the branch that is chosen is the same, seen in the values or in what is asked of them
pub chosen-in : (table : List Kind) (given : List Member) (t : ℕ) → chosen_by (text_in (inners table given)) table t ≡ chosen table given t
chosen-in table given t = ap (λ (f : List ℕ → Option (List ℕ)). chosen_by f table t) (λ j name. text-in table given name j)
