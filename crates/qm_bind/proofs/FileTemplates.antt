-- Templates that a file can say, by their outermost layer, and that those which a file gives are such, and clean.
use Rattle.std.proofs.Common.{◌≡◌, ℕ, Bool, true, false, cond, if◌then◌else◌, List, [], ◌∷◌, map, Option, Some, None, option_map, refl, ap, sym, ◌∙◌, subst}
use Rattle.std.specs.Prelude.{codes}
use Rattle.std.specs.{List.AllByRecursion, List.list_all, Str.bytes_eq, Str.is_utf8}
use Rattle.std.proofs.lemmas.{Bool.and_from, Bool.and_parts, List.Folds.list_all-map}
use Rattle.qm_json.specs.declared.value.{Json.Json, Json.out-Json, Member.Member, Json.TheOpen.Json-F}
use Rattle.qm_json.specs.declared.value.Json.TheVariants as json
use Rattle.qm_json.specs.declared.value.Json.TheOpen as json_layer
use Rattle.qm_json.specs.declared.value.Json.TheViews.{outs-Null, outs-Bool, outs-Int, outs-Num, outs-Str, outs-Arr, outs-Obj}
use Rattle.qm_json.specs.Cleanness.{NameAndTest, are_distinct, is_clean, is_clean_member as is_clean_value_member}
use Rattle.qm_json.proofs.{CleanLaws.is_clean-Arr, CleanLaws.is_clean-Obj, CleanLaws.is_clean_member-is as value_member-is, Inductions.every-Json}
use Rattle.qm_plan.specs.Cleanness.{clean_layer, clean_member_layer, is_clean_member, is_clean_template}
use Rattle.qm_plan.specs.declared.templates.{Template.Template, TemplateMember.TemplateMember}
use Rattle.qm_plan.specs.declared.templates.Template.{TheFolds.fold-TemplateMember, TheFolds.fold-roll-Template, TheFolds.fold-roll-TemplateMember}
use Rattle.qm_plan.specs.declared.templates.Template.TheVariants as template
use Rattle.qm_plan.specs.declared.templates.Template.TheVariants.{rolls-Const, rolls-Arg, rolls-Args, rolls-Cell, rolls-Tally, rolls-Object, rolls-Array}
use Rattle.qm_plan.specs.declared.templates.Template.TheOpen as layer
use Rattle.qm_plan.proofs.Inductions.{is_clean-Array, is_clean-Const, is_clean-Object, is_clean_member-is}
use Rattle.qm_bind.specs.{Goodness.file_layer, Goodness.file_member_layer, Goodness.is_file_template, Grammar.Scope, Grammar.each_of, Grammar.is_true, Grammar.known_name, Grammar.naming_template, Grammar.simple_template, Grammar.template_of, Grammar.text_of, Grammar.where_known, Grammar.with_each, Grammar.with_name}
use Rattle.qm_bind.specs.Walks.{is_file_member, item_templates, layer_members, layer_template, layer_templates, member_template, member_templates, template_among, template_at}
use Rattle.qm_bind.proofs.Layers.{template-is}

pub file-Const : (scope : Scope) (value : Json) → is_file_template scope (template.Const value) ≡ true
file-Const scope value = ap (is_file_template scope) (sym (rolls-Const value)) ∙ fold-roll-Template Bool Bool (file_layer scope) file_member_layer (layer.Template-F.Const value)

pub file-Arg : (scope : Scope) (name : List ℕ) → is_file_template scope (template.Arg name) ≡ scope.is_argument name
file-Arg scope name = ap (is_file_template scope) (sym (rolls-Arg name)) ∙ fold-roll-Template Bool Bool (file_layer scope) file_member_layer (layer.Template-F.Arg name)

pub file-Args : (scope : Scope) → is_file_template scope template.Args ≡ true
file-Args scope = ap (is_file_template scope) (sym rolls-Args) ∙ fold-roll-Template Bool Bool (file_layer scope) file_member_layer layer.Template-F.Args

pub file-Cell : (scope : Scope) (name : List ℕ) → is_file_template scope (template.Cell name) ≡ scope.is_cell name
file-Cell scope name = ap (is_file_template scope) (sym (rolls-Cell name)) ∙ fold-roll-Template Bool Bool (file_layer scope) file_member_layer (layer.Template-F.Cell name)

pub file-Tally : (scope : Scope) (name : List ℕ) → is_file_template scope (template.Tally name) ≡ scope.is_tally name
file-Tally scope name = ap (is_file_template scope) (sym (rolls-Tally name)) ∙ fold-roll-Template Bool Bool (file_layer scope) file_member_layer (layer.Template-F.Tally name)

pub file-Array : (scope : Scope) (items : List Template) → is_file_template scope (template.Array items) ≡ list_all (is_file_template scope) items
file-Array scope items =
    ap (is_file_template scope) (sym (rolls-Array items)) ∙ fold-roll-Template Bool Bool (file_layer scope) file_member_layer (layer.Template-F.Array items) ∙ list_all-map (λ (b : Bool). b) (is_file_template scope) items

pub clean-Arg : (name : List ℕ) → is_clean_template (template.Arg name) ≡ true
clean-Arg name = ap is_clean_template (sym (rolls-Arg name)) ∙ fold-roll-Template Bool NameAndTest clean_layer clean_member_layer (layer.Template-F.Arg name)

clean-Args : is_clean_template template.Args ≡ true
clean-Args = ap is_clean_template (sym rolls-Args) ∙ fold-roll-Template Bool NameAndTest clean_layer clean_member_layer layer.Template-F.Args

clean-Cell : (name : List ℕ) → is_clean_template (template.Cell name) ≡ true
clean-Cell name = ap is_clean_template (sym (rolls-Cell name)) ∙ fold-roll-Template Bool NameAndTest clean_layer clean_member_layer (layer.Template-F.Cell name)

clean-Tally : (name : List ℕ) → is_clean_template (template.Tally name) ≡ true
clean-Tally name = ap is_clean_template (sym (rolls-Tally name)) ∙ fold-roll-Template Bool NameAndTest clean_layer clean_member_layer (layer.Template-F.Tally name)

tested : Scope → TemplateMember → Bool
tested scope m = fold-TemplateMember Bool Bool (file_layer scope) file_member_layer m

tested-is : (scope : Scope) (m : TemplateMember) → tested scope m ≡ is_file_member scope m
unfolding tested
tested-is scope m = fold-roll-TemplateMember Bool Bool (file_layer scope) file_member_layer record { name = m.name; template = m.template }

pub file-Object : (scope : Scope) (members : List TemplateMember) → is_file_template scope (template.Object members) ≡ list_all (is_file_member scope) members
unfolding tested
file-Object scope members =
    ap (is_file_template scope) (sym (rolls-Object members)) ∙ fold-roll-Template Bool Bool (file_layer scope) file_member_layer (layer.Template-F.Object members) ∙ list_all-map (λ (b : Bool). b) (tested scope) members
    ∙ (λ j. list_all (λ m. tested-is scope m j) members)

-- a file can say the template, and a text can spell it
pub record IsSaid (scope : Scope) (t : Template) : Type 0 where
  pub file : is_file_template scope t ≡ true
  pub clean : is_clean_template t ≡ true

pub record AreSaid (scope : Scope) (ts : List Template) : Type 0 where
  pub file : list_all (is_file_template scope) ts ≡ true
  pub clean : list_all is_clean_template ts ≡ true

pub record AreSaidMembers (scope : Scope) (members : List Member) (ms : List TemplateMember) : Type 0 where
  pub file : list_all (is_file_member scope) ms ≡ true
  pub clean : list_all is_clean_member ms ≡ true
  pub names : map (λ (m : TemplateMember). m.name) ms ≡ map (λ (m : Member). m.name) members

-- the same of what is given, where something is
abbrev IfSaid : {A : Type 0} → (A → Type 0) → Option A → Type 0
IfSaid P None = Unit {0}
IfSaid P (Some x) = P x

abbrev AreSaidObject : Scope → List TemplateMember → Type 0
AreSaidObject scope ms = (list_all (is_file_member scope) ms ≡ true) × (is_clean_template (template.Object ms) ≡ true)

-- what a value gives as a template, as items and as members
record Says (scope : Scope) (v : Json) : Type 0 where
  pub template : IfSaid (IsSaid scope) (template_of scope v)
  pub items : IfSaid (AreSaid scope) (item_templates scope v)
  pub members : IfSaid (AreSaidObject scope) (member_templates scope v)

SaysClean : Scope → Json → Type 0
SaysClean scope v = is_clean v ≡ true → Says scope v

said-items : (scope : Scope) (items : List Json) → AllByRecursion (SaysClean scope) items → list_all is_clean items ≡ true → IfSaid (AreSaid scope) (each_of (map (template_of scope) items))
unfolding SaysClean
said-items scope [] all h = record { file = refl; clean = refl }
said-items scope (v ∷ items) all h =
    let parts = and_parts (is_clean v) (list_all is_clean items) h in
    both (template_of scope v) (each_of (map (template_of scope) items)) (all.0 parts.0).template (said-items scope items all.1 parts.1)
  where
    both : (o : Option Template) (rest : Option (List Template)) → IfSaid (IsSaid scope) o → IfSaid (AreSaid scope) rest → IfSaid (AreSaid scope) (with_each o rest)
    both None rest one more = tt
    both (Some t) None one more = tt
    both (Some t) (Some ts) one more = record { file = and_from _ _ one.file more.file; clean = and_from _ _ one.clean more.clean }

said-members : (scope : Scope) (members : List Member) → AllByRecursion (λ (m : Member). SaysClean scope m.value) members → list_all is_clean_value_member members ≡ true → IfSaid (AreSaidMembers scope members) (each_of (map (member_template scope) members))
unfolding SaysClean
said-members scope [] all h = record { file = refl; clean = refl; names = refl }
said-members scope (m ∷ members) all h =
    let parts = and_parts (is_clean_value_member m) (list_all is_clean_value_member members) h in
    let own = and_parts (is_utf8 m.name) (is_clean m.value) (sym (value_member-is m) ∙ parts.0) in
    both own.0 (template_of scope m.value) (each_of (map (member_template scope) members)) (all.0 own.1).template (said-members scope members all.1 parts.1)
  where
    both : is_utf8 m.name ≡ true → (o : Option Template) (rest : Option (List TemplateMember)) → IfSaid (IsSaid scope) o → IfSaid (AreSaidMembers scope members) rest → IfSaid (AreSaidMembers scope (m ∷ members)) (with_each (option_map (with_name m.name) o) rest)
    both name None rest one more = tt
    both name (Some t) None one more = tt
    both name (Some t) (Some ms) one more = record {
      file = and_from _ _ one.file more.file;
      clean = and_from _ _ (is_clean_member-is record { name = m.name; template = t } ∙ and_from _ _ name one.clean) more.clean;
      names = λ j. m.name ∷ more.names j;
    }

said-object : (scope : Scope) (members : List Member) (o : Option (List TemplateMember)) → are_distinct (map (λ (m : Member). m.name) members) ≡ true → IfSaid (AreSaidMembers scope members) o → IfSaid (AreSaidObject scope) o
said-object scope members None d h = tt
said-object scope members (Some ms) d h = (h.file, is_clean-Object ms ∙ and_from _ _ (ap are_distinct h.names ∙ d) h.clean)

-- what a template names is known
known-said : (scope : Scope) (is_known : List ℕ → Bool) (make : List ℕ → Template) → ((name : List ℕ) → is_known name ≡ true → IsSaid scope (make name)) → (v : Json) → IfSaid (IsSaid scope) (option_map make (known_name is_known v))
known-said scope is_known make says v = by_text (text_of v)
  where
    by_known : (name : List ℕ) (b : Bool) → is_known name ≡ b → IfSaid (IsSaid scope) (option_map make (cond b (Some name) None))
    by_known name true h = says name h
    by_known name false h = tt

    by_text : (o : Option (List ℕ)) → IfSaid (IsSaid scope) (option_map make (where_known is_known o))
    by_text None = tt
    by_text (Some name) = by_known name (is_known name) refl

said-naming : (scope : Scope) (name : List ℕ) (v : Json) → IfSaid (IsSaid scope) (naming_template scope name v)
said-naming scope name v = by_arg (bytes_eq name (codes "arg"))
  where
    by_tally : (b : Bool) → IfSaid (IsSaid scope) (if b then option_map template.Tally (known_name scope.is_tally v) else None)
    by_tally true = known-said scope scope.is_tally template.Tally (λ n h. record { file = file-Tally scope n ∙ h; clean = clean-Tally n }) v
    by_tally false = tt

    by_cell : (b : Bool) → IfSaid (IsSaid scope) (if b then option_map template.Cell (known_name scope.is_cell v) else if bytes_eq name (codes "tally") then option_map template.Tally (known_name scope.is_tally v) else None)
    by_cell true = known-said scope scope.is_cell template.Cell (λ n h. record { file = file-Cell scope n ∙ h; clean = clean-Cell n }) v
    by_cell false = by_tally (bytes_eq name (codes "tally"))

    by_arg : (b : Bool) → IfSaid (IsSaid scope) (if b then option_map template.Arg (known_name scope.is_argument v) else if bytes_eq name (codes "cell") then option_map template.Cell (known_name scope.is_cell v) else if bytes_eq name (codes "tally") then option_map template.Tally (known_name scope.is_tally v) else None)
    by_arg true = known-said scope scope.is_argument template.Arg (λ n h. record { file = file-Arg scope n ∙ h; clean = clean-Arg n }) v
    by_arg false = by_cell (bytes_eq name (codes "cell"))

said-simple : (scope : Scope) (name : List ℕ) (v : Json) → is_clean v ≡ true → IfSaid (IsSaid scope) (simple_template scope name v)
said-simple scope name v h = by_const (bytes_eq name (codes "const"))
  where
    by_true : (b : Bool) → IfSaid (IsSaid scope) (if b then Some template.Args else None)
    by_true true = record { file = file-Args scope; clean = clean-Args }
    by_true false = tt

    by_args : (b : Bool) → IfSaid (IsSaid scope) (if b then (if is_true v then Some template.Args else None) else naming_template scope name v)
    by_args true = by_true (is_true v)
    by_args false = said-naming scope name v

    by_const : (b : Bool) → IfSaid (IsSaid scope) (if b then Some (template.Const v) else if bytes_eq name (codes "args") then (if is_true v then Some template.Args else None) else naming_template scope name v)
    by_const true = record { file = file-Const scope v; clean = is_clean-Const v ∙ h }
    by_const false = by_args (bytes_eq name (codes "args"))

said-at : (scope : Scope) (m : Member) → is_clean m.value ≡ true → Says scope m.value → IfSaid (IsSaid scope) (template_at scope m)
said-at scope m h s = by_object (bytes_eq m.name (codes "object"))
  where
    of_members : (o : Option (List TemplateMember)) → IfSaid (AreSaidObject scope) o → IfSaid (IsSaid scope) (option_map template.Object o)
    of_members None h = tt
    of_members (Some ms) h = record { file = file-Object scope ms ∙ h.0; clean = h.1 }

    of_items : (o : Option (List Template)) → IfSaid (AreSaid scope) o → IfSaid (IsSaid scope) (option_map template.Array o)
    of_items None h = tt
    of_items (Some ts) h = record { file = file-Array scope ts ∙ h.file; clean = is_clean-Array ts ∙ h.clean }

    by_array : (b : Bool) → IfSaid (IsSaid scope) (if b then option_map template.Array (item_templates scope m.value) else simple_template scope m.name m.value)
    by_array true = of_items (item_templates scope m.value) s.items
    by_array false = said-simple scope m.name m.value h

    by_object : (b : Bool) → IfSaid (IsSaid scope) (if b then option_map template.Object (member_templates scope m.value) else if bytes_eq m.name (codes "array") then option_map template.Array (item_templates scope m.value) else simple_template scope m.name m.value)
    by_object true = of_members (member_templates scope m.value) s.members
    by_object false = by_array (bytes_eq m.name (codes "array"))

said-among : (scope : Scope) (members : List Member) → AllByRecursion (λ (m : Member). SaysClean scope m.value) members → list_all is_clean_value_member members ≡ true → IfSaid (IsSaid scope) (template_among scope members)
unfolding SaysClean
said-among scope [] all h = tt
said-among scope (m ∷ []) all h =
    let parts = and_parts (is_clean_value_member m) true h in
    let own = and_parts (is_utf8 m.name) (is_clean m.value) (sym (value_member-is m) ∙ parts.0) in
    said-at scope m own.1 (all.0 own.1)
said-among scope (m ∷ n ∷ members) all h = tt

-- what a value that is neither an array nor an object says: nothing
says-nothing : (scope : Scope) (v : Json) (y : Json-F Json Member) → out-Json v ≡ y → layer_template scope y ≡ None → layer_templates scope y ≡ None → layer_members scope y ≡ None → SaysClean scope v
unfolding SaysClean
says-nothing scope v y e t i m h = record {
  template = subst (IfSaid (IsSaid scope)) (sym (template-is scope v ∙ ap (layer_template scope) e ∙ t)) tt;
  items = subst (IfSaid (AreSaid scope)) (sym (ap (layer_templates scope) e ∙ i)) tt;
  members = subst (IfSaid (AreSaidObject scope)) (sym (ap (layer_members scope) e ∙ m)) tt;
}

says-array : (scope : Scope) (items : List Json) → AllByRecursion (SaysClean scope) items → SaysClean scope (json.Arr items)
unfolding SaysClean
says-array scope items all h = record {
  template = subst (IfSaid (IsSaid scope)) (sym (template-is scope (json.Arr items) ∙ ap (layer_template scope) (outs-Arr items))) tt;
  items = subst (IfSaid (AreSaid scope)) (sym (ap (layer_templates scope) (outs-Arr items))) (said-items scope items all (sym (is_clean-Arr items) ∙ h));
  members = subst (IfSaid (AreSaidObject scope)) (sym (ap (layer_members scope) (outs-Arr items))) tt;
}

says-object : (scope : Scope) (members : List Member) → AllByRecursion (λ (m : Member). SaysClean scope m.value) members → SaysClean scope (json.Obj members)
unfolding SaysClean
says-object scope members all h =
    let parts = and_parts _ _ (sym (is_clean-Obj members) ∙ h) in
    record {
      template = subst (IfSaid (IsSaid scope)) (sym (template-is scope (json.Obj members) ∙ ap (layer_template scope) (outs-Obj members))) (said-among scope members all parts.1);
      items = subst (IfSaid (AreSaid scope)) (sym (ap (layer_templates scope) (outs-Obj members))) tt;
      members = subst (IfSaid (AreSaidObject scope)) (sym (ap (layer_members scope) (outs-Obj members))) (said-object scope members (each_of (map (member_template scope) members)) parts.0 (said-members scope members all parts.1));
    }

says : (scope : Scope) (v : Json) → SaysClean scope v
says scope = every-Json (SaysClean scope) (record {
  null = says-nothing scope json.Null json_layer.Json-F.Null outs-Null refl refl refl;
  bool = λ b. says-nothing scope (json.Bool b) (json_layer.Json-F.Bool b) (outs-Bool b) refl refl refl;
  int = λ n. says-nothing scope (json.Int n) (json_layer.Json-F.Int n) (outs-Int n) refl refl refl;
  num = λ text. says-nothing scope (json.Num text) (json_layer.Json-F.Num text) (outs-Num text) refl refl refl;
  string = λ bytes. says-nothing scope (json.Str bytes) (json_layer.Json-F.Str bytes) (outs-Str bytes) refl refl refl;
  array = λ items all. says-array scope items all;
  object = λ members all. says-object scope members all;
})

-- the template that a clean value is can be said in a file, and is clean
pub template-said : (scope : Scope) (v : Json) (t : Template) → is_clean v ≡ true → template_of scope v ≡ Some t → IsSaid scope t
unfolding SaysClean
template-said scope v t h e = subst (IfSaid (IsSaid scope)) e (says scope v h).template
