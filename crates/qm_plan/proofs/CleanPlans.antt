-- Clean recipes and arguments give clean plans.
use Rattle.std.proofs.Common.{◌≡◌, ℕ, Bool, true, false, cond, not, List, [], ◌∷◌, codes, map, find, Option, Some, None, option_map, unwrap_or, refl, ap, sym, ◌∙◌}
use Rattle.std.specs.{List.AllByRecursion, List.cons_option, List.filter_map, List.list_all, List.list_any, Option.option_map_or, Str.bytes_eq, Str.is_utf8}
use Rattle.std.proofs.lemmas.{Bool.and_from, Bool.and_parts, Bool.or_from, Bool.or_parts, Bool.not-true}
use Rattle.qm_json.specs.{declared.value.Json.Json, declared.value.Member.Member, Cleanness.are_distinct, Cleanness.is_clean, Cleanness.is_clean_member as clean_json_member, Members.layer_members, Members.member_of, Members.members_of, Members.value_in}
use Rattle.qm_json.specs.declared.value.Json.TheVariants as json
use Rattle.qm_json.specs.declared.value.Json.TheViews.{outs-Null, outs-Bool, outs-Int, outs-Num, outs-Str, outs-Arr, outs-Obj}
use Rattle.qm_json.proofs.{CleanLaws.is_clean-Obj, CleanLaws.is_clean_member-is as json_member-is, Inductions.every-Json}
use Rattle.qm_plan.specs.{Cleanness.is_clean_act, Cleanness.is_clean_member, Cleanness.is_clean_template, Cleanness.IsCleanPlan, Cleanness.IsCleanRecipe, Plans.arguments_of, Plans.filled_act, Plans.filled_or_empty, Plans.given_arguments, Plans.no_members, Plans.plan_of}
use Rattle.qm_plan.specs.Templates.{filled, filled_layer, filled_member, filled_member_layer}
use Rattle.qm_plan.specs.declared.{calls.Call.Call, recipes.Act.Act, recipes.Recipe.Recipe, templates.Template.Template, templates.TemplateMember.TemplateMember}
use Rattle.qm_plan.specs.declared.recipes.Act.TheVariants as act
use Rattle.qm_plan.specs.declared.templates.Template.{TheFolds.fold-roll-Template, TheFolds.fold-roll-TemplateMember, TheOpen.Template-F}
use Rattle.qm_plan.specs.declared.templates.Template.TheVariants as template
use Rattle.qm_plan.specs.declared.templates.Template.TheVariants.{rolls-Const, rolls-Arg, rolls-Args, rolls-Cell, rolls-Tally, rolls-Version, rolls-Commands, rolls-Introspection, rolls-Jobs}
use Rattle.qm_plan.specs.declared.templates.Template.TheOpen as layer
use Rattle.qm_plan.proofs.{FillLaws.filled-Array, FillLaws.filled-Object, Inductions.every-Template, Inductions.is_clean-Array, Inductions.is_clean-Const, Inductions.is_clean-Object, Inductions.is_clean_member-is}

-- what a clean object holds is clean
holds-clean : (members : List Member) (name : List ℕ) (w : Json) → list_all clean_json_member members ≡ true → value_in members name ≡ Some w → is_clean w ≡ true
holds-clean [] name w h is = absurd cc
holds-clean (m ∷ members) name w h is = either (bytes_eq m.name name) is (λ e. holds-clean members name w (and_parts (clean_json_member m) _ h).1 e) where
  parts : (clean_json_member m ≡ true) × (list_all clean_json_member members ≡ true)
  parts = and_parts (clean_json_member m) (list_all clean_json_member members) h

  either : (b : Bool) → option_map (λ (m : Member). m.value) (cond b (Some m) (find (λ m. bytes_eq m.name name) members)) ≡ Some w →
      (value_in members name ≡ Some w → is_clean w ≡ true) → is_clean w ≡ true
  either true is more =
      let same : m.value ≡ w = cc in
      ap is_clean (sym same) ∙ (and_parts (is_utf8 m.name) (is_clean m.value) (sym (json_member-is m) ∙ parts.0)).1
  either false is more = more is

HoldsClean : Json → Type 0
HoldsClean v = is_clean v ≡ true → (name : List ℕ) (w : Json) → member_of v name ≡ Some w → is_clean w ≡ true

no-members : (v : Json) → members_of v ≡ [] → HoldsClean v
unfolding HoldsClean
no-members v e h name w is = absurd (let none : value_in [] name ≡ Some w = ap (λ (l : List Member). value_in l name) (sym e) ∙ is in cc)

pub member-clean : (v : Json) (name : List ℕ) (w : Json) → is_clean v ≡ true → member_of v name ≡ Some w → is_clean w ≡ true
unfolding HoldsClean
member-clean v name w h is = every-Json HoldsClean record {
  null = no-members json.Null (ap layer_members outs-Null);
  bool = λ b. no-members (json.Bool b) (ap layer_members (outs-Bool b));
  int = λ n. no-members (json.Int n) (ap layer_members (outs-Int n));
  num = λ text. no-members (json.Num text) (ap layer_members (outs-Num text));
  string = λ bytes. no-members (json.Str bytes) (ap layer_members (outs-Str bytes));
  array = λ items all. no-members (json.Arr items) (ap layer_members (outs-Arr items));
  object = λ members all h name w is.
      holds-clean members name w (and_parts _ _ (sym (is_clean-Obj members) ∙ h)).1 (ap (λ (l : List Member). value_in l name) (sym (ap layer_members (outs-Obj members))) ∙ is);
} v h name w is

abbrev left : Option Template → Bool
left o = option_map_or is_clean_template o true

module _ (arguments : Json) (clean : is_clean arguments ≡ true) where
  Left : Template → Type 0
  Left t = is_clean_template t ≡ true → left (filled arguments t) ≡ true

  filled-member : (m : TemplateMember) → filled_member arguments m ≡ option_map (λ t. record { name = m.name; template = t }) (filled arguments m.template)
  filled-member m = fold-roll-TemplateMember (Option Template) (Option TemplateMember) (filled_layer arguments) filled_member_layer record { name = m.name; template = m.template }

  found-clean : (o : Option Json) → ((w : Json) → o ≡ Some w → is_clean w ≡ true) → left (option_map template.Const o) ≡ true
  found-clean None h = refl
  found-clean (Some w) h = is_clean-Const w ∙ h w refl

  absent-left : (members : List TemplateMember) (name : List ℕ) → list_any (λ other. bytes_eq other name) (map (λ (m : TemplateMember). m.name) members) ≡ false →
      list_any (λ other. bytes_eq other name) (map (λ (m : TemplateMember). m.name) (filter_map (filled_member arguments) members)) ≡ false
  absent-left [] name h = refl
  absent-left (m ∷ members) name h =
      let parts = or_parts (bytes_eq m.name name) (list_any (λ other. bytes_eq other name) (map (λ (m : TemplateMember). m.name) members)) h in
      let rest = absent-left members name parts.1 in
      ap (λ o. list_any (λ other. bytes_eq other name) (map (λ (m : TemplateMember). m.name) (cons_option o (filter_map (filled_member arguments) members)))) (filled-member m) ∙ either (filled arguments m.template) parts.0 rest where
        either : (o : Option Template) → bytes_eq m.name name ≡ false → list_any (λ other. bytes_eq other name) (map (λ (m : TemplateMember). m.name) (filter_map (filled_member arguments) members)) ≡ false →
            list_any (λ other. bytes_eq other name) (map (λ (m : TemplateMember). m.name) (cons_option (option_map (λ t. record { name = m.name; template = t }) o) (filter_map (filled_member arguments) members))) ≡ false
        either None differs rest = rest
        either (Some t) differs rest = or_from _ _ differs rest

  distinct-left : (members : List TemplateMember) → are_distinct (map (λ (m : TemplateMember). m.name) members) ≡ true →
      are_distinct (map (λ (m : TemplateMember). m.name) (filter_map (filled_member arguments) members)) ≡ true
  distinct-left [] h = refl
  distinct-left (m ∷ members) h =
      let parts = and_parts _ (are_distinct (map (λ (m : TemplateMember). m.name) members)) h in
      let absent = absent-left members m.name (not-true _ parts.0) in
      ap (λ o. are_distinct (map (λ (m : TemplateMember). m.name) (cons_option o (filter_map (filled_member arguments) members)))) (filled-member m) ∙ either (filled arguments m.template) absent (distinct-left members parts.1) where
        either : (o : Option Template) → list_any (λ other. bytes_eq other m.name) (map (λ (m : TemplateMember). m.name) (filter_map (filled_member arguments) members)) ≡ false →
            are_distinct (map (λ (m : TemplateMember). m.name) (filter_map (filled_member arguments) members)) ≡ true →
            are_distinct (map (λ (m : TemplateMember). m.name) (cons_option (option_map (λ t. record { name = m.name; template = t }) o) (filter_map (filled_member arguments) members))) ≡ true
        either None absent rest = rest
        either (Some t) absent rest = and_from _ _ (ap not absent) rest

  members-left : (members : List TemplateMember) → AllByRecursion (λ (m : TemplateMember). Left m.template) members → list_all is_clean_member members ≡ true →
      list_all is_clean_member (filter_map (filled_member arguments) members) ≡ true
  unfolding Left
  members-left [] all h = refl
  members-left (m ∷ members) all h =
      let parts = and_parts (is_clean_member m) (list_all is_clean_member members) h in
      let own = and_parts (is_utf8 m.name) (is_clean_template m.template) (sym (is_clean_member-is m) ∙ parts.0) in
      ap (λ o. list_all is_clean_member (cons_option o (filter_map (filled_member arguments) members))) (filled-member m) ∙ either (filled arguments m.template) own.0 (all.0 own.1) (members-left members all.1 parts.1) where
        either : (o : Option Template) → is_utf8 m.name ≡ true → left o ≡ true → list_all is_clean_member (filter_map (filled_member arguments) members) ≡ true →
            list_all is_clean_member (cons_option (option_map (λ t. record { name = m.name; template = t }) o) (filter_map (filled_member arguments) members)) ≡ true
        either None name own rest = rest
        either (Some t) name own rest = and_from _ _ (is_clean_member-is record { name = m.name; template = t } ∙ and_from _ _ name own) rest

  items-left : (items : List Template) → AllByRecursion Left items → list_all is_clean_template items ≡ true → list_all is_clean_template (filter_map (filled arguments) items) ≡ true
  unfolding Left
  items-left [] all h = refl
  items-left (t ∷ items) all h =
      let parts = and_parts (is_clean_template t) (list_all is_clean_template items) h in
      either (filled arguments t) (all.0 parts.0) (items-left items all.1 parts.1) where
        either : (o : Option Template) → left o ≡ true → list_all is_clean_template (filter_map (filled arguments) items) ≡ true → list_all is_clean_template (cons_option o (filter_map (filled arguments) items)) ≡ true
        either None own rest = rest
        either (Some t) own rest = and_from _ _ own rest

  -- what is left of a clean template is clean
  pub template-left : (t : Template) → is_clean_template t ≡ true → left (filled arguments t) ≡ true
  unfolding Left
  template-left = every-Template Left record {
    constant = λ v h. ap left (ap (filled arguments) (sym (rolls-Const v)) ∙ fold-roll-Template (Option Template) (Option TemplateMember) (filled_layer arguments) filled_member_layer (layer.Template-F.Const v)) ∙ h;
    arg = λ name h. ap left (ap (filled arguments) (sym (rolls-Arg name)) ∙ fold-roll-Template (Option Template) (Option TemplateMember) (filled_layer arguments) filled_member_layer (layer.Template-F.Arg name))
        ∙ found-clean (member_of arguments name) (λ w is. member-clean arguments name w clean is);
    args = λ h. ap left (ap (filled arguments) (sym rolls-Args) ∙ fold-roll-Template (Option Template) (Option TemplateMember) (filled_layer arguments) filled_member_layer layer.Template-F.Args) ∙ is_clean-Const arguments ∙ clean;
    cell = λ name h. ap left (ap (filled arguments) (sym (rolls-Cell name)) ∙ fold-roll-Template (Option Template) (Option TemplateMember) (filled_layer arguments) filled_member_layer (layer.Template-F.Cell name)) ∙ h;
    tally = λ name h. ap left (ap (filled arguments) (sym (rolls-Tally name)) ∙ fold-roll-Template (Option Template) (Option TemplateMember) (filled_layer arguments) filled_member_layer (layer.Template-F.Tally name)) ∙ h;
    object = λ members all h.
        (let parts = and_parts _ _ (sym (is_clean-Object members) ∙ h) in
        ap left (filled-Object arguments members) ∙ is_clean-Object (filter_map (filled_member arguments) members) ∙ and_from _ _ (distinct-left members parts.0) (members-left members all parts.1));
    array = λ items all h. ap left (filled-Array arguments items) ∙ is_clean-Array (filter_map (filled arguments) items) ∙ items-left items all (sym (is_clean-Array items) ∙ h);
    version = λ h. ap left (ap (filled arguments) (sym rolls-Version) ∙ fold-roll-Template (Option Template) (Option TemplateMember) (filled_layer arguments) filled_member_layer layer.Template-F.Version) ∙ h;
    commands = λ h. ap left (ap (filled arguments) (sym rolls-Commands) ∙ fold-roll-Template (Option Template) (Option TemplateMember) (filled_layer arguments) filled_member_layer layer.Template-F.Commands) ∙ h;
    introspection = λ h. ap left (ap (filled arguments) (sym rolls-Introspection) ∙ fold-roll-Template (Option Template) (Option TemplateMember) (filled_layer arguments) filled_member_layer layer.Template-F.Introspection) ∙ h;
    jobs = λ h. ap left (ap (filled arguments) (sym rolls-Jobs) ∙ fold-roll-Template (Option Template) (Option TemplateMember) (filled_layer arguments) filled_member_layer layer.Template-F.Jobs) ∙ h;
  }

  empty-clean : is_clean no_members ≡ true
  empty-clean = is_clean-Obj []

  or-empty-clean : (t : Template) → is_clean_template t ≡ true → is_clean_template (filled_or_empty arguments t) ≡ true
  or-empty-clean t h = either (filled arguments t) (template-left t h) where
    either : (o : Option Template) → left o ≡ true → is_clean_template (unwrap_or o (template.Const no_members)) ≡ true
    either None own = is_clean-Const no_members ∙ empty-clean
    either (Some t) own = own

  act-left : (a : Act) → is_clean_act a ≡ true → option_map_or is_clean_act (filled_act arguments a) true ≡ true
  act-left (act.Set cell to) h = either (filled arguments to) (template-left to h) where
    either : (o : Option Template) → left o ≡ true → option_map_or is_clean_act (option_map (act.Set cell) o) true ≡ true
    either None own = refl
    either (Some t) own = own
  act-left (act.Add tally by) h = h
  act-left (act.Raise event None) h = refl
  act-left (act.Raise event (Some t)) h = template-left t h
  act-left (act.Start id units ready manual) h = or-empty-clean id h
  act-left (act.OnJob verb id) h = or-empty-clean id h
  act-left act.Negotiate h = refl
  act-left (act.Enable oob) h = refl
  act-left act.Quit h = refl
  act-left (act.Fail text) h = h

  acts-left : (acts : List Act) → list_all is_clean_act acts ≡ true → list_all is_clean_act (filter_map (filled_act arguments) acts) ≡ true
  acts-left [] h = refl
  acts-left (a ∷ acts) h =
      let parts = and_parts (is_clean_act a) (list_all is_clean_act acts) h in
      either (filled_act arguments a) (act-left a parts.0) (acts-left acts parts.1) where
        either : (o : Option Act) → option_map_or is_clean_act o true ≡ true → list_all is_clean_act (filter_map (filled_act arguments) acts) ≡ true → list_all is_clean_act (cons_option o (filter_map (filled_act arguments) acts)) ≡ true
        either None own rest = rest
        either (Some a) own rest = and_from _ _ own rest

  pub plan-clean : (recipe : Recipe) → IsCleanRecipe recipe → IsCleanPlan (plan_of recipe arguments)
  plan-clean recipe h = record { acts = acts-left recipe.acts h.acts; ret = or-empty-clean recipe.ret h.ret }

-- the arguments of a clean request are clean
pub arguments-clean : (call : Call) → is_clean call.request ≡ true → is_clean (arguments_of (given_arguments call)) ≡ true
arguments-clean call clean = either (given_arguments call) (λ w is. member-clean call.request (codes "arguments") w clean is) where
  either : (o : Option Json) → ((w : Json) → o ≡ Some w → is_clean w ≡ true) → is_clean (arguments_of o) ≡ true
  either None h = is_clean-Obj []
  either (Some w) h = h w refl
