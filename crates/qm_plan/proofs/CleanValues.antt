-- Clean plans, stores and facts give clean values.
use Rattle.std.proofs.Common.{◌≡◌, ℕ, ◌+◌, Bool, true, false, cond, List, [], ◌∷◌, map, find, Option, Some, None, option_map, unwrap_or, Result, Ok, Err, refl, ap, sym, ◌∙◌, arith}
use Rattle.std.specs.Prelude.{nat_le, nat_lt, pos}
use Rattle.std.specs.{List.AllByRecursion, List.cons_option, List.filter_map, List.list_all, Option.option_map_or, Str.bytes_eq, Str.is_utf8}
use Rattle.std.proofs.lemmas.{Bool.and_from, Bool.and_parts, Bool.Decides.nat_tests}
use Rattle.qm_json.specs.{declared.value.Json.Json, declared.value.Member.Member, Cleanness.are_distinct, Cleanness.is_clean, Cleanness.is_clean_member as clean_json_member, Numbers.is_in_whole_range}
use Rattle.qm_json.specs.declared.value.Json.TheVariants as json
use Rattle.qm_json.proofs.CleanLaws.{is_clean-Null, is_clean-Int, is_clean-Arr, is_clean-Obj, is_clean_member-is as json_member-is}
use Rattle.qm_plan.specs.{Cleanness.is_clean_act, Cleanness.is_clean_member, Cleanness.is_clean_template, Cleanness.IsCleanFacts, Cleanness.IsCleanFault, Cleanness.IsCleanOutcome, Cleanness.IsCleanPlan, Cleanness.IsCleanStore}
use Rattle.qm_plan.specs.{Applying.act_of, Applying.acts_of, Applying.applied_of, Applying.job_act_of, Applying.Outcome, Applying.outcome_from, Applying.raised_of, Applying.then_acts}
use Rattle.qm_plan.specs.{Stores.Contents, Stores.Count, Stores.Held, Stores.set_cell, Stores.set_tally, Stores.tally_of, Stores.with_tally}
use Rattle.qm_plan.specs.Templates.{value_layer, value_member_layer, value_of, value_of_member}
use Rattle.qm_plan.specs.declared.{applied.ApplyFault.ApplyFault, events.Raised.Raised, facts.Facts.Facts, recipes.Act.Act, recipes.Plan.Plan, templates.Template.Template, templates.TemplateMember.TemplateMember, TheConstants.MOST_COUNT}
use Rattle.qm_plan.specs.declared.applied.ApplyFault.TheVariants.{TallyFull}
use Rattle.qm_plan.specs.declared.recipes.Act.TheVariants as act
use Rattle.qm_plan.specs.declared.templates.Template.{TheFolds.fold-roll-Template, TheFolds.fold-roll-TemplateMember, TheOpen.Template-F}
use Rattle.qm_plan.specs.declared.templates.Template.TheVariants.{rolls-Const, rolls-Arg, rolls-Args, rolls-Cell, rolls-Tally, rolls-Object, rolls-Array, rolls-Version, rolls-Commands, rolls-Introspection, rolls-Jobs}
use Rattle.qm_plan.specs.declared.templates.Template.TheOpen as layer
use Rattle.qm_plan.proofs.Inductions.{every-Template, is_clean-Array, is_clean-Const, is_clean-Object, is_clean_member-is}

counted-in-range : (n : ℕ) → nat_le n MOST_COUNT ≡ true → is_in_whole_range (pos n) ≡ true
counted-in-range n h = grind (arith, nat_tests)

held-clean : (cells : List Held) (name : List ℕ) → list_all (λ (c : Held). is_clean c.value) cells ≡ true →
    is_clean (unwrap_or (option_map (λ (c : Held). c.value) (find (λ (c : Held). bytes_eq name c.name) cells)) json.Null) ≡ true
held-clean [] name h = is_clean-Null
held-clean (c ∷ cells) name h = either (bytes_eq name c.name) (held-clean cells name (and_parts (is_clean c.value) _ h).1) where
  parts : (is_clean c.value ≡ true) × (list_all (λ (c : Held). is_clean c.value) cells ≡ true)
  parts = and_parts (is_clean c.value) _ h

  either : (b : Bool) → is_clean (unwrap_or (option_map (λ (c : Held). c.value) (find (λ (c : Held). bytes_eq name c.name) cells)) json.Null) ≡ true →
      is_clean (unwrap_or (option_map (λ (c : Held). c.value) (cond b (Some c) (find (λ (c : Held). bytes_eq name c.name) cells))) json.Null) ≡ true
  either true more = parts.0
  either false more = more

count-small : (tallies : List Count) (name : List ℕ) → list_all (λ (t : Count). nat_le t.count MOST_COUNT) tallies ≡ true →
    nat_le (unwrap_or (option_map (λ (t : Count). t.count) (find (λ (t : Count). bytes_eq name t.name) tallies)) 0) MOST_COUNT ≡ true
count-small [] name h = refl
count-small (t ∷ tallies) name h = either (bytes_eq name t.name) (count-small tallies name (and_parts (nat_le t.count MOST_COUNT) _ h).1) where
  parts : (nat_le t.count MOST_COUNT ≡ true) × (list_all (λ (t : Count). nat_le t.count MOST_COUNT) tallies ≡ true)
  parts = and_parts (nat_le t.count MOST_COUNT) _ h

  either : (b : Bool) → nat_le (unwrap_or (option_map (λ (t : Count). t.count) (find (λ (t : Count). bytes_eq name t.name) tallies)) 0) MOST_COUNT ≡ true →
      nat_le (unwrap_or (option_map (λ (t : Count). t.count) (cond b (Some t) (find (λ (t : Count). bytes_eq name t.name) tallies))) 0) MOST_COUNT ≡ true
  either true more = parts.0
  either false more = more

set-clean : (cells : List Held) (name : List ℕ) (value : Json) → is_clean value ≡ true → list_all (λ (c : Held). is_clean c.value) cells ≡ true → list_all (λ (c : Held). is_clean c.value) (map (set_cell name value) cells) ≡ true
set-clean [] name value v h = refl
set-clean (c ∷ cells) name value v h = and_from _ _ (either (bytes_eq name c.name)) (set-clean cells name value v parts.1) where
  parts : (is_clean c.value ≡ true) × (list_all (λ (c : Held). is_clean c.value) cells ≡ true)
  parts = and_parts (is_clean c.value) _ h

  either : (b : Bool) → is_clean (cond b (record c { value = value }) c).value ≡ true
  either true = v
  either false = parts.0

grown-small : (tallies : List Count) (name : List ℕ) (count : ℕ) → nat_le count MOST_COUNT ≡ true → list_all (λ (t : Count). nat_le t.count MOST_COUNT) tallies ≡ true →
    list_all (λ (t : Count). nat_le t.count MOST_COUNT) (map (set_tally name count) tallies) ≡ true
grown-small [] name count v h = refl
grown-small (t ∷ tallies) name count v h = and_from _ _ (either (bytes_eq name t.name)) (grown-small tallies name count v parts.1) where
  parts : (nat_le t.count MOST_COUNT ≡ true) × (list_all (λ (t : Count). nat_le t.count MOST_COUNT) tallies ≡ true)
  parts = and_parts (nat_le t.count MOST_COUNT) _ h

  either : (b : Bool) → nat_le (cond b (record t { count = count }) t).count MOST_COUNT ≡ true
  either true = v
  either false = parts.0

module _ (facts : Facts) (known : IsCleanFacts facts) where
  module _ (store : Contents) (kept : IsCleanStore store) where
    Valued : Template → Type 0
    Valued t = is_clean_template t ≡ true → is_clean (value_of facts store t) ≡ true

    value-member : (m : TemplateMember) → value_of_member facts store m ≡ record { name = m.name; value = value_of facts store m.template }
    value-member m = fold-roll-TemplateMember Json Member (value_layer facts store) value_member_layer record { name = m.name; template = m.template }

    value-names : (members : List TemplateMember) → map (λ (m : Member). m.name) (map (value_of_member facts store) members) ≡ map (λ (m : TemplateMember). m.name) members
    value-names [] = refl
    value-names (m ∷ members) = rw (value-member m, value-names members) refl

    members-valued : (members : List TemplateMember) → AllByRecursion (λ (m : TemplateMember). Valued m.template) members → list_all is_clean_member members ≡ true →
        list_all clean_json_member (map (value_of_member facts store) members) ≡ true
    unfolding Valued
    members-valued [] all h = refl
    members-valued (m ∷ members) all h =
        let parts = and_parts (is_clean_member m) (list_all is_clean_member members) h in
        let own = and_parts (is_utf8 m.name) (is_clean_template m.template) (sym (is_clean_member-is m) ∙ parts.0) in
        and_from _ _ (ap clean_json_member (value-member m) ∙ json_member-is record { name = m.name; value = value_of facts store m.template } ∙ and_from _ _ own.0 (all.0 own.1)) (members-valued members all.1 parts.1)

    items-valued : (items : List Template) → AllByRecursion Valued items → list_all is_clean_template items ≡ true → list_all is_clean (map (value_of facts store) items) ≡ true
    unfolding Valued
    items-valued [] all h = refl
    items-valued (t ∷ items) all h =
        let parts = and_parts (is_clean_template t) (list_all is_clean_template items) h in
        and_from _ _ (all.0 parts.0) (items-valued items all.1 parts.1)

    value-clean : (t : Template) → is_clean_template t ≡ true → is_clean (value_of facts store t) ≡ true
    unfolding Valued
    value-clean = every-Template Valued record {
      constant = λ v h. ap is_clean (ap (value_of facts store) (sym (rolls-Const v)) ∙ fold-roll-Template Json Member (value_layer facts store) value_member_layer (layer.Template-F.Const v)) ∙ sym (is_clean-Const v) ∙ h;
      arg = λ name h. ap is_clean (ap (value_of facts store) (sym (rolls-Arg name)) ∙ fold-roll-Template Json Member (value_layer facts store) value_member_layer (layer.Template-F.Arg name)) ∙ is_clean-Null;
      args = λ h. ap is_clean (ap (value_of facts store) (sym rolls-Args) ∙ fold-roll-Template Json Member (value_layer facts store) value_member_layer layer.Template-F.Args) ∙ is_clean-Null;
      cell = λ name h. ap is_clean (ap (value_of facts store) (sym (rolls-Cell name)) ∙ fold-roll-Template Json Member (value_layer facts store) value_member_layer (layer.Template-F.Cell name)) ∙ held-clean store.cells name kept.cells;
      tally = λ name h. ap is_clean (ap (value_of facts store) (sym (rolls-Tally name)) ∙ fold-roll-Template Json Member (value_layer facts store) value_member_layer (layer.Template-F.Tally name))
          ∙ is_clean-Int _ ∙ counted-in-range (unwrap_or (tally_of name store) 0) (count-small store.tallies name kept.tallies);
      object = λ members all h.
          (let parts = and_parts _ _ (sym (is_clean-Object members) ∙ h) in
          ap is_clean (ap (value_of facts store) (sym (rolls-Object members)) ∙ fold-roll-Template Json Member (value_layer facts store) value_member_layer (layer.Template-F.Object members))
          ∙ is_clean-Obj (map (value_of_member facts store) members) ∙ and_from _ _ (ap are_distinct (value-names members) ∙ parts.0) (members-valued members all parts.1));
      array = λ items all h. ap is_clean (ap (value_of facts store) (sym (rolls-Array items)) ∙ fold-roll-Template Json Member (value_layer facts store) value_member_layer (layer.Template-F.Array items))
          ∙ is_clean-Arr (map (value_of facts store) items) ∙ items-valued items all (sym (is_clean-Array items) ∙ h);
      version = λ h. ap is_clean (ap (value_of facts store) (sym rolls-Version) ∙ fold-roll-Template Json Member (value_layer facts store) value_member_layer layer.Template-F.Version) ∙ known.version;
      commands = λ h. ap is_clean (ap (value_of facts store) (sym rolls-Commands) ∙ fold-roll-Template Json Member (value_layer facts store) value_member_layer layer.Template-F.Commands) ∙ known.commands;
      introspection = λ h. ap is_clean (ap (value_of facts store) (sym rolls-Introspection) ∙ fold-roll-Template Json Member (value_layer facts store) value_member_layer layer.Template-F.Introspection) ∙ known.introspection;
      jobs = λ h. ap is_clean (ap (value_of facts store) (sym rolls-Jobs) ∙ fold-roll-Template Json Member (value_layer facts store) value_member_layer layer.Template-F.Jobs) ∙ known.jobs;
    }

    job-clean : (a : Act) → is_clean_act a ≡ true → option_map_or is_clean_act (job_act_of facts store a) true ≡ true
    job-clean (act.Set cell to) h = refl
    job-clean (act.Add tally by) h = refl
    job-clean (act.Raise event payload) h = refl
    job-clean (act.Start id units ready manual) h = is_clean-Const (value_of facts store id) ∙ value-clean id h
    job-clean (act.OnJob verb id) h = is_clean-Const (value_of facts store id) ∙ value-clean id h
    job-clean act.Negotiate h = refl
    job-clean (act.Enable oob) h = refl
    job-clean act.Quit h = refl
    job-clean (act.Fail text) h = refl

    jobs-clean : (acts : List Act) → list_all is_clean_act acts ≡ true → list_all is_clean_act (filter_map (job_act_of facts store) acts) ≡ true
    jobs-clean [] h = refl
    jobs-clean (a ∷ acts) h =
        let parts = and_parts (is_clean_act a) (list_all is_clean_act acts) h in
        either (job_act_of facts store a) (job-clean a parts.0) (jobs-clean acts parts.1) where
          either : (o : Option Act) → option_map_or is_clean_act o true ≡ true → list_all is_clean_act (filter_map (job_act_of facts store) acts) ≡ true → list_all is_clean_act (cons_option o (filter_map (job_act_of facts store) acts)) ≡ true
          either None own rest = rest
          either (Some a) own rest = and_from _ _ own rest

    raised-clean : (a : Act) → is_clean_act a ≡ true → option_map_or (λ r. is_clean r.payload) (raised_of facts store a) true ≡ true
    raised-clean (act.Set cell to) h = refl
    raised-clean (act.Add tally by) h = refl
    raised-clean (act.Raise event None) h = is_clean-Obj []
    raised-clean (act.Raise event (Some t)) h = value-clean t h
    raised-clean (act.Start id units ready manual) h = refl
    raised-clean (act.OnJob verb id) h = refl
    raised-clean act.Negotiate h = refl
    raised-clean (act.Enable oob) h = refl
    raised-clean act.Quit h = refl
    raised-clean (act.Fail text) h = refl

    all-raised-clean : (acts : List Act) → list_all is_clean_act acts ≡ true → list_all (λ r. is_clean r.payload) (filter_map (raised_of facts store) acts) ≡ true
    all-raised-clean [] h = refl
    all-raised-clean (a ∷ acts) h =
        let parts = and_parts (is_clean_act a) (list_all is_clean_act acts) h in
        either (raised_of facts store a) (raised-clean a parts.0) (all-raised-clean acts parts.1) where
          either : (o : Option Raised) → option_map_or (λ r. is_clean r.payload) o true ≡ true → list_all (λ r. is_clean r.payload) (filter_map (raised_of facts store) acts) ≡ true →
              list_all (λ r. is_clean r.payload) (cons_option o (filter_map (raised_of facts store) acts)) ≡ true
          either None own rest = rest
          either (Some r) own rest = and_from _ _ own rest

  -- what is asked of the store after acts, or of their failure
  abbrev Leaves : Result Contents ApplyFault → Type 0
  Leaves (Ok store) = IsCleanStore store
  Leaves (Err fault) = IsCleanFault fault

  small-if : (count : ℕ) → nat_lt MOST_COUNT count ≡ false → nat_le count MOST_COUNT ≡ true
  small-if count h = grind (arith, nat_tests)

  act-leaves : (a : Act) (store : Contents) → is_clean_act a ≡ true → IsCleanStore store → Leaves (act_of facts a store)
  act-leaves (act.Set cell to) store h kept = record { cells = set-clean store.cells cell (value_of facts store to) (value-clean store kept to h) kept.cells; tallies = kept.tallies }
  act-leaves (act.Add tally by) store h kept = either (nat_lt MOST_COUNT (unwrap_or (tally_of tally store) 0 + by)) refl where
    either : (b : Bool) → nat_lt MOST_COUNT (unwrap_or (tally_of tally store) 0 + by) ≡ b → Leaves (cond b (Err (TallyFull tally)) (Ok (with_tally tally (unwrap_or (tally_of tally store) 0 + by) store)))
    either true is = h
    either false is = record { cells = kept.cells; tallies = grown-small store.tallies tally _ (small-if _ is) kept.tallies }
  act-leaves (act.Raise event payload) store h kept = kept
  act-leaves (act.Start id units ready manual) store h kept = kept
  act-leaves (act.OnJob verb id) store h kept = kept
  act-leaves act.Negotiate store h kept = kept
  act-leaves (act.Enable oob) store h kept = kept
  act-leaves act.Quit store h kept = kept
  act-leaves (act.Fail text) store h kept = h

  acts-leave : (acts : List Act) (store : Contents) → list_all is_clean_act acts ≡ true → IsCleanStore store → Leaves (acts_of facts acts store)
  acts-leave [] store h kept = kept
  acts-leave (a ∷ acts) store h kept =
      let parts = and_parts (is_clean_act a) (list_all is_clean_act acts) h in
      either (act_of facts a store) (act-leaves a store parts.0 kept) (λ after kept. acts-leave acts after parts.1 kept) where
        either : (r : Result Contents ApplyFault) → Leaves r → ((after : Contents) → IsCleanStore after → Leaves (acts_of facts acts after)) → Leaves (then_acts (acts_of facts acts) r)
        either (Ok after) kept next = next after kept
        either (Err fault) kept next = kept

  -- what is asked of what comes of a plan, or of its failure
  abbrev pub Comes : Result Outcome ApplyFault → Type 0
  Comes (Ok outcome) = IsCleanOutcome outcome
  Comes (Err fault) = IsCleanFault fault

  pub plan-comes : (plan : Plan) (store : Contents) → IsCleanPlan plan → IsCleanStore store → Comes (applied_of facts plan store)
  plan-comes plan store h kept = either (acts_of facts plan.acts store) (acts-leave plan.acts store h.acts kept) where
    either : (r : Result Contents ApplyFault) → Leaves r → Comes (outcome_from facts plan r)
    either (Ok after) kept = record { ret = value-clean after kept plan.ret h.ret; store = kept; jobs = jobs-clean after kept plan.acts h.acts; raised = all-raised-clean after kept plan.acts h.acts }
    either (Err fault) kept = kept
