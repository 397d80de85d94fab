-- Recipes, plans, stores and facts whose values and texts a text can spell (RFC 8259, sections 4, 6 and 8.1; that
-- names are distinct, and the greatest count, is this project's own rule).
use Rattle.std.specs.Prelude.{nat_le, Bool, true, ◌&&◌, map, IsTrue}
use Rattle.std.specs.{List.list_all, Option.option_map_or, Str.is_utf8}
use Rattle.qm_json.specs.Cleanness.{NameAndTest, are_distinct, is_clean, IsClean}
use Rattle.qm_plan.specs.{Applying.Outcome, Stores.Contents, declared.TheConstants.MOST_COUNT}
use Rattle.qm_plan.specs.declared.{facts.Facts.Facts, recipes.Act.Act, recipes.Plan.Plan, recipes.Recipe.Recipe, applied.ApplyFault.ApplyFault}
use Rattle.qm_plan.specs.declared.recipes.Act.TheVariants.{Set, Add, Raise, Start, OnJob, Fail}
use Rattle.qm_plan.specs.declared.applied.ApplyFault.TheVariants.{Failed, TallyFull}
use Rattle.qm_plan.specs.declared.templates.{Template.Template, TemplateMember.TemplateMember, Template.TheOpen.Template-F, Template.TheOpen.TemplateMember-F, Template.TheFolds.fold-Template, Template.TheFolds.fold-TemplateMember}
use Rattle.qm_plan.specs.declared.templates.Template.TheOpen as layer

abbrev pub clean_member_layer : TemplateMember-F Bool NameAndTest → NameAndTest
clean_member_layer m = record { name = m.name; is_clean = is_utf8 m.name && m.template }

-- one layer, with the test of each inner template in its place
abbrev pub clean_layer : Template-F Bool NameAndTest → Bool
clean_layer (layer.Template-F.Const value) = is_clean value
clean_layer (layer.Template-F.Object members) =
    are_distinct (map (λ m. m.name) members) && list_all (λ m. m.is_clean) members
clean_layer (layer.Template-F.Array items) = list_all (λ item. item) items
clean_layer other = true

-- constants are clean, and the names of an object are UTF-8 and distinct
abbrev pub is_clean_template : Template → Bool
is_clean_template = fold-Template Bool NameAndTest clean_layer clean_member_layer

-- a member's name is UTF-8, and its template clean
abbrev pub is_clean_member : TemplateMember → Bool
is_clean_member m = (fold-TemplateMember Bool NameAndTest clean_layer clean_member_layer m).is_clean

-- its templates are clean, and the text that it can fail with is UTF-8
abbrev pub is_clean_act : Act → Bool
is_clean_act (Set cell to) = is_clean_template to
is_clean_act (Add tally by) = is_utf8 tally
is_clean_act (Raise event payload) = option_map_or is_clean_template payload true
is_clean_act (Start id units ready manual) = is_clean_template id
is_clean_act (OnJob verb id) = is_clean_template id
is_clean_act (Fail text) = is_utf8 text
is_clean_act act = true

pub record IsCleanRecipe (recipe : Recipe) : Type 0 where
  pub acts : IsTrue (list_all is_clean_act recipe.acts)
  pub ret : IsTrue (is_clean_template recipe.ret)

pub record IsCleanPlan (plan : Plan) : Type 0 where
  pub acts : IsTrue (list_all is_clean_act plan.acts)
  pub ret : IsTrue (is_clean_template plan.ret)

-- the values of cells are clean, and no count is past the greatest
pub record IsCleanStore (store : Contents) : Type 0 where
  pub cells : IsTrue (list_all (λ c. is_clean c.value) store.cells)
  pub tallies : IsTrue (list_all (λ t. nat_le t.count MOST_COUNT) store.tallies)

pub record IsCleanFacts (facts : Facts) : Type 0 where
  pub version : IsClean facts.version
  pub commands : IsClean facts.commands
  pub introspection : IsClean facts.introspection
  pub jobs : IsClean facts.jobs

-- what comes of a plan has clean values alone
pub record IsCleanOutcome (outcome : Outcome) : Type 0 where
  pub ret : IsClean outcome.ret
  pub store : IsCleanStore outcome.store
  pub jobs : IsTrue (list_all is_clean_act outcome.jobs)
  pub raised : IsTrue (list_all (λ r. is_clean r.payload) outcome.raised)

-- the text of a failure is UTF-8
abbrev pub IsCleanFault : ApplyFault → Type 0
IsCleanFault (Failed text) = IsTrue (is_utf8 text)
IsCleanFault (TallyFull tally) = IsTrue (is_utf8 tally)
IsCleanFault fault = Unit {0}
