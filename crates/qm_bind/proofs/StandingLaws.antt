-- Commands that stand before each schema, by their names.
use Rattle.std.proofs.Common.{◌≡◌, ℕ, Bool, true, false, List, Option, Some, None, is_some, option_map, refl, ap, sym, ◌∙◌}
use Rattle.std.specs.Option.{option_or}
use Rattle.qm_plan.specs.declared.templates.Template.{Template}
use Rattle.qm_plan.specs.declared.recipes.{Act.Act, Recipe.Recipe}
use Rattle.qm_bind.specs.Standing.{acting, act_named, answer_named, answering, standing_recipe}

some-act : (a : Option Act) (t : Option Template) → is_some a ≡ true → true ≡ is_some (option_or (option_map acting a) (option_map answering t))
some-act None t h = absurd cc
some-act (Some a) t h = refl

some-answer : (a : Option Act) (t : Option Template) → is_some a ≡ false → is_some t ≡ is_some (option_or (option_map acting a) (option_map answering t))
some-answer (Some a) t h = absurd cc
some-answer None None h = refl
some-answer None (Some t) h = refl

pub standing-act : (name : List ℕ) (b : Bool) → b ≡ is_some (act_named name) → b ≡ true → true ≡ is_some (standing_recipe name)
unfolding standing_recipe
standing-act name b e h = some-act (act_named name) (answer_named name) (sym e ∙ h)

pub standing-answer : (name : List ℕ) (b : Bool) (t : Option Template) (r : Bool) → b ≡ is_some (act_named name) → b ≡ false → t ≡ answer_named name → r ≡ is_some t → r ≡ is_some (standing_recipe name)
unfolding standing_recipe
standing-answer name b t r e h q s = s ∙ ap is_some q ∙ some-answer (act_named name) (answer_named name) (sym e ∙ h)

pub standing-acts : (name : List ℕ) (o : Option Act) (act : Act) (r : Recipe) → o ≡ act_named name → o ≡ Some act → r ≡ acting act → Some r ≡ standing_recipe name
unfolding standing_recipe
standing-acts name o act r e s q = ap (λ (x : Recipe). Some x) q ∙ ap (λ (a : Option Act). option_or (option_map acting a) (option_map answering (answer_named name))) (sym s ∙ e)

pub standing-answers : (name : List ℕ) (o : Option Act) (t : Option Template) (ret : Template) (r : Recipe) → o ≡ act_named name → o ≡ None → t ≡ answer_named name → t ≡ Some ret → r ≡ answering ret → Some r ≡ standing_recipe name
unfolding standing_recipe
standing-answers name o t ret r e s f g q =
    ap (λ (x : Recipe). Some x) q ∙ ap (λ (x : Option Template). option_or (option_map acting None) (option_map answering x)) (sym g ∙ f)
    ∙ ap (λ (a : Option Act). option_or (option_map acting a) (option_map answering (answer_named name))) (sym s ∙ e)

pub standing-none : (name : List ℕ) (o : Option Act) (t : Option Template) → o ≡ act_named name → o ≡ None → t ≡ answer_named name → t ≡ None → None ≡ standing_recipe name
unfolding standing_recipe
standing-none name o t e s f g =
    ap (λ (x : Option Template). option_or (option_map acting None) (option_map answering x)) (sym g ∙ f)
    ∙ ap (λ (a : Option Act). option_or (option_map acting a) (option_map answering (answer_named name))) (sym s ∙ e)

-- the recipe of a command that acts
pub standing-by-act : (name : List ℕ) (b : Bool) → b ≡ is_some (act_named name) → b ≡ true → standing_recipe name ≡ option_map acting (act_named name)
unfolding standing_recipe
standing-by-act name b e h = by_act (act_named name) (sym e ∙ h)
  where
    by_act : (o : Option Act) → is_some o ≡ true → option_or (option_map acting o) (option_map answering (answer_named name)) ≡ option_map acting o
    by_act None h = absurd cc
    by_act (Some a) h = refl

-- the recipe of a command that does not
pub standing-by-answer : (name : List ℕ) (b : Bool) → b ≡ is_some (act_named name) → b ≡ false → standing_recipe name ≡ option_map answering (answer_named name)
unfolding standing_recipe
standing-by-answer name b e h = by_act (act_named name) (sym e ∙ h)
  where
    by_act : (o : Option Act) → is_some o ≡ false → option_or (option_map acting o) (option_map answering (answer_named name)) ≡ option_map answering (answer_named name)
    by_act None h = refl
    by_act (Some a) h = absurd cc
