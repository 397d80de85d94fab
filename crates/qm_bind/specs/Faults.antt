-- The first fault of a bind file: of its shape, its tallies, its recipes in their order, and what it says of events
-- (this project's own rule).
use Rattle.std.specs.Prelude.{ℕ, if◌then◌else◌, List, [], ◌∷◌, map, is_some, Option, Some, None, option_map, option_and_then, slice_get}
use Rattle.std.specs.{Option.option_or}
use Rattle.qm_base.specs.Names.{is_named}
use Rattle.qm_json.specs.declared.value.{Member.Member}
use Rattle.qapi_types.specs.declared.parts.{CommandDef.CommandDef, Parts.Parts}
use Rattle.qapi_types.specs.{Choices.again, Lookups.command_names, Lookups.place_of}
use Rattle.qm_bind.specs.declared.fault.{BindFault.BindFault, BindRule.BindRule, BindRule.TheVariants.BadPeriod, BindRule.TheVariants.BadRecipe, BindRule.TheVariants.Twice, BindRule.TheVariants.UnknownCommand}
use Rattle.qm_bind.specs.{Arguments.may_give, Grammar.Scope, Parts.FileParts, Parts.names_of, Recipes.recipe_of, Standing.standing_recipe}

abbrev pub fault : BindRule → List ℕ → BindFault
fault rule name = record { rule = rule; name = name }

abbrev pub member_names : List Member → List (List ℕ)
member_names members = map (λ (m : Member). m.name) members

-- what the recipe of a command may name
abbrev pub scope_of : Parts → FileParts → CommandDef → Scope
scope_of p file command = record {
  is_cell = is_named (member_names file.cells);
  is_tally = is_named (names_of file.tallies);
  is_argument = may_give p.kinds command.arg;
}

-- the first tally that is listed before, or has the name of a cell
abbrev pub tally_fault : FileParts → Option BindFault
tally_fault file = option_map (fault Twice) (again (member_names file.cells) (names_of file.tallies))

-- the command of the name, of those that do not stand before each schema
abbrev pub own_command : Parts → List ℕ → Option ℕ
own_command p name = if is_some (standing_recipe name) then None else place_of (command_names p) name

abbrev pub recipe_fault : Parts → FileParts → Member → Option CommandDef → Option BindFault
recipe_fault p file m None = Some (fault UnknownCommand m.name)
recipe_fault p file m (Some command) = if is_some (recipe_of (scope_of p file command) m.value) then None else Some (fault BadRecipe m.name)

abbrev pub command_named : Parts → List ℕ → Option CommandDef
command_named p name = option_and_then (slice_get p.commands) (own_command p name)

-- the fault of a recipe and the name that it is given for
abbrev pub command_fault : Parts → FileParts → Member → Option BindFault
command_fault p file m = recipe_fault p file m (command_named p m.name)

-- the first of what items have
abbrev pub first_in : {A B : Type 0} → (A → Option B) → List A → Option B
first_in f [] = None
first_in f (x ∷ xs) = option_or (f x) (first_in f xs)

abbrev pub commands_fault : Parts → FileParts → List Member → Option BindFault
commands_fault p file members = first_in (command_fault p file) members

-- nothing may be said of an event, since events are not built
abbrev pub events_fault : List Member → Option BindFault
events_fault [] = None
events_fault (m ∷ members) = Some (fault BadPeriod m.name)

-- the first fault of the recipes, and what follows them
abbrev pub later_fault : Parts → FileParts → Option BindFault
later_fault p file = option_or (commands_fault p file file.commands) (events_fault file.events)

-- the first fault of a file that has these parts
abbrev pub file_fault : Parts → FileParts → Option BindFault
file_fault p file = option_or (tally_fault file) (later_fault p file)
