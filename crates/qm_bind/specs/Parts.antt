-- The parts of a bind file (this project's own rule).
use Rattle.std.specs.Prelude.{ℕ, Bool, false, if◌then◌else◌, List, [], ◌∷◌, codes, is_some, Option, Some, None, option_and_then}
use Rattle.std.specs.{List.filter_map, List.list_all, Option.option_map_or}
use Rattle.qm_base.specs.Names.{is_named}
use Rattle.qm_json.specs.declared.value.{Json.Json, Member.Member}
use Rattle.qm_json.specs.Members.{member_of}
use Rattle.qm_bind.specs.{Grammar.text_of, Recipes.object_of, Recipes.array_of}

-- its cells with their first values, its tallies, its recipes by the names of commands, and what it says of events
pub record FileParts : Type 0 where
  pub cells : List Member
  pub tallies : List Json
  pub commands : List Member
  pub events : List Member

-- the members of an object that may be absent
abbrev pub members_given : Option Json → Option (List Member)
members_given None = Some []
members_given (Some value) = object_of value

abbrev pub is_text : Json → Bool
is_text value = is_some (text_of value)

abbrev pub texts_in : List Json → Option (List Json)
texts_in items = if list_all is_text items then Some items else None

-- the items of a list of strings that may be absent
abbrev pub texts_given : Option Json → Option (List Json)
texts_given None = Some []
texts_given (Some value) = option_and_then texts_in (array_of value)

abbrev pub parts_from : Option (List Member) → Option (List Json) → Option (List Member) → Option (List Member) → Option FileParts
parts_from (Some cells) (Some tallies) (Some commands) (Some events) = Some (record { cells = cells; tallies = tallies; commands = commands; events = events })
parts_from cells tallies commands events = None

abbrev pub is_part_name : List ℕ → Bool
is_part_name name = is_named (codes "cells" ∷ codes "tallies" ∷ codes "commands" ∷ codes "events" ∷ []) name

abbrev pub are_part_names : List Member → Bool
are_part_names members = list_all (λ (m : Member). is_part_name m.name) members

-- the value is an object of the known members
abbrev pub is_file_object : Json → Bool
is_file_object value = option_map_or are_part_names (object_of value) false

-- the parts of the file that a value is
abbrev pub parts_of : Json → Option FileParts
parts_of value =
    if is_file_object value
    then parts_from (members_given (member_of value (codes "cells"))) (texts_given (member_of value (codes "tallies"))) (members_given (member_of value (codes "commands"))) (members_given (member_of value (codes "events")))
    else None

abbrev pub names_of : List Json → List (List ℕ)
names_of items = filter_map text_of items
