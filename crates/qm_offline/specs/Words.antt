-- The words of a command line (this project's own rule).
use Rattle.std.specs.Prelude.{ℕ, ◌+◌, ◌==◌, nat_eq, nat_lt, nat_le, Bool, if◌then◌else◌, ◌&&◌, List, [], ◌∷◌, codes, length, take, drop, map, position, slice_index, Option, Some, None, is_some, is_none, option_map}
use Rattle.std.specs.{List.slice_split, Option.option_and_then, Str.bytes_eq}
use Rattle.qm_base.specs.Numerals.{number_of}
use Rattle.qm_core.specs.declared.TheConstants.{MOST_ENTRIES}
use Rattle.qm_offline.specs.declared.words.{Slot.Slot, CommandWord.CommandWord}
use Rattle.qm_offline.specs.declared.words.Slot.TheVariants as slot
use Rattle.qm_offline.specs.declared.words.CommandWord.TheVariants as word
use Rattle.qm_offline.specs.declared.loading.Command.{Command, TheVariants.Check, TheVariants.Introspect, TheVariants.Replay}

-- an option with its value, or the positional word
pub record Item : Type 0 where
  pub slot : Slot
  pub value : List ℕ

abbrev pub item : Slot → List ℕ → Item
item s value = record { slot = s; value = value }

-- the option of the name
abbrev pub option_named : List ℕ → Option Slot
option_named name =
    if bytes_eq name (codes "--schema") then Some slot.Schema
    else if bytes_eq name (codes "--bind") then Some slot.Bind
    else if bytes_eq name (codes "--define") then Some slot.Define
    else if bytes_eq name (codes "--journal") then Some slot.Journal
    else if bytes_eq name (codes "--workers") then Some slot.Workers
    else None

abbrev pub begins_with_dash : List ℕ → Bool
begins_with_dash text = nat_lt 0 (length text) && (slice_index text 0 == 45)

abbrev pub is_equals_sign : ℕ → Bool
is_equals_sign x = x == 61

-- `--x=V`, by the place of its first `=`
abbrev pub joined_at : List ℕ → Option ℕ → Option Item
joined_at text None = None
joined_at text (Some at) = option_map (λ s. item s (drop (at + 1) text)) (option_named (take at text))

-- what one word says: `--x=V`, or a positional word, which does not begin with a dash
abbrev pub word_item : List ℕ → Option Item
word_item text = if begins_with_dash text then joined_at text (position is_equals_sign text) else Some (item slot.Positional text)

-- what an option says with its value in the next word, which does not begin with a dash
abbrev pub option_item : Slot → List ℕ → Option Item
option_item s value = if begins_with_dash value then None else Some (item s value)

abbrev pub with_item : Option Item → Option (List Item) → Option (List Item)
with_item None items = None
with_item (Some i) items = option_map (λ others. i ∷ others) items

-- what the words say behind an option that wants its value, or behind none; words after `--` are positional
abbrev pub items_after : Option Slot → List (List ℕ) → Option (List Item)
items_after None [] = Some []
items_after None (text ∷ texts) =
    if bytes_eq text (codes "--") then Some (map (item slot.Positional) texts)
    else if is_some (option_named text) then items_after (option_named text) texts
    else with_item (word_item text) (items_after None texts)
items_after (Some s) [] = None
items_after (Some s) (value ∷ texts) = with_item (option_item s value) (items_after None texts)

-- what was given, each option and the positional word at most once
pub record Given : Type 0 where
  pub schema : Option (List ℕ)
  pub bind : Option (List ℕ)
  pub define : Option (List ℕ)
  pub journal : Option (List ℕ)
  pub workers : Option (List ℕ)
  pub positional : Option (List ℕ)

abbrev pub nothing_given : Given
nothing_given = record { schema = None; bind = None; define = None; journal = None; workers = None; positional = None }

-- a value that is not empty, where none was given before
abbrev pub first_value : Option (List ℕ) → List ℕ → Option (List ℕ)
first_value None value = if nat_eq (length value) 0 then None else Some value
first_value (Some other) value = None

abbrev pub put_value : Given → Slot → List ℕ → Option Given
put_value given slot.Schema value = option_map (λ v. record given { schema = Some v }) (first_value given.schema value)
put_value given slot.Bind value = option_map (λ v. record given { bind = Some v }) (first_value given.bind value)
put_value given slot.Define value = option_map (λ v. record given { define = Some v }) (first_value given.define value)
put_value given slot.Journal value = option_map (λ v. record given { journal = Some v }) (first_value given.journal value)
put_value given slot.Workers value = option_map (λ v. record given { workers = Some v }) (first_value given.workers value)
put_value given slot.Positional value = option_map (λ v. record given { positional = Some v }) (first_value given.positional value)

abbrev pub put : Given → Item → Option Given
put given i = put_value given i.slot i.value

-- what is given after all of the items
abbrev pub placed : Given → List Item → Option Given
placed given [] = Some given
placed given (i ∷ items) = option_and_then (λ next. placed next items) (put given i)

-- what is given by words behind what was given before
abbrev pub given_after : Given → List (List ℕ) → Option Given
given_after given texts = option_and_then (placed given) (items_after None texts)

-- digits without the zeros that stand before another
abbrev pub without_zeros : List ℕ → List ℕ
without_zeros [] = []
without_zeros (x ∷ []) = x ∷ []
without_zeros (x ∷ y ∷ digits) = if x == 48 then without_zeros (y ∷ digits) else x ∷ y ∷ digits

-- a number of one to seven digits, of which zeros may lead
abbrev pub count_of : List ℕ → Option ℕ
count_of text = if nat_le (length text) 7 then number_of (without_zeros text) else None

-- a number from 1 to the most; without the option another
abbrev pub number_or : ℕ → ℕ → Option (List ℕ) → Option ℕ
number_or other most None = Some other
number_or other most (Some text) = option_and_then (λ n. if nat_le 1 n && nat_le n most then Some n else None) (count_of text)

abbrev pub command_told : CommandWord → Command
command_told word.Check = Check
command_told word.Introspect = Introspect
command_told (word.Replay script) = Replay script.now

-- what a command line asks for: a command, the schema's main file, the bind file, the names that hold in the
-- schema's conditions, and how many entries and open sessions a journal may have together
pub record Words : Type 0 where
  pub command : Command
  pub schema : Option (List ℕ)
  pub bind : Option (List ℕ)
  pub define : Option (List ℕ)
  pub entries : ℕ

-- the command of the first word: `check`, `introspect`, or `replay` with a script
abbrev pub command_of : List ℕ → Given → Option Command
command_of verb given =
    if bytes_eq verb (codes "check") && is_none given.positional then Some Check
    else if bytes_eq verb (codes "introspect") && is_none given.positional then Some Introspect
    else if bytes_eq verb (codes "replay") then option_map Replay given.positional
    else None

-- each option that a command has no use for is accepted
abbrev pub words_given : List ℕ → Given → Option Words
words_given verb given =
    option_and_then (λ command.
    option_and_then (λ workers.
    option_map (λ entries. record { command = command; schema = given.schema; bind = given.bind; define = given.define; entries = entries })
    (number_or MOST_ENTRIES MOST_ENTRIES given.journal)) (number_or 4 32 given.workers)) (command_of verb given)

-- what the words ask for; other words are outside the grammar
abbrev pub words_of : List (List ℕ) → Option Words
words_of [] = None
words_of (verb ∷ texts) = option_and_then (words_given verb) (given_after nothing_given texts)

abbrev pub is_comma : ℕ → Bool
is_comma x = x == 44

-- the names of `--define A,B`, of which some may be empty; without the option there are none
abbrev pub names_defined : Option (List ℕ) → List (List ℕ)
names_defined None = []
names_defined (Some text) = slice_split is_comma text
