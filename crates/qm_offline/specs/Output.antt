-- What the program puts out, and its status, for words and what stands outside (this project's own rule).
use Rattle.std.specs.Prelude.{ℕ, Bool, true, false, List, [], ◌++◌, length, position, codes, Option, Some, None, option_map, unwrap_or, Result, Ok, Err}
use Rattle.std.specs.{Fmt.decimal, Option.option_and_then}
use Rattle.qapi_load.specs.{Files.NamedText, Files.text_of, declared.fault.LoadFault.LoadFault}
use Rattle.qapi_rules.specs.declared.fault.CheckFault.{CheckFault}
use Rattle.qapi_types.specs.declared.{kind.Kind.Kind, parts.Parts.Parts}
use Rattle.qapi_types.specs.declared.kind.Kind.TheVariants as kind
use Rattle.qm_json.specs.Printing.{printed}
use Rattle.qapi_mask.specs.Introspection.{introspection_of}
use Rattle.qm_core.specs.declared.{TheConstants.MOST_TEXT, entries.Entry.Entry, monitor.Limits.Limits, world.World.World}
use Rattle.qm_script.specs.{Playing.Ended, Playing.played_of, Playing.transcript_text_of, Endings.end_of, declared.endings.PlayEnd.PlayEnd}
use Rattle.qm_script.specs.declared.endings.PlayEnd.TheVariants as end
use Rattle.qapi_check.specs.{Checking.table_of, declared.loading.SchemaFault.SchemaFault}
use Rattle.qm_bind.specs.{Bindings.bind_of, declared.binding.Binding.Binding, declared.fault.BindFault.BindFault}
use Rattle.qm_offline.specs.declared.refusal.Refusal.{Refusal}
use Rattle.qapi_check.specs.declared.loading.SchemaFault.TheVariants.{Load, Check as Broken}
use Rattle.qm_offline.specs.declared.refusal.Refusal.TheVariants as refusal
use Rattle.qm_offline.specs.{Rules.load_word, Rules.check_word, Rules.name_printed, Binds.bind_line, Binds.missing_bind}
use Rattle.qm_offline.specs.declared.loading.Command.{Command, TheVariants.Check, TheVariants.Introspect, TheVariants.Replay}
use Rattle.qm_offline.specs.Words.{Words, names_defined}

pub record Output : Type 0 where
  pub status : ℕ
  pub bytes : List ℕ

-- the words are outside the grammar
abbrev pub usage : Output
usage = record {
  status = 2;
  bytes = codes "error: usage: qmpd check|introspect|replay SCRIPT|serve SOCKET|drill N [--schema F] [--bind F] [--define A,B] [--journal N] [--workers N]\n";
}

-- the line that names a file whose reading failed
abbrev pub cannot_read : List ℕ → List ℕ
cannot_read name = codes "error: cannot read " ++ name ++ codes "\n"

-- a name behind the word of a rule; it may be empty
abbrev pub behind : Option (List ℕ) → List ℕ
behind None = []
behind (Some name) = codes " " ++ name

-- the line of a schema's fault
abbrev pub schema_line : List ℕ → ℕ → List ℕ → Option (List ℕ) → List ℕ
schema_line file line word name = codes "error: schema " ++ file ++ codes " line " ++ decimal line ++ codes ": " ++ word ++ behind name ++ codes "\n"

abbrev pub load_line : LoadFault → List ℕ
load_line fault = schema_line fault.file fault.line (load_word fault.rule) (name_printed fault)

abbrev pub check_line : CheckFault → List ℕ
check_line fault = schema_line fault.file fault.line (check_word fault.rule) (Some fault.name)

abbrev pub fault_line : SchemaFault → List ℕ
fault_line (Load fault) = load_line fault
fault_line (Broken fault) = check_line fault

-- why the files of a command line give no world: the schema's fault; or, where it has none, that there is no
-- bind file of the name, or the fault of the one that there is
pub data FileFault : Type 0 where
  InSchema : SchemaFault → FileFault
  NoBind : List ℕ → FileFault
  InBind : List ℕ → BindFault → FileFault

abbrev pub file_fault_output : FileFault → Output
file_fault_output (InSchema fault) = record { status = 3; bytes = fault_line fault }
file_fault_output (NoBind name) = record { status = 4; bytes = missing_bind name }
file_fault_output (InBind name fault) = record { status = 4; bytes = bind_line name fault }

-- what is put out for a command line that is not run; nothing, where memory was wanting
abbrev pub refusal_output : Refusal → Output
refusal_output refusal.Words = usage
refusal_output (refusal.Schema fault) = record { status = 3; bytes = load_line fault }
refusal_output (refusal.Check fault) = record { status = 3; bytes = check_line fault }
refusal_output (refusal.NoBind name) = record { status = 4; bytes = missing_bind name }
refusal_output (refusal.Bind name fault) = record { status = 4; bytes = bind_line name fault }
refusal_output (refusal.Library name) = record { status = 6; bytes = cannot_read name }
refusal_output refusal.Memory = record { status = 1; bytes = [] }

abbrev pub is_str : Kind → Bool
is_str kind.Str = true
is_str other = false

-- the types that definitions name stand before the built-in ones, of which the first is that of strings
abbrev pub named_types : List Kind → ℕ
named_types kinds = unwrap_or (position is_str kinds) (length kinds)

-- the line of a schema without a fault
abbrev pub ok_line : Parts → List ℕ
ok_line parts =
    codes "ok " ++ decimal (length parts.commands) ++ codes " commands, " ++ decimal (length parts.events) ++ codes " events, "
    ++ decimal (named_types parts.kinds) ++ codes " types\n"

-- the line of what a client is told of a world's schema
abbrev pub introspection_line : World → List ℕ
introspection_line world = printed world.introspection ++ codes "\n"

-- there is no such script
abbrev pub missing : List ℕ → Output
missing name = record { status = 5; bytes = codes "error: script " ++ name ++ codes ": no-file\n" }

-- the status of an end
abbrev pub end_status_of : PlayEnd → ℕ
end_status_of end.Done = 0
end_status_of (end.BadLine line) = 5
end_status_of (end.WrongStep line word) = 5
end_status_of (end.Full line) = 9
end_status_of end.SinkFault = 7
end_status_of end.Memory = 1

abbrev pub replayed : Ended → Output
replayed ended = record { status = end_status_of (end_of ended.refused); bytes = transcript_text_of ended }

-- the limits of a journal of so many entries
abbrev pub limits_of : ℕ → Limits
limits_of entries = record { entries = entries; text = MOST_TEXT }

-- what a schema and a binding let a monitor serve
abbrev pub world_of : Parts → Binding → World
world_of parts binding = record { schema = parts; introspection = introspection_of parts; binding = binding }

abbrev pub bound_over : Parts → List ℕ → Result Binding BindFault → Result World FileFault
bound_over parts name (Ok binding) = Ok (world_of parts binding)
bound_over parts name (Err fault) = Err (InBind name fault)

-- the world of a schema and the text of the bind file of the name
abbrev pub bind_over : Parts → List ℕ → Option (List ℕ) → Result World FileFault
bind_over parts name None = Err (NoBind name)
bind_over parts name (Some text) = bound_over parts name (bind_of parts text)

-- the world of what loading and checking a schema answers, and of the text of a bind file
abbrev pub world_over : List ℕ → Result Parts SchemaFault → Option (List ℕ) → Result World FileFault
world_over name (Ok parts) text = bind_over parts name text
world_over name (Err fault) text = Err (InSchema fault)

-- what is played of a script over a world
abbrev pub play_of : World → ℕ → List ℕ → Ended
play_of world entries script = played_of world (limits_of entries) script

abbrev pub replay_output : List ℕ → Option Ended → Output
replay_output script None = missing script
replay_output script (Some ended) = replayed ended

-- what stands outside: what loading and checking the schema answers, the text of the bind file, where there is
-- one, and the files of which one is the script
pub record Outside : Type 0 where
  pub schema : Result Parts SchemaFault
  pub bind : Option (List ℕ)
  pub files : List NamedText

-- the name of the bind file; without one it is empty
abbrev pub bind_name : Words → List ℕ
bind_name w = unwrap_or w.bind []

-- the world of words, or the first fault of their files
abbrev pub world_for : Words → Outside → Result World FileFault
world_for w outside = world_over (bind_name w) outside.schema outside.bind

-- what is played of a command's script; nothing, where it has none or there is none of that name
abbrev pub play_from : World → List NamedText → ℕ → Command → Option Ended
play_from world files entries (Replay script) = option_map (play_of world entries) (text_of script files)
play_from world files entries command = None

abbrev pub play_over : Words → List NamedText → Result World FileFault → Option Ended
play_over w files (Ok world) = play_from world files w.entries w.command
play_over w files (Err fault) = None

-- what is played for words over what stands outside, if anything is
abbrev pub play_for : Option Words → Outside → Option Ended
play_for words outside = option_and_then (λ w. play_over w outside.files (world_for w outside)) words

-- the journal of that play
abbrev pub journal_for : Option Words → Outside → List Entry
journal_for words outside = unwrap_or (option_map (λ ended. ended.played.journal) (play_for words outside)) []

abbrev pub command_output : World → List NamedText → ℕ → Command → Output
command_output world files entries Check = record { status = 0; bytes = ok_line world.schema }
command_output world files entries Introspect = record { status = 0; bytes = introspection_line world }
command_output world files entries (Replay script) = replay_output script (option_map (play_of world entries) (text_of script files))

-- a fault of a file ends the run, whatever the command
abbrev pub world_output : Words → List NamedText → Result World FileFault → Output
world_output w files (Ok world) = command_output world files w.entries w.command
world_output w files (Err fault) = file_fault_output fault

-- the status and the bytes for words over what stands outside
abbrev pub output_over : Option Words → Outside → Output
output_over None outside = usage
output_over (Some w) outside = world_output w outside.files (world_for w outside)

-- what loading and checking the schema of a command line answers, over files
abbrev pub schema_of : Words → List NamedText → Result Parts SchemaFault
schema_of w files = table_of files w.schema (names_defined w.define)

-- the text of the bind file of a name, over files; without a name it is the empty object
abbrev pub bind_text : Option (List ℕ) → List NamedText → Option (List ℕ)
bind_text None files = Some (codes "{}")
bind_text (Some name) files = text_of name files
