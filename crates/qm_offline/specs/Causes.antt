-- Why a run ends as it does (this project's own rule).
use Rattle.std.specs.Prelude.{◌≡◌, Bool, true, false, List, ℕ, Option, Some, None, Result, Ok, Err, IsSome, ◌⊎◌}
use Rattle.qapi_load.specs.Files.{text_of}
use Rattle.qm_bind.specs.declared.fault.BindFault.{BindFault}
use Rattle.qm_core.specs.declared.world.World.{World}
use Rattle.qm_script.specs.declared.endings.{Refused.Refused, Stop.Stop, Stop.TheVariants.BadLine, Stop.TheVariants.Step, Stop.TheVariants.SessionsFull, Stop.TheVariants.JournalFull}
use Rattle.qapi_check.specs.declared.loading.SchemaFault.{SchemaFault}
use Rattle.qm_offline.specs.{Output.FileFault, Output.InBind, Output.InSchema, Output.NoBind, Output.Outside, Output.play_of, Output.world_for, Words.Words}
use Rattle.qm_offline.specs.declared.loading.Command.{Command, TheVariants.Replay}

-- the journal or the sessions were full; else the line was bad, or its step was refused
abbrev pub is_full : Stop → Bool
is_full BadLine = false
is_full (Step word) = false
is_full SessionsFull = true
is_full JournalFull = true

-- the words are in the grammar, and this is the world of their files, or the first fault
pub record Loads (words : Option Words) (outside : Outside) (answer : Result World FileFault) : Type 0 where
  pub asked : Words
  pub words_ask : words ≡ Some asked
  pub answers : world_for asked outside ≡ answer

-- the schema that the words name is refused for this fault
pub record Refuses (words : Option Words) (outside : Outside) : Type 0 where
  pub fault : SchemaFault
  pub loads : Loads words outside (Err (InSchema fault))

-- the schema has no fault, and there is no bind file of the name
pub record Unbound (words : Option Words) (outside : Outside) : Type 0 where
  pub name : List ℕ
  pub loads : Loads words outside (Err (NoBind name))

-- the schema has no fault, and the bind file is refused for this fault
pub record Misbinds (words : Option Words) (outside : Outside) : Type 0 where
  pub name : List ℕ
  pub fault : BindFault
  pub loads : Loads words outside (Err (InBind name fault))

-- the command asks for a script
abbrev pub needs_script : Command → Bool
needs_script (Replay script) = true
needs_script command = false

-- the files have no fault, and the command asks for nothing else than what they say
pub record Accepts (words : Option Words) (outside : Outside) : Type 0 where
  pub world : World
  pub loads : Loads words outside (Ok world)
  pub alone : needs_script loads.asked.command ≡ false

-- the files have no fault, the words ask for a script, and this is its text where there is one of that name
pub record Finds (words : Option Words) (outside : Outside) (script : Option (List ℕ)) : Type 0 where
  pub world : World
  pub loads : Loads words outside (Ok world)
  pub name : List ℕ
  pub replay : loads.asked.command ≡ Replay name
  pub found : text_of name outside.files ≡ script

-- there is no script of that name
abbrev pub Misses : Option Words → Outside → Type 0
Misses words outside = Finds words outside None

-- the script is played to this end: to its own, or to a line that is refused
pub record PlaysTo (words : Option Words) (outside : Outside) (end : Option Refused) : Type 0 where
  pub script : List ℕ
  pub finds : Finds words outside (Some script)
  pub end_is : (play_of finds.world finds.loads.asked.entries script).refused ≡ end

-- the play of the script stops at a line, which was or was not for want of room
pub record Stops (full : Bool) (words : Option Words) (outside : Outside) : Type 0 where
  pub line : Refused
  pub plays : PlaysTo words outside (Some line)
  pub cause : is_full line.stop ≡ full

-- the words name a schema
abbrev pub NamesSchema : Option Words → Type 0
NamesSchema None = ⊥
NamesSchema (Some w) = IsSome w.schema

-- this is the bind file that the words name
abbrev pub NamesBind : Option Words → List ℕ → Type 0
NamesBind None name = ⊥
NamesBind (Some w) name = w.bind ≡ Some name

-- this is the script that the words name
abbrev pub NamesScript : Option Words → List ℕ → Type 0
NamesScript None name = ⊥
NamesScript (Some w) name = w.command ≡ Replay name

-- a file that loading the words may have read: the bind file, or any file of the schema
abbrev pub MayLoad : Option Words → List ℕ → Type 0
MayLoad words name = NamesSchema words ⊎ NamesBind words name

-- a file that the words may have read: the script, or one that loading them may have read
abbrev pub MayRead : Option Words → List ℕ → Type 0
MayRead words name = MayLoad words name ⊎ NamesScript words name
