-- How the files of a schema are read one after another. This serves private functions.
use Rattle.std.specs.Prelude.{◌≡◌, ◌<◌, ◌≤◌, ◌+◌, ◌-◌, ℕ, true, false, List, [], ◌∷◌, length, Option, Some, None, Result, Ok, Err}
use Rattle.std.specs.Vec.Iter.{into_iter_items}
use Rattle.qapi_tree.specs.declared.tree.Expr.{Expr}
use Rattle.qm_base.specs.Names.{is_named}
use Rattle.qapi_load.specs.{Files.NamedText, Files.text_of, declared.fault.LoadFault.LoadFault, declared.fault.TheConstants.MOST_FILES}
use Rattle.qapi_load.specs.declared.loading.{Loading.Loading, Move.Move, Move.TheVariants.Done, Move.TheVariants.On, Move.TheVariants.Ask}
use Rattle.qapi_load.specs.declared.open_file.{OpenFile.OpenFile, Turn.Turn, Turn.TheVariants.Over, Turn.TheVariants.Stop, Wanted.Wanted}
use Rattle.qapi_load.specs.{declared.reading.Place.Place, declared.reading.Reading.Reading, declared.source.Source.Source, Loading.on, Loading.after_expressions, Loading.after_file, Loading.finish}

-- how a file that is wanted is read
abbrev pub Read : Type 0
Read = Reading → Place → List ℕ → Result Reading LoadFault

-- the expressions of a file that are still to be read
abbrev pub left_in : OpenFile → List Expr
left_in file = into_iter_items file.rest

-- the reading after an expression, where an include is still to be followed, if it is one
abbrev pub taken : Read → Turn → Reading → Result Reading LoadFault
taken read Over r = Ok r
taken read (Stop w) r = read r w.place w.name

-- a file that is to be read is a new one, and not one too many
abbrev pub HasRoom : Turn → Reading → Type 0
HasRoom Over r = Unit {0}
HasRoom (Stop w) r = (length r.begun < MOST_FILES) × (is_named r.begun w.name ≡ false)

-- no file was begun or read whole
pub record SameFiles (old new : Reading) : Type 0 where
  pub begun : new.begun ≡ old.begun
  pub finished : new.finished ≡ old.finished

-- the reading after a file's expressions, where an include is still to be followed, if there is one
abbrev pub goes_on : Read → Option Wanted → OpenFile → Reading → Result Reading LoadFault
goes_on read None file r = Ok r
goes_on read (Some w) file r =
    on (read r w.place w.name) (λ next. after_expressions read file.name next (left_in file))

-- the reading after the rest of a file, and after what was read before
abbrev pub closed : ℕ → List NamedText → OpenFile → Result Reading LoadFault → Result Reading LoadFault
closed n told file before =
    on before (λ r. on (after_expressions (after_file n told) file.name r (left_in file)) (λ next. Ok (finish next file.name)))

-- the reading after the rest of files that are open, the outermost first
abbrev pub all_closed : ℕ → List NamedText → List OpenFile → Result Reading LoadFault → Result Reading LoadFault
all_closed n told [] before = before
all_closed n told (file ∷ inner) before = closed n told file (all_closed (n - 1) told inner before)

-- how deep files may nest below the file that is being read
abbrev pub depth_left : Loading → ℕ
depth_left l = MOST_FILES - 1 - length l.outer.items

-- the sources after all files that are open
abbrev pub sources_after : List NamedText → Loading → Result Reading LoadFault → Result (List Source) LoadFault
sources_after told l before =
    on (all_closed (MOST_FILES - 1) told l.outer.items (closed (depth_left l) told l.file before)) (λ r. Ok r.sources)

-- what a reading comes to
abbrev pub outcome_of : List NamedText → Loading → Result (List Source) LoadFault
outcome_of told l = sources_after told l (Ok l.reading)

-- what a reading comes to where a file is to be read next
abbrev pub outcome_with : List NamedText → Loading → Wanted → Result (List Source) LoadFault
outcome_with told l w = sources_after told l (after_file (depth_left l) told l.reading w.place w.name)

-- what a reading comes to, if it goes on
abbrev pub outcome_on : List NamedText → Result Loading LoadFault → Result (List Source) LoadFault
outcome_on told (Ok l) = outcome_of told l
outcome_on told (Err fault) = Err fault

abbrev pub outcome_moved : List NamedText → Move → Result (List Source) LoadFault
outcome_moved told (Done sources) = Ok sources
outcome_moved told (On l) = outcome_of told l
outcome_moved told (Ask l w) = outcome_with told l w

-- the files that are open, and those that were read whole, are those that were begun
pub record Sound (l : Loading) : Type 0 where
  pub begun : length l.reading.finished + length l.outer.items + 1 ≡ length l.reading.begun
  pub within : length l.reading.begun ≤ MOST_FILES

-- what a reading has become is sound; a file was read whole, or a new one is to be read
abbrev pub IsFurther : Reading → Move → Type 0
IsFurther old (Done sources) = Unit {0}
IsFurther old (On l) = Sound l × (l.reading.begun ≡ old.begun) × (length old.finished < length l.reading.finished)
IsFurther old (Ask l w) = Sound l × SameFiles old l.reading × HasRoom (Stop w) l.reading

-- a file's expressions, after its name, or the fault
abbrev pub Fetches : Result (List ℕ × List Expr) LoadFault → Result (List Expr) LoadFault → Type 0
Fetches (Ok found) right = right ≡ Ok found.1
Fetches (Err fault) right = right ≡ Err fault

-- the files have these texts under the names
abbrev pub HaveTexts : List (List ℕ) → (List ℕ → Option (List ℕ)) → List NamedText → Type 0
HaveTexts names text files = (name : List ℕ) → is_named names name ≡ true → text_of name files ≡ text name

-- what holds of the files that a library tells, and of all files that have the texts which it gave under the names
pub record OverFiles (tells : Option (List NamedText)) (names : List (List ℕ)) (Holds : List NamedText → Type 0) : Type 0 where
  pub text : List ℕ → Option (List ℕ)
  pub told : (files : List NamedText) → tells ≡ Some files → Holds files
  pub given : (files : List NamedText) → HaveTexts names text files → Holds files
