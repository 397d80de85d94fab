-- The expressions of a schema's files in reading order, or the first fault (QAPI code generation
-- guide, "Include directives"; the order of faults and the limit are this project's own rules).
use Rattle.std.specs.Prelude.{ℕ, zero, suc, ◌==◌, Bool, true, false, if◌then◌else◌, nat_le, List, [], ◌∷◌, ◌++◌, length, find, codes, Option, Some, None, option_and_then, Result, Ok, Err}
use Rattle.std.specs.{List.list_any, Str.bytes_eq}
use Rattle.qapi_lex.specs.{declared.fault.LexFault.LexFault, declared.token.Token.Token, Tokens.tokens_of}
use Rattle.qapi_lex.specs.declared.fault.LexFault.TheVariants as lexing
use Rattle.qapi_tree.specs.{declared.fault.TreeFault.TreeFault, declared.tree.Expr.Expr, declared.tree.Tree.Tree, declared.tree.Tree.TheOpen.Tree-F, Spelling.has_key}
use Rattle.qapi_tree.specs.declared.tree.Tree.TheOpen as layer
use Rattle.qapi_tree.specs.{declared.tree.Tree.TheFolds.fold-Tree, declared.tree.TreeMember.TreeMember, Judging.expressions_of}
use Rattle.qm_base.specs.Names.{is_named}
use Rattle.qapi_load.specs.{Files.NamedText, Files.text_of, declared.fault.LoadFault.LoadFault, declared.fault.LoadRule.LoadRule}
use Rattle.qapi_load.specs.declared.fault.LoadRule.TheVariants as rule
use Rattle.qapi_load.specs.declared.{fault.TheConstants.MOST_FILES, reading.Place.Place, reading.Need.Need, reading.Reading.Reading, source.Source.Source}
use Rattle.qapi_load.specs.declared.reading.Need.TheVariants as need

abbrev pub on : {A B : Type 0} → Result A LoadFault → (A → Result B LoadFault) → Result B LoadFault
on (Ok x) next = next x
on (Err fault) next = Err fault

abbrev pub fault_at : LoadRule → List ℕ → ℕ → List ℕ → LoadFault
fault_at broken file line name = record { rule = broken; file = file; line = line; name = name }

-- the fault of an included file
abbrev pub include_fault : LoadRule → Place → List ℕ → LoadFault
include_fault broken place name = fault_at broken place.file place.line name

-- want of memory, which is no fault of files
abbrev pub memory_fault : LoadFault
memory_fault = fault_at rule.Memory [] 0 []

-- reading the file failed
abbrev pub read_fault : List ℕ → LoadFault
read_fault file = fault_at rule.ReadFault file 0 []

-- a file's name up to its last `/`
abbrev pub folder_of : List ℕ → List ℕ
folder_of [] = []
folder_of (x ∷ rest) = if list_any (λ byte. byte == 47) (x ∷ rest) then x ∷ folder_of rest else []

-- the full name of what a file includes
abbrev pub full_name : List ℕ → List ℕ → List ℕ
full_name file name = folder_of file ++ name

-- the bytes of a string
abbrev pub string_layer : Tree-F (Option (List ℕ)) (Unit {0}) → Option (List ℕ)
string_layer (layer.Tree-F.Str text) = Some text
string_layer _ = None

abbrev pub string_of : Tree → Option (List ℕ)
string_of = fold-Tree (Option (List ℕ)) (Unit {0}) string_layer (λ _. tt)

-- the value of the first member of a key, if it is a string
abbrev pub string_at : List ℕ → List TreeMember → Option (List ℕ)
string_at key members = option_and_then (λ m. string_of m.tree) (find (λ m. bytes_eq m.key key) members)

-- what an expression includes, if it is an include
abbrev pub included_by : Expr → Option (List ℕ)
included_by expr = string_at (codes "include") expr.keys

abbrev pub is_pragma : Expr → Bool
is_pragma expr = has_key expr.keys (codes "pragma")

-- the line of a fault of tokens
abbrev pub line_of : LexFault → ℕ
line_of (lexing.BadByte line) = line
line_of (lexing.BadEscape line) = line
line_of (lexing.Unclosed line) = line
line_of lexing.Memory = 0

abbrev pub expressions_in : List ℕ → Result (List Expr) TreeFault → Result (List Expr) LoadFault
expressions_in file (Ok exprs) = Ok exprs
expressions_in file (Err fault) = Err (fault_at (rule.Tree fault.rule) file fault.line fault.name)

abbrev pub tokens_in : List ℕ → Result (List Token) LexFault → Result (List Expr) LoadFault
tokens_in file (Ok tokens) = expressions_in file (expressions_of tokens)
tokens_in file (Err fault) = Err (fault_at (rule.Lex fault) file (line_of fault) [])

-- the expressions of a file that is included at a place
abbrev pub parsed : Place → List ℕ → Option (List ℕ) → Result (List Expr) LoadFault
parsed place name None = Err (include_fault rule.NoFile place name)
parsed place name (Some text) = tokens_in name (tokens_of text)

abbrev pub with_source : Reading → List ℕ → Expr → Reading
with_source r file expr = record r { sources = r.sources ++ record { file = file; expr = expr } ∷ [] }

abbrev pub begin : Reading → List ℕ → Reading
begin r name = record r { begun = r.begun ++ name ∷ [] }

abbrev pub finish : Reading → List ℕ → Reading
finish r name = record r { finished = r.finished ++ name ∷ [] }

-- a file that was read whole is passed over; one that is still being read, or that is one too many, is refused
abbrev pub need_of : Reading → List ℕ → Need
need_of r name =
    if is_named r.finished name then need.Nothing
    else if is_named r.begun name then need.Cycle
    else if nat_le MOST_FILES (length r.begun) then need.TooMany
    else need.Wanted

-- the reading after an include, where `read` reads a file that is wanted
abbrev pub after_include : (Reading → Place → List ℕ → Result Reading LoadFault) → Reading → Place → List ℕ → Need → Result Reading LoadFault
after_include read r place name need.Nothing = Ok r
after_include read r place name need.Cycle = Err (include_fault rule.IncludeCycle place name)
after_include read r place name need.TooMany = Err (include_fault rule.TooManyFiles place name)
after_include read r place name need.Wanted = read r place name

-- the reading after an expression of a file
abbrev pub after_expression : (Reading → Place → List ℕ → Result Reading LoadFault) → List ℕ → Reading → Expr → Option (List ℕ) → Bool → Result Reading LoadFault
after_expression read file r e (Some name) pragma =
    after_include read r (record { file = file; line = e.line }) (full_name file name) (need_of r (full_name file name))
after_expression read file r e None true = Ok r
after_expression read file r e None false = Ok (with_source r file e)

-- the reading after expressions of a file, in their order
abbrev pub after_expressions : (Reading → Place → List ℕ → Result Reading LoadFault) → List ℕ → Reading → List Expr → Result Reading LoadFault
after_expressions read file r [] = Ok r
after_expressions read file r (e ∷ es) =
    on (after_expression read file r e (included_by e) (is_pragma e)) (λ next. after_expressions read file next es)

-- the reading after a file that is included at a place, and all that it includes, where files nest at most so deep
unfoldable pub after_file : ℕ → List NamedText → Reading → Place → List ℕ → Result Reading LoadFault
after_file zero told r place name = Err (include_fault rule.TooManyFiles place name)
after_file (suc n) told r place name =
    on (parsed place name (text_of name told)) (λ exprs.
    on (after_expressions (after_file n told) name (begin r name) exprs) (λ next. Ok (finish next name)))

abbrev pub nothing_read : Reading
nothing_read = record { sources = []; begun = []; finished = [] }

-- the expressions of a schema's main file and of all that it includes, in reading order, includes and
-- pragmas left out; or the first fault. Files that are read at one time are files that were begun: they
-- nest no deeper than there may be files
unfoldable pub sources_of : List NamedText → List ℕ → Result (List Source) LoadFault
sources_of told main =
    on (after_file MOST_FILES told nothing_read (record { file = main; line = 0 }) main) (λ r. Ok r.sources)
