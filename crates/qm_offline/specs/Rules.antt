-- The words for the rules of a schema, as they are printed (this project's own rule): the rule's name in lower case with dashes.
use Rattle.std.specs.Prelude.{ℕ, Bool, true, false, if◌then◌else◌, List, codes, Option, Some, None}
use Rattle.qapi_lex.specs.declared.fault.LexFault.{LexFault}
use Rattle.qapi_lex.specs.declared.fault.LexFault.TheVariants as lexing
use Rattle.qapi_tree.specs.declared.fault.TreeRule.{TreeRule}
use Rattle.qapi_tree.specs.declared.fault.TreeRule.TheVariants as tree
use Rattle.qapi_load.specs.declared.fault.{LoadFault.LoadFault, LoadRule.LoadRule}
use Rattle.qapi_load.specs.declared.fault.LoadRule.TheVariants as load
use Rattle.qapi_rules.specs.declared.fault.CheckRule.{CheckRule}
use Rattle.qapi_rules.specs.declared.fault.CheckRule.TheVariants as check

abbrev pub lex_word : LexFault → List ℕ
lex_word (lexing.BadByte line) = codes "bad-byte"
lex_word (lexing.BadEscape line) = codes "bad-escape"
lex_word (lexing.Unclosed line) = codes "unclosed"
lex_word lexing.Memory = codes "memory"

abbrev pub tree_word : TreeRule → List ℕ
tree_word tree.Syntax = codes "syntax"
tree_word tree.UnknownKey = codes "unknown-key"
tree_word tree.MissingKey = codes "missing-key"
tree_word tree.DuplicateKey = codes "duplicate-key"
tree_word tree.WrongShape = codes "wrong-shape"
tree_word tree.Memory = codes "memory"

abbrev pub load_word : LoadRule → List ℕ
load_word load.NoFile = codes "no-file"
load_word load.IncludeCycle = codes "include-cycle"
load_word load.TooManyFiles = codes "too-many-files"
load_word (load.Lex fault) = lex_word fault
load_word (load.Tree rule) = tree_word rule
load_word load.ReadFault = codes "read-fault"
load_word load.Memory = codes "memory"

abbrev pub check_word : CheckRule → List ℕ
check_word check.BadName = codes "bad-name"
check_word check.Redefined = codes "redefined"
check_word check.NoSuccessResponse = codes "no-success-response"
check_word check.MemberClash = codes "member-clash"
check_word check.UnknownType = codes "unknown-type"
check_word check.BadBase = codes "bad-base"
check_word check.BadDiscriminator = codes "bad-discriminator"
check_word check.UnknownBranch = codes "unknown-branch"
check_word check.KindClash = codes "kind-clash"
check_word check.BadData = codes "bad-data"
check_word check.BaseCycle = codes "base-cycle"
check_word check.Memory = codes "memory"

abbrev pub is_syntax : TreeRule → Bool
is_syntax tree.Syntax = true
is_syntax rule = false

-- rules of tokens, and what cannot stand where it stands, are about no name
abbrev pub is_nameless : LoadRule → Bool
is_nameless (load.Lex fault) = true
is_nameless (load.Tree rule) = is_syntax rule
is_nameless rule = false

-- the name that is printed with the rule
abbrev pub name_printed : LoadFault → Option (List ℕ)
name_printed fault = if is_nameless fault.rule then None else Some fault.name
