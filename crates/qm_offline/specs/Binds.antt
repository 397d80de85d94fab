-- The words for the rules of a bind file, and its lines, as they are printed (this project's own rule): the rule's
-- name in lower case with dashes.
use Rattle.std.specs.Prelude.{ℕ, ◌==◌, if◌then◌else◌, List, [], ◌++◌, length, codes}
use Rattle.qm_core.specs.Texts.{json_word_of}
use Rattle.qm_core.specs.declared.inputs.JsonWord.TheVariants as word
use Rattle.qm_read.specs.declared.fault.JsonFault.{JsonFault}
use Rattle.qm_read.specs.declared.fault.JsonFault.TheVariants as text
use Rattle.qm_bind.specs.declared.fault.{BindFault.BindFault, BindRule.BindRule}
use Rattle.qm_bind.specs.declared.fault.BindRule.TheVariants as rule

-- the fault of a text that is no JSON, as a journal has it
abbrev pub text_word : JsonFault → List ℕ
text_word (text.Expected place) = json_word_of (word.Expected place)
text_word (text.Duplicate place) = json_word_of (word.Duplicate place)
text_word (text.BadEscape place) = json_word_of (word.BadEscape place)
text_word (text.BadUtf8 place) = json_word_of (word.BadUtf8 place)
text_word text.Memory = codes "memory"

abbrev pub rule_word : BindRule → List ℕ
rule_word (rule.NotJson fault) = codes "not-json"
rule_word rule.UnknownCommand = codes "unknown-command"
rule_word rule.UnknownEvent = codes "unknown-event"
rule_word rule.BadRecipe = codes "bad-recipe"
rule_word rule.BadPeriod = codes "bad-period"
rule_word rule.Twice = codes "twice"
rule_word rule.Memory = codes "memory"

-- what is printed behind the word of a rule: a text's fault; a name, of `bad-recipe` only one that is not empty
abbrev pub told_behind : BindRule → List ℕ → List ℕ
told_behind (rule.NotJson fault) name = codes " " ++ text_word fault
told_behind rule.BadRecipe name = if length name == 0 then [] else codes " " ++ name
told_behind other name = codes " " ++ name

-- the line of a bind file's fault
abbrev pub bind_line : List ℕ → BindFault → List ℕ
bind_line file fault = codes "error: bind " ++ file ++ codes ": " ++ rule_word fault.rule ++ told_behind fault.rule fault.name ++ codes "\n"

-- there is no such bind file
abbrev pub missing_bind : List ℕ → List ℕ
missing_bind file = codes "error: bind " ++ file ++ codes ": no-file\n"
