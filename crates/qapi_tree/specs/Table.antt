-- The kinds of expressions, the keys of each form of object, and the shapes of values (QAPI code
-- generation guide, "Schema syntax"; the lenient points of shapes are this project's own rule).
use Rattle.std.specs.Prelude.{ℕ, List, [], ◌∷◌, codes}
use Rattle.qapi_tree.specs.declared.table.{Key.Key, Form.Form, Shape.Shape, KeyRule.KeyRule, KeyRule.TheVariants.Needed, KeyRule.TheVariants.Optional, KindRule.KindRule, ScalarRule.ScalarRule, ListRule.ListRule, DictRule.DictRule, ShapeRule.ShapeRule}
use Rattle.qapi_tree.specs.declared.table.Key.TheVariants as key
use Rattle.qapi_tree.specs.declared.table.Form.TheVariants as form
use Rattle.qapi_tree.specs.declared.table.Shape.TheVariants as shape
use Rattle.qapi_tree.specs.declared.table.ScalarRule.TheVariants as scalar
use Rattle.qapi_tree.specs.declared.table.ListRule.TheVariants as list
use Rattle.qapi_tree.specs.declared.table.DictRule.TheVariants as dict

-- how a key is written
abbrev pub name : Key → List ℕ
name key.Include = codes "include"
name key.Pragma = codes "pragma"
name key.Enum = codes "enum"
name key.Struct = codes "struct"
name key.Union = codes "union"
name key.Alternate = codes "alternate"
name key.Command = codes "command"
name key.Event = codes "event"
name key.Data = codes "data"
name key.Prefix = codes "prefix"
name key.Base = codes "base"
name key.Discriminator = codes "discriminator"
name key.Returns = codes "returns"
name key.Boxed = codes "boxed"
name key.Gen = codes "gen"
name key.AllowOob = codes "allow-oob"
name key.AllowPreconfig = codes "allow-preconfig"
name key.Coroutine = codes "coroutine"
name key.SuccessResponse = codes "success-response"
name key.If = codes "if"
name key.Features = codes "features"
name key.Type = codes "type"
name key.Name = codes "name"
name key.All = codes "all"
name key.Any = codes "any"
name key.Not = codes "not"

-- the kinds of expressions, each by its key
abbrev pub kind : Key → Form → KindRule
kind key form = record { 0 = key; 1 = form }

abbrev pub kinds : List KindRule
kinds =
    kind key.Include form.Include ∷ kind key.Pragma form.Pragma ∷ kind key.Enum form.Enum
    ∷ kind key.Struct form.Struct ∷ kind key.Union form.Union ∷ kind key.Alternate form.Alternate
    ∷ kind key.Command form.Command ∷ kind key.Event form.Event ∷ []

-- a definition may be conditional and have features
abbrev pub common : List KeyRule
common = Optional key.If shape.Condition ∷ Optional key.Features shape.Features ∷ []

-- the keys of each form, in the order in which a missing one is told
abbrev pub keys : Form → List KeyRule
keys form.Include = Needed key.Include shape.Text ∷ []
keys form.Pragma = Needed key.Pragma shape.Object ∷ []
keys form.Enum =
    Needed key.Enum shape.Text ∷ Needed key.Data shape.Values ∷ Optional key.Prefix shape.Text ∷ common
keys form.Struct =
    Needed key.Struct shape.Text ∷ Needed key.Data shape.Members ∷ Optional key.Base shape.Text ∷ common
keys form.Union =
    Needed key.Union shape.Text ∷ Needed key.Base shape.TextOrMembers ∷ Needed key.Discriminator shape.Text
    ∷ Needed key.Data shape.Branches ∷ common
keys form.Alternate = Needed key.Alternate shape.Text ∷ Needed key.Data shape.Branches ∷ common
keys form.Command =
    Needed key.Command shape.Text ∷ Optional key.Data shape.TextOrMembers ∷ Optional key.Returns shape.Reference
    ∷ Optional key.Boxed shape.Flag ∷ Optional key.Gen shape.Flag ∷ Optional key.AllowOob shape.Flag
    ∷ Optional key.AllowPreconfig shape.Flag ∷ Optional key.Coroutine shape.Flag
    ∷ Optional key.SuccessResponse shape.Flag ∷ common
keys form.Event =
    Needed key.Event shape.Text ∷ Optional key.Data shape.TextOrMembers ∷ Optional key.Boxed shape.Flag ∷ common
keys form.Member = Needed key.Type shape.Reference ∷ common
keys form.Value = Needed key.Name shape.Text ∷ common
keys form.Branch = Needed key.Type shape.Reference ∷ Optional key.If shape.Condition ∷ []
keys form.Feature = Needed key.Name shape.Text ∷ Optional key.If shape.Condition ∷ []
keys form.Choice =
    Optional key.All shape.Conditions ∷ Optional key.Any shape.Conditions ∷ Optional key.Not shape.Condition ∷ []

abbrev pub row : ScalarRule → ListRule → DictRule → ShapeRule
row s l d = record { scalar = s; list = l; dict = d }

-- what each shape takes: a string or a flag, a list, an object
abbrev pub rule_of : Shape → ShapeRule
rule_of shape.Text = row scalar.Text list.Never dict.Never
rule_of shape.Flag = row scalar.Flag list.Never dict.Never
rule_of shape.Object = row scalar.Never list.Never dict.Any
rule_of shape.Reference = row scalar.Text (list.One shape.Text) dict.Never
rule_of shape.Members = row scalar.Never list.Never (dict.Each shape.Member)
rule_of shape.Member = row scalar.Text (list.One shape.Text) (dict.Of form.Member)
rule_of shape.TextOrMembers = row scalar.Text list.Never (dict.Each shape.Member)
rule_of shape.Values = row scalar.Never (list.Each shape.Value) dict.Never
rule_of shape.Value = row scalar.Text list.Never (dict.Of form.Value)
rule_of shape.Branches = row scalar.Never list.Never (dict.Each shape.Branch)
rule_of shape.Branch = row scalar.Text (list.One shape.Text) (dict.Of form.Branch)
rule_of shape.Features = row scalar.Never (list.Each shape.Feature) dict.Never
rule_of shape.Feature = row scalar.Text list.Never (dict.Of form.Feature)
rule_of shape.Condition = row scalar.Text list.Never (dict.OneOf form.Choice)
rule_of shape.Conditions = row scalar.Never (list.Each shape.Condition) dict.Never
