-- Which tokens spell which expressions: a grammar by cases (QAPI code generation guide, "Schema
-- syntax"; that keys are distinct is this project's own rule).
use Rattle.std.specs.Prelude.{◌≡◌, ℕ, Bool, false, List, [], ◌∷◌, ◌++◌}
use Rattle.std.specs.{List.list_any, Str.bytes_eq}
use Rattle.qapi_lex.specs.declared.token.{Token.Token, TokenKind.TokenKind, TokenKind.TheVariants.Mark, TokenKind.TheVariants.Flag, TokenKind.TheVariants.Str}
use Rattle.qapi_tree.specs.declared.tree.{Tree.Tree, Expr.Expr, TreeMember.TreeMember}
use Rattle.qapi_tree.specs.declared.tree.Tree.TheVariants as trees

-- some member has the key
abbrev pub has_key : List TreeMember → List ℕ → Bool
has_key members key = list_any (λ m. bytes_eq m.key key) members

-- a token in a line, at a column
abbrev pub at : TokenKind → ℕ → ℕ → Token
at kind line column = record { kind = kind; line = line; column = column }

mutual
  -- the tokens spell the value
  pub data SpellsTree : List Token → Tree → Type 0 where
    flag : (b : Bool) (l c : ℕ) → SpellsTree (at (Flag b) l c ∷ []) (trees.Flag b)
    string : (text : List ℕ) (l c : ℕ) → SpellsTree (at (Str text) l c ∷ []) (trees.Str text)
    no_items : (l c m d : ℕ) → SpellsTree (at (Mark 91) l c ∷ at (Mark 93) m d ∷ []) (trees.List [])
    list : {ts : List Token} {items : List Tree} (l c m d : ℕ) → SpellsItems ts items →
        SpellsTree (at (Mark 91) l c ∷ ts ++ at (Mark 93) m d ∷ []) (trees.List items)
    dict : {ts : List Token} {members : List TreeMember} (l : ℕ) → SpellsObject l ts members → SpellsTree ts (trees.Dict members)

  -- the tokens spell an object of these members, whose `{` stands in a line
  pub data SpellsObject : ℕ → List Token → List TreeMember → Type 0 where
    no_members : (l c m d : ℕ) → SpellsObject l (at (Mark 123) l c ∷ at (Mark 125) m d ∷ []) []
    object : {ts : List Token} {members : List TreeMember} (l c m d : ℕ) → SpellsMembers ts members →
        SpellsObject l (at (Mark 123) l c ∷ ts ++ at (Mark 125) m d ∷ []) members

  -- one value or more, with commas between them
  pub data SpellsItems : List Token → List Tree → Type 0 where
    item : {t : List Token} {v : Tree} → SpellsTree t v → SpellsItems t (v ∷ [])
    more_items : {ts t : List Token} {items : List Tree} {v : Tree} (l c : ℕ) → SpellsItems ts items → SpellsTree t v →
        SpellsItems (ts ++ at (Mark 44) l c ∷ t) (items ++ v ∷ [])

  -- one member or more, with distinct keys
  pub data SpellsMembers : List Token → List TreeMember → Type 0 where
    member : {t : List Token} {v : Tree} (key : List ℕ) (l c m d : ℕ) → SpellsTree t v →
        SpellsMembers (at (Str key) l c ∷ at (Mark 58) m d ∷ t) (record { key = key; tree = v } ∷ [])
    more_members : {ts t : List Token} {members : List TreeMember} {v : Tree} (key : List ℕ) (k b l c m d : ℕ) →
        SpellsMembers ts members → has_key members key ≡ false → SpellsTree t v →
        SpellsMembers (ts ++ at (Mark 44) k b ∷ at (Str key) l c ∷ at (Mark 58) m d ∷ t) (members ++ record { key = key; tree = v } ∷ [])

-- the tokens spell a row of objects
pub data SpellsRow : List Token → List Expr → Type 0 where
  nothing : SpellsRow [] []
  more : {ts t : List Token} {exprs : List Expr} {members : List TreeMember} (l : ℕ) → SpellsRow ts exprs →
      SpellsObject l t members → SpellsRow (ts ++ t) (exprs ++ record { line = l; keys = members } ∷ [])
