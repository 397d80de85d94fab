-- What spells a row of objects is read as that row.
use Rattle.std.proofs.Common.{◌≡◌, ℕ, true, false, List, [], ◌∷◌, ◌++◌, Result, Ok, refl, ap, sym, ◌∙◌, append_assoc}
use Rattle.std.proofs.lemmas.List.{append-nil}
use Rattle.qapi_lex.specs.declared.token.{Token.Token, TokenKind.TheVariants.Mark, TokenKind.TheVariants.Str}
use Rattle.qapi_tree.specs.declared.{fault.TreeFault.TreeFault, stack.Expect.Expect}
use Rattle.qapi_tree.specs.declared.stack.Expect.TheVariants.{Object, Value, ValueOrEnd, Key, KeyOrEnd, Colon, CommaOrEnd}
use Rattle.qapi_tree.specs.declared.{stack.Open.Open, tree.Tree.Tree, tree.Expr.Expr, tree.TreeMember.TreeMember}
use Rattle.qapi_tree.specs.declared.stack.Open.TheVariants as opens
use Rattle.qapi_tree.specs.declared.tree.Tree.TheVariants as trees
use Rattle.qapi_tree.specs.Reading.{on, run, whole, last_line, objects_of}
use Rattle.qapi_tree.specs.Spelling.{has_key, at, SpellsTree, flag, string, no_items, list, dict, SpellsObject, no_members, object, SpellsItems, item, more_items, SpellsMembers, member, more_members, SpellsRow, nothing, more}
use Rattle.qapi_tree.specs.Stacks.{State, begun, takes_value, takes_object, takes_key, given, given_object, put, put_object}

abbrev going : List Open → Expect → State
going stack e = record { stack = stack; expect = e }

not_key : (e : Expect) → takes_value e ≡ true → takes_key e ≡ false
not_key Object h = refl
not_key Value h = refl
not_key ValueOrEnd h = refl
not_key Key h = cc
not_key KeyOrEnd h = cc
not_key Colon h = refl
not_key CommaOrEnd h = refl

object_too : (e : Expect) → takes_value e ≡ true → takes_object e ≡ true
object_too Object h = cc
object_too Value h = refl
object_too ValueOrEnd h = refl
object_too Key h = cc
object_too KeyOrEnd h = cc
object_too Colon h = cc
object_too CommaOrEnd h = cc

opens_list : (stack : List Open) (e : Expect) (l c : ℕ) (rest : List Token) → takes_value e ≡ true → run (going stack e) (at (Mark 91) l c ∷ rest) ≡ run (going (opens.List [] ∷ stack) ValueOrEnd) rest
opens_list stack e l c rest t = rw t refl

opens_object : (stack : List Open) (e : Expect) (l c : ℕ) (rest : List Token) → takes_object e ≡ true → run (going stack e) (at (Mark 123) l c ∷ rest) ≡ run (going (opens.Dict [] [] l ∷ stack) KeyOrEnd) rest
opens_object stack e l c rest t = rw t refl

new_key : (members : List TreeMember) (stack : List Open) (key : List ℕ) (o l c m d : ℕ) (rest : List Token) → has_key members key ≡ false → run (going (opens.Dict members [] o ∷ stack) Key) (at (Str key) l c ∷ at (Mark 58) m d ∷ rest) ≡ run (going (opens.Dict members key o ∷ stack) Value) rest
new_key members stack key o l c m d rest h = rw h refl

-- an object in it is a value like others
abbrev IsInside : Open → Type 0
IsInside next = (l : ℕ) (keys : List TreeMember) → given_object next l keys ≡ given next (trees.Dict keys)

mutual
  accepts : {ts : List Token} {v : Tree} → SpellsTree ts v → (next : Open) (outer : List Open) (e : Expect) (rest : List Token) → IsInside next → takes_value e ≡ true → run (going (next ∷ outer) e) (ts ++ rest) ≡ run (put v (next ∷ outer)) rest
  accepts (flag b l c) next outer e rest i t = rw t refl
  accepts (string text l c) next outer e rest i t = rw (not_key e t, t) refl
  accepts (no_items l c m d) next outer e rest i t = opens_list (next ∷ outer) e l c (at (Mark 93) m d ∷ rest) t
  accepts (list {ts = ts} {items = items} l c m d is) next outer e rest i t =
      opens_list (next ∷ outer) e l c ((ts ++ at (Mark 93) m d ∷ []) ++ rest) t
      ∙ ap (run (going (opens.List [] ∷ next ∷ outer) ValueOrEnd)) (append_assoc ts (at (Mark 93) m d ∷ []) rest)
      ∙ accepts_items is (next ∷ outer) (at (Mark 93) m d ∷ rest)
  accepts (dict {members = members} l o) next outer e rest i t =
      accepts_object o next outer e rest (object_too e t)
      ∙ ap (λ (top : Open). run (record { stack = top ∷ outer; expect = (put (trees.Dict members) (next ∷ outer)).expect }) rest) (i l members)

  accepts_object : {l : ℕ} {ts : List Token} {members : List TreeMember} → SpellsObject l ts members → (next : Open) (outer : List Open) (e : Expect) (rest : List Token) → takes_object e ≡ true → run (going (next ∷ outer) e) (ts ++ rest) ≡ run (put_object l members (next ∷ outer)) rest
  accepts_object (no_members l c m d) next outer e rest t = opens_object (next ∷ outer) e l c (at (Mark 125) m d ∷ rest) t
  accepts_object (object {ts = ts} {members = members} l c m d ms) next outer e rest t =
      opens_object (next ∷ outer) e l c ((ts ++ at (Mark 125) m d ∷ []) ++ rest) t
      ∙ ap (run (going (opens.Dict [] [] l ∷ next ∷ outer) KeyOrEnd)) (append_assoc ts (at (Mark 125) m d ∷ []) rest)
      ∙ accepts_members ms l (next ∷ outer) (at (Mark 125) m d ∷ rest)

  accepts_items : {ts : List Token} {items : List Tree} → SpellsItems ts items → (stack : List Open) (rest : List Token) → run (going (opens.List [] ∷ stack) ValueOrEnd) (ts ++ rest) ≡ run (going (opens.List items ∷ stack) CommaOrEnd) rest
  accepts_items (item s) stack rest = accepts s (opens.List []) stack ValueOrEnd rest (λ l ks. refl) refl
  accepts_items (more_items {ts = ts} {t = t} {items = items} l c is s) stack rest =
      ap (run (going (opens.List [] ∷ stack) ValueOrEnd)) (append_assoc ts (at (Mark 44) l c ∷ t) rest)
      ∙ accepts_items is stack (at (Mark 44) l c ∷ t ++ rest)
      ∙ accepts s (opens.List items) stack Value rest (λ l ks. refl) refl

  accepts_members : {ts : List Token} {members : List TreeMember} → SpellsMembers ts members → (o : ℕ) (stack : List Open) (rest : List Token) → run (going (opens.Dict [] [] o ∷ stack) KeyOrEnd) (ts ++ rest) ≡ run (going (opens.Dict members [] o ∷ stack) CommaOrEnd) rest
  accepts_members (member key l c m d s) o stack rest = accepts s (opens.Dict [] key o) stack Value rest (λ l ks. refl) refl
  accepts_members (more_members {ts = ts} {t = t} {members = members} key k b l c m d ms fresh s) o stack rest =
      ap (run (going (opens.Dict [] [] o ∷ stack) KeyOrEnd)) (append_assoc ts (at (Mark 44) k b ∷ at (Str key) l c ∷ at (Mark 58) m d ∷ t) rest)
      ∙ accepts_members ms o stack (at (Mark 44) k b ∷ at (Str key) l c ∷ at (Mark 58) m d ∷ t ++ rest)
      ∙ new_key members stack key o l c m d (t ++ rest) fresh
      ∙ accepts s (opens.Dict members key o) stack Value rest (λ l ks. refl) refl

accepts_row : {ts : List Token} {exprs : List Expr} → SpellsRow ts exprs → (rest : List Token) → run begun (ts ++ rest) ≡ run (going (opens.File exprs ∷ []) Object) rest
accepts_row nothing rest = refl
accepts_row (more {ts = ts} {t = t} {exprs = exprs} l r o) rest =
    ap (run begun) (append_assoc ts t rest)
    ∙ accepts_row r (t ++ rest)
    ∙ accepts_object o (opens.File exprs) [] Object rest refl

-- what spells a row of objects is read as that row
pub row-read : (ts : List Token) (exprs : List Expr) → SpellsRow ts exprs → objects_of ts ≡ Ok exprs
unfolding objects_of
row-read ts exprs r = ap (λ (q : Result State TreeFault). on q (λ s. whole s.stack (last_line 0 ts))) (ap (run begun) (sym (append-nil ts)) ∙ accepts_row r [])
