-- What is read as a row of objects spells it.
use Rattle.std.proofs.Common.{◌≡◌, ◌==◌, ℕ, Bool, true, false, cond, List, [], ◌∷◌, ◌++◌, Result, Ok, Err, refl, ap, sym, ◌∙◌, subst, append_assoc, arith}
use Rattle.std.proofs.lemmas.{List.append-nil, Bool.Decides.nat_tests}
use Rattle.qapi_lex.specs.declared.token.{Token.Token, TokenKind.TokenKind, TokenKind.TheVariants.Mark, TokenKind.TheVariants.Flag, TokenKind.TheVariants.Str}
use Rattle.qapi_tree.specs.declared.{fault.TreeFault.TreeFault, stack.Expect.Expect}
use Rattle.qapi_tree.specs.declared.stack.Expect.TheVariants.{Object, Value, ValueOrEnd, Key, KeyOrEnd, Colon, CommaOrEnd}
use Rattle.qapi_tree.specs.declared.{stack.Open.Open, tree.Tree.Tree, tree.Expr.Expr, tree.TreeMember.TreeMember}
use Rattle.qapi_tree.specs.declared.stack.Open.TheVariants as opens
use Rattle.qapi_tree.specs.declared.tree.Tree.TheVariants as trees
use Rattle.qapi_tree.specs.{Faults.syntax_fault, Reading.on, Reading.run, Reading.whole, Reading.last_line, Reading.objects_of}
use Rattle.qapi_tree.specs.Spelling.{has_key, at, SpellsTree, flag, string, no_items, list, dict, SpellsObject, no_members, object, SpellsItems, item, more_items, SpellsMembers, member, more_members, SpellsRow, nothing, more}
use Rattle.qapi_tree.specs.Stacks.{State, begun, ends_list, ends_object, put, put_object}
use Rattle.qapi_tree.specs.Steps.{open_list, open_object, close_list, close_object, colon_step, comma_step, mark_step, kind_step, step}

abbrev pub going : List Open → Expect → State
going stack e = record { stack = stack; expect = e }

-- all tokens so far leave this open, and a value comes, or in the row (false) an object
pub data Awaits : Bool → List Token → List Open → Type 0 where
  row : {ts : List Token} {exprs : List Expr} → SpellsRow ts exprs → Awaits false ts (opens.File exprs ∷ [])
  first_item : {ts all : List Token} {stack : List Open} (m d : ℕ) → Awaits true ts stack → all ≡ ts ++ at (Mark 91) m d ∷ [] → Awaits true all (opens.List [] ∷ stack)
  next_item : {ts us all : List Token} {items : List Tree} {stack : List Open} (m d l c : ℕ) → Awaits true ts stack → SpellsItems us items → all ≡ ts ++ (at (Mark 91) m d ∷ us ++ at (Mark 44) l c ∷ []) → Awaits true all (opens.List items ∷ stack)
  first_member : {any : Bool} {ts all : List Token} {stack : List Open} (key : List ℕ) (m d l c k b : ℕ) → Awaits any ts stack → all ≡ ts ++ at (Mark 123) m d ∷ at (Str key) l c ∷ at (Mark 58) k b ∷ [] → Awaits true all (opens.Dict [] key m ∷ stack)
  next_member : {any : Bool} {ts us all : List Token} {members : List TreeMember} {stack : List Open} (key : List ℕ) (m d o p l c k b : ℕ) → Awaits any ts stack → SpellsMembers us members → has_key members key ≡ false → all ≡ ts ++ (at (Mark 123) m d ∷ us ++ at (Mark 44) o p ∷ at (Str key) l c ∷ at (Mark 58) k b ∷ []) → Awaits true all (opens.Dict members key m ∷ stack)

-- what all tokens so far are, by the state that they lead to
pub data Holds : List Token → State → Type 0 where
  awaiting : {all : List Token} {stack : List Open} → Awaits true all stack → Holds all (going stack Value)
  row_read : {all : List Token} {exprs : List Expr} → SpellsRow all exprs → Holds all (going (opens.File exprs ∷ []) Object)
  list_begun : {ts all : List Token} {stack : List Open} (m d : ℕ) → Awaits true ts stack → all ≡ ts ++ at (Mark 91) m d ∷ [] → Holds all (going (opens.List [] ∷ stack) ValueOrEnd)
  items_read : {ts us all : List Token} {items : List Tree} {stack : List Open} (m d : ℕ) → Awaits true ts stack → SpellsItems us items → all ≡ ts ++ at (Mark 91) m d ∷ us → Holds all (going (opens.List items ∷ stack) CommaOrEnd)
  object_begun : {any : Bool} {ts all : List Token} {stack : List Open} (m d : ℕ) → Awaits any ts stack → all ≡ ts ++ at (Mark 123) m d ∷ [] → Holds all (going (opens.Dict [] [] m ∷ stack) KeyOrEnd)
  members_read : {any : Bool} {ts us all : List Token} {members : List TreeMember} {stack : List Open} (m d : ℕ) → Awaits any ts stack → SpellsMembers us members → all ≡ ts ++ at (Mark 123) m d ∷ us → Holds all (going (opens.Dict members [] m ∷ stack) CommaOrEnd)
  key_next : {any : Bool} {ts us all : List Token} {members : List TreeMember} {stack : List Open} (m d o p : ℕ) → Awaits any ts stack → SpellsMembers us members → all ≡ ts ++ (at (Mark 123) m d ∷ us ++ at (Mark 44) o p ∷ []) → Holds all (going (opens.Dict members [] m ∷ stack) Key)
  first_key : {any : Bool} {ts all : List Token} {stack : List Open} (key : List ℕ) (m d l c : ℕ) → Awaits any ts stack → all ≡ ts ++ at (Mark 123) m d ∷ at (Str key) l c ∷ [] → Holds all (going (opens.Dict [] key m ∷ stack) Colon)
  next_key : {any : Bool} {ts us all : List Token} {members : List TreeMember} {stack : List Open} (key : List ℕ) (m d o p l c : ℕ) → Awaits any ts stack → SpellsMembers us members → has_key members key ≡ false → all ≡ ts ++ (at (Mark 123) m d ∷ us ++ at (Mark 44) o p ∷ at (Str key) l c ∷ []) → Holds all (going (opens.Dict members key m ∷ stack) Colon)

pub after : (ts us t all ends : List Token) → ts ≡ us ++ ends → all ≡ ts ++ t → all ≡ us ++ (ends ++ t)
after ts us t all ends e f = f ∙ ap (λ (l : List Token). l ++ t) e ∙ append_assoc us ends t

-- a value that was awaited
holds_put : {ts : List Token} {stack : List Open} → Awaits true ts stack → (t all : List Token) (v : Tree) → SpellsTree t v → all ≡ ts ++ t → Holds all (put v stack)
holds_put (first_item {ts = us} m d a e) t all v s f = items_read m d a (item s) (after _ us t all _ e f)
holds_put (next_item {ts = us} {us = is} m d l c a i e) t all v s f = items_read m d a (more_items l c i s) (after _ us t all _ e f ∙ ap (λ (r : List Token). us ++ at (Mark 91) m d ∷ r) (append_assoc is (at (Mark 44) l c ∷ []) t))
holds_put (first_member {ts = us} key m d l c k b a e) t all v s f = members_read m d a (member key l c k b s) (after _ us t all _ e f)
holds_put (next_member {ts = us} {us = ms} key m d o p l c k b a i fresh e) t all v s f = members_read m d a (more_members key o p l c k b i fresh s) (after _ us t all _ e f ∙ ap (λ (r : List Token). us ++ at (Mark 123) m d ∷ r) (append_assoc ms (at (Mark 44) o p ∷ at (Str key) l c ∷ at (Mark 58) k b ∷ []) t))

-- an object that was awaited
holds_object : {any : Bool} {ts : List Token} {stack : List Open} → Awaits any ts stack → (t all : List Token) (o : ℕ) (ms : List TreeMember) → SpellsObject o t ms → all ≡ ts ++ t → Holds all (put_object o ms stack)
holds_object (row {exprs = exprs} r) t all o ms s f = row_read (subst (λ (l : List Token). SpellsRow l (exprs ++ record { line = o; keys = ms } ∷ [])) (sym f) (more o r s))
holds_object (first_item m d a e) t all o ms s f = holds_put (first_item m d a e) t all (trees.Dict ms) (dict o s) f
holds_object (next_item m d l c a i e) t all o ms s f = holds_put (next_item m d l c a i e) t all (trees.Dict ms) (dict o s) f
holds_object (first_member key m d l c k b a e) t all o ms s f = holds_put (first_member key m d l c k b a e) t all (trees.Dict ms) (dict o s) f
holds_object (next_member key m d q p l c k b a i fresh e) t all o ms s f = holds_put (next_member key m d q p l c k b a i fresh e) t all (trees.Dict ms) (dict o s) f

leaves_list : {any : Bool} {ts : List Token} {stack : List Open} → Awaits any ts stack → (items : List Tree) (line : ℕ) → close_list (opens.List items ∷ stack) line ≡ Ok (put (trees.List items) stack)
leaves_list (row r) items line = refl
leaves_list (first_item m d a e) items line = refl
leaves_list (next_item m d l c a i e) items line = refl
leaves_list (first_member key m d l c k b a e) items line = refl
leaves_list (next_member key m d o p l c k b a i fresh e) items line = refl

leaves_object : {any : Bool} {ts : List Token} {stack : List Open} → Awaits any ts stack → (o : ℕ) (key : List ℕ) (ms : List TreeMember) (line : ℕ) → close_object (opens.Dict ms key o ∷ stack) line ≡ Ok (put_object o ms stack)
leaves_object (row r) o key ms line = refl
leaves_object (first_item m d a e) o key ms line = refl
leaves_object (next_item m d l c a i e) o key ms line = refl
leaves_object (first_member other m d l c k b a e) o key ms line = refl
leaves_object (next_member other m d q p l c k b a i fresh e) o key ms line = refl

abbrev Took : (ts : List Token) (k : TokenKind) (l c : ℕ) → Result State TreeFault → Type 0
Took ts k l c (Ok s) = Holds (ts ++ at k l c ∷ []) s
Took ts k l c (Err f) = Unit {0}

pick : (P : Result State TreeFault → Type 0) (b : Bool) (r q : Result State TreeFault) → (b ≡ true → P r) → P q → P (cond b r q)
pick P true r q h k = h refl
pick P false r q h k = k

same : (x n : ℕ) → (x == n) ≡ true → x ≡ n
same x n e = grind (arith, nat_tests, e)

-- a mark, by what each of the six does
took_mark : (ts : List Token) (s : State) (x l c : ℕ) →
    Took ts (Mark 123) l c (open_object s l) → Took ts (Mark 125) l c (cond (ends_object s.expect) (close_object s.stack l) (Err (syntax_fault l))) →
    Took ts (Mark 91) l c (open_list s l) → Took ts (Mark 93) l c (cond (ends_list s.expect) (close_list s.stack l) (Err (syntax_fault l))) →
    Took ts (Mark 58) l c (colon_step s.expect s.stack l) → Took ts (Mark 44) l c (comma_step s.expect s.stack l) → Took ts (Mark x) l c (mark_step s x l)
took_mark ts s x l c opened closed listed ended colon comma =
    let at_mark : (n : ℕ) (r : Result State TreeFault) → Took ts (Mark n) l c r → (x == n) ≡ true → Took ts (Mark x) l c r = λ n r h e. subst (λ (y : ℕ). Took ts (Mark y) l c r) (sym (same x n e)) h in
    pick (Took ts (Mark x) l c) (x == 123) _ _ (at_mark 123 _ opened)
    (pick (Took ts (Mark x) l c) (x == 125) _ _ (at_mark 125 _ closed)
    (pick (Took ts (Mark x) l c) (x == 91) _ _ (at_mark 91 _ listed)
    (pick (Took ts (Mark x) l c) (x == 93) _ _ (at_mark 93 _ ended)
    (pick (Took ts (Mark x) l c) (x == 58) _ _ (at_mark 58 _ colon)
    (pick (Took ts (Mark x) l c) (x == 44) _ (Err (syntax_fault l)) (at_mark 44 _ comma) tt)))))

named : {any : Bool} {ts us all : List Token} {members : List TreeMember} {stack : List Open} (m d o p l c : ℕ) (key : List ℕ) (b : Bool) (f : TreeFault) → Awaits any ts stack → SpellsMembers us members → all ≡ ts ++ (at (Mark 123) m d ∷ us ++ at (Mark 44) o p ∷ []) → has_key members key ≡ b → Took all (Str key) l c (cond b (Err f) (Ok (going (opens.Dict members key m ∷ stack) Colon)))
named m d o p l c key true f a i e h = tt
named {ts = us} {us = ms} {all = ts} m d o p l c key false f a i e h = next_key key m d o p l c a i h (after ts us (at (Str key) l c ∷ []) _ _ e refl ∙ ap (λ (r : List Token). us ++ at (Mark 123) m d ∷ r) (append_assoc ms (at (Mark 44) o p ∷ []) (at (Str key) l c ∷ [])))

holds_step : {ts : List Token} {s : State} → Holds ts s → (k : TokenKind) (l c : ℕ) → Took ts k l c (kind_step s k l)
holds_step (awaiting a) (Flag b) l c = holds_put a _ _ _ (flag b l c) refl
holds_step (awaiting a) (Str text) l c = holds_put a _ _ _ (string text l c) refl
holds_step (awaiting {all = ts} {stack = stack} a) (Mark x) l c = took_mark ts (going stack Value) x l c (object_begun l c a refl) tt (list_begun l c a refl) tt tt tt
holds_step (row_read r) (Flag b) l c = tt
holds_step (row_read r) (Str text) l c = tt
holds_step (row_read {all = ts} {exprs = exprs} r) (Mark x) l c = took_mark ts (going (opens.File exprs ∷ []) Object) x l c (object_begun l c (row r) refl) tt tt tt tt tt
holds_step (list_begun m d a e) (Flag b) l c = holds_put (first_item m d a e) _ _ _ (flag b l c) refl
holds_step (list_begun m d a e) (Str text) l c = holds_put (first_item m d a e) _ _ _ (string text l c) refl
holds_step (list_begun {ts = us} {all = ts} {stack = stack} m d a e) (Mark x) l c = took_mark ts (going (opens.List [] ∷ stack) ValueOrEnd) x l c (object_begun l c (first_item m d a e) refl) tt (list_begun l c (first_item m d a e) refl) (rw (leaves_list a [] l) (holds_put a _ _ _ (no_items m d l c) (after ts us _ _ _ e refl))) tt tt
holds_step (items_read m d a i e) (Flag b) l c = tt
holds_step (items_read m d a i e) (Str text) l c = tt
holds_step (items_read {ts = us} {all = ts} {items = items} {stack = stack} m d a i e) (Mark x) l c = took_mark ts (going (opens.List items ∷ stack) CommaOrEnd) x l c tt tt tt (rw (leaves_list a items l) (holds_put a _ _ _ (list m d l c i) (after ts us _ _ _ e refl))) tt (awaiting (next_item m d l c a i (after ts us _ _ _ e refl)))
holds_step (object_begun m d a e) (Flag b) l c = tt
holds_step (object_begun {ts = us} {all = ts} m d a e) (Str key) l c = first_key key m d l c a (after ts us _ _ _ e refl)
holds_step (object_begun {ts = us} {all = ts} {stack = stack} m d a e) (Mark x) l c = took_mark ts (going (opens.Dict [] [] m ∷ stack) KeyOrEnd) x l c tt (rw (leaves_object a m [] [] l) (holds_object a _ _ m [] (no_members m d l c) (after ts us _ _ _ e refl))) tt tt tt tt
holds_step (members_read m d a i e) (Flag b) l c = tt
holds_step (members_read m d a i e) (Str text) l c = tt
holds_step (members_read {ts = us} {all = ts} {members = members} {stack = stack} m d a i e) (Mark x) l c = took_mark ts (going (opens.Dict members [] m ∷ stack) CommaOrEnd) x l c tt (rw (leaves_object a m [] members l) (holds_object a _ _ m members (object m d l c i) (after ts us _ _ _ e refl))) tt tt tt (key_next m d l c a i (after ts us _ _ _ e refl))
holds_step (key_next m d o p a i e) (Flag b) l c = tt
holds_step (key_next {members = members} m d o p a i e) (Str key) l c = named m d o p l c key (has_key members key) _ a i e refl
holds_step (key_next {all = ts} {members = members} {stack = stack} m d o p a i e) (Mark x) l c = took_mark ts (going (opens.Dict members [] m ∷ stack) Key) x l c tt tt tt tt tt tt
holds_step (first_key key m d k b a e) (Flag f) l c = tt
holds_step (first_key key m d k b a e) (Str text) l c = tt
holds_step (first_key {ts = us} {all = ts} {stack = stack} key m d k b a e) (Mark x) l c = took_mark ts (going (opens.Dict [] key m ∷ stack) Colon) x l c tt tt tt tt (awaiting (first_member key m d k b l c a (after ts us _ _ _ e refl))) tt
holds_step (next_key key m d o p k b a i fresh e) (Flag f) l c = tt
holds_step (next_key key m d o p k b a i fresh e) (Str text) l c = tt
holds_step (next_key {ts = us} {us = ms} {all = ts} {members = members} {stack = stack} key m d o p k b a i fresh e) (Mark x) l c = took_mark ts (going (opens.Dict members key m ∷ stack) Colon) x l c tt tt tt tt (awaiting (next_member key m d o p k b l c a i fresh (after ts us _ _ _ e refl ∙ ap (λ (r : List Token). us ++ at (Mark 123) m d ∷ r) (append_assoc ms (at (Mark 44) o p ∷ at (Str key) k b ∷ []) (at (Mark 58) l c ∷ []))))) tt

-- what a run leads to, from what is held
abbrev pub Ran : List Token → Result State TreeFault → Type 0
Ran all (Ok s) = Holds all s
Ran all (Err f) = Unit {0}

ran_next : (ts us : List Token) (t : Token) (r : Result State TreeFault) → Took ts t.kind t.line t.column r → ((s : State) → Holds (ts ++ t ∷ []) s → Ran ((ts ++ t ∷ []) ++ us) (run s us)) → Ran (ts ++ t ∷ us) (on r (λ next. run next us))
ran_next ts us t (Ok s) h go = subst (λ (l : List Token). Ran l (run s us)) (append_assoc ts (t ∷ []) us) (go s h)
ran_next ts us t (Err f) h go = tt

pub ran : (ts us : List Token) (s : State) → Holds ts s → Ran (ts ++ us) (run s us)
ran ts [] s h = subst (λ (l : List Token). Holds l s) (sym (append-nil ts)) h
ran ts (t ∷ us) s h = ran_next ts us t (step s t) (holds_step h t.kind t.line t.column) (λ next held. ran (ts ++ t ∷ []) us next held)

not_whole : {ts : List Token} {stack : List Open} → Awaits true ts stack → (n : ℕ) (exprs : List Expr) → whole stack n ≡ Ok exprs → SpellsRow ts exprs
not_whole (first_item m d a q) n v e = cc
not_whole (next_item m d l c a i q) n v e = cc
not_whole (first_member key m d l c k b a q) n v e = cc
not_whole (next_member key m d o p l c k b a i f q) n v e = cc

concluded : {ts : List Token} {s : State} → Holds ts s → (n : ℕ) (exprs : List Expr) → whole s.stack n ≡ Ok exprs → SpellsRow ts exprs
concluded (awaiting a) n v e = not_whole a n v e
concluded (row_read {all = ts} {exprs = w} r) n v e = let same : w ≡ v = cc in subst (λ (x : List Expr). SpellsRow ts x) same r
concluded (list_begun m d a q) n v e = cc
concluded (items_read m d a i q) n v e = cc
concluded (object_begun m d a q) n v e = cc
concluded (members_read m d a i q) n v e = cc
concluded (key_next m d o p a i q) n v e = cc
concluded (first_key key m d l c a q) n v e = cc
concluded (next_key key m d o p l c a i f q) n v e = cc

ended_spells : (ts : List Token) (r : Result State TreeFault) → Ran ts r → (n : ℕ) (exprs : List Expr) → on r (λ s. whole s.stack n) ≡ Ok exprs → SpellsRow ts exprs
ended_spells ts (Ok s) h n v e = concluded h n v e
ended_spells ts (Err f) h n v e = cc

-- what is read as a row of objects spells it
pub row-spelled : (ts : List Token) (exprs : List Expr) → objects_of ts ≡ Ok exprs → SpellsRow ts exprs
unfolding objects_of
row-spelled ts exprs e = ended_spells ts (run begun ts) (ran [] ts begun (row_read nothing)) (last_line 0 ts) exprs e
