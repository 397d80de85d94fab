-- What was read begins a row of objects.
use Rattle.std.proofs.Common.{◌≡◌, ℕ, Bool, true, false, List, [], ◌∷◌, ◌++◌, Result, Ok, Err, refl, ap, sym, ◌∙◌, subst, append_assoc}
use Rattle.std.proofs.lemmas.List.{append-nil}
use Rattle.qapi_lex.specs.declared.token.{Token.Token, TokenKind.TheVariants.Mark, TokenKind.TheVariants.Flag, TokenKind.TheVariants.Str}
use Rattle.qapi_tree.specs.declared.{fault.TreeFault.TreeFault, stack.Open.Open, tree.Tree.Tree, tree.Expr.Expr, tree.TreeMember.TreeMember}
use Rattle.qapi_tree.specs.declared.tree.Tree.TheVariants as trees
use Rattle.qapi_tree.specs.Reading.{on, run}
use Rattle.qapi_tree.specs.Spelling.{has_key, at, SpellsTree, flag, no_items, list, dict, SpellsObject, no_members, object, item, more_items, SpellsMembers, member, more_members, SpellsRow, nothing, more}
use Rattle.qapi_tree.specs.{Stacks.State, Stacks.begun, Steps.step, Viable.BeginsRow}
use Rattle.qm_base.proofs.Fresh.{fresh, fresh_name}
use Rattle.qapi_tree.proofs.Holds.{Awaits, row, first_item, next_item, first_member, next_member, Holds, awaiting, row_read, list_begun, items_read, object_begun, members_read, key_next, first_key, next_key, after, Ran, ran}

behind : (us ends t all rest : List Token) → all ≡ us ++ (ends ++ t) → all ++ rest ≡ us ++ (ends ++ (t ++ rest))
behind us ends t all rest e = ap (λ (l : List Token). l ++ rest) e ∙ append_assoc us (ends ++ t) rest ∙ ap (λ (l : List Token). us ++ l) (append_assoc ends t rest)

pub followed : (ts us : List Token) → BeginsRow (ts ++ us) → BeginsRow ts
followed ts us b = record { rest = us ++ b.rest; exprs = b.exprs; is = subst (λ (l : List Token). SpellsRow l b.exprs) (append_assoc ts us b.rest) b.is }

spelled-begins : {ts : List Token} {exprs : List Expr} → SpellsRow ts exprs → BeginsRow ts
spelled-begins {ts = ts} {exprs = exprs} r = record { rest = []; exprs = exprs; is = subst (λ (l : List Token). SpellsRow l exprs) (sym (append-nil ts)) r }

abbrev shut_list : List Token
shut_list = at (Mark 93) 0 0 ∷ []

abbrev shut_object : List Token
shut_object = at (Mark 125) 0 0 ∷ []

-- what may stand where a value, or in the row (false) an object, is awaited
data Fits : Bool → List Token → Type 0 where
  value : {t : List Token} (v : Tree) → SpellsTree t v → Fits true t
  inner : {any : Bool} {t : List Token} {ms : List TreeMember} (o : ℕ) → SpellsObject o t ms → Fits any t

abbrev Spelled : List Token → Type 0
Spelled t = (v : Tree) × SpellsTree t v

spelled_as : {t : List Token} → Fits true t → Spelled t
spelled_as (value v s) = (v, s)
spelled_as (inner {ms = ms} o s) = (trees.Dict ms, dict o s)

-- from what is awaited, closers lead to a row
closes : {any : Bool} {ts : List Token} {stack : List Open} → Awaits any ts stack → (t : List Token) → Fits any t → BeginsRow (ts ++ t)
closes (row r) t (inner o s) = spelled-begins (more o r s)
closes (first_item {ts = us} {all = ts} m d a e) t f =
    followed (ts ++ t) shut_list (subst BeginsRow (sym (behind us (at (Mark 91) m d ∷ []) t (ts ++ t) shut_list (after ts us t (ts ++ t) _ e refl))) (closes a _ (value _ (list m d 0 0 (item (spelled_as f).1)))))
closes (next_item {ts = us} {us = is} {all = ts} m d l c a i e) t f =
    followed (ts ++ t) shut_list (subst BeginsRow (sym (behind us (at (Mark 91) m d ∷ is ++ at (Mark 44) l c ∷ []) t (ts ++ t) shut_list (after ts us t (ts ++ t) _ e refl) ∙ ap (λ (r : List Token). us ++ at (Mark 91) m d ∷ r) (append_assoc is (at (Mark 44) l c ∷ []) (t ++ shut_list) ∙ sym (append_assoc is (at (Mark 44) l c ∷ t) shut_list)))) (closes a _ (value _ (list m d 0 0 (more_items l c i (spelled_as f).1)))))
closes (first_member {ts = us} {all = ts} key m d l c k b a e) t f =
    followed (ts ++ t) shut_object (subst BeginsRow (sym (behind us (at (Mark 123) m d ∷ at (Str key) l c ∷ at (Mark 58) k b ∷ []) t (ts ++ t) shut_object (after ts us t (ts ++ t) _ e refl))) (closes a _ (inner m (object m d 0 0 (member key l c k b (spelled_as f).1)))))
closes (next_member {ts = us} {us = ms} {all = ts} key m d o p l c k b a i new e) t f =
    followed (ts ++ t) shut_object (subst BeginsRow (sym (behind us (at (Mark 123) m d ∷ ms ++ at (Mark 44) o p ∷ at (Str key) l c ∷ at (Mark 58) k b ∷ []) t (ts ++ t) shut_object (after ts us t (ts ++ t) _ e refl) ∙ ap (λ (r : List Token). us ++ at (Mark 123) m d ∷ r) (append_assoc ms (at (Mark 44) o p ∷ at (Str key) l c ∷ at (Mark 58) k b ∷ []) (t ++ shut_object) ∙ sym (append_assoc ms (at (Mark 44) o p ∷ at (Str key) l c ∷ at (Mark 58) k b ∷ t) shut_object)))) (closes a _ (inner m (object m d 0 0 (more_members key o p l c k b i new (spelled_as f).1)))))

awaited_begins : {ts : List Token} {stack : List Open} → Awaits true ts stack → BeginsRow ts
awaited_begins {ts = ts} a = followed ts (at (Flag true) 0 0 ∷ []) (closes a _ (value _ (flag true 0 0)))

next_begins : {any : Bool} {us ms ts : List Token} {members : List TreeMember} {stack : List Open} (key : List ℕ) (m d o p l c : ℕ) → Awaits any us stack → SpellsMembers ms members → has_key members key ≡ false → ts ≡ us ++ (at (Mark 123) m d ∷ ms ++ at (Mark 44) o p ∷ at (Str key) l c ∷ []) → BeginsRow ts
next_begins {us = us} {ms = ms} {ts = ts} key m d o p l c a i f e = followed ts (at (Mark 58) 0 0 ∷ []) (awaited_begins (next_member key m d o p l c 0 0 a i f (after ts us _ _ _ e refl ∙ ap (λ (r : List Token). us ++ at (Mark 123) m d ∷ r) (append_assoc ms (at (Mark 44) o p ∷ at (Str key) l c ∷ []) (at (Mark 58) 0 0 ∷ [])))))

-- what is held begins a row
begins : {ts : List Token} {s : State} → Holds ts s → BeginsRow ts
begins (awaiting a) = awaited_begins a
begins (row_read r) = spelled-begins r
begins (list_begun {ts = us} {all = ts} m d a e) = followed ts shut_list (subst BeginsRow (sym (after ts us shut_list (ts ++ shut_list) _ e refl)) (closes a _ (value _ (no_items m d 0 0))))
begins (items_read {ts = us} {all = ts} m d a i e) = followed ts shut_list (subst BeginsRow (sym (after ts us shut_list (ts ++ shut_list) _ e refl)) (closes a _ (value _ (list m d 0 0 i))))
begins (object_begun {ts = us} {all = ts} m d a e) = followed ts shut_object (subst BeginsRow (sym (after ts us shut_object (ts ++ shut_object) _ e refl)) (closes a _ (inner m (no_members m d 0 0))))
begins (members_read {ts = us} {all = ts} m d a i e) = followed ts shut_object (subst BeginsRow (sym (after ts us shut_object (ts ++ shut_object) _ e refl)) (closes a _ (inner m (object m d 0 0 i))))
begins (key_next {ts = us} {us = ms} {all = ts} {members = members} m d o p a i e) =
    followed ts (at (Str (fresh (λ (m : TreeMember). m.key) members)) 0 0 ∷ []) (next_begins (fresh (λ (m : TreeMember). m.key) members) m d o p 0 0 a i (fresh_name (λ (m : TreeMember). m.key) members) (after ts us (at (Str (fresh (λ (m : TreeMember). m.key) members)) 0 0 ∷ []) _ _ e refl ∙ ap (λ (r : List Token). us ++ at (Mark 123) m d ∷ r) (append_assoc ms (at (Mark 44) o p ∷ []) (at (Str (fresh (λ (m : TreeMember). m.key) members)) 0 0 ∷ []))))
begins (first_key {ts = us} {all = ts} key m d l c a e) = followed ts (at (Mark 58) 0 0 ∷ []) (awaited_begins (first_member key m d l c 0 0 a (after ts us _ _ _ e refl)))
begins (next_key key m d o p l c a i f e) = next_begins key m d o p l c a i f e

pub run-append : (ts us : List Token) (s : State) → run s (ts ++ us) ≡ on (run s ts) (λ next. run next us)
run-append [] us s = refl
run-append (t ∷ ts) us s = on_run (step s t) (λ next. run-append ts us next)
  where
    on_run : (r : Result State TreeFault) → ((n : State) → run n (ts ++ us) ≡ on (run n ts) (λ next. run next us)) → on r (λ n. run n (ts ++ us)) ≡ on (on r (λ n. run n ts)) (λ next. run next us)
    on_run (Ok n) h = h n
    on_run (Err f) h = refl

-- tokens that are taken begin a row
pub taken_begins : (ts : List Token) (s : State) → run begun ts ≡ Ok s → BeginsRow ts
taken_begins ts s e = begins (subst (Ran ts) e (ran [] ts begun (row_read nothing)))
