-- How a token is refused in a state: as one that may not stand there, or as a key that is there.
use Rattle.std.proofs.Common.{◌≡◌, ℕ, ◌==◌, Bool, true, false, cond, ◌⊎◌, inl, inr, List, [], ◌∷◌, Result, Ok, Err, refl}
use Rattle.qm_base.proofs.Fresh.{fresh, fresh_name}
use Rattle.qapi_lex.specs.declared.token.TokenKind.TheVariants.{Mark, Flag, Str}
use Rattle.qapi_tree.specs.declared.{fault.TreeFault.TreeFault, fault.TreeRule.TheVariants.DuplicateKey, stack.Expect.Expect}
use Rattle.qapi_tree.specs.declared.{stack.Expect.TheVariants.Colon, stack.Expect.TheVariants.CommaOrEnd, stack.Open.Open, tree.Expr.Expr}
use Rattle.qapi_tree.specs.declared.stack.Open.TheVariants as opens
use Rattle.qapi_tree.specs.declared.tree.Tree.TheVariants as trees
use Rattle.qapi_tree.specs.{declared.tree.TreeMember.TreeMember, Faults.fault, Faults.syntax_fault, Spelling.has_key, Reading.whole}
use Rattle.qapi_tree.specs.Stacks.{State, takes_value, takes_object, takes_key, ends_list, ends_object, put}
use Rattle.qapi_tree.specs.Steps.{key_step, value_step, close_list, close_object, colon_step, comma_step, kind_step}

-- if it is refused, then as one that may not stand there
abbrev pub Refuses : {A : Type 0} → ℕ → Result A TreeFault → Type 0
Refuses l (Ok s) = Unit {0}
Refuses l (Err f) = f ≡ syntax_fault l

either : (b : Bool) (l : ℕ) (r q : Result State TreeFault) → Refuses l r → Refuses l q → Refuses l (cond b r q)
either true l r q h k = h
either false l r q h k = k

list : (stack : List Open) (l : ℕ) → Refuses l (close_list stack l)
list [] l = refl
list (opens.File exprs ∷ outer) l = refl
list (opens.List items ∷ []) l = refl
list (opens.List items ∷ top ∷ outer) l = tt
list (opens.Dict members old o ∷ outer) l = refl

object : (stack : List Open) (l : ℕ) → Refuses l (close_object stack l)
object [] l = refl
object (opens.File exprs ∷ outer) l = refl
object (opens.List items ∷ outer) l = refl
object (opens.Dict members old o ∷ []) l = refl
object (opens.Dict members old o ∷ top ∷ outer) l = tt

colon : (e : Expect) (stack : List Open) (l : ℕ) → Refuses l (colon_step e stack l)
colon Colon stack l = tt
colon _ stack l = refl

comma : (e : Expect) (stack : List Open) (l : ℕ) → Refuses l (comma_step e stack l)
comma CommaOrEnd stack l = tt
comma _ stack l = refl

pub mark_refused : (s : State) (x l : ℕ) → Refuses l (kind_step s (Mark x) l)
mark_refused s x l =
    either (x == 123) l _ _ (either (takes_object s.expect) l _ _ tt refl)
    (either (x == 125) l _ _ (either (ends_object s.expect) l _ _ (object s.stack l) refl)
    (either (x == 91) l _ _ (either (takes_value s.expect) l _ _ tt refl)
    (either (x == 93) l _ _ (either (ends_list s.expect) l _ _ (list s.stack l) refl)
    (either (x == 58) l _ _ (colon s.expect s.stack l)
    (either (x == 44) l _ _ (comma s.expect s.stack l) refl)))))

pub flag_refused : (s : State) (b : Bool) (l : ℕ) → Refuses l (kind_step s (Flag b) l)
flag_refused s b l = either (takes_value s.expect) l _ _ tt refl

-- what is not whole at the end is refused there
pub end_refused : (stack : List Open) (l : ℕ) → Refuses {A = List Expr} l (whole stack l)
end_refused [] l = refl
end_refused (opens.File exprs ∷ outer) l = tt
end_refused (opens.List items ∷ outer) l = refl
end_refused (opens.Dict members old o ∷ outer) l = refl

pub record Taken (g : List ℕ → Result State TreeFault) : Type 0 where
  pub other : List ℕ
  pub next : State
  pub is : g other ≡ Ok next

-- strings are refused: this one as a key that is there, while another is taken; or all of them
abbrev pub IsRefused : (List ℕ → Result State TreeFault) → List ℕ → ℕ → TreeFault → Type 0
IsRefused g key l f = ((f ≡ fault DuplicateKey l key) × Taken g) ⊎ ((f ≡ syntax_fault l) × ((other : List ℕ) → g other ≡ Err (syntax_fault l)))

known : (b : Bool) (s : State) (f g : TreeFault) → cond b (Err g) (Ok s) ≡ Err f → f ≡ g
known true s f g e = cc
known false s f g e = cc

new_key : (members : List TreeMember) (outer : List Open) (o l : ℕ) → Taken (λ other. cond (has_key members other) (Err (fault DuplicateKey l other)) (Ok (record { stack = opens.Dict members other o ∷ outer; expect = Colon })))
new_key members outer o l =
    let key : List ℕ = fresh (λ (m : TreeMember). m.key) members in
    record { other = key; next = record { stack = opens.Dict members key o ∷ outer; expect = Colon }; is = rw (fresh_name (λ (m : TreeMember). m.key) members) refl }

key_refused : (stack : List Open) (key : List ℕ) (l : ℕ) (f : TreeFault) → key_step stack key l ≡ Err f → IsRefused (λ other. key_step stack other l) key l f
key_refused [] key l f e = inr (cc, λ other. refl)
key_refused (opens.File exprs ∷ outer) key l f e = inr (cc, λ other. refl)
key_refused (opens.List items ∷ outer) key l f e = inr (cc, λ other. refl)
key_refused (opens.Dict members old o ∷ outer) key l f e = inl (known (has_key members key) _ f _ e, new_key members outer o l)

value_refused : (b : Bool) (stack : List Open) (key : List ℕ) (l : ℕ) (f : TreeFault) → cond b (Ok (put (trees.Str key) stack)) (Err (syntax_fault l)) ≡ Err f → IsRefused (λ other. cond b (Ok (put (trees.Str other) stack)) (Err (syntax_fault l))) key l f
value_refused true stack key l f e = cc
value_refused false stack key l f e = inr (cc, λ other. refl)

by_place : (b : Bool) (s : State) (key : List ℕ) (l : ℕ) (f : TreeFault) → cond b (key_step s.stack key l) (value_step s (trees.Str key) l) ≡ Err f → IsRefused (λ other. cond b (key_step s.stack other l) (value_step s (trees.Str other) l)) key l f
by_place true s key l f e = key_refused s.stack key l f e
by_place false s key l f e = value_refused (takes_value s.expect) s.stack key l f e

pub string_refused : (s : State) (key : List ℕ) (l : ℕ) (f : TreeFault) → kind_step s (Str key) l ≡ Err f → IsRefused (λ other. kind_step s (Str other) l) key l f
string_refused s key l f e = by_place (takes_key s.expect) s key l f e
