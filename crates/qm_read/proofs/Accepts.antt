-- What spells a value is read as that value.
use Rattle.std.proofs.Common.{◌≡◌, ℕ, ◌+◌, nat_lt, suc, true, false, List, [], ◌∷◌, ◌++◌, length, Result, Ok, refl, ap, sym, ◌∙◌, arith, append_assoc}
use Rattle.std.proofs.lemmas.{List.append-nil, Bool.Decides.nat_tests}
use Rattle.qm_read.specs.declared.{fault.JsonFault.JsonFault, stack.Open.Open, stack.Open.TheVariants.Top, stack.Open.TheVariants.Arr, stack.Open.TheVariants.Obj, stack.Expect.Expect}
use Rattle.qm_json.specs.{declared.value.Json.Json, declared.value.Member.Member, Members.has_name}
use Rattle.qm_read.specs.declared.token.Token.TheVariants as tokens
use Rattle.qm_read.specs.declared.stack.Expect.TheVariants.{Value, ValueOrEnd, Name, NameOrEnd, CommaOrEnd}
use Rattle.qm_read.specs.Stacks.{State, begun, takes_value, takes_name, put}
use Rattle.qm_read.specs.{Faults.run, Faults.ended, Faults.reading, Tokens.Placed, Tokens.at}
use Rattle.qm_read.specs.Spelling.{SpellsValue, null, bool, int, num, string, no_items, array, no_members, object, SpellsItems, item, more_items, SpellsMembers, member, more_members}

abbrev pub going : List Open → Expect → State
going stack e = record { stack = stack; expect = e }

pub not_name : (e : Expect) → takes_value e ≡ true → takes_name e ≡ false
not_name Name h = cc
not_name NameOrEnd h = cc
not_name _ h = refl

-- at most so many brackets are open at a time
module _ (limit : ℕ) where
  -- d more brackets may be opened
  abbrev pub Room : ℕ → List Open → Type 0
  Room d stack = length stack + d ≡ limit + 1

  may_open : (d : ℕ) (stack : List Open) → Room (suc d) stack → nat_lt (length stack) (limit + 1) ≡ true
  may_open d stack h = grind (arith, nat_tests, h)

  pub opens_array : (d : ℕ) (stack : List Open) (e : Expect) (p : ℕ) (rest : List Placed) → takes_value e ≡ true → Room (suc d) stack → run limit (going stack e) (at tokens.OpenArray p ∷ rest) ≡ run limit (going (Arr [] ∷ stack) ValueOrEnd) rest
  opens_array d stack e p rest t h = rw (t, may_open d stack h) refl

  pub opens_object : (d : ℕ) (stack : List Open) (e : Expect) (p : ℕ) (rest : List Placed) → takes_value e ≡ true → Room (suc d) stack → run limit (going stack e) (at tokens.OpenObject p ∷ rest) ≡ run limit (going (Obj [] [] ∷ stack) NameOrEnd) rest
  opens_object d stack e p rest t h = rw (t, may_open d stack h) refl

  pub deeper : (d : ℕ) (stack : List Open) (top : Open) → Room (suc d) stack → Room d (top ∷ stack)
  deeper d stack top h = omega (arith, h)

  new_name : (members : List Member) (stack : List Open) (name : List ℕ) (p q : ℕ) (rest : List Placed) → has_name members name ≡ false → run limit (going (Obj members [] ∷ stack) Name) (at (tokens.Str name) p ∷ at tokens.Colon q ∷ rest) ≡ run limit (going (Obj members name ∷ stack) Value) rest
  new_name members stack name p q rest h = rw h refl

  mutual
    accepts : {d : ℕ} {ts : List Placed} {v : Json} → SpellsValue d ts v → (next : Open) (outer : List Open) (e : Expect) (rest : List Placed) → takes_value e ≡ true → Room d (next ∷ outer) → run limit (going (next ∷ outer) e) (ts ++ rest) ≡ run limit (put v (next ∷ outer)) rest
    accepts (null p) next outer e rest t h = rw t refl
    accepts (bool b p) next outer e rest t h = rw t refl
    accepts (int n p) next outer e rest t h = rw t refl
    accepts (num text p) next outer e rest t h = rw t refl
    accepts (string text p) next outer e rest t h = rw (not_name e t, t) refl
    accepts {d = suc d} (no_items p q) next outer e rest t h = opens_array d (next ∷ outer) e p (at tokens.CloseArray q ∷ rest) t h
    accepts {d = suc d} (array {ts = ts} {items = items} p q is) next outer e rest t h =
        opens_array d (next ∷ outer) e p ((ts ++ at tokens.CloseArray q ∷ []) ++ rest) t h
        ∙ ap (run limit (going (Arr [] ∷ next ∷ outer) ValueOrEnd)) (append_assoc ts (at tokens.CloseArray q ∷ []) rest)
        ∙ accepts_items is (next ∷ outer) (at tokens.CloseArray q ∷ rest) (deeper d (next ∷ outer) (Arr []) h)
    accepts {d = suc d} (no_members p q) next outer e rest t h = opens_object d (next ∷ outer) e p (at tokens.CloseObject q ∷ rest) t h
    accepts {d = suc d} (object {ts = ts} {members = members} p q ms) next outer e rest t h =
        opens_object d (next ∷ outer) e p ((ts ++ at tokens.CloseObject q ∷ []) ++ rest) t h
        ∙ ap (run limit (going (Obj [] [] ∷ next ∷ outer) NameOrEnd)) (append_assoc ts (at tokens.CloseObject q ∷ []) rest)
        ∙ accepts_members ms (next ∷ outer) (at tokens.CloseObject q ∷ rest) (deeper d (next ∷ outer) (Arr []) h)

    accepts_items : {d : ℕ} {ts : List Placed} {items : List Json} → SpellsItems d ts items → (stack : List Open) (rest : List Placed) → Room d (Arr [] ∷ stack) → run limit (going (Arr [] ∷ stack) ValueOrEnd) (ts ++ rest) ≡ run limit (going (Arr items ∷ stack) CommaOrEnd) rest
    accepts_items (item s) stack rest h = accepts s (Arr []) stack ValueOrEnd rest refl h
    accepts_items (more_items {ts = ts} {t = t} {items = items} p is s) stack rest h =
        ap (run limit (going (Arr [] ∷ stack) ValueOrEnd)) (append_assoc ts (at tokens.Comma p ∷ t) rest)
        ∙ accepts_items is stack (at tokens.Comma p ∷ t ++ rest) h
        ∙ accepts s (Arr items) stack Value rest refl h

    accepts_members : {d : ℕ} {ts : List Placed} {members : List Member} → SpellsMembers d ts members → (stack : List Open) (rest : List Placed) → Room d (Arr [] ∷ stack) → run limit (going (Obj [] [] ∷ stack) NameOrEnd) (ts ++ rest) ≡ run limit (going (Obj members [] ∷ stack) CommaOrEnd) rest
    accepts_members (member name p q s) stack rest h = accepts s (Obj [] name) stack Value rest refl h
    accepts_members (more_members {ts = ts} {t = t} {members = members} name o p q ms fresh s) stack rest h =
        ap (run limit (going (Obj [] [] ∷ stack) NameOrEnd)) (append_assoc ts (at tokens.Comma o ∷ at (tokens.Str name) p ∷ at tokens.Colon q ∷ t) rest)
        ∙ accepts_members ms stack (at tokens.Comma o ∷ at (tokens.Str name) p ∷ at tokens.Colon q ∷ t ++ rest) h
        ∙ new_name members stack name p q (t ++ rest) fresh
        ∙ accepts s (Obj members name) stack Value rest refl h

  -- what spells a value is read as that value
  pub reading-spelled : (ts : List Placed) (v : Json) (length : ℕ) → SpellsValue limit ts v → reading limit ts length ≡ Ok v
  reading-spelled ts v n s = ap (λ (r : Result State JsonFault). ended r n) (ap (run limit begun) (sym (append-nil ts)) ∙ accepts s Top [] Value [] refl (omega arith))
