-- What is read as a value spells it.
use Rattle.std.proofs.Common.{◌≡◌, ℕ, ◌+◌, ◌<◌, nat_lt, zero, suc, Bool, true, false, cond, List, [], ◌∷◌, ◌++◌, length, Result, Ok, Err, refl, ap, sym, ◌∙◌, subst, arith, append_assoc}
use Rattle.std.proofs.lemmas.{List.append-nil, Bool.Decides.nat_tests}
use Rattle.qm_read.specs.declared.{fault.JsonFault.JsonFault, token.Token.Token, stack.Open.Open}
use Rattle.qm_json.specs.{declared.value.Json.Json, declared.value.Member.Member, Members.has_name}
use Rattle.qm_json.specs.declared.value.Json.TheVariants as json
use Rattle.qm_read.specs.declared.token.Token.TheVariants as tokens
use Rattle.qm_read.specs.declared.stack.{Open.TheVariants.Top, Open.TheVariants.Arr, Open.TheVariants.Obj, Open.TheVariants.Whole, Expect.Expect}
use Rattle.qm_read.specs.declared.stack.Expect.TheVariants.{Value, ValueOrEnd, Name, NameOrEnd, Colon, CommaOrEnd, End}
use Rattle.qm_read.specs.{Stacks.State, Stacks.begun, Stacks.put, Stacks.left, Steps.step}
use Rattle.qm_read.specs.{Faults.whole, Faults.run, Faults.on, Faults.ended, Faults.reading, Viable.BeginsValue, Tokens.Placed, Tokens.at}
use Rattle.qm_read.proofs.Refusals.{fresh, fresh_name}
use Rattle.qm_read.specs.Spelling.{SpellsValue, null, bool, int, num, string, no_items, array, no_members, object, SpellsItems, item, more_items, SpellsMembers, member, more_members}

abbrev going : List Open → Expect → State
going stack e = record { stack = stack; expect = e }

-- at most so many brackets are open at a time
module _ (limit : ℕ) where
  -- all tokens so far leave this open, and a value comes, in which d brackets more may be opened
  data Awaits : ℕ → List Placed → List Open → Type 0 where
    top : Awaits limit [] (Top ∷ [])
    first_item : {d : ℕ} {ts all : List Placed} {stack : List Open} (p : ℕ) → Awaits (suc d) ts stack → all ≡ ts ++ at tokens.OpenArray p ∷ [] → Awaits d all (Arr [] ∷ stack)
    next_item : {d : ℕ} {ts us all : List Placed} {items : List Json} {stack : List Open} (p c : ℕ) → Awaits (suc d) ts stack → SpellsItems d us items → all ≡ ts ++ (at tokens.OpenArray p ∷ us ++ at tokens.Comma c ∷ []) → Awaits d all (Arr items ∷ stack)
    first_member : {d : ℕ} {ts all : List Placed} {stack : List Open} (name : List ℕ) (p n c : ℕ) → Awaits (suc d) ts stack → all ≡ ts ++ at tokens.OpenObject p ∷ at (tokens.Str name) n ∷ at tokens.Colon c ∷ [] → Awaits d all (Obj [] name ∷ stack)
    next_member : {d : ℕ} {ts us all : List Placed} {members : List Member} {stack : List Open} (name : List ℕ) (p o n c : ℕ) → Awaits (suc d) ts stack → SpellsMembers d us members → has_name members name ≡ false → all ≡ ts ++ (at tokens.OpenObject p ∷ us ++ at tokens.Comma o ∷ at (tokens.Str name) n ∷ at tokens.Colon c ∷ []) → Awaits d all (Obj members name ∷ stack)

  -- what all tokens so far are, by the state that they lead to
  data Holds : List Placed → State → Type 0 where
    awaiting : {d : ℕ} {all : List Placed} {stack : List Open} → Awaits d all stack → Holds all (going stack Value)
    array_begun : {d : ℕ} {ts all : List Placed} {stack : List Open} (p : ℕ) → Awaits (suc d) ts stack → all ≡ ts ++ at tokens.OpenArray p ∷ [] → Holds all (going (Arr [] ∷ stack) ValueOrEnd)
    items_read : {d : ℕ} {ts us all : List Placed} {items : List Json} {stack : List Open} (p : ℕ) → Awaits (suc d) ts stack → SpellsItems d us items → all ≡ ts ++ at tokens.OpenArray p ∷ us → Holds all (going (Arr items ∷ stack) CommaOrEnd)
    object_begun : {d : ℕ} {ts all : List Placed} {stack : List Open} (p : ℕ) → Awaits (suc d) ts stack → all ≡ ts ++ at tokens.OpenObject p ∷ [] → Holds all (going (Obj [] [] ∷ stack) NameOrEnd)
    members_read : {d : ℕ} {ts us all : List Placed} {members : List Member} {stack : List Open} (p : ℕ) → Awaits (suc d) ts stack → SpellsMembers d us members → all ≡ ts ++ at tokens.OpenObject p ∷ us → Holds all (going (Obj members [] ∷ stack) CommaOrEnd)
    name_next : {d : ℕ} {ts us all : List Placed} {members : List Member} {stack : List Open} (p o : ℕ) → Awaits (suc d) ts stack → SpellsMembers d us members → all ≡ ts ++ (at tokens.OpenObject p ∷ us ++ at tokens.Comma o ∷ []) → Holds all (going (Obj members [] ∷ stack) Name)
    first_name : {d : ℕ} {ts all : List Placed} {stack : List Open} (name : List ℕ) (p n : ℕ) → Awaits (suc d) ts stack → all ≡ ts ++ at tokens.OpenObject p ∷ at (tokens.Str name) n ∷ [] → Holds all (going (Obj [] name ∷ stack) Colon)
    next_name : {d : ℕ} {ts us all : List Placed} {members : List Member} {stack : List Open} (name : List ℕ) (p o n : ℕ) → Awaits (suc d) ts stack → SpellsMembers d us members → has_name members name ≡ false → all ≡ ts ++ (at tokens.OpenObject p ∷ us ++ at tokens.Comma o ∷ at (tokens.Str name) n ∷ []) → Holds all (going (Obj members name ∷ stack) Colon)
    done : {all : List Placed} {v : Json} → SpellsValue limit all v → Holds all (going (Whole v ∷ []) End)

  room : {d : ℕ} {all : List Placed} {stack : List Open} → Awaits d all stack → length stack + d ≡ limit + 1
  room top = omega arith
  room (first_item p a e) = omega (arith, room a)
  room (next_item p c a is e) = omega (arith, room a)
  room (first_member name p n c a e) = omega (arith, room a)
  room (next_member name p o n c a ms f e) = omega (arith, room a)

  after : (ts us t all ends : List Placed) → ts ≡ us ++ ends → all ≡ ts ++ t → all ≡ us ++ (ends ++ t)
  after ts us t all ends e f = f ∙ ap (λ (l : List Placed). l ++ t) e ∙ append_assoc us ends t

  -- a value that was awaited
  holds_put : {d : ℕ} {ts : List Placed} {stack : List Open} → Awaits d ts stack → (t all : List Placed) (v : Json) → SpellsValue d t v → all ≡ ts ++ t → Holds all (put v stack)
  holds_put top t all v s e = done (subst (λ (l : List Placed). SpellsValue limit l v) (sym e) s)
  holds_put (first_item {ts = us} p a e) t all v s f = items_read p a (item s) (after _ us t all _ e f)
  holds_put (next_item {ts = us} {us = is} p c a i e) t all v s f = items_read p a (more_items c i s) (after _ us t all _ e f ∙ ap (λ (l : List Placed). us ++ at tokens.OpenArray p ∷ l) (append_assoc is (at tokens.Comma c ∷ []) t))
  holds_put (first_member {ts = us} name p n c a e) t all v s f = members_read p a (member name n c s) (after _ us t all _ e f)
  holds_put (next_member {ts = us} {us = ms} name p o n c a m fresh e) t all v s f = members_read p a (more_members name o n c m fresh s) (after _ us t all _ e f ∙ ap (λ (l : List Placed). us ++ at tokens.OpenObject p ∷ l) (append_assoc ms (at tokens.Comma o ∷ at (tokens.Str name) n ∷ at tokens.Colon c ∷ []) t))

  leaves : {d : ℕ} {ts : List Placed} {stack : List Open} → Awaits d ts stack → (x : Open) (v : Json) (p : ℕ) → left (x ∷ stack) v p ≡ Ok (put v stack)
  leaves top x v p = refl
  leaves (first_item p a e) x v q = refl
  leaves (next_item p c a is e) x v q = refl
  leaves (first_member name p n c a e) x v q = refl
  leaves (next_member name p o n c a ms f e) x v q = refl

  abbrev Took : (ts : List Placed) (k : Token) (p : ℕ) → Result State JsonFault → Type 0
  Took ts k p (Ok s) = Holds (ts ++ at k p ∷ []) s
  Took ts k p (Err f) = Unit {0}

  opened_array : (d : ℕ) {ts : List Placed} {stack : List Open} → Awaits d ts stack → (p : ℕ) (b : Bool) (f : JsonFault) → (b ≡ true → length stack < limit + 1) → Took ts tokens.OpenArray p (cond b (Ok (going (Arr [] ∷ stack) ValueOrEnd)) (Err f))
  opened_array d a p false f h = tt
  opened_array zero a p true f h = absurd (omega (arith, h refl, room a))
  opened_array (suc d) a p true f h = array_begun p a refl

  opened_object : (d : ℕ) {ts : List Placed} {stack : List Open} → Awaits d ts stack → (p : ℕ) (b : Bool) (f : JsonFault) → (b ≡ true → length stack < limit + 1) → Took ts tokens.OpenObject p (cond b (Ok (going (Obj [] [] ∷ stack) NameOrEnd)) (Err f))
  opened_object d a p false f h = tt
  opened_object zero a p true f h = absurd (omega (arith, h refl, room a))
  opened_object (suc d) a p true f h = object_begun p a refl

  below : (n : ℕ) → nat_lt n (limit + 1) ≡ true → n < limit + 1
  below n e = grind (arith, nat_tests, e)

  named : {d : ℕ} {ts us all : List Placed} {members : List Member} {stack : List Open} (p o n : ℕ) (name : List ℕ) (b : Bool) (f : JsonFault) → Awaits (suc d) ts stack → SpellsMembers d us members → all ≡ ts ++ (at tokens.OpenObject p ∷ us ++ at tokens.Comma o ∷ []) → has_name members name ≡ b → Took all (tokens.Str name) n (cond b (Err f) (Ok (going (Obj members name ∷ stack) Colon)))
  named p o n name true f a m e h = tt
  named {ts = us} {us = ms} {all = ts} p o n name false f a m e h = next_name name p o n a m h (after ts us (at (tokens.Str name) n ∷ []) _ _ e refl ∙ ap (λ (l : List Placed). us ++ at tokens.OpenObject p ∷ l) (append_assoc ms (at tokens.Comma o ∷ []) (at (tokens.Str name) n ∷ [])))

  holds_step : {ts : List Placed} {s : State} → Holds ts s → (k : Token) (p : ℕ) → Took ts k p (step limit s k p)
  holds_step (awaiting a) tokens.Null p = holds_put a _ _ _ (null p) refl
  holds_step (awaiting a) (tokens.Bool b) p = holds_put a _ _ _ (bool b p) refl
  holds_step (awaiting a) (tokens.Int n) p = holds_put a _ _ _ (int n p) refl
  holds_step (awaiting a) (tokens.Num text) p = holds_put a _ _ _ (num text p) refl
  holds_step (awaiting a) (tokens.Str text) p = holds_put a _ _ _ (string text p) refl
  holds_step (awaiting {d = d} {stack = stack} a) tokens.OpenArray p = opened_array d a p _ _ (below (length stack))
  holds_step (awaiting {d = d} {stack = stack} a) tokens.OpenObject p = opened_object d a p _ _ (below (length stack))
  holds_step (awaiting a) _ p = tt
  holds_step (array_begun q a e) tokens.Null p = holds_put (first_item q a e) _ _ _ (null p) refl
  holds_step (array_begun q a e) (tokens.Bool b) p = holds_put (first_item q a e) _ _ _ (bool b p) refl
  holds_step (array_begun q a e) (tokens.Int n) p = holds_put (first_item q a e) _ _ _ (int n p) refl
  holds_step (array_begun q a e) (tokens.Num text) p = holds_put (first_item q a e) _ _ _ (num text p) refl
  holds_step (array_begun q a e) (tokens.Str text) p = holds_put (first_item q a e) _ _ _ (string text p) refl
  holds_step (array_begun {d = d} {stack = stack} q a e) tokens.OpenArray p = opened_array d (first_item q a e) p _ _ (below (length (Arr [] ∷ stack)))
  holds_step (array_begun {d = d} {stack = stack} q a e) tokens.OpenObject p = opened_object d (first_item q a e) p _ _ (below (length (Arr [] ∷ stack)))
  holds_step (array_begun {ts = us} {all = ts} q a e) tokens.CloseArray p = rw (leaves a (Arr []) (json.Arr []) p) (holds_put a _ _ _ (no_items q p) (after ts us _ _ _ e refl))
  holds_step (array_begun q a e) _ p = tt
  holds_step (items_read {ts = us} {us = is} {all = ts} {items = items} q a i e) tokens.CloseArray p = rw (leaves a (Arr items) (json.Arr items) p) (holds_put a _ _ _ (array q p i) (after ts us _ _ _ e refl))
  holds_step (items_read {ts = us} {all = ts} q a i e) tokens.Comma p = awaiting (next_item q p a i (after ts us _ _ _ e refl))
  holds_step (items_read q a i e) _ p = tt
  holds_step (object_begun {ts = us} {all = ts} q a e) (tokens.Str name) p = first_name name q p a (after ts us _ _ _ e refl)
  holds_step (object_begun {ts = us} {all = ts} q a e) tokens.CloseObject p = rw (leaves a (Obj [] []) (json.Obj []) p) (holds_put a _ _ _ (no_members q p) (after ts us _ _ _ e refl))
  holds_step (object_begun q a e) _ p = tt
  holds_step (members_read {ts = us} {all = ts} {members = members} q a m e) tokens.CloseObject p = rw (leaves a (Obj members []) (json.Obj members) p) (holds_put a _ _ _ (object q p m) (after ts us _ _ _ e refl))
  holds_step (members_read {ts = us} {all = ts} q a m e) tokens.Comma p = name_next q p a m (after ts us _ _ _ e refl)
  holds_step (members_read q a m e) _ p = tt
  holds_step (name_next {members = members} q o a m e) (tokens.Str name) p = named q o p name (has_name members name) _ a m e refl
  holds_step (name_next q o a m e) _ p = tt
  holds_step (first_name {ts = us} {all = ts} name q n a e) tokens.Colon p = awaiting (first_member name q n p a (after ts us _ _ _ e refl))
  holds_step (first_name name q n a e) _ p = tt
  holds_step (next_name {ts = us} {us = ms} {all = ts} name q o n a m f e) tokens.Colon p = awaiting (next_member name q o n p a m f (after ts us _ _ _ e refl ∙ ap (λ (l : List Placed). us ++ at tokens.OpenObject q ∷ l) (append_assoc ms (at tokens.Comma o ∷ at (tokens.Str name) n ∷ []) (at tokens.Colon p ∷ []))))
  holds_step (next_name name q o n a m f e) _ p = tt
  holds_step (done s) tokens.Null p = tt
  holds_step (done s) _ p = tt

  -- what a run leads to, from what is held
  abbrev Ran : List Placed → Result State JsonFault → Type 0
  Ran all (Ok s) = Holds all s
  Ran all (Err f) = Unit {0}

  ran_next : (ts us : List Placed) (t : Placed) (r : Result State JsonFault) → Took ts t.token t.place r → ((s : State) → Holds (ts ++ t ∷ []) s → Ran ((ts ++ t ∷ []) ++ us) (run limit s us)) → Ran (ts ++ t ∷ us) (on r (λ next. run limit next us))
  ran_next ts us t (Ok s) h go = subst (λ (l : List Placed). Ran l (run limit s us)) (append_assoc ts (t ∷ []) us) (go s h)
  ran_next ts us t (Err f) h go = tt

  ran : (ts us : List Placed) (s : State) → Holds ts s → Ran (ts ++ us) (run limit s us)
  ran ts [] s h = subst (λ (l : List Placed). Holds l s) (sym (append-nil ts)) h
  ran ts (t ∷ us) s h = ran_next ts us t (step limit s t.token t.place) (holds_step h t.token t.place) (λ next held. ran (ts ++ t ∷ []) us next held)

  not_whole : {d : ℕ} {ts : List Placed} {stack : List Open} → Awaits d ts stack → (n : ℕ) (v : Json) → whole stack n ≡ Ok v → SpellsValue limit ts v
  not_whole top n v e = cc
  not_whole (first_item p a q) n v e = cc
  not_whole (next_item p c a is q) n v e = cc
  not_whole (first_member name p m c a q) n v e = cc
  not_whole (next_member name p o m c a ms f q) n v e = cc

  concluded : {ts : List Placed} {s : State} → Holds ts s → (n : ℕ) (v : Json) → whole s.stack n ≡ Ok v → SpellsValue limit ts v
  concluded (awaiting a) n v e = not_whole a n v e
  concluded (done {all = ts} {v = w} s) n v e = let same : w ≡ v = cc in subst (λ (x : Json). SpellsValue limit ts x) same s
  concluded (array_begun p a q) n v e = cc
  concluded (items_read p a i q) n v e = cc
  concluded (object_begun p a q) n v e = cc
  concluded (members_read p a m q) n v e = cc
  concluded (name_next p o a m q) n v e = cc
  concluded (first_name name p m a q) n v e = cc
  concluded (next_name name p o m a ms f q) n v e = cc

  ended_spells : (ts : List Placed) (r : Result State JsonFault) → Ran ts r → (n : ℕ) (v : Json) → ended r n ≡ Ok v → SpellsValue limit ts v
  ended_spells ts (Ok s) h n v e = concluded h n v e
  ended_spells ts (Err f) h n v e = cc

  -- from what is awaited, closers lead to a value
  behind : (us ends t all rest : List Placed) → all ≡ us ++ (ends ++ t) → all ++ rest ≡ us ++ (ends ++ (t ++ rest))
  behind us ends t all rest e = ap (λ (l : List Placed). l ++ rest) e ∙ append_assoc us (ends ++ t) rest ∙ ap (λ (l : List Placed). us ++ l) (append_assoc ends t rest)

  followed : (ts us : List Placed) → BeginsValue limit (ts ++ us) → BeginsValue limit ts
  followed ts us b = record { rest = us ++ b.rest; value = b.value; is = subst (λ (l : List Placed). SpellsValue limit l b.value) (append_assoc ts us b.rest) b.is }

  closes : {d : ℕ} {ts : List Placed} {stack : List Open} → Awaits d ts stack → (t : List Placed) (v : Json) → SpellsValue d t v → BeginsValue limit (ts ++ t)
  closes top t v s = record { rest = []; value = v; is = subst (λ (l : List Placed). SpellsValue limit l v) (sym (append-nil t)) s }
  closes (first_item {ts = us} {all = ts} p a e) t v s =
      followed (ts ++ t) (at tokens.CloseArray 0 ∷ []) (subst (BeginsValue limit) (sym (behind us (at tokens.OpenArray p ∷ []) t (ts ++ t) (at tokens.CloseArray 0 ∷ []) (after ts us t (ts ++ t) _ e refl))) (closes a _ _ (array p 0 (item s))))
  closes (next_item {ts = us} {us = is} {all = ts} p c a i e) t v s =
      followed (ts ++ t) (at tokens.CloseArray 0 ∷ []) (subst (BeginsValue limit) (sym (behind us (at tokens.OpenArray p ∷ is ++ at tokens.Comma c ∷ []) t (ts ++ t) (at tokens.CloseArray 0 ∷ []) (after ts us t (ts ++ t) _ e refl) ∙ ap (λ (l : List Placed). us ++ at tokens.OpenArray p ∷ l) (append_assoc is (at tokens.Comma c ∷ []) (t ++ at tokens.CloseArray 0 ∷ []) ∙ sym (append_assoc is (at tokens.Comma c ∷ t) (at tokens.CloseArray 0 ∷ []))))) (closes a _ _ (array p 0 (more_items c i s))))
  closes (first_member {ts = us} {all = ts} name p n c a e) t v s =
      followed (ts ++ t) (at tokens.CloseObject 0 ∷ []) (subst (BeginsValue limit) (sym (behind us (at tokens.OpenObject p ∷ at (tokens.Str name) n ∷ at tokens.Colon c ∷ []) t (ts ++ t) (at tokens.CloseObject 0 ∷ []) (after ts us t (ts ++ t) _ e refl))) (closes a _ _ (object p 0 (member name n c s))))
  closes (next_member {ts = us} {us = ms} {all = ts} name p o n c a m fresh e) t v s =
      followed (ts ++ t) (at tokens.CloseObject 0 ∷ []) (subst (BeginsValue limit) (sym (behind us (at tokens.OpenObject p ∷ ms ++ at tokens.Comma o ∷ at (tokens.Str name) n ∷ at tokens.Colon c ∷ []) t (ts ++ t) (at tokens.CloseObject 0 ∷ []) (after ts us t (ts ++ t) _ e refl) ∙ ap (λ (l : List Placed). us ++ at tokens.OpenObject p ∷ l) (append_assoc ms (at tokens.Comma o ∷ at (tokens.Str name) n ∷ at tokens.Colon c ∷ []) (t ++ at tokens.CloseObject 0 ∷ []) ∙ sym (append_assoc ms (at tokens.Comma o ∷ at (tokens.Str name) n ∷ at tokens.Colon c ∷ t) (at tokens.CloseObject 0 ∷ []))))) (closes a _ _ (object p 0 (more_members name o n c m fresh s))))

  awaited_begins : {d : ℕ} {ts : List Placed} {stack : List Open} → Awaits d ts stack → BeginsValue limit ts
  awaited_begins {ts = ts} a = followed ts (at tokens.Null 0 ∷ []) (closes a _ _ (null 0))

  first_begins : {d : ℕ} {us ts : List Placed} {stack : List Open} (name : List ℕ) (p n : ℕ) → Awaits (suc d) us stack → ts ≡ us ++ at tokens.OpenObject p ∷ at (tokens.Str name) n ∷ [] → BeginsValue limit ts
  first_begins {us = us} {ts = ts} name p n a e = followed ts (at tokens.Colon 0 ∷ []) (awaited_begins (first_member name p n 0 a (after ts us _ _ _ e refl)))

  next_begins : {d : ℕ} {us ms ts : List Placed} {members : List Member} {stack : List Open} (name : List ℕ) (p o n : ℕ) → Awaits (suc d) us stack → SpellsMembers d ms members → has_name members name ≡ false → ts ≡ us ++ (at tokens.OpenObject p ∷ ms ++ at tokens.Comma o ∷ at (tokens.Str name) n ∷ []) → BeginsValue limit ts
  next_begins {us = us} {ms = ms} {ts = ts} name p o n a m f e = followed ts (at tokens.Colon 0 ∷ []) (awaited_begins (next_member name p o n 0 a m f (after ts us _ _ _ e refl ∙ ap (λ (l : List Placed). us ++ at tokens.OpenObject p ∷ l) (append_assoc ms (at tokens.Comma o ∷ at (tokens.Str name) n ∷ []) (at tokens.Colon 0 ∷ [])))))

  -- what is held begins a value
  begins : {ts : List Placed} {s : State} → Holds ts s → BeginsValue limit ts
  begins (awaiting {all = ts} a) = followed ts (at tokens.Null 0 ∷ []) (closes a _ _ (null 0))
  begins (array_begun {ts = us} {all = ts} p a e) = followed ts (at tokens.CloseArray 0 ∷ []) (subst (BeginsValue limit) (sym (after ts us (at tokens.CloseArray 0 ∷ []) (ts ++ at tokens.CloseArray 0 ∷ []) _ e refl)) (closes a _ _ (no_items p 0)))
  begins (items_read {ts = us} {all = ts} p a i e) = followed ts (at tokens.CloseArray 0 ∷ []) (subst (BeginsValue limit) (sym (after ts us (at tokens.CloseArray 0 ∷ []) (ts ++ at tokens.CloseArray 0 ∷ []) _ e refl)) (closes a _ _ (array p 0 i)))
  begins (object_begun {ts = us} {all = ts} p a e) = followed ts (at tokens.CloseObject 0 ∷ []) (subst (BeginsValue limit) (sym (after ts us (at tokens.CloseObject 0 ∷ []) (ts ++ at tokens.CloseObject 0 ∷ []) _ e refl)) (closes a _ _ (no_members p 0)))
  begins (members_read {ts = us} {all = ts} p a m e) = followed ts (at tokens.CloseObject 0 ∷ []) (subst (BeginsValue limit) (sym (after ts us (at tokens.CloseObject 0 ∷ []) (ts ++ at tokens.CloseObject 0 ∷ []) _ e refl)) (closes a _ _ (object p 0 m)))
  begins (name_next {ts = us} {us = ms} {all = ts} {members = members} p o a m e) = followed ts (at (tokens.Str (fresh members)) 0 ∷ []) (next_begins (fresh members) p o 0 a m (fresh_name members) (after ts us (at (tokens.Str (fresh members)) 0 ∷ []) _ _ e refl ∙ ap (λ (l : List Placed). us ++ at tokens.OpenObject p ∷ l) (append_assoc ms (at tokens.Comma o ∷ []) (at (tokens.Str (fresh members)) 0 ∷ []))))
  begins (first_name {all = ts} name p n a e) = first_begins name p n a e
  begins (next_name name p o n a m f e) = next_begins name p o n a m f e
  begins (done {all = ts} {v = v} s) = record { rest = []; value = v; is = subst (λ (l : List Placed). SpellsValue limit l v) (sym (append-nil ts)) s }

  -- what is taken begins a value
  pub taken_begins : (ts : List Placed) (s : State) → run limit begun ts ≡ Ok s → BeginsValue limit ts
  taken_begins ts s e = begins (subst (Ran ts) e (ran [] ts begun (awaiting top)))

  -- what is read as a value spells it
  pub spelled : (ts : List Placed) (v : Json) (length : ℕ) → reading limit ts length ≡ Ok v → SpellsValue limit ts v
  spelled ts v n e = ended_spells ts (run limit begun ts) (ran [] ts begun (awaiting top)) n v e
