-- Tokens are refused with their first fault and with no other.
use Rattle.std.proofs.Common.{◌≡◌, ℕ, inl, inr, List, [], ◌∷◌, ◌++◌, Option, Some, None, Result, Ok, Err, refl, ap, sym, ◌∙◌, subst, append_assoc, append-nil}
use Rattle.qapi_lex.specs.declared.token.{Token.Token, TokenKind.TokenKind, TokenKind.TheVariants.Mark, TokenKind.TheVariants.Flag, TokenKind.TheVariants.Str}
use Rattle.qapi_tree.specs.declared.{fault.TreeFault.TreeFault, fault.TreeRule.TheVariants.DuplicateKey, tree.Expr.Expr}
use Rattle.qapi_tree.specs.{Faults.fault, Faults.syntax_fault, Judging.first_fault, Judging.unless_faulty, Judging.expressions_of}
use Rattle.qapi_tree.specs.{Reading.on, Reading.run, Reading.whole, Reading.last_line, Reading.objects_of, Spelling.at, Spelling.SpellsRow}
use Rattle.qapi_tree.specs.{Stacks.State, Stacks.begun, Steps.kind_step, Steps.step}
use Rattle.qapi_tree.specs.Viable.{BeginsRow, IsMisplaced, FirstFault, misplaced, twice, short, HasFault, of_tokens, of_expressions}
use Rattle.qapi_tree.proofs.{Accepts.row-read, Begins.followed, Begins.run-append, Begins.taken_begins, Holds.row-spelled}
use Rattle.qapi_tree.proofs.Refusals.{Refuses, mark_refused, flag_refused, end_refused, IsRefused, string_refused}

alone : (r : Result State TreeFault) → on r (λ next. run next []) ≡ r
alone (Ok s) = refl
alone (Err f) = refl

run_next : (before rest : List Token) (t : Token) (s : State) → run begun before ≡ Ok s → run begun (before ++ t ∷ rest) ≡ on (step s t) (λ next. run next rest)
run_next before rest t s e = run-append before (t ∷ rest) begun ∙ ap (λ (r : Result State TreeFault). on r (λ next. run next (t ∷ rest))) e

-- a row of objects is not refused so far
not_refused : (ts rest : List Token) (f : TreeFault) (exprs : List Expr) → run begun ts ≡ Err f → SpellsRow (ts ++ rest) exprs → ⊥
unfolding objects_of
not_refused ts rest f exprs e r =
    let fails : objects_of (ts ++ rest) ≡ Err f = ap (λ (r : Result State TreeFault). on r (λ s. whole s.stack (last_line 0 (ts ++ rest)))) (run-append ts rest begun ∙ ap (λ (r : Result State TreeFault). on r (λ next. run next rest)) e) in
    let clash : Ok exprs ≡ Err f = sym (row-read (ts ++ rest) exprs r) ∙ fails in cc

-- tokens that begin a row are taken
record IsTaken (ts : List Token) : Type 0 where
  state : State
  is : run begun ts ≡ Ok state

begins_taken : (ts : List Token) → BeginsRow ts → IsTaken ts
begins_taken ts b = by_run (run begun ts) refl
  where
    by_run : (r : Result State TreeFault) → run begun ts ≡ r → IsTaken ts
    by_run (Ok s) e = record { state = s; is = e }
    by_run (Err f) e = absurd (not_refused ts b.rest f b.exprs e b.is)

-- a token after those before it, which are taken
module _ (before : List Token) (s : State) (e : run begun before ≡ Ok s) where
  one_more : (k : TokenKind) (l c : ℕ) (r : Result State TreeFault) → kind_step s k l ≡ r → run begun (before ++ at k l c ∷ []) ≡ r
  one_more k l c r h = run_next before [] (at k l c) s e ∙ alone (kind_step s k l) ∙ h

  begins_none : (k : TokenKind) (l c : ℕ) (f : TreeFault) → kind_step s k l ≡ Err f → BeginsRow (before ++ at k l c ∷ []) → ⊥
  begins_none k l c f h b = not_refused (before ++ at k l c ∷ []) b.rest f b.exprs (one_more k l c (Err f) h) b.is

  step_begins : (k : TokenKind) (l c : ℕ) (next : State) → kind_step s k l ≡ Ok next → BeginsRow (before ++ at k l c ∷ [])
  step_begins k l c next h = taken_begins (before ++ at k l c ∷ []) next (one_more k l c (Ok next) h)

  -- what is refused is a first fault
  step_fault : (rest : List Token) (k : TokenKind) (l c : ℕ) (f : TreeFault) → kind_step s k l ≡ Err f → FirstFault (before ++ at k l c ∷ rest) f
  step_fault rest k l c f h = by_kind k h
    where
      there : (k : TokenKind) → f ≡ syntax_fault l → IsMisplaced before k l c → FirstFault (before ++ at k l c ∷ rest) f
      there k d m = subst (FirstFault (before ++ at k l c ∷ rest)) (sym d) (misplaced before rest k l c (taken_begins before s e) m)

      by_text : (key : List ℕ) → kind_step s (Str key) l ≡ Err f → IsRefused (λ other. kind_step s (Str other) l) key l f → FirstFault (before ++ at (Str key) l c ∷ rest) f
      by_text key h (inl (d, t)) = subst (FirstFault (before ++ at (Str key) l c ∷ rest)) (sym d) (twice before rest key t.other l c (begins_none (Str key) l c f h) (step_begins (Str t.other) l c t.next t.is))
      by_text key h (inr (d, all)) = there (Str key) d (λ other. begins_none (Str other) l c (syntax_fault l) (all other))

      by_kind : (k : TokenKind) → kind_step s k l ≡ Err f → FirstFault (before ++ at k l c ∷ rest) f
      by_kind (Mark x) h = there (Mark x) (subst (Refuses l) h (mark_refused s x l)) (begins_none (Mark x) l c f h)
      by_kind (Flag b) h = there (Flag b) (subst (Refuses l) h (flag_refused s b l)) (begins_none (Flag b) l c f h)
      by_kind (Str key) h = by_text key h (string_refused s key l f h)

  -- with a token that may not stand there no row begins
  plain : (k : TokenKind) (l c : ℕ) (r : Result State TreeFault) → kind_step s k l ≡ r → Refuses l r → (BeginsRow (before ++ at k l c ∷ []) → ⊥) → r ≡ Err (syntax_fault l)
  plain k l c (Ok next) h d m = absurd (m (step_begins k l c next h))
  plain k l c (Err g) h d m = ap (λ (f : TreeFault). Err f) d

  text : (key : List ℕ) (l c : ℕ) (r : Result State TreeFault) → kind_step s (Str key) l ≡ r → ((other : List ℕ) → BeginsRow (before ++ at (Str other) l c ∷ []) → ⊥) → r ≡ Err (syntax_fault l)
  text key l c (Ok next) h m = absurd (m key (step_begins (Str key) l c next h))
  text key l c (Err g) h m = elim (string_refused s key l g h) [ inl t ↦ absurd (m t.1.other (step_begins (Str t.1.other) l c t.1.next t.1.is)) | inr t ↦ ap (λ (f : TreeFault). Err f) t.0 ]

  misplaced_refused : (k : TokenKind) (l c : ℕ) → IsMisplaced before k l c → kind_step s k l ≡ Err (syntax_fault l)
  misplaced_refused (Mark x) l c m = plain (Mark x) l c _ refl (mark_refused s x l) m
  misplaced_refused (Flag b) l c m = plain (Flag b) l c _ refl (flag_refused s b l) m
  misplaced_refused (Str key) l c m = text key l c _ refl m

  -- the key is refused, and another is taken
  twice_refused : (key other : List ℕ) (l c : ℕ) (r : Result State TreeFault) → kind_step s (Str key) l ≡ r → (BeginsRow (before ++ at (Str key) l c ∷ []) → ⊥) → BeginsRow (before ++ at (Str other) l c ∷ []) → r ≡ Err (fault DuplicateKey l key)
  twice_refused key other l c (Ok next) h m b = absurd (m (step_begins (Str key) l c next h))
  twice_refused key other l c (Err g) h m b = elim (string_refused s key l g h) [ inl t ↦ ap (λ (f : TreeFault). Err f) t.0 | inr t ↦ absurd (begins_none (Str other) l c (syntax_fault l) (t.1 other) b) ]

  refused_there : (rest : List Token) (k : TokenKind) (l c : ℕ) (f : TreeFault) → kind_step s k l ≡ Err f → objects_of (before ++ at k l c ∷ rest) ≡ Err f
  unfolding objects_of
  refused_there rest k l c f h = ap (λ (r : Result State TreeFault). on r (λ s. whole s.stack (last_line 0 (before ++ at k l c ∷ rest)))) (run_next before rest (at k l c) s e ∙ ap (λ (r : Result State TreeFault). on r (λ next. run next rest)) h)

-- the end, where nothing was refused
module _ (ts : List Token) (s : State) (e : run begun ts ≡ Ok s) where
  ended : (r : Result (List Expr) TreeFault) → whole s.stack (last_line 0 ts) ≡ r → objects_of ts ≡ r
  unfolding objects_of
  ended r h = ap (λ (r : Result State TreeFault). on r (λ s. whole s.stack (last_line 0 ts))) e ∙ h

  end_fault : (f : TreeFault) → whole s.stack (last_line 0 ts) ≡ Err f → FirstFault ts f
  end_fault f h =
      let none : (exprs : List Expr) → SpellsRow ts exprs → ⊥ = λ exprs r. (let clash : Ok exprs ≡ Err f = sym (row-read ts exprs r) ∙ ended (Err f) h in cc) in
      subst (FirstFault ts) (sym (subst (Refuses (last_line 0 ts)) h (end_refused s.stack (last_line 0 ts)))) (short ts (taken_begins ts s e) none)

  end_short : ((exprs : List Expr) → SpellsRow ts exprs → ⊥) → (r : Result (List Expr) TreeFault) → whole s.stack (last_line 0 ts) ≡ r → Refuses (last_line 0 ts) r → objects_of ts ≡ Err (syntax_fault (last_line 0 ts))
  end_short m (Ok exprs) h d = absurd (m exprs (row-spelled ts exprs (ended (Ok exprs) h)))
  end_short m (Err g) h d = ended (Err g) h ∙ ap (λ (f : TreeFault). Err f) d

next_faults : (before ts : List Token) (t : Token) (s : State) (n : ℕ) (f : TreeFault) → run begun before ≡ Ok s → ((next : State) → run begun (before ++ t ∷ []) ≡ Ok next → on (run next ts) (λ s. whole s.stack n) ≡ Err f → FirstFault ((before ++ t ∷ []) ++ ts) f) → (r : Result State TreeFault) → step s t ≡ r → on (on r (λ next. run next ts)) (λ s. whole s.stack n) ≡ Err f → FirstFault (before ++ t ∷ ts) f
next_faults before ts t s n f e go (Ok next) is h = subst (λ (l : List Token). FirstFault l f) (append_assoc before (t ∷ []) ts) (go next (one_more before s e t.kind t.line t.column (Ok next) is) h)
next_faults before ts t s n f e go (Err g) is h = (let same : g ≡ f = cc in step_fault before s e ts t.kind t.line t.column f (is ∙ ap (λ (g : TreeFault). Err g) same))

faults : (before ts : List Token) (s : State) (n : ℕ) (f : TreeFault) → run begun before ≡ Ok s → n ≡ last_line 0 (before ++ ts) → on (run s ts) (λ s. whole s.stack n) ≡ Err f → FirstFault (before ++ ts) f
faults before [] s n f e m h = subst (λ (l : List Token). FirstFault l f) (sym (append-nil before)) (end_fault before s e f (ap (whole s.stack) (ap (last_line 0) (sym (append-nil before)) ∙ sym m) ∙ h))
faults before (t ∷ ts) s n f e m h = next_faults before ts t s n f e (λ next is. faults (before ++ t ∷ []) ts next n f is (m ∙ ap (last_line 0) (sym (append_assoc before (t ∷ []) ts)))) (step s t) refl h

objects-fault : (ts : List Token) (f : TreeFault) → objects_of ts ≡ Err f → FirstFault ts f
unfolding objects_of
objects-fault ts f h = faults [] ts begun (last_line 0 ts) f refl refl h

fault-objects : (ts : List Token) (f : TreeFault) → FirstFault ts f → objects_of ts ≡ Err f
fault-objects ts f (misplaced before rest kind l c b m) = (let t = begins_taken before b in refused_there before t.state t.is rest kind l c (syntax_fault l) (misplaced_refused before t.state t.is kind l c m))
fault-objects ts f (twice before rest key other l c m b) = (let t = begins_taken before (followed before (at (Str other) l c ∷ []) b) in refused_there before t.state t.is rest (Str key) l c (fault DuplicateKey l key) (twice_refused before t.state t.is key other l c _ refl m b))
fault-objects ts f (short us b m) = (let t = begins_taken us b in end_short us t.state t.is m _ refl (end_refused t.state.stack (last_line 0 us)))

judged_fault : (ts : List Token) (exprs : List Expr) (o : Option TreeFault) (f : TreeFault) → SpellsRow ts exprs → first_fault exprs ≡ o → unless_faulty exprs o ≡ Err f → HasFault ts f
judged_fault ts exprs None f r e h = cc
judged_fault ts exprs (Some g) f r e h = (let same : g ≡ f = cc in of_expressions exprs r (e ∙ ap (λ (f : TreeFault). Some f) same))

pub refused_faulty : (ts : List Token) (f : TreeFault) → expressions_of ts ≡ Err f → HasFault ts f
unfolding expressions_of
refused_faulty ts f h = by_objects (objects_of ts) refl h
  where
    by_objects : (r : Result (List Expr) TreeFault) → objects_of ts ≡ r → on r (λ exprs. unless_faulty exprs (first_fault exprs)) ≡ Err f → HasFault ts f
    by_objects (Ok exprs) e h = judged_fault ts exprs (first_fault exprs) f (row-spelled ts exprs e) refl h
    by_objects (Err g) e h = (let same : g ≡ f = cc in of_tokens (objects-fault ts f (e ∙ ap (λ (g : TreeFault). Err g) same)))

pub faulty_refused : (ts : List Token) (f : TreeFault) → HasFault ts f → expressions_of ts ≡ Err f
unfolding expressions_of
faulty_refused ts f (of_tokens h) = ap (λ (r : Result (List Expr) TreeFault). on r (λ exprs. unless_faulty exprs (first_fault exprs))) (fault-objects ts f h)
faulty_refused ts f (of_expressions exprs r e) = ap (λ (r : Result (List Expr) TreeFault). on r (λ exprs. unless_faulty exprs (first_fault exprs))) (row-read ts exprs r) ∙ ap (unless_faulty exprs) e
