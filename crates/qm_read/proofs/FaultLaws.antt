-- A text that is refused has the fault at the first token with which no value begins any more, and
-- tokens with a first fault are refused with it.
use Rattle.std.proofs.Common.{◌≡◌, List, [], ◌∷◌, ◌++◌, Result, Ok, Err, refl, ℕ, inl, inr, ap, sym, ◌∙◌, subst, append_assoc, append-nil}
use Rattle.qm_read.specs.{declared.fault.JsonFault.JsonFault, Tokens.Placed, Tokens.at, Stacks.State, Stacks.begun}
use Rattle.qm_read.specs.Faults.{run, on, whole, ended, reading}
use Rattle.qm_json.specs.declared.value.Json.{Json}
use Rattle.qm_read.specs.declared.{fault.JsonFault.TheVariants.Expected, fault.JsonFault.TheVariants.Duplicate, token.Token.Token}
use Rattle.qm_read.specs.declared.token.Token.TheVariants as tokens
use Rattle.qm_read.specs.{Spelling.SpellsValue, Steps.step}
use Rattle.qm_read.specs.Viable.{BeginsValue, IsMisplaced, FirstFault, wrong, misplaced, twice, short}
use Rattle.qm_read.proofs.{Accepts.reading-spelled, Holds.taken_begins, Holds.spelled}
use Rattle.qm_read.proofs.Refusals.{Refuses, refuses, StrRefused, string_refused, too_short}

-- at most so many brackets are open at a time
module _ (limit : ℕ) where
  on_run : (r : Result State JsonFault) (ts us : List Placed) → ((s : State) → run limit s (ts ++ us) ≡ on (run limit s ts) (λ next. run limit next us)) → on r (λ s. run limit s (ts ++ us)) ≡ on (on r (λ s. run limit s ts)) (λ next. run limit next us)
  on_run (Ok s) ts us h = h s
  on_run (Err f) ts us h = refl

  pub run-append : (ts us : List Placed) (s : State) → run limit s (ts ++ us) ≡ on (run limit s ts) (λ next. run limit next us)
  run-append [] us s = refl
  run-append (t ∷ ts) us s = on_run _ ts us (run-append ts us)

  pub run_next : (before : List Placed) (t : Placed) (s : State) → run limit begun before ≡ Ok s → run limit begun (before ++ t ∷ []) ≡ on (step limit s t.token t.place) (λ next. Ok next)
  run_next before t s e = run-append before (t ∷ []) begun ∙ ap (λ (r : Result State JsonFault). on r (λ next. run limit next (t ∷ []))) e

  refused_run : (before rest : List Placed) (t : Placed) (s : State) (f : JsonFault) → run limit begun before ≡ Ok s → step limit s t.token t.place ≡ Err f → run limit begun ((before ++ t ∷ []) ++ rest) ≡ Err f
  refused_run before rest t s f e h =
      ap (run limit begun) (append_assoc before (t ∷ []) rest)
      ∙ run-append before (t ∷ rest) begun
      ∙ ap (λ (r : Result State JsonFault). on r (λ next. run limit next (t ∷ rest))) e
      ∙ ap (λ (r : Result State JsonFault). on r (λ next. run limit next rest)) h

  pub refused_begins_none : (before : List Placed) (t : Placed) (s : State) (f : JsonFault) → run limit begun before ≡ Ok s → step limit s t.token t.place ≡ Err f → BeginsValue limit (before ++ t ∷ []) → ⊥
  refused_begins_none before t s f e h b =
      let read : reading limit ((before ++ t ∷ []) ++ b.rest) 0 ≡ Ok b.value = reading-spelled limit _ b.value 0 b.is in
      let fault : reading limit ((before ++ t ∷ []) ++ b.rest) 0 ≡ Err f = ap (λ (r : Result State JsonFault). ended r 0) (refused_run before b.rest t s f e h) in
      let both : Ok b.value ≡ Err f = sym read ∙ fault in
      cc

  module _ (before rest : List Placed) (s : State) (n : ℕ) (e : run limit begun before ≡ Ok s) where
    elsewhere : (k : Token) (p : ℕ) (f : JsonFault) → step limit s k p ≡ Err f → Refuses (step limit s k p) p → IsMisplaced limit before k p → FirstFault limit (before ++ at k p ∷ rest) n f
    elsewhere k p f h r m =
        let expected : f ≡ Expected p = subst (λ (r : Result State JsonFault). Refuses r p) h r in
        subst (FirstFault limit (before ++ at k p ∷ rest) n) (sym expected) (misplaced before rest k p (taken_begins limit before s e) m)

    here : (k : Token) (p : ℕ) (f : JsonFault) → step limit s k p ≡ Err f → BeginsValue limit (before ++ at k p ∷ []) → ⊥
    here k p f h = refused_begins_none before (at k p) s f e h

    taken : (name : List ℕ) (p : ℕ) (next : State) → step limit s (tokens.Str name) p ≡ Ok next → BeginsValue limit (before ++ at (tokens.Str name) p ∷ [])
    taken name p next h = taken_begins limit (before ++ at (tokens.Str name) p ∷ []) next (run_next before (at (tokens.Str name) p) s e ∙ ap (λ (r : Result State JsonFault). on r (λ next. Ok next)) h)

    string_fault : (name : List ℕ) (p : ℕ) (f : JsonFault) → step limit s (tokens.Str name) p ≡ Err f → StrRefused (λ other. step limit s (tokens.Str other) p) p f → FirstFault limit (before ++ at (tokens.Str name) p ∷ rest) n f
    string_fault name p f h (inl (d, t)) =
        subst (FirstFault limit (before ++ at (tokens.Str name) p ∷ rest) n) (sym d) (twice before rest name t.other p (here (tokens.Str name) p f h) (taken t.other p t.next t.is))
    string_fault name p f h (inr (d, all)) =
        subst (FirstFault limit (before ++ at (tokens.Str name) p ∷ rest) n) (sym d) (misplaced before rest (tokens.Str name) p (taken_begins limit before s e) (λ other. here (tokens.Str other) p (Expected p) (all other)))

    step_fault : (k : Token) (p : ℕ) (f : JsonFault) → step limit s k p ≡ Err f → FirstFault limit (before ++ at k p ∷ rest) n f
    step_fault (tokens.Bad g) p f h = let same : g ≡ f = cc in subst (FirstFault limit (before ++ at (tokens.Bad g) p ∷ rest) n) same (wrong before rest g p (taken_begins limit before s e))
    step_fault (tokens.Str name) p f h = string_fault name p f h (string_refused limit s name p f h)
    step_fault k p f h = elsewhere k p f h (refuses limit s k p tt) (here k p f h)

  at_end : (ts : List Placed) (s : State) (n : ℕ) (f : JsonFault) → run limit begun ts ≡ Ok s → whole s.stack n ≡ Err f → FirstFault limit ts n f
  at_end ts s n f e h =
      let none : (value : Json) → SpellsValue limit ts value → ⊥ = λ value spells. (let read : reading limit ts n ≡ Ok value = reading-spelled limit ts value n spells in
      let both : Ok value ≡ Err f = sym read ∙ ap (λ (r : Result State JsonFault). ended r n) e ∙ h in cc) in
      subst (FirstFault limit ts n) (sym (too_short s.stack n f h)) (short ts (taken_begins limit ts s e) none)

  next_faults : (before : List Placed) (t : Placed) (ts : List Placed) (s : State) (n : ℕ) (f : JsonFault) → run limit begun before ≡ Ok s → ((next : State) → run limit begun (before ++ t ∷ []) ≡ Ok next → ended (run limit next ts) n ≡ Err f → FirstFault limit ((before ++ t ∷ []) ++ ts) n f) → (r : Result State JsonFault) → step limit s t.token t.place ≡ r → ended (on r (λ next. run limit next ts)) n ≡ Err f → FirstFault limit (before ++ t ∷ ts) n f
  next_faults before t ts s n f e go (Ok next) is h =
      subst (λ (l : List Placed). FirstFault limit l n f) (append_assoc before (t ∷ []) ts)
      (go next (run_next before t s e ∙ ap (λ (r : Result State JsonFault). on r (λ next. Ok next)) is) h)
  next_faults before t ts s n f e go (Err g) is h = let same : g ≡ f = cc in step_fault before ts s n e t.token t.place f (is ∙ ap (λ (g : JsonFault). Err g) same)

  faults : (before ts : List Placed) (s : State) (n : ℕ) (f : JsonFault) → run limit begun before ≡ Ok s → ended (run limit s ts) n ≡ Err f → FirstFault limit (before ++ ts) n f
  faults before [] s n f e h = subst (λ (l : List Placed). FirstFault limit l n f) (sym (append-nil before)) (at_end before s n f e h)
  faults before (t ∷ ts) s n f e h = next_faults before t ts s n f e (λ next is. faults (before ++ t ∷ []) ts next n f is) (step limit s t.token t.place) refl h

  -- what is refused has its first fault
  pub first_fault : (ts : List Placed) (n : ℕ) (f : JsonFault) → reading limit ts n ≡ Err f → FirstFault limit ts n f
  first_fault ts n f h = faults [] ts begun n f refl h

  -- tokens that begin a value are taken
  record Ran (ts : List Placed) : Type 0 where
    state : State
    is : run limit begun ts ≡ Ok state

  taken_so_far : (ts rest : List Placed) (v : Json) (r : Result State JsonFault) → run limit begun ts ≡ r → reading limit (ts ++ rest) 0 ≡ Ok v → Ran ts
  taken_so_far ts rest v (Ok s) e h = record { state = s; is = e }
  taken_so_far ts rest v (Err f) e h =
      let fault : reading limit (ts ++ rest) 0 ≡ Err f = ap (λ (r : Result State JsonFault). ended r 0) (run-append ts rest begun ∙ ap (λ (r : Result State JsonFault). on r (λ next. run limit next rest)) e) in
      let both : Ok v ≡ Err f = sym h ∙ fault in
      cc

  begins_ran : (ts : List Placed) → BeginsValue limit ts → Ran ts
  begins_ran ts b = taken_so_far ts b.rest b.value (run limit begun ts) refl (reading-spelled limit (ts ++ b.rest) b.value 0 b.is)

  begun_before : (ts us : List Placed) → BeginsValue limit (ts ++ us) → BeginsValue limit ts
  begun_before ts us b = record { rest = us ++ b.rest; value = b.value; is = subst (λ (l : List Placed). SpellsValue limit l b.value) (append_assoc ts us b.rest) b.is }

  -- a token that is refused after those before it is the fault of them all
  refused_there : (before rest : List Placed) (t : Placed) (s : State) (f : JsonFault) (n : ℕ) → run limit begun before ≡ Ok s → step limit s t.token t.place ≡ Err f → reading limit (before ++ t ∷ rest) n ≡ Err f
  refused_there before rest t s f n e h =
      ap (λ (r : Result State JsonFault). ended r n) (run-append before (t ∷ rest) begun ∙ ap (λ (r : Result State JsonFault). on r (λ next. run limit next (t ∷ rest))) e ∙ ap (λ (r : Result State JsonFault). on r (λ next. run limit next rest)) h)

  module _ (before : List Placed) (s : State) (e : run limit begun before ≡ Ok s) where
    step_begins : (k : Token) (p : ℕ) (next : State) → step limit s k p ≡ Ok next → BeginsValue limit (before ++ at k p ∷ [])
    step_begins k p next h = taken_begins limit (before ++ at k p ∷ []) next (run_next before (at k p) s e ∙ ap (λ (r : Result State JsonFault). on r (λ next. Ok next)) h)

    -- no value begins with the token, which is refused
    not_there : (k : Token) (p : ℕ) (r : Result State JsonFault) → step limit s k p ≡ r → Refuses r p → (BeginsValue limit (before ++ at k p ∷ []) → ⊥) → r ≡ Err (Expected p)
    not_there k p (Ok next) h f m = absurd (m (step_begins k p next h))
    not_there k p (Err g) h f m = ap (λ (f : JsonFault). Err f) f

    string_elsewhere : (name : List ℕ) (p : ℕ) (r : Result State JsonFault) → step limit s (tokens.Str name) p ≡ r → ((f : JsonFault) → r ≡ Err f → StrRefused (λ other. step limit s (tokens.Str other) p) p f) → ((other : List ℕ) → BeginsValue limit (before ++ at (tokens.Str other) p ∷ []) → ⊥) → r ≡ Err (Expected p)
    string_elsewhere name p (Ok next) h f m = absurd (m name (step_begins (tokens.Str name) p next h))
    string_elsewhere name p (Err g) h f m = elim (f g refl) [ inl t ↦ absurd (m t.1.other (step_begins (tokens.Str t.1.other) p t.1.next t.1.is)) | inr t ↦ ap (λ (f : JsonFault). Err f) t.0 ]

    misplaced_refused : (k : Token) (p : ℕ) → IsMisplaced limit before k p → step limit s k p ≡ Err (Expected p)
    misplaced_refused (tokens.Bad fault) p m = absurd m
    misplaced_refused (tokens.Str name) p m = string_elsewhere name p (step limit s (tokens.Str name) p) refl (λ f h. string_refused limit s name p f h) m
    misplaced_refused k p m = not_there k p _ refl (refuses limit s k p tt) m

    -- the name is refused, and another is taken
    twice_refused : (name other : List ℕ) (p : ℕ) (r : Result State JsonFault) → step limit s (tokens.Str name) p ≡ r → (BeginsValue limit (before ++ at (tokens.Str name) p ∷ []) → ⊥) → BeginsValue limit (before ++ at (tokens.Str other) p ∷ []) → r ≡ Err (Duplicate p)
    twice_refused name other p (Ok next) h m b = absurd (m (step_begins (tokens.Str name) p next h))
    twice_refused name other p (Err g) h m b = elim (string_refused limit s name p g h) [ inl t ↦ ap (λ (f : JsonFault). Err f) t.0 | inr t ↦ absurd (refused_begins_none before (at (tokens.Str other) p) s (Expected p) e (t.1 other) b) ]

  ends_short : (ts : List Placed) (s : State) (n : ℕ) (r : Result Json JsonFault) → run limit begun ts ≡ Ok s → whole s.stack n ≡ r → ((value : Json) → SpellsValue limit ts value → ⊥) → reading limit ts n ≡ Err (Expected n)
  ends_short ts s n (Ok v) e h m = absurd (m v (spelled limit ts v n (ap (λ (r : Result State JsonFault). ended r n) e ∙ h)))
  ends_short ts s n (Err f) e h m = ap (λ (r : Result State JsonFault). ended r n) e ∙ h ∙ ap (λ (f : JsonFault). Err f) (too_short s.stack n f h)

  -- what has a first fault is refused with it
  pub reading-faulty : (ts : List Placed) (n : ℕ) (f : JsonFault) → FirstFault limit ts n f → reading limit ts n ≡ Err f
  reading-faulty ts n f (wrong before rest fault p b) =
      let r = begins_ran before b in refused_there before rest (at (tokens.Bad fault) p) r.state fault n r.is refl
  reading-faulty ts n f (misplaced before rest token p b m) =
      let r = begins_ran before b in refused_there before rest (at token p) r.state (Expected p) n r.is (misplaced_refused before r.state r.is token p m)
  reading-faulty ts n f (twice before rest name other p m b) =
      let r = begins_ran before (begun_before before (at (tokens.Str other) p ∷ []) b) in
      refused_there before rest (at (tokens.Str name) p) r.state (Duplicate p) n r.is (twice_refused before r.state r.is name other p _ refl m b)
  reading-faulty ts n f (short us b m) = let r = begins_ran us b in ends_short us r.state n _ r.is refl m
