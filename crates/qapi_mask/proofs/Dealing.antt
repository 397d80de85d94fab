-- The commands among commands and events by their places are those of the schema, in their order.
use Rattle.std.proofs.Common.{◌≡◌, ◌<◌, ◌≤◌, ◌+◌, ◌==◌, ℕ, Bool, true, false, List, [], ◌∷◌, ◌++◌, map, length, refl, ap, sym, ◌∙◌, subst, inl, inr, arith, append_assoc, length-append, add-one, Option, Some, None}
use Rattle.std.specs.Prelude.{option_map, find}
use Rattle.std.specs.{List.flat_map, Option.option_or}
use Rattle.std.proofs.lemmas.{Bool.eqb-true, Bool.eq-eqb, Grind.flat_map-append, List.append-nil}
use Rattle.qapi_types.specs.declared.parts.{CommandDef.CommandDef, EventDef.EventDef, Parts.Parts}
use Rattle.qapi_types.specs.Goodness.{IsGood, AreDealt, none, first, second}
use Rattle.qm_admit.specs.Fitting.{Among}
use Rattle.qapi_mask.specs.Calls.{Call, Command, Event, call_at, one_or_none, calls_before, calls_of}
use Rattle.qapi_mask.proofs.Lists.{among-map}
use Rattle.qapi_mask.proofs.Elements.{among-append}

abbrev pub commands_only : Call → List CommandDef
commands_only (Command c) = c ∷ []
commands_only (Event e) = []

-- the first that passes stands after those that do not

find-none : {X : Type 0} (test : X → Bool) (xs : List X) → ((x : X) → Among x xs → test x ≡ false) → find test xs ≡ None
find-none test [] h = refl
find-none test (x ∷ xs) h = rw (h x (inl refl)) (find-none test xs (λ y a. h y (inr a)))

find-after : {X : Type 0} (test : X → Bool) (xs ys : List X) (y : X) → ((x : X) → Among x xs → test x ≡ false) → test y ≡ true → find test (xs ++ y ∷ ys) ≡ Some y
find-after test [] ys y h e = rw e refl
find-after test (x ∷ xs) ys y h e = rw (h x (inl refl)) (find-after test xs ys y (λ z a. h z (inr a)) e)

only : {X : Type 0} (x y : X) → Among y (x ∷ []) → x ≡ y
only x y (inl e) = e
only x y (inr a) = absurd a

apart-number : (a n : ℕ) (b : Bool) → (a == n) ≡ b → (a ≡ n → ⊥) → (a == n) ≡ false
apart-number a n true e h = absurd (h (eqb-true a n e))
apart-number a n false e h = e

below-apart : (a n : ℕ) → a < n → (a == n) ≡ false
below-apart a n l = apart-number a n (a == n) refl (λ e. absurd (omega (arith, l, e)))

above-apart : (a n : ℕ) → n + 1 ≤ a → (a == n) ≡ false
above-apart a n l = apart-number a n (a == n) refl (λ e. absurd (omega (arith, l, e)))

-- no number of the first list stands before the next one
first-late : {n : ℕ} {xs ys : List ℕ} (x : ℕ) → AreDealt n xs ys → Among x xs → n ≤ x
first-late x none a = absurd a
first-late {n = n} x (first d) (inl e) = omega (arith, e)
first-late {n = n} x (first d) (inr a) = let l : n + 1 ≤ x = first-late x d a in omega (arith, l)
first-late {n = n} x (second d) a = let l : n + 1 ≤ x = first-late x d a in omega (arith, l)

cons-head : (x y : ℕ) (xs ys : List ℕ) → x ∷ xs ≡ y ∷ ys → x ≡ y
cons-head x y xs ys h = cc

cons-tail : (x y : ℕ) (xs ys : List ℕ) → x ∷ xs ≡ y ∷ ys → xs ≡ ys
cons-tail x y xs ys h = cc

module _ (p : Parts) where
  -- the commands and events with the first so many places, and the others
  pub record Dealt (n : ℕ) (cs0 cs : List CommandDef) (es0 es : List EventDef) : Type 0 where
    pub commands : p.commands ≡ cs0 ++ cs
    pub events : p.events ≡ es0 ++ es
    pub early_commands : (c : CommandDef) → Among c cs0 → c.place < n
    pub early_events : (e : EventDef) → Among e es0 → e.place < n
    pub told : flat_map commands_only (calls_before p n) ≡ cs0
    pub count : n ≡ length cs0 + length es0

  one-more : (n : ℕ) (call : Call) (cs : List CommandDef) → call_at p n ≡ Some call → flat_map commands_only (calls_before p n) ≡ cs → flat_map commands_only (calls_before p (n + 1)) ≡ cs ++ commands_only call
  one-more n call cs h e =
      ap (λ (k : ℕ). flat_map commands_only (calls_before p k)) (add-one n)
      ∙ ap (λ (o : Option Call). flat_map commands_only (calls_before p n ++ one_or_none o)) h
      ∙ flat_map-append commands_only (calls_before p n) (call ∷ [])
      ∙ (λ i. e i ++ append-nil (commands_only call) i)

  command-at : (n : ℕ) (c : CommandDef) (cs0 cs : List CommandDef) (es0 es : List EventDef) → c.place ≡ n → Dealt n cs0 (c ∷ cs) es0 es → call_at p n ≡ Some (Command c)
  command-at n c cs0 cs es0 es e d =
      ap (λ (l : List CommandDef). option_or (option_map Command (find (λ (c : CommandDef). c.place == n) l)) (option_map Event (find (λ (e : EventDef). e.place == n) p.events))) d.commands
      ∙ ap (λ (o : Option CommandDef). option_or (option_map Command o) (option_map Event (find (λ (e : EventDef). e.place == n) p.events)))
      (find-after (λ (c : CommandDef). c.place == n) cs0 cs c (λ x a. below-apart x.place n (d.early_commands x a)) (eq-eqb c.place n e))

  command-dealt : (n : ℕ) (c : CommandDef) (cs0 cs : List CommandDef) (es0 es : List EventDef) → c.place ≡ n → Dealt n cs0 (c ∷ cs) es0 es → Dealt (n + 1) (cs0 ++ c ∷ []) cs es0 es
  command-dealt n c cs0 cs es0 es e d = record {
    commands = d.commands ∙ sym (append_assoc cs0 (c ∷ []) cs);
    events = d.events;
    early_commands = λ x a. elim (among-append x cs0 (c ∷ []) a) [
      | inl b ↦ (let l : x.place < n = d.early_commands x b in omega (arith, l))
      | inr b ↦ (let k : x.place ≡ n = ap (λ (c : CommandDef). c.place) (sym (only c x b)) ∙ e in omega (arith, k))
    ];
    early_events = λ x a. (let l : x.place < n = d.early_events x a in omega (arith, l));
    told = one-more n (Command c) cs0 (command-at n c cs0 cs es0 es e d) d.told;
    count = (let k : n ≡ length cs0 + length es0 = d.count in let l : length (cs0 ++ c ∷ []) ≡ length cs0 + 1 = length-append cs0 (c ∷ []) in omega (arith, k, l));
  }

  late-command : (n : ℕ) (cs : List CommandDef) (xs ys : List ℕ) → AreDealt (n + 1) xs ys → map (λ (c : CommandDef). c.place) cs ≡ xs → (c : CommandDef) → Among c cs → (c.place == n) ≡ false
  late-command n cs xs ys d h c a = above-apart c.place n (first-late c.place d (subst (Among c.place) h (among-map (λ (c : CommandDef). c.place) c cs a)))

  other-command : (n : ℕ) (cs0 cs : List CommandDef) → ((c : CommandDef) → Among c cs0 → c.place < n) → ((c : CommandDef) → Among c cs → (c.place == n) ≡ false) → (c : CommandDef) → Among c (cs0 ++ cs) → (c.place == n) ≡ false
  other-command n cs0 cs early late c a = elim (among-append c cs0 cs a) [
    | inl b ↦ below-apart c.place n (early c b)
    | inr b ↦ late c b
  ]

  event-at : (n : ℕ) (e : EventDef) (cs0 cs : List CommandDef) (es0 es : List EventDef) → e.place ≡ n → ((c : CommandDef) → Among c cs → (c.place == n) ≡ false) → Dealt n cs0 cs es0 (e ∷ es) → call_at p n ≡ Some (Event e)
  event-at n e cs0 cs es0 es is late d =
      (λ i. option_or (option_map Command (find (λ (c : CommandDef). c.place == n) (d.commands i))) (option_map Event (find (λ (e : EventDef). e.place == n) (d.events i))))
      ∙ (λ i. option_or (option_map Command (find-none (λ (c : CommandDef). c.place == n) (cs0 ++ cs) (other-command n cs0 cs d.early_commands late) i))
      (option_map Event (find-after (λ (e : EventDef). e.place == n) es0 es e (λ x a. below-apart x.place n (d.early_events x a)) (eq-eqb e.place n is) i)))

  event-dealt : (n : ℕ) (e : EventDef) (cs0 cs : List CommandDef) (es0 es : List EventDef) → e.place ≡ n → ((c : CommandDef) → Among c cs → (c.place == n) ≡ false) → Dealt n cs0 cs es0 (e ∷ es) → Dealt (n + 1) cs0 cs (es0 ++ e ∷ []) es
  event-dealt n e cs0 cs es0 es is late d = record {
    commands = d.commands;
    events = d.events ∙ sym (append_assoc es0 (e ∷ []) es);
    early_commands = λ x a. (let l : x.place < n = d.early_commands x a in omega (arith, l));
    early_events = λ x a. elim (among-append x es0 (e ∷ []) a) [
      | inl b ↦ (let l : x.place < n = d.early_events x b in omega (arith, l))
      | inr b ↦ (let k : x.place ≡ n = ap (λ (e : EventDef). e.place) (sym (only e x b)) ∙ is in omega (arith, k))
    ];
    told = one-more n (Event e) cs0 (event-at n e cs0 cs es0 es is late d) d.told ∙ append-nil cs0;
    count = (let k : n ≡ length cs0 + length es0 = d.count in let l : length (es0 ++ e ∷ []) ≡ length es0 + 1 = length-append es0 (e ∷ []) in omega (arith, k, l));
  }

  dealt-end : (n : ℕ) (cs0 : List CommandDef) (es0 : List EventDef) → Dealt n cs0 [] es0 [] → flat_map commands_only (calls_of p) ≡ p.commands
  dealt-end n cs0 es0 d =
      let cs : p.commands ≡ cs0 = d.commands ∙ append-nil cs0 in
      let es : p.events ≡ es0 = d.events ∙ append-nil es0 in
      ap (λ (k : ℕ). flat_map commands_only (calls_before p k)) ((λ i. length (cs i) + length (es i)) ∙ sym d.count) ∙ d.told ∙ sym cs

  all-dealt : {n : ℕ} {xs ys : List ℕ} → AreDealt n xs ys → (cs0 cs : List CommandDef) (es0 es : List EventDef) → map (λ (c : CommandDef). c.place) cs ≡ xs → map (λ (e : EventDef). e.place) es ≡ ys → Dealt n cs0 cs es0 es → flat_map commands_only (calls_of p) ≡ p.commands
  all-dealt {n = n} none cs0 [] es0 [] h k d = dealt-end n cs0 es0 d
  all-dealt none cs0 (c ∷ cs) es0 es h k d = absurd cc
  all-dealt none cs0 [] es0 (e ∷ es) h k d = absurd cc
  all-dealt (first t) cs0 [] es0 es h k d = absurd cc
  all-dealt {n = n} (first {xs = xs} t) cs0 (c ∷ cs) es0 es h k d =
      all-dealt t (cs0 ++ c ∷ []) cs es0 es (cons-tail c.place n (map (λ (c : CommandDef). c.place) cs) xs h) k
      (command-dealt n c cs0 cs es0 es (cons-head c.place n (map (λ (c : CommandDef). c.place) cs) xs h) d)
  all-dealt (second t) cs0 cs es0 [] h k d = absurd cc
  all-dealt {n = n} (second {xs = xs} {ys = ys} t) cs0 cs es0 (e ∷ es) h k d =
      all-dealt t cs0 cs (es0 ++ e ∷ []) es h (cons-tail e.place n (map (λ (e : EventDef). e.place) es) ys k)
      (event-dealt n e cs0 cs es0 es (cons-head e.place n (map (λ (e : EventDef). e.place) es) ys k) (late-command n cs xs ys t h) d)

  pub commands-told : IsGood p → flat_map commands_only (calls_of p) ≡ p.commands
  commands-told good = all-dealt good.places [] p.commands [] p.events refl refl (record {
    commands = refl;
    events = refl;
    early_commands = λ c a. absurd a;
    early_events = λ e a. absurd a;
    told = refl;
    count = refl;
  })
