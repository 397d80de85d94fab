-- Commands and events by their places.
use Rattle.std.proofs.Common.{◌≡◌, ◌≤◌, ◌<◌, ◌+◌, ℕ, zero, suc, Bool, true, false, cond, List, [], ◌∷◌, ◌++◌, length, map, take, drop, get_or, refl, sym, ap, ◌∙◌, subst, arith, Option, Some, None, option_map, add-one}
use Rattle.std.specs.{Prelude.find, Prelude.◌==◌, List.All, Option.option_or}
use Rattle.std.proofs.lemmas.{Grind.common_steps, List.drop_more, List.length-map, List.drop-map}
use Rattle.qapi_types.specs.{Goodness.AreDealt, Goodness.none, Goodness.first, Goodness.second, Sets.is_at}
use Rattle.qapi_types.specs.declared.parts.{CommandDef.CommandDef, EventDef.EventDef, Parts.Parts}
use Rattle.qapi_types.proofs.DealLaws.{Deals, deals_none, deals_first, deals_second, deals_stuck}
use Rattle.qapi_mask.specs.Calls.{Call, Command, Event, one_or_none, calls_before}
use Rattle.qapi_mask.proofs.ListingLaws.{taken}

-- what is found in a list by a number
abbrev found : {X : Type 0} → (X → ℕ) → ℕ → List X → Option X
found place n xs = find (λ x. place x == n) xs

head-step : {X : Type 0} (b : Bool) (x : X) (o : Option X) → b ≡ true → cond b (Some x) o ≡ Some x
head-step true x o e = refl
head-step false x o e = cc

past-step : {X : Type 0} (b : Bool) (x : X) (o : Option X) → b ≡ false → cond b (Some x) o ≡ o
past-step true x o e = cc
past-step false x o e = refl

-- no thing of a list has the number
not-found : {X : Type 0} (place : X → ℕ) (n : ℕ) (xs : List X) → All (λ x. (place x == n) ≡ false) xs → found place n xs ≡ None
not-found place n [] h = refl
not-found place n (x ∷ xs) h = past-step (place x == n) x (found place n xs) (h 0 x (omega arith)) ∙ not-found place n xs (λ i d l. h (suc i) d (omega (arith, l)))

find-past : {X : Type 0} (place : X → ℕ) (n : ℕ) (xs : List X) (i : ℕ) → All (λ x. (place x == n) ≡ false) (take i xs) → found place n xs ≡ found place n (drop i xs)
find-past place n xs zero h = refl
find-past place n [] (suc i) h = refl
find-past place n (x ∷ xs) (suc i) h = past-step (place x == n) x (found place n xs) (h 0 x (omega arith)) ∙ find-past place n xs i (λ j d l. h (suc j) d (omega (arith, l)))

first-above : {n : ℕ} {xs ys : List ℕ} → AreDealt n xs ys → All (λ x. n ≤ x) xs
first-above none = λ i d l. absurd (omega (arith, l))
first-above (first {n = m} {xs = xs} p) = from-front m xs (first-above p)
  where
    from-front : (m : ℕ) (xs : List ℕ) → All (λ x. m + 1 ≤ x) xs → All (λ x. m ≤ x) (m ∷ xs)
    from-front m xs h zero d l = omega arith
    from-front m xs h (suc i) d l = (let k = h i d (omega (arith, l)) in omega (arith, k))
first-above (second {n = m} p) = λ i d l. (let k = first-above p i d l in omega (arith, k))

second-above : {n : ℕ} {xs ys : List ℕ} → AreDealt n xs ys → All (λ y. n ≤ y) ys
second-above none = λ i d l. absurd (omega (arith, l))
second-above (second {n = m} {ys = ys} p) = from-front m ys (second-above p)
  where
    from-front : (m : ℕ) (xs : List ℕ) → All (λ x. m + 1 ≤ x) xs → All (λ x. m ≤ x) (m ∷ xs)
    from-front m xs h zero d l = omega arith
    from-front m xs h (suc i) d l = (let k = h i d (omega (arith, l)) in omega (arith, k))
second-above (first {n = m} p) = λ i d l. (let k = second-above p i d l in omega (arith, k))

all-back : {X : Type 0} (f : X → ℕ) (P : ℕ → Type 0) (xs : List X) → All P (map f xs) → All (λ x. P (f x)) xs
all-back f P [] h i d l = absurd (omega (arith, l))
all-back f P (x ∷ xs) h zero d l = h 0 (f x) (omega arith)
all-back f P (x ∷ xs) h (suc i) d l = all-back f P xs (λ j e m. h (suc j) e (omega (arith, m))) i d (omega (arith, l))

other : (a n : ℕ) → a < n → (a == n) ≡ false
other a n l = grind (arith, l)

above : (a n : ℕ) → n + 1 ≤ a → (a == n) ≡ false
above a n l = grind (arith, l)

-- what has been merged so far: those of each list that were taken have lower places
pub record Merges (p : Parts) (i j n : ℕ) (calls : List Call) : Type 0 where
  pub deals : Deals (map (λ (c : CommandDef). c.place) p.commands) (map (λ (e : EventDef). e.place) p.events) i j n
  pub commands : All (λ (c : CommandDef). c.place < n) (take i p.commands)
  pub events : All (λ (e : EventDef). e.place < n) (take j p.events)
  pub told : calls ≡ calls_before p n

pub merges-none : (p : Parts) → Merges p 0 0 0 []
merges-none p = record { deals = deals_none _ _; commands = λ i d l. absurd (omega (arith, l)); events = λ i d l. absurd (omega (arith, l)); told = refl }

-- the number stands next in the second list where it does not in the first
next-second : (cs es : List ℕ) (i j n : ℕ) (b : Bool) → Deals cs es i j n → AreDealt 0 cs es → n < length cs + length es → is_at n cs i ≡ false → is_at n es j ≡ b → b ≡ true
next-second cs es i j n true s w l f g = refl
next-second cs es i j n false s w l f g = absurd (let wrong = (deals_stuck cs es i j n s l f g).1 w in cc)

there : (n : ℕ) (xs : List ℕ) (i : ℕ) → is_at n xs i ≡ true → i < length xs
there n xs i h = grind (arith, common_steps, h)

value : (n : ℕ) (xs : List ℕ) (i : ℕ) → is_at n xs i ≡ true → get_or xs i 0 ≡ n
value n xs i h = grind (arith, common_steps, h)

place-at : {X : Type 0} (f : X → ℕ) (xs : List X) (i : ℕ) (d : X) → i < length xs → get_or (map f xs) i 0 ≡ f (get_or xs i d)
place-at f [] i d l = absurd (omega (arith, l))
place-at f (x ∷ xs) zero d l = refl
place-at f (x ∷ xs) (suc i) d l = place-at f xs i d (omega (arith, l))

found-at : {X : Type 0} (f : X → ℕ) (n : ℕ) (xs : List X) (i : ℕ) (d : X) → i < length xs → f (get_or xs i d) ≡ n → All (λ x. f x < n) (take i xs) → found f n xs ≡ Some (get_or xs i d)
found-at f n xs i d l e h =
    find-past f n xs i (λ j x m. other (f (get_or (take i xs) j x)) n (h j x m))
    ∙ ap (found f n) (drop_more xs i d l)
    ∙ head-step (f (get_or xs i d) == n) (get_or xs i d) (found f n (drop (i + 1) xs)) (let s = e in grind (arith, s))

grows : {X : Type 0} (f : X → ℕ) (n : ℕ) (xs : List X) (i : ℕ) (d : X) → i < length xs → f (get_or xs i d) ≡ n → All (λ x. f x < n) (take i xs) → All (λ x. f x < n + 1) (take (i + 1) xs)
grows {X = X} f n xs i d l e h = subst (λ (ys : List X). All (λ x. f x < n + 1) ys) (sym (taken xs i d l)) (ends (take i xs) (get_or xs i d) h e)
  where
    ends : (ys : List X) (y : X) → All (λ x. f x < n) ys → f y ≡ n → All (λ x. f x < n + 1) (ys ++ y ∷ [])
    ends [] y h e zero d l = omega (arith, e)
    ends [] y h e (suc j) d l = absurd (omega (arith, l))
    ends (z ∷ ys) y h e zero d l = (let k = h 0 z (omega arith) in omega (arith, k))
    ends (z ∷ ys) y h e (suc j) d l = ends ys y (λ a b m. h (suc a) b (omega (arith, m))) e j d (omega (arith, l))

still : {X : Type 0} (f : X → ℕ) (n : ℕ) (xs : List X) → All (λ x. f x < n) xs → All (λ x. f x < n + 1) xs
still f n xs h i d l = let k = h i d l in omega (arith, k)

-- a command is next
pub merges-command : (p : Parts) (i j n : ℕ) (calls : List Call) (d : CommandDef) → Merges p i j n calls → is_at n (map (λ (c : CommandDef). c.place) p.commands) i ≡ true →
    Merges p (i + 1) j (n + 1) (calls ++ Command (get_or p.commands i d) ∷ [])
merges-command p i j n calls d s h =
    let f : CommandDef → ℕ = λ (c : CommandDef). c.place in
    let within : i < length p.commands = (let l = there n (map f p.commands) i h in let m = length-map p.commands f in omega (arith, l, m)) in
    let is : f (get_or p.commands i d) ≡ n = sym (place-at f p.commands i d within) ∙ value n (map f p.commands) i h in
    record {
      deals = deals_first _ _ i j n s.deals h;
      commands = grows f n p.commands i d within is s.commands;
      events = still (λ (e : EventDef). e.place) n (take j p.events) s.events;
      told = ap (λ (cs : List Call). cs ++ Command (get_or p.commands i d) ∷ []) s.told ∙ sym (one-more (found-at f n p.commands i d within is s.commands));
    }
  where
    one-more : find (λ (c : CommandDef). c.place == n) p.commands ≡ Some (get_or p.commands i d) → calls_before p (n + 1) ≡ calls_before p n ++ Command (get_or p.commands i d) ∷ []
    one-more e = ap (calls_before p) (add-one n) ∙ ap (λ (o : Option CommandDef). calls_before p n ++ one_or_none (option_or (option_map Command o) (option_map Event (find (λ (e : EventDef). e.place == n) p.events)))) e

-- an event is next
pub event-within : (p : Parts) (i j n : ℕ) (calls : List Call) → Merges p i j n calls → AreDealt 0 (map (λ (c : CommandDef). c.place) p.commands) (map (λ (e : EventDef). e.place) p.events) →
    n < length p.commands + length p.events → is_at n (map (λ (c : CommandDef). c.place) p.commands) i ≡ false → is_at n (map (λ (e : EventDef). e.place) p.events) j ≡ true
event-within p i j n calls s w l h =
    let a = length-map p.commands (λ (c : CommandDef). c.place) in let b = length-map p.events (λ (e : EventDef). e.place) in
    next-second _ _ i j n (is_at n (map (λ (e : EventDef). e.place) p.events) j) s.deals w (omega (arith, a, b, l)) h refl

pub event-bound : (p : Parts) (j n : ℕ) → is_at n (map (λ (e : EventDef). e.place) p.events) j ≡ true → j < length p.events
event-bound p j n h = let l = there n (map (λ (e : EventDef). e.place) p.events) j h in let m = length-map p.events (λ (e : EventDef). e.place) in omega (arith, l, m)

pub merges-event : (p : Parts) (i j n : ℕ) (calls : List Call) (d : EventDef) → Merges p i j n calls → AreDealt 0 (map (λ (c : CommandDef). c.place) p.commands) (map (λ (e : EventDef). e.place) p.events) →
    is_at n (map (λ (e : EventDef). e.place) p.events) j ≡ true → Merges p i (j + 1) (n + 1) (calls ++ Event (get_or p.events j d) ∷ [])
merges-event p i j n calls d s w h =
    let f : CommandDef → ℕ = λ (c : CommandDef). c.place in
    let g : EventDef → ℕ = λ (e : EventDef). e.place in
    let deals = deals_second _ _ i j n s.deals h in
    let within : j < length p.events = event-bound p j n h in
    let is : g (get_or p.events j d) ≡ n = sym (place-at g p.events j d within) ∙ value n (map g p.events) j h in
    let higher : All (λ x. n + 1 ≤ x) (map f (drop i p.commands)) = subst (λ xs. All (λ x. n + 1 ≤ x) xs) (drop-map f i p.commands) (first-above (deals.rest.0 w)) in
    let none-left : found f n (drop i p.commands) ≡ None = not-found f n (drop i p.commands) (λ k x m. above _ n (all-back f (λ x. n + 1 ≤ x) (drop i p.commands) higher k x m)) in
    let none-there : found f n p.commands ≡ None = find-past f n p.commands i (λ k x m. other _ n (s.commands k x m)) ∙ none-left in
    record {
      deals = deals;
      commands = still f n (take i p.commands) s.commands;
      events = grows g n p.events j d within is s.events;
      told = ap (λ (cs : List Call). cs ++ Event (get_or p.events j d) ∷ []) s.told ∙ sym (one-more none-there (found-at g n p.events j d within is s.events));
    }
  where
    one-more : find (λ (c : CommandDef). c.place == n) p.commands ≡ None → find (λ (e : EventDef). e.place == n) p.events ≡ Some (get_or p.events j d) → calls_before p (n + 1) ≡ calls_before p n ++ Event (get_or p.events j d) ∷ []
    one-more e k = ap (calls_before p) (add-one n) ∙ (λ t. calls_before p n ++ one_or_none (option_or (option_map Command (e t)) (option_map Event (k t))))

-- the same, as the code has them
pub goes-command : (p : Parts) (i j n k l : ℕ) (calls new : List Call) (c : CommandDef) → Merges p i j n calls → true ≡ is_at n (map (λ (c : CommandDef). c.place) p.commands) i → k ≡ i + 1 → l ≡ j →
    c ≡ get_or p.commands i c → new ≡ calls ++ Command c ∷ [] → Merges p k l (n + 1) new
goes-command p i j n k l calls new c s h e f is now =
    subst (λ k. Merges p k l (n + 1) new) (sym e) (subst (λ l. Merges p (i + 1) l (n + 1) new) (sym f)
    (subst (Merges p (i + 1) j (n + 1)) (ap (λ x. calls ++ Command x ∷ []) (sym is) ∙ sym now) (merges-command p i j n calls c s (sym h))))

pub goes-event : (p : Parts) (i j n k l : ℕ) (calls new : List Call) (d : EventDef) → Merges p i j n calls → AreDealt 0 (map (λ (c : CommandDef). c.place) p.commands) (map (λ (e : EventDef). e.place) p.events) →
    n < length p.commands + length p.events → false ≡ is_at n (map (λ (c : CommandDef). c.place) p.commands) i → k ≡ i → l ≡ j + 1 → d ≡ get_or p.events j d → new ≡ calls ++ Event d ∷ [] → Merges p k l (n + 1) new
goes-event p i j n k l calls new d s w m h e f is now =
    subst (λ k. Merges p k l (n + 1) new) (sym e) (subst (λ l. Merges p i l (n + 1) new) (sym f)
    (subst (Merges p i (j + 1) (n + 1)) (ap (λ x. calls ++ Event x ∷ []) (sym is) ∙ sym now) (merges-event p i j n calls d s w (event-within p i j n calls s w m (sym h)))))

pub event-there : (p : Parts) (i j n : ℕ) (calls : List Call) → Merges p i j n calls → AreDealt 0 (map (λ (c : CommandDef). c.place) p.commands) (map (λ (e : EventDef). e.place) p.events) →
    n < length p.commands + length p.events → false ≡ is_at n (map (λ (c : CommandDef). c.place) p.commands) i → j < length p.events
event-there p i j n calls s w m h = event-bound p j n (event-within p i j n calls s w m (sym h))
