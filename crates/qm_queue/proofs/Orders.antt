-- The order of turns, and the first of a list in it.
use Rattle.std.proofs.Common.{◌≡◌, ℕ, ◌+◌, ◌==◌, nat_lt, Bool, true, false, not, cond, ◌&&◌, ◌||◌, List, [], ◌∷◌, ◌++◌, find, take, length, get_or, ◌<◌, Option, Some, None, refl, ap, sym, ◌∙◌, subst, arith, ◌⊎◌, inl, inr}
use Rattle.std.specs.List.{list_any}
use Rattle.std.proofs.lemmas.{Bool.Decides.nat_tests, List.take_more}
use Rattle.qm_queue.specs.Firsts.{Among, Leads, IsFirst}
use Rattle.qm_queue.specs.{Turns.starts_earlier, Turns.precedes, Turns.first_of, Turns.earlier_of, declared.turns.TurnItem.TurnItem}

abbrev start_rank : Option ℕ → ℕ
start_rank None = 0
start_rank (Some n) = n + 1

same_rank : (x y : Option ℕ) → start_rank x ≡ start_rank y → x ≡ y
same_rank None None h = refl
same_rank None (Some n) h = absurd (omega (arith, h))
same_rank (Some m) None h = absurd (omega (arith, h))
same_rank (Some m) (Some n) h = (let e : m ≡ n = omega (arith, h) in ap (λ (k : ℕ). Some k) e)

-- the order, over numbers
abbrev comes : ℕ → ℕ → ℕ → ℕ → Bool
comes l s m t = nat_lt l m || (l == m && nat_lt s t)

abbrev before : Option ℕ → Option ℕ → ℕ → ℕ → Bool
before x y s t = starts_earlier x y || (not (starts_earlier y x) && nat_lt s t)

by-rank : (x y : Option ℕ) (s t : ℕ) → before x y s t ≡ comes (start_rank x) s (start_rank y) t
by-rank None None s t = refl
by-rank None (Some n) s t = grind (arith, nat_tests)
by-rank (Some m) None s t = grind (arith, nat_tests)
by-rank (Some m) (Some n) s t = grind (arith, nat_tests)

trans : (l s m t n u : ℕ) → comes m t l s ≡ false → comes n u m t ≡ false → comes n u l s ≡ false
trans l s m t n u h g = grind (arith, nat_tests)

asym : (l s m t : ℕ) → comes l s m t ≡ true → comes m t l s ≡ false
asym l s m t h = grind (arith, nat_tests)

total : (l s m t : ℕ) → comes l s m t ≡ false → comes m t l s ≡ false → (l ≡ m) × (s ≡ t)
total l s m t h g = (grind (arith, nat_tests), grind (arith, nat_tests))

ranked : (a b : TurnItem) → precedes a b ≡ comes (start_rank a.last_start) a.session (start_rank b.last_start) b.session
ranked a b = by-rank a.last_start b.last_start a.session b.session

pub precedes-trans : (a b c : TurnItem) → precedes b a ≡ false → precedes c b ≡ false → precedes c a ≡ false
precedes-trans a b c h g =
    ranked c a ∙ trans (start_rank a.last_start) a.session (start_rank b.last_start) b.session (start_rank c.last_start) c.session (sym (ranked b a) ∙ h) (sym (ranked c b) ∙ g)

pub precedes-asym : (a b : TurnItem) → precedes a b ≡ true → precedes b a ≡ false
precedes-asym a b h = ranked b a ∙ asym (start_rank a.last_start) a.session (start_rank b.last_start) b.session (sym (ranked a b) ∙ h)

pub precedes-self : (a : TurnItem) → precedes a a ≡ false
precedes-self a = either (precedes a a) refl where
  either : (b : Bool) → precedes a a ≡ b → precedes a a ≡ false
  either true h = precedes-asym a a h
  either false h = h

pub precedes-same : (a b : TurnItem) → precedes a b ≡ false → precedes b a ≡ false → a ≡ b
precedes-same a b h g =
    let same = total (start_rank a.last_start) a.session (start_rank b.last_start) b.session (sym (ranked a b) ∙ h) (sym (ranked b a) ∙ g) in
    let start : a.last_start ≡ b.last_start = same_rank a.last_start b.last_start same.0 in
    λ i. record { session = same.1 i; last_start = start i }

pub leads-self : (a : TurnItem) → Leads (Some a) a
leads-self a = precedes-self a

pub earlier-left : (x y : Option TurnItem) (b : TurnItem) → Leads x b → Leads (earlier_of x y) b
earlier-left None y b h = absurd h
earlier-left (Some a) None b h = h
earlier-left (Some a) (Some c) b h = either (precedes c a) refl where
  either : (t : Bool) → precedes c a ≡ t → Leads (cond t (Some c) (Some a)) b
  either true before = precedes-trans c a b (precedes-asym c a before) h
  either false before = h

pub earlier-right : (x y : Option TurnItem) (b : TurnItem) → Leads y b → Leads (earlier_of x y) b
earlier-right None y b h = h
earlier-right (Some a) None b h = absurd h
earlier-right (Some a) (Some c) b h = either (precedes c a) refl where
  either : (t : Bool) → precedes c a ≡ t → Leads (cond t (Some c) (Some a)) b
  either true before = h
  either false before = precedes-trans a c b before h

pub earlier-is : (x y : Option TurnItem) (a : TurnItem) → earlier_of x y ≡ Some a → (x ≡ Some a) ⊎ (y ≡ Some a)
earlier-is None y a h = inr h
earlier-is (Some b) None a h = inl h
earlier-is (Some b) (Some c) a h = either (precedes c b) h where
  either : (t : Bool) → cond t (Some c) (Some b) ≡ Some a → (Some b ≡ Some a) ⊎ (Some c ≡ Some a)
  either true h = inr h
  either false h = inl h

any-none : (p : TurnItem → Bool) (xs : List TurnItem) → ((b : TurnItem) → Among b xs → p b ≡ false) → list_any p xs ≡ false
any-none p [] none = refl
any-none p (x ∷ xs) none = rw (none x (inl refl)) (any-none p xs (λ b h. none b (inr h)))

any-false : (p : TurnItem → Bool) (xs : List TurnItem) (b : TurnItem) → list_any p xs ≡ false → Among b xs → p b ≡ false
any-false p [] b none h = absurd h
any-false p (x ∷ xs) b none h = either (p x) refl none (any-false p xs b) h where
  either : (t : Bool) → p x ≡ t → (t || list_any p xs) ≡ false → (list_any p xs ≡ false → Among b xs → p b ≡ false) → (x ≡ b) ⊎ Among b xs → p b ≡ false
  either true is none later h = absurd cc
  either false is none later (inl e) = subst (λ (y : TurnItem). p y ≡ false) e is
  either false is none later (inr h) = later none h

find-is : (test : TurnItem → Bool) (a : TurnItem) (xs : List TurnItem) → test a ≡ true →
    ((b : TurnItem) → Among b xs → test b ≡ true → b ≡ a) → Among a xs → find test xs ≡ Some a
find-is test a [] here one among = absurd among
find-is test a (x ∷ xs) here one among = either (test x) refl among (find-is test a xs here (λ b k. one b (inr k))) where
  either : (t : Bool) → test x ≡ t → (x ≡ a) ⊎ Among a xs → (Among a xs → find test xs ≡ Some a) → cond t (Some x) (find test xs) ≡ Some a
  either true is among later = ap (λ (y : TurnItem). Some y) (one x (inl refl) is)
  either false is (inl e) later = absurd (let no : test a ≡ false = subst (λ (y : TurnItem). test y ≡ false) e is in cc)
  either false is (inr h) later = later h

-- it is what the definition says
pub first-is : (xs : List TurnItem) (first : Option TurnItem) → IsFirst xs first → first_of xs ≡ first
first-is [] None is = refl
first-is (x ∷ xs) None is = absurd (is.leads x (inl refl))
first-is xs (Some a) is =
    let none : list_any (λ b. precedes b a) xs ≡ false = any-none (λ b. precedes b a) xs is.leads in
    let alone : (c : TurnItem) → Among c xs → not (list_any (λ b. precedes b c) xs) ≡ true → c ≡ a =
    λ c among is-first. precedes-same c a (is.leads c among) (any-false (λ b. precedes b c) xs a (flip (list_any (λ b. precedes b c) xs) is-first) (is.among a refl)) in
    find-is (λ c. not (list_any (λ b. precedes b c) xs)) a xs (ap not none) alone (is.among a refl) where
      flip : (t : Bool) → not t ≡ true → t ≡ false
      flip true h = absurd cc
      flip false h = refl

pub among-left : (b : TurnItem) (xs ys : List TurnItem) → Among b xs → Among b (xs ++ ys)
among-left b [] ys h = absurd h
among-left b (x ∷ xs) ys (inl e) = inl e
among-left b (x ∷ xs) ys (inr h) = inr (among-left b xs ys h)

pub among-right : (b : TurnItem) (xs ys : List TurnItem) → Among b ys → Among b (xs ++ ys)
among-right b [] ys h = h
among-right b (x ∷ xs) ys h = inr (among-right b xs ys h)

among-parts : (b : TurnItem) (xs ys : List TurnItem) → Among b (xs ++ ys) → Among b xs ⊎ Among b ys
among-parts b [] ys h = inr h
among-parts b (x ∷ xs) ys (inl e) = inl (inl e)
among-parts b (x ∷ xs) ys (inr h) = more (among-parts b xs ys h) where
  more : Among b xs ⊎ Among b ys → ((x ≡ b) ⊎ Among b xs) ⊎ Among b ys
  more (inl k) = inl (inr k)
  more (inr k) = inr k

-- one more item
first-more : (xs : List TurnItem) (first : Option TurnItem) (x : TurnItem) → IsFirst xs first → IsFirst (xs ++ x ∷ []) (earlier_of first (Some x))
first-more xs first x is = record {
  leads = λ b h. leading b (among-parts b xs (x ∷ []) h);
  among = λ a h. standing a (earlier-is first (Some x) a h);
} where
  leading : (b : TurnItem) → Among b xs ⊎ Among b (x ∷ []) → Leads (earlier_of first (Some x)) b
  leading b (inl h) = earlier-left first (Some x) b (is.leads b h)
  leading b (inr (inl e)) = earlier-right first (Some x) b (subst (λ (y : TurnItem). precedes y x ≡ false) e (precedes-self x))
  leading b (inr (inr h)) = absurd h

  standing : (a : TurnItem) → (first ≡ Some a) ⊎ (Some x ≡ Some a) → Among a (xs ++ x ∷ [])
  standing a (inl h) = among-left a xs (x ∷ []) (is.among a h)
  standing a (inr h) = among-right a xs (x ∷ []) (inl (let e : x ≡ a = cc in e))

-- one more item of those of a list
pub first-step : (xs : List TurnItem) (i : ℕ) (d : TurnItem) (first result : Option TurnItem) → i < length xs →
    IsFirst (take i xs) first → result ≡ earlier_of first (Some (get_or xs i d)) → IsFirst (take (i + 1) xs) result
first-step xs i d first result within is e = rw (e, take_more xs i d within) (first-more (take i xs) first (get_or xs i d) is)
