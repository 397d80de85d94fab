-- The list of types, as the code makes it.
use Rattle.std.proofs.Common.{Option, Some, None, ◌≡◌, ◌≤◌, ◌<◌, ◌+◌, ◌^◌, ℕ, zero, suc, Bool, true, false, cond, List, [], ◌∷◌, ◌++◌, length, map, take, get_or, refl, sym, ap, ◌∙◌, subst, arith, inl, inr, append-nil}
use Rattle.std.specs.Prelude.{filter}
use Rattle.std.specs.List.{All}
use Rattle.std.proofs.lemmas.{Grind.common_steps, List.length-append, List.map-append}
use Rattle.qapi_types.specs.declared.{kind.Kind.Kind, parts.Parts.Parts}
use Rattle.qapi_types.specs.{Goodness.IsGood, Goodness.RefersBelow, Types.kind_of}
use Rattle.qm_admit.specs.Fitting.{Among}
use Rattle.qapi_mask.specs.{Entries.refs_of, Naming.base_of, Naming.element_of, Naming.first_refs, Naming.inner_in, Naming.inner_of, Naming.is_numbered, Naming.listed_of, Naming.numbered_of, Naming.refs_shown, Naming.shown_of, Orders.AreBelow, Orders.IsWalked, Orders.with_all, Orders.with_new}
use Rattle.qapi_mask.specs.{Tables.IsMarked, Tables.Tells}
use Rattle.qapi_types.specs.Prelude.{HasPrelude, empty_of}
use Rattle.qapi_mask.proofs.{ListingLaws.taken, ListingLaws.told-map, OrderLaws.all-append, OrderLaws.few, Placing.has-among, Sound.IsSound, Sound.sound}
use Rattle.qapi_mask.proofs.StandingLaws.{base-below, element-below}
use Rattle.qapi_mask.proofs.NamingLaws.{first-below, listed-walks, numbered-few, refs-below, shown-below}

pub all-of : (P : ℕ → Type 0) (xs : List ℕ) → ((x : ℕ) → Among x xs → P x) → All P xs
all-of P [] h i d l = absurd (omega (arith, l))
all-of P (x ∷ xs) h zero d l = h x (inl refl)
all-of P (x ∷ xs) h (suc i) d l = all-of P xs (λ y a. h y (inr a)) i d (omega (arith, l))

same-entry : (xs : List ℕ) (i d e : ℕ) → i < length xs → get_or xs i d ≡ get_or xs i e
same-entry [] i d e l = absurd (omega (arith, l))
same-entry (x ∷ xs) zero d e l = refl
same-entry (x ∷ xs) (suc i) d e l = same-entry xs i d e (omega (arith, l))

among-entry : (xs : List ℕ) (i : ℕ) → i < length xs → Among (get_or xs i 0) xs
among-entry [] i l = absurd (omega (arith, l))
among-entry (x ∷ xs) zero l = inl refl
among-entry (x ∷ xs) (suc i) l = inr (among-entry xs i (omega (arith, l)))

-- what stands at an index of a list that is marked is below the number of marks
pub entry-below : (n : ℕ) (xs : List ℕ) (marks : List Bool) (i : ℕ) → IsMarked n xs marks → i < length xs → get_or xs i 0 < n
entry-below n xs marks i m l = m.below (get_or xs i 0) (has-among (get_or xs i 0) xs (among-entry xs i l))

pub below-all : (n : ℕ) (xs : List ℕ) → AreBelow n xs → All (λ x. x < n) xs
below-all n xs h = all-of (λ x. x < n) xs (λ x a. h x (has-among x xs a))

-- the entries of so many of the types that were found were read
pub record WalksTo (p : Parts) (w : ℕ) (found : List ℕ) : Type 0 where
  pub before : List ℕ
  pub long : length before ≡ w
  pub is : IsWalked (map (shown_of p.kinds) (first_refs p)) (refs_shown p) (listed_of p) before found

module _ (p : Parts) (good : IsGood p) (prelude : HasPrelude p) where
  is-sound : IsSound p
  is-sound = sound p good prelude

  pub refs-within : (t : ℕ) → All (λ x. x < length p.kinds) (refs_of p.kinds (empty_of p) (kind_of p.kinds t))
  refs-within t = all-of (λ x. x < length p.kinds) _ (is-sound.refs t)

  pub firsts-within : All (λ x. x < length p.kinds) (first_refs p)
  firsts-within = all-of (λ x. x < length p.kinds) _ is-sound.firsts

  pub table-within : (shown : List ℕ) → Tells (shown_of p.kinds) (length p.kinds) shown → All (λ x. x < length p.kinds) shown
  table-within shown t i d l =
      let within : i < length p.kinds = subst (λ n. i < n) t.long l in
      subst (λ x. x < length p.kinds) (sym (same-entry shown i d 0 l ∙ t.each i within)) (shown-below p is-sound i within)

  pub shown-entry : (shown : List ℕ) (t : ℕ) → Tells (shown_of p.kinds) (length p.kinds) shown → t < length p.kinds → get_or shown t 0 < length p.kinds
  shown-entry shown t tells l = subst (λ x. x < length p.kinds) (sym (tells.each t l)) (shown-below p is-sound t l)

  told-in : (shown xs : List ℕ) → Tells (shown_of p.kinds) (length p.kinds) shown → All (λ x. x < length p.kinds) xs → map (λ x. get_or shown x 0) xs ≡ map (shown_of p.kinds) xs
  told-in shown xs t h = told-map (λ x. get_or shown x 0) (shown_of p.kinds) xs (λ i d l. t.each (get_or xs i d) (h i d l))

  pub refs-told : (shown : List ℕ) (t : ℕ) → Tells (shown_of p.kinds) (length p.kinds) shown → map (λ x. get_or shown x 0) (refs_of p.kinds (empty_of p) (kind_of p.kinds t)) ≡ refs_shown p t
  refs-told shown t tells = told-in shown _ tells (refs-within t)

  pub firsts-told : (shown : List ℕ) → Tells (shown_of p.kinds) (length p.kinds) shown → map (λ x. get_or shown x 0) (first_refs p) ≡ map (shown_of p.kinds) (first_refs p)
  firsts-told shown tells = told-in shown _ tells firsts-within

  pub walks-begin : (found : List ℕ) → found ≡ with_all [] (map (shown_of p.kinds) (first_refs p)) → WalksTo p 0 found
  walks-begin found e = record { before = []; long = refl; is = subst (λ l. IsWalked (map (shown_of p.kinds) (first_refs p)) (refs_shown p) (listed_of p) [] l) (sym e) (listed-walks p is-sound).begins }

  next-at : (before after : List ℕ) (w : ℕ) → length before ≡ w → w < length (before ++ after) → (rest : List ℕ) × (after ≡ get_or (before ++ after) w 0 ∷ rest)
  next-at [] [] w e l = absurd (omega (arith, l))
  next-at [] (x ∷ after) zero e l = (after, refl)
  next-at [] (x ∷ after) (suc w) e l = absurd (omega (arith, e))
  next-at (b ∷ before) after zero e l = absurd (omega (arith, e))
  next-at (b ∷ before) after (suc w) e l = next-at before after w (omega (arith, e)) (omega (arith, l))

  pub walks-on : (w t : ℕ) (old new : List ℕ) → WalksTo p w old → w < length old → t ≡ get_or old w 0 → new ≡ with_all old (refs_shown p t) → WalksTo p (w + 1) new
  walks-on w t old new s l is e =
      let n = next-at s.before s.is.after w s.long (subst (λ xs. w < length xs) s.is.places l) in
      let here : get_or (s.before ++ s.is.after) w 0 ≡ t = ap (λ xs. get_or xs w 0) (sym s.is.places) ∙ sym is in
      let same : old ≡ s.before ++ t ∷ n.0 = s.is.places ∙ ap (λ xs. s.before ++ xs) n.1 ∙ ap (λ x. s.before ++ x ∷ n.0) here in
      let First = map (shown_of p.kinds) (first_refs p) in
      let walked : IsWalked First (refs_shown p) (listed_of p) (s.before ++ t ∷ []) (with_all (s.before ++ t ∷ n.0) (refs_shown p t)) =
      (listed-walks p is-sound).goes s.before t n.0 (subst (λ xs. IsWalked First (refs_shown p) (listed_of p) s.before xs) same s.is) in
      record {
        before = s.before ++ t ∷ [];
        long = (let a = length-append s.before (t ∷ []) in let b = s.long in omega (arith, a, b));
        is = subst (λ xs. IsWalked First (refs_shown p) (listed_of p) (s.before ++ t ∷ []) xs) (ap (λ xs. with_all xs (refs_shown p t)) (sym same) ∙ sym e) walked;
      }

  nothing-after : (before after : List ℕ) (w : ℕ) → length before ≡ w → length (before ++ after) ≤ w → before ++ after ≡ before
  nothing-after before [] w e l = append-nil before
  nothing-after before (x ∷ after) w e l = absurd (let a = length-append before (x ∷ after) in omega (arith, a, e, l))

  pub walks-end : (w : ℕ) (found : List ℕ) → WalksTo p w found → length found ≤ w → found ≡ listed_of p
  walks-end w found s l =
      let all : found ≡ s.before = s.is.places ∙ nothing-after s.before s.is.after w s.long (subst (λ xs. length xs ≤ w) s.is.places l) in
      (listed-walks p is-sound).ends found (subst (λ xs. IsWalked (map (shown_of p.kinds) (first_refs p)) (refs_shown p) (listed_of p) xs found) (sym all) s.is)

  listed-few : length (listed_of p) ≤ length p.kinds
  unfolding listed_of
  listed-few = few (map (shown_of p.kinds) (first_refs p)) (refs_shown p) (length p.kinds) (length p.kinds) (first-below p is-sound) (refs-below p is-sound)

  -- no more are found than there are types
  pub walks-few : (w : ℕ) (found : List ℕ) → WalksTo p w found → length found ≤ length p.kinds
  walks-few w found s = let a = length-append found s.is.rest in let b = ap length s.is.ahead in let c = listed-few in omega (arith, a, b, c)

  pub refs-added : (shown numbers old new : List ℕ) (t : ℕ) → Tells (shown_of p.kinds) (length p.kinds) shown → numbers ≡ refs_of p.kinds (empty_of p) (kind_of p.kinds t) →
      new ≡ with_all old (map (λ x. get_or shown x 0) numbers) → new ≡ with_all old (refs_shown p t)
  refs-added shown numbers old new t tells is now = now ∙ ap (λ xs. with_all old (map (λ x. get_or shown x 0) xs)) is ∙ ap (with_all old) (refs-told shown t tells)

  pub firsts-added : (shown numbers old new : List ℕ) → Tells (shown_of p.kinds) (length p.kinds) shown → numbers ≡ first_refs p → old ≡ [] →
      new ≡ with_all old (map (λ x. get_or shown x 0) numbers) → new ≡ with_all [] (map (shown_of p.kinds) (first_refs p))
  firsts-added shown numbers old new tells is nothing now =
      now ∙ ap (λ xs. with_all xs (map (λ x. get_or shown x 0) numbers)) nothing ∙ ap (λ xs. with_all [] (map (λ x. get_or shown x 0) xs)) is ∙ ap (with_all []) (firsts-told shown tells)

  pub firsts-in : (numbers : List ℕ) (n : ℕ) → numbers ≡ first_refs p → n ≡ length p.kinds → All (λ x. x < n) numbers
  firsts-in numbers n is long = subst (λ n. All (λ x. x < n) numbers) (sym long) (subst (λ xs. All (λ x. x < length p.kinds) xs) (sym is) firsts-within)

  pub numbered-is : (found listed : List ℕ) → listed ≡ listed_of p → found ≡ with_all [] (filter (is_numbered p.kinds) (map (inner_of p.kinds) listed)) → found ≡ numbered_of p
  unfolding numbered_of
  numbered-is found listed is now = now ∙ ap (λ xs. with_all [] (filter (is_numbered p.kinds) (map (inner_of p.kinds) xs))) is

  pub numbered-small : (found : List ℕ) → found ≡ numbered_of p → length found < 2 ^ 32
  numbered-small found is = let few = numbered-few p is-sound in let l = ap length is in let types : length p.kinds < 2 ^ 32 = good.counts.types in omega (arith, few, l, types)

-- one more of the types named by numbers, or another
numbered-step : (b : Bool) (x : ℕ) (seen : List ℕ) → with_all seen (cond b (x ∷ []) []) ≡ cond b (with_new seen x) seen
numbered-step true x seen = refl
numbered-step false x seen = refl

filter-end : (test : ℕ → Bool) (xs : List ℕ) (x : ℕ) → filter test (xs ++ x ∷ []) ≡ filter test xs ++ cond (test x) (x ∷ []) []
filter-end test [] x = refl
filter-end test (y ∷ xs) x = grind (arith, common_steps, filter-end test xs x)

pub numbered-more : (table : List Kind) (listed found new : List ℕ) (i inner : ℕ) → i < length listed → inner ≡ inner_of table (get_or listed i 0) →
    found ≡ with_all [] (filter (is_numbered table) (map (inner_of table) (take i listed))) → new ≡ cond (is_numbered table inner) (with_new found inner) found →
    new ≡ with_all [] (filter (is_numbered table) (map (inner_of table) (take (i + 1) listed)))
numbered-more table listed found new i inner l is before now =
    let test = is_numbered table in
    let f = inner_of table in
    let x = get_or listed i 0 in
    now ∙ ap (λ (l : List ℕ). cond (test inner) (with_new l inner) l) before ∙ ap (λ (y : ℕ). cond (test y) (with_new (with_all [] (filter test (map f (take i listed)))) y) (with_all [] (filter test (map f (take i listed))))) is
    ∙ sym (numbered-step (test (f x)) (f x) (with_all [] (filter test (map f (take i listed)))))
    ∙ sym (all-append [] (filter test (map f (take i listed))) (cond (test (f x)) (f x ∷ []) []))
    ∙ ap (with_all []) (sym (ap (filter test) (ap (map f) (taken listed i 0 l) ∙ map-append f (take i listed) (x ∷ [])) ∙ filter-end test (map f (take i listed)) (f x)))

inner-in : (table : List Kind) (t : ℕ) (element : Option ℕ) → All (RefersBelow (length table)) table → t < length table → element_of (kind_of table t) ≡ element → inner_in table t element < length table
inner-in table t None h l is = l
inner-in table t (Some e) h l is = base-below table e (element-below table t e h l is)

pub inner-within : (table : List Kind) (t : ℕ) → All (RefersBelow (length table)) table → t < length table → inner_of table t < length table
inner-within table t h l = inner-in table t (element_of (kind_of table t)) h l refl

pub base-entry : (table : List Kind) (bases : List ℕ) (e : ℕ) → Tells (base_of table) (length table) bases → e < length table → get_or bases e 0 < length table
base-entry table bases e t l = subst (λ x. x < length table) (sym (t.each e l)) (base-below table e l)
