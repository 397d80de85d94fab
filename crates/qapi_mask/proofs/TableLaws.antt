-- Tables by the numbers of types, entry by entry.
use Rattle.std.proofs.Common.{◌≡◌, ◌<◌, ◌+◌, ℕ, zero, suc, Bool, true, false, cond, List, [], ◌∷◌, ◌++◌, length, map, drop, get_or, set, replicate, refl, sym, ap, ◌∙◌, subst, arith, Option, Some, None}
use Rattle.std.specs.Prelude.{◌==◌, find, option_map}
use Rattle.std.specs.Option.{unwrap_or}
use Rattle.std.proofs.lemmas.{Grind.common_steps, List.drop_more, List.drop_all}
use Rattle.qapi_types.specs.declared.kind.{Branch.Branch, Kind.Kind, MemberDef.MemberDef, ValueDef.ValueDef}
use Rattle.qapi_types.specs.Types.{branches_of, tag_member, tag_values, values_at}
use Rattle.qm_admit.specs.Tags.{Case, cases_from, tag_of}
use Rattle.qapi_mask.specs.{Entries.refs_of_tag, Naming.place_of, Tables.Tells, Tables.type_at}

-- a table with one entry more
pub tells-more : (f : ℕ → ℕ) (n y : ℕ) (xs : List ℕ) → Tells f n xs → y ≡ f n → Tells f (n + 1) (xs ++ y ∷ [])
tells-more f n y xs t e = record {
  long = grind (arith, common_steps, t.long);
  each = λ u l. grind (arith, common_steps, t.long, t.each u, e);
}

pub tells-none : (f : ℕ → ℕ) → Tells f 0 []
tells-none f = record { long = refl; each = λ u l. absurd (omega arith) }

-- the same table for a function with the same values
pub tells-same : (f g : ℕ → ℕ) (n : ℕ) (xs : List ℕ) → ((t : ℕ) → t < n → f t ≡ g t) → Tells f n xs → Tells g n xs
tells-same f g n xs same t = record { long = t.long; each = λ u l. t.each u l ∙ same u l }

-- the table of what stands first from an index on is filled from the last entry to the first
abbrev pub first_from : {X : Type 0} → (ℕ → X → Bool) → List X → ℕ → ℕ → ℕ
first_from test xs left b = left + place_of (test b) (drop left xs)

pub fill-none : {X : Type 0} (test : ℕ → X → Bool) (xs : List X) (n : ℕ) → Tells (first_from test xs (length xs)) n (replicate n (length xs))
fill-none test xs n = record { long = grind (arith, common_steps); each = λ u l. grind (arith, common_steps, drop_all (length xs) xs) }

front : {X : Type 0} (xs : List X) (left : ℕ) (x d : X) → left < length xs → x ≡ get_or xs left d → drop left xs ≡ x ∷ drop (left + 1) xs
front xs left x d l e = drop_more xs left d l ∙ ap (λ y. y ∷ drop (left + 1) xs) (sym e)

at-front : {X : Type 0} (test : ℕ → X → Bool) (xs : List X) (left : ℕ) (x d : X) (b : ℕ) → left < length xs → x ≡ get_or xs left d →
    first_from test xs left b ≡ cond (test b x) left (first_from test xs (left + 1) b)
at-front test xs left x d b l e = ap (λ ys. left + place_of (test b) ys) (front xs left x d l e) ∙ chosen (test b x)
  where
    chosen : (is : Bool) → left + cond is zero (suc (place_of (test b) (drop (left + 1) xs))) ≡ cond is left (left + 1 + place_of (test b) (drop (left + 1) xs))
    chosen true = omega arith
    chosen false = omega arith

pub fill-skip : {X : Type 0} (test : ℕ → X → Bool) (xs : List X) (n left : ℕ) (x d : X) (list : List ℕ) → left < length xs → x ≡ get_or xs left d → ((b : ℕ) → test b x ≡ false) →
    Tells (first_from test xs (left + 1)) n list → Tells (first_from test xs left) n list
fill-skip test xs n left x d list l e h t = record { long = t.long; each = λ b m. t.each b m ∙ sym (at-front test xs left x d b l e ∙ ap (λ is. cond is left (first_from test xs (left + 1) b)) (h b)) }

pub fill-set : {X : Type 0} (test : ℕ → X → Bool) (xs : List X) (n left c : ℕ) (x d : X) (list : List ℕ) → left < length xs → x ≡ get_or xs left d → ((b : ℕ) → test b x ≡ (c == b)) →
    Tells (first_from test xs (left + 1)) n list → Tells (first_from test xs left) n (set list c left)
fill-set test xs n left c x d list l e is t = record { long = grind (arith, common_steps, t.long); each = λ b m. value b m (c == b) refl ∙ sym (at-front test xs left x d b l e ∙ ap (λ is. cond is left (first_from test xs (left + 1) b)) (is b)) }
  where
    value : (b : ℕ) → b < n → (same : Bool) → (c == b) ≡ same → get_or (set list c left) b 0 ≡ cond (c == b) left (first_from test xs (left + 1) b)
    value b m true s = grind (arith, common_steps, t.long, s)
    value b m false s = grind (arith, common_steps, t.long, t.each b m, s)

pub fill-all : {X : Type 0} (test : ℕ → X → Bool) (xs : List X) (n : ℕ) (list : List ℕ) → Tells (first_from test xs 0) n list → Tells (λ b. place_of (test b) xs) n list
fill-all test xs n list t = tells-same (first_from test xs 0) (λ b. place_of (test b) xs) n list (λ b l. omega arith) t

-- the type of each value's branch is filled in the same way
abbrev pub types_from : List Branch → ℕ → ℕ → ℕ → ℕ
types_from branches empty left p = type_at (drop left branches) empty p

pub types-none : (branches : List Branch) (empty n : ℕ) → Tells (types_from branches empty (length branches)) n (replicate n empty)
types-none branches empty n = record { long = grind (arith, common_steps); each = λ u l. grind (arith, common_steps, drop_all (length branches) branches) }

type-front : (b : Branch) (branches : List Branch) (empty p : ℕ) → type_at (b ∷ branches) empty p ≡ cond (b.value == p) b.type_id (type_at branches empty p)
type-front b branches empty p = chosen (b.value == p)
  where
    chosen : (is : Bool) → unwrap_or (option_map (λ (b : Branch). b.type_id) (cond is (Some b) (find (λ (b : Branch). b.value == p) branches))) empty ≡ cond is b.type_id (type_at branches empty p)
    chosen true = refl
    chosen false = refl

pub types-set : (branches : List Branch) (empty n left : ℕ) (b : Branch) (list : List ℕ) → left < length branches → b ≡ get_or branches left b →
    Tells (types_from branches empty (left + 1)) n list → Tells (types_from branches empty left) n (set list b.value b.type_id)
types-set branches empty n left b list l e t = record { long = grind (arith, common_steps, t.long); each = λ p m. value p m (b.value == p) refl ∙ sym (ap (λ bs. type_at bs empty p) (front branches left b b l e) ∙ type-front b (drop (left + 1) branches) empty p) }
  where
    value : (p : ℕ) → p < n → (same : Bool) → (b.value == p) ≡ same → get_or (set list b.value b.type_id) p 0 ≡ cond (b.value == p) b.type_id (types_from branches empty (left + 1) p)
    value p m true s = grind (arith, common_steps, t.long, s)
    value p m false s = grind (arith, common_steps, t.long, t.each p m, s)

-- a table of the types that the cases of a tag bring is their list
same-list : (xs ys : List ℕ) → length xs ≡ length ys → ((i : ℕ) → i < length ys → get_or xs i 0 ≡ get_or ys i 0) → xs ≡ ys
same-list [] [] l h = refl
same-list [] (y ∷ ys) l h = cc
same-list (x ∷ xs) [] l h = cc
same-list (x ∷ xs) (y ∷ ys) l h = (λ k. h 0 (omega arith) k ∷ same-list xs ys (omega (arith, l)) (λ i m. h (suc i) (omega (arith, m))) k)

case-type : (branches : List Branch) (empty p : ℕ) (values : List ValueDef) (i : ℕ) → i < length values →
    get_or (map (λ (c : Case). unwrap_or c.branch empty) (cases_from branches p values)) i 0 ≡ type_at branches empty (p + i)
case-type branches empty p [] i l = absurd (omega arith)
case-type branches empty p (v ∷ values) zero l = ap (type_at branches empty) (omega arith)
case-type branches empty p (v ∷ values) (suc i) l = case-type branches empty (p + 1) values i (omega (arith, l)) ∙ ap (type_at branches empty) (omega arith)

pub cases-long : (branches : List Branch) (empty p : ℕ) (values : List ValueDef) → length (map (λ (c : Case). unwrap_or c.branch empty) (cases_from branches p values)) ≡ length values
cases-long branches empty p [] = refl
cases-long branches empty p (v ∷ values) = ap suc (cases-long branches empty (p + 1) values)

pub cases-told : (branches : List Branch) (empty : ℕ) (values : List ValueDef) (list : List ℕ) → Tells (type_at branches empty) (length values) list →
    list ≡ map (λ (c : Case). unwrap_or c.branch empty) (cases_from branches 0 values)
cases-told branches empty values list t = same-list list _ (t.long ∙ sym (cases-long branches empty 0 values))
    (λ i l. let within : i < length values = subst (λ n. i < n) (cases-long branches empty 0 values) l in
    t.each i within ∙ sym (case-type branches empty 0 values i within ∙ ap (type_at branches empty) (omega arith)))

nothing-told : (f : ℕ → ℕ) (list : List ℕ) → Tells f 0 list → list ≡ []
nothing-told f [] t = refl
nothing-told f (x ∷ list) t = (let l = t.long in absurd (omega (arith, l)))

refs-of-tag : (table : List Kind) (kind : Kind) (empty : ℕ) (tag : Option MemberDef) (list : List ℕ) → tag_member kind ≡ tag → Tells (type_at (branches_of kind) empty) (length (values_at table tag)) list →
    list ≡ refs_of_tag empty (option_map (λ (m : MemberDef). record { name = m.name; cases = cases_from (branches_of kind) 0 (values_at table tag) }) tag)
refs-of-tag table kind empty None list e t = nothing-told _ list t
refs-of-tag table kind empty (Some m) list e t = cases-told (branches_of kind) empty (values_at table (Some m)) list t

-- the same of a type's tag
pub variants-told : (table : List Kind) (kind : Kind) (empty : ℕ) (list : List ℕ) → Tells (type_at (branches_of kind) empty) (length (tag_values table kind)) list → list ≡ refs_of_tag empty (tag_of table kind)
variants-told table kind empty list t = refs-of-tag table kind empty (tag_member kind) list refl t ∙ same (tag_member kind) refl
  where
    same : (tag : Option MemberDef) → tag_member kind ≡ tag →
        refs_of_tag empty (option_map (λ (m : MemberDef). record { name = m.name; cases = cases_from (branches_of kind) 0 (values_at table tag) }) tag)
        ≡ refs_of_tag empty (option_map (λ (m : MemberDef). record { name = m.name; cases = cases_from (branches_of kind) 0 (tag_values table kind) }) tag)
    same tag e = ap (λ (o : Option MemberDef). refs_of_tag empty (option_map (λ (m : MemberDef). record { name = m.name; cases = cases_from (branches_of kind) 0 (values_at table o) }) tag)) (sym e)
