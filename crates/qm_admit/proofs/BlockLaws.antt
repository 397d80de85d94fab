-- Given members are found by the positions of their names in a type.
use Rattle.std.proofs.Common.{◌≡◌, ◌<◌, ◌≤◌, ◌+◌, ◌-◌, ℕ, zero, suc, Bool, true, false, cond, List, [], ◌∷◌, map, length, drop, get_or, Option, Some, None, IfSome, position, refl, ap, sym, ◌∙◌, subst, arith, bytes_eq}
use Rattle.std.specs.List.{position_from}
use Rattle.std.proofs.lemmas.{Slice.Eq.bytes_eq-Decides, Bool.Decides.nat_tests}
use Rattle.std.proofs.lemmas.List.{length-map, length-set, drop_all, get_or-set_same, get_or-set_other, get_or-map}
use Rattle.std.proofs.lemmas.List.Quantifiers.{position-Some}
use Rattle.qm_json.specs.declared.value.{Member.Member}
use Rattle.qapi_types.specs.declared.{kind.MemberDef.MemberDef, parts.Parts.Parts}
use Rattle.qapi_types.specs.{Choices.AreApart, Choices.times, Choices.names_of, Choices.stays, Goodness.IsGood, Lookups.place_of}
use Rattle.qapi_types.specs.Types.{kind_of, member_names}
use Rattle.qapi_types.proofs.{ChoiceLaws.itself, FaultLaws.names-at}
use Rattle.qm_admit.specs.Blocks.{ArePlaced, Covers, noted, slot_of}
use Rattle.qm_admit.specs.Walks.{place_of_name}
use Rattle.qm_admit.proofs.Positions.{front, from-zero, position-within}

-- a type's members have names of their own
pub names-apart : (p : Parts) → IsGood p → (t : ℕ) → t < length p.kinds → AreApart (member_names (kind_of p.kinds t))
names-apart p g t l = subst AreApart (names-at p.kinds t) (g.choices t (let n : length (map member_names p.kinds) ≡ length p.kinds = length-map p.kinds member_names in omega (arith, n, l)) (names_of (map member_names p.kinds) t) (stays t))

times-at : (names : List (List ℕ)) (j : ℕ) → j < length names → 1 ≤ times (get_or names j []) names
times-at [] j l = absurd (omega arith)
times-at (y ∷ ys) zero l = subst (λ (b : Bool). 1 ≤ cond b 1 0 + times y ys) (sym (itself y)) (omega arith)
times-at (y ∷ ys) (suc j) l = let h : 1 ≤ times (get_or ys j []) ys = times-at ys j (omega arith) in omega (arith, h)

rest-apart : (y : List ℕ) (ys : List (List ℕ)) → AreApart (y ∷ ys) → AreApart ys
rest-apart y ys a x = let h : times x (y ∷ ys) ≤ 1 = a x in omega (arith, h)

apart-head : (y : List ℕ) (ys : List (List ℕ)) (i : ℕ) → AreApart (y ∷ ys) → i < length ys → y ≡ get_or ys i [] → ⊥
apart-head y ys i a l e =
    let h : 1 ≤ times y ys = subst (λ (x : List ℕ). 1 ≤ times x ys) (sym e) (times-at ys i l) in
    let k : 1 + times y ys ≤ 1 = subst (λ (b : Bool). cond b 1 0 + times y ys ≤ 1) (itself y) (a y) in
    absurd (omega (arith, h, k))

-- a name is found where it stands
hits-from : (names : List (List ℕ)) (i base : ℕ) (name : List ℕ) → AreApart names → i < length names → get_or names i [] ≡ name → position_from (bytes_eq name) base names ≡ Some (base + i)
hits-from [] i base name a l e = absurd (omega arith)
hits-from (y ∷ ys) zero base name a l e = ap (λ (b : Bool). cond b (Some base) (position_from (bytes_eq name) (base + 1) ys)) ((bytes_eq-Decides name y).1 (sym e)) ∙ ap Some (omega arith)
hits-from (y ∷ ys) (suc i) base name a l e = by_case (bytes_eq name y) refl (hits-from ys i (base + 1) name (rest-apart y ys a) (omega arith) e)
  where
    by_case : (b : Bool) → bytes_eq name y ≡ b → position_from (bytes_eq name) (base + 1) ys ≡ Some ((base + 1) + i) → cond b (Some base) (position_from (bytes_eq name) (base + 1) ys) ≡ Some (base + suc i)
    by_case true t go = absurd (apart-head y ys i a (omega arith) (sym ((bytes_eq-Decides name y).0 t) ∙ sym e))
    by_case false t go = go ∙ ap Some (omega arith)

hits : (names : List (List ℕ)) (i : ℕ) (name : List ℕ) → AreApart names → i < length names → get_or names i [] ≡ name → place_of names name ≡ Some i
hits names i name a l e = (let z : 0 + i ≡ i = omega arith in from-zero (bytes_eq name) names ∙ hits-from names i 0 name a l e ∙ ap Some z)

slot-found : (start k : ℕ) → k < 256 → slot_of start (Some (start + k)) ≡ Some k
slot-found start k l = grind (arith, nat_tests)

slot-back : (start j : ℕ) (o : Option ℕ) → slot_of start o ≡ Some j → o ≡ Some (start + j)
slot-back start j None e = absurd cc
slot-back start j (Some p) e = ap Some (grind (arith, nat_tests))

-- where the name of the slot is that of a member
slot-name : (names : List (List ℕ)) (start j : ℕ) (name : List ℕ) → slot_of start (place_of names name) ≡ Some j → name ≡ get_or names (start + j) []
slot-name names start j name e = (bytes_eq-Decides name (get_or names (start + j) [])).0 (position-Some (bytes_eq name) names (start + j) [] (slot-back start j (place_of names name) e)).1

-- what the places say of the given members from the i-th on
abbrev pub Kept : List Member → List (List ℕ) → ℕ → List (Option ℕ) → ℕ → Type 0
Kept given names start places i = (k : ℕ) → k < 256 → start + k < length names → get_or places k None ≡ position_from (λ (m : Member). bytes_eq m.name (get_or names (start + k) [])) i (drop i given)

note-one : (names : List (List ℕ)) (start i k : ℕ) (x : Member) (slot rest : Option ℕ) (old new : List (Option ℕ)) → AreApart names → k < 256 → start + k < length names → slot ≡ slot_of start (place_of names x.name) → length old ≡ 256 → new ≡ noted old slot i →
    get_or old k None ≡ rest → (b : Bool) → bytes_eq x.name (get_or names (start + k) []) ≡ b → get_or new k None ≡ cond b (Some i) rest
note-one names start i k x slot rest old new a l m s long n kept true t =
    let hit : slot ≡ Some k = s ∙ ap (slot_of start) (hits names (start + k) x.name a m (sym ((bytes_eq-Decides x.name (get_or names (start + k) [])).0 t))) ∙ slot-found start k l in
    ap (λ (l : List (Option ℕ)). get_or l k None) (n ∙ ap (λ (o : Option ℕ). noted old o i) hit) ∙ get_or-set_same old k (Some i) None (omega (arith, long, l))
note-one names start i k x None rest old new a l m s long n kept false f = ap (λ (l : List (Option ℕ)). get_or l k None) n ∙ kept
note-one names start i k x (Some j) rest old new a l m s long n kept false f = ap (λ (l : List (Option ℕ)). get_or l k None) n ∙ get_or-set_other old j k (Some i) None (λ (e : k ≡ j). other e) ∙ kept
  where
    other : k ≡ j → ⊥
    other e = (let same : bytes_eq x.name (get_or names (start + k) []) ≡ true = (bytes_eq-Decides x.name (get_or names (start + k) [])).1 (slot-name names start j x.name (sym s) ∙ ap (λ (i : ℕ). get_or names (start + i) []) (sym e)) in let z : true ≡ false = sym same ∙ f in cc)

pub note-keeps : (given : List Member) (names : List (List ℕ)) (start j i : ℕ) (x : Member) (slot : Option ℕ) (old new : List (Option ℕ)) → AreApart names → 0 < j → i ≡ j - 1 → j ≤ length given → x ≡ get_or given i x → slot ≡ slot_of start (place_of names x.name) →
    length old ≡ 256 → new ≡ noted old slot i → Kept given names start old j → Kept given names start new i
note-keeps given names start j i x slot old new a p d within is s long n kept k l m =
    let e : j ≡ i + 1 = omega arith in
    note-one names start i k x slot (position_from (λ (m : Member). bytes_eq m.name (get_or names (start + k) [])) (i + 1) (drop (i + 1) given)) old new a l m s long n
    (kept k l m ∙ ap (λ (j : ℕ). position_from (λ (m : Member). bytes_eq m.name (get_or names (start + k) [])) j (drop j given)) e) (bytes_eq x.name (get_or names (start + k) [])) refl
    ∙ sym (ap (position_from (λ (m : Member). bytes_eq m.name (get_or names (start + k) [])) i) (front given i x (omega arith) is))

pub noted-long : (old new : List (Option ℕ)) (slot : Option ℕ) (i : ℕ) → length old ≡ 256 → new ≡ noted old slot i → length new ≡ 256
noted-long old new None i l n = ap length n ∙ l
noted-long old new (Some k) i l n = ap length n ∙ length-set old k (Some i) ∙ l

pub none-kept : (given : List Member) (names : List (List ℕ)) (start : ℕ) (places : List (Option ℕ)) → ((k : ℕ) → k < 256 → get_or places k None ≡ None) → Kept given names start places (length given)
none-kept given names start places h k l m = h k l ∙ sym (ap (position_from (λ (m : Member). bytes_eq m.name (get_or names (start + k) [])) (length given)) (drop_all (length given) given (omega arith)))

pub all-kept : (given : List Member) (names : List (List ℕ)) (start i : ℕ) (places : List (Option ℕ)) → i ≤ 0 → length places ≡ 256 → Kept given names start places i → ArePlaced given names start places
all-kept given names start i places z long kept = record { long = long; each = λ k l m. kept k l m ∙ ap (λ (i : ℕ). position_from (λ (x : Member). bytes_eq x.name (get_or names (start + k) [])) i (drop i given)) (at-zero i z) }
  where
    at-zero : (i : ℕ) → i ≤ 0 → i ≡ 0
    at-zero i z = omega arith

-- the place of one that is covered
pub covered-place : (given : List Member) (names : List (List ℕ)) (start position : ℕ) (places : List (Option ℕ)) (answer : Option ℕ) → ArePlaced given names start places → Covers start position → position < length names →
    answer ≡ get_or places (position - start) None → answer ≡ place_of_name given (get_or names position [])
covered-place given names start position places answer a c l e =
    let s : start + (position - start) ≡ position = back start position c.from in
    e ∙ a.each (position - start) (near start position c) (subst (λ n. n < length names) (sym s) l) ∙ ap (λ n. place_of_name given (get_or names n [])) s
  where
    back : (start position : ℕ) → start ≤ position → start + (position - start) ≡ position
    back start position l = omega arith

    near : (start position : ℕ) → Covers start position → position - start < 256
    near start position c = omega (arith, c.from, c.below)

pub place-within : (given : List Member) (name : List ℕ) (answer : Option ℕ) → answer ≡ place_of_name given name → IfSome answer (λ i. i < length given)
place-within given name answer e = position-within (λ (m : Member). bytes_eq m.name name) given answer (e ∙ sym (from-zero (λ (m : Member). bytes_eq m.name name) given))

-- the name of a type's member at its position
own-name : (ms : List MemberDef) (i : ℕ) (m : MemberDef) → i < length ms → m ≡ get_or ms i m → get_or (map (λ (m : MemberDef). m.name) ms) i [] ≡ m.name
own-name ms i m l e = get_or-map (λ (m : MemberDef). m.name) ms i m [] l ∙ sym (ap (λ (m : MemberDef). m.name) e)

pub own-place : (given : List Member) (ms own : List MemberDef) (i : ℕ) (m : MemberDef) (answer : Option ℕ) → ms ≡ own → i < length ms → m ≡ get_or ms i m → answer ≡ place_of_name given (get_or (map (λ (m : MemberDef). m.name) own) i []) → answer ≡ place_of_name given m.name
own-place given ms own i m answer e l is a = a ∙ ap (λ (ms : List MemberDef). place_of_name given (get_or (map (λ (m : MemberDef). m.name) ms) i [])) (sym e) ∙ ap (place_of_name given) (own-name ms i m l is)
