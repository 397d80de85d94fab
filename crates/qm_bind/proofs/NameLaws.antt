-- Sets of names, and names that stand twice.
use Rattle.std.proofs.Common.{◌≡◌, ◌<◌, ◌≤◌, ◌+◌, ◌||◌, ℕ, Bool, true, false, not, cond, List, [], ◌∷◌, ◌++◌, take, drop, length, get_or, Option, Some, None, is_some, position, refl, sym, ap, ◌∙◌, subst, add-one, drop-cons, bytes_eq}
use Rattle.std.specs.List.{cons_option, list_any, position_from}
use Rattle.std.proofs.lemmas.{Iterator.Adapters.position_from-zero, List.append-nil, List.append_assoc, List.map-append, List.take_more, List.take_all, List.drop_all, List.Elements.filter_map-append, List.Folds.list_any-append}
use Rattle.qm_json.specs.declared.value.{Json.Json, Member.Member}
use Rattle.qapi_types.specs.{Choices.again, Choices.stands, Sets.AddsName, Sets.HasNames}
use Rattle.qm_bind.specs.{Faults.member_names, Grammar.text_of, Parts.names_of}

or-false : (b : Bool) → (b || false) ≡ b
or-false true = refl
or-false false = refl

one : (names : List (List ℕ)) (x y : List ℕ) → stands y (names ++ x ∷ []) ≡ (stands y names || bytes_eq y x)
one names x y = list_any-append (bytes_eq y) names (x ∷ []) ∙ ap (λ (b : Bool). stands y names || b) (or-false (bytes_eq y x))

-- one more name
pub has-more : (set new names : List (List ℕ)) (x : List ℕ) (is_new : Bool) → HasNames set names → AddsName set x is_new new → HasNames new (names ++ x ∷ [])
has-more set new names x is_new h a = λ y. a.names y ∙ ap (λ (b : Bool). b || bytes_eq y x) (h y) ∙ sym (one names x y)

-- items up to one and from it on
pub upto : {X : Type 0} (xs : List X) (i : ℕ) (x : X) → i < length xs → x ≡ get_or xs i x → take (i + 1) xs ≡ take i xs ++ x ∷ []
upto {X} xs i x l at = take_more xs i x l ∙ ap (λ (z : X). take i xs ++ z ∷ []) (sym at)

pub from : {X : Type 0} (xs : List X) (i : ℕ) (x : X) → i < length xs → x ≡ get_or xs i x → drop i xs ≡ x ∷ drop (i + 1) xs
from xs i x l at = drop-cons xs i x l ∙ (λ j. sym at j ∷ drop (sym (add-one i) j) xs)

member-upto : (members : List Member) (i : ℕ) (m : Member) → i < length members → m ≡ get_or members i m → member_names (take (i + 1) members) ≡ member_names (take i members) ++ m.name ∷ []
member-upto members i m l at = ap member_names (upto members i m l at) ∙ map-append (λ (m : Member). m.name) (take i members) (m ∷ [])

pub member-more : (set new : List (List ℕ)) (members : List Member) (i : ℕ) (m : Member) (is_new : Bool) → i < length members → m ≡ get_or members i m → HasNames set (member_names (take i members)) → AddsName set m.name is_new new → HasNames new (member_names (take (i + 1) members))
member-more set new members i m is_new l at h a = subst (HasNames new) (sym (member-upto members i m l at)) (has-more set new (member_names (take i members)) m.name is_new h a)

pub member-all : (set : List (List ℕ)) (members : List Member) (i : ℕ) → length members ≤ i → HasNames set (member_names (take i members)) → HasNames set (member_names members)
member-all set members i l h = subst (λ (ms : List Member). HasNames set (member_names ms)) (take_all i members l) h

text-some : (items : List Json) (i : ℕ) (v : Json) (text : List ℕ) → i < length items → v ≡ get_or items i v → text_of v ≡ Some text → names_of (take (i + 1) items) ≡ names_of (take i items) ++ text ∷ []
text-some items i v text l at is = ap names_of (upto items i v l at) ∙ filter_map-append text_of (take i items) (v ∷ []) ∙ ap (λ (o : Option (List ℕ)). names_of (take i items) ++ cons_option o []) is

pub text-none : (items : List Json) (i : ℕ) (v : Json) → i < length items → v ≡ get_or items i v → text_of v ≡ None → names_of (take (i + 1) items) ≡ names_of (take i items)
text-none items i v l at is = ap names_of (upto items i v l at) ∙ filter_map-append text_of (take i items) (v ∷ []) ∙ ap (λ (o : Option (List ℕ)). names_of (take i items) ++ cons_option o []) is ∙ append-nil (names_of (take i items))

pub text-more : (set new : List (List ℕ)) (items : List Json) (i : ℕ) (v : Json) (text : List ℕ) (is_new : Bool) → i < length items → v ≡ get_or items i v → text_of v ≡ Some text → HasNames set (names_of (take i items)) → AddsName set text is_new new → HasNames new (names_of (take (i + 1) items))
text-more set new items i v text is_new l at is h a = subst (HasNames new) (sym (text-some items i v text l at is)) (has-more set new (names_of (take i items)) text is_new h a)

pub text-same : (set : List (List ℕ)) (items : List Json) (i : ℕ) (v : Json) → i < length items → v ≡ get_or items i v → text_of v ≡ None → HasNames set (names_of (take i items)) → HasNames set (names_of (take (i + 1) items))
text-same set items i v l at is h = subst (HasNames set) (sym (text-none items i v l at is)) h

pub text-all : (set : List (List ℕ)) (items : List Json) (i : ℕ) → length items ≤ i → HasNames set (names_of (take i items)) → HasNames set (names_of items)
text-all set items i l h = subst (λ (vs : List Json). HasNames set (names_of vs)) (take_all i items l) h

pub pushed-some : (items : List Json) (i : ℕ) (v : Json) (text : List ℕ) (made more : List (List ℕ)) → i < length items → v ≡ get_or items i v → text_of v ≡ Some text → made ≡ names_of (take i items) → more ≡ made ++ text ∷ [] → more ≡ names_of (take (i + 1) items)
pushed-some items i v text made more l at is h e = e ∙ ap (λ (ns : List (List ℕ)). ns ++ text ∷ []) h ∙ sym (text-some items i v text l at is)

-- names that were looked at, of which none stands twice
pub record Seen (before : List (List ℕ)) (items : List Json) (i : ℕ) (set : List (List ℕ)) : Type 0 where
  pub names : HasNames set (before ++ names_of (take i items))
  pub rest : again before (names_of items) ≡ again (before ++ names_of (take i items)) (names_of (drop i items))

pub seen-none : (before : List (List ℕ)) (items : List Json) (set : List (List ℕ)) → HasNames set before → Seen before items 0 set
seen-none before items set h = record { names = subst (HasNames set) (sym (append-nil before)) h; rest = ap (λ (ns : List (List ℕ)). again ns (names_of items)) (sym (append-nil before)) }

seen-rest : (items : List Json) (i : ℕ) (v : Json) → i < length items → v ≡ get_or items i v → names_of (drop i items) ≡ cons_option (text_of v) (names_of (drop (i + 1) items))
seen-rest items i v l at = ap names_of (from items i v l at)

pub seen-same : (before : List (List ℕ)) (items : List Json) (i : ℕ) (set : List (List ℕ)) (v : Json) → i < length items → v ≡ get_or items i v → text_of v ≡ None → Seen before items i set → Seen before items (i + 1) set
seen-same before items i set v l at is s = record {
  names = subst (λ (ns : List (List ℕ)). HasNames set (before ++ ns)) (sym (text-none items i v l at is)) s.names;
  rest = s.rest ∙ ap (λ (ns : List (List ℕ)). again (before ++ names_of (take i items)) ns) (seen-rest items i v l at ∙ ap (λ (o : Option (List ℕ)). cons_option o (names_of (drop (i + 1) items))) is)
      ∙ ap (λ (ns : List (List ℕ)). again (before ++ ns) (names_of (drop (i + 1) items))) (sym (text-none items i v l at is));
}

seen-next : (before : List (List ℕ)) (items : List Json) (i : ℕ) (set : List (List ℕ)) (v : Json) (text : List ℕ) → i < length items → v ≡ get_or items i v → text_of v ≡ Some text → Seen before items i set →
    again before (names_of items) ≡ cond (stands text set) (Some text) (again ((before ++ names_of (take i items)) ++ text ∷ []) (names_of (drop (i + 1) items)))
seen-next before items i set v text l at is s =
    s.rest ∙ ap (λ (ns : List (List ℕ)). again (before ++ names_of (take i items)) ns) (seen-rest items i v l at ∙ ap (λ (o : Option (List ℕ)). cons_option o (names_of (drop (i + 1) items))) is)
    ∙ ap (λ (b : Bool). cond b (Some text) (again ((before ++ names_of (take i items)) ++ text ∷ []) (names_of (drop (i + 1) items)))) (sym (s.names text))

was-new : (b : Bool) → true ≡ not b → b ≡ false
was-new true h = cc
was-new false h = refl

was-old : (b : Bool) → false ≡ not b → b ≡ true
was-old true h = refl
was-old false h = cc

pub seen-more : (before : List (List ℕ)) (items : List Json) (i : ℕ) (set new : List (List ℕ)) (v : Json) (text : List ℕ) (is_new : Bool) → i < length items → v ≡ get_or items i v → text_of v ≡ Some text → is_new ≡ true → AddsName set text is_new new → Seen before items i set → Seen before items (i + 1) new
seen-more before items i set new v text is_new l at is e a s =
    let joined : (before ++ names_of (take i items)) ++ text ∷ [] ≡ before ++ names_of (take (i + 1) items) = append_assoc before (names_of (take i items)) (text ∷ []) ∙ ap (λ (ns : List (List ℕ)). before ++ ns) (sym (text-some items i v text l at is)) in
    record {
      names = subst (HasNames new) joined (has-more set new (before ++ names_of (take i items)) text is_new s.names a);
      rest = seen-next before items i set v text l at is s ∙ ap (λ (b : Bool). cond b (Some text) (again ((before ++ names_of (take i items)) ++ text ∷ []) (names_of (drop (i + 1) items)))) (was-new (stands text set) (sym e ∙ a.fresh))
          ∙ ap (λ (ns : List (List ℕ)). again ns (names_of (drop (i + 1) items))) joined;
    }

pub seen-twice : (before : List (List ℕ)) (items : List Json) (i : ℕ) (set new : List (List ℕ)) (v : Json) (text : List ℕ) (is_new : Bool) → i < length items → v ≡ get_or items i v → text_of v ≡ Some text → is_new ≡ false → AddsName set text is_new new → Seen before items i set → Some text ≡ again before (names_of items)
seen-twice before items i set new v text is_new l at is e a s =
    sym (seen-next before items i set v text l at is s ∙ ap (λ (b : Bool). cond b (Some text) (again ((before ++ names_of (take i items)) ++ text ∷ []) (names_of (drop (i + 1) items)))) (was-old (stands text set) (sym e ∙ a.fresh)))

pub seen-all : (before : List (List ℕ)) (items : List Json) (i : ℕ) (set : List (List ℕ)) → length items ≤ i → Seen before items i set → None ≡ again before (names_of items)
seen-all before items i set l s = sym (s.rest ∙ ap (λ (vs : List Json). again (before ++ names_of (take i items)) (names_of vs)) (drop_all i items l))

some-from : {X : Type 0} (p : X → Bool) (i : ℕ) (xs : List X) → is_some (position_from p i xs) ≡ list_any p xs
some-from p i [] = refl
some-from p i (x ∷ xs) = by_case (some-from p (i + 1) xs) (p x)
  where
    by_case : is_some (position_from p (i + 1) xs) ≡ list_any p xs → (b : Bool) → is_some (cond b (Some i) (position_from p (i + 1) xs)) ≡ (b || list_any p xs)
    by_case go true = refl
    by_case go false = go

-- one passes exactly where there is a first that does
pub is_some-position : {X : Type 0} (p : X → Bool) (xs : List X) → is_some (position p xs) ≡ list_any p xs
is_some-position p xs = ap is_some (position_from-zero p xs) ∙ some-from p 0 xs

-- the texts of one more item
pub pushed-more : (items : List Json) (i : ℕ) (v : Json) (made more : List (List ℕ)) → i < length items → v ≡ get_or items i v → made ≡ names_of (take i items) → more ≡ made ++ names_of (v ∷ []) → more ≡ names_of (take (i + 1) items)
pushed-more items i v made more l at h e = e ∙ ap (λ (ns : List (List ℕ)). ns ++ names_of (v ∷ [])) h ∙ sym (ap names_of (upto items i v l at) ∙ filter_map-append text_of (take i items) (v ∷ []))
