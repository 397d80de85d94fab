-- The printed text of a clean value tells the value, nested as deep as it may be, and whatever
-- follows the text, so long as no number or word goes on with it.
use Rattle.std.proofs.Common.{◌≡◌, ℕ, Bool, true, false, not, cond, ◌||◌, ◌==◌, List, [], ◌∷◌, ◌++◌, length, map, drop, codes, Some, Result, Ok, refl, ap, sym, ◌∙◌, subst, arith, append_assoc, append-nil}
use Rattle.std.specs.Prelude.{ℤ, None}
use Rattle.std.specs.Fmt.{signed_decimal}
use Rattle.std.specs.List.{list_all, flat_map, AllByRecursion}
use Rattle.std.specs.{Str.is_utf8, Str.Parse.signed_digits_value}
use Rattle.std.proofs.lemmas.Bool.{and_parts, and_from, cond-true, not-true, or_parts}
use Rattle.std.proofs.lemmas.Bool.Decides.{nat_tests}
use Rattle.std.proofs.lemmas.List.{append_cancel_left}
use Rattle.std.proofs.lemmas.Str.{IsUtf8-from_is_utf8}
use Rattle.qm_frame.specs.Bytes.{begins_number, in_number, is_letter}
use Rattle.qm_json.specs.declared.value.Json.{Json}
use Rattle.qm_json.specs.declared.value.Json.TheVariants as json
use Rattle.qm_json.specs.declared.value.Member.{Member}
use Rattle.qm_json.specs.Cleanness.{IsClean, is_clean, is_clean_member, are_distinct}
use Rattle.qm_json.specs.Numbers.{is_literal, is_whole_literal, is_in_whole_range}
use Rattle.qm_json.specs.Printing.{printed, printed_member, after_comma, joined}
use Rattle.qm_json.specs.Strings.{code_points, escapes, quoted}
use Rattle.qm_json.proofs.CleanLaws.{is_clean-Int, is_clean-Num, is_clean-Str, is_clean-Arr, is_clean-Obj, is_clean_member-is}
use Rattle.qm_json.proofs.Distinct.{names}
use Rattle.qm_json.proofs.Inductions.{every-Json}
use Rattle.qm_json.proofs.PrintLaws.{printed-Null, printed-Bool, printed-Int, printed-Num, printed-Str, printed-Arr, printed-Obj, printed_member-is}
use Rattle.qm_json.proofs.Wholes.{literal-printed, whole_of-printed}
use Rattle.qm_read.specs.declared.fault.JsonFault.{JsonFault}
use Rattle.qm_read.specs.declared.token.Token.{Token}
use Rattle.qm_read.specs.declared.token.Token.TheVariants as tokens
use Rattle.qm_read.specs.Strings.{string_length, text_of}
use Rattle.qm_read.specs.Tokens.{literal_token, number_token}
use Rattle.qm_history.proofs.Cuts.{IsPast, first_of, same_first, cut_runs, cut_lengths}
use Rattle.qm_read.proofs.NumberBytes.{IsRun, literal-run}
use Rattle.qm_read.proofs.Pieces.{ends-at, ends_run, commas-end}
use Rattle.qm_read.proofs.PrintedStrings.{points-inside, points-read}

-- texts of things, each of which tells its thing
module _ {X : Type 0} (f : X → List ℕ) (q : X → Bool) where
  -- of those that pass the test, what text stands at the front tells the thing
  abbrev pub IsTold : X → Type 0
  IsTold x = q x ≡ true → (y : X) → q y ≡ true → (a b : List ℕ) → ends_run a ≡ true → ends_run b ≡ true → f x ++ a ≡ f y ++ b → (x ≡ y) × (a ≡ b)

  -- a byte that closes a list of such texts
  pub record Closes (c : ℕ) : Type 0 where
    pub no_comma : 44 ≡ c → ⊥
    pub ends : (a : List ℕ) → ends_run (c ∷ a) ≡ true
    pub begins_none : (y : X) → q y ≡ true → (a b : List ℕ) → c ∷ a ≡ f y ++ b → ⊥

  later-told : (c : ℕ) → Closes c → (xs : List X) → AllByRecursion IsTold xs → list_all q xs ≡ true → (ys : List X) → list_all q ys ≡ true → (a b : List ℕ) →
      flat_map after_comma (map f xs) ++ c ∷ a ≡ flat_map after_comma (map f ys) ++ c ∷ b → (xs ≡ ys) × (a ≡ b)
  later-told c closer [] hs h [] k a b e = (refl, (same_first c c a b e).1)
  later-told c closer [] hs h (y ∷ ys) k a b e = absurd (closer.no_comma (sym (same_first c 44 a _ e).0))
  later-told c closer (x ∷ xs) hs h [] k a b e = absurd (closer.no_comma (same_first 44 c _ b e).0)
  later-told c closer (x ∷ xs) hs h (y ∷ ys) k a b e =
      let p = and_parts (q x) (list_all q xs) h in
      let r = and_parts (q y) (list_all q ys) k in
      let cut : f x ++ (flat_map after_comma (map f xs) ++ c ∷ a) ≡ f y ++ (flat_map after_comma (map f ys) ++ c ∷ b) =
      sym (append_assoc (f x) (flat_map after_comma (map f xs)) (c ∷ a)) ∙ ap (λ (l : List ℕ). drop 2 l) e ∙ append_assoc (f y) (flat_map after_comma (map f ys)) (c ∷ b) in
      let here = hs.0 p.0 y r.0 _ _ (commas-end (map f xs) (c ∷ a) (closer.ends a)) (commas-end (map f ys) (c ∷ b) (closer.ends b)) cut in
      let rest = later-told c closer xs hs.1 p.1 ys r.1 a b here.1 in
      (ap (λ (z : X). z ∷ xs) here.0 ∙ ap (λ (l : List X). y ∷ l) rest.0, rest.1)

  pub joined-told : (c : ℕ) → Closes c → (xs : List X) → AllByRecursion IsTold xs → list_all q xs ≡ true → (ys : List X) → list_all q ys ≡ true → (a b : List ℕ) →
      joined (map f xs) ++ c ∷ a ≡ joined (map f ys) ++ c ∷ b → (xs ≡ ys) × (a ≡ b)
  joined-told c closer [] hs h [] k a b e = (refl, (same_first c c a b e).1)
  joined-told c closer [] hs h (y ∷ ys) k a b e = absurd (closer.begins_none y (and_parts (q y) (list_all q ys) k).0 a _ (e ∙ append_assoc (f y) (flat_map after_comma (map f ys)) (c ∷ b)))
  joined-told c closer (x ∷ xs) hs h [] k a b e = absurd (closer.begins_none x (and_parts (q x) (list_all q xs) h).0 b _ (sym e ∙ append_assoc (f x) (flat_map after_comma (map f xs)) (c ∷ a)))
  joined-told c closer (x ∷ xs) hs h (y ∷ ys) k a b e =
      let p = and_parts (q x) (list_all q xs) h in
      let r = and_parts (q y) (list_all q ys) k in
      let cut : f x ++ (flat_map after_comma (map f xs) ++ c ∷ a) ≡ f y ++ (flat_map after_comma (map f ys) ++ c ∷ b) =
      sym (append_assoc (f x) (flat_map after_comma (map f xs)) (c ∷ a)) ∙ e ∙ append_assoc (f y) (flat_map after_comma (map f ys)) (c ∷ b) in
      let here = hs.0 p.0 y r.0 _ _ (commas-end (map f xs) (c ∷ a) (closer.ends a)) (commas-end (map f ys) (c ∷ b) (closer.ends b)) cut in
      let rest = later-told c closer xs hs.1 p.1 ys r.1 a b here.1 in
      (ap (λ (z : X). z ∷ xs) here.0 ∙ ap (λ (l : List X). y ∷ l) rest.0, rest.1)

-- strings

abbrev ok_value : Result (List ℕ) JsonFault → List ℕ
ok_value (Ok l) = l
ok_value _ = []

pub string-told : (x y a b : List ℕ) → is_utf8 x ≡ true → is_utf8 y ≡ true → quoted x ++ a ≡ quoted y ++ b → (x ≡ y) × (a ≡ b)
string-told x y a b h k e =
    let u = IsUtf8-from_is_utf8 x h in
    let v = IsUtf8-from_is_utf8 y k in
    let raw : List ℕ = escapes (code_points x) in
    let other : List ℕ = escapes (code_points y) in
    let stand : raw ++ 34 ∷ a ≡ other ++ 34 ∷ b = sym (append_assoc raw (34 ∷ []) a) ∙ ap (λ (l : List ℕ). drop 1 l) e ∙ append_assoc other (34 ∷ []) b in
    let long : length raw ≡ length other = sym (ends-at false raw a (points-inside x u)) ∙ ap (string_length 34 false) stand ∙ ends-at false other b (points-inside y v) in
    let cut = cut_lengths raw other (34 ∷ a) (34 ∷ b) long stand in
    (ap ok_value (sym (points-read x 0 u) ∙ ap (text_of 0) cut.0 ∙ points-read y 0 v), (same_first 34 34 a b cut.1).1)

-- numbers

int-token : (n : ℤ) → is_in_whole_range n ≡ true → number_token 0 (signed_decimal n) ≡ tokens.Int n
int-token n h = cond-true (is_literal (signed_decimal n)) _ _ (literal-printed n h) ∙ ap (literal_token (signed_decimal n)) (whole_of-printed n h)

num-token : (text : List ℕ) → is_literal text ≡ true → is_whole_literal text ≡ false → number_token 0 text ≡ tokens.Num text
num-token text h k = cond-true (is_literal text) _ _ h ∙ ap (λ (b : Bool). literal_token text (cond b (Some (signed_digits_value 10 text)) None)) k

past-number : (rest : List ℕ) → ends_run rest ≡ true → IsPast in_number rest
past-number [] h = tt
past-number (x ∷ rest) h = (or_parts (in_number x) (is_letter x) (not-true _ h)).0

-- the number that a token is
abbrev pub number_of : Token → Json
number_of (tokens.Int n) = json.Int n
number_of (tokens.Num text) = json.Num text
number_of _ = json.Null

-- a number's printed text is a literal, which is read as the number
pub record IsNumber (v : Json) : Type 0 where
  pub literal : is_literal (printed v) ≡ true
  pub back : number_of (number_token 0 (printed v)) ≡ v

pub int-number : (n : ℤ) → is_clean (json.Int n) ≡ true → IsNumber (json.Int n)
int-number n clean =
    let within : is_in_whole_range n ≡ true = sym (is_clean-Int n) ∙ clean in
    record {
      literal = ap is_literal (printed-Int n) ∙ literal-printed n within;
      back = ap (λ (l : List ℕ). number_of (number_token 0 l)) (printed-Int n) ∙ ap number_of (int-token n within);
    }

pub num-number : (text : List ℕ) → is_clean (json.Num text) ≡ true → IsNumber (json.Num text)
num-number text clean =
    let parts = and_parts (is_literal text) (not (is_whole_literal text)) (sym (is_clean-Num text) ∙ clean) in
    record {
      literal = ap is_literal (printed-Num text) ∙ parts.0;
      back = ap (λ (l : List ℕ). number_of (number_token 0 l)) (printed-Num text) ∙ ap number_of (num-token text parts.0 (not-true _ parts.1));
    }

begins-in : (x : ℕ) → begins_number x ≡ true → in_number x ≡ true
begins-in x h = grind (arith, nat_tests, h)

pub run-in : (text : List ℕ) → IsRun text → list_all in_number text ≡ true
run-in text r = ap (list_all in_number) r.is ∙ and_from _ _ (begins-in r.first r.begins) r.goes

numbers-told : (v w : Json) (a b : List ℕ) → IsNumber v → IsNumber w → ends_run a ≡ true → ends_run b ≡ true → printed v ++ a ≡ printed w ++ b → (v ≡ w) × (a ≡ b)
numbers-told v w a b m n h k e =
    let cut = cut_runs in_number (printed v) (printed w) a b (run-in (printed v) (literal-run (printed v) m.literal)) (run-in (printed w) (literal-run (printed w) n.literal)) (past-number a h) (past-number b k) e in
    (sym m.back ∙ ap (λ (l : List ℕ). number_of (number_token 0 l)) cut.0 ∙ n.back, cut.1)

-- sorts of values, by the byte that their text begins with

-- a printed text may begin with the byte
abbrev pub is_sort : ℕ → Bool
is_sort x = begins_number x || x == 110 || x == 116 || x == 102 || x == 34 || x == 91 || x == 123

pub data Sort : ℕ → Json → Type 0 where
  null : Sort 110 json.Null
  yes : Sort 116 (json.Bool true)
  no : Sort 102 (json.Bool false)
  number : (x : ℕ) (v : Json) → begins_number x ≡ true → IsNumber v → Sort x v
  string : (bytes : List ℕ) → Sort 34 (json.Str bytes)
  array : (items : List Json) → Sort 91 (json.Arr items)
  object : (members : List Member) → Sort 123 (json.Obj members)

pub record Begins (v : Json) : Type 0 where
  pub first : ℕ
  pub more : List ℕ
  pub is : printed v ≡ first ∷ more
  pub sort : Sort first v

number-begins : (v : Json) → IsNumber v → Begins v
number-begins v n = let r = literal-run (printed v) n.literal in record { first = r.first; more = r.more; is = r.is; sort = number r.first v r.begins n }

bool-begins : (b : Bool) → Begins (json.Bool b)
bool-begins true = record { first = 116; more = codes "rue"; is = printed-Bool true; sort = yes }
bool-begins false = record { first = 102; more = codes "alse"; is = printed-Bool false; sort = no }

pub begins : (v : Json) → is_clean v ≡ true → Begins v
begins = every-Json (λ v. is_clean v ≡ true → Begins v) record {
  null = λ clean. record { first = 110; more = codes "ull"; is = printed-Null; sort = null };
  bool = λ b clean. bool-begins b;
  int = λ n clean. number-begins (json.Int n) (int-number n clean);
  num = λ text clean. number-begins (json.Num text) (num-number text clean);
  string = λ bytes clean. record { first = 34; more = escapes (code_points bytes) ++ codes "\""; is = printed-Str bytes; sort = string bytes };
  array = λ items hs clean. record { first = 91; more = joined (map printed items) ++ codes "]"; is = printed-Arr items; sort = array items };
  object = λ members hs clean. record { first = 123; more = joined (map printed_member members) ++ codes "}"; is = printed-Obj members; sort = object members };
}

-- a value whose text begins with this byte is of the sort
sort_at : (w : Json) → is_clean w ≡ true → (x : ℕ) (a b : List ℕ) → x ∷ a ≡ printed w ++ b → Sort x w
sort_at w clean x a b e =
    let s = begins w clean in
    subst (λ (y : ℕ). Sort y w) (sym (same_first x s.first a (s.more ++ b) (e ∙ ap (λ (l : List ℕ). l ++ b) s.is)).0) s.sort

-- each sort of value, before one whose text begins with the same byte

abbrev Meets : Json → Json → List ℕ → List ℕ → Type 0
Meets v w a b = printed v ++ a ≡ printed w ++ b

abbrev Same : {X : Type 0} → X → X → List ℕ → List ℕ → Type 0
Same v w a b = (v ≡ w) × (a ≡ b)

null-told : (w : Json) (a b : List ℕ) → Sort 110 w → Meets json.Null w a b → Same json.Null w a b
null-told w a b null e = (refl, append_cancel_left (printed json.Null) a b e)
null-told w a b (number x v h n) e = absurd cc

yes-told : (w : Json) (a b : List ℕ) → Sort 116 w → Meets (json.Bool true) w a b → Same (json.Bool true) w a b
yes-told w a b yes e = (refl, append_cancel_left (printed (json.Bool true)) a b e)
yes-told w a b (number x v h n) e = absurd cc

no-told : (w : Json) (a b : List ℕ) → Sort 102 w → Meets (json.Bool false) w a b → Same (json.Bool false) w a b
no-told w a b no e = (refl, append_cancel_left (printed (json.Bool false)) a b e)
no-told w a b (number x v h n) e = absurd cc

number-told : (x : ℕ) (v w : Json) (a b : List ℕ) → begins_number x ≡ true → IsNumber v → Sort x w → ends_run a ≡ true → ends_run b ≡ true → Meets v w a b → Same v w a b
number-told x v w a b h m null j k e = absurd cc
number-told x v w a b h m yes j k e = absurd cc
number-told x v w a b h m no j k e = absurd cc
number-told x v w a b h m (number y u i n) j k e = numbers-told v w a b m n j k e
number-told x v w a b h m (string bytes) j k e = absurd cc
number-told x v w a b h m (array items) j k e = absurd cc
number-told x v w a b h m (object members) j k e = absurd cc

text-told : (bytes : List ℕ) (w : Json) (a b : List ℕ) → is_clean (json.Str bytes) ≡ true → is_clean w ≡ true → Sort 34 w → Meets (json.Str bytes) w a b → Same (json.Str bytes) w a b
text-told bytes w a b h k (number x v g n) e = absurd cc
text-told bytes w a b h k (string other) e =
    let both = string-told bytes other a b (sym (is_clean-Str bytes) ∙ h) (sym (is_clean-Str other) ∙ k) (ap (λ (l : List ℕ). l ++ a) (sym (printed-Str bytes)) ∙ e ∙ ap (λ (l : List ℕ). l ++ b) (printed-Str other)) in
    (ap (λ (l : List ℕ). json.Str l) both.0, both.1)

closes-array : Closes printed is_clean 93
closes-array = record { no_comma = λ e. cc; ends = λ a. refl; begins_none = λ y clean a b e. none y (sort_at y clean 93 a b e) }
  where
    none : (y : Json) → Sort 93 y → ⊥
    none y (number x v h n) = cc

array-told : (items : List Json) (w : Json) (a b : List ℕ) → AllByRecursion (IsTold printed is_clean) items → is_clean (json.Arr items) ≡ true → is_clean w ≡ true → Sort 91 w → Meets (json.Arr items) w a b → Same (json.Arr items) w a b
array-told items w a b hs h k (number x v g n) e = absurd cc
array-told items w a b hs h k (array others) e =
    let stand : joined (map printed items) ++ 93 ∷ a ≡ joined (map printed others) ++ 93 ∷ b =
    sym (append_assoc (joined (map printed items)) (93 ∷ []) a)
    ∙ ap (λ (l : List ℕ). drop 1 l) (ap (λ (l : List ℕ). l ++ a) (sym (printed-Arr items)) ∙ e ∙ ap (λ (l : List ℕ). l ++ b) (printed-Arr others))
    ∙ append_assoc (joined (map printed others)) (93 ∷ []) b in
    let both = joined-told printed is_clean 93 closes-array items hs (sym (is_clean-Arr items) ∙ h) others (sym (is_clean-Arr others) ∙ k) a b stand in
    (ap (λ (l : List Json). json.Arr l) both.0, both.1)

member-text : (m : Member) (rest : List ℕ) → printed_member m ++ rest ≡ quoted m.name ++ (58 ∷ 32 ∷ printed m.value ++ rest)
member-text m rest =
    ap (λ (l : List ℕ). l ++ rest) (printed_member-is m)
    ∙ append_assoc (quoted m.name ++ codes ": ") (printed m.value) rest
    ∙ append_assoc (quoted m.name) (codes ": ") (printed m.value ++ rest)

member-told : (m : Member) → IsTold printed is_clean m.value → IsTold printed_member is_clean_member m
member-told m told = λ h y k a b j g e.
    let p = and_parts (is_utf8 m.name) (is_clean m.value) (sym (is_clean_member-is m) ∙ h) in
    let r = and_parts (is_utf8 y.name) (is_clean y.value) (sym (is_clean_member-is y) ∙ k) in
    let first = string-told m.name y.name (58 ∷ 32 ∷ printed m.value ++ a) (58 ∷ 32 ∷ printed y.value ++ b) p.0 r.0 (sym (member-text m a) ∙ e ∙ member-text y b) in
    let value = told p.1 y.value r.1 a b j g (ap (λ (l : List ℕ). drop 2 l) first.1) in
    (ap (λ (n : List ℕ). let z : Member = record { name = n; value = m.value } in z) first.0 ∙ ap (λ (v : Json). let z : Member = record { name = y.name; value = v } in z) value.0, value.1)

members-told : (members : List Member) → AllByRecursion (λ (m : Member). IsTold printed is_clean m.value) members → AllByRecursion (IsTold printed_member is_clean_member) members
members-told [] hs = tt
members-told (m ∷ members) hs = (member-told m hs.0, members-told members hs.1)

closes-object : Closes printed_member is_clean_member 125
closes-object = record { no_comma = λ e. cc; ends = λ a. refl; begins_none = λ y clean a b e. none a (escapes (code_points y.name)) y b (e ∙ member-text y b) }
  where
    none : (a raw : List ℕ) (y : Member) (b : List ℕ) → 125 ∷ a ≡ quoted y.name ++ (58 ∷ 32 ∷ printed y.value ++ b) → ⊥
    none a raw y b e = let first : false ≡ true = ap (λ (t : List ℕ). first_of t == 34) e in cc

object-told : (members : List Member) (w : Json) (a b : List ℕ) → AllByRecursion (λ (m : Member). IsTold printed is_clean m.value) members → is_clean (json.Obj members) ≡ true → is_clean w ≡ true → Sort 123 w → Meets (json.Obj members) w a b → Same (json.Obj members) w a b
object-told members w a b hs h k (number x v g n) e = absurd cc
object-told members w a b hs h k (object others) e =
    let p = and_parts (are_distinct (names members)) (list_all is_clean_member members) (sym (is_clean-Obj members) ∙ h) in
    let r = and_parts (are_distinct (names others)) (list_all is_clean_member others) (sym (is_clean-Obj others) ∙ k) in
    let stand : joined (map printed_member members) ++ 125 ∷ a ≡ joined (map printed_member others) ++ 125 ∷ b =
    sym (append_assoc (joined (map printed_member members)) (125 ∷ []) a)
    ∙ ap (λ (l : List ℕ). drop 1 l) (ap (λ (l : List ℕ). l ++ a) (sym (printed-Obj members)) ∙ e ∙ ap (λ (l : List ℕ). l ++ b) (printed-Obj others))
    ∙ append_assoc (joined (map printed_member others)) (125 ∷ []) b in
    let both = joined-told printed_member is_clean_member 125 closes-object members (members-told members hs) p.1 others r.1 a b stand in
    (ap (λ (l : List Member). json.Obj l) both.0, both.1)

-- what stands before: a value whose text begins with x, and any text
met : (v w : Json) (x : ℕ) (more a b : List ℕ) → printed v ≡ x ∷ more → is_clean w ≡ true → Meets v w a b → Sort x w
met v w x more a b is clean e = sort_at w clean x (more ++ a) b (ap (λ (l : List ℕ). l ++ a) (sym is) ∙ e)

number-meets : (v : Json) → IsNumber v → IsTold printed is_clean v
number-meets v n = λ h w k a b j g e.
    let r = literal-run (printed v) n.literal in
    number-told r.first v w a b r.begins n (met v w r.first r.more a b r.is k e) j g e

bool-meets : (t : Bool) → IsTold printed is_clean (json.Bool t)
bool-meets true = λ h w k a b j g e. yes-told w a b (met (json.Bool true) w 116 (codes "rue") a b (printed-Bool true) k e) e
bool-meets false = λ h w k a b j g e. no-told w a b (met (json.Bool false) w 102 (codes "alse") a b (printed-Bool false) k e) e

-- the printed text of a clean value tells the value
pub printed-told : (v : Json) → IsTold printed is_clean v
printed-told = every-Json (IsTold printed is_clean) record {
  null = λ h w k a b j g e. null-told w a b (met json.Null w 110 (codes "ull") a b printed-Null k e) e;
  bool = λ t. bool-meets t;
  int = λ n h. number-meets (json.Int n) (int-number n h) h;
  num = λ text h. number-meets (json.Num text) (num-number text h) h;
  string = λ bytes h w k a b j g e. text-told bytes w a b h k (met (json.Str bytes) w 34 (escapes (code_points bytes) ++ codes "\"") a b (printed-Str bytes) k e) e;
  array = λ items hs h w k a b j g e. array-told items w a b hs h k (met (json.Arr items) w 91 (joined (map printed items) ++ codes "]") a b (printed-Arr items) k e) e;
  object = λ members hs h w k a b j g e. object-told members w a b hs h k (met (json.Obj members) w 123 (joined (map printed_member members) ++ codes "}") a b (printed-Obj members) k e) e;
}

-- one text is that of one clean value
pub printed_injective : (v w : Json) → IsClean v → IsClean w → printed v ≡ printed w → v ≡ w
printed_injective v w h k e = (printed-told v h w k [] [] refl refl (append-nil (printed v) ∙ e ∙ sym (append-nil (printed w)))).0

-- no printed text begins with a byte that is none of these
pub printed-begins : (v : Json) → IsClean v → (x : ℕ) (more : List ℕ) → is_sort x ≡ false → printed v ≡ x ∷ more → ⊥
printed-begins v clean x more h e = none v x (sort_at v clean x more [] (sym e ∙ sym (append-nil (printed v)))) h
  where
    none : (v : Json) (x : ℕ) → Sort x v → is_sort x ≡ false → ⊥
    none v x null h = cc
    none v x yes h = cc
    none v x no h = cc
    none v x (number y w g n) h = grind (arith, nat_tests, g, h)
    none v x (string bytes) h = cc
    none v x (array items) h = cc
    none v x (object members) h = cc
