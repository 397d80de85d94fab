-- How a token is refused in a state: as one that may not stand there, or as a name that is there;
-- and a name that is not there.
use Rattle.std.proofs.Common.{◌≡◌, ℕ, ◌≤◌, ◌<◌, Bool, true, false, ◌||◌, List, [], ◌∷◌, ◌++◌, length, refl, ap, arith, length-append, ◌+◌, nat_lt, cond, ◌&&◌, ◌⊎◌, inl, inr, Result, Ok, Err}
use Rattle.std.specs.Str.{bytes_eq}
use Rattle.std.proofs.lemmas.Slice.Eq.{bytes_eq-Decides}
use Rattle.qm_json.specs.{declared.value.Member.Member, Members.has_name}
use Rattle.qm_json.specs.declared.value.Json.TheVariants as json
use Rattle.qm_read.specs.declared.fault.JsonFault.{JsonFault, TheVariants.Expected, TheVariants.Duplicate}
use Rattle.qm_read.specs.declared.stack.{Expect.Expect, Expect.TheVariants.Colon, Expect.TheVariants.CommaOrEnd, Open.Open}
use Rattle.qm_read.specs.declared.{stack.Open.TheVariants.Top, stack.Open.TheVariants.Arr, stack.Open.TheVariants.Obj, stack.Open.TheVariants.Whole, token.Token.Token}
use Rattle.qm_read.specs.declared.token.Token.TheVariants as tokens
use Rattle.qm_read.specs.Stacks.{State, takes_value, takes_name, put, ends_array, ends_object}
use Rattle.qm_read.specs.{Steps.step, Steps.value_step, Steps.name_step, Steps.close_array, Steps.close_object, Steps.comma_step, Steps.colon_step, Faults.whole}

pub fresh : List Member → List ℕ
fresh [] = 97 ∷ []
fresh (m ∷ ms) = m.name ++ fresh ms

not-true : (b : Bool) → (b ≡ true → ⊥) → b ≡ false
not-true true h = absurd (h refl)
not-true false h = refl

unlike : (a b : List ℕ) → length a < length b → bytes_eq a b ≡ false
unlike a b h = not-true (bytes_eq a b) (λ e. let l : length a ≡ length b = ap length ((bytes_eq-Decides a b).0 e) in omega (arith, h, l))

some : (ms : List Member) → 0 < length (fresh ms)
unfolding fresh
some [] = omega arith
some (m ∷ ms) = omega (arith, length-append m.name (fresh ms), some ms)

either : (a b : Bool) → a ≡ false → b ≡ false → (a || b) ≡ false
either a b e f = rw (e, f) refl

longer : (ms : List Member) (name : List ℕ) → length (fresh ms) ≤ length name → has_name ms name ≡ false
unfolding fresh
longer [] name h = refl
longer (m ∷ ms) name h = either (bytes_eq m.name name) (has_name ms name) (unlike m.name name (omega (arith, h, length-append m.name (fresh ms), some ms))) (longer ms name (omega (arith, h, length-append m.name (fresh ms))))

pub fresh_name : (ms : List Member) → has_name ms (fresh ms) ≡ false
fresh_name ms = longer ms (fresh ms) (omega arith)

-- a token is refused as one that something else would have to stand for
abbrev pub Refuses : Result State JsonFault → ℕ → Type 0
Refuses (Ok s) p = Unit {0}
Refuses (Err f) p = f ≡ Expected p

unless : (b : Bool) (r : Result State JsonFault) (p : ℕ) → Refuses r p → Refuses (cond b r (Err (Expected p))) p
unless true r p h = h
unless false r p h = refl

closes_array : (stack : List Open) (p : ℕ) → Refuses (close_array stack p) p
closes_array (Arr items ∷ next ∷ outer) p = tt
closes_array _ p = refl

closes_object : (stack : List Open) (p : ℕ) → Refuses (close_object stack p) p
closes_object (Obj members name ∷ next ∷ outer) p = tt
closes_object _ p = refl

takes_comma : (e : Expect) (stack : List Open) (p : ℕ) → Refuses (comma_step e stack p) p
takes_comma CommaOrEnd stack p = tt
takes_comma _ stack p = refl

takes_colon : (e : Expect) (stack : List Open) (p : ℕ) → Refuses (colon_step e stack p) p
takes_colon Colon stack p = tt
takes_colon _ stack p = refl

-- a token other than a string, and not wrong in itself
abbrev pub IsPlain : Token → Type 0
IsPlain (tokens.Bad fault) = ⊥
IsPlain (tokens.Str text) = ⊥
IsPlain _ = Unit {0}

pub refuses : (limit : ℕ) (s : State) (k : Token) (p : ℕ) → IsPlain k → Refuses (step limit s k p) p
refuses limit s (tokens.Bad fault) p plain = absurd plain
refuses limit s (tokens.Str text) p plain = absurd plain
refuses limit s tokens.OpenArray p plain = unless (takes_value s.expect && nat_lt (length s.stack) (limit + 1)) _ p tt
refuses limit s tokens.OpenObject p plain = unless (takes_value s.expect && nat_lt (length s.stack) (limit + 1)) _ p tt
refuses limit s tokens.CloseArray p plain = unless (ends_array s.expect) _ p (closes_array s.stack p)
refuses limit s tokens.CloseObject p plain = unless (ends_object s.expect) _ p (closes_object s.stack p)
refuses limit s tokens.Comma p plain = takes_comma s.expect s.stack p
refuses limit s tokens.Colon p plain = takes_colon s.expect s.stack p
refuses limit s _ p plain = unless (takes_value s.expect) _ p tt

-- strings are refused: this one as a name that is there, while another is taken; or all of them
pub record Taken (g : List ℕ → Result State JsonFault) : Type 0 where
  pub other : List ℕ
  pub next : State
  pub is : g other ≡ Ok next

abbrev pub StrRefused : (List ℕ → Result State JsonFault) → ℕ → JsonFault → Type 0
StrRefused g p f = ((f ≡ Duplicate p) × Taken g) ⊎ ((f ≡ Expected p) × ((other : List ℕ) → g other ≡ Err (Expected p)))

known : (b : Bool) (members : List Member) (outer : List Open) (name : List ℕ) (p : ℕ) (f : JsonFault) → cond {A = Result State JsonFault} b (Err (Duplicate p)) (Ok (record { stack = Obj members name ∷ outer; expect = Colon })) ≡ Err f → f ≡ Duplicate p
known true members outer name p f e = cc
known false members outer name p f e = cc

new_name : (members : List Member) (outer : List Open) (p : ℕ) → Taken (λ other. cond (has_name members other) (Err (Duplicate p)) (Ok (record { stack = Obj members other ∷ outer; expect = Colon })))
new_name members outer p = record { other = fresh members; next = record { stack = Obj members (fresh members) ∷ outer; expect = Colon }; is = rw (fresh_name members) refl }

name_refused : (stack : List Open) (name : List ℕ) (p : ℕ) (f : JsonFault) → name_step stack name p ≡ Err f → StrRefused (λ other. name_step stack other p) p f
name_refused (Obj members old ∷ outer) name p f e = inl (known (has_name members name) members outer name p f e, new_name members outer p)
name_refused _ name p f e = inr (cc, λ other. refl)

value_refused : (b : Bool) (stack : List Open) (name : List ℕ) (p : ℕ) (f : JsonFault) → cond b (Ok (put (json.Str name) stack)) (Err (Expected p)) ≡ Err f → StrRefused (λ other. cond b (Ok (put (json.Str other) stack)) (Err (Expected p))) p f
value_refused true stack name p f e = cc
value_refused false stack name p f e = inr (cc, λ other. refl)

name_or_value : (b : Bool) (s : State) (name : List ℕ) (p : ℕ) (f : JsonFault) → cond b (name_step s.stack name p) (value_step s (json.Str name) p) ≡ Err f → StrRefused (λ other. cond b (name_step s.stack other p) (value_step s (json.Str other) p)) p f
name_or_value true s name p f e = name_refused s.stack name p f e
name_or_value false s name p f e = value_refused (takes_value s.expect) s.stack name p f e

pub string_refused : (limit : ℕ) (s : State) (name : List ℕ) (p : ℕ) (f : JsonFault) → step limit s (tokens.Str name) p ≡ Err f → StrRefused (λ other. step limit s (tokens.Str other) p) p f
string_refused limit s name p f e = name_or_value (takes_name s.expect) s name p f e

-- what is not whole at the end is refused there
pub too_short : (stack : List Open) (n : ℕ) (f : JsonFault) → whole stack n ≡ Err f → f ≡ Expected n
too_short [] n f e = cc
too_short (Whole v ∷ outer) n f e = cc
too_short (Top ∷ outer) n f e = cc
too_short (Arr items ∷ outer) n f e = cc
too_short (Obj members name ∷ outer) n f e = cc
