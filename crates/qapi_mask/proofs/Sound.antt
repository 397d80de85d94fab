-- What introspection needs of a schema, which good parts with the prelude have.
use Rattle.std.proofs.Common.{◌≡◌, ◌<◌, ◌+◌, ◌^◌, ℕ, zero, suc, true, false, List, [], map, length, refl, ap, sym, subst, inl, inr, arith, Option, Some, None}
use Rattle.std.specs.Prelude.{◌==◌, option_map, find, codes}
use Rattle.std.specs.{List.All, Option.option_or, Option.unwrap_or}
use Rattle.qapi_types.specs.declared.kind.{Branch.Branch, Kind.Kind, MemberDef.MemberDef, ValueDef.ValueDef}
use Rattle.qapi_types.specs.declared.kind.Kind.TheVariants as kinds
use Rattle.qapi_types.specs.declared.parts.{ArgType.ArgType, CommandDef.CommandDef, EventDef.EventDef, Parts.Parts}
use Rattle.qapi_types.specs.declared.parts.ArgType.TheVariants.{Typed, AnyObject}
use Rattle.qapi_types.specs.Types.{kind_of, is_array, tag_member, tag_values}
use Rattle.qapi_types.specs.Goodness.{IsGood, RefersBelow, TakesBelow, CommandBelow, HasPlainElement}
use Rattle.qm_admit.specs.Fitting.{Among}
use Rattle.qm_admit.specs.Tags.{Case, Tag, tag_of, cases_from}
use Rattle.qapi_mask.specs.Calls.{Call, Command, Event, call_at, one_or_none, calls_before, calls_of}
use Rattle.qapi_mask.specs.Entries.{refs_of, refs_of_tag}
use Rattle.qapi_mask.specs.Naming.{builtin_of, element_of, is_text, builtin_at, argument_type, call_refs, first_refs}
use Rattle.qapi_types.specs.Prelude.{HasPrelude, empty_of, no_command}
use Rattle.qapi_mask.proofs.Apart.{apart, case-branch}
use Rattle.qapi_mask.proofs.Elements.{all-among, all-index, among-append, among-flat}
use Rattle.qapi_mask.proofs.Lists.{among-source, found-among}
use Rattle.qapi_mask.proofs.Places.{IsApart}
use Rattle.qapi_mask.proofs.Placing.{place-below, bytes-same}

pub record IsSound (p : Parts) : Type 0 where
  pub few : length p.kinds < 2 ^ 64
  pub refs : (t r : ℕ) → Among r (refs_of p.kinds (empty_of p) (kind_of p.kinds t)) → r < length p.kinds
  pub firsts : (r : ℕ) → Among r (first_refs p) → r < length p.kinds
  -- the element of an array is no array
  pub elements : (t e : ℕ) → kind_of p.kinds t ≡ kinds.Array e → element_of (kind_of p.kinds e) ≡ None
  pub empty_kind : kind_of p.kinds (empty_of p) ≡ kinds.Object (record { members = []; tag = None; branches = []; features = [] })
  pub apart : IsApart p.kinds

-- what an entry refers to is in range
case-below : (n empty : ℕ) (branches : List Branch) (values : List ValueDef) (c : Case) (o : Option ℕ) → empty < n → All (λ (b : Branch). b.type_id < n) branches → Among c (cases_from branches 0 values) → c.branch ≡ o → unwrap_or o empty < n
case-below n empty branches values c None e h a is = e
case-below n empty branches values c (Some b) e h a is =
    let x = case-branch branches 0 values c b a is in
    subst (λ (u : ℕ). u < n) x.is (all-among (λ (b : Branch). b.type_id < n) x.of branches h x.among)

tag-below : (n empty r : ℕ) (branches : List Branch) (values : List ValueDef) (o : Option MemberDef) → empty < n → All (λ (b : Branch). b.type_id < n) branches →
    Among r (refs_of_tag empty (option_map (λ (m : MemberDef). let t : Tag = record { name = m.name; cases = cases_from branches 0 values } in t) o)) → r < n
tag-below n empty r branches values None e h a = absurd a
tag-below n empty r branches values (Some m) e h a =
    let c = among-source (λ (c : Case). unwrap_or c.branch empty) r (cases_from branches 0 values) a in
    subst (λ (u : ℕ). u < n) c.is (case-below n empty branches values c.of c.of.branch e h c.among refl)

member-below : (n r : ℕ) (ms : List MemberDef) → All (λ (m : MemberDef). m.type_id < n) ms → Among r (map (λ (m : MemberDef). m.type_id) ms) → r < n
member-below n r ms h a = let m = among-source (λ (m : MemberDef). m.type_id) r ms a in subst (λ (u : ℕ). u < n) m.is (all-among (λ (m : MemberDef). m.type_id < n) m.of ms h m.among)

pub refs-below : (table : List Kind) (n empty r : ℕ) (kind : Kind) → empty < n → RefersBelow n kind → Among r (refs_of table empty kind) → r < n
refs-below table n empty r (kinds.Array e) l h (inl is) = subst (λ (u : ℕ). u < n) is h
refs-below table n empty r (kinds.Array e) l h (inr a) = absurd a
refs-below table n empty r (kinds.Object def) l h a =
    elim (among-append r (map (λ (m : MemberDef). m.type_id) def.members) (refs_of_tag empty (tag_of table (kinds.Object def))) a) [
      | inl b ↦ member-below n r def.members h.0 b
      | inr b ↦ tag-below n empty r def.branches (tag_values table (kinds.Object def)) (tag_member (kinds.Object def)) l h.1 b
    ]
refs-below table n empty r (kinds.Alternate types features) l h a = all-among (λ t. t < n) r types h a
refs-below table n empty r kind l h a = absurd a

-- commands and events of the schema
abbrev pub IsOf : Parts → Call → Type 0
IsOf p (Command c) = Among c p.commands
IsOf p (Event e) = Among e p.events

found-of : (p : Parts) (a : Option CommandDef) (b : Option EventDef) (call : Call) → ((c : CommandDef) → a ≡ Some c → Among c p.commands) → ((e : EventDef) → b ≡ Some e → Among e p.events) →
    option_or (option_map Command a) (option_map Event b) ≡ Some call → IsOf p call
found-of p None None call f g h = absurd cc
found-of p None (Some e) (Command c) f g h = absurd cc
found-of p None (Some e) (Event d) f g h = g d (let k : e ≡ d = cc in ap Some k)
found-of p (Some c) b (Command d) f g h = f d (let k : c ≡ d = cc in ap Some k)
found-of p (Some c) b (Event e) f g h = absurd cc

call-of : (p : Parts) (n : ℕ) (call : Call) → call_at p n ≡ Some call → IsOf p call
call-of p n call h = found-of p (find (λ (c : CommandDef). c.place == n) p.commands) (find (λ (e : EventDef). e.place == n) p.events) call
    (λ c. found-among (λ (c : CommandDef). c.place == n) c p.commands) (λ e. found-among (λ (e : EventDef). e.place == n) e p.events) h

one-of : (p : Parts) (o : Option Call) (call : Call) → ((x : Call) → o ≡ Some x → IsOf p x) → Among call (one_or_none o) → IsOf p call
one-of p None call f a = absurd a
one-of p (Some x) call f (inl e) = subst (IsOf p) e (f x refl)
one-of p (Some x) call f (inr a) = absurd a

pub calls-are-of : (p : Parts) (n : ℕ) (call : Call) → Among call (calls_before p n) → IsOf p call
calls-are-of p zero call a = absurd a
calls-are-of p (suc n) call a = elim (among-append call (calls_before p n) (one_or_none (call_at p n)) a) as (λ _. IsOf p call) [
  | inl b ↦ calls-are-of p n call b
  | inr b ↦ one-of p (call_at p n) call (call-of p n) b
]

module _ (p : Parts) (good : IsGood p) (prelude : HasPrelude p) where
  any-text : is_text (codes "any") (builtin_of (kind_of p.kinds prelude.any)) ≡ true
  any-text = subst (λ (k : Kind). is_text (codes "any") (builtin_of k) ≡ true) (sym prelude.is_any) (bytes-same (codes "any"))

  pub any-below : builtin_at p.kinds (codes "any") < length p.kinds
  any-below = place-below (λ (k : Kind). is_text (codes "any") (builtin_of k)) kinds.Null p.kinds prelude.any prelude.any_in any-text

  pub argument-below : (a : ArgType) → TakesBelow (length p.kinds) a → argument_type p.kinds a < length p.kinds
  argument-below (Typed t) h = h
  argument-below AnyObject h = any-below

  call-below : (call : Call) (r : ℕ) → IsOf p call → Among r (call_refs p.kinds call) → r < length p.kinds
  call-below (Command c) r a (inl e) = subst (λ (u : ℕ). u < length p.kinds) e (argument-below c.arg (all-among (CommandBelow (length p.kinds)) c p.commands good.ranges.commands a).0)
  call-below (Command c) r a (inr (inl e)) = subst (λ (u : ℕ). u < length p.kinds) e (all-among (CommandBelow (length p.kinds)) c p.commands good.ranges.commands a).1
  call-below (Command c) r a (inr (inr b)) = absurd b
  call-below (Event e) r a (inl is) = subst (λ (u : ℕ). u < length p.kinds) is (all-among (λ (e : EventDef). e.arg < length p.kinds) e p.events good.ranges.events a)
  call-below (Event e) r a (inr b) = absurd b

  pub empty-below : empty_of p < length p.kinds
  empty-below = (good.ranges.commands 0 no_command prelude.first).1

  plain-element : (kind : Kind) → is_array kind ≡ false → element_of kind ≡ None
  plain-element (kinds.Array e) h = absurd cc
  plain-element kind h = refl

  firsts-below : (r : ℕ) → Among r (first_refs p) → r < length p.kinds
  firsts-below r a = let g = among-flat (call_refs p.kinds) r (calls_of p) a in call-below g.of r (calls-are-of p (length p.commands + length p.events) g.of g.among) g.at

  pub sound : IsSound p
  sound = record {
    few = (let l : length p.kinds < 2 ^ 32 = good.counts.types in omega (arith, l));
    refs = λ t r a. refs-below p.kinds (length p.kinds) (empty_of p) r (kind_of p.kinds t) empty-below (all-index (RefersBelow (length p.kinds)) kinds.Null p.kinds t good.ranges.types tt) a;
    firsts = firsts-below;
    elements = λ t e k. plain-element (kind_of p.kinds e) (subst (HasPlainElement p.kinds) k (all-index (HasPlainElement p.kinds) kinds.Null p.kinds t good.elements tt));
    empty_kind = prelude.empty;
    apart = apart p good;
  }
