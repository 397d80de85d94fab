-- The numbers of types that good parts hold are below the number of types.
use Rattle.std.proofs.Common.{◌≡◌, ℕ, ◌<◌, List, length, subst, Option, Some, None, IfSome, slice_get}
use Rattle.std.specs.List.{All}
use Rattle.std.specs.Option.{option_map, option_and_then}
use Rattle.std.specs.Prelude.{◌==◌, find}
use Rattle.std.proofs.lemmas.Option.{get_or_from_slice_get, slice_get_within}
use Rattle.std.proofs.lemmas.List.Elements.{All-nil}
use Rattle.qapi_types.specs.declared.{kind.Branch.Branch, kind.Kind.Kind, kind.MemberDef.MemberDef, parts.Parts.Parts, parts.ArgType.ArgType, parts.CommandDef.CommandDef, parts.EventDef.EventDef}
use Rattle.qapi_types.specs.declared.kind.Kind.TheVariants as kinds
use Rattle.qapi_types.specs.declared.parts.ArgType.TheVariants as args
use Rattle.qapi_types.specs.{Goodness.IsGood, Goodness.RefersBelow, Goodness.CommandBelow, Goodness.TakesBelow}
use Rattle.qapi_types.specs.Types.{kind_of, members_of, branches_of, tag_position, tag_member}
use Rattle.qm_admit.specs.Tags.{branch_at}
use Rattle.qm_admit.proofs.Positions.{found-all}

pub refers-below : (p : Parts) → IsGood p → (t : ℕ) → t < length p.kinds → RefersBelow (length p.kinds) (kind_of p.kinds t)
refers-below p g t l = g.ranges.types t kinds.Null l

members-below : (n : ℕ) (kind : Kind) → RefersBelow n kind → All (λ (m : MemberDef). m.type_id < n) (members_of kind)
members-below n (kinds.Object def) h = h.0
members-below n kinds.Str h = All-nil (λ (m : MemberDef). m.type_id < n)
members-below n kinds.Number h = All-nil (λ (m : MemberDef). m.type_id < n)
members-below n (kinds.Whole whole) h = All-nil (λ (m : MemberDef). m.type_id < n)
members-below n kinds.Bool h = All-nil (λ (m : MemberDef). m.type_id < n)
members-below n kinds.Null h = All-nil (λ (m : MemberDef). m.type_id < n)
members-below n kinds.Any h = All-nil (λ (m : MemberDef). m.type_id < n)
members-below n (kinds.Enum values features) h = All-nil (λ (m : MemberDef). m.type_id < n)
members-below n (kinds.Array e) h = All-nil (λ (m : MemberDef). m.type_id < n)
members-below n (kinds.Alternate types features) h = All-nil (λ (m : MemberDef). m.type_id < n)

branches-below : (n : ℕ) (kind : Kind) → RefersBelow n kind → All (λ (b : Branch). b.type_id < n) (branches_of kind)
branches-below n (kinds.Object def) h = h.1
branches-below n kinds.Str h = All-nil (λ (b : Branch). b.type_id < n)
branches-below n kinds.Number h = All-nil (λ (b : Branch). b.type_id < n)
branches-below n (kinds.Whole whole) h = All-nil (λ (b : Branch). b.type_id < n)
branches-below n kinds.Bool h = All-nil (λ (b : Branch). b.type_id < n)
branches-below n kinds.Null h = All-nil (λ (b : Branch). b.type_id < n)
branches-below n kinds.Any h = All-nil (λ (b : Branch). b.type_id < n)
branches-below n (kinds.Enum values features) h = All-nil (λ (b : Branch). b.type_id < n)
branches-below n (kinds.Array e) h = All-nil (λ (b : Branch). b.type_id < n)
branches-below n (kinds.Alternate types features) h = All-nil (λ (b : Branch). b.type_id < n)

pub members-within : (p : Parts) → IsGood p → (t : ℕ) → t < length p.kinds → All (λ (m : MemberDef). m.type_id < length p.kinds) (members_of (kind_of p.kinds t))
members-within p g t l = members-below (length p.kinds) (kind_of p.kinds t) (refers-below p g t l)

at-position : (n : ℕ) (ms : List MemberDef) (o : Option ℕ) (m : MemberDef) → All (λ (m : MemberDef). m.type_id < n) ms → option_and_then (λ p. slice_get ms p) o ≡ Some m → m.type_id < n
at-position n ms None m h e = absurd cc
at-position n ms (Some i) m h e = subst (λ (x : MemberDef). x.type_id < n) (get_or_from_slice_get ms i m m e) (h i m (slice_get_within ms i m e))

pub tag-within : (p : Parts) → IsGood p → (t : ℕ) → t < length p.kinds → (m : MemberDef) → tag_member (kind_of p.kinds t) ≡ Some m → m.type_id < length p.kinds
tag-within p g t l m e = at-position (length p.kinds) (members_of (kind_of p.kinds t)) (tag_position (kind_of p.kinds t)) m (members-within p g t l) e

mapped-within : (n : ℕ) (o : Option Branch) → IfSome o (λ (b : Branch). b.type_id < n) → IfSome (option_map (λ (b : Branch). b.type_id) o) (λ b. b < n)
mapped-within n None h = tt
mapped-within n (Some b) h = h

pub branch-within : (p : Parts) → IsGood p → (t : ℕ) → t < length p.kinds → (position : ℕ) → IfSome (branch_at (branches_of (kind_of p.kinds t)) position) (λ b. b < length p.kinds)
branch-within p g t l position = mapped-within (length p.kinds) (find (λ (b : Branch). b.value == position) (branches_of (kind_of p.kinds t)))
    (found-all (λ (b : Branch). b.type_id < length p.kinds) (λ (b : Branch). b.value == position) (branches_of (kind_of p.kinds t)) (branches-below (length p.kinds) (kind_of p.kinds t) (refers-below p g t l)))

pub alternatives-within : (p : Parts) → IsGood p → (t : ℕ) → t < length p.kinds → (types : List ℕ) (features : List (List ℕ)) → kind_of p.kinds t ≡ kinds.Alternate types features → All (λ a. a < length p.kinds) types
alternatives-within p g t l types features e = subst (RefersBelow (length p.kinds)) e (refers-below p g t l)

pub element-within : (p : Parts) → IsGood p → (t : ℕ) → t < length p.kinds → (e : ℕ) → kind_of p.kinds t ≡ kinds.Array e → e < length p.kinds
element-within p g t l e k = subst (RefersBelow (length p.kinds)) k (refers-below p g t l)

command-below : (p : Parts) → IsGood p → (i : ℕ) (c : CommandDef) → slice_get p.commands i ≡ Some c → CommandBelow (length p.kinds) c
command-below p g i c e = subst (CommandBelow (length p.kinds)) (get_or_from_slice_get p.commands i c c e) (g.ranges.commands i c (slice_get_within p.commands i c e))

pub returned-within : (p : Parts) → IsGood p → (i : ℕ) (c : CommandDef) → slice_get p.commands i ≡ Some c → c.ret < length p.kinds
returned-within p g i c e = (command-below p g i c e).1

taken-below : (n : ℕ) (c : CommandDef) (t : ℕ) → CommandBelow n c → c.arg ≡ args.Typed t → t < n
taken-below n c t h e = subst (λ (a : ArgType). TakesBelow n a) e h.0

pub taken-within : (p : Parts) → IsGood p → (i : ℕ) (c : CommandDef) (t : ℕ) → slice_get p.commands i ≡ Some c → c.arg ≡ args.Typed t → t < length p.kinds
taken-within p g i c t e k = taken-below (length p.kinds) c t (command-below p g i c e) k

pub event-within : (p : Parts) → IsGood p → (i : ℕ) (e : EventDef) → slice_get p.events i ≡ Some e → e.arg < length p.kinds
event-within p g i e h = subst (λ (x : EventDef). x.arg < length p.kinds) (get_or_from_slice_get p.events i e e h) (g.ranges.events i e (slice_get_within p.events i e h))
