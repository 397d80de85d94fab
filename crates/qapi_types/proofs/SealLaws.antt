-- The names of good parts differ, so that tables can hold them.
use Rattle.std.proofs.Common.{◌≡◌, ℕ, List, map, length, get_or, sym, subst, arith}
use Rattle.std.specs.List.{All}
use Rattle.std.proofs.lemmas.List.{length-map, get_or_default}
use Rattle.qapi_types.specs.declared.{kind.Kind.Kind, kind.MemberDef.MemberDef, kind.ValueDef.ValueDef, parts.Parts.Parts}
use Rattle.qapi_types.specs.declared.kind.Kind.TheVariants as kinds
use Rattle.qapi_types.specs.{Choices.names_of, Choices.AreApart, Choices.stays, Goodness.IsShort, Goodness.IsGood}
use Rattle.qapi_types.specs.{Lookups.command_names, Lookups.event_names, Sets.IsNamable, Types.member_names, Types.value_names}
use Rattle.qapi_types.proofs.{ChoiceLaws.times-append, FaultLaws.names-at}

pub command_names_apart : (p : Parts) (names : List (List ℕ)) → names ≡ command_names p → IsGood p → AreApart names
command_names_apart p names e g = subst AreApart (sym e) (λ y. (let h = g.names y in omega (arith, h, times-append y (command_names p) (event_names p))))

pub event_names_apart : (p : Parts) (names : List (List ℕ)) → names ≡ event_names p → IsGood p → AreApart names
event_names_apart p names e g = subst AreApart (sym e) (λ y. (let h = g.names y in omega (arith, h, times-append y (command_names p) (event_names p))))

namable-kind : (kind : Kind) → IsShort kind → AreApart (member_names kind) → AreApart (value_names kind) → IsNamable kind
namable-kind (kinds.Object def) s m v = record { few = (let n = length-map def.members (λ (m : MemberDef). m.name) in omega (arith, n, s.0)); apart = m }
namable-kind (kinds.Enum values features) s m v = record { few = (let n = length-map values (λ (v : ValueDef). v.name) in omega (arith, n, s.1)); apart = v }
namable-kind kinds.Str s m v = record { few = omega arith; apart = m }
namable-kind kinds.Number s m v = record { few = omega arith; apart = m }
namable-kind (kinds.Whole whole) s m v = record { few = omega arith; apart = m }
namable-kind kinds.Bool s m v = record { few = omega arith; apart = m }
namable-kind kinds.Null s m v = record { few = omega arith; apart = m }
namable-kind kinds.Any s m v = record { few = omega arith; apart = m }
namable-kind (kinds.Array e) s m v = record { few = omega arith; apart = m }
namable-kind (kinds.Alternate types features) s m v = record { few = omega arith; apart = m }

pub namable : (p : Parts) (table : List Kind) → table ≡ p.kinds → IsGood p → All IsNamable table
namable p table e g = subst (All IsNamable) (sym e) (λ k d l.
    namable-kind (get_or p.kinds k d) (g.counts.parts k d l)
    (subst (λ (kind : Kind). AreApart (member_names kind)) (get_or_default p.kinds k kinds.Null d l)
    (subst AreApart (names-at p.kinds k) (g.choices k (let n : length (map member_names p.kinds) ≡ length p.kinds = length-map p.kinds member_names in omega (arith, n, l)) (names_of (map member_names p.kinds) k) (stays k))))
    (g.values k d l))
