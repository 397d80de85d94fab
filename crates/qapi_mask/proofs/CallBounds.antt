-- What commands and events refer to is in the table.
use Rattle.std.proofs.Common.{◌≡◌, ◌<◌, ◌+◌, zero, suc, List, [], ◌∷◌, length, map, subst, arith, inl, inr, refl}
use Rattle.std.specs.List.{All}
use Rattle.qapi_types.specs.{declared.parts.EventDef.EventDef, declared.parts.Parts.Parts, Goodness.CommandBelow, Goodness.IsGood}
use Rattle.qm_admit.specs.Fitting.{Among}
use Rattle.qapi_mask.specs.declared.calls.Called.{Called}
use Rattle.qapi_mask.specs.{Below.IsBelow, Called.told, Calls.Call, Calls.Command, Calls.Event, Calls.calls_of}
use Rattle.qapi_mask.proofs.{Elements.all-among, Sound.IsOf, Sound.calls-are-of}

is-below : (p : Parts) → IsGood p → (call : Call) → IsOf p call → IsBelow (length p.kinds) call
is-below p good (Command c) a = all-among (CommandBelow (length p.kinds)) c p.commands good.ranges.commands a
is-below p good (Event e) a = all-among (λ (e : EventDef). e.arg < length p.kinds) e p.events good.ranges.events a

each : (P : Call → Type 0) (calls : List Called) → ((call : Call) → Among call (map told calls) → P call) → All (λ x. P (told x)) calls
each P [] h i d l = absurd (omega (arith, l))
each P (x ∷ calls) h zero d l = h (told x) (inl refl)
each P (x ∷ calls) h (suc i) d l = each P calls (λ call a. h call (inr a)) i d (omega (arith, l))

pub calls-below : (p : Parts) (good : IsGood p) (calls : List Called) → map told calls ≡ calls_of p → All (λ call. IsBelow (length p.kinds) (told call)) calls
calls-below p good calls is =
    each (IsBelow (length p.kinds)) calls (λ call a. is-below p good call (calls-are-of p (length p.commands + length p.events) call (subst (λ xs. Among call xs) is a)))
