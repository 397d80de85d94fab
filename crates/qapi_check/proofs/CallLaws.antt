-- Commands and events: their places, and their names.
use Rattle.std.proofs.Common.{◌≡◌, ◌≤◌, ◌+◌, ℕ, Bool, true, false, cond, List, [], ◌∷◌, ◌++◌, map, refl, ap, arith, bytes_eq}
use Rattle.std.specs.List.{enumerate_from, filter, flat_map}
use Rattle.qapi_types.specs.declared.parts.{CommandDef.CommandDef, EventDef.EventDef}
use Rattle.qapi_types.specs.{Choices.AreApart, Choices.times, Goodness.AreDealt, Goodness.none, Goodness.first, Goodness.second, Goodness.command_places, Goodness.event_places}
use Rattle.qapi_types.proofs.ChoiceLaws.{times-append}
use Rattle.qapi_define.specs.declared.definition.{Definition.Definition, Sort.Sort}
use Rattle.qapi_define.specs.declared.definition.Sort.TheVariants as sorts
use Rattle.qapi_number.specs.declared.numbering.Numbering.{Numbering}
use Rattle.qapi_number.specs.Numbering.{numbering_of}
use Rattle.qapi_number.specs.PartsOf.{is_call_sort, command_in, commands_of, event_in, events_of}

abbrev Calls : Type 0
Calls = List (ℕ × (ℕ × Definition))

abbrev command_at : Numbering → ℕ × (ℕ × Definition) → List CommandDef
command_at n e = command_in n e.1.1.sort e.0 e.1.0 e.1.1

abbrev event_at : Numbering → ℕ × (ℕ × Definition) → List EventDef
event_at n e = event_in n e.1.1.sort e.0 e.1.0 e.1.1

abbrev is_call : ℕ × Definition → Bool
is_call e = is_call_sort e.1.sort

-- one more call at the front
next-dealt : (n : Numbering) (k at : ℕ) (s : Sort) (d : Definition) (cs : List CommandDef) (es : List EventDef) → is_call_sort s ≡ true → AreDealt (k + 1) (command_places cs) (event_places es) → AreDealt k (command_places (command_in n s k at d ++ cs)) (event_places (event_in n s k at d ++ es))
next-dealt n k at sorts.Command d cs es c h = first h
next-dealt n k at sorts.Event d cs es c h = second h
next-dealt n k at sorts.Enum d cs es c h = cc
next-dealt n k at sorts.Struct d cs es c h = cc
next-dealt n k at sorts.Union d cs es c h = cc
next-dealt n k at sorts.Alternate d cs es c h = cc

dealt : (n : Numbering) (k : ℕ) (ls : List (ℕ × Definition)) → AreDealt k (command_places (flat_map (command_at n) (enumerate_from k (filter is_call ls)))) (event_places (flat_map (event_at n) (enumerate_from k (filter is_call ls))))
dealt n k [] = none
dealt n k (l ∷ ls) = by_case (dealt n k ls) (dealt n (k + 1) ls) (is_call l) refl
  where
    by_case : AreDealt k (command_places (flat_map (command_at n) (enumerate_from k (filter is_call ls)))) (event_places (flat_map (event_at n) (enumerate_from k (filter is_call ls)))) →
        AreDealt (k + 1) (command_places (flat_map (command_at n) (enumerate_from (k + 1) (filter is_call ls)))) (event_places (flat_map (event_at n) (enumerate_from (k + 1) (filter is_call ls)))) →
        (b : Bool) → is_call l ≡ b → AreDealt k (command_places (flat_map (command_at n) (enumerate_from k (cond b (l ∷ filter is_call ls) (filter is_call ls))))) (event_places (flat_map (event_at n) (enumerate_from k (cond b (l ∷ filter is_call ls) (filter is_call ls)))))
    by_case here next true e = next-dealt n k l.0 l.1.sort l.1 (flat_map (command_at n) (enumerate_from (k + 1) (filter is_call ls))) (flat_map (event_at n) (enumerate_from (k + 1) (filter is_call ls))) e next
    by_case here next false e = here

-- each command and each event has its place
pub calls-dealt : (defs : List Definition) → AreDealt 0 (command_places (commands_of (numbering_of defs) defs)) (event_places (events_of (numbering_of defs) defs))
calls-dealt defs = dealt (numbering_of defs) 0 (enumerate_from 0 defs)

-- a name stands no more often among calls than among definitions

abbrev called : ℕ × Definition → List ℕ
called e = e.1.name

next-named : (n : Numbering) (k at : ℕ) (s : Sort) (d : Definition) (cs : List CommandDef) (es : List EventDef) (x : List ℕ) (m : ℕ) → times x (map (λ (c : CommandDef). c.name) cs) + times x (map (λ (e : EventDef). e.name) es) ≤ m →
    times x (map (λ (c : CommandDef). c.name) (command_in n s k at d ++ cs)) + times x (map (λ (e : EventDef). e.name) (event_in n s k at d ++ es)) ≤ cond (bytes_eq x d.name) 1 0 + m
next-named n k at sorts.Command d cs es x m h = omega (arith, h)
next-named n k at sorts.Event d cs es x m h = omega (arith, h)
next-named n k at sorts.Enum d cs es x m h = omega (arith, h)
next-named n k at sorts.Struct d cs es x m h = omega (arith, h)
next-named n k at sorts.Union d cs es x m h = omega (arith, h)
next-named n k at sorts.Alternate d cs es x m h = omega (arith, h)

named : (n : Numbering) (k : ℕ) (ls : List (ℕ × Definition)) (x : List ℕ) → times x (map (λ (c : CommandDef). c.name) (flat_map (command_at n) (enumerate_from k ls))) + times x (map (λ (e : EventDef). e.name) (flat_map (event_at n) (enumerate_from k ls))) ≤ times x (map called ls)
named n k [] x = omega arith
named n k (l ∷ ls) x = next-named n k l.0 l.1.sort l.1 (flat_map (command_at n) (enumerate_from (k + 1) ls)) (flat_map (event_at n) (enumerate_from (k + 1) ls)) x (times x (map called ls)) (named n (k + 1) ls x)

-- a name stands no more often among some things than among all
pub fewer : {A : Type 0} (name_of : A → List ℕ) (test : A → Bool) (xs : List A) (x : List ℕ) → times x (map name_of (filter test xs)) ≤ times x (map name_of xs)
fewer name_of test [] x = omega arith
fewer name_of test (y ∷ xs) x = by_case (fewer name_of test xs x) (test y)
  where
    by_case : times x (map name_of (filter test xs)) ≤ times x (map name_of xs) → (b : Bool) → times x (map name_of (cond b (y ∷ filter test xs) (filter test xs))) ≤ cond (bytes_eq x (name_of y)) 1 0 + times x (map name_of xs)
    by_case go true = omega (arith, go)
    by_case go false = omega (arith, go)

enumerated-names : (k : ℕ) (defs : List Definition) → map called (enumerate_from k defs) ≡ map (λ (d : Definition). d.name) defs
enumerated-names k [] = refl
enumerated-names k (d ∷ defs) = ap {A = List (List ℕ)} (λ l. d.name ∷ l) (enumerated-names (k + 1) defs)

pub calls-apart : (defs : List Definition) → AreApart (map (λ (d : Definition). d.name) defs) → AreApart (map (λ (c : CommandDef). c.name) (commands_of (numbering_of defs) defs) ++ map (λ (e : EventDef). e.name) (events_of (numbering_of defs) defs))
calls-apart defs apart x =
    let t = times-append x (map (λ (c : CommandDef). c.name) (commands_of (numbering_of defs) defs)) (map (λ (e : EventDef). e.name) (events_of (numbering_of defs) defs)) in
    let a = named (numbering_of defs) 0 (filter is_call (enumerate_from 0 defs)) x in
    let b = fewer called is_call (enumerate_from 0 defs) x in
    let c : times x (map called (enumerate_from 0 defs)) ≡ times x (map (λ (d : Definition). d.name) defs) = ap (times x) (enumerated-names 0 defs) in
    omega (arith, t, a, b, c, apart x)
