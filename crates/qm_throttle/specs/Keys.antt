-- The keys of events, and their order (this project's own rule).
use Rattle.std.specs.Prelude.{ℕ, Bool, cond, List, [], ◌∷◌, map, codes, slice_get, Option, Some, None, refl}
use Rattle.std.specs.{Cmp.IsTotalOrder, Cmp.then_total, Coded.Coded, Coded.code_by, Coded.coded×, Coded.coded_list, Coded.coded_ℕ}
use Rattle.std.specs.Cmp.Lexicographic.{slice_cmp, on_texts}
use Rattle.std.specs.{Ordering.nat_cmp, Ordering.ordering_then, Ordering.match_ordering, Ordering.is_eq, Str.bytes_eq}
use Rattle.std.specs.declared.cmp.Ordering.{Ordering}
use Rattle.qm_json.specs.{Members.member_of, Printing.printed, Printing.array_text, declared.value.Json.Json}
use Rattle.qm_plan.specs.declared.events.Period.{Period}

-- what windows are told apart by: the event's name, and the printed values of its key members
pub record Key : Type 0 where
  pub name : List ℕ
  pub printed : List ℕ

-- a key is stored as the pair of its fields
abbrev pub key_code : Coded Key
key_code = code_by (List ℕ × List ℕ) (coded× (coded_list coded_ℕ) (coded_list coded_ℕ)) (λ k. (k.name, k.printed)) (λ p. record { name = p.0; printed = p.1 }) (λ _. refl)

-- by event name, and then by the printed key, both by bytes
abbrev pub key_order : Key → Key → Ordering
key_order a b = ordering_then (slice_cmp nat_cmp a.name b.name) (slice_cmp nat_cmp a.printed b.printed)

-- that order is total
pub key_total : IsTotalOrder key_order
key_total = then_total (on_texts (λ k. k.name)) (on_texts (λ k. k.printed))

-- neither comes before the other
abbrev pub same_key : Key → Key → Bool
same_key a b = is_eq (key_order a b)

-- a key at its place among keys in order, each of which stands once
abbrev pub with_key : Key → List Key → List Key
with_key key [] = key ∷ []
with_key key (other ∷ keys) = match_ordering (key_order key other) (key ∷ other ∷ keys) (other ∷ keys) (other ∷ with_key key keys)

abbrev pub member_text : Option Json → List ℕ
member_text None = codes "null"
member_text (Some value) = printed value

-- the text of the value of a member, `null` for an absent one
abbrev pub value_text : Json → List ℕ → List ℕ
value_text payload name = member_text (member_of payload name)

-- the array of the values of these members
abbrev pub printed_key : List (List ℕ) → Json → List ℕ
printed_key names payload = array_text (map (value_text payload) names)

-- the key of an event by its period
abbrev pub key_by : Option Period → Json → Key
key_by None payload = record { name = []; printed = [] }
key_by (Some period) payload = record { name = period.name; printed = printed_key period.key payload }

-- the key of an event by its number and its data
abbrev pub key_of : List Period → ℕ → Json → Key
key_of periods event payload = key_by (slice_get periods event) payload

-- the period of the events of a name, 0 without one
abbrev pub period_of : List Period → List ℕ → ℕ
period_of [] name = 0
period_of (period ∷ periods) name = cond (bytes_eq period.name name) period.micros (period_of periods name)
