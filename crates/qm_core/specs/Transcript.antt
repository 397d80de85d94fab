-- What a session is sent (this project's own rule). Lines stand without their CR LF.
use Rattle.std.specs.Prelude.{ℕ, ◌+◌, ◌==◌, nat_lt, Bool, not, if◌then◌else◌, ◌&&◌, List, [], ◌∷◌, ◌++◌, length, map, drop}
use Rattle.std.specs.List.{flat_map, list_any, take_while}
use Rattle.qm_json.specs.Printing.{printed}
use Rattle.qm_caps.specs.Greetings.{greeting_value}
use Rattle.qm_core.specs.{Standing.is_open, declared.TheConstants.MOST_UNTAKEN, declared.entries.Entry.Entry}
use Rattle.qm_core.specs.declared.entries.Entry.TheVariants.{Open, Done, OobDone, Take}

-- the lines on the wire, each ended by CR LF
abbrev pub wire_of : List (List ℕ) → List ℕ
wire_of lines = flat_map (λ line. line ++ 13 ∷ 10 ∷ []) lines

-- the lines that were handed out
abbrev pub taken_of : ℕ → List Entry → List (List ℕ)
taken_of s [] = []
taken_of s (Take t lines ∷ past) = if t == s then taken_of s past ++ lines else taken_of s past
taken_of s (e ∷ past) = taken_of s past

-- a line that may be sent, and whether it would bring the bytes that are untaken past their limit
pub record Candidate : Type 0 where
  pub line : List ℕ
  pub overruns : Bool

abbrev pub lines_in : List Candidate → List (List ℕ)
lines_in candidates = map (λ c. c.line) candidates

-- the bytes of all lines up to this one, without those that were handed out, pass the limit
abbrev pub passes_limit : List (List ℕ) → List (List ℕ) → List ℕ → Bool
passes_limit before taken line = nat_lt (length (wire_of taken) + MOST_UNTAKEN) (length (wire_of (before ++ line ∷ [])))

abbrev pub with_line : List Candidate → List (List ℕ) → List ℕ → List Candidate
with_line candidates taken line = candidates ++ record { line = line; overruns = passes_limit (lines_in candidates) taken line } ∷ []

-- the lines that may be sent: the greeting at its opening, and each reply to it while it is open
abbrev pub candidates_of : ℕ → List Entry → List Candidate
candidates_of s [] = []
candidates_of s (Open t ∷ past) =
    if t == s then with_line (candidates_of s past) (taken_of s past) (printed greeting_value) else candidates_of s past
candidates_of s (Done t k plan reply moment ∷ past) =
    if t == s && is_open s past then with_line (candidates_of s past) (taken_of s past) (printed reply) else candidates_of s past
candidates_of s (OobDone t k plan reply moment ∷ past) =
    if t == s && is_open s past then with_line (candidates_of s past) (taken_of s past) (printed reply) else candidates_of s past
candidates_of s (e ∷ past) = candidates_of s past

-- the transcript: the candidates before the first that overruns
abbrev pub transcript_of : ℕ → List Entry → List (List ℕ)
transcript_of s past = lines_in (take_while (λ c. not c.overruns) (candidates_of s past))

-- one of them overruns
abbrev pub has_overrun : ℕ → List Entry → Bool
has_overrun s past = list_any (λ c. c.overruns) (candidates_of s past)

-- the transcript without the lines that were handed out
abbrev pub untaken_of : ℕ → List Entry → List (List ℕ)
untaken_of s past = drop (length (taken_of s past)) (transcript_of s past)
