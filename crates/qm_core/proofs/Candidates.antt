-- The lines that a session may be sent, and one more.
use Rattle.std.proofs.Common.{◌≡◌, ℕ, ◌+◌, nat_le, nat_lt, Bool, true, false, not, cond, ◌&&◌, ◌||◌, List, [], ◌∷◌, ◌++◌, length, refl, ap, sym, ◌∙◌, subst, append_assoc, arith}
use Rattle.std.specs.List.{list_any, take_while}
use Rattle.std.proofs.{Math.Bool.or-false, lemmas.Bool.Decides.nat_tests, lemmas.List.Folds.list_any-append}
use Rattle.std.proofs.lemmas.List.Sums.{take_while-cons}
use Rattle.qm_core.specs.{Sessions.fits, Transcript.Candidate, Transcript.lines_in, Transcript.passes_limit, Transcript.with_line, Transcript.wire_of, declared.TheConstants.MOST_UNTAKEN}
use Rattle.qm_core.proofs.Texts.{wire-append}

-- the lines before the first that overruns
abbrev pub kept_lines : List Candidate → List (List ℕ)
kept_lines candidates = lines_in (take_while (λ c. not c.overruns) candidates)

abbrev pub any_overruns : List Candidate → Bool
any_overruns candidates = list_any (λ c. c.overruns) candidates

kept-cons : (c : Candidate) (cs : List Candidate) → kept_lines (c ∷ cs) ≡ cond c.overruns [] (c.line ∷ kept_lines cs)
kept-cons c cs = ap lines_in (take_while-cons (λ c. not c.overruns) c cs) ∙ either c.overruns where
  either : (b : Bool) → lines_in (cond (not b) (c ∷ take_while (λ c. not c.overruns) cs) []) ≡ cond b [] (c.line ∷ kept_lines cs)
  either true = refl
  either false = refl

-- where none overruns, all are kept
kept-all : (cs : List Candidate) → any_overruns cs ≡ false → kept_lines cs ≡ lines_in cs
kept-all [] none = refl
kept-all (c ∷ cs) none = kept-cons c cs ∙ first c.overruns none (kept-all cs) where
  first : (b : Bool) → (b || any_overruns cs) ≡ false → (any_overruns cs ≡ false → kept_lines cs ≡ lines_in cs) → cond b [] (c.line ∷ kept_lines cs) ≡ c.line ∷ lines_in cs
  first true h more = absurd cc
  first false h more = ap (λ l. c.line ∷ l) (more h)

one_more : (o any b : Bool) (head : List ℕ) (kept more : List (List ℕ)) (line : List ℕ) → more ≡ cond (not any && not b) (kept ++ line ∷ []) kept →
    cond o [] (head ∷ more) ≡ cond (not (o || any) && not b) (cond o [] (head ∷ kept) ++ line ∷ []) (cond o [] (head ∷ kept))
one_more true any b head kept more line e = refl
one_more false true b head kept more line e = ap (λ l. head ∷ l) e
one_more false false true head kept more line e = ap (λ l. head ∷ l) e
one_more false false false head kept more line e = ap (λ l. head ∷ l) e

-- one more is kept where none overran, and it does not
kept-more : (cs : List Candidate) (line : List ℕ) (b : Bool) →
    kept_lines (cs ++ record { line = line; overruns = b } ∷ []) ≡ cond (not (any_overruns cs) && not b) (kept_lines cs ++ line ∷ []) (kept_lines cs)
kept-more [] line true = refl
kept-more [] line false = refl
kept-more (c ∷ cs) line b =
    let last : Candidate = record { line = line; overruns = b } in
    subst (λ (k : List (List ℕ)). kept_lines (c ∷ (cs ++ last ∷ [])) ≡ cond (not (c.overruns || any_overruns cs) && not b) (k ++ line ∷ []) k) (sym (kept-cons c cs))
    (kept-cons c (cs ++ last ∷ []) ∙ one_more c.overruns (any_overruns cs) b c.line (kept_lines cs) (kept_lines (cs ++ last ∷ [])) line (kept-more cs line b))

past_limit : (taken untaken most : ℕ) → nat_lt (taken + most) (taken + untaken) ≡ not (nat_le untaken most)
past_limit taken untaken most = grind (arith, nat_tests)

-- where none overran, a line overruns where it does not fit behind those that are untaken
passes : (cs : List Candidate) (taken untaken : List (List ℕ)) (line : List ℕ) → any_overruns cs ≡ false → taken ++ untaken ≡ kept_lines cs →
    passes_limit (lines_in cs) taken line ≡ not (fits untaken line)
passes cs taken untaken line none whole =
    let all : lines_in cs ≡ taken ++ untaken = sym (kept-all cs none) ∙ sym whole in
    let bytes : length (wire_of (lines_in cs ++ line ∷ [])) ≡ length (wire_of taken) + length (wire_of (untaken ++ line ∷ [])) =
    ap (λ (l : List (List ℕ)). length (wire_of (l ++ line ∷ []))) all ∙ ap (λ (l : List (List ℕ)). length (wire_of l)) (append_assoc taken untaken (line ∷ [])) ∙ wire-append taken (untaken ++ line ∷ []) in
    ap (λ (n : ℕ). nat_lt (length (wire_of taken) + MOST_UNTAKEN) n) bytes ∙ past_limit (length (wire_of taken)) (length (wire_of (untaken ++ line ∷ []))) MOST_UNTAKEN

-- whether one overruns, after one more line
pub overruns-more : (cs : List Candidate) (taken untaken : List (List ℕ)) (line : List ℕ) → taken ++ untaken ≡ kept_lines cs →
    any_overruns (with_line cs taken line) ≡ (any_overruns cs || not (fits untaken line))
overruns-more cs taken untaken line whole =
    let b = passes_limit (lines_in cs) taken line in
    list_any-append (λ c. c.overruns) cs (record { line = line; overruns = b } ∷ []) ∙ ap (λ (o : Bool). any_overruns cs || o) (or-false b)
    ∙ either (any_overruns cs) b (λ none. passes cs taken untaken line none whole) where
      either : (any b : Bool) → (any ≡ false → b ≡ not (fits untaken line)) → (any || b) ≡ (any || not (fits untaken line))
      either true b h = refl
      either false b h = h refl

-- the lines before the first that overruns, after one more line
pub lines-more : (cs : List Candidate) (taken untaken : List (List ℕ)) (line : List ℕ) → taken ++ untaken ≡ kept_lines cs →
    kept_lines (with_line cs taken line) ≡ cond (not (any_overruns cs) && fits untaken line) (kept_lines cs ++ line ∷ []) (kept_lines cs)
lines-more cs taken untaken line whole =
    let b = passes_limit (lines_in cs) taken line in
    kept-more cs line b ∙ ap (λ (t : Bool). cond t (kept_lines cs ++ line ∷ []) (kept_lines cs)) (either (any_overruns cs) b (fits untaken line) (λ none. passes cs taken untaken line none whole)) where
      twice : (f : Bool) → not (not f) ≡ f
      twice true = refl
      twice false = refl

      either : (any b f : Bool) → (any ≡ false → b ≡ not f) → (not any && not b) ≡ (not any && f)
      either true b f h = refl
      either false b f h = ap not (h refl) ∙ twice f
