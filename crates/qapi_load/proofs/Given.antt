-- What a library gave under names.
use Rattle.std.proofs.Common.{◌≡◌, ℕ, Bool, true, false, cond, ◌||◌, List, [], ◌∷◌, ◌++◌, Option, Some, None, Result, refl, ap, sym, ◌∙◌}
use Rattle.std.specs.{Str.bytes_eq}
use Rattle.std.proofs.{Math.Bool.or-false, Math.Bool.or-true, lemmas.Option.none-some, lemmas.Option.same_Some, lemmas.Slice.Eq.bytes_eq-Decides}
use Rattle.std.proofs.lemmas.List.Folds.{list_any-append}
use Rattle.qm_base.specs.Names.{is_named}
use Rattle.qapi_load.specs.{Answers.AnswersFrom, Causes.IsAnswer, Files.NamedText, Files.text_of, Loading.sources_of, Steps.HaveTexts, Steps.OverFiles}
use Rattle.qapi_load.specs.declared.{fault.LoadFault.LoadFault, source.Source.Source}

-- what holds of all files
pub over_all : {tells : Option (List NamedText)} {names : List (List ℕ)} {Holds : List NamedText → Type 0} →
    ((files : List NamedText) → Holds files) → OverFiles tells names Holds
over_all all = record { text = λ name. None; told = λ files e. all files; given = λ files have. all files }

falls : (b : Bool) → (b ≡ true → true ≡ false) → b ≡ false
falls true h = h refl
falls false h = refl

itself : (name : List ℕ) → is_named (name ∷ []) name ≡ true
itself name = or-false (bytes_eq name name) ∙ (bytes_eq-Decides name name).1 refl

-- what holds of the text of a name
pub over_text : (tells : Option (List NamedText)) (name : List ℕ) (text : Option (List ℕ)) (Holds : Option (List ℕ) → Type 0) →
    ((files : List NamedText) → tells ≡ Some files → text ≡ text_of name files) → Holds text → OverFiles tells (name ∷ []) (λ files. Holds (text_of name files))
over_text tells name text Holds told here = record {
  text = λ other. text;
  told = λ files e. rw (← told files e) here;
  given = λ files have. rw (have name (itself name)) here;
}

-- what follows of it
pub over_so : {tells : Option (List NamedText)} {names others : List (List ℕ)} {P Q : List NamedText → Type 0} → names ≡ others →
    OverFiles tells names P → ((files : List NamedText) → P files → Q files) → OverFiles tells others Q
over_so e p f = record { text = p.text; told = λ files e. f files (p.told files e); given = λ files have. f files (p.given files (rw e have)) }

-- what follows for one name more
pub over_more : {tells now : Option (List NamedText)} {P Q R : List NamedText → Type 0} (names : List (List ℕ)) (name : List ℕ) (all : List (List ℕ)) →
    names ++ name ∷ [] ≡ all → is_named names name ≡ false → now ≡ tells → OverFiles tells names P → OverFiles now (name ∷ []) Q →
    ((files : List NamedText) → P files → Q files → R files) → OverFiles tells all R
over_more names name all whole new same p q f = rw (← whole) record {
  text = λ other. cond (bytes_eq other name) (q.text other) (p.text other);
  told = λ files e. f files (p.told files e) (q.told files (same ∙ e));
  given = λ files have. f files (p.given files (λ other e. before files other have e (unlike other e))) (q.given files (λ other e. last files other have e));
} where
  more : (other : List ℕ) → is_named (names ++ name ∷ []) other ≡ (is_named names other || (bytes_eq other name || false))
  more other = list_any-append (bytes_eq other) names (name ∷ [])

  unlike : (other : List ℕ) → is_named names other ≡ true → bytes_eq other name ≡ false
  unlike other e = falls (bytes_eq other name) (λ same. sym e ∙ ap (is_named names) ((bytes_eq-Decides other name).0 same) ∙ new)

  before : (files : List NamedText) (other : List ℕ) → HaveTexts (names ++ name ∷ []) (λ other. cond (bytes_eq other name) (q.text other) (p.text other)) files →
      is_named names other ≡ true → bytes_eq other name ≡ false → text_of other files ≡ p.text other
  before files other have e apart = have other (more other ∙ rw e refl) ∙ rw apart refl

  last : (files : List NamedText) (other : List ℕ) → HaveTexts (names ++ name ∷ []) (λ other. cond (bytes_eq other name) (q.text other) (p.text other)) files →
      is_named (name ∷ []) other ≡ true → text_of other files ≡ q.text other
  last files other have e = have other (more other ∙ rw e (or-true (is_named names other))) ∙ rw (sym (or-false (bytes_eq other name)) ∙ e) refl

-- files with these texts under names
abbrev with_text : List ℕ → Option (List ℕ) → List NamedText → List NamedText
with_text name None files = files
with_text name (Some text) files = record { name = name; text = text } ∷ files

abbrev with_texts : List (List ℕ) → (List ℕ → Option (List ℕ)) → List NamedText
with_texts [] text = []
with_texts (name ∷ names) text = with_text name (text name) (with_texts names text)

same_cond : {A : Type 0} (b : Bool) (x : A) → cond b x x ≡ x
same_cond true x = refl
same_cond false x = refl

text_among : (names : List (List ℕ)) (text : List ℕ → Option (List ℕ)) (name : List ℕ) →
    text_of name (with_texts names text) ≡ cond (is_named names name) (text name) None
text_among [] text name = refl
text_among (n ∷ names) text name = by_case (text_among names text name) (bytes_eq name n) (text n) refl refl where
  by_case : text_of name (with_texts names text) ≡ cond (is_named names name) (text name) None → (b : Bool) (t : Option (List ℕ)) → bytes_eq name n ≡ b → text n ≡ t →
      text_of name (with_text n t (with_texts names text)) ≡ cond (b || is_named names name) (text name) None
  by_case rest true None e h =
      let none : text name ≡ None = ap text ((bytes_eq-Decides name n).0 e) ∙ h in
      rest ∙ rw none (same_cond (is_named names name) None)
  by_case rest true (Some t) e h =
      let same : name ≡ n = (bytes_eq-Decides name n).0 e in
      rw ((bytes_eq-Decides n name).1 (sym same)) (sym (ap text same ∙ h))
  by_case rest false None e h = rest
  by_case rest false (Some t) e h =
      rw (falls (bytes_eq n name) (λ same. sym ((bytes_eq-Decides name n).1 (sym ((bytes_eq-Decides n name).0 same))) ∙ e)) rest

-- so there are files of which the answer is the right one
pub answers : (tells : Option (List NamedText)) (names : List (List ℕ)) (main : List ℕ) (result : Result (List Source) LoadFault) →
    OverFiles tells names (λ files. IsAnswer result → result ≡ sources_of files main) → AnswersFrom tells main result
answers (Some told) names main result p = record { files = told; told = λ other e. same_Some told other e; answer = p.told told refl }
answers None names main result p = record {
  files = with_texts names p.text;
  told = λ told e. absurd (none-some told e);
  answer = p.given (with_texts names p.text) (λ name e. text_among names p.text name ∙ rw e refl);
}
