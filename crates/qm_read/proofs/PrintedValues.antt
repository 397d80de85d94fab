-- The printed text of a clean value is read as the value.
use Rattle.std.proofs.Common.{◌≡◌, ℕ, ◌+◌, ◌≤◌, zero, suc, true, false, List, [], ◌∷◌, ◌++◌, map, codes, Result, Ok, refl, ap, sym, ◌∙◌, subst, arith, append_assoc, append-nil, Bool, not, cond, length, Some, None}
use Rattle.std.specs.{List.list_all, List.flat_map, List.AllByRecursion, Str.is_utf8, Fmt.signed_decimal, Str.Parse.signed_digits_value}
use Rattle.std.proofs.lemmas.{Bool.and_parts, Bool.cond-true, Bool.cond-false, Bool.not-true, Str.IsUtf8-from_is_utf8}
use Rattle.qm_json.specs.{declared.value.Json.Json, declared.value.Member.Member, Printing.printed, Printing.printed_member, Printing.after_comma, Printing.array_text, Printing.object_text}
use Rattle.qm_json.specs.declared.value.Json.TheVariants as json
use Rattle.qm_json.specs.{Cleanness.is_clean, Cleanness.is_clean_member, Cleanness.are_distinct, Cleanness.IsClean, Members.has_name}
use Rattle.qm_json.specs.{Strings.quoted, Nesting.depth, Nesting.depth_member, Nesting.deepest}
use Rattle.qm_json.proofs.CleanLaws.{is_clean_member-is, is_clean-Int, is_clean-Num, is_clean-Str, is_clean-Arr, is_clean-Obj}
use Rattle.qm_json.proofs.PrintLaws.{printed_member-is, printed-Null, printed-Bool, printed-Int, printed-Num, printed-Str, printed-Arr, printed-Obj}
use Rattle.qm_read.specs.declared.{fault.JsonFault.JsonFault, stack.Open.Open, stack.Open.TheVariants.Arr, stack.Open.TheVariants.Obj, stack.Open.TheVariants.Top, stack.Expect.Expect}
use Rattle.qm_read.specs.declared.token.Token.TheVariants as tokens
use Rattle.qm_read.specs.declared.stack.Expect.TheVariants.{Value, ValueOrEnd, Name, NameOrEnd, Colon, CommaOrEnd}
use Rattle.qm_read.specs.{Stacks.State, Stacks.takes_value, Stacks.takes_name, Stacks.put, Stacks.begun, Steps.step, Steps.value_step}
use Rattle.qm_read.specs.{Faults.ended, Faults.reading_within, Faults.reading_of, Tokens.tokens_from, Tokens.number_token, Tokens.literal_token, Tokens.tokens_of}
use Rattle.qm_json.proofs.{Distinct.names, Distinct.new-name, NestingLaws.depth_member-is, NestingLaws.depth-Arr, NestingLaws.depth-Obj}
use Rattle.qm_read.proofs.Accepts.{going, Room, opens_array, opens_object, deeper, not_name}
use Rattle.qm_read.proofs.Pieces.{Leads, read_from, ends_run, string-leads, space-leads, comma-leads, commas-end, number-leads, null-leads, bool-leads}
use Rattle.std.specs.Prelude.{ℤ}
use Rattle.qm_json.specs.Numbers.{is_literal, is_whole_literal, is_in_whole_range}
use Rattle.qm_json.proofs.{Wholes.whole_of-printed, Wholes.literal-printed, Inductions.Inductive, Inductions.every-Json}
use Rattle.qm_frame.specs.declared.step.TheConstants.{MAX_DEPTH}
use Rattle.qm_read.specs.{declared.token.Token.Token, Texts.SpellsWithin}
use Rattle.qm_read.proofs.{NumberBytes.literal-run, Results.value_spelled}

module _ (limit n : ℕ) (answer : Result Json JsonFault) where
  -- from the state the text leads to the answer
  abbrev pub On : State → List ℕ → Type 0
  On s text = Leads limit n answer s text

  -- the printed text of a clean value leads as the value itself does
  abbrev pub IsRead : Json → Type 0
  IsRead v = is_clean v ≡ true → (d : ℕ) → depth v ≤ d → (next : Open) (outer : List Open) (e : Expect) (rest : List ℕ) → takes_value e ≡ true → Room limit d (next ∷ outer) → ends_run rest ≡ true →
      On (put v (next ∷ outer)) rest → On (going (next ∷ outer) e) (printed v ++ rest)

  -- a name, and the value after it
  name-step : (done : List Member) (name : List ℕ) (stack : List Open) (e : Expect) → takes_name e ≡ true → has_name done name ≡ false → (place : ℕ) → step limit (going (Obj done [] ∷ stack) e) (tokens.Str name) place ≡ Ok (going (Obj done name ∷ stack) Colon)
  name-step done name stack e t h place = cond-true _ _ _ t ∙ cond-false _ _ _ h

  member-text : (m : Member) (rest : List ℕ) → printed_member m ++ rest ≡ quoted m.name ++ (58 ∷ 32 ∷ printed m.value ++ rest)
  member-text m rest =
      ap (λ (l : List ℕ). l ++ rest) (printed_member-is m)
      ∙ append_assoc (quoted m.name ++ codes ": ") (printed m.value) rest
      ∙ append_assoc (quoted m.name) (codes ": ") (printed m.value ++ rest)

  member-leads : (d : ℕ) (m : Member) (done : List Member) (stack : List Open) (e : Expect) (rest : List ℕ) → IsRead m.value → is_clean_member m ≡ true → depth_member m ≤ d → has_name done m.name ≡ false → takes_name e ≡ true → Room limit d (Arr [] ∷ stack) → ends_run rest ≡ true →
      On (going (Obj (done ++ m ∷ []) [] ∷ stack) CommaOrEnd) rest → On (going (Obj done [] ∷ stack) e) (printed_member m ++ rest)
  member-leads d m done stack e rest h clean deep new t room k leads =
      let parts = and_parts (is_utf8 m.name) (is_clean m.value) (sym (is_clean_member-is m) ∙ clean) in
      subst (On (going (Obj done [] ∷ stack) e)) (sym (member-text m rest))
      (string-leads limit n answer m.name (going (Obj done [] ∷ stack) e) (going (Obj done m.name ∷ stack) Colon) (58 ∷ 32 ∷ printed m.value ++ rest) (IsUtf8-from_is_utf8 m.name parts.0) (name-step done m.name stack e t new)
      (λ place. space-leads limit n answer (going (Obj done m.name ∷ stack) Value) (printed m.value ++ rest) (h parts.1 d (omega (arith, deep, depth_member-is m)) (Obj done m.name) stack Value rest refl room k leads) (place + 1)))

  -- an array or an object in what is open, and a text after it
  module _ (next : Open) (outer : List Open) (rest : List ℕ) where
    abbrev Inner : Open → List Open
    Inner top = top ∷ next ∷ outer

    items-lead : (d : ℕ) (items done : List Json) → AllByRecursion IsRead items → list_all is_clean items ≡ true → deepest (map depth items) ≤ d → Room limit d (Inner (Arr [])) →
        On (put (json.Arr (done ++ items)) (next ∷ outer)) rest → On (going (Inner (Arr done)) CommaOrEnd) (flat_map after_comma (map printed items) ++ 93 ∷ rest)
    items-lead d [] done hs clean deep room leads = λ place. subst (λ (l : List Json). On (put (json.Arr l) (next ∷ outer)) rest) (append-nil done) leads (place + 1)
    items-lead d (v ∷ items) done hs clean deep room leads =
        let parts = and_parts (is_clean v) (list_all is_clean items) clean in
        let after : List ℕ = flat_map after_comma (map printed items) ++ 93 ∷ rest in
        comma-leads limit n answer (Inner (Arr done)) (printed v) (map printed items) (93 ∷ rest)
        (hs.0 parts.0 d (omega (arith, deep)) (Arr done) (next ∷ outer) Value after refl room (commas-end (map printed items) (93 ∷ rest) refl)
        (items-lead d items (done ++ v ∷ []) hs.1 parts.1 (omega (arith, deep)) room
        (subst (λ (l : List Json). On (put (json.Arr l) (next ∷ outer)) rest) (sym (append_assoc done (v ∷ []) items)) leads)))

    members-lead : (d : ℕ) (members done : List Member) → AllByRecursion (λ (m : Member). IsRead m.value) members → list_all is_clean_member members ≡ true → are_distinct (names (done ++ members)) ≡ true → deepest (map depth_member members) ≤ d → Room limit d (Inner (Arr [])) →
        On (put (json.Obj (done ++ members)) (next ∷ outer)) rest → On (going (Inner (Obj done [])) CommaOrEnd) (flat_map after_comma (map printed_member members) ++ 125 ∷ rest)
    members-lead d [] done hs clean distinct deep room leads = λ place. subst (λ (l : List Member). On (put (json.Obj l) (next ∷ outer)) rest) (append-nil done) leads (place + 1)
    members-lead d (m ∷ members) done hs clean distinct deep room leads =
        let parts = and_parts (is_clean_member m) (list_all is_clean_member members) clean in
        let all : done ++ m ∷ members ≡ (done ++ m ∷ []) ++ members = sym (append_assoc done (m ∷ []) members) in
        let after : List ℕ = flat_map after_comma (map printed_member members) ++ 125 ∷ rest in
        comma-leads limit n answer (Inner (Obj done [])) (printed_member m) (map printed_member members) (125 ∷ rest)
        (member-leads d m done (next ∷ outer) Name after hs.0 parts.0 (omega (arith, deep)) (new-name done m members distinct) refl room (commas-end (map printed_member members) (125 ∷ rest) refl)
        (members-lead d members (done ++ m ∷ []) hs.1 parts.1 (subst (λ (l : List Member). are_distinct (names l) ≡ true) all distinct) (omega (arith, deep)) room
        (subst (λ (l : List Member). On (put (json.Obj l) (next ∷ outer)) rest) all leads)))

    -- the text after an opening bracket
    first-text : (text more : List ℕ) (close : ℕ) → ((text ++ more) ++ close ∷ []) ++ rest ≡ text ++ (more ++ close ∷ rest)
    first-text text more close = append_assoc (text ++ more) (close ∷ []) rest ∙ append_assoc text more (close ∷ rest)

    pub array-leads : (d : ℕ) (items : List Json) (e : Expect) → AllByRecursion IsRead items → list_all is_clean items ≡ true → deepest (map depth items) + 1 ≤ d → takes_value e ≡ true → Room limit d (next ∷ outer) →
        On (put (json.Arr items) (next ∷ outer)) rest → On (going (next ∷ outer) e) (array_text (map printed items) ++ rest)
    array-leads zero items e hs clean deep t room leads = absurd (omega (arith, deep))
    array-leads (suc d) [] e hs clean deep t room leads = λ place.
        ap (λ (r : Result State JsonFault). ended r n) (opens_array limit d (next ∷ outer) e place (tokens_from (place + 1) (93 ∷ rest)) t room) ∙ leads (place + 1 + 1)
    array-leads (suc d) (v ∷ items) e hs clean deep t room leads = λ place.
        let parts = and_parts (is_clean v) (list_all is_clean items) clean in
        let inside : Room limit d (Inner (Arr [])) = deeper limit d (next ∷ outer) (Arr []) room in
        let more : List ℕ = flat_map after_comma (map printed items) in
        ap (λ (l : List ℕ). read_from limit n answer (going (next ∷ outer) e) place (91 ∷ l)) (first-text (printed v) more 93)
        ∙ ap (λ (r : Result State JsonFault). ended r n) (opens_array limit d (next ∷ outer) e place (tokens_from (place + 1) (printed v ++ (more ++ 93 ∷ rest))) t room)
        ∙ hs.0 parts.0 d (omega (arith, deep)) (Arr []) (next ∷ outer) ValueOrEnd (more ++ 93 ∷ rest) refl inside (commas-end (map printed items) (93 ∷ rest) refl)
        (items-lead d items (v ∷ []) hs.1 parts.1 (omega (arith, deep)) inside leads) (place + 1)

    pub object-leads : (d : ℕ) (members : List Member) (e : Expect) → AllByRecursion (λ (m : Member). IsRead m.value) members → list_all is_clean_member members ≡ true → are_distinct (names members) ≡ true → deepest (map depth_member members) + 1 ≤ d → takes_value e ≡ true → Room limit d (next ∷ outer) →
        On (put (json.Obj members) (next ∷ outer)) rest → On (going (next ∷ outer) e) (object_text (map printed_member members) ++ rest)
    object-leads zero members e hs clean distinct deep t room leads = absurd (omega (arith, deep))
    object-leads (suc d) [] e hs clean distinct deep t room leads = λ place.
        ap (λ (r : Result State JsonFault). ended r n) (opens_object limit d (next ∷ outer) e place (tokens_from (place + 1) (125 ∷ rest)) t room) ∙ leads (place + 1 + 1)
    object-leads (suc d) (m ∷ members) e hs clean distinct deep t room leads = λ place.
        let parts = and_parts (is_clean_member m) (list_all is_clean_member members) clean in
        let inside : Room limit d (Inner (Arr [])) = deeper limit d (next ∷ outer) (Arr []) room in
        let more : List ℕ = flat_map after_comma (map printed_member members) in
        ap (λ (l : List ℕ). read_from limit n answer (going (next ∷ outer) e) place (123 ∷ l)) (first-text (printed_member m) more 125)
        ∙ ap (λ (r : Result State JsonFault). ended r n) (opens_object limit d (next ∷ outer) e place (tokens_from (place + 1) (printed_member m ++ (more ++ 125 ∷ rest))) t room)
        ∙ member-leads d m [] (next ∷ outer) NameOrEnd (more ++ 125 ∷ rest) hs.0 parts.0 (omega (arith, deep)) refl refl inside (commas-end (map printed_member members) (125 ∷ rest) refl)
        (members-lead d members (m ∷ []) hs.1 parts.1 distinct (omega (arith, deep)) inside leads) (place + 1)

-- the literal of a whole number, and any other literal
int-token : (n : ℤ) (place : ℕ) → is_in_whole_range n ≡ true → number_token place (signed_decimal n) ≡ tokens.Int n
int-token n place h = cond-true (is_literal (signed_decimal n)) _ _ (literal-printed n h) ∙ ap (literal_token (signed_decimal n)) (whole_of-printed n h)

num-token : (text : List ℕ) (place : ℕ) → is_literal text ≡ true → is_whole_literal text ≡ false → number_token place text ≡ tokens.Num text
num-token text place h k = cond-true (is_literal text) _ _ h ∙ ap (λ (b : Bool). literal_token text (cond b (Some (signed_digits_value 10 text)) None)) k

value-step : (v : Json) (stack : List Open) (e : Expect) → takes_value e ≡ true → (place : ℕ) → value_step (going stack e) v place ≡ Ok (put v stack)
value-step v stack e t place = cond-true _ _ _ t

string-step : (limit : ℕ) (bytes : List ℕ) (stack : List Open) (e : Expect) → takes_value e ≡ true → (place : ℕ) → step limit (going stack e) (tokens.Str bytes) place ≡ Ok (put (json.Str bytes) stack)
string-step limit bytes stack e t place = cond-false _ _ _ (not_name e t) ∙ value-step (json.Str bytes) stack e t place

module _ (limit n : ℕ) (answer : Result Json JsonFault) where
  -- the same of a value by its printed text
  by-text : (v : Json) (text : List ℕ) (s : State) (rest : List ℕ) → printed v ≡ text → On limit n answer s (text ++ rest) → On limit n answer s (printed v ++ rest)
  by-text v text s rest is leads = subst (λ (l : List ℕ). On limit n answer s (l ++ rest)) (sym is) leads

  by-number : (v : Json) (text : List ℕ) (token : Token) (s next : State) (rest : List ℕ) → printed v ≡ text → is_literal text ≡ true → ((place : ℕ) → number_token place text ≡ token) → ((place : ℕ) → step limit s token place ≡ Ok next) → ends_run rest ≡ true → On limit n answer next rest → On limit n answer s (printed v ++ rest)
  by-number v text token s next rest is literal same e k leads =
      by-text v text s rest is (number-leads limit n answer text s next rest (literal-run text literal) (λ place. ap (λ (t : Token). step limit s t place) (same place) ∙ e place) k leads)

  reads-each : Inductive (IsRead limit n answer)
  reads-each = record {
    null = λ clean d deep next outer e rest t room k leads.
        by-text json.Null _ (going (next ∷ outer) e) rest printed-Null
        (null-leads limit n answer (going (next ∷ outer) e) (put json.Null (next ∷ outer)) rest (value-step json.Null (next ∷ outer) e t) k leads);
    bool = λ b clean d deep next outer e rest t room k leads.
        by-text (json.Bool b) _ (going (next ∷ outer) e) rest (printed-Bool b)
        (bool-leads limit n answer b (going (next ∷ outer) e) (put (json.Bool b) (next ∷ outer)) rest (value-step (json.Bool b) (next ∷ outer) e t) k leads);
    int = λ number clean d deep next outer e rest t room k leads.
        let within : is_in_whole_range number ≡ true = sym (is_clean-Int number) ∙ clean in
        by-number (json.Int number) (signed_decimal number) (tokens.Int number) (going (next ∷ outer) e) (put (json.Int number) (next ∷ outer)) rest (printed-Int number) (literal-printed number within)
        (λ place. int-token number place within) (value-step (json.Int number) (next ∷ outer) e t) k leads;
    num = λ text clean d deep next outer e rest t room k leads.
        let parts = and_parts (is_literal text) (not (is_whole_literal text)) (sym (is_clean-Num text) ∙ clean) in
        by-number (json.Num text) text (tokens.Num text) (going (next ∷ outer) e) (put (json.Num text) (next ∷ outer)) rest (printed-Num text) parts.0
        (λ place. num-token text place parts.0 (not-true _ parts.1)) (value-step (json.Num text) (next ∷ outer) e t) k leads;
    string = λ bytes clean d deep next outer e rest t room k leads.
        by-text (json.Str bytes) _ (going (next ∷ outer) e) rest (printed-Str bytes)
        (string-leads limit n answer bytes (going (next ∷ outer) e) (put (json.Str bytes) (next ∷ outer)) rest (IsUtf8-from_is_utf8 bytes (sym (is_clean-Str bytes) ∙ clean)) (string-step limit bytes (next ∷ outer) e t) leads);
    array = λ items hs clean d deep next outer e rest t room k leads.
        by-text (json.Arr items) _ (going (next ∷ outer) e) rest (printed-Arr items)
        (array-leads limit n answer next outer rest d items e hs (sym (is_clean-Arr items) ∙ clean) (omega (arith, deep, depth-Arr items)) t room leads);
    object = λ members hs clean d deep next outer e rest t room k leads.
        let parts = and_parts (are_distinct (names members)) (list_all is_clean_member members) (sym (is_clean-Obj members) ∙ clean) in
        by-text (json.Obj members) _ (going (next ∷ outer) e) rest (printed-Obj members)
        (object-leads limit n answer next outer rest d members e hs parts.1 parts.0 (omega (arith, deep, depth-Obj members)) t room leads);
  }

pub printed_within : (limit : ℕ) (v : Json) → IsClean v → depth v ≤ limit → reading_within limit (printed v) ≡ Ok v
unfolding reading_within tokens_of
printed_within limit v clean deep =
    let n : ℕ = length (printed v) in
    ap (λ (l : List ℕ). read_from limit n (Ok v) begun 0 l) (sym (append-nil (printed v)))
    ∙ every-Json (IsRead limit n (Ok v)) (reads-each limit n (Ok v)) v clean limit deep Top [] Value [] refl (omega arith) refl (λ place. refl) 0

pub printed_value : (v : Json) → IsClean v → depth v ≤ MAX_DEPTH → reading_of (printed v) ≡ Ok v
printed_value v clean deep = printed_within MAX_DEPTH v clean deep

-- the printed text of a clean value, nested no deeper than the limit, spells the value
pub printed_spells : (limit : ℕ) (v : Json) → IsClean v → depth v ≤ limit → SpellsWithin limit (printed v) v
printed_spells limit v clean deep = value_spelled limit (printed v) v (printed_within limit v clean deep)
