-- The pieces of a text with one more byte.
use Rattle.std.proofs.Common.{◌≡◌, ℕ, ◌+◌, ◌<◌, ◌==◌, Bool, true, false, not, cond, ◌&&◌, suc, List, [], ◌∷◌, ◌++◌, length, Option, Some, None, position, refl, ap, sym, ◌∙◌, subst, arith}
use Rattle.std.specs.Option.{option_or}
use Rattle.qm_base.specs.Search.{Front, Piece, Final, Found, after_front, joined, Grows}
use Rattle.qm_base.proofs.SearchLemmas.{cond-grows, found_after-more}
use Rattle.qm_frame.specs.declared.piece.LastPiece.{LastPiece, TheVariants.Whole, TheVariants.Number, TheVariants.Word, TheVariants.Str, TheVariants.Escape, TheVariants.Broken}
use Rattle.qm_frame.specs.Bytes.{is_single, begins_number, in_number, is_letter, is_quote, is_barred}
use Rattle.qm_frame.specs.{Pieces.run_to, Pieces.one_later, Pieces.quoted, Pieces.piece, Pieces.pieces, Machine.ends_in, Machine.begun, Machine.moved}
use Rattle.qm_frame.proofs.Positions.{position-more, position-below}

abbrev Next : ℕ → ℕ → Front ℕ LastPiece → Front ℕ LastPiece → Type 0
Next n x f g = Grows moved Whole n x f g

-- runs
run-ends : (last : LastPiece) (b : Bool) (n x : ℕ) → moved last x ≡ cond b (ends_in last) (begun x) → Next n x (Final [] last) (run_to last (cond (not b) (Some n) None))
run-ends last true n x e = λ go here gone. sym e
run-ends last false n x e = λ go here gone. here ∙ sym e

run-grows : (b : Bool) (last : LastPiece) (n x : ℕ) (o : Option ℕ) → ((m : ℕ) → o ≡ Some m → m < n) → moved last x ≡ cond b (ends_in last) (begun x) → Next n x (run_to last o) (run_to last (option_or o (cond (not b) (Some n) None)))
run-grows b last n x (Some m) h e = (refl, omega (arith, h m refl))
run-grows b last n x None h e = run-ends last b n x e

run_to-grows : (p : ℕ → Bool) (last : LastPiece) (rest : List ℕ) (x : ℕ) → moved last x ≡ cond (p x) (ends_in last) (begun x) → Next (length rest) x (run_to last (position (λ y. not (p y)) rest)) (run_to last (position (λ y. not (p y)) (rest ++ x ∷ [])))
run_to-grows p last rest x e =
    subst (λ (o : Option ℕ). Next (length rest) x (run_to last (position (λ y. not (p y)) rest)) (run_to last o)) (sym (position-more (λ y. not (p y)) rest x))
    (run-grows (p x) last (length rest) x (position (λ y. not (p y)) rest) (position-below (λ y. not (p y)) rest) e)

-- strings
after-later : (g : Front ℕ LastPiece) (go : ℕ → Found ℕ LastPiece) → after_front (one_later g) go ≡ after_front g (λ k. go (k + 1))
after-later (Piece answers k) go = refl
after-later (Final answers last) go = refl

later-grows : (n x : ℕ) (f g : Front ℕ LastPiece) → Next n x f g → Next (suc n) x (one_later f) (one_later g)
later-grows n x (Piece answers k) g h = (ap one_later h.0, omega (arith, h.1))
later-grows n x (Final answers last) g h = λ go here gone.
    let one : n + 1 ≡ suc n = omega arith in
    let two : n + 1 + 1 ≡ suc n + 1 = omega arith in
    after-later g go ∙ h (λ k. go (k + 1)) (rw one here) (rw two gone)

string-ends : (barred closing backslash : Bool) (quote x : ℕ) → moved (Str quote) x ≡ cond barred (ends_in Broken) (cond closing (ends_in Whole) (cond backslash (ends_in (Escape quote)) (ends_in (Str quote)))) → Next 0 x (Final [] (Str quote)) (cond barred (Final [] Broken) (cond closing (Piece [] 1) (Final [] (cond backslash (Escape quote) (Str quote)))))
string-ends true closing backslash quote x e = λ go here gone. sym e
string-ends false true backslash quote x e = λ go here gone. gone ∙ sym e
string-ends false false true quote x e = λ go here gone. sym e
string-ends false false false quote x e = λ go here gone. sym e

escape-ends : (barred : Bool) (quote x : ℕ) → moved (Escape quote) x ≡ cond barred (ends_in Broken) (ends_in (Str quote)) → Next 0 x (Final [] (Escape quote)) (cond barred (Final [] Broken) (Final [] (Str quote)))
escape-ends true quote x e = λ go here gone. sym e
escape-ends false quote x e = λ go here gone. sym e

quoted-grows : (quote : ℕ) (escaped : Bool) (text : List ℕ) (x : ℕ) → Next (length text) x (quoted quote escaped text) (quoted quote escaped (text ++ x ∷ []))
quoted-grows quote true [] x = escape-ends (is_barred x) quote x refl
quoted-grows quote false [] x = string-ends (is_barred x) (x == quote) (x == 92) quote x refl
quoted-grows quote escaped (y ∷ text) x =
    let later = quoted-grows quote (not escaped && y == 92) text x in
    cond-grows moved Whole (is_barred y) _ x _ _ _ _ (λ go here gone. refl)
    (cond-grows moved Whole (not escaped && y == quote) _ x _ _ _ _ (refl, omega arith)
    (later-grows (length text) x _ _ later))

-- pieces
piece-grows : (y : ℕ) (ys : List ℕ) (x : ℕ) → Next (length ys) x (piece y ys) (piece y (ys ++ x ∷ []))
piece-grows y ys x =
    cond-grows moved Whole (is_single y) _ x _ _ _ _ (refl, omega arith)
    (cond-grows moved Whole (begins_number y) _ x _ _ _ _ (run_to-grows in_number Number ys x refl)
    (cond-grows moved Whole (is_letter y) _ x _ _ _ _ (run_to-grows is_letter Word ys x refl)
    (cond-grows moved Whole (is_quote y) _ x _ _ _ _ (quoted-grows y false ys x)
    (λ go here gone. refl))))

alone : (a b c d : Bool) (x : ℕ) → after_front (cond a (Piece (x ∷ []) 0) (cond b (Final [] Number) (cond c (Final [] Word) (cond d (Final [] (Str x)) (Final [] Broken))))) (λ (k : ℕ). ends_in Whole) ≡ cond a (record { answers = x ∷ []; rest = Whole }) (cond b (ends_in Number) (cond c (ends_in Word) (cond d (ends_in (Str x)) (ends_in Broken))))
alone true b c d x = refl
alone false true c d x = refl
alone false false true d x = refl
alone false false false true x = refl
alone false false false false x = refl

-- one more byte
pub pieces-more : (text : List ℕ) (x : ℕ) → pieces (text ++ x ∷ []) ≡ joined moved (pieces text) x
pieces-more text x = found_after-more piece Whole moved piece-grows (λ y. alone (is_single y) (begins_number y) (is_letter y) (is_quote y) y) 0 text x (omega arith)
