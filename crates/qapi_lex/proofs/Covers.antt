-- The account by cases tells of each text.
use Rattle.std.proofs.Common.{◌≡◌, ℕ, ◌≤◌, ◌==◌, nat_eq, Bool, true, false, cond, zero, suc, List, [], ◌∷◌, ◌++◌, drop, length, Result, Ok, Err, refl, ap, sym, ◌∙◌, subst, arith}
use Rattle.std.specs.List.{list_all, starts_with}
use Rattle.std.proofs.lemmas.{Bool.Decides.nat_tests, Bool.Decides.Decides-eqb, List.length-drop, Slice.Eq.starts_is}
use Rattle.qapi_lex.specs.declared.{fault.LexFault.LexFault, fault.LexFault.TheVariants.BadByte, spot.Spot.Spot, token.Token.Token}
use Rattle.qapi_lex.specs.declared.token.TokenKind.TheVariants.{Mark, Flag, Str}
use Rattle.qm_base.specs.Bytes.{is_space}
use Rattle.qapi_lex.specs.{Pieces.is_mark, Spots.beginning, Spots.after_byte, Spots.after_bytes}
use Rattle.qapi_lex.specs.Splitting.{is_plain, written, word, is_no_line_end, IsLineEnd, before, Cuts, at_end, at_line_end, escape_at_end, no_escape, no_byte, Lexes, nothing, space, comment, mark, flag, string, cut, bad_byte}
use Rattle.qapi_lex.specs.{Strings.is_printable, Tokens.tokens_of}
use Rattle.qapi_lex.proofs.Splits.{splits-lexed}

choose : {A : Type 0} (b : Bool) → (b ≡ true → A) → (b ≡ false → A) → A
choose true f g = f refl
choose false f g = g refl

same : (x n : ℕ) → (x == n) ≡ true → x ≡ n
same x n e = grind (arith, nat_tests, e)

-- a comment's bytes, and what follows them
record Body (bytes : List ℕ) : Type 0 where
  body : List ℕ
  rest : List ℕ
  is : bytes ≡ body ++ rest
  held : list_all is_no_line_end body ≡ true
  end : IsLineEnd rest
  shorter : length rest ≤ length bytes

body_of : (bytes : List ℕ) → Body bytes
body_of [] = record { body = []; rest = []; is = refl; held = refl; end = tt; shorter = omega arith }
body_of (x ∷ bytes) =
    let b : Body bytes = body_of bytes in
    choose (x == 10)
    (λ e. record { body = []; rest = x ∷ bytes; is = refl; held = refl; end = same x 10 e; shorter = omega arith })
    (λ e. record { body = x ∷ b.body; rest = b.rest; is = ap (λ (l : List ℕ). x ∷ l) b.is; held = rw (e, b.held) refl; end = b.end; shorter = omega (arith, b.shorter) })

-- what follows a string's plain bytes
data Ends (line : ℕ) : List ℕ → Type 0 where
  closes : (rest : List ℕ) → Ends line (39 ∷ rest)
  cuts : {tail : List ℕ} {fault : LexFault} → Cuts line tail fault → Ends line tail

record Quote (line : ℕ) (bytes : List ℕ) : Type 0 where
  text : List ℕ
  tail : List ℕ
  is : bytes ≡ written text ++ tail
  held : list_all is_plain text ≡ true
  end : Ends line tail
  shorter : length tail ≤ length bytes

ended : {line : ℕ} {bytes : List ℕ} → Ends line bytes → Quote line bytes
ended {bytes = bytes} e = record { text = []; tail = bytes; is = refl; held = refl; end = e; shorter = omega arith }

plain_byte : (line x : ℕ) (bytes : List ℕ) → is_printable x ≡ true → (x == 39) ≡ false → (x == 92) ≡ false → Quote line bytes → Quote line (x ∷ bytes)
plain_byte line x bytes p q b r = record {
  text = x ∷ r.text;
  tail = r.tail;
  is = ap (λ (l : List ℕ). x ∷ l) r.is ∙ ap (λ (t : Bool). cond t (92 ∷ 92 ∷ []) (x ∷ []) ++ written r.text ++ r.tail) (sym b);
  held = rw (p, q, r.held) refl;
  end = r.end;
  shorter = omega (arith, r.shorter);
}

escaped_byte : (line : ℕ) (bytes : List ℕ) → Quote line bytes → Quote line (92 ∷ 92 ∷ bytes)
escaped_byte line bytes r = record {
  text = 92 ∷ r.text;
  tail = r.tail;
  is = ap (λ (l : List ℕ). 92 ∷ 92 ∷ l) r.is;
  held = r.held;
  end = r.end;
  shorter = omega (arith, r.shorter);
}

-- a byte that is no backslash
byte_first : (line x : ℕ) (bytes : List ℕ) → (x == 92) ≡ false → Quote line bytes → Quote line (x ∷ bytes)
byte_first line x bytes b r =
    choose (x == 39) (λ e. subst (λ (y : ℕ). Quote line (y ∷ bytes)) (sym (same x 39 e)) (ended (closes bytes)))
    (λ q. choose (x == 10) (λ e. subst (λ (y : ℕ). Quote line (y ∷ bytes)) (sym (same x 10 e)) (ended (cuts (at_line_end bytes))))
    (λ l. choose (is_printable x) (λ p. plain_byte line x bytes p q b r)
    (λ p. ended (cuts (no_byte x bytes l p)))))

pair_first : (line x y : ℕ) (bytes : List ℕ) → Quote line (y ∷ bytes) → Quote line bytes → Quote line (x ∷ y ∷ bytes)
pair_first line x y bytes next later =
    choose (x == 92)
    (λ e. subst (λ (z : ℕ). Quote line (z ∷ y ∷ bytes)) (sym (same x 92 e))
    (choose (y == 92) (λ f. subst (λ (z : ℕ). Quote line (92 ∷ z ∷ bytes)) (sym (same y 92 f)) (escaped_byte line bytes later)) (λ f. ended (cuts (no_escape y bytes f)))))
    (λ e. byte_first line x (y ∷ bytes) e next)

quote_of : (line : ℕ) (bytes : List ℕ) → Quote line bytes
quote_of line [] = ended (cuts at_end)
quote_of line (x ∷ []) = choose (x == 92) (λ e. subst (λ (y : ℕ). Quote line (y ∷ [])) (sym (same x 92 e)) (ended (cuts escape_at_end))) (λ e. byte_first line x [] e (ended (cuts at_end)))
quote_of line (x ∷ y ∷ bytes) = pair_first line x y bytes (quote_of line (y ∷ bytes)) (quote_of line bytes)

abbrev Told : Spot → List ℕ → Type 0
Told s text = (r : Result (List Token) LexFault) × Lexes s text r

abbrev Tells : ℕ → Type 0
Tells n = (s : Spot) (text : List ℕ) → length text ≤ n → Told s text

comment_told : (n : ℕ) (s : Spot) (rest : List ℕ) → Tells n → length rest ≤ n → Body rest → Told s (35 ∷ rest)
comment_told n s rest go h b =
    let l : Told (after_bytes s (35 ∷ b.body)) b.rest = go (after_bytes s (35 ∷ b.body)) b.rest (omega (arith, h, b.shorter)) in
    (l.0, subst (λ (t : List ℕ). Lexes s (35 ∷ t) l.0) (sym b.is) (comment b.body b.held b.end l.1))

string_told : (n : ℕ) (s : Spot) (rest text tail : List ℕ) → Tells n → length rest ≤ n → rest ≡ written text ++ tail → list_all is_plain text ≡ true → length tail ≤ length rest → Ends s.line tail → Told s (39 ∷ rest)
string_told n s rest text tail go h e p sh (closes more) =
    let l : Told (after_bytes s (39 ∷ written text ++ 39 ∷ [])) more = go (after_bytes s (39 ∷ written text ++ 39 ∷ [])) more (omega (arith, h, sh)) in
    (before (Str text) s l.0, subst (λ (t : List ℕ). Lexes s (39 ∷ t) (before (Str text) s l.0)) (sym e) (string text p l.1))
string_told n s rest text tail go h e p sh (cuts {fault = f} c) = (Err f, subst (λ (t : List ℕ). Lexes s (39 ∷ t) (Err f)) (sym e) (cut text p c))

word_told : (n : ℕ) (s : Spot) (x : ℕ) (rest : List ℕ) (b : Bool) (k : ℕ) → Tells n → length rest ≤ n → x ∷ rest ≡ word b ++ drop (suc k) (x ∷ rest) → Told s (x ∷ rest)
word_told n s x rest b k go h e =
    let l : Told (after_bytes s (word b)) (drop k rest) = go (after_bytes s (word b)) (drop k rest) (omega (arith, h, length-drop k rest)) in
    (before (Flag b) s l.0, subst (λ (t : List ℕ). Lexes s t (before (Flag b) s l.0)) (sym e) (flag b l.1))

spelled : (text needle : List ℕ) → starts_with nat_eq text needle ≡ true → text ≡ needle ++ drop (length needle) text
spelled text needle e = (starts_is Decides-eqb text needle true (sym e)).0 refl

next : (n : ℕ) (s : Spot) (x : ℕ) (rest : List ℕ) → Tells n → length rest ≤ n → Told s (x ∷ rest)
next n s x rest go h =
    let l : Told (after_byte s x) rest = go (after_byte s x) rest h in
    choose (is_space x) (λ e. (l.0, space x e l.1))
    (λ a. choose (x == 35) (λ e. subst (λ (y : ℕ). Told s (y ∷ rest)) (sym (same x 35 e)) (comment_told n s rest go h (body_of rest)))
    (λ b. choose (is_mark x) (λ e. (before (Mark x) s l.0, mark x e l.1))
    (λ c. choose (starts_with nat_eq (x ∷ rest) (word true)) (λ e. word_told n s x rest true 3 go h (spelled (x ∷ rest) (word true) e))
    (λ d. choose (starts_with nat_eq (x ∷ rest) (word false)) (λ e. word_told n s x rest false 4 go h (spelled (x ∷ rest) (word false) e))
    (λ f. choose (x == 39) (λ e. (let q : Quote s.line rest = quote_of s.line rest in subst (λ (y : ℕ). Told s (y ∷ rest)) (sym (same x 39 e)) (string_told n s rest q.text q.tail go h q.is q.held q.shorter q.end)))
    (λ g. (Err (BadByte s.line), bad_byte x rest (rw (a, b, c, d, f, g) refl))))))))

told : (n : ℕ) → Tells n
told n s [] h = (Ok [], nothing)
told zero s (x ∷ rest) h = absurd (omega (arith, h))
told (suc n) s (x ∷ rest) h = next n s x rest (told n) (omega (arith, h))

-- what the function gives is what the account gives
pub lexed-splits : (text : List ℕ) (r : Result (List Token) LexFault) → tokens_of text ≡ r → Lexes beginning text r
unfolding tokens_of
lexed-splits text r e =
    let l : Told beginning text = told (length text) beginning text (omega arith) in
    subst (Lexes beginning text) (sym (splits-lexed l.1) ∙ e) l.1

pub splits-read : (text : List ℕ) (r : Result (List Token) LexFault) → Lexes beginning text r → tokens_of text ≡ r
unfolding tokens_of
splits-read text r l = splits-lexed l
