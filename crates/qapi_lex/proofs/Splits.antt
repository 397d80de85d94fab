-- What the account by cases gives is what the function gives.
use Rattle.std.proofs.Common.{◌≡◌, ℕ, ◌+◌, ◌≤◌, ◌==◌, nat_lt, nat_eq, Bool, true, false, cond, ◌&&◌, ◌||◌, List, [], ◌∷◌, ◌++◌, length, Some, None, Result, Ok, Err, refl, ap, sym, ◌∙◌, arith, append_assoc, append-nil, length-append}
use Rattle.std.specs.List.{list_all, prefix_len, starts_with}
use Rattle.std.proofs.lemmas.{Bool.Decides.nat_tests, List.Sums.prefix_len-le-length}
use Rattle.qapi_lex.specs.declared.{fault.LexFault.LexFault, fault.LexFault.TheVariants.BadByte, piece.Piece.Piece, quoted.Quoted.Quoted, spot.Spot.Spot, token.Token.Token}
use Rattle.qapi_lex.specs.declared.token.TokenKind.TheVariants.{Mark, Flag, Str}
use Rattle.qm_base.specs.Bytes.{is_space}
use Rattle.qapi_lex.specs.{Pieces.is_mark, Pieces.up_to, Pieces.comment_length, Pieces.string_piece, Spots.after_byte, Spots.after_bytes}
use Rattle.qapi_lex.specs.Splitting.{is_plain, doubled, written, word, is_no_line_end, IsLineEnd, before, Cuts, at_end, at_line_end, escape_at_end, no_escape, no_byte, Lexes, nothing, space, comment, mark, flag, string, cut, bad_byte}
use Rattle.qapi_lex.specs.{Strings.is_printable, Strings.longer, Strings.quoted, Tokens.followed_by, Tokens.after_piece, Tokens.tokens_after}
use Rattle.qapi_lex.proofs.PieceLaws.{followed_by-nothing}

passed-over : (body rest : List ℕ) (s : Spot) → tokens_after (length body) s (body ++ rest) ≡ tokens_after 0 (after_bytes s body) rest
passed-over [] rest s = refl
passed-over (x ∷ body) rest s = passed-over body rest (after_byte s x)

first : (a b : Bool) → (a && b) ≡ true → a ≡ true
first true b h = refl
first false b h = h

second : (a b : Bool) → (a && b) ≡ true → b ≡ true
second true b h = h
second false b h = cc

up-to : (bytes : List ℕ) (n : ℕ) (b : Bool) → nat_lt n (length bytes) ≡ b → n ≤ length bytes → up_to bytes (cond b (Some n) None) ≡ n
up-to bytes n true e h = refl
up-to bytes n false e h = (let all : length bytes ≤ n = grind (arith, nat_tests, e) in omega (arith, all, h))

stops : (body rest : List ℕ) → list_all is_no_line_end body ≡ true → IsLineEnd rest → prefix_len is_no_line_end (body ++ rest) ≡ length body
stops [] [] h e = refl
stops [] (x ∷ rest) h e = rw e refl
stops (x ∷ body) rest h e = let more : prefix_len is_no_line_end (body ++ rest) ≡ length body = stops body rest (second (is_no_line_end x) _ h) e in rw (first (is_no_line_end x) _ h) (omega (arith, more))

comment-is : (body rest : List ℕ) → list_all is_no_line_end body ≡ true → IsLineEnd rest → comment_length (body ++ rest) ≡ length body
comment-is body rest h e =
    up-to (body ++ rest) (prefix_len is_no_line_end (body ++ rest)) (nat_lt (prefix_len is_no_line_end (body ++ rest)) (length (body ++ rest))) refl (prefix_len-le-length is_no_line_end (body ++ rest))
    ∙ stops body rest h e

no_space : (x : ℕ) → is_mark x ≡ true → is_space x ≡ false
no_space x h = grind (arith, nat_tests, h)

no_comment : (x : ℕ) → is_mark x ≡ true → (x == 35) ≡ false
no_comment x h = grind (arith, nat_tests, h)

abbrev read : List ℕ → ℕ → Result Quoted LexFault
read text n = Ok (record { text = text; length = n })

-- one byte of a string
plain-part : (line x : ℕ) (rest : List ℕ) → is_plain x ≡ true → (x == 92) ≡ false → (x == 10) ≡ false → quoted line false (x ∷ rest) ≡ longer (x ∷ []) 1 (quoted line false rest)
plain-part line x rest h e f = let q : (x == 39) ≡ false = grind (arith, nat_tests, h) in rw (q, e, f, first (is_printable x) _ h) refl

no_line : (x : ℕ) → is_plain x ≡ true → (x == 10) ≡ false
no_line x h = grind (arith, nat_tests, h)

one_part : (line x : ℕ) (rest : List ℕ) → is_plain x ≡ true → quoted line false (doubled x ++ rest) ≡ longer (x ∷ []) (length (doubled x)) (quoted line false rest)
one_part line x rest h = by_backslash (x == 92) refl
  where
    twice : (r : Result Quoted LexFault) → longer [] 1 (longer (92 ∷ []) 1 r) ≡ longer (92 ∷ []) 2 r
    twice (Ok q) = ap (λ (n : ℕ). read (92 ∷ q.text) n) (omega arith)
    twice (Err f) = refl

    by_backslash : (b : Bool) → (x == 92) ≡ b → quoted line false (cond b (92 ∷ 92 ∷ []) (x ∷ []) ++ rest) ≡ longer (x ∷ []) (length (cond b (92 ∷ 92 ∷ []) (x ∷ []))) (quoted line false rest)
    by_backslash true e = (let same : x ≡ 92 = grind (arith, nat_tests, e) in rw same (twice (quoted line false rest)))
    by_backslash false e = plain-part line x rest h e (no_line x h)

longer-twice : (a b : List ℕ) (m n : ℕ) (r : Result Quoted LexFault) → longer a m (longer b n r) ≡ longer (a ++ b) (m + n) r
longer-twice a b m n (Ok q) = rw (append_assoc a b q.text) (ap (λ (k : ℕ). read (a ++ (b ++ q.text)) k) (omega arith))
longer-twice a b m n (Err f) = refl

longer-nothing : (r : Result Quoted LexFault) → longer [] 0 r ≡ r
longer-nothing (Ok q) = ap (read q.text) (omega arith)
longer-nothing (Err f) = refl

parts : (line : ℕ) (text tail : List ℕ) → list_all is_plain text ≡ true → quoted line false (written text ++ tail) ≡ longer text (length (written text)) (quoted line false tail)
parts line [] tail h = sym (longer-nothing (quoted line false tail))
parts line (x ∷ text) tail h =
    ap (quoted line false) (append_assoc (doubled x) (written text) tail)
    ∙ one_part line x (written text ++ tail) (first (is_plain x) _ h)
    ∙ ap (longer (x ∷ []) (length (doubled x))) (parts line text tail (second (is_plain x) _ h))
    ∙ longer-twice (x ∷ []) text (length (doubled x)) (length (written text)) (quoted line false tail)
    ∙ ap (λ (n : ℕ). longer (x ∷ text) n (quoted line false tail)) (sym (length-append (doubled x) (written text)))

cuts : {line : ℕ} {tail : List ℕ} {f : LexFault} → Cuts line tail f → quoted line false tail ≡ Err f
cuts at_end = refl
cuts (at_line_end rest) = refl
cuts escape_at_end = refl
cuts (no_escape x rest e) = rw e refl
cuts (no_byte x rest e h) = (let q : (x == 39) ≡ false = grind (arith, nat_tests, h) in let b : (x == 92) ≡ false = grind (arith, nat_tests, h) in rw (q, b, e, h) refl)

none : {A : Type 0} (a b c d e f : Bool) (p q r t u v last : A) → (a || b || c || d || e || f) ≡ false → cond a p (cond b q (cond c r (cond d t (cond e u (cond f v last))))) ≡ last
none false false false false false false p q r t u v last h = refl
none true b c d e f p q r t u v last h = cc
none false true c d e f p q r t u v last h = cc
none false false true d e f p q r t u v last h = cc
none false false false true e f p q r t u v last h = cc
none false false false false true f p q r t u v last h = cc
none false false false false false true p q r t u v last h = cc

-- a string that was closed, and what follows it
closed : (s : Spot) (text rest : List ℕ) → list_all is_plain text ≡ true → tokens_after 0 s (39 ∷ written text ++ 39 ∷ rest) ≡ before (Str text) s (tokens_after 0 (after_bytes s (39 ∷ written text ++ 39 ∷ [])) rest)
closed s text rest h =
    let whole : quoted s.line false (written text ++ 39 ∷ rest) ≡ Ok (record { text = text ++ []; length = length (written text) + 1 }) = parts s.line text (39 ∷ rest) h in
    ap (λ (r : Result Quoted LexFault). after_piece (string_piece r) s (λ k. tokens_after k (after_byte s 39) (written text ++ 39 ∷ rest))) whole
    ∙ ap (λ (t : List ℕ). before (Str t) s (tokens_after (length (written text) + 1) (after_byte s 39) (written text ++ 39 ∷ rest))) (append-nil text)
    ∙ ap (λ (k : ℕ). before (Str text) s (tokens_after k (after_byte s 39) (written text ++ 39 ∷ rest))) (sym (length-append (written text) (39 ∷ [])))
    ∙ ap (λ (l : List ℕ). before (Str text) s (tokens_after (length (written text ++ 39 ∷ [])) (after_byte s 39) l)) (sym (append_assoc (written text) (39 ∷ []) rest))
    ∙ ap (before (Str text) s) (passed-over (written text ++ 39 ∷ []) rest (after_byte s 39))

pub splits-lexed : {s : Spot} {text : List ℕ} {r : Result (List Token) LexFault} → Lexes s text r → tokens_after 0 s text ≡ r
splits-lexed nothing = refl
splits-lexed (space {s = s} {rest = rest} x e l) = rw e (followed_by-nothing (tokens_after 0 (after_byte s x) rest) ∙ splits-lexed l)
splits-lexed (comment {s = s} {rest = rest} body h e l) =
    ap (λ (k : ℕ). followed_by [] (tokens_after k (after_byte s 35) (body ++ rest))) (comment-is body rest h e)
    ∙ followed_by-nothing (tokens_after (length body) (after_byte s 35) (body ++ rest))
    ∙ passed-over body rest (after_byte s 35) ∙ splits-lexed l
splits-lexed (mark {s = s} x e l) = rw (no_space x e, no_comment x e, e) (ap (before (Mark x) s) (splits-lexed l))
splits-lexed (flag {s = s} true l) = ap (before (Flag true) s) (splits-lexed l)
splits-lexed (flag {s = s} false l) = ap (before (Flag false) s) (splits-lexed l)
splits-lexed (string {s = s} {rest = rest} text h l) = closed s text rest h ∙ ap (before (Str text) s) (splits-lexed l)
splits-lexed (cut {s = s} {tail = tail} text h c) =
    ap (λ (r : Result Quoted LexFault). after_piece (string_piece r) s (λ k. tokens_after k (after_byte s 39) (written text ++ tail)))
    (parts s.line text tail h ∙ ap (longer text (length (written text))) (cuts c))
splits-lexed (bad_byte {s = s} x rest e) =
    ap (λ (r : Result Piece LexFault). after_piece r s (λ k. tokens_after k (after_byte s x) rest))
    (none (is_space x) (x == 35) (is_mark x) (starts_with nat_eq (x ∷ rest) (word true)) (starts_with nat_eq (x ∷ rest) (word false)) (x == 39) _ _ _ _ _ _ (Err (BadByte s.line)) e)
