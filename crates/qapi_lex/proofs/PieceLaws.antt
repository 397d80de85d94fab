-- One piece of a text, and what follows it.
use Rattle.std.proofs.Common.{◌≡◌, ℕ, ◌+◌, ◌<◌, ◌≤◌, zero, suc, List, [], ◌∷◌, ◌++◌, take, drop, length, Result, Ok, Err, refl, ap, sym, ◌∙◌, arith, append_assoc, append-nil, slice_index}
use Rattle.std.proofs.{lemmas.List.drop-drop, Math.ListN.drop_of_length-le}
use Rattle.qapi_lex.specs.declared.{fault.LexFault.LexFault, piece.Piece.Piece, spot.Spot.Spot, token.Token.Token}
use Rattle.qapi_lex.specs.{Pieces.piece, Pieces.more_in, Spots.after_byte, Spots.after_bytes}
use Rattle.qapi_lex.specs.Tokens.{tokens_in, followed_by, after_piece, tokens_after}

passed : (k : ℕ) (s : Spot) (rest : List ℕ) → tokens_after k s rest ≡ tokens_after 0 (after_bytes s (take k rest)) (drop k rest)
passed zero s rest = refl
passed (suc k) s [] = refl
passed (suc k) s (x ∷ rest) = passed k (after_byte s x) rest

followed_by-twice : (ts more : List Token) (r : Result (List Token) LexFault) → followed_by ts (followed_by more r) ≡ followed_by (ts ++ more) r
followed_by-twice ts more (Ok t) = ap (λ (l : List Token). Ok l) (sym (append_assoc ts more t))
followed_by-twice ts more (Err f) = refl

pub followed_by-nothing : (r : Result (List Token) LexFault) → followed_by [] r ≡ r
followed_by-nothing (Ok ts) = refl
followed_by-nothing (Err f) = refl

first_stands : (bytes : List ℕ) (s : Spot) (p : Piece) → 0 < length bytes → piece s.line (slice_index bytes 0) (drop 1 bytes) ≡ Ok p →
    tokens_after 0 s bytes ≡ followed_by (tokens_in p s) (tokens_after 0 (after_bytes s (take (suc (more_in p)) bytes)) (drop (suc (more_in p)) bytes))
first_stands [] s p h e = absurd (omega (arith, h))
first_stands (x ∷ rest) s p h e =
    ap (λ (r : Result Piece LexFault). after_piece r s (λ k. tokens_after k (after_byte s x) rest)) e
    ∙ ap (followed_by (tokens_in p s)) (passed (more_in p) (after_byte s x) rest)

-- after some tokens, the piece p stands at i of the text
pub next_piece : (whole : Result (List Token) LexFault) (text bytes : List ℕ) (ts new : List Token) (i more : ℕ) (s next : Spot) (p : Piece) → bytes ≡ drop i text → 0 < length bytes →
    Ok p ≡ piece s.line (slice_index bytes 0) (drop 1 bytes) → more ≡ more_in p → next ≡ after_bytes s (take (more + 1) bytes) → new ≡ ts ++ tokens_in p s →
    followed_by ts (tokens_after 0 s (drop i text)) ≡ whole → followed_by new (tokens_after 0 next (drop (i + (more + 1)) text)) ≡ whole
next_piece whole text bytes ts new i more s next p b h e m n t w =
    let count : more + 1 ≡ suc (more_in p) = omega (arith, m) in
    let left : drop (i + (more + 1)) text ≡ drop (suc (more_in p)) bytes =
    ap (λ (k : ℕ). drop (i + k) text) count ∙ ap (λ (k : ℕ). drop k text) (omega arith) ∙ sym (drop-drop (suc (more_in p)) i text) ∙ ap (λ (l : List ℕ). drop (suc (more_in p)) l) (sym b) in
    ap (λ (l : List Token). followed_by l (tokens_after 0 next (drop (i + (more + 1)) text))) t
    ∙ sym (followed_by-twice ts (tokens_in p s) (tokens_after 0 next (drop (i + (more + 1)) text)))
    ∙ ap (λ (q : Spot). followed_by ts (followed_by (tokens_in p s) (tokens_after 0 q (drop (i + (more + 1)) text)))) (n ∙ ap (λ (k : ℕ). after_bytes s (take k bytes)) count)
    ∙ ap (λ (l : List ℕ). followed_by ts (followed_by (tokens_in p s) (tokens_after 0 (after_bytes s (take (suc (more_in p)) bytes)) l))) left
    ∙ ap (followed_by ts) (sym (first_stands bytes s p h (sym e)))
    ∙ ap (λ (l : List ℕ). followed_by ts (tokens_after 0 s l)) b ∙ w

bad_stands : (bytes : List ℕ) (s : Spot) (f : LexFault) → 0 < length bytes → piece s.line (slice_index bytes 0) (drop 1 bytes) ≡ Err f → tokens_after 0 s bytes ≡ Err f
bad_stands [] s f h e = absurd (omega (arith, h))
bad_stands (x ∷ rest) s f h e = ap (λ (r : Result Piece LexFault). after_piece r s (λ k. tokens_after k (after_byte s x) rest)) e

-- no piece stands at i of the text
pub no_piece : (whole : Result (List Token) LexFault) (text bytes : List ℕ) (ts : List Token) (i : ℕ) (s : Spot) (f : LexFault) → bytes ≡ drop i text → 0 < length bytes →
    Err f ≡ piece s.line (slice_index bytes 0) (drop 1 bytes) → followed_by ts (tokens_after 0 s (drop i text)) ≡ whole → Err f ≡ whole
no_piece whole text bytes ts i s f b h e w = ap (followed_by ts) (sym (bad_stands bytes s f h (sym e)) ∙ ap (tokens_after 0 s) b) ∙ w

-- all pieces were taken
pub all_pieces : (whole : Result (List Token) LexFault) (text : List ℕ) (ts : List Token) (i : ℕ) (s : Spot) → length text ≤ i → followed_by ts (tokens_after 0 s (drop i text)) ≡ whole → Ok ts ≡ whole
all_pieces whole text ts i s h w =
    ap (λ (l : List Token). Ok l) (sym (append-nil ts)) ∙ ap (λ (l : List ℕ). followed_by ts (tokens_after 0 s l)) (sym (drop_of_length-le text h)) ∙ w
