-- Want of memory is no fault of a text: no case of a split has it.
use Rattle.std.proofs.Common.{◌≡◌, ◌≢◌, ℕ, List, Result, Ok, Err, refl}
use Rattle.qapi_lex.specs.declared.{fault.LexFault.LexFault, fault.LexFault.TheVariants.Memory, spot.Spot.Spot, token.Token.Token, token.TokenKind.TokenKind}
use Rattle.qapi_lex.specs.Splitting.{before, Cuts, at_end, at_line_end, escape_at_end, no_escape, no_byte, Lexes, nothing, space, comment, mark, flag, string, cut, bad_byte}
use Rattle.qapi_lex.specs.Tokens.{tokens_of}
use Rattle.qapi_lex.proofs.Covers.{lexed-splits}

behind : (kind : TokenKind) (s : Spot) (r : Result (List Token) LexFault) → (r ≡ Err Memory → ⊥) → before kind s r ≡ Err Memory → ⊥
behind kind s (Ok ts) h e = cc
behind kind s (Err f) h e = h e

cut-told : {line : ℕ} {tail : List ℕ} {f : LexFault} → Cuts line tail f → f ≢ Memory
cut-told at_end e = cc
cut-told (at_line_end rest) e = cc
cut-told escape_at_end e = cc
cut-told (no_escape x rest n) e = cc
cut-told (no_byte x rest n p) e = cc

told : {s : Spot} {text : List ℕ} {r : Result (List Token) LexFault} → Lexes s text r → r ≡ Err Memory → ⊥
told nothing e = cc
told (space x is l) e = told l e
told (comment body all ends l) e = told l e
told (mark x is l) e = behind _ _ _ (told l) e
told (flag b l) e = behind _ _ _ (told l) e
told (string text all l) e = behind _ _ _ (told l) e
told (cut {fault = f} text all c) e = cut-told c (let same : f ≡ Memory = cc in same)
told (bad_byte x rest n) e = cc

pub tokens-told : (text : List ℕ) → tokens_of text ≢ Err Memory
tokens-told text e = told (lexed-splits text (Err Memory) e) refl
