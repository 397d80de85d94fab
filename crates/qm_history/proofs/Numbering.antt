-- The text of a journal by its parts.
use Rattle.std.proofs.Common.{◌≡◌, ℕ, ◌+◌, ◌<◌, ◌≤◌, List, [], ◌∷◌, ◌++◌, length, take, drop, arith, get_or}
use Rattle.std.proofs.lemmas.Grind.{common_steps}
use Rattle.qm_base.specs.Prefixes.{IsPrefix}
use Rattle.qm_core.specs.{Texts.text_from, Texts.text_of, Texts.entry_text_of, declared.entries.Entry.Entry}
use Rattle.qm_core.proofs.Texts.{text_from-append}

-- the text of the entries before a place is a part of the text
pub text-so_far : (journal : List Entry) (i : ℕ) → i ≤ length journal → IsPrefix (text_of (take i journal)) (text_of journal)
text-so_far journal i within = record {
  rest = text_from (1 + i) (drop i journal);
  is = grind (arith, common_steps, text_from-append 1 (take i journal) (drop i journal));
}

-- one entry more
pub text-next : (journal : List Entry) (i : ℕ) (e : Entry) (piece : List ℕ) → i < length journal → e ≡ get_or journal i e → piece ≡ entry_text_of (i + 1) e → text_of (take (i + 1) journal) ≡ text_of (take i journal) ++ piece
text-next journal i e piece within is said = grind (arith, common_steps, text_from-append 1 (take i journal) (e ∷ []))
