-- Laws of text that is gathered before it is put.
use Rattle.std.proofs.Common.{◌≡◌, ◌<◌, ◌+◌, ℕ, List, [], ◌++◌, Option, Some, None, length, take, get_or, refl, sym, ap, ◌∙◌, append_assoc, append-nil}
use Rattle.qm_base.specs.{Faults.told_more, Faults.HoldsPart, Prefixes.IsPrefix}
use Rattle.qm_base.proofs.{Prefixes.trans_prefix, Telling.part-after, Telling.part-so_far, Telling.told_more-twice}
use Rattle.qm_core.specs.{Texts.entry_text_of, Texts.text_of, declared.entries.Entry.Entry}
use Rattle.qm_history.specs.Gathering.{Gathers}
use Rattle.qm_history.proofs.Numbering.{text-next}

-- nothing was put
pub gathers-all : (old : Option (List ℕ)) (text : List ℕ) → Gathers old old text text
gathers-all None text = record { front = []; told = refl; is = refl }
gathers-all (Some bytes) text = record { front = []; told = ap (λ (l : List ℕ). Some l) (sym (append-nil bytes)); is = refl }

-- all was put
pub gathers-none : (old now : Option (List ℕ)) (text : List ℕ) → now ≡ told_more old text → Gathers old now [] text
gathers-none old now text put = record { front = text; told = put; is = sym (append-nil text) }

-- of what was gathered a front is put
pub gathers-twice : (old now new : Option (List ℕ)) (text rest whole : List ℕ) → Gathers old now text whole → Gathers now new rest text → Gathers old new rest whole
gathers-twice old now new text rest whole g h = record {
  front = g.front ++ h.front;
  told = h.told ∙ ap (λ (t : Option (List ℕ)). told_more t h.front) g.told ∙ told_more-twice old g.front h.front;
  is = g.is ∙ ap (λ (l : List ℕ). g.front ++ l) h.is ∙ sym (append_assoc g.front h.front rest);
}

-- an entry more is gathered
pub gathers-entry : (old now : Option (List ℕ)) (text longer : List ℕ) (journal : List Entry) (i : ℕ) (e : Entry) → i < length journal → e ≡ get_or journal i e → longer ≡ text ++ entry_text_of (i + 1) e → Gathers old now text (text_of (take i journal)) → Gathers old now longer (text_of (take (i + 1) journal))
gathers-entry old now text longer journal i e within is more g = record {
  front = g.front;
  told = g.told;
  is = text-next journal i e (entry_text_of (i + 1) e) within is refl ∙ ap (λ (l : List ℕ). l ++ entry_text_of (i + 1) e) g.is ∙ append_assoc g.front text (entry_text_of (i + 1) e) ∙ ap (λ (l : List ℕ). g.front ++ l) (sym more);
}

-- what was put is a part of a longer whole
pub gathers-part : (old now : Option (List ℕ)) (rest whole all : List ℕ) → Gathers old now rest whole → IsPrefix whole all → HoldsPart old all now
gathers-part old now rest whole all g within = part-so_far old now g.front all g.told (trans_prefix g.front whole all (record { rest = rest; is = g.is }) within)

-- and so it is where a part of the rest follows
pub gathers-put_part : (old now new : Option (List ℕ)) (rest whole all : List ℕ) → Gathers old now rest whole → IsPrefix whole all → HoldsPart now rest new → HoldsPart old all new
gathers-put_part old now new rest whole all g within holds = part-after old now new g.front rest all g.told (rw (← g.is) within) holds
