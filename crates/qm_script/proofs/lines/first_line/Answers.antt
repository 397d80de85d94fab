use Rattle.std.proofs.Common.{◌≡◌, ◌+◌, ◌-◌, ap, ◌∙◌, ◌∷◌, length, take, drop, length-drop, sym}
use Rattle.std.proofs.Math.Seq.{take-length}
use Rattle.qm_script.specs.Lines.{lines_of}
use Rattle.qm_script.proofs.LineLemmas.{lines_of-first, lines_of-none}
use Rattle.qm_script.proofs.lines.first_line.Goals as goal

pub returns-in-Some-clause-lines : goal.returns-in-Some-clause-lines
returns-in-Some-clause-lines c =
    let script = c.args.script.now in
    let at = c.in-Some.at in
    let rest : take (length script - (at + 1)) (drop (at + 1) script) ≡ drop (at + 1) script = rw (← length-drop (at + 1) script) (take-length (drop (at + 1) script)) in
    lines_of-first script at (sym c.line_feed_at.ensures.place ∙ c.in-Some.is) ∙ ap (λ later. take at script ∷ lines_of later) (sym rest)

pub returns-in-None-clause-lines : goal.returns-in-None-clause-lines
returns-in-None-clause-lines c = lines_of-none c.args.script.now c.requires (sym c.line_feed_at.ensures.place ∙ c.in-None.is)
