-- The definitions at worked examples: they compute to the frames that are expected.
use Rattle.std.proofs.Common.{◌≡◌, [], ◌∷◌, ◌++◌, Ok, Err, refl, codes}
use Rattle.qm_frame.specs.declared.step.FrameFault.TheVariants.{LexError, Unbalanced}
use Rattle.qm_frame.specs.{Messages.is_open, Messages.is_message, Messages.fault_of, Framing.frames_of}

unbalanced : frames_of (codes "}{}") ≡ Err Unbalanced ∷ Ok (codes "{}") ∷ []
unfolding frames_of is_open is_message fault_of
unbalanced = refl

line_in_string : frames_of (codes "\"x\n{}") ≡ Err LexError ∷ Ok (codes "{}") ∷ []
unfolding frames_of is_open is_message fault_of
line_in_string = refl

reset_byte : frames_of (codes "{" ++ 254 ∷ codes "}{}") ≡ Err LexError ∷ Err Unbalanced ∷ Ok (codes "{}") ∷ []
unfolding frames_of is_open is_message fault_of
reset_byte = refl

tab_in_string : frames_of (codes "{\"a\tb\"}\n{}") ≡ Err LexError ∷ Ok (codes "{}") ∷ []
unfolding frames_of is_open is_message fault_of
tab_in_string = refl

escaped_line : frames_of (codes "{\"a\\\n{}") ≡ Err LexError ∷ Ok (codes "{}") ∷ []
unfolding frames_of is_open is_message fault_of
escaped_line = refl

capital : frames_of (codes "[T]\n{}") ≡ Err LexError ∷ Ok (codes "{}") ∷ []
unfolding frames_of is_open is_message fault_of
capital = refl

unfinished : frames_of (codes "{\"execute\":\"quit\"") ≡ []
unfolding frames_of is_open is_message fault_of
unfinished = refl
