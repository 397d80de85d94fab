-- Strings of a schema: single quotes, bytes 0x20 to 0x7E, and `\\` as the only escape (QAPI code
-- generation guide, "Schema syntax"; which fault is told is this project's own rule).
use Rattle.std.specs.Prelude.{ℕ, ◌+◌, ◌==◌, nat_le, Bool, true, false, cond, ◌&&◌, List, [], ◌∷◌, ◌++◌, Result, Ok, Err}
use Rattle.qapi_lex.specs.declared.fault.LexFault.{LexFault, TheVariants.BadByte, TheVariants.BadEscape, TheVariants.Unclosed}
use Rattle.qapi_lex.specs.declared.quoted.{Quoted.Quoted, Role.Role, Role.TheVariants.Part, Role.TheVariants.Escape, Role.TheVariants.Close, Role.TheVariants.Bad}

-- 0x20 to 0x7E
abbrev pub is_printable : ℕ → Bool
is_printable x = nat_le 32 x && nat_le x 126

-- what a byte does in a string of this line; after a backslash (92) only another one may stand
abbrev pub role_of : ℕ → Bool → ℕ → Role
role_of line escaped x =
    cond escaped (cond (x == 92) Part (Bad (BadEscape line)))
    (cond (x == 39) Close
    (cond (x == 92) Escape
    (cond (x == 10) (Bad (Unclosed line))
    (cond (is_printable x) Part
    (Bad (BadByte line))))))

-- the fault of a string that the text's end cuts
abbrev pub cut_of : ℕ → Bool → LexFault
cut_of line escaped = cond escaped (BadEscape line) (Unclosed line)

abbrev pub longer : List ℕ → ℕ → Result Quoted LexFault → Result Quoted LexFault
longer text n (Ok q) = Ok (record { text = text ++ q.text; length = n + q.length })
longer text n (Err fault) = Err fault

-- a byte of this role, and what the bytes after it give
abbrev pub after_role : Role → ℕ → (Bool → Result Quoted LexFault) → Result Quoted LexFault
after_role Part x go = longer (x ∷ []) 1 (go false)
after_role Escape x go = longer [] 1 (go true)
after_role Close x go = Ok (record { text = []; length = 1 })
after_role (Bad fault) x go = Err fault

-- the string whose opening quote stands before these bytes, by what it stands for and its length up
-- to its closing quote; escaped says that a backslash stands before them
abbrev pub quoted : ℕ → Bool → List ℕ → Result Quoted LexFault
quoted line escaped [] = Err (cut_of line escaped)
quoted line escaped (x ∷ rest) = after_role (role_of line escaped x) x (λ escaped. quoted line escaped rest)
