-- The literals of numbers, by examples of RFC 8259, sections 6 and 13, and of the range's ends.
use Rattle.std.proofs.Common.{◌≡◌, ◌^◌, ◌-◌, true, false, Some, None, pos, negsuc, refl, map, [], ◌∷◌}
use Rattle.std.specs.Prelude.{codes}
use Rattle.qm_json.specs.Numbers.{is_literal, whole_of}

literals : map is_literal (codes "0" ∷ codes "-0" ∷ codes "37.7668" ∷ codes "-122.026020" ∷ codes "1E400" ∷ codes "3.141e-10" ∷ codes "0e+0" ∷ codes "10" ∷ []) ≡ true ∷ true ∷ true ∷ true ∷ true ∷ true ∷ true ∷ true ∷ []
literals = refl

no_literals : map is_literal ([] ∷ codes "-" ∷ codes "01" ∷ codes "-00" ∷ codes "+1" ∷ codes "1." ∷ codes ".5" ∷ codes "1e" ∷ codes "1e+" ∷ codes "1.e1" ∷ codes "1-1" ∷ codes "--1" ∷ codes "1.2.3" ∷ codes "1e1e1" ∷ codes "0x1" ∷ []) ≡ false ∷ false ∷ false ∷ false ∷ false ∷ false ∷ false ∷ false ∷ false ∷ false ∷ false ∷ false ∷ false ∷ false ∷ false ∷ []
no_literals = refl

wholes : map whole_of (codes "-0" ∷ codes "100" ∷ codes "18446744073709551615" ∷ codes "-9223372036854775808" ∷ []) ≡ Some (pos 0) ∷ Some (pos 100) ∷ Some (pos (2 ^ 64 - 1)) ∷ Some (negsuc (2 ^ 63 - 1)) ∷ []
wholes = refl

no_wholes : map whole_of (codes "18446744073709551616" ∷ codes "-9223372036854775809" ∷ codes "1.0" ∷ codes "1e2" ∷ codes "01" ∷ codes "+1" ∷ []) ≡ None ∷ None ∷ None ∷ None ∷ None ∷ None ∷ []
no_wholes = refl
