-- The ranges of the whole types (QAPI code generation guide, "Built-in Types").
use Rattle.std.specs.Prelude.{ℤ, ◌^◌, Bool, ◌&&◌, pos, neg_ℤ, int_le, int_lt}
use Rattle.qapi_types.specs.declared.kind.Whole.{Whole, TheVariants.Int, TheVariants.Int8, TheVariants.Int16, TheVariants.Int32, TheVariants.Int64, TheVariants.Uint8, TheVariants.Uint16, TheVariants.Uint32, TheVariants.Uint64, TheVariants.Size}

-- the least number of the type
abbrev pub least_of : Whole → ℤ
least_of Int = neg_ℤ (pos (2 ^ 63))
least_of Int8 = neg_ℤ (pos (2 ^ 7))
least_of Int16 = neg_ℤ (pos (2 ^ 15))
least_of Int32 = neg_ℤ (pos (2 ^ 31))
least_of Int64 = neg_ℤ (pos (2 ^ 63))
least_of Uint8 = pos 0
least_of Uint16 = pos 0
least_of Uint32 = pos 0
least_of Uint64 = pos 0
least_of Size = pos 0

-- the first number past the type
abbrev pub past_of : Whole → ℤ
past_of Int = pos (2 ^ 63)
past_of Int8 = pos (2 ^ 7)
past_of Int16 = pos (2 ^ 15)
past_of Int32 = pos (2 ^ 31)
past_of Int64 = pos (2 ^ 63)
past_of Uint8 = pos (2 ^ 8)
past_of Uint16 = pos (2 ^ 16)
past_of Uint32 = pos (2 ^ 32)
past_of Uint64 = pos (2 ^ 64)
past_of Size = pos (2 ^ 64)

abbrev pub is_in_range : Whole → ℤ → Bool
is_in_range whole n = int_le (least_of whole) n && int_lt n (past_of whole)
