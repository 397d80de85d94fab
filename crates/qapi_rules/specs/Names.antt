-- Names (QAPI code generation guide, "Naming rules and reserved names"; that a name has at most 256
-- bytes is this project's own rule).
use Rattle.std.specs.Prelude.{ℕ, ◌+◌, ◌==◌, Bool, false, not, ◌&&◌, ◌||◌, cond, List, length, take, drop, slice_index, nat_le, nat_lt, nat_eq, Option, Some, None, position, codes}
use Rattle.std.specs.{List.list_all, List.starts_with, Char.is_ascii_alphabetic, Char.is_ascii_alphanumeric, Char.is_ascii_digit}

-- the name without the star that it may begin with
unfoldable pub without_star : List ℕ → List ℕ
without_star name = cond (starts_with nat_eq name (codes "*")) (drop 1 name) name

-- a letter, a digit, - or _
abbrev pub is_name_byte : ℕ → Bool
is_name_byte b = is_ascii_alphanumeric b || b == 45 || b == 95

-- a letter, a digit, - or .
abbrev pub is_domain_byte : ℕ → Bool
is_domain_byte b = is_ascii_alphanumeric b || b == 45 || b == 46

-- a letter, or a digit where one may come first
abbrev pub may_begin : Bool → ℕ → Bool
may_begin digit_first b = is_ascii_alphabetic b || (digit_first && is_ascii_digit b)

-- the text is a name without a downstream prefix
unfoldable pub is_plain : Bool → List ℕ → Bool
is_plain digit_first text = nat_lt 0 (length text) && may_begin digit_first (slice_index text 0) && list_all is_name_byte (drop 1 text)

-- the text is a domain, as a downstream prefix has it
unfoldable pub is_domain : List ℕ → Bool
is_domain text = nat_lt 0 (length text) && list_all is_domain_byte text

-- the place of the first _
unfoldable pub domain_end : List ℕ → Option ℕ
domain_end text = position (λ b. b == 95) text

-- up to a place the text is a domain, and after it a plain name
abbrev pub is_split_at : Bool → List ℕ → Option ℕ → Bool
is_split_at digit_first text None = false
is_split_at digit_first text (Some end) = is_domain (take end text) && is_plain digit_first (drop (end + 1) text)

-- the text is a name but for its length: plain, or a plain name after __, a domain and _
unfoldable pub is_formed : Bool → List ℕ → Bool
is_formed digit_first text =
    cond (starts_with nat_eq text (codes "__"))
    (is_split_at digit_first (drop 2 text) (domain_end (drop 2 text))) (is_plain digit_first text)

-- the text is a name, of at most 256 bytes, which does not begin with q_
unfoldable pub is_name : Bool → List ℕ → Bool
is_name digit_first text = nat_le (length text) 256 && not (starts_with nat_eq text (codes "q_")) && is_formed digit_first text
