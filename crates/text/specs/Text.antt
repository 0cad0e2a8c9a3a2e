-- A number and bytes as text in ASCII, and what it means that a text was appended to a buffer's bytes.
-- Cites glyph of io, the ASCII code of a digit below 16.
use Rattle.std.specs.Prelude.{◌≡◌, cond, List, [], ◌∷◌, ◌++◌, ℕ, zero, suc, ◌+◌, ◌/◌, ◌%◌, ltb, length, take, drop}
use Rattle.io.specs.Digits.{hex_digit_ascii}

-- the decimal digits of a number that has at most so many
unfoldable pub decimal_within : ℕ → ℕ → List ℕ
decimal_within zero n = []
decimal_within (suc most) n =
    cond (ltb n 10) (hex_digit_ascii n ∷ []) (decimal_within most (n / 10) ++ (hex_digit_ascii (n % 10) ∷ []))

-- the decimal digits of a number of 64 bits, which has at most 20
abbrev pub decimal_text : ℕ → List ℕ
decimal_text n = decimal_within 20 n

-- each byte as two lower-case hex digits
unfoldable pub hex_text : List ℕ → List ℕ
hex_text [] = []
hex_text (b ∷ bs) = hex_digit_ascii (b / 16) ∷ hex_digit_ascii (b % 16) ∷ hex_text bs

-- out' is out with a text put over its bytes from `at` on; r is where the text ends
pub record Appended (at r : ℕ) (out out' text : List ℕ) : Type 0 where
  pub front : take r out' ≡ take at out ++ text
  pub rest : drop r out' ≡ drop r out
  pub end : r ≡ at + length text
  pub room : length out' ≡ length out
