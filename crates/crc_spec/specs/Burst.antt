-- What the CRC-32 always detects. Document 02, slip 14, speaks of changes "within 32 neighbouring bits" of one word.
use Rattle.std.specs.Prelude.{◌≡◌, List, ◌++◌, ℕ, ◌+◌, ◌/◌, ◌%◌, ◌^◌, ◌<◌}
use Rattle.std.specs.Int.Bits.{bit_xor}
use Rattle.crc_spec.specs.Bits.{crc_bit}
use Rattle.crc_spec.specs.Bytes.{le_bytes, AllBytes}
use Rattle.crc_spec.specs.Crc.{crc32}

-- "the change lies within 32 neighbouring bits": two words agree in the bits below bit p and from bit p + 32 on
pub record Within32 (p old new : ℕ) : Type 0 where
  pub below : old % 2 ^ p ≡ new % 2 ^ p
  pub above : old / 2 ^ (p + 32) ≡ new / 2 ^ (p + 32)

-- the register's step is linear over the exclusive or
unfoldable pub BitLinear : Type 0
BitLinear = (a b : ℕ) → crc_bit (bit_xor a b) ≡ bit_xor (crc_bit a) (crc_bit b)

-- and takes no two registers to one
unfoldable pub BitInjective : Type 0
BitInjective = (a b : ℕ) → a < 2 ^ 32 → b < 2 ^ 32 → crc_bit a ≡ crc_bit b → a ≡ b

-- so of two byte strings that differ only in the t low bytes of one word, and there within 32 neighbouring bits, the
-- CRC-32 is another one
unfoldable pub BurstDetected : Type 0
BurstDetected =
    (t old new p : ℕ) (before after : List ℕ) → AllBytes before → AllBytes after → Within32 p old new
    → crc32 (before ++ (le_bytes t old ++ after)) ≡ crc32 (before ++ (le_bytes t new ++ after))
    → le_bytes t old ≡ le_bytes t new
