-- CRC-32 over bytes. Document 01: "CRC-32 (ITU-T V.42): bits least significant first, reflected polynomial EDB88320
-- hex, start and final exclusive-or FFFFFFFF hex." What a bit does is in Bits.antt.
use Rattle.std.specs.Prelude.{List, [], ◌∷◌, ℕ}
use Rattle.std.specs.Int.Bits.{bit_xor}
use Rattle.crc_spec.specs.Bits.{crc_bits}

-- one byte, added at the low end
unfoldable pub crc_byte : ℕ → ℕ → ℕ
crc_byte r b = crc_bits 8 (bit_xor r b)

-- the register after the bytes of a list
unfoldable pub crc_over : ℕ → List ℕ → ℕ
crc_over r [] = r
crc_over r (b ∷ bs) = crc_over (crc_byte r b) bs

-- the CRC-32 of a list of bytes
unfoldable pub crc32 : List ℕ → ℕ
crc32 bs = bit_xor (crc_over 0xFFFFFFFF bs) 0xFFFFFFFF
