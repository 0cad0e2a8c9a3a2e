-- The register of the CRC-32, bit by bit. Document 01: "CRC-32 (ITU-T V.42): bits least significant first, reflected
-- polynomial EDB88320 hex, start and final exclusive-or FFFFFFFF hex."
use Rattle.std.specs.Prelude.{ℕ, zero, suc, ◌*◌, ◌/◌, ◌%◌}
use Rattle.std.specs.Int.Bits.{bit_xor}

-- the generator polynomial, its bits reflected
abbrev pub poly : ℕ
poly = 0xEDB88320

-- one bit: the register moves a place towards its low end, and the polynomial is added where the bit that falls out is
-- 1
unfoldable pub crc_bit : ℕ → ℕ
crc_bit r = bit_xor (r / 2) (r % 2 * poly)

-- n bits
unfoldable pub crc_bits : ℕ → ℕ → ℕ
crc_bits zero r = r
crc_bits (suc n) r = crc_bits n (crc_bit r)
