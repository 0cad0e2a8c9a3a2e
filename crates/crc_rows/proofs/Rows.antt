-- The table is what the definition says: all of it by one evaluation.
use Rattle.std.proofs.Common.{◌≡◌, refl, ap, ◌∙◌, List, [], ℕ, ◌*◌, ◌-◌, ◌<◌, ◌≤◌, map, get_or, arith}
use Rattle.std.specs.List.{range_with_len}
use Rattle.std.proofs.lemmas.List.FromFn.{get_or-map-range_with_len}
use Rattle.crc_spec.specs.Bits.{crc_bits, crc_bit}
use Rattle.crc_rows.specs.declared.TheConstants.{ROWS}

-- the registers of all bytes after so many bytes of zero
abbrev row_of : ℕ → List ℕ
row_of zeros = map (crc_bits (8 * zeros)) (range_with_len 0 256)

rows : ROWS ≡ map row_of (range_with_len 1 16)
unfolding crc_bits crc_bit
rows = refl

pub entry : (zeros byte : ℕ) → 0 < zeros → zeros ≤ 16 → byte < 256
    → get_or (get_or ROWS (zeros - 1) []) byte 0 ≡ crc_bits (8 * zeros) byte
entry zeros byte some most fits =
    ap (λ t. get_or (get_or t (zeros - 1) []) byte 0) rows
    ∙ ap (λ r. get_or r byte 0)
    (get_or-map-range_with_len row_of 1 16 (zeros - 1) zeros [] (omega arith) (omega arith))
    ∙ get_or-map-range_with_len (crc_bits (8 * zeros)) 0 256 byte byte 0 fits (omega arith)
