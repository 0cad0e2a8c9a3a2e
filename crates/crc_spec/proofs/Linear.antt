-- A bit's step is linear over the exclusive or, and so are n bits.
use mathlib.Core.Path.{◌≡◌, refl, ap, ap₂, ◌∙◌}
use Prim.Native.Nat.{ℕ, zero, suc, ◌*◌, ◌/◌, ◌%◌, ◌<◌}
use native.Mathlib.Nat.{mod-lt, zero-lt-suc}
use lib.Bits.{bit_xor, differ}
use Rattle.crc_spec.specs.Bits.{poly, crc_bit, crc_bits}
use Rattle.crc_spec.proofs.Xor.{digit_cases, xor_half, xor_odd, xor_cross}

-- the polynomial taken as often as a digit says
taps : (x y : ℕ) → x < 2 → y < 2 → differ x y * poly ≡ bit_xor (x * poly) (y * poly)
taps x y hx hy =
    digit_cases (λ (x : ℕ). differ x y * poly ≡ bit_xor (x * poly) (y * poly)) refl
    (digit_cases (λ (y : ℕ). differ 1 y * poly ≡ bit_xor (1 * poly) (y * poly)) refl refl y hy) x hx

pub bit_linear : (a b : ℕ) → crc_bit (bit_xor a b) ≡ bit_xor (crc_bit a) (crc_bit b)
unfolding crc_bit
bit_linear a b =
    ap₂ (λ (x y : ℕ). bit_xor x (y * poly)) (xor_half a b) (xor_odd a b)
    ∙ ap (bit_xor (bit_xor (a / 2) (b / 2)))
    (taps (a % 2) (b % 2) (mod-lt a (zero-lt-suc 1)) (mod-lt b (zero-lt-suc 1)))
    ∙ xor_cross (a / 2) (b / 2) (a % 2 * poly) (b % 2 * poly)

pub linear : (n a b : ℕ) → crc_bits n (bit_xor a b) ≡ bit_xor (crc_bits n a) (crc_bits n b)
unfolding crc_bits
linear zero a b = refl
linear (suc n) a b = ap (crc_bits n) (bit_linear a b) ∙ linear n (crc_bit a) (crc_bit b)
