-- A difference within 32 neighbouring bits of a word leaves the register different, and equal bytes after it keep it
-- so.
-- Cites specs/Burst.antt.
use mathlib.Core.Path.{◌≡◌, refl, sym, ap, ap₂, ◌∙◌}
use mathlib.Core.List.{List, [], ◌∷◌, ◌++◌}
use Prim.Native.Nat.{ℕ, zero, suc, ◌+◌, ◌-◌, ◌*◌, ◌/◌, ◌%◌, ◌^◌, ◌≤◌, ◌<◌}
use native.Mathlib.Omega.{arith}
use native.Mathlib.Decide.{dec_le}
use native.Mathlib.Nat.{mod-lt, zero-lt-suc, lt_of_le_of_lt, lt_of_lt_of_le, mod-le, mul-mod_left, mul_assoc, zero-mul, add-zero}
use lib.Bits.{bit_xor, xor_zero_l, xor_zero_r, xor_self, xor_lt, xor_mod, xor_shr}
use lib.Dec.{lit≤}
use lib.Pow.{pow-add, split, shr-shr}
use Rattle.crc_spec.specs.Bits.{poly, crc_bit, crc_bits}
use Rattle.crc_spec.specs.Bytes.{le_bytes, AllBytes}
use Rattle.crc_spec.specs.Burst.{Within32, BitLinear, BitInjective, BurstDetected}
use Rattle.crc_spec.specs.Crc.{crc_byte, crc_over, crc32}
use Rattle.crc_spec.proofs.Xor.{digit_cases, xor_assoc, xor_cross}
use Rattle.crc_spec.proofs.Linear.{bit_linear, linear}
use Rattle.crc_spec.proofs.Laws.{bit_lt, byte_lt, crc_over_lt, over_append, le_bytes_bytes}
use Rattle.crc_spec.proofs.Register.{low_bytes, part_bits, moved_up, moved_out}

-- two numbers whose exclusive or is 0 are one
xor_same : (a b : ℕ) → bit_xor a b ≡ 0 → a ≡ b
xor_same a b e =
    sym (xor_zero_r a)
    ∙ ap (bit_xor a) (sym (xor_self b))
    ∙ sym (xor_assoc a b b)
    ∙ ap (λ (x : ℕ). bit_xor x b) e
    ∙ xor_zero_l b

-- what is added to both can be taken off
xor_drop : (a b x : ℕ) → bit_xor (bit_xor a x) (bit_xor b x) ≡ bit_xor a b
xor_drop a b x = xor_cross a x b x ∙ ap (bit_xor (bit_xor a b)) (xor_self x) ∙ xor_zero_r (bit_xor a b)

xor_drop_first : (a b x : ℕ) → bit_xor (bit_xor x a) (bit_xor x b) ≡ bit_xor a b
xor_drop_first a b x =
    xor_cross x a x b ∙ ap (λ (y : ℕ). bit_xor y (bit_xor a b)) (xor_self x) ∙ xor_zero_l (bit_xor a b)

xor_zero_of : (a b : ℕ) → a ≡ b → bit_xor a b ≡ 0
xor_zero_of a b e = ap (bit_xor a) (sym e) ∙ xor_self a

xor_cancel : (a b x : ℕ) → bit_xor a x ≡ bit_xor b x → a ≡ b
xor_cancel a b x e = xor_same a b (sym (xor_drop a b x) ∙ xor_zero_of (bit_xor a x) (bit_xor b x) e)

-- ---------------------------------------------------------------- the register
-- a bit's step leaves 0 only of 0: the polynomial has bit 31, and half of a register has not
bit_zero : (x : ℕ) → x < 4294967296 → crc_bit x ≡ 0 → x ≡ 0
unfolding crc_bit
bit_zero x h e =
    digit_cases (λ (d : ℕ). x % 2 ≡ d → bit_xor (x / 2) (d * poly) ≡ 0 → x ≡ 0)
    (λ p q. let half : x / 2 ≡ 0 = sym (xor_zero_r (x / 2)) ∙ q in omega arith)
    (λ p q. let half : x / 2 ≡ 3988292384 = xor_same (x / 2) 3988292384 q in absurd (omega arith))
    (x % 2) (mod-lt x (zero-lt-suc 1)) refl e

bits_zero : (n x : ℕ) → x < 4294967296 → crc_bits n x ≡ 0 → x ≡ 0
unfolding crc_bits
bits_zero zero x h e = e
bits_zero (suc n) x h e = bit_zero x h (bits_zero n (crc_bit x) (bit_lt x h) e)

pub is_linear : BitLinear
unfolding BitLinear
is_linear = bit_linear

-- registers that become equal were equal
pub bits_injective : (n a b : ℕ) → a < 4294967296 → b < 4294967296 → crc_bits n a ≡ crc_bits n b → a ≡ b
bits_injective n a b ha hb e =
    xor_same a b
    (bits_zero n (bit_xor a b) (xor_lt 32 a b ha hb) (linear n a b ∙ xor_zero_of (crc_bits n a) (crc_bits n b) e))

pub is_injective : BitInjective
unfolding BitInjective crc_bits
is_injective a b ha hb e = bits_injective 1 a b ha hb e

byte_injective : (r s b : ℕ) → r < 4294967296 → s < 4294967296 → b < 256 → crc_byte r b ≡ crc_byte s b → r ≡ s
unfolding crc_byte
byte_injective r s b hr hs hb e =
    let small : b < 4294967296 = lt_of_lt_of_le hb (lit≤ tt) in
    xor_cancel r s b
    (bits_injective 8 (bit_xor r b) (bit_xor s b) (xor_lt 32 r b hr small) (xor_lt 32 s b hs small) e)

pub over_injective : (r s : ℕ) (bs : List ℕ) → r < 4294967296 → s < 4294967296 → AllBytes bs
    → crc_over r bs ≡ crc_over s bs
    → r ≡ s
unfolding crc_over
over_injective r s [] hr hs all e = e
over_injective r s (b ∷ bs) hr hs all e =
    byte_injective r s b hr hs (all zero)
    (over_injective (crc_byte r b) (crc_byte s b) bs (byte_lt r b hr (all zero)) (byte_lt s b hs (all zero))
    (λ i. all (suc i)) e)

-- ---------------------------------------------------------------- a difference in one word
-- a difference of at most 32 neighbouring bits that n bits of the register take away is none
shifted_zero : (n e p : ℕ) → e < 4294967296 → crc_bits n ((e * 2 ^ p) % 2 ^ n) ≡ 0 → (e * 2 ^ p) % 2 ^ n ≡ 0
shifted_zero n e p h z = go (dec_le p n)
  where
    inside : (m : ℕ) → n ≡ m + p → (e * 2 ^ p) % 2 ^ n ≡ 0
    inside m is =
        let moved : (e * 2 ^ p) % 2 ^ n ≡ e % 2 ^ m * 2 ^ p =
        ap (λ (k : ℕ). (e * 2 ^ p) % 2 ^ k) is ∙ moved_out e m p in
        let left : crc_bits m (e % 2 ^ m) ≡ 0 =
        sym (moved_up m p (e % 2 ^ m)) ∙ ap₂ crc_bits {x = p + m} {y = n} (omega arith) (sym moved) ∙ z in
        let none : e % 2 ^ m ≡ 0 = bits_zero m (e % 2 ^ m) (lt_of_le_of_lt (mod-le e (2 ^ m)) h) left in
        moved ∙ ap (λ (x : ℕ). x * 2 ^ p) none ∙ zero-mul (2 ^ p)

    outside : (k : ℕ) → p ≡ k + n → (e * 2 ^ p) % 2 ^ n ≡ 0
    outside k is =
        ap (λ (x : ℕ). x % 2 ^ n)
        (ap (λ (y : ℕ). e * 2 ^ y) is ∙ ap (λ (y : ℕ). e * y) (pow-add 2 k n) ∙ sym (mul_assoc e (2 ^ k) (2 ^ n)))
        ∙ mul-mod_left (e * 2 ^ k) (2 ^ n)

    go : Dec (p ≤ n) → (e * 2 ^ p) % 2 ^ n ≡ 0
    go (yes l) = inside (n - p) (omega arith)
    go (no f) = outside (p - n) (omega arith)

-- two words that agree in the bits below bit p and from bit p + 32 on differ by a number of 32 bits, moved up by p
record Window (p a b : ℕ) : Type 0 where
  e : ℕ
  small : e < 4294967296
  is : bit_xor a b ≡ e * 2 ^ p

window : (p a b : ℕ) → Within32 p a b → Window p a b
window p a b h =
    let x = bit_xor a b in
    let low : x % 2 ^ p ≡ 0 = xor_mod a b p ∙ xor_zero_of (a % 2 ^ p) (b % 2 ^ p) h.below in
    let high : x / 2 ^ p / 4294967296 ≡ 0 =
    shr-shr x p 32 ∙ xor_shr a b (p + 32) ∙ xor_zero_of (a / 2 ^ (p + 32)) (b / 2 ^ (p + 32)) h.above in
    record {
      e = x / 2 ^ p;
      small = omega arith;
      is = sym (split x p) ∙ ap (λ (y : ℕ). x / 2 ^ p * 2 ^ p + y) low ∙ add-zero (x / 2 ^ p * 2 ^ p);
    }

-- such words that bring a register to the same over t bytes agree in these bytes
word_burst : (t r a b p : ℕ) → Within32 p a b → crc_over r (le_bytes t a) ≡ crc_over r (le_bytes t b)
    → a % 2 ^ (t * 8) ≡ b % 2 ^ (t * 8)
word_burst t r a b p within same =
    let w = window p a b within in
    let n = t * 8 in
    let a' = a % 2 ^ n in
    let b' = b % 2 ^ n in
    let apart : bit_xor a' b' ≡ (w.e * 2 ^ p) % 2 ^ n =
    sym (xor_mod a b n) ∙ ap (λ (x : ℕ). x % 2 ^ n) w.is in
    let gone : crc_bits n (bit_xor a' b') ≡ 0 =
    ap (crc_bits n) (sym (xor_drop_first a' b' r))
    ∙ linear n (bit_xor r a') (bit_xor r b')
    ∙ xor_zero_of (crc_bits n (bit_xor r a')) (crc_bits n (bit_xor r b'))
    (sym (part_bits t r a) ∙ same ∙ part_bits t r b) in
    xor_same a' b' (apart ∙ shifted_zero n w.e p w.small (ap (crc_bits n) (sym apart) ∙ gone))

-- words that agree in t bytes have the same t bytes
pub bytes_agree : (t a b : ℕ) → a % 2 ^ (t * 8) ≡ b % 2 ^ (t * 8) → le_bytes t a ≡ le_bytes t b
bytes_agree t a b e = sym (low_bytes t a) ∙ ap (le_bytes t) e ∙ low_bytes t b

-- the theorem, over the bits of these bytes
pub burst_agrees : (t a b p : ℕ) (before after : List ℕ) → AllBytes before → AllBytes after → Within32 p a b
    → crc32 (before ++ (le_bytes t a ++ after)) ≡ crc32 (before ++ (le_bytes t b ++ after))
    → a % 2 ^ (t * 8) ≡ b % 2 ^ (t * 8)
unfolding crc32
burst_agrees t a b p before after all-before all_after within same =
    let r = crc_over 0xFFFFFFFF before in
    let hr : r < 4294967296 = crc_over_lt 0xFFFFFFFF before (lit≤ tt) all-before in
    word_burst t r a b p within
    (over_injective (crc_over r (le_bytes t a)) (crc_over r (le_bytes t b)) after
    (crc_over_lt r (le_bytes t a) hr (le_bytes_bytes t a)) (crc_over_lt r (le_bytes t b) hr (le_bytes_bytes t b))
    all_after
    (sym (parts a) ∙ xor_cancel (over a) (over b) 0xFFFFFFFF same ∙ parts b))
  where
    over : ℕ → ℕ
    over x = crc_over 0xFFFFFFFF (before ++ (le_bytes t x ++ after))

    parts : (x : ℕ) → over x ≡ crc_over (crc_over (crc_over 0xFFFFFFFF before) (le_bytes t x)) after
    parts x =
        over_append 0xFFFFFFFF before (le_bytes t x ++ after)
        ∙ over_append (crc_over 0xFFFFFFFF before) (le_bytes t x) after

pub burst_detected : BurstDetected
unfolding BurstDetected
burst_detected t a b p before after all-before all_after within same =
    bytes_agree t a b (burst_agrees t a b p before after all-before all_after within same)

-- ---------------------------------------------------------------- where it ends
-- the polynomial itself, 33 bits of it, least significant first
abbrev pub unseen : ℕ
unseen = 0x1DB710641

taken : crc_bits 64 unseen ≡ 0
unfolding crc_bits crc_bit
taken = refl

-- 33 bits: whatever is before and whatever the word is, the register after it is the same
pub thirty_three : (r w : ℕ) → crc_over r (le_bytes 8 (bit_xor w unseen)) ≡ crc_over r (le_bytes 8 w)
thirty_three r w =
    part_bits 8 r (bit_xor w unseen)
    ∙ ap (λ (x : ℕ). crc_bits 64 (bit_xor r x)) (xor_mod w unseen 64)
    ∙ ap (crc_bits 64) (sym (xor_assoc r (w % 2 ^ 64) unseen))
    ∙ linear 64 (bit_xor r (w % 2 ^ 64)) unseen
    ∙ ap (bit_xor (crc_bits 64 (bit_xor r (w % 2 ^ 64)))) taken
    ∙ xor_zero_r (crc_bits 64 (bit_xor r (w % 2 ^ 64)))
    ∙ sym (part_bits 8 r w)
