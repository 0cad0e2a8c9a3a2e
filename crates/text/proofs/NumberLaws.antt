-- The fewest decimal digits of a number are its decimal text, at most 20 of them.
-- Cites specs/Text.antt, and digits and Fewest of io.
use mathlib.Core.Path.{◌≡◌, refl}
use mathlib.Core.Bool.{Bool, true, false, cond}
use mathlib.Core.List.{List, [], ◌∷◌, ◌++◌}
use Prim.Native.Nat.{ℕ, zero, suc, ◌*◌, ◌-◌, ◌/◌, ◌%◌, ◌^◌, ◌≤◌, ◌<◌}
use native.Mathlib.Numerals.{unary_clauses}
use native.Mathlib.Omega.{arith}
use native.Mathlib.Nat.{pow-suc, one-le-pow, pow-le-pow_right}
use native.Mathlib.Decide.{dec_lt}
use lib.Dec.{ltb}
use lib.ListN.{length, take, length-append}
use borrow.Author.Tests.{lt-ltb, le-ltb}
use Rattle.io.specs.Digits.{hex_digit_ascii, last_digits, IsDigitCount}
use Rattle.text.specs.Text.{decimal_within, decimal_text, Appended}

pub digits_decimal : (most k n : ℕ) → k ≤ most → IsDigitCount 10 1 n k → last_digits 10 k n ≡ decimal_within most n
unfolding decimal_within
digits_decimal most zero n h f = absurd (omega arith)
digits_decimal zero (suc k) n h f = absurd (omega arith)
digits_decimal (suc most) (suc zero) n h f =
    let e : n % 10 ≡ n = omega arith in
    rw (e, lt-ltb n 10 (omega arith))
digits_decimal (suc most) (suc (suc k)) n h f =
    let low : 10 ^ k * 10 ≤ n = simp unary_clauses at (f.2 (omega arith)) in
    let p1 = pow-suc 10 k in
    let p2 = pow-suc 10 (suc k) in
    let one = one-le-pow k 10 (omega arith) in
    rw (
      le-ltb n 10 (omega arith),
      digits_decimal most (suc k) (n / 10) (omega arith)
          (omega arith, omega arith, λ l. simp unary_clauses (omega arith)),
    )

pub length_digits : (k n : ℕ) → length (last_digits 10 k n) ≡ k
length_digits zero n = refl
length_digits (suc k) n =
    rw (length-append (last_digits 10 k (n / 10)) (hex_digit_ascii (n % 10) ∷ []), length_digits k (n / 10))
    (omega arith)

-- a number of 64 bits has at most 20 digits
pub digits_most : (k n : ℕ) → n < 18446744073709551616 → IsDigitCount 10 1 n k → k ≤ 20
digits_most k n h f = go (dec_lt 20 k)
  where
    go : Dec (20 < k) → k ≤ 20
    go (no l) = omega arith
    go (yes l) =
        let low : 10 ^ (k - 1) ≤ n = f.2 (omega arith) in
        let far : 20 ≤ k - 1 = omega arith in
        let ten : 0 < 10 = omega arith in
        let big : 10 ^ 20 ≤ 10 ^ (k - 1) = pow-le-pow_right ten far in
        absurd (omega arith)

pub length_decimal : (most n : ℕ) → length (decimal_within most n) ≤ most
unfolding decimal_within
length_decimal zero n = omega arith
length_decimal (suc most) n = go (length_decimal most (n / 10)) (ltb n 10)
  where
    go : length (decimal_within most (n / 10)) ≤ most → (b : Bool)
        → length (cond b (hex_digit_ascii n ∷ []) (decimal_within most (n / 10) ++ (hex_digit_ascii (n % 10) ∷ [])))
        ≤ suc most
    go h true = omega arith
    go h false = rw (length-append (decimal_within most (n / 10)) (hex_digit_ascii (n % 10) ∷ [])) (omega arith)

-- the digits put are the decimal text
pub decimal_put : {at r n : ℕ} {out out' : List ℕ} (k : ℕ) (ds : List ℕ) → Appended at r out out' (take k ds)
    → take k ds ≡ last_digits 10 k n
    → n < 18446744073709551616 → IsDigitCount 10 1 n k → Appended at r out out' (decimal_text n)
decimal_put {at} {r} {n} k ds p e h f = rw (e, digits_decimal 20 k n (digits_most k n h f) f) at p

-- there are at most 20 of them
pub decimal_few : {n : ℕ} (k : ℕ) (ds : List ℕ) → take k ds ≡ last_digits 10 k n → n < 18446744073709551616
    → IsDigitCount 10 1 n k
    → length (take k ds) ≤ 20
decimal_few {n} k ds e h f = rw (e, length_digits k n) (digits_most k n h f)
