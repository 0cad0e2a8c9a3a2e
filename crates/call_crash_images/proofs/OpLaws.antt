-- The ops of a buffer that are flushes: one by its first word, and all after the last store.
-- Cites InnerSteps.antt of crash_images, and InnerPut.antt.
use mathlib.Core.Path.{◌≡◌}
use mathlib.Core.List.{List}
use Prim.Native.Nat.{ℕ, ◌+◌, ◌*◌, ◌≤◌, ◌<◌}
use native.Mathlib.Decide.{dec_lt}
use native.Mathlib.Omega.{arith}
use lib.ListN.{length, get_or}
use borrow.Author.Tests.{ne_eqb}
use Rattle.device.specs.Ops.{Op}
use Rattle.device.specs.ReadOps.{ops_of}
use Rattle.crash_images.specs.InnerSteps.{op_at}
use Rattle.crash_images.proofs.BufferLaws.{ops_at, ops_long}
use Rattle.call_crash_images.specs.InnerPut.{IsFlush}

-- three words of the buffer that begin with another word than 1 are a flush
pub other_flush : (buffer : List ℕ) (j : ℕ) → j * 3 + 3 ≤ length buffer → (get_or buffer (j * 3) 0 ≡ 1 → ⊥)
    → IsFlush (op_at (ops_of buffer) j)
other_flush buffer j h tag = rw (ops_at buffer j (ops_long buffer j h), ne_eqb (get_or buffer (j * 3) 0) 1 tag) tt

-- the ops looked at: after so many of them no store
abbrev pub FlushesTo : List Op → ℕ → ℕ → Type 0
FlushesTo os stores k = (j : ℕ) → stores ≤ j → j < k → IsFlush (op_at os j)

pub flushes_none : (os : List Op) (k : ℕ) → FlushesTo os k k
flushes_none os k j a b = absurd (omega arith)

pub flushes_more : (buffer : List ℕ) (stores k : ℕ) → k * 3 + 3 ≤ length buffer
    → FlushesTo (ops_of buffer) stores k → (get_or buffer (k * 3) 0 ≡ 1 → ⊥)
    → FlushesTo (ops_of buffer) stores (k + 1)
flushes_more buffer stores k h f tag j a l = at (dec_lt j k)
  where
    at : Dec (j < k) → IsFlush (op_at (ops_of buffer) j)
    at (yes m) = f j a m
    at (no m) = let z : j ≡ k = omega arith in rw z (other_flush buffer k h tag)
