-- The parts of the calls: the tests before the crashes are counted, the ops that can change a table, the sum over the
-- points, the point of a number, and the image put by its flushed values and its choices.
-- Cites CrashImages.antt and InnerSteps.antt of crash_images.
use Rattle.std.specs.Prelude.{◌≡◌, Bool, false, not, cond, ◌||◌, List, [], ◌∷◌, ℕ, zero, suc, ◌+◌, ◌/◌, ◌%◌, ◌≤◌, ◌<◌, eqb, length, get_or, set, Result, Ok, Err, IfOk}
use Rattle.std.specs.Coded.{Unit-prop}
use Rattle.device.specs.Ops.{Op, store, flush}
use Rattle.refusal.specs.declared.Refusal.{Refusal}
use Rattle.refusal.specs.Refusals.{why_of}
use Rattle.refusal.specs.Tests.{Reply, ok, refused, Test, test, verdict}
use Rattle.scan.specs.Open.{image_size_ok}
use Rattle.crash_images.specs.CrashImages.{max_crashes, op_ok}
use Rattle.device.specs.ReadOps.{first_other}
use Rattle.refusal.specs.Tests.{op_test}
use Rattle.crash_images.specs.declared.Entry.{Entry}
use Rattle.crash_images.specs.InnerSteps.{op_at, flushed_at, entries_of, values_of, table_at, table_count, crashes_before}
use Rattle.call_crash_images.specs.declared.Found.{Found}

-- tests 1 and 21, of an image of n words and room for one
abbrev pub lent_tests : ℕ → ℕ → List ℕ → List Test
lent_tests n room buffer =
    test (not (image_size_ok n) || not (eqb room n)) 1 0 ∷ op_test (first_other (op_ok n) 0 buffer) ∷ []

-- an op that is a flush
abbrev pub IsFlush : Op → Type 0
IsFlush (store x v) = ⊥
IsFlush (flush f c) = Unit {0}

-- it holds in one way
pub IsFlush-prop : (o : Op) → IsProp (IsFlush o)
IsFlush-prop (store x v) = hlevel
IsFlush-prop (flush f c) = Unit-prop

-- no store comes after so many ops
pub record LastStore (os : List Op) (stores : ℕ) : Type 0 where
  pub flushes : (j : ℕ) → stores ≤ j → j < length os → IsFlush (op_at os j)

-- what tests say, and where they pass the ops up to the last store
abbrev pub tests_reply : Result ℕ Refusal → Reply (Unit {0})
tests_reply (Ok stores) = ok tt
tests_reply (Err r) = refused (why_of r)

pub record Tests (ts : List Test) (os : List Op) (r : Result ℕ Refusal) : Type 0 where
  pub verdict : tests_reply r ≡ verdict ts
  pub stores : IfOk r (LastStore os)

-- from op k on there are only flushes before op r, which is at most the one at the end
pub record NextStore (os : List Op) (k end r : ℕ) : Type 0 where
  pub above : k ≤ r
  pub below : r ≤ end
  pub flushes : (j : ℕ) → k ≤ j → j < r → IsFlush (op_at os j)

-- the same, and op r is op k unless a table of so many entries has none
pub record NextChange (os : List Op) (k end entries r : ℕ) : Type 0 where
  pub next : NextStore os k end r
  pub empty : k < r → entries ≡ 0

-- a sum that is the total, unless both are more than the most
pub record Totals (r total : ℕ) : Type 0 where
  pub exact : r ≤ max_crashes → r ≡ total
  pub over : max_crashes < r → max_crashes < total

-- crash number i is found, with the table at its point
pub record Finds (image : List ℕ) (os : List Op) (i : ℕ) (r : Found) (t : List Entry) : Type 0 where
  pub point : r.point ≤ length os
  pub choice : r.choice < table_count (table_at image os r.point)
  pub number : i ≡ crashes_before image os r.point + r.choice
  pub table : t ≡ table_at image os r.point

-- an op that stores to word w; some of the first j ops do
abbrev pub stores_to : Op → ℕ → Bool
stores_to (store x v) w = eqb w x
stores_to (flush f c) w = false

unfoldable pub stored_by : List Op → ℕ → ℕ → Bool
stored_by os zero w = false
stored_by os (suc j) w = stores_to (op_at os j) w || stored_by os j w

-- the word that op j stores to has its value flushed after k ops; the others stay
pub record FlushedOf (image : List ℕ) (os : List Op) (k j : ℕ) (output output' : List ℕ) : Type 0 where
  pub each : (w : ℕ)
      → get_or output' w 0 ≡ cond (stores_to (op_at os j) w) (flushed_at image os k w) (get_or output w 0)

-- every word has its value flushed after k ops
pub record FlushedWords (image : List ℕ) (os : List Op) (k : ℕ) (output : List ℕ) : Type 0 where
  pub each : (w : ℕ) → get_or output w 0 ≡ flushed_at image os k w

-- the lowest word of a table that is not below from, or n
pub record NextWord (t : List Entry) (from n r : ℕ) : Type 0 where
  pub above : from ≤ r
  pub below : r ≤ n
  pub none : (w : ℕ) → from ≤ w → w < r → entries_of w t ≡ 0

-- word w gets its choice by the lowest digit of m, and r is the number of the rest
pub record PutsChoice (t : List Entry) (w m r : ℕ) (output output' : List ℕ) : Type 0 where
  pub put : output' ≡ set output w (get_or (get_or output w 0 ∷ values_of w t) (m % (1 + entries_of w t)) 0)
  pub rest : r ≡ m / (1 + entries_of w t)
