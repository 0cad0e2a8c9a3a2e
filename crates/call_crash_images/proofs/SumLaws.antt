-- The sum over the points: it is the total at the end, and more than the most as soon as it passes it; and the point
-- that a number falls to.
-- Cites InnerSteps.antt of crash_images, InnerTable.antt of crash_table, and InnerPut.antt.
use mathlib.Core.Path.{◌≡◌, refl, sym, ◌∙◌, ap}
use mathlib.Core.Bool.{Bool, true, false, ◌&&◌, false≢true}
use mathlib.Core.List.{List, [], ◌∷◌}
use Prim.Native.Nat.{ℕ, zero, suc, ◌+◌, ◌-◌, ◌*◌, ◌/◌, ◌≤◌, ◌<◌}
use native.Mathlib.Decide.{dec_lt}
use native.Mathlib.Omega.{arith}
use native.Mathlib.Numerals.{add-one}
use lib.ListN.{length}
use lib.Dec.{leb, ltb}
use borrow.Author.Tests.{ltb-true, ltb-false, leb-true, leb-false}
use Rattle.device.specs.Ops.{Op, store, flush}
use Rattle.crash_images.specs.CrashImages.{total, max_crashes}
use Rattle.device.specs.ReadOps.{ops_of}
use Rattle.crash_images.specs.declared.Entry.{Entry}
use Rattle.crash_images.specs.InnerSteps.{op_at, flushed_at, without, table_step, table_at, table_count, crashes_before, GoodOps}
use Rattle.crash_images.proofs.StepTotals.{total_by_steps, table_fits, count_step}
use Rattle.crash_table.specs.InnerTable.{table_room}
use Rattle.call_crash_images.specs.InnerPut.{IsFlush, NextStore, NextChange, Totals, Finds}

before_rises : (image : List ℕ) (os : List Op) (k d : ℕ) → crashes_before image os k ≤ crashes_before image os (d + k)
unfolding crashes_before
before_rises image os k zero = rw (zero_plus k) (omega arith)
  where
    zero_plus : (x : ℕ) → 0 + x ≡ x
    zero_plus x = omega arith
before_rises image os k (suc d) = rw (more d k) (omega (arith, before_rises image os k d))
  where
    more : (x y : ℕ) → suc x + y ≡ suc (x + y)
    more x y = omega arith

-- the search for a store goes on past a flush
pub store_turn : (os : List Op) (k end j : ℕ) → NextStore os k end j → j < end → IsFlush (op_at os j)
    → NextStore os k end (j + 1)
store_turn os k end j n h f = record {
  above = omega (arith, n.above);
  below = omega arith;
  flushes = λ i a b. go i a b (dec_lt i j);
}
  where
    go : (i : ℕ) → k ≤ i → i < j + 1 → Dec (i < j) → IsFlush (op_at os i)
    go i a b (yes l) = n.flushes i a l
    go i a b (no l) = let e : i ≡ j = omega arith in rw e f

-- a flush leaves an empty table empty
flush_empty : (o : Op) (flushed : ℕ → ℕ) (t : List Entry) → IsFlush o → t ≡ [] → table_step o flushed t ≡ []
unfolding without
flush_empty (store x v) flushed t f e = absurd f
flush_empty (flush a c) flushed t f e = rw e

-- d flushes of an empty table: it stays empty, and each has one image
module _ (image : List ℕ) (os : List Op) (k : ℕ) (empty : table_at image os k ≡ []) where
  still_empty : (d : ℕ) → ((j : ℕ) → k ≤ j → j < k + d → IsFlush (op_at os j)) → table_at image os (k + d) ≡ []
  unfolding table_at
  still_empty zero f = let z : k + 0 ≡ k = omega arith in rw z empty
  still_empty (suc d) f = let z : k + suc d ≡ suc (k + d) = omega arith in
      rw z (flush_empty (op_at os (k + d)) (flushed_at image os (k + d)) (table_at image os (k + d))
      (f (k + d) (omega arith) (omega arith)) (still_empty d (λ j a b. f j a (omega arith))))

  one_each : (d : ℕ) → ((j : ℕ) → k ≤ j → j < k + d → IsFlush (op_at os j))
      → crashes_before image os (k + d) ≡ crashes_before image os k + d
  unfolding crashes_before table_count
  one_each zero f = let z : k + 0 ≡ k = omega arith in rw z (omega arith)
  one_each (suc d) f = let z : k + suc d ≡ suc (k + d) = omega arith in
      rw z (omega (
        arith,
        one_each d (λ j a b. f j a (omega arith)),
        ap table_count (still_empty d (λ j a b. f j a (omega arith))),
      ))

no_entries : (t : List Entry) → length t ≡ 0 → t ≡ []
no_entries [] h = refl
no_entries (e ∷ t) h = absurd (omega arith)

-- so the table at the next op that can change it is the one now
module _ (image : List ℕ) (os : List Op) (k end next : ℕ) (t : List Entry) (e : t ≡ table_at image os k)
    (n : NextChange os k end (length t) next) where
  idle : (table_at image os next ≡ table_at image os k)
      × (crashes_before image os next ≡ crashes_before image os k + (next - k))
  idle = go (dec_lt k next)
    where
      go : Dec (k < next) → (table_at image os next ≡ table_at image os k)
          × (crashes_before image os next ≡ crashes_before image os k + (next - k))
      go (yes l) =
          let none = no_entries (table_at image os k) (ap length (sym e) ∙ n.empty l) in
          let z : k + (next - k) ≡ next = omega arith in
          let f : (j : ℕ) → k ≤ j → j < k + (next - k) → IsFlush (op_at os j) =
          λ j a b. n.next.flushes j a (omega arith) in (
            rw z at (still_empty image os k none (next - k) f) ∙ sym none,
            rw z at (one_each image os k none (next - k) f),
          )
      go (no l) = let z : next ≡ k = omega (arith, n.next.above) in rw z (refl, omega arith)

  pub idle_table : t ≡ table_at image os next
  idle_table = e ∙ sym idle.0

  pub idle_before : crashes_before image os next ≡ crashes_before image os k + (next - k)
  idle_before = idle.1

-- the first op that can change the table: before it each point has one image
module _ (image : List ℕ) (os : List Op) (end next : ℕ) (n : NextStore os 0 end next) where
  first_change : NextChange os 0 end 0 next
  first_change = record { next = n; empty = λ l. refl }

  pub table_start : [] ≡ table_at image os next
  unfolding table_at
  table_start = idle_table image os 0 end next [] refl first_change

  pub before_start : crashes_before image os next ≡ next
  unfolding crashes_before table_at
  before_start = omega (arith, idle_before image os 0 end next [] refl first_change)

  pub sum_start : 1 + next ≡ crashes_before image os (suc next)
  unfolding crashes_before table_count
  sum_start = omega (arith, before_start, ap table_count table_start)

pub sum_goes_on : (k count sum : ℕ) → (ltb k count && leb sum max_crashes) ≡ true → (k < count) × (sum ≤ max_crashes)
sum_goes_on k count sum = go (ltb k count) (leb sum max_crashes) refl refl
  where
    go : (a b : Bool) → ltb k count ≡ a → leb sum max_crashes ≡ b → (a && b) ≡ true → (k < count) × (sum ≤ max_crashes)
    go true true p q r = (ltb-true k count p, leb-true sum max_crashes q)
    go true false p q r = absurd (false≢true r)
    go false b p q r = absurd (false≢true r)

pub count_ops : {n : ℕ} {buffer : List ℕ} → GoodOps n buffer → length buffer / 3 ≡ length (ops_of buffer)
count_ops {n} {buffer} good = rw good.whole (omega arith)

module _ (image buffer : List ℕ) (good : GoodOps (length image) buffer) (k : ℕ) where
  -- op k's three words are in the buffer
  pub group_inside : k < length (ops_of buffer) → k * 3 + 3 ≤ length buffer
  group_inside h = omega (arith, good.whole)

  -- the sum up to a point is at most the total
  pub before_total : k ≤ length (ops_of buffer)
      → crashes_before image (ops_of buffer) (suc k) ≤ total image (ops_of buffer)
  before_total h = let n = length (ops_of buffer) in
      let e : n - k + suc k ≡ suc n = omega arith in
      omega (
        arith,
        rw e at (before_rises image (ops_of buffer) (suc k) (n - k)),
        total_by_steps image (ops_of buffer) good.each,
      )

  -- at a point up to which the sum is not more than the most: the table has room for an entry, and few images
  pub point_fits : {t : List Entry} → t ≡ table_at image (ops_of buffer) k
      → k ≤ length (ops_of buffer) → crashes_before image (ops_of buffer) (suc k) ≤ max_crashes
      → (length t < table_room) × (table_count t ≤ max_crashes)
  unfolding crashes_before
  point_fits e h m = (
    rw e (table_fits (length image) image (ops_of buffer) good.each k h m),
    rw e (omega arith),
  )

  -- and at the next one at most twice as many
  pub next_fits : {t : List Entry} → t ≡ table_at image (ops_of buffer) (k + 1)
      → k < length (ops_of buffer) → crashes_before image (ops_of buffer) (suc k) ≤ max_crashes
      → table_count t ≤ 2 * max_crashes
  unfolding crashes_before
  next_fits e h m =
      rw (e, add-one k) (omega (arith, count_step (length image) image (ops_of buffer) good.each k h))

  -- one op more, and the flushes after it that change nothing
  pub sum_turn : {t : List Entry} (sum end next : ℕ)
      → sum ≡ crashes_before image (ops_of buffer) (suc k) → t ≡ table_at image (ops_of buffer) (k + 1)
      → NextChange (ops_of buffer) (k + 1) end (length t) next
      → sum + (table_count t + (next - k - 1)) ≡ crashes_before image (ops_of buffer) (suc next)
  unfolding crashes_before
  sum_turn {t} sum end next e i n =
      omega (
        arith,
        rw (add-one k) at (idle_before image (ops_of buffer) (k + 1) end next t i n),
        ap table_count (idle_table image (ops_of buffer) (k + 1) end next t i n),
        n.next.above,
      )

  -- the end of the sum
  pub sum_ends : (sum count : ℕ) → sum ≡ crashes_before image (ops_of buffer) (suc k) → k ≤ count
      → count ≡ length (ops_of buffer) → (ltb k count && leb sum max_crashes) ≡ false
      → Totals sum (total image (ops_of buffer))
  sum_ends sum count e h c t = record {
    exact = λ m. go (ltb k count) (leb sum max_crashes) refl refl t m;
    over = λ m. omega (arith, before_total (omega arith));
  }
    where
      go : (a b : Bool) → ltb k count ≡ a → leb sum max_crashes ≡ b → (a && b) ≡ false → sum ≤ max_crashes
          → sum ≡ total image (ops_of buffer)
      go true true p q r m = absurd (false≢true (sym r))
      go true false p q r m = absurd (omega (arith, leb-false sum max_crashes q))
      go false b p q r m = let z : k ≡ length (ops_of buffer) = omega (arith, ltb-false k count p) in
          e ∙ rw z (total_by_steps image (ops_of buffer) good.each)

  -- the number is not one of this point: there is a next one
  pub find_goes_on : {t : List Entry} (i left : ℕ)
      → i ≡ crashes_before image (ops_of buffer) k + left
      → t ≡ table_at image (ops_of buffer) k → k ≤ length (ops_of buffer)
      → i < total image (ops_of buffer)
      → table_count t ≤ left → k < length (ops_of buffer)
  unfolding crashes_before
  find_goes_on i left e t h l m = go (ltb k (length (ops_of buffer))) refl
    where
      go : (b : Bool) → ltb k (length (ops_of buffer)) ≡ b → k < length (ops_of buffer)
      go true p = ltb-true k (length (ops_of buffer)) p
      go false p = let z : k ≡ length (ops_of buffer) = omega (arith, ltb-false k (length (ops_of buffer)) p) in
          absurd (omega (arith, ap table_count t, rw (← z) at (total_by_steps image (ops_of buffer) good.each)))

  pub find_turn : {t t' : List Entry} (i left end next : ℕ)
      → i ≡ crashes_before image (ops_of buffer) k + left
      → t ≡ table_at image (ops_of buffer) k → table_count t ≤ left
      → t' ≡ table_at image (ops_of buffer) (k + 1)
      → NextChange (ops_of buffer) (k + 1) end (length t') next → end ≤ k + 1 + (left - table_count t)
      → i ≡ crashes_before image (ops_of buffer) next + (left - table_count t - (next - k - 1))
  unfolding crashes_before
  find_turn {t' = t'} i left end next e t m q n l =
      omega (
        arith,
        ap table_count t,
        rw (add-one k) at (idle_before image (ops_of buffer) (k + 1) end next t' q n),
        n.next.above,
        n.next.below,
      )

  pub found : {t : List Entry} (i left : ℕ) → i ≡ crashes_before image (ops_of buffer) k + left
      → t ≡ table_at image (ops_of buffer) k → k ≤ length (ops_of buffer) → left < table_count t
      → Finds image (ops_of buffer) i (record { point = k; choice = left }) t
  found i left e t h c = record {
    point = h;
    choice = omega (arith, ap table_count t);
    number = e;
    table = t;
  }
