-- The ops of a buffer, by their words; and what it means that no op is bad.
use mathlib.Core.Path.{◌≡◌, refl}
use mathlib.Core.List.{List, [], ◌∷◌}
use mathlib.Core.Bool.{Bool, true, false, cond, ◌&&◌, ◌||◌}
use mathlib.Core.Option.{none, some}
use Prim.Native.Nat.{ℕ, zero, suc, ◌+◌, ◌*◌, ◌≤◌, ◌<◌}
use native.Mathlib.Omega.{arith}
use native.Mathlib.Numerals.{add-one}
use lib.ListN.{length, get_or}
use lib.Dec.{leb, ltb, eqb}
use borrow.Author.Tests.{ltb-true, eq-eqb, ne_eqb}
use Rattle.device.specs.Ops.{store, flush}
use Rattle.crash_images.specs.CrashImages.{op_ok}
use Rattle.device.specs.ReadOps.{op_of, ops_of, first_other}
use Rattle.crash_images.specs.declared.Entry.{Entry}
use Rattle.crash_images.specs.InnerSteps.{entry, op_at, newest_step, newest_at, flushed_step, flushed_at, in_table, without, table_at, StoresIn, GoodOps}

none_some : {k : ℕ} → some k ≡ none → ⊥
none_some e = let z : ◌≡◌ {A = ℕ} 0 1 = cc in omega arith

-- three words more
third : (k i : ℕ) → suc k * 3 + i ≡ suc (suc (suc (k * 3 + i)))
third k i = omega arith

first : (k : ℕ) → suc k * 3 ≡ suc (suc (suc (k * 3)))
first k = omega arith

pub ops_at : (buffer : List ℕ) (k : ℕ) → k < length (ops_of buffer)
    → op_at (ops_of buffer) k
    ≡ op_of (get_or buffer (k * 3) 0) (get_or buffer (k * 3 + 1) 0) (get_or buffer (k * 3 + 2) 0)
unfolding ops_of
ops_at [] k h = absurd (omega arith)
ops_at (a ∷ []) k h = absurd (omega arith)
ops_at (a ∷ b ∷ []) k h = absurd (omega arith)
ops_at (a ∷ b ∷ c ∷ rest) zero h = refl
ops_at (a ∷ b ∷ c ∷ rest) (suc k) h = rw (third k 1, third k 2, first k) (ops_at rest k (omega arith))

op_in : (n tag word argument : ℕ) → op_ok n tag word argument ≡ true → StoresIn n (op_of tag word argument)
op_in n tag word argument h = go (eqb tag 1) h
  where
    go : (s : Bool) → cond s (ltb word n) (eqb tag 2 && (leb 1 argument && leb (word + argument) n)) ≡ true
        → StoresIn n (cond s (store word argument) (flush word argument))
    go true e = ltb-true word n e
    go false e = tt

pub good_ops : (n k : ℕ) (buffer : List ℕ) → first_other (op_ok n) k buffer ≡ none → GoodOps n buffer
unfolding ops_of first_other
good_ops n k [] h = record { whole = refl; each = λ j l. absurd (omega arith) }
good_ops n k (a ∷ []) h = absurd (none_some h)
good_ops n k (a ∷ b ∷ []) h = absurd (none_some h)
good_ops n k (a ∷ b ∷ c ∷ rest) h = go (op_ok n a b c) refl h (good_ops n (suc k) rest)
  where
    go : (t : Bool) → op_ok n a b c ≡ t → cond t (first_other (op_ok n) (suc k) rest) (some k) ≡ none
        → (first_other (op_ok n) (suc k) rest ≡ none → GoodOps n rest) → GoodOps n (a ∷ b ∷ c ∷ rest)
    go false p q r = absurd (none_some q)
    go true p q r = let o = r q in record { whole = omega (arith, o.whole); each = each o.each }
      where
        each : ((j : ℕ) → j < length (ops_of rest) → StoresIn n (op_at (ops_of rest) j)) → (j : ℕ)
            → j < suc (length (ops_of rest)) → StoresIn n (op_at (op_of a b c ∷ ops_of rest) j)
        each f zero l = op_in n a b c p
        each f (suc j) l = f j (omega arith)

pub ops_long : (buffer : List ℕ) (k : ℕ) → k * 3 + 3 ≤ length buffer → k < length (ops_of buffer)
unfolding ops_of
ops_long [] k h = absurd (omega arith)
ops_long (a ∷ []) k h = absurd (omega arith)
ops_long (a ∷ b ∷ []) k h = absurd (omega arith)
ops_long (a ∷ b ∷ c ∷ rest) zero h = omega arith
ops_long (a ∷ b ∷ c ∷ rest) (suc k) h = let r = ops_long rest k (omega arith) in omega (arith, r)

-- the word that a store names
pub store_inside : (n : ℕ) (buffer : List ℕ) (k : ℕ) → GoodOps n buffer → k * 3 + 3 ≤ length buffer
    → get_or buffer (k * 3) 0 ≡ 1 → get_or buffer (k * 3 + 1) 0 < n
store_inside n buffer k good h tag =
    rw (ops_at buffer k (ops_long buffer k h), eq-eqb (get_or buffer (k * 3) 0) 1 tag) at
    (good.each k (ops_long buffer k h))

-- a turn of held_at's loop
pub held_turn : (image buffer : List ℕ) (j w : ℕ) → j * 3 + 3 ≤ length buffer → (new old new' old' : ℕ)
    → (new ≡ newest_at image (ops_of buffer) j w) × (old ≡ flushed_at image (ops_of buffer) j w)
    → (new'
    ≡ newest_step (op_of (get_or buffer (j * 3) 0) (get_or buffer (j * 3 + 1) 0) (get_or buffer (j * 3 + 2) 0)) w new)
    × (old'
    ≡ flushed_step (op_of (get_or buffer (j * 3) 0) (get_or buffer (j * 3 + 1) 0) (get_or buffer (j * 3 + 2) 0)) w new
    old)
    → (new' ≡ newest_at image (ops_of buffer) (j + 1) w) × (old' ≡ flushed_at image (ops_of buffer) (j + 1) w)
unfolding newest_at flushed_at
held_turn image buffer j w h new old new' old' p q =
    rw (add-one j, ops_at buffer j (ops_long buffer j h), ← p.0, ← p.1) q

-- the table after one op
pub table_stored : (image buffer : List ℕ) (k : ℕ) (t t' : List Entry) (flushed : ℕ) → k * 3 + 3 ≤ length buffer
    → t ≡ table_at image (ops_of buffer) k
    → get_or buffer (k * 3) 0 ≡ 1 → flushed ≡ flushed_at image (ops_of buffer) k (get_or buffer (k * 3 + 1) 0)
    → t' ≡ cond
    (eqb (get_or buffer (k * 3 + 2) 0) flushed
    || in_table (get_or buffer (k * 3 + 1) 0) (get_or buffer (k * 3 + 2) 0) t) t
    (entry (get_or buffer (k * 3 + 1) 0) (get_or buffer (k * 3 + 2) 0) ∷ t)
    → t' ≡ table_at image (ops_of buffer) (k + 1)
unfolding table_at
table_stored image buffer k t t' flushed h e tag f q =
    rw (add-one k, ops_at buffer k (ops_long buffer k h), eq-eqb (get_or buffer (k * 3) 0) 1 tag, ← e, ← f) q

pub table_flushed : (image buffer : List ℕ) (k : ℕ) (t t' : List Entry) → k * 3 + 3 ≤ length buffer
    → t ≡ table_at image (ops_of buffer) k
    → (get_or buffer (k * 3) 0 ≡ 1 → ⊥) → t' ≡ without (get_or buffer (k * 3 + 1) 0) (get_or buffer (k * 3 + 2) 0) t
    → t' ≡ table_at image (ops_of buffer) (k + 1)
unfolding table_at
table_flushed image buffer k t t' h e tag q =
    rw (add-one k, ops_at buffer k (ops_long buffer k h), ne_eqb (get_or buffer (k * 3) 0) 1 tag, ← e) q
