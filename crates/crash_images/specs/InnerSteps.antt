-- The crashes again, by steps that suit code: only words that an op stores to have choices. A table holds the values
-- stored since the last flush of their word, without the flushed one and without repeats; the flushed and the newest
-- value are read from the ops. After store a, store b, store a the table ends in b, but a flush leaves a: so the newest
-- value is not the table's last.
-- Cites CrashImages.antt, and Crash.antt and Ops.antt of device.
use Rattle.std.specs.Prelude.{◌≡◌, List, [], ◌∷◌, ◌++◌, Bool, false, cond, ◌&&◌, ◌||◌, ℕ, zero, suc, ◌+◌, ◌*◌, ◌/◌, ◌%◌, ◌<◌, length, get_or, eqb}
use Rattle.std.specs.Coded.{Unit-prop, le_prop}
use Rattle.device.specs.Ops.{Op, store, flush}
use Rattle.device.specs.Crash.{within}
use Rattle.device.specs.ReadOps.{ops_of}
use Rattle.crash_images.specs.declared.Entry.{Entry}

abbrev pub entry : ℕ → ℕ → Entry
entry w v = record { word = w; value = v }

-- op k; after the last, one that does nothing
abbrev pub op_at : List Op → ℕ → Op
op_at os k = get_or os k (flush 0 0)

-- a word's newest value after k ops, and its flushed one
abbrev pub newest_step : Op → ℕ → ℕ → ℕ
newest_step (store x v) w old = cond (eqb w x) v old
newest_step (flush f c) w old = old

unfoldable pub newest_at : List ℕ → List Op → ℕ → ℕ → ℕ
newest_at image os zero w = get_or image w 0
newest_at image os (suc k) w = newest_step (op_at os k) w (newest_at image os k w)

abbrev pub flushed_step : Op → ℕ → ℕ → ℕ → ℕ
flushed_step (store x v) w new old = old
flushed_step (flush f c) w new old = cond (within f c w) new old

unfoldable pub flushed_at : List ℕ → List Op → ℕ → ℕ → ℕ
flushed_at image os zero w = get_or image w 0
flushed_at image os (suc k) w = flushed_step (op_at os k) w (newest_at image os k w) (flushed_at image os k w)

-- a table, the newest entry first: whether it has an entry; what is left of it after a flush; how many entries a word
-- has, and their values, the oldest first
unfoldable pub in_table : ℕ → ℕ → List Entry → Bool
in_table w v [] = false
in_table w v (e ∷ t) = (eqb w e.word && eqb v e.value) || in_table w v t

unfoldable pub without : ℕ → ℕ → List Entry → List Entry
without f c [] = []
without f c (e ∷ t) = cond (within f c e.word) (without f c t) (e ∷ without f c t)

unfoldable pub entries_of : ℕ → List Entry → ℕ
entries_of w [] = 0
entries_of w (e ∷ t) = cond (eqb w e.word) (suc (entries_of w t)) (entries_of w t)

unfoldable pub values_of : ℕ → List Entry → List ℕ
values_of w [] = []
values_of w (e ∷ t) = cond (eqb w e.word) (values_of w t ++ (e.value ∷ [])) (values_of w t)

abbrev pub table_step : Op → (ℕ → ℕ) → List Entry → List Entry
table_step (store x v) flushed t = cond (eqb v (flushed x) || in_table x v t) t (entry x v ∷ t)
table_step (flush f c) flushed t = without f c t

unfoldable pub table_at : List ℕ → List Op → ℕ → List Entry
table_at image os zero = []
table_at image os (suc k) = table_step (op_at os k) (flushed_at image os k) (table_at image os k)

-- how many images a table has: an entry more turns a factor 1 + c into 2 + c
unfoldable pub table_count : List Entry → ℕ
table_count [] = 1
table_count (e ∷ t) = table_count t / (1 + entries_of e.word t) * (2 + entries_of e.word t)

-- how many crashes the points before point k have; with k one after the last point, all of them
unfoldable pub crashes_before : List ℕ → List Op → ℕ → ℕ
crashes_before image os zero = 0
crashes_before image os (suc k) = crashes_before image os k + table_count (table_at image os k)

-- count words from w on of image m at point k
unfoldable pub words_by : (ℕ → ℕ) → List Entry → ℕ → ℕ → ℕ → List ℕ
words_by flushed t w zero m = []
words_by flushed t w (suc count) m =
    get_or (flushed w ∷ values_of w t) (m % (1 + entries_of w t)) 0
    ∷ words_by flushed t (suc w) count (m / (1 + entries_of w t))

-- a store to a word of an image of n words, or a flush
abbrev pub StoresIn : ℕ → Op → Type 0
StoresIn n (store x v) = x < n
StoresIn n (flush f c) = Unit {0}

-- it holds in one way
pub StoresIn-prop : (n : ℕ) (o : Op) → IsProp (StoresIn n o)
StoresIn-prop n (store x v) = le_prop
StoresIn-prop n (flush f c) = Unit-prop

-- no op is bad: whole groups, and stores to words of the image
pub record GoodOps (n : ℕ) (buffer : List ℕ) : Type 0 where
  pub whole : length buffer ≡ length (ops_of buffer) * 3
  pub each : (k : ℕ) → k < length (ops_of buffer) → StoresIn n (op_at (ops_of buffer) k)
