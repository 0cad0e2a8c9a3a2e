-- The crashes over an op buffer, numbered, and the image that each leaves.
-- Slip 13: "Given a flushed image and a tape, number every pair of a cut point and a choice of values. Cut points rise
-- from "no order done" to "all done". At one point each word's choices are its last flushed value and then the values
-- stored since, repeats dropped; the lowest word changes fastest." Its cut is a crash here, its order an op, its tape
-- the op buffer.
-- Cites Crash.antt and Ops.antt of device, Tests.antt of refusal, and Open.antt of scan.
use Rattle.std.specs.Prelude.{List, [], ◌∷◌, ◌++◌, Bool, false, cond, not, ◌||◌, ℕ, zero, suc, ◌+◌, ◌*◌, ◌-◌, ◌/◌, ◌%◌, length, get_or, take, leb, ltb, eqb}
use Rattle.device.specs.Ops.{Op}
use Rattle.device.specs.ReadOps.{ops_of, is_op_inside, first_other}
use Rattle.device.specs.Crash.{Cell, Device, carry_op, carry, power_up}
use Rattle.refusal.specs.Tests.{Reply, ok, refused, Test, test, op_test, decide}
use Rattle.scan.specs.Open.{image_size_ok, size_test}

-- v is among values
unfoldable pub holds : ℕ → List ℕ → Bool
holds v [] = false
holds v (x ∷ xs) = eqb v x || holds v xs

-- a value after others, unless it is among them: "repeats dropped"
unfoldable pub add_choice : ℕ → List ℕ → List ℕ
add_choice v xs = cond (holds v xs) xs (xs ++ (v ∷ []))

-- "its last flushed value and then the values stored since", the oldest first; a cell has the newest first
unfoldable pub choices_of : ℕ → List ℕ → List ℕ
choices_of flushed [] = flushed ∷ []
choices_of flushed (v ∷ vs) = add_choice v (choices_of flushed vs)

abbrev pub choices : Cell → List ℕ
choices c = choices_of c.flushed c.since

-- the choices of count words from first on
unfoldable pub columns : Device → ℕ → ℕ → List (List ℕ)
columns d first zero = []
columns d first (suc count) = choices (d first) ∷ columns d (suc first) count

-- how many ways there are to take one of each
unfoldable pub ways_of : List (List ℕ) → ℕ
ways_of [] = 1
ways_of (c ∷ cs) = length c * ways_of cs

-- way m of them: "the lowest word changes fastest"
unfoldable pub way_of : List (List ℕ) → ℕ → List ℕ
way_of [] m = []
way_of (c ∷ cs) m = get_or c (m % length c) 0 ∷ way_of cs (m / length c)

-- how many images of n words a crash may leave, and the one of a number
abbrev pub count_at : ℕ → Device → ℕ
count_at n d = ways_of (columns d 0 n)

abbrev pub image_at : ℕ → Device → ℕ → List ℕ
image_at n d m = way_of (columns d 0 n) m

-- the module at crash point k: k ops carried out, none in part
abbrev pub point_of : List ℕ → List Op → ℕ → Device
point_of image os k = carry (take k os) (power_up image)

-- how many crashes there are in all, from a module on: those at the point now, and those after each op
unfoldable pub total_of : ℕ → List Op → Device → ℕ
total_of n [] d = count_at n d
total_of n (o ∷ os) d = count_at n d + total_of n os (carry_op o d)

abbrev pub total : List ℕ → List Op → ℕ
total image os = total_of (length image) os (power_up image)

-- a crash: its point, and the number of its image there
pub record Crash : Type 0 where
  pub point : ℕ
  pub choice : ℕ

abbrev pub later : Crash → Crash
later c = record { point = suc c.point; choice = c.choice }

-- crash number i, from a module on
unfoldable pub crash_of : ℕ → List Op → Device → ℕ → Crash
crash_of n [] d i = record { point = 0; choice = i }
crash_of n (o ∷ os) d i =
    cond (ltb i (count_at n d)) (record { point = 0; choice = i })
    (later (crash_of n os (carry_op o d) (i - count_at n d)))

abbrev pub crash_number : List ℕ → List Op → ℕ → Crash
crash_number image os i = crash_of (length image) os (power_up image) i

-- the image that a crash leaves, and that of crash number i
abbrev pub left_by : List ℕ → List Op → Crash → List ℕ
left_by image os c = image_at (length image) (point_of image os c.point) c.choice

abbrev pub image_left : List ℕ → List Op → ℕ → List ℕ
image_left image os i = left_by image os (crash_number image os i)

-- three words as an op of a module of n words: "a store to a word of the image" or "a flush of one or more words, all
-- inside it"
abbrev pub op_ok : ℕ → ℕ → ℕ → ℕ → Bool
op_ok n tag word argument = is_op_inside (λ w. ltb w n) n tag word argument

-- "New: 22, more than 4,096 cuts in all, tested after 21"
abbrev pub max_crashes : ℕ
max_crashes = 4096

abbrev pub count_tests : List ℕ → List ℕ → List Test
count_tests image buffer =
    size_test image
    ∷ op_test (first_other (op_ok (length image)) 0 buffer)
    ∷ test (ltb max_crashes (total image (ops_of buffer))) 22 0
    ∷ []

-- what counting answers: how many crashes there are in all
unfoldable pub count_reply : List ℕ → List ℕ → Reply ℕ
count_reply image buffer = decide (count_tests image buffer) refused (ok (total image (ops_of buffer)))

-- "Refusal 1 also covers a buffer not of the image's length"; "23, i not below their number, tested after 22"
abbrev pub crash_tests : List ℕ → List ℕ → ℕ → ℕ → List Test
crash_tests image buffer i room =
    test (not (image_size_ok (length image)) || not (eqb room (length image))) 1 0
    ∷ op_test (first_other (op_ok (length image)) 0 buffer)
    ∷ test (ltb max_crashes (total image (ops_of buffer))) 22 0
    ∷ test (leb (total image (ops_of buffer)) i) 23 0
    ∷ []

-- what the call answers that is lent room words for an image: crash number i
unfoldable pub crash_reply : List ℕ → List ℕ → ℕ → ℕ → Reply Crash
crash_reply image buffer i room =
    decide (crash_tests image buffer i room) refused (ok (crash_number image (ops_of buffer) i))

-- its value: the crash point
abbrev pub point_reply : Reply Crash → Reply ℕ
point_reply (ok c) = ok c.point
point_reply (refused w) = refused w

-- the words lent after it: "puts that image in a lent buffer"; a refusal leaves them
abbrev pub output_left : List ℕ → List Op → Reply Crash → List ℕ → List ℕ
output_left image os (ok c) output = left_by image os c
output_left image os (refused w) output = output
