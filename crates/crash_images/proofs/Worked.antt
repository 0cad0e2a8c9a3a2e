-- The worked example of slip 13 and some refusals, by evaluation.
use mathlib.Core.Path.{◌≡◌, refl}
use mathlib.Core.List.{List, [], ◌∷◌, ◌++◌}
use Prim.Native.Nat.{ℕ, zero, suc}
use lib.ListN.{replicate, set}
use Rattle.device.specs.Ops.{Op, store, flush, op_words}
use Rattle.device.specs.Crash.{carry_op, carry}
use Rattle.refusal.specs.Tests.{ok, refused, because}
use Rattle.crash_images.specs.CrashImages.{holds, add_choice, choices_of, columns, ways_of, way_of, total_of, crash_of, total, image_left, crash_reply}
use Rattle.device.specs.ReadOps.{ops_of, first_other}

abbrev buffer : List Op
buffer = store 5 7 ∷ store 3 1 ∷ flush 5 1 ∷ []

abbrev zeros : List ℕ
zeros = replicate 6 0

-- what crash i leaves
abbrev seen : ℕ → List ℕ
seen i = image_left zeros buffer i

pub nine : total zeros buffer ≡ 9
unfolding holds add_choice choices_of columns ways_of total_of carry_op carry
nine = refl

abbrev shows : ℕ → ℕ → List ℕ
shows three five = 0 ∷ 0 ∷ 0 ∷ three ∷ 0 ∷ five ∷ []

pub the_nine : seen 0 ∷ seen 1 ∷ seen 2 ∷ seen 3 ∷ seen 4 ∷ seen 5 ∷ seen 6 ∷ seen 7 ∷ seen 8 ∷ []
    ≡ shows 0 0 ∷ shows 0 0 ∷ shows 0 7 ∷ shows 0 0 ∷ shows 1 0 ∷ shows 0 7 ∷ shows 1 7 ∷ shows 0 7 ∷ shows 1 7 ∷ []
unfolding holds add_choice choices_of columns ways_of way_of crash_of carry_op carry
the_nine = refl

-- the tests, over 40 words of zeros
abbrev big : List ℕ
big = replicate 40 0

pub crash_four : crash_reply big (op_words buffer) 4 40 ≡ ok (record { point = 2; choice = 1 })
unfolding holds add_choice choices_of columns ways_of way_of total_of crash_of carry_op carry ops_of first_other
    crash_reply
    op_words
crash_four = refl

pub no_tenth : crash_reply big (op_words buffer) 9 40 ≡ refused (because 23 0)
unfolding holds add_choice choices_of columns ways_of way_of total_of crash_of carry_op carry ops_of first_other
    crash_reply
    op_words
no_tenth = refl

-- the second op's flush of no word; a last group of two words after three ops; a wrong op decides before the number
pub no_flush : crash_reply big (op_words (store 5 7 ∷ flush 5 0 ∷ store 40 1 ∷ [])) 9 40 ≡ refused (because 21 1)
unfolding first_other crash_reply op_words
no_flush = refl

pub crash_short : crash_reply big (op_words buffer ++ 1 ∷ 3 ∷ []) 4 40 ≡ refused (because 21 3)
unfolding first_other crash_reply op_words
crash_short = refl

pub outside : crash_reply big (op_words (store 40 1 ∷ [])) 4 40 ≡ refused (because 21 0)
unfolding first_other crash_reply op_words
outside = refl

pub other_buffer : crash_reply big (op_words (store 40 1 ∷ [])) 4 41 ≡ refused (because 1 0)
unfolding crash_reply
other_buffer = refl

-- after store a, store b, store a the choices end in b, and a flush leaves a
pub again : total big (store 5 7 ∷ store 5 8 ∷ store 5 7 ∷ flush 5 1 ∷ []) ≡ 10
unfolding holds add_choice choices_of columns ways_of total_of carry_op carry
again = refl

pub again_last : image_left big (store 5 7 ∷ store 5 8 ∷ store 5 7 ∷ flush 5 1 ∷ []) 9 ≡ set big 5 7
unfolding holds add_choice choices_of columns ways_of way_of crash_of carry_op carry
again_last = refl

abbrev stores : ℕ → List Op
stores zero = []
stores (suc n) = store n 1 ∷ stores n

-- eleven words stored once: 4,095 crashes; twelve: 8,191
pub eleven : total big (stores 11) ≡ 4095
unfolding holds add_choice choices_of columns ways_of total_of carry_op carry
eleven = refl

pub twelve : crash_reply big (op_words (stores 12)) 0 40 ≡ refused (because 22 0)
unfolding holds add_choice choices_of columns ways_of total_of carry_op carry ops_of first_other crash_reply op_words
twelve = refl
