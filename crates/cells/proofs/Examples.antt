-- One image by evaluation: the rule speaks of it, and each premise is needed. A change of 33 neighbouring bits of its
-- payload word, of its length, of its mark or of its epoch is neither padding nor damage; and what each test of a
-- record then says.
-- Cites specs/OneCell.antt.
use mathlib.Core.Path.{◌≡◌, refl, sym, ap, ◌∙◌}
use mathlib.Core.List.{List, [], ◌∷◌}
use Prim.Native.Nat.{ℕ}
use native.Mathlib.Omega.{arith}
use lib.Bits.{bit_xor}
use lib.ListN.{length, get_or, set}
use Rattle.crc_spec.specs.Bits.{crc_bit, crc_bits}
use Rattle.crc_spec.specs.Bytes.{le_bytes, word_bytes}
use Rattle.crc_spec.specs.Crc.{crc_byte, crc_over, crc32}
use Rattle.crc_spec.proofs.Burst.{unseen}
use Rattle.refusal.specs.Tests.{damaged_by, Reply, ok, refused}
use Rattle.layout.specs.Record.{size_of, word0, word2, mark_of, kind_of, length_of, check_of, epoch_of, record_check}
use Rattle.layout.specs.Ring.{ring_word, read_at, ring_bytes, payload_of}
use Rattle.layout.specs.Superline.{copy_start, copy_check, selector, active_word}
use Rattle.scan.specs.declared.Found.{Found}
use Rattle.scan.specs.Open.{superline_bad, head_cursor, opening}
use Rattle.scan.specs.Next.{found_at, damage_tests, behind, next_within, step_tests_within, step_within}
use Rattle.scan.specs.Scan.{scan, listed, scan_from_within, scan_within}
use Rattle.cells.specs.OneCell.{Ended, payload, PaddingOrDamage, padding, damage}

-- a log of 16 words with one record, in words 24 to 27: LSN 2, kind 7, eight bytes, mark 1, epoch 1; the superline's
-- epoch is 2
abbrev pub small : List ℕ
small =
    0 ∷ 0 ∷ 0 ∷ 0 ∷ 0 ∷ 0 ∷ 0 ∷ 0 ∷ 4294967336 ∷ 16 ∷ 0 ∷ 2 ∷ 2 ∷ 3968607633 ∷ 0 ∷ 0 ∷ 0 ∷ 0 ∷ 0 ∷ 0 ∷ 0 ∷ 0 ∷ 0 ∷ 0
    ∷ 281505041481736 ∷ 2 ∷ 7294555106 ∷ 0xC6DD8030 ∷ 0 ∷ 0 ∷ 0 ∷ 0 ∷ 0 ∷ 0 ∷ 0 ∷ 0 ∷ 0 ∷ 0 ∷ 0 ∷ 0 ∷ []

abbrev pub only : Found
only = record { pos = 0; lsn = 2; kind = 7; length = 8; mark = 1; epoch = 1 }

-- the same record with other numbers
abbrev with_length : ℕ → Found
with_length n = record { pos = 0; lsn = 2; kind = 7; length = n; mark = 1; epoch = 1 }

abbrev with_mark : ℕ → Found
with_mark m = record { pos = 0; lsn = 2; kind = 7; length = 8; mark = m; epoch = 1 }

abbrev with_epoch : ℕ → Found
with_epoch e = record { pos = 0; lsn = 2; kind = 7; length = 8; mark = 1; epoch = e }

-- what a scan finds and how it ends
pub record Reads (image : List ℕ) (found : List Found) (end : Reply ℕ) : Type 0 where
  pub finds : (scan image).found ≡ found
  pub ends : (scan image).end ≡ end

abbrev damaged : ℕ → Reply ℕ
damaged test = refused (damaged_by test 2)

pub small_ended : Ended small
unfolding opening superline_bad copy_check word_bytes head_cursor selector active_word copy_start le_bytes crc32
    crc_over
    crc_byte crc_bits crc_bit scan_within
    scan_from_within next_within step_within step_tests_within damage_tests found_at word0 word2 mark_of kind_of
    length_of check_of
    epoch_of size_of record_check read_at ring_word payload_of ring_bytes behind listed
small_ended = record { opens = refl; lsn = 3; ends = refl }

pub small_reads : Reads small (only ∷ []) (ok 3)
unfolding head_cursor selector active_word copy_start le_bytes crc32 crc_over crc_byte crc_bits crc_bit scan_within
    scan_from_within next_within step_within step_tests_within damage_tests found_at word0 word2 mark_of kind_of
    length_of check_of
    epoch_of size_of record_check read_at ring_word payload_of ring_bytes behind listed
small_reads = record { finds = refl; ends = refl }

-- ---------------------------------------------------------------- not detected
-- 33 neighbouring bits of the payload word: those of the polynomial
abbrev pub unseen_change : List ℕ
unseen_change = set small 27 0x11DAC8671

pub the_33_bits : bit_xor 0xC6DD8030 0x11DAC8671 ≡ unseen
the_33_bits = refl

pub payload_lost : (Reads unseen_change (only ∷ []) (ok 3)) × (get_or (payload small only) 0 0 ≡ 0x30)
    × (get_or (payload unseen_change only) 0 0 ≡ 0x71)
unfolding head_cursor selector active_word copy_start le_bytes crc32 crc_over crc_byte crc_bits crc_bit scan_within
    scan_from_within next_within step_within step_tests_within damage_tests found_at word0 word2 mark_of kind_of
    length_of check_of
    epoch_of size_of record_check read_at ring_word payload_of ring_bytes behind listed
payload_lost = (record { finds = refl; ends = refl }, refl, refl)

-- so the claim for 32 bits fails for 33
pub neither : PaddingOrDamage small unseen_change [] only → ⊥
neither (padding same a) =
    let z : ◌≡◌ {A = ℕ} 0x71 0x30 =
    sym payload_lost.2 ∙ ap (λ (l : List ℕ). get_or l 0 0) same ∙ payload_lost.1 in
    omega arith
neither (damage n d) = let e = d.ends in let k = payload_lost.0.ends in let z : ◌≡◌ {A = ℕ} 0 1 = cc in omega arith

-- word 0: the length is 4 for 8, and the check is right all the same; the record has half its payload
pub shorter : (Reads (set small 24 (word0 4 7 1)) (with_length 4 ∷ []) (ok 3))
    × (length (payload (set small 24 (word0 4 7 1)) (with_length 4)) ≡ 4)
unfolding head_cursor selector active_word copy_start le_bytes crc32 crc_over crc_byte crc_bits crc_bit scan_within
    scan_from_within next_within step_within step_tests_within damage_tests found_at word0 word2 mark_of kind_of
    length_of check_of
    epoch_of size_of record_check read_at ring_word payload_of ring_bytes behind listed
shorter = (record { finds = refl; ends = refl }, refl)

-- word 0: mark 0 is the end, and mark 2 leaves the record out of the list
pub ended_early : Reads (set small 24 (word0 8 7 0)) [] (ok 2)
unfolding head_cursor selector active_word copy_start le_bytes crc32 crc_over crc_byte crc_bits crc_bit scan_within
    scan_from_within next_within step_within step_tests_within damage_tests found_at word0 word2 mark_of kind_of
    length_of check_of
    epoch_of size_of record_check read_at ring_word payload_of ring_bytes behind listed
ended_early = record { finds = refl; ends = refl }

pub not_listed : (Reads (set small 24 (word0 8 7 2)) (with_mark 2 ∷ []) (ok 3)) × (listed (with_mark 2 ∷ []) ≡ [])
unfolding head_cursor selector active_word copy_start le_bytes crc32 crc_over crc_byte crc_bits crc_bit scan_within
    scan_from_within next_within step_within step_tests_within damage_tests found_at word0 word2 mark_of kind_of
    length_of check_of
    epoch_of size_of record_check read_at ring_word payload_of ring_bytes behind listed
not_listed = (record { finds = refl; ends = refl }, refl)

-- word 2: an epoch raised, not above the superline's
pub epoch_raised : Reads (set small 26 (word2 0xB2CA13E2 2)) (with_epoch 2 ∷ []) (ok 3)
unfolding head_cursor selector active_word copy_start le_bytes crc32 crc_over crc_byte crc_bits crc_bit scan_within
    scan_from_within next_within step_within step_tests_within damage_tests found_at word0 word2 mark_of kind_of
    length_of check_of
    epoch_of size_of record_check read_at ring_word payload_of ring_bytes behind listed
epoch_raised = record { finds = refl; ends = refl }

-- ---------------------------------------------------------------- detected, and by which test
-- word 0: mark, kind, length, fit; another kind fails the check
pub in_word_0 : (Reads (set small 24 (word0 8 7 3)) [] (damaged 1))
    × (Reads (set small 24 (word0 8 0 1)) [] (damaged 2))
    × (Reads (set small 24 (word0 1025 7 1)) [] (damaged 3)) × (Reads (set small 24 (word0 1024 7 1)) [] (damaged 4))
    × (Reads (set small 24 (word0 8 6 1)) [] (damaged 6))
unfolding head_cursor selector active_word copy_start le_bytes crc32 crc_over crc_byte crc_bits crc_bit scan_within
    scan_from_within next_within step_within step_tests_within damage_tests found_at word0 word2 mark_of kind_of
    length_of check_of
    epoch_of size_of record_check read_at ring_word payload_of ring_bytes behind listed
in_word_0 = (
  record { finds = refl; ends = refl },
  record { finds = refl; ends = refl },
  record { finds = refl; ends = refl },
  record { finds = refl; ends = refl },
  record { finds = refl; ends = refl },
)

-- word 1: LSN; word 2: check, or epoch; the payload word: check
pub in_others : (Reads (set small 25 5) [] (damaged 5)) × (Reads (set small 26 (word2 0xB2CA13E3 1)) [] (damaged 6))
    × (Reads (set small 26 (word2 0xB2CA13E2 3)) [] (damaged 7)) × (Reads (set small 27 0xC6DD8031) [] (damaged 6))
unfolding head_cursor selector active_word copy_start le_bytes crc32 crc_over crc_byte crc_bits crc_bit scan_within
    scan_from_within next_within step_within step_tests_within damage_tests found_at word0 word2 mark_of kind_of
    length_of check_of
    epoch_of size_of record_check read_at ring_word payload_of ring_bytes behind listed
in_others = (
  record { finds = refl; ends = refl },
  record { finds = refl; ends = refl },
  record { finds = refl; ends = refl },
  record { finds = refl; ends = refl },
)

-- the word at which the scan ended: damage may follow the records
pub at_end : Reads (set small 28 (word0 0 7 1)) (only ∷ []) (refused (damaged_by 5 3))
unfolding head_cursor selector active_word copy_start le_bytes crc32 crc_over crc_byte crc_bits crc_bit scan_within
    scan_from_within next_within step_within step_tests_within damage_tests found_at word0 word2 mark_of kind_of
    length_of check_of
    epoch_of size_of record_check read_at ring_word payload_of ring_bytes behind listed
at_end = record { finds = refl; ends = refl }
