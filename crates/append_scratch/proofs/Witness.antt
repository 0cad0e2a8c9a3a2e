-- The theorems speak of something, by evaluation: a record is appended, a note is passed where the next one's words
-- will be, power fails in the next append, and the first is listed. And where power fails after a further note, what is
-- read could have been read before it.
-- Cites specs/AppendScratch.antt.
use mathlib.Core.Path.{◌≡◌, refl}
use mathlib.Core.List.{List, [], ◌∷◌, map}
use mathlib.Core.Bool.{true}
use Prim.Native.Nat.{ℕ}
use native.Mathlib.Omega.{arith}
use lib.ListN.{length, set, take, replicate}
use lib.Dec.{leb}
use borrow.Author.Tests.{leb-true}
use Rattle.crc_spec.specs.Bytes.{le_bytes, word_bytes}
use Rattle.crc_spec.specs.Bits.{crc_bit, crc_bits}
use Rattle.crc_spec.specs.Crc.{crc_byte, crc_over, crc32}
use Rattle.layout.specs.Record.{size_of, word0, mark_of, kind_of, length_of, record_check, word2, check_of, epoch_of}
use Rattle.layout.specs.Ring.{ring_word, read_at, ring_bytes, payload_of}
use Rattle.layout.specs.Superline.{copy_start, copy_body, copy_check, copy_words, selector, active_word}
use Rattle.layout.specs.ByteWords.{number, word_at, words_at}
use Rattle.device.specs.Crash.{carry_op, carry}
use Rattle.device.specs.Ops.{apply}
use Rattle.device.specs.ReadOps.{ops_of, first_other}
use Rattle.device.proofs.MayHold.{is_in, may_hold, is_left, is_left_lem}
use Rattle.refusal.specs.Tests.{ok}
use Rattle.state.specs.Sound.{follow_ok, free_from, is_sound}
use Rattle.state.specs.Table.{entry_in_table, with_entry, size_from, used}
use Rattle.scan.specs.declared.Found.{Found}
use Rattle.scan.specs.Next.{found_at, damage_tests, behind, next_within, step_tests_within, step_within}
use Rattle.scan.specs.Open.{superline_bad, head_cursor}
use Rattle.scan.specs.Scan.{scan, listed, scan_from_within, scan_within}
use Rattle.journal.specs.AbstractLog.{feed_granted}
use Rattle.journal.specs.Append.{reserve_state, complete_state}
use Rattle.journal.specs.CrashSafe.{System, formatted, Recovers}
use Rattle.journal.specs.Effect.{done, no_state}
use Rattle.journal.specs.Force.{mark_store, mark_stores, mark_flushes, force_ops, commit_from, force_state, first_open, has_multiple, is_deferred}
use Rattle.journal.specs.Recover.{format_ops, fresh_state, format_effect}
use Rattle.journal.specs.Stores.{stores, flush_ring, superline_ops}
use Rattle.append.specs.AppendCall.{whole_record, record_ops, recorded_state, append_deferred, append_due, append_effect}
use Rattle.append.specs.AppendSafe.{append, append_crash, append_in, feed_recorded, feed_appended, feed_append, after_append}
use Rattle.scratch.specs.ScratchSafe.{Passed, ReadBefore, passed, after_scratch}
use Rattle.scratch.specs.Vet.{is_among, belongs_from, is_free_word, vet}
use Rattle.append_scratch.specs.AppendScratch.{AppendScratchEvent, appends, scratch, after_either, after_eithers, AllFitEither, AppendScratchSafe, AppendScratchHarmless}
use Rattle.append_scratch.proofs.AppendScratchTheorem.{append_scratch_safe, append_scratch_harmless}

abbrev old : List ℕ
old = replicate 40 7

pub start : System
start = formatted old 33

-- LSN 1 is words 24 to 26, the terminator word 27
pub written : System
written = after_append (append 17 [] 1 99) start

-- where the next record's words will be, and elsewhere
abbrev notes : List ℕ
notes = 1 ∷ 28 ∷ 77 ∷ 1 ∷ 34 ∷ 78 ∷ []

pub noted : System
noted = after_scratch (passed notes) written

-- the first store of the next append is carried out, and power fails
pub half : List ℕ
half = apply (take 1 (append_in noted 17 [] 1 99).ops) noted.image

pub history : List AppendScratchEvent
history =
    appends (append 17 [] 1 99) ∷ scratch (passed notes) ∷ appends (append_crash 17 [] 1 99 1 half) ∷ []

-- a further note, and power fails after it
abbrev more : List ℕ
more = 1 ∷ 28 ∷ 79 ∷ []

pub again : List ℕ
again = set noted.image 28 79

abbrev lsns : List ℕ → List ℕ
lsns image = map (λ (r : Found). r.lsn) (listed (scan image).found)

pub record Seen : Type 0 where
  pub passed : Passed written notes
  pub carried : leb 1 (length (append_in noted 17 [] 1 99).ops) ≡ true
  pub left : is_left (carry (take 1 (append_in noted 17 [] 1 99).ops) noted.device) (length noted.image) half
      ≡ true
  pub lists : lsns half ≡ 1 ∷ []
  pub passed_more : Passed noted more
  pub carried_more : leb 1 (length (ops_of more)) ≡ true
  pub left_more : is_left (carry (take 1 (ops_of more)) noted.device) (length noted.image) again ≡ true

pub seen : Seen
unfolding le_bytes word_bytes crc_bit crc_bits crc_byte crc_over crc32 size_of word0 mark_of kind_of length_of
    record_check word2
    check_of epoch_of ring_word read_at ring_bytes payload_of copy_start copy_body copy_check copy_words selector
    active_word
    number word_at words_at carry_op carry apply ops_of first_other is_in may_hold is_left follow_ok free_from is_sound
    entry_in_table
    with_entry size_from used found_at damage_tests step_tests_within behind step_within next_within superline_bad
    head_cursor
    scan_from_within scan_within listed feed_granted reserve_state complete_state formatted mark_store mark_stores
    mark_flushes
    force_ops commit_from force_state first_open has_multiple is_deferred format_ops fresh_state format_effect stores
    flush_ring
    superline_ops whole_record record_ops recorded_state append_deferred append_due append_effect feed_recorded
    feed_appended
    feed_append after_append after_scratch is_among belongs_from is_free_word vet start written noted half again
seen = record {
  passed = refl;
  carried = refl;
  left = refl;
  lists = refl;
  passed_more = refl;
  carried_more = refl;
  left_more = refl;
}

formats : (format_effect no_state old 33).reply ≡ ok done
unfolding format_effect format_ops stores copy_words copy_body
formats = refl

-- the history is possible
pub possible : AllFitEither history start
unfolding AllFitEither after_either after_append after_scratch history noted written start formatted
possible = (
  (λ i. omega arith, refl),
  (
    seen.passed,
    (
      (λ i. omega arith, refl, leb-true 1 _ seen.carried, is_left_lem _ _ half seen.left),
      tt,
    ),
  ),
)

pub recovers_then : Recovers (after_eithers history start)
unfolding AppendScratchSafe start
recovers_then = append_scratch_safe old 33 formats history possible

pub reads_before : ReadBefore noted again
unfolding AppendScratchHarmless AllFitEither after_either after_eithers history start written noted
reads_before =
    append_scratch_harmless old 33 formats (appends (append 17 [] 1 99) ∷ scratch (passed notes) ∷ [])
    (possible.0, (possible.1.0, tt)) more seen.passed_more 1 (leb-true 1 _ seen.carried_more) again
    (is_left_lem _ _ again seen.left_more)
