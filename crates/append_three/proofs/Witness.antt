-- The theorem speaks of something: one history on three modules formatted over unlike contents, shown to be possible,
-- and what it leaves. A record is appended and forced while the third module misses the force's last ops; the next one
-- is appended and deferred, and power fails in it. The recovery after that finds the first module absent, and lists the
-- record that two modules had.
-- Cites specs/AppendThree.antt, AppendThreeTheorem.antt, and MayBefall.antt of replicas.
use mathlib.Core.Path.{◌≡◌, refl}
use mathlib.Core.List.{List, [], ◌∷◌, map}
use mathlib.Core.Bool.{Bool, true, false}
use mathlib.Core.Option.{some}
use Prim.Native.Nat.{ℕ, zero, suc}
use lib.Dec.{lit<}
use lib.ListN.{length, replicate, take}
use Rattle.crc_spec.specs.Bytes.{AllBytes, le_bytes, word_bytes}
use Rattle.crc_spec.specs.Bits.{crc_bit, crc_bits}
use Rattle.crc_spec.specs.Crc.{crc_byte, crc_over, crc32}
use Rattle.layout.specs.Record.{size_of, word0, mark_of, kind_of, length_of, record_check, word2, check_of, epoch_of}
use Rattle.layout.specs.Ring.{ring_word, read_at, ring_bytes, payload_of}
use Rattle.layout.specs.Superline.{copy_start, copy_body, copy_check, copy_words, selector, active_word}
use Rattle.layout.specs.ByteWords.{number, word_at, words_at, splice}
use Rattle.device.specs.Crash.{carry_op, carry}
use Rattle.device.specs.Ops.{Op, apply}
use Rattle.device.proofs.MayHold.{is_in, may_hold, is_left}
use Rattle.refusal.specs.Tests.{ok}
use Rattle.state.specs.Sound.{follow_ok, free_from, is_sound}
use Rattle.state.specs.Table.{entry_in_table, with_entry, size_from, used}
use Rattle.scan.specs.Listed.{Listed}
use Rattle.scan.specs.Next.{found_at, damage_tests, behind, next_within, step_tests_within, step_within}
use Rattle.scan.specs.Open.{superline_bad, head_cursor, opening}
use Rattle.scan.specs.Scan.{scan, listed, scan_from_within, scan_within}
use Rattle.scan.specs.declared.Found.{Found}
use Rattle.journal.specs.AbstractLog.{Promise, feed_granted, feed}
use Rattle.journal.specs.Append.{reserve_state, complete_state}
use Rattle.journal.specs.Force.{mark_store, mark_stores, mark_flushes, force_ops, commit_from, force_state, first_open, has_multiple, is_deferred}
use Rattle.journal.specs.Effect.{done, no_state}
use Rattle.journal.specs.Recover.{format_ops, fresh_state, format_effect, recover_ops_of, recover_ops}
use Rattle.journal.specs.Stores.{stores, flush_ring, superline_ops}
use Rattle.append.specs.AppendCall.{appended, whole_record, record_ops, recorded_state, append_deferred, append_due, append_effect}
use Rattle.append.specs.AppendSafe.{feed_recorded}
use Rattle.replicas.specs.RecoverThree.{Slot, slot0, slot1, slot2, each, reads_to_end, beats, chosen_slot, chosen_image, repair_ops, repair_of, ops_for, three_effect}
use Rattle.replicas.specs.ThreeSafe.{Drive, Fate, module_after, feed_three, replicas_of, formatted_drive, DriveRecovers}
use Rattle.replicas.proofs.MayBefall.{can_befall, can_befall_lem}
use Rattle.replicas.proofs.Slots.{by_slot}
use Rattle.append_three.specs.AppendThree.{AppendDriveEvent, drive_append, append_on, append_part, feed_appended_three, feed_append_three, append_drive_after, AppendDriveAllFit, append_drive_after_all, AppendThreeSafe}
use Rattle.append_three.proofs.AppendThreeTheorem.{append_three_safe}

abbrev does : ℕ → List ℕ → Fate
does k left = record { carried = k; left = left }

abbrev olds : Slot → List ℕ
olds = each (replicate 40 7) (replicate 40 8) (replicate 40 9)

pub start : Drive
start = formatted_drive (replicate 40 7) olds 33

-- LSN 1, with five stores and a force's three ops, of which the third module carries out the first six
pub first_ops : List Op
first_ops = (append_on start 17 (1 ∷ 2 ∷ []) 1 99).ops

abbrev first_fates : Slot → Fate
first_fates = each (does 8 []) (does 8 []) (does 6 (apply (take 6 first_ops) (start.modules slot2).image))

abbrev e1 : AppendDriveEvent
e1 = drive_append 17 (1 ∷ 2 ∷ []) 1 99 first_fates false

pub forced : Drive
forced = append_drive_after e1 start

-- LSN 2 is deferred, and power fails: two of its five stores are carried out on the first module, which shows them; all
-- on the second, which shows none
pub next_ops : List Op
next_ops = (append_on forced 18 (3 ∷ []) 3 99).ops

abbrev next_fates : Slot → Fate
next_fates =
    each (does 2 (apply (take 2 next_ops) (forced.modules slot0).image)) (does 5 (forced.modules slot1).image)
    (does 0 [])

abbrev e2 : AppendDriveEvent
e2 = drive_append 18 (3 ∷ []) 3 99 next_fates true

pub ended : Drive
ended = append_drive_after e2 forced

two_bytes : AllBytes (1 ∷ 2 ∷ [])
two_bytes zero = lit< tt
two_bytes (suc zero) = lit< tt
two_bytes (suc (suc i)) = lit< tt

one_byte : AllBytes (3 ∷ [])
one_byte zero = lit< tt
one_byte (suc i) = lit< tt

-- ---------------------------------------------------------------- what it leaves, and that it is possible, by
-- evaluation
abbrev present : Slot → Bool
present = each false true true

abbrev found : List ℕ → List ℕ
found image = map (λ (r : Found). r.lsn) (listed (scan image).found)

abbrev promised : ℕ → List ℕ → Bool → Promise
promised kind bytes durable =
    record { kind = kind; bytes = bytes; complete = true; durable = durable; begun = false }

pub record Seen : Type 0 where
  -- each append is one that can befall each module
  pub can : (i : Slot)
      → (can_befall (append_part start 17 (1 ∷ 2 ∷ []) 1 99 first_fates false i) (first_fates i) (start.modules i)
      ≡ true)
      × (can_befall (append_part forced 18 (3 ∷ []) 3 99 next_fates true i) (next_fates i) (forced.modules i) ≡ true)
  -- the first is durable, the next deferred
  pub durable : (append_on start 17 (1 ∷ 2 ∷ []) 1 99).reply ≡ ok (appended 1 1)
  pub deferred : (append_on forced 18 (3 ∷ []) 3 99).reply ≡ ok (appended 2 0)
  pub counts : (length first_ops ≡ 8) × (length next_ops ≡ 5)
  -- the third module missed the mark, and is in step no more
  pub out : (forced.modules slot2).is_in_step ≡ false
  pub lists : (found (ended.modules slot1).image ≡ 1 ∷ []) × (found (ended.modules slot2).image ≡ [])
  -- the abstract log has both complete, and the first durable
  pub promises : (ended.log 1 ≡ some (promised 17 (1 ∷ 2 ∷ []) true))
      × (ended.log 2 ≡ some (promised 18 (3 ∷ []) false))
  -- recovery chooses the second
  pub granted : (three_effect no_state (replicas_of ended present (λ i. 200))).reply ≡ ok done
  pub choice : (three_effect no_state (replicas_of ended present (λ i. 200))).choice ≡ slot1

pub seen : Seen
unfolding le_bytes word_bytes crc_bit crc_bits crc_byte crc_over crc32 size_of word0 mark_of kind_of length_of
    record_check word2 check_of epoch_of ring_word read_at ring_bytes payload_of copy_start copy_body copy_check
    copy_words selector active_word number word_at words_at splice carry_op carry apply follow_ok free_from is_sound
    entry_in_table with_entry size_from used found_at damage_tests step_tests_within behind step_within next_within
    superline_bad head_cursor opening scan_from_within scan_within listed feed_granted feed reserve_state complete_state
    mark_store mark_stores mark_flushes force_ops commit_from force_state first_open has_multiple is_deferred format_ops
    fresh_state format_effect recover_ops_of recover_ops stores flush_ring superline_ops whole_record record_ops
    recorded_state append_deferred append_due append_effect feed_recorded reads_to_end beats chosen_slot repair_ops
    repair_of ops_for three_effect module_after feed_three formatted_drive is_in may_hold is_left can_befall
    feed_appended_three feed_append_three append_drive_after start first_ops forced next_ops ended
seen = record {
  can = by_slot _ (refl, refl) (refl, refl) (refl, refl);
  durable = refl;
  deferred = refl;
  counts = (refl, refl);
  out = refl;
  lists = (refl, refl);
  promises = (refl, refl);
  granted = refl;
  choice = refl;
}

pub formats : (format_effect no_state (replicate 40 7) 33).reply ≡ ok done
unfolding format_ops fresh_state format_effect stores superline_ops copy_start copy_body copy_check copy_words
formats = refl

pub possible : AppendDriveAllFit (e1 ∷ e2 ∷ []) start
unfolding AppendDriveAllFit start forced append_drive_after formatted_drive
possible = (
  (two_bytes, refl, λ i. can_befall_lem _ _ _ (seen.can i).0),
  ((one_byte, refl, λ i. can_befall_lem _ _ _ (seen.can i).1), tt),
)

-- the theorem speaks of it, so record 1 stays listed
pub owed : DriveRecovers ended
unfolding AppendThreeSafe start forced ended append_drive_after_all append_drive_after formatted_drive
owed = append_three_safe (replicate 40 7) olds 33 formats same (e1 ∷ e2 ∷ []) possible refl
  where
    same : (i : Slot) → length (olds i) ≡ 40
    same = by_slot _ refl refl refl

pub stays : Listed 1 (chosen_image (replicas_of ended present (λ i. 200)))
stays = (owed present (λ i. 200) seen.granted).listed 1 (promised 17 (1 ∷ 2 ∷ []) true) seen.promises.0 refl
    refl
