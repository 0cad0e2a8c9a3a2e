-- F is reached: histories in which F appended records are lost, for F = 1, 2 and 8, by evaluation. F - 1 records are
-- appended and deferred, and power fails in the next append, its record's stores carried out and nothing of its force;
-- the image left is the newest one.
-- Cites specs/AppendLoss.antt.
use mathlib.Core.Path.{◌≡◌, refl}
use mathlib.Core.List.{List, [], ◌∷◌, ◌++◌}
use mathlib.Core.Bool.{false}
use Prim.Native.Nat.{ℕ, zero, suc, ◌-◌, ◌≤◌}
use native.Mathlib.Omega.{arith}
use lib.ListN.{length, replicate, take}
use Rattle.crc_spec.specs.Bytes.{le_bytes, word_bytes}
use Rattle.crc_spec.specs.Bits.{crc_bit, crc_bits}
use Rattle.crc_spec.specs.Crc.{crc_byte, crc_over, crc32}
use Rattle.layout.specs.Record.{size_of, word0, mark_of, kind_of, length_of, record_check, word2, check_of, epoch_of}
use Rattle.layout.specs.Ring.{ring_word, read_at, ring_bytes, payload_of}
use Rattle.layout.specs.Superline.{copy_start, copy_body, copy_check, copy_words, selector, active_word}
use Rattle.layout.specs.ByteWords.{number, word_at, words_at}
use Rattle.device.specs.Crash.{carry_op, carry, CrashImage}
use Rattle.device.specs.Ops.{Op, apply}
use Rattle.device.proofs.CrashLaws.{Shows, shows_all, shows_crash, length_apply}
use Rattle.refusal.specs.Tests.{ok}
use Rattle.state.specs.Sound.{follow_ok, free_from, is_sound}
use Rattle.state.specs.Table.{entry_in_table, with_entry, size_from, used}
use Rattle.scan.specs.Next.{found_at, damage_tests, behind, next_within, step_tests_within, step_within}
use Rattle.scan.specs.Open.{superline_bad, head_cursor}
use Rattle.scan.specs.Scan.{listed, scan_from_within, scan_within}
use Rattle.journal.specs.AbstractLog.{feed_granted}
use Rattle.journal.specs.Append.{reserve_state, complete_state}
use Rattle.journal.specs.CrashSafe.{System, formatted}
use Rattle.journal.specs.Effect.{done, no_state}
use Rattle.journal.specs.Force.{mark_store, mark_stores, mark_flushes, force_ops, commit_from, force_state, first_open, has_multiple, is_deferred}
use Rattle.journal.specs.Recover.{format_ops, fresh_state, format_effect}
use Rattle.journal.specs.Stores.{stores, flush_ring, superline_ops}
use Rattle.journal.proofs.CrashFormat.{inv_formatted}
use Rattle.append.specs.AppendCall.{whole_record, record_ops, recorded_state, append_deferred, append_due, append_effect}
use Rattle.append.specs.AppendSafe.{AppendEvent, append, append_crash, append_in, feed_recorded, feed_appended, feed_append, after_append, after_appends, AllFitAppend}
use Rattle.loss.specs.LossBound.{Turn, free, missing}
use Rattle.append_loss.specs.AppendLoss.{since_append, since_appends, turn_append, DisciplinedAppends, DisciplinedAppendsFrom, AppendReached}

-- an image of 49 words: room for eight records with no bytes
blank : List ℕ
blank = replicate 49 7

fresh : (format_effect no_state blank 33).reply ≡ ok done
unfolding format_effect format_ops stores copy_words copy_body blank
fresh = refl

-- n appends of records with no bytes, each with room enough and all its ops carried out
appends : ℕ → ℕ → List AppendEvent
appends F zero = []
appends F (suc n) = append 17 [] F 99 ∷ appends F n

-- then power fails in the next one after its record's four stores
failing : ℕ → System → AppendEvent
failing F s = append_crash 17 [] F 99 4 (apply (take 4 (append_in s 17 [] F 99).ops) s.image)

loss : ℕ → List AppendEvent
loss F = let es = appends F (F - 1) in es ++ (failing F (after_appends es (formatted blank 33)) ∷ [])

-- ---------------------------------------------------------------- it may happen
-- the newest image is one that a power failure may leave
newest_left_lem : (s : System) → Shows s.image s.device → (os : List Op)
    → CrashImage (carry os s.device) (length s.image) (apply os s.image)
newest_left_lem s sh os = rw (length_apply os s.image)
    at (shows_crash (carry os s.device) (apply os s.image) (shows_all os s.image s.device sh))

appends_fit : (F n : ℕ) (s : System) → s.down ≡ false → Shows s.image s.device
    → 4 ≤ length (append_in (after_appends (appends F n) s) 17 [] F 99).ops
    → AllFitAppend (appends F n ++ (failing F (after_appends (appends F n) s) ∷ [])) s
unfolding AllFitAppend after_appends after_append appends failing
appends_fit F zero s up sh stored =
    ((λ i. omega arith, up, stored, newest_left_lem s sh (take 4 (append_in s 17 [] F 99).ops)), tt)
appends_fit F (suc n) s up sh stored = (
  (λ i. omega arith, up),
  appends_fit F n (after_append (append 17 [] F 99) s) up
      (shows_all (append_in s 17 [] F 99).ops s.image s.device sh) stored,
)

-- what is left to evaluate of it
record Lost (F : ℕ) : Type 0 where
  stored : 4 ≤ length (append_in (after_appends (appends F (F - 1)) (formatted blank 33)) 17 [] F 99).ops
  disciplined : DisciplinedAppends F (loss F) (formatted blank 33)
  lost : length (missing (after_appends (loss F) (formatted blank 33)) (since_appends (loss F) (formatted blank 33) []))
      ≡ F

reached : (F : ℕ) → Lost F → AppendReached F
unfolding loss
reached F h = record {
  old = blank;
  words = 33;
  granted = fresh;
  events = loss F;
  fits = appends_fit F (F - 1) (formatted blank 33) (unfold formatted in refl) (inv_formatted blank 33 fresh).shows
      h.stored;
  disciplined = h.disciplined;
  lost = h.lost;
}

-- ---------------------------------------------------------------- by evaluation
-- each append is in turn
in_turn : {A : Type 0} → A → (◌≡◌ {A = Turn} free free) × A
in_turn rest = (refl, rest)

lost : Lost 1 × Lost 2 × Lost 8
unfolding in_turn loss appends failing blank le_bytes word_bytes crc_bit crc_bits crc_byte crc_over crc32 size_of word0
    mark_of
    kind_of length_of record_check word2 check_of epoch_of ring_word read_at ring_bytes payload_of copy_start copy_body
    copy_check
    copy_words selector active_word number word_at words_at carry_op carry apply follow_ok free_from is_sound
    entry_in_table with_entry
    size_from used found_at damage_tests step_tests_within behind step_within next_within superline_bad head_cursor
    scan_from_within scan_within listed feed_granted reserve_state complete_state formatted mark_store mark_stores
    mark_flushes
    force_ops commit_from force_state first_open has_multiple is_deferred format_ops fresh_state format_effect stores
    flush_ring
    superline_ops whole_record record_ops recorded_state append_deferred append_due append_effect feed_recorded
    feed_appended
    feed_append after_append after_appends since_append since_appends missing DisciplinedAppendsFrom turn_append
lost = (
  record { stored = omega arith; disciplined = in_turn tt; lost = refl },
  record { stored = omega arith; disciplined = in_turn (in_turn tt); lost = refl },
  record {
    stored = omega arith;
    disciplined = in_turn (in_turn (in_turn (in_turn (in_turn (in_turn (in_turn (in_turn tt)))))));
    lost = refl;
  },
)

pub append_reached_one : AppendReached 1
append_reached_one = reached 1 lost.0

pub append_reached_two : AppendReached 2
append_reached_two = reached 2 lost.1

pub append_reached_eight : AppendReached 8
append_reached_eight = reached 8 lost.2
