-- F is reached: histories in which F completed records are lost, for F = 1, 2 and 8, by evaluation. Power fails in the
-- last complete, its store carried out; the image left is the newest one.
-- Cites specs/LossBound.antt; crates/journal/proofs/Theorem.antt.
use mathlib.Core.Path.{◌≡◌, refl, sym, ◌∙◌}
use mathlib.Core.List.{List, [], ◌∷◌, ◌++◌, map}
use mathlib.Core.Bool.{false, false≢true}
use Prim.Native.Nat.{ℕ, zero, suc, ◌-◌, ◌≤◌}
use native.Mathlib.Nat.{le_refl}
use lib.ListN.{length, replicate, take}
use lib.Seq.{take-length}
use Rattle.crc_spec.specs.Bytes.{le_bytes, word_bytes}
use Rattle.crc_spec.specs.Bits.{crc_bit, crc_bits}
use Rattle.crc_spec.specs.Crc.{crc_byte, crc_over, crc32}
use Rattle.layout.specs.Record.{size_of, word0, mark_of, kind_of, length_of, record_check, word2, check_of, epoch_of}
use Rattle.layout.specs.Ring.{ring_word, read_at, ring_bytes, payload_of}
use Rattle.layout.specs.Superline.{copy_start, copy_body, copy_check, copy_words, selector, active_word}
use Rattle.layout.specs.ByteWords.{number, word_at}
use Rattle.device.specs.Crash.{carry_op, carry, CrashImage}
use Rattle.device.specs.Ops.{Op, apply}
use Rattle.device.proofs.CrashLaws.{shows_all, shows_crash, length_apply}
use Rattle.state.specs.Sound.{follow_ok, free_from, is_sound}
use Rattle.state.specs.Table.{entry_in_table, with_entry, size_from, used}
use Rattle.scan.specs.Next.{found_at, damage_tests, behind, next_within, step_tests_within, step_within}
use Rattle.scan.specs.Open.{superline_bad, head_cursor}
use Rattle.scan.specs.Scan.{listed, scan_from_within, scan_within}
use Rattle.journal.specs.AbstractLog.{feed_granted, feed}
use Rattle.journal.specs.Append.{blank_record, reserve_ops, reserve_state, reserve_effect, complete_ops, complete_state, complete_effect}
use Rattle.journal.specs.Calls.{Call, reserve, complete, force, effect_of}
use Rattle.journal.specs.Effect.{done, no_state}
use Rattle.refusal.specs.Tests.{ok}
use Rattle.journal.specs.RunLog.{RunLog, first_run}
use Rattle.journal.proofs.CrashFormat.{inv_formatted}
use Rattle.journal.proofs.Invariant.{Inv, inv_after_all}
use Rattle.journal.proofs.Theorem.{owed}
use Rattle.journal.specs.CrashSafe.{System, with_held, Event, call, crash, effect_in, after, Typed, after_all, AllFit, formatted}
use Rattle.journal.specs.Force.{mark_store, mark_stores, mark_flushes, force_ops, commit_from, force_state, first_open, force_stretch, has_multiple, is_deferred, force_effect}
use Rattle.journal.specs.Recover.{format_ops, fresh_state, format_effect}
use Rattle.journal.specs.Stores.{stores, flush_ring, superline_ops}
use Rattle.loss.specs.LossBound.{since_after, since, Turn, free, turn_after, Disciplined, DisciplinedFrom, missing, Reached}

-- an image of 49 words: room for eight records with no bytes
blank : List ℕ
blank = replicate 49 7

-- calls with room enough, all their ops carried out
abbrev all : List Call → List Event
all cs = map (λ c. call with_held c 99) cs

-- then power fails in a call, all its ops carried out, and the newest image is left
newest_left : List Call → Call → List ℕ
newest_left cs c = let s = after_all (all cs) (formatted blank 33) in apply (effect_in s with_held c 99).ops s.image

crash_in : List Call → Call → Event
crash_in cs c =
    let s = after_all (all cs) (formatted blank 33) in
    crash c 99 (length (effect_in s with_held c 99).ops) (newest_left cs c)

-- such a power failure may happen
newest_left_lem : (s : System) {ran : RunLog} → Inv s ran → (os : List Op)
    → CrashImage (carry (take (length os) os) s.device) (length s.image) (apply os s.image)
newest_left_lem s i os = rw take-length (rw (length_apply os s.image)
    at (shows_crash (carry os s.device) (apply os s.image) (shows_all os s.image s.device i.shows)))

fresh : (format_effect no_state blank 33).reply ≡ ok done
unfolding format_effect format_ops stores copy_words copy_body blank
fresh = refl

-- calls that are no copy can be made while power is up
abbrev Plain : List Call → Type 0
Plain [] = Unit {0}
Plain (c ∷ cs) = Typed c × Plain cs

up_after : (c : Call) (s : System) → s.down ≡ false → (after (call with_held c 99) s).down ≡ false
unfolding after
up_after c s h = rw h

all_fit : (cs : List Call) → Plain cs → (s : System) → s.down ≡ false → (c : Call) → Typed c
    → (carried : ℕ) (image : List ℕ)
    → (carried ≤ length (effect_in (after_all (all cs) s) with_held c 99).ops)
    × CrashImage
    (carry (take carried (effect_in (after_all (all cs) s) with_held c 99).ops) (after_all (all cs) s).device)
    (length (after_all (all cs) s).image) image
    → AllFit (all cs ++ (crash c 99 carried image ∷ [])) s
unfolding AllFit after_all
all_fit [] p s h c ty carried image last = ((ty, λ d. absurd (false≢true (sym h ∙ d)), last.0, last.1), tt)
all_fit (x ∷ cs) p s h c ty carried image last = (
  (p.0, λ d. absurd (false≢true (sym h ∙ d))),
  all_fit cs p.1 (after (call with_held x 99) s) (up_after x s h) c ty carried image last,
)

plain_fit : (cs : List Call) → Plain cs → (s : System) → s.down ≡ false → AllFit (all cs) s
unfolding AllFit
plain_fit [] p s h = tt
plain_fit (x ∷ cs) p s h =
    ((p.0, λ d. absurd (false≢true (sym h ∙ d))), plain_fit cs p.1 (after (call with_held x 99) s) (up_after x s h))

crash_fits : (cs : List Call) → Plain cs → (c : Call) → Typed c
    → AllFit (all cs ++ (crash_in cs c ∷ [])) (formatted blank 33)
unfolding crash_in newest_left formatted
crash_fits cs p c ty =
    let s = after_all (all cs) (formatted blank 33) in
    let i = inv_after_all owed (all cs) (formatted blank 33) first_run (inv_formatted blank 33 fresh)
    (plain_fit cs p (formatted blank 33) refl) in
    all_fit cs p (formatted blank 33) refl c ty _ _ (le_refl _, newest_left_lem s i (effect_in s with_held c 99).ops)

-- n records from LSN k on, each completed and then forced, and one more reserved
rounds : ℕ → ℕ → ℕ → List Call
rounds F k zero = reserve 17 0 ∷ []
rounds F k (suc n) = reserve 17 0 ∷ complete k ∷ force k F ∷ rounds F (suc k) n

rounds_plain : (F k n : ℕ) → Plain (rounds F k n)
unfolding rounds
rounds_plain F k zero = (tt, tt)
rounds_plain F k (suc n) = (tt, (tt, (tt, rounds_plain F (suc k) n)))

-- F - 1 records completed and forced with F, all deferred, and power fails in the complete of LSN F
loss : ℕ → List Event
loss F = all (rounds F 1 (F - 1)) ++ (crash_in (rounds F 1 (F - 1)) (complete F) ∷ [])

loss_fits : (F : ℕ) → AllFit (loss F) (formatted blank 33)
unfolding loss
loss_fits F = crash_fits (rounds F 1 (F - 1)) (rounds_plain F 1 (F - 1)) (complete F) tt

-- what is left to evaluate of it
record Lost (F : ℕ) : Type 0 where
  disciplined : Disciplined F (loss F) (formatted blank 33)
  lost : length (missing (after_all (loss F) (formatted blank 33)) (since (loss F) (formatted blank 33) [])) ≡ F

reached : (F : ℕ) → Lost F → Reached F
reached F h = record {
  old = blank;
  words = 33;
  granted = fresh;
  events = loss F;
  fits = loss_fits F;
  disciplined = h.disciplined;
  lost = h.lost;
}

-- in one round, the reserve is in turn; the complete and the force always are
round : {A : Type 0} → A → (◌≡◌ {A = Turn} free free) × (Unit {0} × (Unit {0} × A))
round rest = (refl, (tt, (tt, rest)))

-- ---------------------------------------------------------------- by evaluation
last : (◌≡◌ {A = Turn} free free) × (Unit {0} × Unit {0})
last = (refl, (tt, tt))

lost : Lost 1 × Lost 2 × Lost 8
unfolding loss rounds round last blank crash_in newest_left le_bytes word_bytes crc_bit crc_bits crc_byte crc_over crc32
    size_of
    word0 mark_of kind_of length_of record_check word2 check_of epoch_of ring_word read_at ring_bytes payload_of
    copy_start
    copy_body copy_check copy_words selector active_word number word_at carry_op carry apply follow_ok free_from
    is_sound entry_in_table
    with_entry size_from used found_at damage_tests step_tests_within behind step_within next_within superline_bad
    head_cursor
    scan_from_within scan_within listed feed_granted feed blank_record reserve_ops reserve_state reserve_effect
    complete_ops
    complete_state complete_effect effect_of after after_all formatted mark_store mark_stores mark_flushes force_ops
    commit_from
    force_state first_open force_stretch has_multiple is_deferred force_effect format_ops fresh_state format_effect
    stores
    flush_ring superline_ops since since_after missing DisciplinedFrom turn_after
lost = (
  record { disciplined = last; lost = refl },
  record { disciplined = round last; lost = refl },
  record { disciplined = round (round (round (round (round (round (round last)))))); lost = refl },
)

pub reached_one : Reached 1
reached_one = reached 1 lost.0

pub reached_two : Reached 2
reached_two = reached 2 lost.1

pub reached_eight : Reached 8
reached_eight = reached 8 lost.2
