-- The theorems speak of something: on a log of 16 words one record is committed, one released but still live, and one
-- open; two notes and a flush are passed, power fails after the first note, and the recovery lists what it would have
-- listed before. Other ops are refused with their numbers.
use mathlib.Core.Path.{◌≡◌, refl}
use mathlib.Core.List.{List, [], ◌∷◌, ◌++◌, map}
use mathlib.Core.Bool.{Bool, true, false, false≢true}
use Prim.Native.Nat.{ℕ, ◌≤◌}
use lib.ListN.{length, set, take, replicate}
use borrow.Author.Tests.{leb-true}
use Rattle.crc_spec.specs.Bytes.{le_bytes, word_bytes}
use Rattle.crc_spec.specs.Bits.{crc_bit, crc_bits}
use Rattle.crc_spec.specs.Crc.{crc_byte, crc_over, crc32}
use Rattle.refusal.specs.Tests.{because, Reply, ok, refused}
use Rattle.layout.specs.Record.{size_of, word0, mark_of, kind_of, length_of, record_check, word2, check_of, epoch_of}
use Rattle.layout.specs.Ring.{ring_word, read_at, ring_bytes, payload_of}
use Rattle.layout.specs.Superline.{copy_start, copy_body, copy_check, copy_words, selector, active_word}
use Rattle.layout.specs.ByteWords.{number, word_at}
use Rattle.device.specs.Crash.{carry_op, carry, CrashImage}
use Rattle.device.specs.Ops.{apply}
use Rattle.device.specs.ReadOps.{ops_of, first_other}
use Rattle.device.proofs.MayHold.{is_in, may_hold, is_left, is_left_lem}
use Rattle.state.specs.Sound.{follow_ok, free_from, is_sound}
use Rattle.state.specs.Table.{entry_in_table, with_entry, size_from, used}
use Rattle.scan.specs.Next.{found_at, damage_tests, behind, next_within, step_tests_within, step_within}
use Rattle.scan.specs.Open.{superline_bad, head_cursor}
use Rattle.scan.specs.Scan.{scan, listed, scan_from_within, scan_within}
use Rattle.scan.specs.declared.Found.{Found}
use Rattle.journal.specs.AbstractLog.{feed_granted, feed}
use Rattle.journal.specs.Append.{blank_record, reserve_ops, reserve_state, reserve_effect, complete_ops, complete_state, complete_effect}
use Rattle.journal.specs.Calls.{reserve, complete, force, release, recover, effect_of}
use Rattle.journal.specs.CrashSafe.{System, with_held, with_returned, Event, call, after, after_all, AllFit, formatted, Recovers}
use Rattle.journal.specs.Effect.{done, no_state}
use Rattle.journal.specs.Force.{mark_store, mark_stores, mark_flushes, force_ops, commit_from, force_state, first_open, force_stretch, has_multiple, is_deferred, force_effect}
use Rattle.journal.specs.Recover.{format_ops, fresh_state, format_effect, rest_of, fill_table, recover_ops_of, recover_state_of, recover_ops, recover_state, recover_effect}
use Rattle.journal.specs.Release.{first_holder, first_held, pos_of, free_entries, head_at, head_ops, mark_released, release_ops, release_state, release_effect}
use Rattle.scan.specs.Names.{names, names_one}
use Rattle.journal.specs.Stores.{stores, flush_ring, superline_ops}
use Rattle.scratch.specs.Vet.{is_among, belongs_from, is_free_word, vet}
use Rattle.scratch.specs.ScratchSafe.{Passed, ReadBefore, PassedOpsHarmless, ScratchEvent, event, passed, crashed, after_scratch, after_scratches, AllFitScratch, ScratchSafe}
use Rattle.scratch.proofs.HarmlessTheorem.{passed_ops_harmless}
use Rattle.scratch.proofs.ScratchTheorem.{scratch_safe}

abbrev old : List ℕ
old = replicate 40 7

-- LSN 1 is words 24 to 26, LSN 2 words 27 to 29, LSN 3 words 30 to 32, the terminator word 33
pub calls : List Event
calls = map (λ c. call with_held c 99)
    (reserve 17 0 ∷ reserve 17 0 ∷ complete 1 ∷ complete 2 ∷ force 2 1 ∷ release 2 ∷ reserve 17 0 ∷ [])

pub written : System
written = after_all calls (formatted old 33)

abbrev vetted : List ℕ → Reply ℕ
vetted given = vet written.state written.image given

-- two notes, and a flush of the whole image
abbrev notes : List ℕ
notes = 1 ∷ 34 ∷ 77 ∷ 1 ∷ 39 ∷ 78 ∷ 2 ∷ 0 ∷ 40 ∷ []

-- the first note is stored, and power fails
pub noted : List ℕ
noted = set written.image 34 77

pub crashed_then : System
crashed_then = after_scratch (crashed notes 1 noted) written

pub recovered : System
recovered = after (call with_returned recover 33) crashed_then

-- then the notes are made again
pub history : List ScratchEvent
history = map event calls ++ (crashed notes 1 noted ∷ event (call with_returned recover 33) ∷ passed notes ∷ [])

pub final : System
final = after_scratches history (formatted old 33)

abbrev lsns : List ℕ → List ℕ
lsns image = map (λ (r : Found). r.lsn) (listed (scan image).found)

-- The notes are passed, the crash is possible, LSN 1 is listed after it and after the notes, which are passed again. No
-- ops are passed too; not so a store to the terminator, to a released record that is still live, to an open one, to the
-- superline or after the image, a flush of no words or past the end, another tag, or two words.
pub evaluated : (Passed written notes)
    × (is_left (carry (take 1 (ops_of notes)) written.device) (length written.image) noted ≡ true)
    × (lsns noted ≡ 1 ∷ []) × (Passed recovered notes)
    × (lsns final.image ≡ 1 ∷ [])
    × (vetted [] ≡ ok 0) × (vetted (1 ∷ 34 ∷ 0 ∷ 1 ∷ 33 ∷ 0 ∷ 1 ∷ 33 ∷ 0 ∷ []) ≡ refused (because 21 1))
    × (vetted (1 ∷ 29 ∷ 0 ∷ []) ≡ refused (because 21 0)) × (vetted (1 ∷ 30 ∷ 0 ∷ []) ≡ refused (because 21 0))
    × (vetted (1 ∷ 23 ∷ 0 ∷ []) ≡ refused (because 21 0)) × (vetted (1 ∷ 40 ∷ 0 ∷ []) ≡ refused (because 21 0))
    × (vetted (2 ∷ 34 ∷ 0 ∷ []) ≡ refused (because 21 0)) × (vetted (2 ∷ 39 ∷ 2 ∷ []) ≡ refused (because 21 0))
    × (vetted (3 ∷ 34 ∷ 1 ∷ []) ≡ refused (because 21 0)) × (vetted (2 ∷ 39 ∷ 1 ∷ 2 ∷ 39 ∷ []) ≡ refused (because 21 1))
unfolding le_bytes word_bytes crc_bit crc_bits crc_byte crc_over crc32 size_of word0 mark_of kind_of length_of
    record_check word2
    check_of epoch_of ring_word read_at ring_bytes payload_of copy_start copy_body copy_check copy_words selector
    active_word
    number word_at carry_op carry apply ops_of first_other follow_ok free_from is_sound entry_in_table with_entry
    size_from used found_at
    damage_tests step_tests_within behind step_within next_within superline_bad head_cursor scan_from_within scan_within
    listed
    feed_granted feed blank_record reserve_ops reserve_state reserve_effect complete_ops complete_state complete_effect
    effect_of
    after after_all formatted mark_store mark_stores mark_flushes force_ops commit_from force_state first_open
    force_stretch
    has_multiple is_deferred force_effect format_ops fresh_state format_effect rest_of fill_table recover_ops_of
    recover_state_of
    recover_ops recover_state recover_effect first_held pos_of free_entries head_at head_ops mark_released release_ops
    release_state release_effect first_holder names names_one stores flush_ring superline_ops is_among belongs_from
    is_free_word
    vet is_in may_hold is_left
    after_scratch after_scratches calls written noted crashed_then recovered history final
evaluated = (refl, refl, refl, refl, refl, refl, refl, refl, refl, refl, refl, refl, refl, refl, refl)

-- a call with no power failure before it, and what follows
called : {A B : Type 0} → B → (Unit {0} × (◌≡◌ {A = Bool} false true → A)) × B
called rest = ((tt, λ h. absurd (false≢true h)), rest)

run : AllFit calls (formatted old 33)
unfolding AllFit calls after_all after formatted
run = called (called (called (called (called (called (called tt))))))

-- events of demand 3 before others
events_fit : (es : List Event) (rest : List ScratchEvent) (s : System) → AllFit es s
    → AllFitScratch rest (after_all es s)
    → AllFitScratch (map event es ++ rest) s
unfolding AllFit AllFitScratch after_all after_scratch
events_fit [] rest s f g = g
events_fit (e ∷ es) rest s f g = (f.0, events_fit es rest (after e s) f.1 g)

three : length (ops_of notes) ≡ 3
unfolding ops_of
three = refl

first : 1 ≤ length (ops_of notes)
first = rw three (leb-true 1 3 refl)

left : CrashImage (carry (take 1 (ops_of notes)) written.device) (length written.image) noted
left = is_left_lem (carry (take 1 (ops_of notes)) written.device) (length written.image) noted evaluated.1

-- the history is possible
pub possible : AllFitScratch history (formatted old 33)
unfolding AllFitScratch history written crashed_then recovered after_scratch
possible =
    events_fit calls (crashed notes 1 noted ∷ event (call with_returned recover 33) ∷ passed notes ∷ [])
    (formatted old 33) run
    ((evaluated.0, first, left), ((tt, λ h. refl), (evaluated.3, tt)))

formats : (format_effect no_state old 33).reply ≡ ok done
unfolding format_effect format_ops stores copy_words copy_body
formats = refl

-- what the theorems say of it
pub reads_before : ReadBefore written noted
unfolding PassedOpsHarmless written
reads_before = passed_ops_harmless old 33 formats calls run notes evaluated.0 1 first noted left

pub recovers_again : Recovers final
unfolding ScratchSafe final
recovers_again = scratch_safe old 33 formats history possible
