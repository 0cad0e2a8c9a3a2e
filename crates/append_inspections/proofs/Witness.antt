-- The theorems speak of something, by evaluation: an inspection is appended and forced, then a replacement that names
-- it. A release of the inspection is refused, power fails in the next append, and both are listed. And where the
-- replacement is released and power fails in the release of the inspection, whose mark alone is there, the program
-- prints the replacement.
-- Cites specs/AppendPairStays.antt, AppendOrphansBegun.antt.
use mathlib.Core.Path.{◌≡◌, refl, ap, ◌∙◌, sym, subst}
use mathlib.Core.List.{List, [], ◌∷◌, map}
use mathlib.Core.Bool.{Bool, true, false, false≢true}
use mathlib.Core.Option.{some}
use Prim.Native.Nat.{ℕ, suc}
use native.Mathlib.Omega.{arith}
use lib.ListN.{length, take, replicate}
use lib.Dec.{leb}
use borrow.Author.Tests.{leb-true}
use Rattle.crc_spec.specs.Bytes.{le_bytes, word_bytes}
use Rattle.crc_spec.specs.Bits.{crc_bit, crc_bits}
use Rattle.crc_spec.specs.Crc.{crc_byte, crc_over, crc32}
use Rattle.crc_spec.proofs.Laws.{le_bytes_bytes}
use Rattle.layout.specs.Record.{size_of, word0, mark_of, kind_of, length_of, record_check, word2, check_of, epoch_of}
use Rattle.layout.specs.Ring.{ring_word, read_at, ring_bytes, payload_of}
use Rattle.layout.specs.Superline.{copy_start, copy_body, copy_check, copy_words, selector, active_word}
use Rattle.layout.specs.ByteWords.{number, word_at, words_at, splice}
use Rattle.device.specs.Crash.{carry_op, carry}
use Rattle.device.specs.Ops.{apply}
use Rattle.device.proofs.MayHold.{is_in, may_hold, is_left, is_left_lem}
use Rattle.refusal.specs.Tests.{because, Reply, ok, refused}
use Rattle.state.specs.Sound.{follow_ok, free_from, is_sound}
use Rattle.state.specs.Table.{entry_in_table, with_entry, size_from, used}
use Rattle.state.specs.declared.State.{State}
use Rattle.scan.specs.declared.Found.{Found}
use Rattle.scan.specs.Listed.{Listed}
use Rattle.scan.specs.Names.{names, names_one, names_in}
use Rattle.scan.specs.Next.{found_at, damage_tests, behind, next_within, step_tests_within, step_within}
use Rattle.scan.specs.Open.{superline_bad, head_cursor}
use Rattle.scan.specs.Orphans.{is_one_of, is_orphan, orphans_after, orphan_lsns}
use Rattle.scan.specs.Scan.{scan, listed, scan_from_within, scan_within}
use Rattle.journal.specs.AbstractLog.{Promise, feed_granted, feed}
use Rattle.journal.specs.Append.{reserve_state, complete_state}
use Rattle.journal.specs.Calls.{release, force, effect_of}
use Rattle.journal.specs.CrashSafe.{System, with_held, call, crash, effect_in, after, formatted}
use Rattle.journal.specs.Effect.{Granted, done, no_state}
use Rattle.journal.specs.Force.{mark_store, mark_stores, mark_flushes, force_ops, commit_from, force_state, first_open, has_multiple, is_deferred}
use Rattle.journal.specs.Recover.{format_ops, fresh_state, format_effect}
use Rattle.journal.specs.Release.{first_holder, first_held, pos_of, free_entries, head_at, head_ops, mark_released, release_ops, release_state, release_effect}
use Rattle.journal.specs.Stores.{stores, flush_ring, superline_ops}
use Rattle.journal.proofs.Zones.{some_inj}
use Rattle.append.specs.AppendCall.{appended, whole_record, record_ops, recorded_state, append_deferred, append_due, append_effect}
use Rattle.append.specs.AppendSafe.{AppendEvent, event, append, append_crash, append_in, feed_recorded, feed_appended, feed_append, after_append, after_appends, AllFitAppend}
use Rattle.inspections.specs.OrphansBegun.{InStretch, in_stretch, Earlier, NamesEarlier, ReleaseBegun}
use Rattle.inspections.specs.PairStays.{Rests}
use Rattle.append_inspections.specs.AppendOrphansBegun.{AnsweredInspected, AppendsInspected, AppendOrphansBegun}
use Rattle.append_inspections.specs.AppendPairStays.{NeverBegunAppends, AppendPairStays}
use Rattle.append_inspections.proofs.AppendOrphanTheorem.{append_orphans_begun}
use Rattle.append_inspections.proofs.AppendPairTheorem.{append_pair_stays}
use Rattle.append_inspections.proofs.InspectedLaws.{none_else}

abbrev old : List ℕ
old = replicate 40 7

-- the first payload bytes of the replacement: LSN 1
abbrev named : List ℕ
named = le_bytes 8 1

pub start : System
start = formatted old 33

pub inspected : System
inspected = after_append (append 17 [] 1 99) start

pub replaced : System
replaced = after_append (append 600 named 1 99) inspected

-- ---------------------------------------------------------------- the pair stays
-- the inspection is not given back
pub refused_back : System
refused_back = after (call with_held (release 1) 99) replaced

-- a further record's first store is carried out, and power fails
pub half : List ℕ
half = apply (take 1 (append_in refused_back 17 [] 1 99).ops) refused_back.image

pub stayed : List AppendEvent
stayed = event (call with_held (release 1) 99) ∷ append_crash 17 [] 1 99 1 half ∷ []

-- ---------------------------------------------------------------- the program prints one
pub given_back : System
given_back = after (call with_held (release 2) 99) replaced

-- of the two marks only the inspection's is there
pub marked : List ℕ
marked = apply (take 1 (effect_in given_back with_held (release 1) 99).ops) replaced.image

pub releases : List AppendEvent
releases = event (call with_held (release 2) 99) ∷ event (crash (release 1) 99 1 marked) ∷ []

pub printed : List AppendEvent
printed = append 17 [] 1 99 ∷ append 600 named 1 99 ∷ releases

abbrev lsns : List ℕ → List ℕ
lsns image = map (λ (r : Found). r.lsn) (listed (scan image).found)

abbrev promised : ℕ → List ℕ → Bool → Promise
promised kind bytes durable =
    record { kind = kind; bytes = bytes; complete = true; durable = durable; begun = false }

pub record Seen : Type 0 where
  pub first : (append_in start 17 [] 1 99).reply ≡ ok (appended 1 1)
  pub second : (append_in inspected 600 named 1 99).reply ≡ ok (appended 2 1)
  pub none_committed : start.state.committed_lsn ≡ 0
  pub one_committed : inspected.state.committed_lsn ≡ 1
  pub first_names : feed_recorded 17 [] 1 start.log 1 ≡ some (promised 17 [] false)
  pub second_names : feed_recorded 600 named 2 inspected.log 2 ≡ some (promised 600 named false)
  pub second_named : feed_recorded 600 named 2 inspected.log 1 ≡ some (promised 17 [] true)
  pub inspection : replaced.log 1 ≡ some (promised 17 [] true)
  pub replacement : replaced.log 2 ≡ some (promised 600 named true)
  pub names_none : names_in 17 [] ≡ 0
  pub names_one_lem : names_in 600 named ≡ 1
  -- the inspection is held, and the replacement's promise stays
  pub held : (effect_in replaced with_held (release 1) 99).reply ≡ refused (because 20 2)
  pub kept : refused_back.log 2 ≡ some (promised 600 named true)
  pub kept_too : (after_appends stayed replaced).log 2 ≡ some (promised 600 named true)
  pub half_left : is_left (carry (take 1 (append_in refused_back 17 [] 1 99).ops) refused_back.device)
      (length refused_back.image) half ≡ true
  pub half_carried : leb 1 (length (append_in refused_back 17 [] 1 99).ops) ≡ true
  pub lists : lsns half ≡ 1 ∷ 2 ∷ []
  -- the second is printed
  pub marked_left : is_left (carry (take 1 (effect_in given_back with_held (release 1) 99).ops) given_back.device)
      (length given_back.image) marked ≡ true
  pub marked_carried : leb 1 (length (effect_in given_back with_held (release 1) 99).ops) ≡ true
  pub prints : orphan_lsns marked (listed (scan marked).found) ≡ 2 ∷ []

pub seen : Seen
unfolding le_bytes word_bytes crc_bit crc_bits crc_byte crc_over crc32 size_of word0 mark_of kind_of length_of
    record_check word2
    check_of epoch_of ring_word read_at ring_bytes payload_of copy_start copy_body copy_check copy_words selector
    active_word
    number word_at words_at splice carry_op carry apply is_in may_hold is_left follow_ok free_from is_sound
    entry_in_table with_entry
    size_from used names names_one names_in found_at damage_tests step_tests_within behind step_within next_within
    superline_bad
    head_cursor is_one_of is_orphan orphans_after scan_from_within scan_within listed feed_granted feed reserve_state
    complete_state effect_of after formatted mark_store mark_stores mark_flushes force_ops commit_from force_state
    first_open
    has_multiple is_deferred format_ops fresh_state format_effect first_holder first_held pos_of free_entries head_at
    head_ops
    mark_released release_ops release_state release_effect stores flush_ring superline_ops whole_record record_ops
    recorded_state
    append_deferred append_due append_effect feed_recorded feed_appended feed_append after_append after_appends start
    inspected
    replaced refused_back half stayed given_back marked
seen = record {
  first = refl;
  second = refl;
  none_committed = refl;
  one_committed = refl;
  first_names = refl;
  second_names = refl;
  second_named = refl;
  inspection = refl;
  replacement = refl;
  names_none = refl;
  names_one_lem = refl;
  held = refl;
  kept = refl;
  kept_too = refl;
  half_left = refl;
  half_carried = refl;
  lists = refl;
  marked_left = refl;
  marked_carried = refl;
  prints = refl;
}

-- ---------------------------------------------------------------- the theorems say so of it
formats : (format_effect no_state old 33).reply ≡ ok done
unfolding format_effect format_ops stores copy_words copy_body
formats = refl

-- two appends with power on, and what follows
both_fit : (rest : List AppendEvent) → AllFitAppend rest replaced
    → AllFitAppend (append 17 [] 1 99 ∷ append 600 named 1 99 ∷ rest) start
unfolding AllFitAppend after_append start inspected replaced formatted
both_fit rest f = ((λ i. omega arith, refl), ((le_bytes_bytes 8 1, refl), f))

-- what is no recovery comes while power is on
on : {A : Type 0} → ◌≡◌ {A = Bool} false true → A
on h = absurd (false≢true h)

stayed_fit : AllFitAppend stayed replaced
unfolding AllFitAppend after_append after feed stayed refused_back replaced inspected start formatted
stayed_fit = (
  (tt, on),
  (
    (
      λ i. omega arith,
      refl,
      leb-true 1 _ seen.half_carried,
      is_left_lem _ _ half seen.half_left,
    ),
    tt,
  ),
)

begins : {q : Promise} (p : Promise) → {b : Bool} → q.begun ≡ b → some q ≡ some p → p.begun ≡ b
begins p h e = ap (λ (x : Promise). x.begun) (sym (some_inj e)) ∙ h

never : NeverBegunAppends 2 stayed replaced
unfolding NeverBegunAppends stayed after_append after_appends refused_back
never = (
  λ p is. begins p refl (sym seen.kept ∙ is),
  (λ p is. begins p refl (sym seen.kept_too ∙ is), tt),
)

pub rests : Rests replaced.log 2 1
rests = record {
  replacement = record { promise = promised 600 named true; is = seen.replacement; durable = refl; begun = refl };
  inspection = record { promise = promised 17 [] true; is = seen.inspection; durable = refl; begun = refl };
  before = omega arith;
  names = seen.names_one_lem;
}

pub both_listed : Listed 2 half × Listed 1 half
unfolding AppendPairStays AllFitAppend after_append after_appends start inspected replaced refused_back stayed
both_listed =
    append_pair_stays old 33 formats (append 17 [] 1 99 ∷ append 600 named 1 99 ∷ []) (both_fit [] tt) 2 1 rests stayed
    stayed_fit never

releases_fit : AllFitAppend releases replaced
unfolding releases AllFitAppend after_append after feed given_back replaced inspected start formatted
releases_fit = (
  (tt, on),
  ((tt, on, leb-true 1 _ seen.marked_carried, is_left_lem _ _ marked seen.marked_left), tt),
)

-- a stretch of one record
only : {st : State} {j frequency : ℕ} {reply : Reply Granted} (m : ℕ) → st.committed_lsn ≡ m
    → InStretch st j (force (suc m) frequency) reply → j ≡ suc m
only m e (in_stretch lo hi) = omega arith

first_inspected : AnsweredInspected 17 [] 1 (append_in start 17 [] 1 99).reply start
first_inspected = let log = feed_recorded 17 [] 1 start.log in
    subst (λ (r : Reply Granted). AnsweredInspected 17 [] 1 r start) (sym seen.first) (λ j x.
    subst (NamesEarlier log) (sym (only 0 seen.none_committed x)) (λ p is nz.
    let q : p ≡ promised 17 [] false = some_inj (sym is ∙ seen.first_names) in
    absurd (nz (ap (λ (y : Promise). names_in y.kind y.bytes) q ∙ seen.names_none))))

second_inspected : AnsweredInspected 600 named 1 (append_in inspected 600 named 1 99).reply inspected
second_inspected = let log = feed_recorded 600 named 2 inspected.log in
    subst (λ (r : Reply Granted). AnsweredInspected 600 named 1 r inspected) (sym seen.second) (λ j x.
    subst (NamesEarlier log) (sym (only 1 seen.one_committed x)) (λ p is nz.
    let q : p ≡ promised 600 named false = some_inj (sym is ∙ seen.second_names) in
    subst (Earlier log 2) (sym (ap (λ (y : Promise). names_in y.kind y.bytes) q ∙ seen.names_one_lem)) (record {
      promise = promised 17 [] true;
      is = seen.second_named;
      begun = refl;
      before = omega arith;
    })))

all_inspected : AppendsInspected printed start
unfolding AppendsInspected printed releases after_append inspected
all_inspected = (
  first_inspected,
  (second_inspected, (λ j x. none_else refl x, (λ j x. none_else refl x, tt))),
)

pub second_begun : ReleaseBegun (after_appends printed start).log 2
unfolding AppendOrphansBegun AllFitAppend after_append after_appends after start inspected replaced given_back printed
    releases
    is_one_of
second_begun =
    append_orphans_begun old 33 formats printed (both_fit releases releases_fit) all_inspected 2
    (rw seen.prints refl)
