-- A run of the calls for C with append among them is one that append's crash theorem speaks of, and so demand 3 holds
-- of it.
-- Cites specs/CAppendRun.antt, AppendTheorem.antt and FourTheorem.antt of append, StepLaws.antt and CRunTheorem.antt of
-- c_run.
use mathlib.Core.Path.{◌≡◌, refl}
use mathlib.Core.List.{List, [], ◌∷◌}
use mathlib.Core.Bool.{true, false, true≢false}
use Prim.Native.Nat.{ℕ, ◌≤◌}
use native.Mathlib.Omega.{arith}
use lib.ListN.{length, take}
use Rattle.crc_spec.specs.Bytes.{AllBytes}
use Rattle.refusal.specs.Tests.{refused, Test}
use Rattle.refusal.specs.declared.Why.{Why}
use Rattle.refusal.proofs.TestLaws.{Decided, passed, failed, decided}
use Rattle.device.specs.Ops.{apply}
use Rattle.device.specs.Crash.{carry, CrashImage, power_up}
use Rattle.state.specs.declared.State.{State}
use Rattle.journal.specs.Effect.{Effect, refused_effect, no_state}
use Rattle.journal.specs.Calls.{recover}
use Rattle.journal.specs.CrashSafe.{System, with_held, crash, effect_in, after, formatted}
use Rattle.journal.proofs.CrashRecover.{recovery_feeds}
use Rattle.append.specs.AppendCall.{append_effect}
use Rattle.append.specs.AppendSafe.{AppendEvent, event, append, append_crash, feed_append, after_append, FitsAppend, after_appends, AllFitAppend, AppendSafe}
use Rattle.append.proofs.FourTheorem.{Came, refused-for, late, due, came, append_good}
use Rattle.append.proofs.AppendTheorem.{append_safe}
use Rattle.words_state.specs.StateWords.{state_of}
use Rattle.words_shared.specs.StateAfter.{state_after}
use Rattle.c_reply.specs.LentTests.{lent_tests}
use Rattle.c_write.specs.WriteCalls.{effect_on}
use Rattle.c_run.specs.CRun.{SystemInC}
use Rattle.c_run.proofs.StepLaws.{in_words, Held, held_loaded, kept_words, Steps, nothing, event, steps}
use Rattle.c_run.proofs.CRunTheorem.{begins, recovers_in}
use Rattle.c_append_run.specs.CAppendRun.{AppendEventInC, event_in_c, append_in_c, append_crash_in_c, after_append_in_c, FitsAppendInC, after_appends_in_c, AllFitAppendInC, AppendSteps, AppendSafeInC}

-- ---------------------------------------------------------------- one append, on the state and through the words
-- refused, it leaves the state
append_leaves : (s : State) (image : List ℕ) (room kind : ℕ) (bytes : List ℕ) (frequency : ℕ) (w : Why)
    → (append_effect s image room kind bytes frequency).reply ≡ refused w
    → (append_effect s image room kind bytes frequency).state ≡ s
append_leaves s image room kind bytes frequency w e = go (came s image room kind bytes frequency) e
  where
    go : {o : Effect} → Came s image room kind bytes frequency o → o.reply ≡ refused w → o.state ≡ s
    go (refused-for v) e = refl
    go (late ps d l) e = absurd (let z : ◌≡◌ {A = ℕ} 0 1 = cc in omega arith)
    go (due ps d p) e = absurd (let z : ◌≡◌ {A = ℕ} 0 1 = cc in omega arith)

module _ (s : System) (words : List ℕ) (h : Held s.down s.state words) (up : s.down ≡ false)
    (kind : ℕ) (bytes : List ℕ) (ty : AllBytes bytes) (frequency room : ℕ) where
  abbrev on_state : Effect
  on_state = append_effect s.state s.image room kind bytes frequency

  on_words : append_effect (state_of words) s.image room kind bytes frequency ≡ on_state
  on_words = rw (held_loaded s.state words (h up))

  held_after : Held s.down on_state.state (state_after on_state.reply on_state.state words)
  held_after = λ z. (
    kept_words s.state words (h up).0 on_state.reply on_state.state
        (append_leaves s.state s.image room kind bytes frequency),
    append_good s.state (h up).1 s.image kind bytes ty frequency room,
  )

-- ---------------------------------------------------------------- one event
-- what an event for C is: nothing, or an event of append's crash theorem
data StepsOn (s : System) (t : SystemInC) : Type 0 where
  stays : (words : List ℕ) → Held s.down s.state words → t ≡ in_words s words → StepsOn s t
  goes : (e : AppendEvent) → FitsAppend e s → (words : List ℕ)
      → Held (after_append e s).down (after_append e s).state words
      → t ≡ in_words (after_append e s) words → StepsOn s t

module _ (s : System) (words : List ℕ) (h : Held s.down s.state words) where
  -- an event without append
  plain_steps : {t : SystemInC} → Steps s t → StepsOn s t
  unfolding after_append
  plain_steps (nothing ws g is) = stays ws g is
  plain_steps (event e fits ws g is) = goes (event e) fits ws g is

  module _ (kind : ℕ) (bytes : List ℕ) (frequency room : ℕ) (reply : List ℕ) (ty : AllBytes bytes)
      (up : s.down ≡ false) where
    abbrev tests : List Test
    tests = lent_tests (length reply) (length words) (length s.image)

    abbrev through : Effect
    through = append_effect (state_of words) s.image room kind bytes frequency

    -- the system after an append with this effect
    abbrev Appended : Effect → SystemInC
    Appended o = record {
      image = apply o.ops s.image;
      device = carry o.ops s.device;
      words = state_after o.reply o.state words;
      log = feed_append kind bytes frequency o.reply (length o.ops) (length o.ops) s.log;
      down = s.down;
    }

    append-steps : {o : Effect} → Decided tests (refused_effect no_state) through o → StepsOn s (Appended o)
    unfolding apply carry feed_append after_append
    append-steps (failed w) = stays words h refl
    append-steps (passed p) = rw (on_words s words h up kind bytes ty frequency room)
        (goes (append kind bytes frequency room) (ty, up) _ (held_after s words h up kind bytes ty frequency room) refl)

    -- the system after a crash in an append with this effect
    abbrev Failed : Effect → ℕ → List ℕ → List ℕ → SystemInC
    Failed o carried image lent = record {
      image = image;
      device = power_up image;
      words = lent;
      log = feed_append kind bytes frequency o.reply (length o.ops) carried s.log;
      down = true;
    }

    failed-steps : (carried : ℕ) (image lent : List ℕ) → {o : Effect} → carried ≤ length o.ops
        → CrashImage (carry (take carried o.ops) s.device) (length s.image) image
        → Decided tests (refused_effect no_state) through o → StepsOn s (Failed o carried image lent)
    unfolding feed_append after after_append
    failed-steps carried image lent few may (failed w) =
        let none : carried ≡ 0 = omega arith in
        goes (event (crash recover room 0 image)) (tt, (λ d. refl), omega arith, rw none at may) lent
        (λ z. absurd (true≢false z))
        (rw (recovery_feeds (effect_in s with_held recover room).reply _ 0 s.log))
    failed-steps carried image lent few may (passed p) =
        let same = on_words s words h up kind bytes ty frequency room in
        rw same (goes (append_crash kind bytes frequency room carried image)
        (ty, up, rw same at few, rw same at may) lent (λ z. absurd (true≢false z)) refl)

  all_steps : (e : AppendEventInC) → FitsAppendInC e (in_words s words)
      → StepsOn s (after_append_in_c e (in_words s words))
  unfolding after_append_in_c effect_on
  all_steps (event_in_c e) f = plain_steps (steps s words h e f)
  all_steps (append_in_c kind bytes frequency room reply) f =
      append-steps kind bytes frequency room reply f.0 f.1
      (decided (tests kind bytes frequency room reply f.0 f.1) (refused_effect no_state)
      (through kind bytes frequency room reply f.0 f.1))
  all_steps (append_crash_in_c kind bytes frequency room reply carried image lent) f =
      failed-steps kind bytes frequency room reply f.0 f.1 carried image lent f.2 f.3
      (decided (tests kind bytes frequency room reply f.0 f.1) (refused_effect no_state)
      (through kind bytes frequency room reply f.0 f.1))

-- ---------------------------------------------------------------- a run
-- a system for C that a list of events of append's crash theorem leads to
record RunFrom (s : System) (t : SystemInC) : Type 0 where
  events : List AppendEvent
  fit : AllFitAppend events s
  words : List ℕ
  is : t ≡ in_words (after_appends events s) words

runs : (es : List AppendEventInC) (s : System) (words : List ℕ) → Held s.down s.state words
    → AllFitAppendInC es (in_words s words) → RunFrom s (after_appends_in_c es (in_words s words))
unfolding after_appends_in_c AllFitAppendInC after_appends AllFitAppend
runs [] s words h f = record { events = []; fit = tt; words = words; is = refl }
runs (e ∷ es) s words h f = go (all_steps s words h e f.0) f.1 (λ t ws g x. runs es t ws g x)
  where
    go : {t : SystemInC} → StepsOn s t → AllFitAppendInC es t
        → ((u : System) (ws : List ℕ) → Held u.down u.state ws → AllFitAppendInC es (in_words u ws)
        → RunFrom u (after_appends_in_c es (in_words u ws)))
        → RunFrom s (after_appends_in_c es t)
    go (stays ws g is) x ih = rw is (ih s ws g (rw is at x))
    go (goes e' fits ws g is) x ih =
        let r = ih (after_append e' s) ws g (rw is at x) in
        rw is (record { events = e' ∷ r.events; fit = (fits, r.fit); words = r.words; is = r.is })

-- ---------------------------------------------------------------- the theorem
pub append_safe_in_c : AppendSafeInC
unfolding AppendSafeInC AppendSafe formatted
append_safe_in_c old lent room reply granted es f =
    let b = begins old lent room reply granted in
    let r = runs es (formatted old room) b.words b.held (rw b.is at f) in
    rw (b.is, r.is) (recovers_in (after_appends r.events (formatted old room)) r.words
    (append_safe old room b.granted r.events r.fit))

-- ---------------------------------------------------------------- what the contract says
pub append_steps_on : AppendSteps
unfolding AppendSteps after_append_in_c
append_steps_on kind bytes frequency r state image ops reply d s is at = rw (← is, ← at) (d.kept, d.stored, d.laid)
