-- An event for C is an event of demand 3, or changes nothing: a call that the lent words refuse. The words hold the
-- state, which is good, as long as the log is not down.
-- Cites specs/CRun.antt, Soundness.antt of journal, and RoundTrip.antt of words_state.
use mathlib.Core.Path.{◌≡◌, refl, ap, ◌∙◌}
use mathlib.Core.List.{List}
use mathlib.Core.Bool.{Bool, true, false, true≢false, false≢true}
use Prim.Native.Nat.{ℕ, ◌≤◌}
use native.Mathlib.Omega.{arith}
use lib.ListN.{length, take}
use Rattle.refusal.specs.Tests.{Reply, ok, refused, Test}
use Rattle.refusal.specs.declared.Why.{Why}
use Rattle.refusal.proofs.TestLaws.{Decided, passed, failed, decided}
use Rattle.device.specs.Ops.{apply}
use Rattle.device.specs.Crash.{carry, CrashImage, power_up}
use Rattle.state.specs.declared.State.{State}
use Rattle.journal.specs.Effect.{Granted, done, Effect, refused_effect, no_state}
use Rattle.journal.specs.Recover.{recover_effect}
use Rattle.journal.specs.Calls.{Call, reserve, copy, complete, force, release, release_all, recover, effect_of}
use Rattle.journal.specs.AbstractLog.{feed}
use Rattle.journal.specs.CrashSafe.{System, Event, with_held, with_returned, call, crash, is_recover, left_by, effect_in, still_down, after, Typed, Fits}
use Rattle.journal.proofs.CrashRecover.{recovery_feeds}
use Rattle.journal.proofs.SoundnessLaws.{Good}
use Rattle.journal.proofs.SoundnessRecover.{recover_sound}
use Rattle.journal.proofs.Soundness.{calls_good}
use Rattle.words_state.specs.StateWords.{words_of, state_of}
use Rattle.words_state.proofs.RoundTrip.{load_saved}
use Rattle.words_shared.specs.StateAfter.{state_after}
use Rattle.c_reply.specs.LentTests.{lent_tests}
use Rattle.c_write.specs.WriteCalls.{effect_on}
use Rattle.c_run.specs.CRun.{SystemInC, EventInC, call_in_c, crash_in_c, after_in_c, FitsInC}
use Rattle.c_run.proofs.RefusedLaws.{refused_leaves, Both, granted_both, refused_both, recovered, recover_both}

-- a system of demand 3 with these words for its state
abbrev pub in_words : System → List ℕ → SystemInC
in_words s words =
    record { image = s.image; device = s.device; words = words; log = s.log; down = s.down }

-- the words hold the state
abbrev pub Held : Bool → State → List ℕ → Type 0
Held down s words = down ≡ false → (words ≡ words_of s) × Good s

-- it is read from them
pub held_loaded : (s : State) (words : List ℕ) → (words ≡ words_of s) × Good s → state_of words ≡ s
held_loaded s words h = ap state_of h.0 ∙ load_saved s h.1.sound h.1.size

-- the words after a call that leaves the state if it is refused
pub kept_words : (s : State) (words : List ℕ) → words ≡ words_of s → (x : Reply Granted) (t : State)
    → ((w : Why) → x ≡ refused w → t ≡ s) → state_after x t words ≡ words_of t
kept_words s words h (ok a) t e = refl
kept_words s words h (refused w) t e = rw (e w refl) h

-- ---------------------------------------------------------------- one call, on the state and through the words
-- an effect through words beside one on a state
pub record Matches (down : Bool) (words : List ℕ) (o p : Effect) : Type 0 where
  pub reply : o.reply ≡ p.reply
  pub ops : o.ops ≡ p.ops
  pub held : Held (still_down down p.reply) p.state (state_after o.reply o.state words)

-- a call on a good state that the words hold
module _ (c : Call) (s : State) (image : List ℕ) (room : ℕ) (words : List ℕ) (h : (words ≡ words_of s) × Good s) where
  call_matches : (down : Bool) → Matches down words (effect_of c (state_of words) image room) (effect_of c s image room)
  call_matches down = rw (held_loaded s words h) (record {
    reply = refl;
    ops = refl;
    held = λ up. (
      kept_words s words h.0 (effect_of c s image room).reply (effect_of c s image room).state
          (refused_leaves s image room c),
      calls_good c s image room h.1,
    );
  })

-- a recovery, whatever the words hold
recover_matches : (down : Bool) (s : State) (image : List ℕ) (room : ℕ) (words : List ℕ) → Held down s words
    → Matches down words (recover_effect no_state image room) (recover_effect s image room)
recover_matches down s image room words h =
    go down h (recover_both no_state s image room) (recover_sound s image room)
  where
    go : (d : Bool) → Held d s words → {o p : Effect} → Both no_state s (recovered image) o p
        → (p.reply ≡ ok done → Good p.state) → Matches d words o p
    go d h granted_both g = record { reply = refl; ops = refl; held = λ up. (refl, g refl) }
    go false h (refused_both w) g = record { reply = refl; ops = refl; held = h }
    go true h (refused_both w) g = record { reply = refl; ops = refl; held = λ up. absurd (true≢false up) }

-- any call of a system
module _ (s : System) (words : List ℕ) (h : Held s.down s.state words) where
  held_matches : (c : Call) (room : ℕ) → (d : Bool) → Held d s.state words → (d ≡ true → false ≡ true)
      → Matches d words (effect_of c (state_of words) s.image room) (effect_of c s.state s.image room)
  held_matches c room false h f = call_matches c s.state s.image room words (h refl) false
  held_matches c room true h f = absurd (false≢true (f refl))

  matches : (c : Call) (room : ℕ) → (s.down ≡ true → is_recover c ≡ true)
      → Matches s.down words (effect_of c (left_by (is_recover c) with_returned (state_of words)) s.image room)
      (effect_in s with_held c room)
  unfolding effect_of
  matches (reserve kind len) room f = held_matches (reserve kind len) room s.down h f
  matches (copy lsn offset bytes) room f = held_matches (copy lsn offset bytes) room s.down h f
  matches (complete lsn) room f = held_matches (complete lsn) room s.down h f
  matches (force lsn frequency) room f = held_matches (force lsn frequency) room s.down h f
  matches (release lsn) room f = held_matches (release lsn) room s.down h f
  matches release_all room f = held_matches release_all room s.down h f
  matches recover room f = recover_matches s.down s.state s.image room words h

-- ---------------------------------------------------------------- one event
-- what an event for C is: nothing, or an event of demand 3
pub data Steps (s : System) (t : SystemInC) : Type 0 where
  nothing : (words : List ℕ) → Held s.down s.state words → t ≡ in_words s words → Steps s t
  event : (e : Event) → Fits e s → (words : List ℕ) → Held (after e s).down (after e s).state words
      → t ≡ in_words (after e s) words → Steps s t

-- a refusal leaves the log down or up
refused_down : (d : Bool) (w : Why) → still_down d (refused w) ≡ d
refused_down false w = refl
refused_down true w = refl

module _ (s : System) (words : List ℕ) (h : Held s.down s.state words) where
  module _ (c : Call) (room : ℕ) (reply : List ℕ) where
    abbrev tests : List Test
    tests = lent_tests (length reply) (length words) (length s.image)

    abbrev granted : Effect
    granted = effect_of c (left_by (is_recover c) with_returned (state_of words)) s.image room

    -- the system after a call with this effect
    abbrev Called : Effect → SystemInC
    Called o = record {
      image = apply o.ops s.image;
      device = carry o.ops s.device;
      words = state_after o.reply o.state words;
      log = feed c o.reply (length o.ops) (length o.ops) s.log;
      down = still_down s.down o.reply;
    }

    call-steps : Typed c → (s.down ≡ true → is_recover c ≡ true) → {o : Effect}
        → Decided tests (refused_effect no_state) granted o → Steps s (Called o)
    unfolding apply carry feed after
    call-steps typed only (failed w) = nothing words h (rw (refused_down s.down w))
    call-steps typed only (passed p) = called (matches s words h c room only)
      where
        called : {o : Effect} → Matches s.down words o (effect_in s with_held c room) → Steps s (Called o)
        called {o} m = event (call with_held c room) (typed, only) (state_after o.reply o.state words) m.held
            (rw (m.ops, m.reply))

    -- the system after a crash in a call with this effect
    abbrev Crashed : Effect → ℕ → List ℕ → List ℕ → SystemInC
    Crashed o carried image lent = record {
      image = image;
      device = power_up image;
      words = lent;
      log = feed c o.reply (length o.ops) carried s.log;
      down = true;
    }

    crash-steps : (carried : ℕ) (image lent : List ℕ) → Typed c → (s.down ≡ true → is_recover c ≡ true)
        → {o : Effect} → carried ≤ length o.ops
        → CrashImage (carry (take carried o.ops) s.device) (length s.image) image
        → Decided tests (refused_effect no_state) granted o → Steps s (Crashed o carried image lent)
    unfolding feed after
    crash-steps carried image lent typed only few may (failed w) =
        let none : carried ≡ 0 = omega arith in
        event (crash recover room 0 image) (tt, (λ d. refl), omega arith, rw none at may) lent
        (λ up. absurd (true≢false up))
        (rw (recovery_feeds (effect_in s with_held recover room).reply _ 0 s.log))
    crash-steps carried image lent typed only few may (passed p) = crashed (matches s words h c room only) few may
      where
        crashed : {o : Effect} → Matches s.down words o (effect_in s with_held c room) → carried ≤ length o.ops
            → CrashImage (carry (take carried o.ops) s.device) (length s.image) image
            → Steps s (Crashed o carried image lent)
        crashed m few may = event (crash c room carried image) (typed, only, rw m.ops at few, rw m.ops at may)
            lent (λ up. absurd (true≢false up)) (rw (m.ops, m.reply))

  pub steps : (e : EventInC) → FitsInC e (in_words s words) → Steps s (after_in_c e (in_words s words))
  unfolding after_in_c effect_on
  steps (call_in_c c room reply) f = call-steps c room reply f.0 f.1
      (decided (tests c room reply) (refused_effect no_state) (granted c room reply))
  steps (crash_in_c c room reply carried image lent) f = crash-steps c room reply carried image lent f.0 f.1
      f.2 f.3 (decided (tests c room reply) (refused_effect no_state) (granted c room reply))
