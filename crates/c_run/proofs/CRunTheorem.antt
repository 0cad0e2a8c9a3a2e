-- A run of the calls for C is a run of demand 3, and so demand 3 holds of it.
-- Cites StepLaws.antt, and Theorem.antt of journal.
use mathlib.Core.Path.{◌≡◌, refl, sym, ap, ◌∙◌}
use mathlib.Core.List.{List, [], ◌∷◌}
use mathlib.Core.Bool.{false}
use Prim.Native.Nat.{ℕ}
use native.Mathlib.Omega.{arith}
use lib.ListN.{length}
use borrow.Author.Tests.{eq-eqb, le-ltb}
use Rattle.refusal.specs.Tests.{ok, Test}
use Rattle.refusal.proofs.TestLaws.{Decided, passed, failed, decided}
use Rattle.device.specs.Ops.{apply}
use Rattle.device.specs.Crash.{carry, power_up}
use Rattle.state.specs.declared.State.{State}
use Rattle.journal.specs.Effect.{done, Effect, refused_effect, no_state}
use Rattle.journal.specs.Recover.{format_effect, recover_effect}
use Rattle.journal.specs.Calls.{reserve, copy, complete, force, release, release_all, recover, effect_of}
use Rattle.journal.specs.AbstractLog.{empty_log}
use Rattle.journal.specs.CrashSafe.{System, Event, after, after_all, AllFit, formatted, Recovers, CrashSafe}
use Rattle.journal.proofs.SoundnessLaws.{Good}
use Rattle.journal.proofs.SoundnessRecover.{format_sound, recover_sound}
use Rattle.journal.proofs.Soundness.{calls_good}
use Rattle.journal.proofs.Theorem.{crash_safe}
use Rattle.words_state.specs.StateWords.{state_size, state_of}
use Rattle.words_state.proofs.RoundTrip.{load_saved}
use Rattle.words_shared.specs.StateAfter.{state_after}
use Rattle.c_reply.specs.ReplyWords.{reply_size}
use Rattle.c_reply.specs.LentTests.{lent_tests}
use Rattle.c_write.specs.WriteCalls.{effect_on}
use Rattle.c_run.specs.CRun.{LeftByCalls, format_left, recover_left, call_left, LoadsSaved, SystemInC, EventInC, after_in_c, after_all_in_c, AllFitInC, format_in_c, formatted_in_c, CallsStep, FormatBegins, RunsInC, RecoversInC, CrashSafeInC}
use Rattle.c_run.proofs.RefusedLaws.{Both, granted_both, refused_both, recovered, recover_both}
use Rattle.c_run.proofs.StepLaws.{in_words, Held, held_loaded, Steps, nothing, event, steps}

-- ---------------------------------------------------------------- states
left_good : (s : State) → LeftByCalls s → Good s
left_good s (format_left image room granted) = format_sound no_state image room granted
left_good s (recover_left image room granted) = recover_sound no_state image room granted
left_good s (call_left c {s = t} image room left) = calls_good c t image room (left_good t left)

pub loads_saved : LoadsSaved
unfolding LoadsSaved
loads_saved s left = let g = left_good s left in load_saved s g.sound g.size

-- ---------------------------------------------------------------- a run
-- a system for C that a list of events of demand 3 leads to
record RunFrom (s : System) (t : SystemInC) : Type 0 where
  events : List Event
  fit : AllFit events s
  words : List ℕ
  held : Held (after_all events s).down (after_all events s).state words
  is : t ≡ in_words (after_all events s) words

runs : (es : List EventInC) (s : System) (words : List ℕ) → Held s.down s.state words
    → AllFitInC es (in_words s words) → RunFrom s (after_all_in_c es (in_words s words))
unfolding after_all_in_c AllFitInC after_all AllFit
runs [] s words h f = record { events = []; fit = tt; words = words; held = h; is = refl }
runs (e ∷ es) s words h f = go (steps s words h e f.0) f.1 (λ t ws g x. runs es t ws g x)
  where
    go : {t : SystemInC} → Steps s t → AllFitInC es t
        → ((u : System) (ws : List ℕ) → Held u.down u.state ws → AllFitInC es (in_words u ws)
        → RunFrom u (after_all_in_c es (in_words u ws)))
        → RunFrom s (after_all_in_c es t)
    go (nothing ws g is) x ih = rw is (ih s ws g (rw is at x))
    go (event e' fits ws g is) x ih =
        let r = ih (after e' s) ws g (rw is at x) in
        rw is (record {
          events = e' ∷ r.events;
          fit = (fits, r.fit);
          words = r.words;
          held = r.held;
          is = r.is;
        })

-- ---------------------------------------------------------------- its beginning
-- a freshly formatted log, with its state in the words
pub record Begun (old : List ℕ) (room : ℕ) (t : SystemInC) : Type 0 where
  pub granted : (format_effect no_state old room).reply ≡ ok done
  pub words : List ℕ
  pub held : Held false (formatted old room).state words
  pub is : t ≡ in_words (formatted old room) words

module _ (old lent : List ℕ) (room : ℕ) (reply : List ℕ) where
  abbrev tests : List Test
  tests = lent_tests (length reply) (length lent) (length old)

  -- the system after a format with this effect
  abbrev Formatted : Effect → SystemInC
  Formatted o = record {
    image = apply o.ops old;
    device = carry o.ops (power_up old);
    words = state_after o.reply o.state lent;
    log = empty_log;
    down = false;
  }

  decided_begins : {o : Effect} → Decided tests (refused_effect no_state) (format_effect no_state old room) o
      → o.reply ≡ ok done → Begun old room (Formatted o)
  unfolding formatted
  decided_begins (passed p) e = record {
    granted = e;
    words = state_after (format_effect no_state old room).reply (format_effect no_state old room).state lent;
    held = λ up. (rw e refl, format_sound no_state old room e);
    is = refl;
  }
  decided_begins (failed w) e = absurd (let z : ◌≡◌ {A = ℕ} 0 1 = cc in omega arith)

  pub begins : (format_in_c old lent room reply).reply ≡ ok done → Begun old room (formatted_in_c old lent room reply)
  unfolding formatted_in_c effect_on
  begins = decided_begins (decided tests (refused_effect no_state) (format_effect no_state old room))

  runs_from : (format_in_c old lent room reply).reply ≡ ok done → (es : List EventInC)
      → AllFitInC es (formatted_in_c old lent room reply)
      → RunFrom (formatted old room) (after_all_in_c es (formatted_in_c old lent room reply))
  unfolding formatted
  runs_from granted es f =
      let b = begins granted in
      rw b.is (runs es (formatted old room) b.words b.held (rw b.is at f))

-- ---------------------------------------------------------------- the two theorems
pub runs_in_c : RunsInC
unfolding RunsInC
runs_in_c old lent room reply granted es f =
    let r = runs_from old lent room reply granted es f in
    let s = after_all r.events (formatted old room) in
    let same : (after_all_in_c es (formatted_in_c old lent room reply)).words ≡ r.words =
    ap (λ (t : SystemInC). t.words) r.is in
    let down : (after_all_in_c es (formatted_in_c old lent room reply)).down ≡ s.down =
    ap (λ (t : SystemInC). t.down) r.is in
    record {
      events = r.events;
      fit = r.fit;
      holds = record {
        image = ap (λ (t : SystemInC). t.image) r.is;
        device = ap (λ (t : SystemInC). t.device) r.is;
        log = ap (λ (t : SystemInC). t.log) r.is;
        down = down;
        words = λ up. same ∙ (r.held (sym down ∙ up)).0;
        state = λ up. ap state_of same ∙ held_loaded s.state r.words (r.held (sym down ∙ up));
      };
    }

-- the reply of recover is the same whatever state its caller holds
recover_replies : (s t : State) (image : List ℕ) (room : ℕ)
    → (recover_effect s image room).reply ≡ (recover_effect t image room).reply
recover_replies s t image room = go (recover_both s t image room)
  where
    go : {o p : Effect} → Both s t (recovered image) o p → o.reply ≡ p.reply
    go granted_both = refl
    go (refused_both w) = refl

pub recovers_in : (s : System) (words : List ℕ) → Recovers s → RecoversInC (in_words s words)
unfolding effect_on
recovers_in s words r = record {
  owes = record {
    succeeds = λ room few spare. recover_replies (state_of words) s.state s.image room
        ∙ r.succeeds room few spare;
    consecutive = r.consecutive;
    vouched = r.vouched;
    listed = r.listed;
  };
  succeeds = λ lent room reply size four few spare.
      rw (le-ltb (length reply) reply_size four, eq-eqb (length lent) state_size size)
      (recover_replies no_state s.state s.image room ∙ r.succeeds room few spare);
}

pub crash_safe_in_c : CrashSafeInC
unfolding CrashSafeInC CrashSafe
crash_safe_in_c old lent room reply granted es f =
    let r = runs_from old lent room reply granted es f in
    rw r.is (recovers_in (after_all r.events (formatted old room)) r.words
    (crash_safe old room (begins old lent room reply granted).granted r.events r.fit))

-- ---------------------------------------------------------------- what the contracts say
pub calls_step : CallsStep
unfolding CallsStep after_in_c effect_of
calls_step (reserve kind len) r state image ops reply d s is at = rw (← is, ← at) (d.kept, d.stored, d.laid)
calls_step (copy lsn offset bytes) r state image ops reply d s is at = rw (← is, ← at) (d.kept, d.stored, d.laid)
calls_step (complete lsn) r state image ops reply d s is at = rw (← is, ← at) (d.kept, d.stored, d.laid)
calls_step (force lsn frequency) r state image ops reply d s is at = rw (← is, ← at) (d.kept, d.stored, d.laid)
calls_step (release lsn) r state image ops reply d s is at = rw (← is, ← at) (d.kept, d.stored, d.laid)
calls_step release_all r state image ops reply d s is at = rw (← is, ← at) (d.kept, d.stored, d.laid)
calls_step recover r state image ops reply d s is at = rw (← is, ← at) (d.kept, d.stored, d.laid)

pub format_begins : FormatBegins
unfolding FormatBegins formatted_in_c
format_begins r state image ops reply d = (d.kept, d.stored, d.laid)
