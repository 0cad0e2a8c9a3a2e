-- Demand 3 for a program in C: a state is read from its words as it was; lists of calls for C with power failures, on
-- words that the program lends, and what is claimed of them. The definitions are those of CrashSafe.antt of journal,
-- for C.
-- Cites WriteCalls.antt of c_write, StateAfter.antt of words_shared, StateWords.antt of words_state, and CrashSafe.antt
-- of journal.
use Rattle.std.specs.Prelude.{◌≡◌, List, [], ◌∷◌, Bool, true, false, ℕ, ◌-◌, ◌≤◌, ◌<◌, ℤ, length, take}
use Rattle.device.specs.Ops.{apply, lay}
use Rattle.device.specs.Lent.{Lent, given, left, room}
use Rattle.device.specs.Crash.{Device, carry, CrashImage, power_up}
use Rattle.refusal.specs.Tests.{ok}
use Rattle.layout.specs.Superline.{active_word, no_more_epoch}
use Rattle.state.specs.declared.State.{State}
use Rattle.journal.specs.Effect.{done, Effect, no_state}
use Rattle.journal.specs.Append.{reserve_effect, copy_effect, complete_effect}
use Rattle.journal.specs.Force.{force_effect}
use Rattle.journal.specs.Release.{release_effect, release_all_effect}
use Rattle.journal.specs.Recover.{format_effect, recover_effect}
use Rattle.journal.specs.Calls.{Call, reserve, copy, complete, force, release, release_all, recover, effect_of}
use Rattle.journal.specs.AbstractLog.{AbstractLog, empty_log, feed}
use Rattle.journal.specs.CrashSafe.{System, Event, with_returned, is_recover, left_by, still_down, after_all, Typed, AllFit, formatted, Recovers}
use Rattle.words_state.specs.StateWords.{state_size, words_of, state_of}
use Rattle.words_shared.specs.StateAfter.{state_after}
use Rattle.c_reply.specs.ReplyWords.{reply_size}
use Rattle.c_write.specs.WriteCalls.{effect_on, Through}

-- a state that calls leave, on whatever images: that of a format or a recovery that is granted, and that of any call on
-- such a state
pub data LeftByCalls : State → Type 0 where
  format_left : (image : List ℕ) (opsRoom : ℕ) → (format_effect no_state image opsRoom).reply ≡ ok done
      → LeftByCalls (format_effect no_state image opsRoom).state
  recover_left : (image : List ℕ) (opsRoom : ℕ) → (recover_effect no_state image opsRoom).reply ≡ ok done
      → LeftByCalls (recover_effect no_state image opsRoom).state
  call_left : (c : Call) {s : State} (image : List ℕ) (opsRoom : ℕ) → LeftByCalls s
      → LeftByCalls (effect_of c s image opsRoom).state

-- it is read from its words as it was
unfoldable pub LoadsSaved : Type 0
LoadsSaved = (s : State) → LeftByCalls s → state_of (words_of s) ≡ s

-- working image, module, the words of the state, and abstract log; down: power failed, and no recovery has succeeded
-- since, all its ops carried out
pub record SystemInC : Type 0 where
  pub image : List ℕ
  pub device : Device
  pub words : List ℕ
  pub log : AbstractLog
  pub down : Bool

-- a call with an op buffer of so many words and these words for its reply, all its ops carried out; or a call in which
-- power fails: how many of its ops were carried out, the image that is left, and the words that are lent for the state
-- from then on, whatever they hold
pub data EventInC : Type 0 where
  call_in_c : Call → ℕ → List ℕ → EventInC
  crash_in_c : Call → ℕ → List ℕ → ℕ → List ℕ → List ℕ → EventInC

-- what a call does through the words. Recover is handed no state.
abbrev pub effect_in_c : SystemInC → Call → ℕ → List ℕ → Effect
effect_in_c s c opsRoom reply =
    effect_on reply s.words s.image
    (λ held. effect_of c (left_by (is_recover c) with_returned held) s.image opsRoom)

-- a call that is refused leaves the words: its caller goes on with the state that it held
unfoldable pub after_in_c : EventInC → SystemInC → SystemInC
after_in_c (call_in_c c opsRoom reply) s = let o = effect_in_c s c opsRoom reply in record {
  image = apply o.ops s.image;
  device = carry o.ops s.device;
  words = state_after o.reply o.state s.words;
  log = feed c o.reply (length o.ops) (length o.ops) s.log;
  down = still_down s.down o.reply;
}
after_in_c (crash_in_c c opsRoom reply carried image lent) s = let o = effect_in_c s c opsRoom reply in record {
  image = image;
  device = power_up image;
  words = lent;
  log = feed c o.reply (length o.ops) carried s.log;
  down = true;
}

-- an event that can happen: only recoveries while down; a crash comes after some of the call's ops and leaves an image
-- that the module's words may hold
abbrev pub FitsInC : EventInC → SystemInC → Type 0
FitsInC (call_in_c c opsRoom reply) s = Typed c × (s.down ≡ true → is_recover c ≡ true)
FitsInC (crash_in_c c opsRoom reply carried image lent) s =
    Typed c × (s.down ≡ true → is_recover c ≡ true)
    × (carried ≤ length (effect_in_c s c opsRoom reply).ops)
    × CrashImage (carry (take carried (effect_in_c s c opsRoom reply).ops) s.device) (length s.image) image

unfoldable pub after_all_in_c : List EventInC → SystemInC → SystemInC
after_all_in_c [] s = s
after_all_in_c (e ∷ es) s = after_all_in_c es (after_in_c e s)

unfoldable pub AllFitInC : List EventInC → SystemInC → Type 0
AllFitInC [] s = Unit {0}
AllFitInC (e ∷ es) s = FitsInC e s × AllFitInC es (after_in_c e s)

-- format over any old contents of the image and of the words
abbrev pub format_in_c : List ℕ → List ℕ → ℕ → List ℕ → Effect
format_in_c old lent opsRoom reply = effect_on reply lent old (λ held. format_effect no_state old opsRoom)

unfoldable pub formatted_in_c : List ℕ → List ℕ → ℕ → List ℕ → SystemInC
formatted_in_c old lent opsRoom reply = let o = format_in_c old lent opsRoom reply in record {
  image = apply o.ops old;
  device = carry o.ops (power_up old);
  words = state_after o.reply o.state lent;
  log = empty_log;
  down = false;
}

-- the contract of each call, as crate c_write has it
abbrev pub Contract : Call → ℤ → Lent → Lent → Lent → Lent → Type 0
Contract (reserve kind len) r state image ops reply =
    Through (λ s. reserve_effect s (given image) (room ops) kind len) r state image ops reply
Contract (copy lsn offset bytes) r state image ops reply =
    Through (λ s. copy_effect s (given image) (room ops) lsn offset bytes) r state image ops reply
Contract (complete lsn) r state image ops reply =
    Through (λ s. complete_effect s (given image) (room ops) lsn) r state image ops reply
Contract (force lsn frequency) r state image ops reply =
    Through (λ s. force_effect s (given image) (room ops) lsn frequency) r state image ops reply
Contract (release lsn) r state image ops reply =
    Through (λ s. release_effect s (given image) (room ops) lsn) r state image ops reply
Contract release_all r state image ops reply =
    Through (λ s. release_all_effect s (given image) (room ops)) r state image ops reply
Contract recover r state image ops reply =
    Through (λ s. recover_effect no_state (given image) (room ops)) r state image ops reply

-- so a call that is lent a system's words and image leaves those of the system after its event, and in the op buffer
-- the ops that are carried out there
unfoldable pub CallsStep : Type 0
CallsStep =
    (c : Call) (r : ℤ) (state image ops reply : Lent) → Contract c r state image ops reply
    → (s : SystemInC) → given state ≡ s.words → given image ≡ s.image
    → let t = after_in_c (call_in_c c (room ops) (given reply)) s in
    (left state ≡ t.words) × (left image ≡ t.image)
    × (left ops ≡ lay (effect_in_c s c (room ops) (given reply)).ops (given ops))

-- and a format leaves those of a freshly formatted log
unfoldable pub FormatBegins : Type 0
FormatBegins =
    (r : ℤ) (state image ops reply : Lent)
    → Through (λ s. format_effect no_state (given image) (room ops)) r state image ops reply
    → let t = formatted_in_c (given image) (given state) (room ops) (given reply) in
    (left state ≡ t.words) × (left image ≡ t.image)
    × (left ops ≡ lay (format_in_c (given image) (given state) (room ops) (given reply)).ops (given ops))

-- a system for C is one of demand 3, with its state put into the words. While down the words hold anything.
pub record Holds (t : SystemInC) (s : System) : Type 0 where
  pub image : t.image ≡ s.image
  pub device : t.device ≡ s.device
  pub log : t.log ≡ s.log
  pub down : t.down ≡ s.down
  pub words : t.down ≡ false → t.words ≡ words_of s.state
  pub state : t.down ≡ false → state_of t.words ≡ s.state

-- it is one that a list of events of demand 3 leads to
pub record IsRun (old : List ℕ) (opsRoom : ℕ) (t : SystemInC) : Type 0 where
  pub events : List Event
  pub fit : AllFit events (formatted old opsRoom)
  pub holds : Holds t (after_all events (formatted old opsRoom))

-- a run of the calls for C is a run of demand 3
unfoldable pub RunsInC : Type 0
RunsInC =
    (old lent : List ℕ) (opsRoom : ℕ) (reply : List ℕ) → (format_in_c old lent opsRoom reply).reply ≡ ok done
    → (es : List EventInC) → AllFitInC es (formatted_in_c old lent opsRoom reply)
    → IsRun old opsRoom (after_all_in_c es (formatted_in_c old lent opsRoom reply))

-- the system of demand 3 with the state that the words hold
abbrev pub system_of : SystemInC → System
system_of t = record {
  image = t.image;
  device = t.device;
  state = state_of t.words;
  log = t.log;
  down = t.down;
}

-- what the next recovery owes: all that demand 3 says, and that it succeeds through the words, whatever they hold
pub record RecoversInC (t : SystemInC) : Type 0 where
  pub owes : Recovers (system_of t)
  pub succeeds : (lent : List ℕ) (opsRoom : ℕ) (reply : List ℕ) → length lent ≡ state_size → reply_size ≤ length reply
      → 33 ≤ opsRoom → active_word t.image 4 < no_more_epoch - 1
      → (effect_on reply lent t.image (λ held. recover_effect no_state t.image opsRoom)).reply ≡ ok done

-- Demand 3 for C: after every list of events on a freshly formatted log, the next recovery owes all that
unfoldable pub CrashSafeInC : Type 0
CrashSafeInC =
    (old lent : List ℕ) (opsRoom : ℕ) (reply : List ℕ) → (format_in_c old lent opsRoom reply).reply ≡ ok done
    → (es : List EventInC) → AllFitInC es (formatted_in_c old lent opsRoom reply)
    → RecoversInC (after_all_in_c es (formatted_in_c old lent opsRoom reply))
