-- Demand 3 for a program in C with append among its calls: the events of CRun.antt of c_run, and append, whole or with
-- a power failure in it. The definitions are those of AppendSafe.antt of append, for C.
-- Cites CRun.antt of c_run, AppendCall.antt and AppendSafe.antt of append, and WriteCalls.antt of c_write.
use Rattle.std.specs.Prelude.{◌≡◌, List, [], ◌∷◌, true, false, ℕ, ◌≤◌, ℤ, length, take}
use Rattle.crc_spec.specs.Bytes.{AllBytes}
use Rattle.device.specs.Ops.{apply, lay}
use Rattle.device.specs.Lent.{Lent, given, left, room}
use Rattle.device.specs.Crash.{carry, CrashImage, power_up}
use Rattle.refusal.specs.Tests.{ok}
use Rattle.journal.specs.Effect.{done, Effect}
use Rattle.append.specs.AppendCall.{append_effect}
use Rattle.append.specs.AppendSafe.{feed_append}
use Rattle.words_shared.specs.StateAfter.{state_after}
use Rattle.c_write.specs.WriteCalls.{effect_on, Through}
use Rattle.c_run.specs.CRun.{SystemInC, EventInC, after_in_c, FitsInC, format_in_c, formatted_in_c, RecoversInC}

-- an event without append; append with kind, bytes, force frequency, an op buffer of so many words and these words for
-- its reply, all its ops carried out; or append in which power fails: how many of its ops were carried out, the image
-- that is left, and the words that are lent for the state from then on
pub data AppendEventInC : Type 0 where
  event_in_c : EventInC → AppendEventInC
  append_in_c : ℕ → List ℕ → ℕ → ℕ → List ℕ → AppendEventInC
  append_crash_in_c : ℕ → List ℕ → ℕ → ℕ → List ℕ → ℕ → List ℕ → List ℕ → AppendEventInC

-- what append does through the words
abbrev pub append_effect_in_c : SystemInC → ℕ → List ℕ → ℕ → ℕ → List ℕ → Effect
append_effect_in_c s kind bytes frequency opsRoom reply =
    effect_on reply s.words s.image (λ held. append_effect held s.image opsRoom kind bytes frequency)

unfoldable pub after_append_in_c : AppendEventInC → SystemInC → SystemInC
after_append_in_c (event_in_c e) s = after_in_c e s
after_append_in_c (append_in_c kind bytes frequency opsRoom reply) s =
    let o = append_effect_in_c s kind bytes frequency opsRoom reply in record {
      image = apply o.ops s.image;
      device = carry o.ops s.device;
      words = state_after o.reply o.state s.words;
      log = feed_append kind bytes frequency o.reply (length o.ops) (length o.ops) s.log;
      down = s.down;
    }
after_append_in_c (append_crash_in_c kind bytes frequency opsRoom reply carried image lent) s =
    let o = append_effect_in_c s kind bytes frequency opsRoom reply in record {
      image = image;
      device = power_up image;
      words = lent;
      log = feed_append kind bytes frequency o.reply (length o.ops) carried s.log;
      down = true;
    }

-- append only while not down; a crash comes after some of its ops and leaves an image that the module's words may hold
abbrev pub FitsAppendInC : AppendEventInC → SystemInC → Type 0
FitsAppendInC (event_in_c e) s = FitsInC e s
FitsAppendInC (append_in_c kind bytes frequency opsRoom reply) s = AllBytes bytes × (s.down ≡ false)
FitsAppendInC (append_crash_in_c kind bytes frequency opsRoom reply carried image lent) s =
    AllBytes bytes × (s.down ≡ false)
    × (carried ≤ length (append_effect_in_c s kind bytes frequency opsRoom reply).ops)
    × CrashImage (carry (take carried (append_effect_in_c s kind bytes frequency opsRoom reply).ops) s.device)
    (length s.image) image

unfoldable pub after_appends_in_c : List AppendEventInC → SystemInC → SystemInC
after_appends_in_c [] s = s
after_appends_in_c (e ∷ es) s = after_appends_in_c es (after_append_in_c e s)

unfoldable pub AllFitAppendInC : List AppendEventInC → SystemInC → Type 0
AllFitAppendInC [] s = Unit {0}
AllFitAppendInC (e ∷ es) s = FitsAppendInC e s × AllFitAppendInC es (after_append_in_c e s)

-- what drivelog_append's contract says of a system's words and image: it leaves those of the system after its event,
-- and in the op buffer the ops that are carried out there
unfoldable pub AppendSteps : Type 0
AppendSteps =
    (kind : ℕ) (bytes : List ℕ) (frequency : ℕ) (r : ℤ) (state image ops reply : Lent)
    → Through (λ s. append_effect s (given image) (room ops) kind bytes frequency) r state image ops reply
    → (s : SystemInC) → given state ≡ s.words → given image ≡ s.image
    → let t = after_append_in_c (append_in_c kind bytes frequency (room ops) (given reply)) s in
    (left state ≡ t.words) × (left image ≡ t.image)
    × (left ops ≡ lay (append_effect_in_c s kind bytes frequency (room ops) (given reply)).ops (given ops))

-- Demand 3 for C with append among the calls: after every list of events on a freshly formatted log, the next recovery
-- owes all that it owes without append
unfoldable pub AppendSafeInC : Type 0
AppendSafeInC =
    (old lent : List ℕ) (opsRoom : ℕ) (reply : List ℕ) → (format_in_c old lent opsRoom reply).reply ≡ ok done
    → (es : List AppendEventInC) → AllFitAppendInC es (formatted_in_c old lent opsRoom reply)
    → RecoversInC (after_appends_in_c es (formatted_in_c old lent opsRoom reply))
