-- What passed ops do to what a crash may leave. Document 02, slip 12: "Whoever made it, a passed tape cut after any
-- order gives only take-up listings that a cut just before the tape could have given, for a state and image that a run
-- of our calls left with all its orders carried out."
use Rattle.std.specs.Prelude.{◌≡◌, List, [], ◌∷◌, true, ℕ, ◌≤◌, length, take}
use Rattle.device.specs.Ops.{apply}
use Rattle.device.specs.ReadOps.{ops_of}
use Rattle.device.specs.Crash.{carry, CrashImage, power_up}
use Rattle.refusal.specs.Tests.{ok}
use Rattle.state.specs.declared.State.{State}
use Rattle.scan.specs.declared.Found.{Found}
use Rattle.scan.specs.Open.{opening}
use Rattle.scan.specs.Scan.{scan}
use Rattle.scan.specs.Listed.{Among}
use Rattle.scan.specs.Fetch.{fetch}
use Rattle.journal.specs.CrashSafe.{System, Event, after, Fits, after_all, AllFit, formatted, Recovers}
use Rattle.journal.specs.Effect.{done, no_state}
use Rattle.journal.specs.Recover.{format_effect, recover_effect}
use Rattle.scratch.specs.Vet.{vet}

-- the words of ops are passed under the present state and image
abbrev pub Passed : System → List ℕ → Type 0
Passed s given = vet s.state s.image given ≡ ok (length (ops_of given))

-- two images read alike: open answers the same, so does the scan (ring positions, LSNs, kinds, lengths, marks, epochs,
-- and where and how it ends), fetch gives the same bytes of each record found, and recover, document 01's take-up, does
-- the same
pub record SameReading (a b : List ℕ) : Type 0 where
  pub opened : opening a ≡ opening b
  pub scanned : scan a ≡ scan b
  pub fetched : (r : Found) → Among r (scan a).found → (output : List ℕ)
      → fetch a r.pos r.length output ≡ fetch b r.pos r.length output
  pub recovered : (held : State) (words : ℕ) → recover_effect held a words ≡ recover_effect held b words

-- "that a cut just before the tape could have given": an image that a crash may leave now, and that reads like a given
-- one
pub record ReadBefore (s : System) (image : List ℕ) : Type 0 where
  pub earlier : List ℕ
  pub left : CrashImage s.device (length s.image) earlier
  pub reads : SameReading earlier image

-- "a passed tape cut after any order gives only" these
abbrev pub Harmless : System → Type 0
Harmless s =
    (given : List ℕ) → Passed s given → (carried : ℕ) → carried ≤ length (ops_of given)
    → (image : List ℕ) → CrashImage (carry (take carried (ops_of given)) s.device) (length s.image) image
    → ReadBefore s image

-- the claim, "for a state and image that a run of our calls left with all its orders carried out"
unfoldable pub PassedOpsHarmless : Type 0
PassedOpsHarmless =
    (old : List ℕ) (words : ℕ) → (format_effect no_state old words).reply ≡ ok done
    → (es : List Event) → AllFit es (formatted old words) → Harmless (after_all es (formatted old words))

-- Runs that go on after passed ops: an event of demand 3; passed ops, all carried out and their stores put into the
-- working image; or passed ops in which power fails: how many of them were carried out, and the image that is left
pub data ScratchEvent : Type 0 where
  event : Event → ScratchEvent
  passed : List ℕ → ScratchEvent
  crashed : List ℕ → ℕ → List ℕ → ScratchEvent

-- the state and the abstract log are as before passed ops
unfoldable pub after_scratch : ScratchEvent → System → System
after_scratch (event e) s = after e s
after_scratch (passed given) s = record {
  image = apply (ops_of given) s.image;
  device = carry (ops_of given) s.device;
  state = s.state;
  log = s.log;
  down = s.down;
}
after_scratch (crashed given carried image) s = record {
  image = image;
  device = power_up image;
  state = no_state;
  log = s.log;
  down = true;
}

-- where power is down no ops are passed: there is no state
abbrev pub FitsScratch : ScratchEvent → System → Type 0
FitsScratch (event e) s = Fits e s
FitsScratch (passed given) s = Passed s given
FitsScratch (crashed given carried image) s =
    Passed s given
    × (carried ≤ length (ops_of given))
    × CrashImage (carry (take carried (ops_of given)) s.device) (length s.image) image

unfoldable pub after_scratches : List ScratchEvent → System → System
after_scratches [] s = s
after_scratches (e ∷ es) s = after_scratches es (after_scratch e s)

unfoldable pub AllFitScratch : List ScratchEvent → System → Type 0
AllFitScratch [] s = Unit {0}
AllFitScratch (e ∷ es) s = FitsScratch e s × AllFitScratch es (after_scratch e s)

-- the claim where other passed ops were carried out before
unfoldable pub FurtherOpsHarmless : Type 0
FurtherOpsHarmless =
    (old : List ℕ) (words : ℕ) → (format_effect no_state old words).reply ≡ ok done
    → (es : List ScratchEvent) → AllFitScratch es (formatted old words)
    → Harmless (after_scratches es (formatted old words))

-- demand 3 with passed ops among the events
unfoldable pub ScratchSafe : Type 0
ScratchSafe =
    (old : List ℕ) (words : ℕ) → (format_effect no_state old words).reply ≡ ok done
    → (es : List ScratchEvent) → AllFitScratch es (formatted old words)
    → Recovers (after_scratches es (formatted old words))
