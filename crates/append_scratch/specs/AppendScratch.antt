-- Passed ops of somebody else, with append among the calls: the claims of specs/ScratchSafe.antt and ScratchRuns.antt
-- of scratch, of "a state and image that a run of our calls left with all its orders carried out". Append is one of our
-- calls.
use Rattle.std.specs.Prelude.{◌≡◌, List, [], ◌∷◌, ℕ}
use Rattle.refusal.specs.Tests.{ok}
use Rattle.journal.specs.CrashSafe.{System, formatted, Recovers}
use Rattle.journal.specs.Effect.{done, no_state}
use Rattle.journal.specs.Recover.{format_effect}
use Rattle.journal.specs.RunLog.{RunLog, first_run, TellsRuns}
use Rattle.append.specs.AppendRuns.{ran_append}
use Rattle.append.specs.AppendSafe.{AppendEvent, after_append, FitsAppend}
use Rattle.scratch.specs.ScratchRuns.{ran_scratch}
use Rattle.scratch.specs.ScratchSafe.{Harmless, ScratchEvent, after_scratch, FitsScratch}

-- an event of AppendSafe, append among them, or one of ScratchSafe, passed ops among them; each whole or with a power
-- failure in it
pub data AppendScratchEvent : Type 0 where
  appends : AppendEvent → AppendScratchEvent
  scratch : ScratchEvent → AppendScratchEvent

unfoldable pub after_either : AppendScratchEvent → System → System
after_either (appends e) s = after_append e s
after_either (scratch e) s = after_scratch e s

abbrev pub FitsEither : AppendScratchEvent → System → Type 0
FitsEither (appends e) s = FitsAppend e s
FitsEither (scratch e) s = FitsScratch e s

-- granted, append notes what complete notes; passed ops complete no record and begin no run
unfoldable pub ran_either : AppendScratchEvent → System → RunLog → RunLog
ran_either (appends e) s x = ran_append e s x
ran_either (scratch e) s x = ran_scratch e s x

unfoldable pub after_eithers : List AppendScratchEvent → System → System
after_eithers [] s = s
after_eithers (e ∷ es) s = after_eithers es (after_either e s)

unfoldable pub AllFitEither : List AppendScratchEvent → System → Type 0
AllFitEither [] s = Unit {0}
AllFitEither (e ∷ es) s = FitsEither e s × AllFitEither es (after_either e s)

unfoldable pub ran_eithers : List AppendScratchEvent → System → RunLog → RunLog
ran_eithers [] s x = x
ran_eithers (e ∷ es) s x = ran_eithers es (after_either e s) (ran_either e s x)

-- after every list of such events on a freshly formatted log, the next recovery owes what it owes in CrashSafe
unfoldable pub AppendScratchSafe : Type 0
AppendScratchSafe =
    (old : List ℕ) (words : ℕ) → (format_effect no_state old words).reply ≡ ok done
    → (es : List AppendScratchEvent) → AllFitEither es (formatted old words)
    → Recovers (after_eithers es (formatted old words))

-- passed ops cut after any op give only what a crash just before them could have given
unfoldable pub AppendScratchHarmless : Type 0
AppendScratchHarmless =
    (old : List ℕ) (words : ℕ) → (format_effect no_state old words).reply ≡ ok done
    → (es : List AppendScratchEvent) → AllFitEither es (formatted old words)
    → Harmless (after_eithers es (formatted old words))

-- which run wrote each record found
unfoldable pub AppendScratchRunsTold : Type 0
AppendScratchRunsTold =
    (old : List ℕ) (words : ℕ) → (format_effect no_state old words).reply ≡ ok done
    → (es : List AppendScratchEvent) → AllFitEither es (formatted old words)
    → TellsRuns (after_eithers es (formatted old words)).image (ran_eithers es (formatted old words) first_run)
