-- Which run wrote each record found, with passed ops among the events: crates/journal/specs/RunLog.antt.
use Rattle.std.specs.Prelude.{◌≡◌, List, [], ◌∷◌, ℕ}
use Rattle.refusal.specs.Tests.{ok}
use Rattle.journal.specs.CrashSafe.{System, formatted}
use Rattle.journal.specs.Effect.{done, no_state}
use Rattle.journal.specs.Recover.{format_effect}
use Rattle.journal.specs.RunLog.{RunLog, first_run, ran_after, TellsRuns}
use Rattle.scratch.specs.ScratchSafe.{ScratchEvent, event, passed, crashed, after_scratch, after_scratches, AllFitScratch}

-- passed ops complete no record and begin no run
unfoldable pub ran_scratch : ScratchEvent → System → RunLog → RunLog
ran_scratch (event e) s x = ran_after e s x
ran_scratch (passed given) s x = x
ran_scratch (crashed given carried image) s x = x

unfoldable pub ran_scratches : List ScratchEvent → System → RunLog → RunLog
ran_scratches [] s x = x
ran_scratches (e ∷ es) s x = ran_scratches es (after_scratch e s) (ran_scratch e s x)

unfoldable pub ScratchRunsTold : Type 0
ScratchRunsTold =
    (old : List ℕ) (words : ℕ) → (format_effect no_state old words).reply ≡ ok done
    → (es : List ScratchEvent) → AllFitScratch es (formatted old words)
    → TellsRuns (after_scratches es (formatted old words)).image (ran_scratches es (formatted old words) first_run)
