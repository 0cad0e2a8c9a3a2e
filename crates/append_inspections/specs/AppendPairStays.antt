-- A replacement and its inspection stay listed (specs/PairStays.antt of inspections), with append among the calls:
-- "once both are durable and no release of them is begun, both are listed by the next recovery as long as no release of
-- the replacement is begun", in the runs of AppendSafe.antt of append.
use Rattle.std.specs.Prelude.{◌≡◌, List, [], ◌∷◌, false, ℕ}
use Rattle.std.proofs.Math.Option.{some}
use Rattle.refusal.specs.Tests.{ok}
use Rattle.scan.specs.Listed.{Listed}
use Rattle.journal.specs.AbstractLog.{Promise}
use Rattle.journal.specs.CrashSafe.{System, formatted}
use Rattle.journal.specs.Effect.{done, no_state}
use Rattle.journal.specs.Recover.{format_effect}
use Rattle.append.specs.AppendSafe.{AppendEvent, after_append, after_appends, AllFitAppend}
use Rattle.inspections.specs.PairStays.{Rests}

-- "as long as": no release of it is begun after any of these events
unfoldable pub NeverBegunAppends : ℕ → List AppendEvent → System → Type 0
NeverBegunAppends lsn [] s = Unit {0}
NeverBegunAppends lsn (e ∷ es) s =
    ((p : Promise) → (after_append e s).log lsn ≡ some p → p.begun ≡ false)
    × NeverBegunAppends lsn es (after_append e s)

-- after every list of events on a freshly formatted log, and every further one
unfoldable pub AppendPairStays : Type 0
AppendPairStays =
    (old : List ℕ) (words : ℕ) → (format_effect no_state old words).reply ≡ ok done
    → (es : List AppendEvent) → AllFitAppend es (formatted old words)
    → (j n : ℕ) → Rests (after_appends es (formatted old words)).log j n
    → (later : List AppendEvent) → AllFitAppend later (after_appends es (formatted old words))
    → NeverBegunAppends j later (after_appends es (formatted old words))
    → let s = after_appends later (after_appends es (formatted old words)) in Listed j s.image × Listed n s.image
