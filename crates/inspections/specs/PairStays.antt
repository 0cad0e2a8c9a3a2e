-- A replacement and its inspection stay listed. Slip 11: "An inspection may not be released while a later committed,
-- unreleased kind 600 record names it." In demand 3's runs, over power failures: once both are durable and no release
-- of them is begun, both are listed by the next recovery as long as no release of the replacement is begun.
use Rattle.std.specs.Prelude.{◌≡◌, List, [], ◌∷◌, true, false, ℕ, ◌<◌}
use Rattle.std.proofs.Math.Option.{some}
use Rattle.refusal.specs.Tests.{ok}
use Rattle.scan.specs.Listed.{Listed}
use Rattle.scan.specs.Names.{names_in}
use Rattle.journal.specs.AbstractLog.{Promise, AbstractLog}
use Rattle.journal.specs.CrashSafe.{System, Event, after, after_all, AllFit, formatted}
use Rattle.journal.specs.Effect.{done, no_state}
use Rattle.journal.specs.Recover.{format_effect}

-- a record that the abstract log has as durable, with no release of it begun
pub record StillDurable (log : AbstractLog) (lsn : ℕ) : Type 0 where
  pub promise : Promise
  pub is : log lsn ≡ some promise
  pub durable : promise.durable ≡ true
  pub begun : promise.begun ≡ false

-- "as long as": no release of it is begun after any of these events
unfoldable pub NeverBegun : ℕ → List Event → System → Type 0
NeverBegun lsn [] s = Unit {0}
NeverBegun lsn (e ∷ es) s =
    ((p : Promise) → (after e s).log lsn ≡ some p → p.begun ≡ false) × NeverBegun lsn es (after e s)

-- a replacement j and the inspection n that its bytes name
pub record Rests (log : AbstractLog) (j n : ℕ) : Type 0 where
  pub replacement : StillDurable log j
  pub inspection : StillDurable log n
  pub before : n < j
  pub names : names_in replacement.promise.kind replacement.promise.bytes ≡ n

-- after every list of events on a freshly formatted log, and every further one
unfoldable pub PairStays : Type 0
PairStays =
    (old : List ℕ) (words : ℕ) → (format_effect no_state old words).reply ≡ ok done
    → (es : List Event) → AllFit es (formatted old words)
    → (j n : ℕ) → Rests (after_all es (formatted old words)).log j n
    → (later : List Event) → AllFit later (after_all es (formatted old words))
    → NeverBegun j later (after_all es (formatted old words))
    → let s = after_all later (after_all es (formatted old words)) in Listed j s.image × Listed n s.image
