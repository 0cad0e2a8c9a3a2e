-- What the program of slip 11 prints: "A program lists, in rising order, the LSNs of listed kind 600 records that name
-- a number other than 0 which no earlier listed record has". In demand 3's runs, over power failures: if at every
-- granted force each record of its stretch that names a number other than 0 names an earlier LSN with no release of it
-- begun, then every LSN that the program prints has a release begun. It can print one: the replacement is released, its
-- mark not flushed, and power fails in the release of the inspection, whose mark is there.
use Rattle.std.specs.Prelude.{◌≡◌, ◌≢◌, List, [], ◌∷◌, true, false, ℕ, ◌≤◌, ◌<◌}
use Rattle.std.proofs.Math.Option.{some}
use Rattle.refusal.specs.Tests.{Reply, ok}
use Rattle.state.specs.declared.State.{State}
use Rattle.scan.specs.Names.{names_in}
use Rattle.scan.specs.Orphans.{is_one_of, orphan_lsns}
use Rattle.scan.specs.Scan.{scan, listed}
use Rattle.journal.specs.AbstractLog.{Promise, AbstractLog}
use Rattle.journal.specs.Calls.{Call, force}
use Rattle.journal.specs.CrashSafe.{System, Event, with_held, call, crash, effect_in, after, after_all, AllFit, formatted}
use Rattle.journal.specs.Effect.{Granted, done, durable, no_state}
use Rattle.journal.specs.Recover.{format_effect}

-- the record j is one that a granted force makes durable: "the stretch runs from committed LSN + 1 to the LSN". A force
-- that is deferred has none, nor has that of an LSN already committed
pub data InStretch (st : State) (j : ℕ) : Call → Reply Granted → Type 0 where
  in_stretch : {k frequency : ℕ} → st.committed_lsn < j → j ≤ k
      → InStretch st j (force k frequency) (ok durable)

-- of a force with all of its ops carried out, and of one in which power fails
abbrev pub Forces : Event → System → ℕ → Type 0
Forces (call g c words) s j = InStretch s.state j c (effect_in s g c words).reply
Forces (crash c words carried image) s j = InStretch s.state j c (effect_in s with_held c words).reply

-- an LSN below j that the abstract log has, with no release of it begun
pub record Earlier (log : AbstractLog) (j n : ℕ) : Type 0 where
  pub promise : Promise
  pub is : log n ≡ some promise
  pub begun : promise.begun ≡ false
  pub before : n < j

-- the record j names 0, or such an LSN
abbrev pub NamesEarlier : AbstractLog → ℕ → Type 0
NamesEarlier log j =
    (p : Promise) → log j ≡ some p → names_in p.kind p.bytes ≢ 0 → Earlier log j (names_in p.kind p.bytes)

-- so does every record of the stretch, at every granted force
unfoldable pub ForcesInspected : List Event → System → Type 0
ForcesInspected [] s = Unit {0}
ForcesInspected (e ∷ es) s = ((j : ℕ) → Forces e s j → NamesEarlier s.log j) × ForcesInspected es (after e s)

-- a record of which a release is begun
pub record ReleaseBegun (log : AbstractLog) (j : ℕ) : Type 0 where
  pub promise : Promise
  pub is : log j ≡ some promise
  pub begun : promise.begun ≡ true

-- after every such list of events on a freshly formatted log
unfoldable pub OrphansBegun : Type 0
OrphansBegun =
    (old : List ℕ) (words : ℕ) → (format_effect no_state old words).reply ≡ ok done
    → (es : List Event) → AllFit es (formatted old words) → ForcesInspected es (formatted old words)
    → let s = after_all es (formatted old words) in
    (j : ℕ) → is_one_of j (orphan_lsns s.image (listed (scan s.image).found)) ≡ true → ReleaseBegun s.log j
