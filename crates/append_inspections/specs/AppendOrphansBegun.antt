-- What the program of slip 11 prints (specs/OrphansBegun.antt of inspections), with append among the calls: "if at
-- every granted force each record of its stretch that names a number other than 0 names an earlier LSN with no release
-- of it begun, then every LSN that the program prints has a release begun". A force is in append too, after its record
-- is complete.
use Rattle.std.specs.Prelude.{◌≡◌, List, [], ◌∷◌, true, ℕ}
use Rattle.refusal.specs.Tests.{Reply, ok, refused}
use Rattle.scan.specs.Orphans.{is_one_of, orphan_lsns}
use Rattle.scan.specs.Scan.{scan, listed}
use Rattle.journal.specs.Calls.{force}
use Rattle.journal.specs.CrashSafe.{System, formatted}
use Rattle.journal.specs.Effect.{Granted, done, reserved, durable, deferred, no_state}
use Rattle.journal.specs.Recover.{format_effect}
use Rattle.append.specs.AppendFour.{force_reply}
use Rattle.append.specs.AppendSafe.{AppendEvent, event, append, append_crash, append_in, feed_recorded, after_append, after_appends, AllFitAppend}
use Rattle.inspections.specs.OrphansBegun.{InStretch, Forces, NamesEarlier, ReleaseBegun}

-- the force in an append: its stretch ends with the new record, and the abstract log has that one
abbrev pub GrantedInspected : ℕ → List ℕ → ℕ → Granted → System → Type 0
GrantedInspected kind bytes frequency (reserved lsn d) s =
    (j : ℕ) → InStretch s.state j (force lsn frequency) (ok (force_reply d))
    → NamesEarlier (feed_recorded kind bytes lsn s.log) j
GrantedInspected kind bytes frequency done s = Unit {0}
GrantedInspected kind bytes frequency durable s = Unit {0}
GrantedInspected kind bytes frequency deferred s = Unit {0}

-- refused it forces nothing
abbrev pub AnsweredInspected : ℕ → List ℕ → ℕ → Reply Granted → System → Type 0
AnsweredInspected kind bytes frequency (ok a) s = GrantedInspected kind bytes frequency a s
AnsweredInspected kind bytes frequency (refused w) s = Unit {0}

-- so by its answer
abbrev pub AppendInspected : System → ℕ → List ℕ → ℕ → ℕ → Type 0
AppendInspected s kind bytes frequency words =
    AnsweredInspected kind bytes frequency (append_in s kind bytes frequency words).reply s

-- every record of the stretch names 0 or an earlier LSN with no release of it begun, also where power fails
abbrev pub EventInspected : AppendEvent → System → Type 0
EventInspected (event e) s = (j : ℕ) → Forces e s j → NamesEarlier s.log j
EventInspected (append kind bytes frequency words) s = AppendInspected s kind bytes frequency words
EventInspected (append_crash kind bytes frequency words carried image) s = AppendInspected s kind bytes frequency words

-- at every granted force
unfoldable pub AppendsInspected : List AppendEvent → System → Type 0
AppendsInspected [] s = Unit {0}
AppendsInspected (e ∷ es) s = EventInspected e s × AppendsInspected es (after_append e s)

-- after every such list of events on a freshly formatted log
unfoldable pub AppendOrphansBegun : Type 0
AppendOrphansBegun =
    (old : List ℕ) (words : ℕ) → (format_effect no_state old words).reply ≡ ok done
    → (es : List AppendEvent) → AllFitAppend es (formatted old words) → AppendsInspected es (formatted old words)
    → let s = after_appends es (formatted old words) in
    (j : ℕ) → is_one_of j (orphan_lsns s.image (listed (scan s.image).found)) ≡ true → ReleaseBegun s.log j
