-- With append among the calls every LSN that the program prints has a release begun.
-- Cites specs/AppendOrphansBegun.antt, InspectedLaws.antt; OrphanTheorem.antt, OrphanLaws.antt and FirmLaws.antt of
-- inspections, AppendInvariant.antt of append.
use mathlib.Core.Path.{◌≡◌, sym, subst}
use mathlib.Core.List.{List, [], ◌∷◌}
use mathlib.Core.Bool.{true}
use Prim.Native.Nat.{ℕ, ◌<◌}
use Rattle.scan.specs.Orphans.{is_one_of, orphan_lsns}
use Rattle.scan.specs.Scan.{scan, listed}
use Rattle.journal.specs.CrashSafe.{System, Event, after, after_all, AllFit, formatted}
use Rattle.journal.specs.RunLog.{RunLog, first_run, ran_after}
use Rattle.journal.proofs.CrashFormat.{inv_formatted}
use Rattle.journal.proofs.Invariant.{Inv, inv_after}
use Rattle.journal.proofs.Theorem.{owed}
use Rattle.append.specs.AppendSafe.{AppendEvent, after_append, FitsAppend, after_appends, AllFitAppend}
use Rattle.append.proofs.AppendInvariant.{inv_below, goes_from}
use Rattle.append.proofs.AppendSteps.{with_device}
use Rattle.append.proofs.ReachLaws.{Went}
use Rattle.inspections.specs.OrphansBegun.{ForcesInspected, ReleaseBegun}
use Rattle.inspections.proofs.FirmLaws.{firm_after}
use Rattle.inspections.proofs.OrphanLaws.{RestsOn, printed_begun}
use Rattle.inspections.proofs.OrphanTheorem.{rests_after, none_yet}
use Rattle.append_inspections.specs.AppendOrphansBegun.{EventInspected, AppendsInspected, AppendOrphansBegun}
use Rattle.append_inspections.proofs.InspectedLaws.{WentInspected, inspected_along, event_inspected}

-- every committed record, as long as no release of it is begun, names 0 or an earlier one with none begun
record Resting (s : System) : Type 0 where
  ran : RunLog
  inv : Inv s ran
  rests : (j : ℕ) → j < inv.quiet.frame.firm → RestsOn s.log j

rests_all : (es : List Event) (s : System) → AllFit es s → ForcesInspected es s → Resting s → Resting (after_all es s)
unfolding after_all AllFit ForcesInspected
rests_all [] s f h r = r
rests_all (e ∷ es) s f h r =
    let i = inv_after owed e s r.ran r.inv f.0 in
    rests_all es (after e s) f.1 h.1 (record {
      ran = ran_after e s r.ran;
      inv = i;
      rests = rests_after e s r.inv i (firm_after e s r.inv f.0 i) r.rests h.0;
    })

-- so it is after the calls that an event is, and the invariant is the one of its own module
rests_event : (e : AppendEvent) (s : System) → FitsAppend e s → EventInspected e s → Resting s
    → Resting (after_append e s)
rests_event e s f h r =
    let g = goes_from e s r.inv f in
    let p = g.reach in
    let there : Resting (with_device g.device (after_append e s)) =
    subst Resting p.there (rests_all p.events s p.fit
    (inspected_along p.events s
    (subst (λ (ws : List Went). WentInspected ws s.log) (sym p.goes) (event_inspected e s h))) r) in record {
      ran = there.ran;
      inv = inv_below (after_append e s) g.device there.inv g.below g.shows;
      rests = there.rests;
    }

all_begun : (es : List AppendEvent) (s : System) → AllFitAppend es s → AppendsInspected es s → Resting s → (j : ℕ)
    → is_one_of j (orphan_lsns (after_appends es s).image (listed (scan (after_appends es s).image).found)) ≡ true
    → ReleaseBegun (after_appends es s).log j
unfolding after_appends AllFitAppend AppendsInspected
all_begun [] s f names r j h = printed_begun s r.inv r.rests j h
all_begun (e ∷ es) s f names r j h =
    all_begun es (after_append e s) f.1 names.1 (rests_event e s f.0 names.0 r) j h

pub append_orphans_begun : AppendOrphansBegun
unfolding AppendOrphansBegun
append_orphans_begun old words granted es f names = all_begun es (formatted old words) f names (record {
  ran = first_run;
  inv = inv_formatted old words granted;
  rests = λ j l p is. absurd (none_yet old words j p is);
})
