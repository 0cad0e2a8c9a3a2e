-- Every LSN that the program prints has a release begun: each event leaves every committed record, as long as no
-- release of it is begun, with the earlier one that it names, since a release of that is refused.
-- Cites FedLaws.antt, HeldLaws.antt, FirmLaws.antt, OrphanLaws.antt, and the invariant of the crash theorem.
use mathlib.Core.Path.{◌≡◌, refl, ap, ◌∙◌, sym, subst}
use mathlib.Core.Logic.{◌⊎◌, inl, inr}
use mathlib.Core.List.{List, [], ◌∷◌}
use mathlib.Core.Bool.{true, false}
use mathlib.Core.Option.{some}
use Prim.Native.Nat.{ℕ, suc, ◌<◌}
use native.Mathlib.Omega.{arith}
use Rattle.refusal.specs.Tests.{Reply}
use Rattle.state.specs.declared.State.{State}
use Rattle.scan.specs.Names.{names_in}
use Rattle.scan.specs.Orphans.{is_one_of, orphan_lsns}
use Rattle.scan.specs.Scan.{scan, listed}
use Rattle.journal.specs.AbstractLog.{Promise, AbstractLog, feed}
use Rattle.journal.specs.Calls.{Call}
use Rattle.journal.specs.CrashSafe.{System, Event, GoesOn, with_held, call, crash, effect_in, after, after_all, AllFit, formatted}
use Rattle.journal.specs.Effect.{Granted}
use Rattle.journal.specs.RunLog.{RunLog, first_run, ran_after}
use Rattle.journal.proofs.CrashFormat.{inv_formatted}
use Rattle.journal.proofs.Invariant.{Inv, inv_after}
use Rattle.journal.proofs.Theorem.{owed}
use Rattle.journal.proofs.Zones.{some_inj, some_not_none}
use Rattle.replicas.proofs.FeedLaws.{Late}
use Rattle.inspections.specs.OrphansBegun.{InStretch, in_stretch, Forces, Earlier, NamesEarlier, ForcesInspected, ReleaseBegun, OrphansBegun}
use Rattle.inspections.proofs.FedLaws.{fed_by, Releases, feed_cases, still, was, late_in}
use Rattle.inspections.proofs.FirmLaws.{firm_after}
use Rattle.inspections.proofs.HeldLaws.{not_back}
use Rattle.inspections.proofs.OrphanLaws.{RestsOn, printed_begun}

-- a call that writes to neither record, and does not release the earlier one, leaves both so
module _ (c : Call) (a : Reply Granted) (count m f : ℕ) (l : Late c a f) (log : AbstractLog) (j : ℕ) (lt : j < f) where
  earlier_fed : {n : ℕ} → Earlier log j n → (Releases c a m n → ⊥) → Earlier (feed c a count m log) j n
  earlier_fed {n} o back =
      let y = still o.is (feed_cases c a count m f l log n (omega (arith, o.before))) (λ x e. back x) in
      record { promise = y.promise; is = y.is; begun = y.begun ∙ o.begun; before = o.before }

  rests_fed : RestsOn log j
      → ((e : Promise) → log j ≡ some e → e.begun ≡ false → names_in e.kind e.bytes < j
      → ((p : Promise) → feed c a count m log j ≡ some p → p.begun ≡ false)
      → Releases c a m (names_in e.kind e.bytes) → ⊥)
      → RestsOn (feed c a count m log) j
  rests_fed rests back p is nb nz =
      let w = was (feed_cases c a count m f l log j lt) p is nb in
      let o = rests w.promise w.is w.begun (λ q. nz (sym w.names ∙ q)) in
      subst (Earlier (feed c a count m log) j) w.names
      (earlier_fed o (back w.promise w.is w.begun o.before
      (λ q e. ap (λ (y : Promise). y.begun) (some_inj (sym e ∙ is)) ∙ nb)))

-- a force releases none
rests_forced : (st : State) (c : Call) (a : Reply Granted) (count m : ℕ) (log : AbstractLog) (j : ℕ)
    → InStretch st j c a → NamesEarlier log j → RestsOn (feed c a count m log) j
rests_forced st _ _ count m log j (in_stretch {k} {frequency} lo hi) names =
    rests_fed _ _ count m (suc j) tt log j (omega arith) (λ p is nb nz. names p is nz) (λ e is nb l nb' x. x)

module _ (s : System) {ran : RunLog} (i : Inv s ran) (rests : (j : ℕ) → j < i.quiet.frame.firm → RestsOn s.log j)
    (g : GoesOn) (words m : ℕ) (c : Call)
    (names : (j : ℕ) → InStretch s.state j c (effect_in s g c words).reply → NamesEarlier s.log j) where
  rests_on : (j : ℕ) → (j < i.quiet.frame.firm) ⊎ InStretch s.state j c (effect_in s g c words).reply
      → RestsOn (fed_by s g words m c) j
  rests_on j (inl l) = rests_fed c _ _ m _ (late_in s i words g c) s.log j l (rests j l)
      (λ e is nb lt nb' x. not_back s i
      (record { promise = e; is = is; begun = nb; committed = l; before = lt; names = refl }) g words m c nb' x)
  rests_on j (inr h) = rests_forced s.state c _ _ m s.log j h (names j h)

pub rests_after : (e : Event) (s : System) {ran ran' : RunLog} (i : Inv s ran) (i' : Inv (after e s) ran')
    → ((j : ℕ) → j < i'.quiet.frame.firm → (j < i.quiet.frame.firm) ⊎ Forces e s j)
    → ((j : ℕ) → j < i.quiet.frame.firm → RestsOn s.log j) → ((j : ℕ) → Forces e s j → NamesEarlier s.log j)
    → (j : ℕ) → j < i'.quiet.frame.firm → RestsOn (after e s).log j
unfolding after
rests_after (call g c words) s i i' moved rests names j l = rests_on s i rests g words _ c names j (moved j l)
rests_after (crash c words carried image) s i i' moved rests names j l =
    rests_on s i rests with_held words carried c names j (moved j l)

all_begun : (es : List Event) (s : System) (ran : RunLog) (i : Inv s ran) → AllFit es s → ForcesInspected es s
    → ((j : ℕ) → j < i.quiet.frame.firm → RestsOn s.log j) → (j : ℕ)
    → is_one_of j (orphan_lsns (after_all es s).image (listed (scan (after_all es s).image).found)) ≡ true
    → ReleaseBegun (after_all es s).log j
unfolding after_all AllFit ForcesInspected
all_begun [] s ran i f names rests j h = printed_begun s i rests j h
all_begun (e ∷ es) s ran i f names rests j h =
    let i' = inv_after owed e s ran i f.0 in
    all_begun es (after e s) (ran_after e s ran) i' f.1 names.1
    (rests_after e s i i' (firm_after e s i f.0 i') rests names.0) j h

-- a log freshly formatted has no record
pub none_yet : (old : List ℕ) (words j : ℕ) (p : Promise) → (formatted old words).log j ≡ some p → ⊥
unfolding formatted
none_yet old words j p is = some_not_none is

pub orphans_begun : OrphansBegun
unfolding OrphansBegun
orphans_begun old words granted es f names =
    all_begun es (formatted old words) first_run (inv_formatted old words granted) f names
    (λ j l p is. absurd (none_yet old words j p is))
