-- A replacement and its inspection stay listed: each event leaves both durable with no release begun, since a release
-- of the inspection is refused. Cites FedLaws.antt, HeldLaws.antt, and the invariant of the crash theorem.
use mathlib.Core.Path.{◌≡◌, ◌∙◌}
use mathlib.Core.List.{List, [], ◌∷◌}
use mathlib.Core.Bool.{false, true≢false}
use mathlib.Core.Option.{some}
use Prim.Native.Nat.{ℕ, ◌<◌}
use lib.ListN.{length}
use Rattle.scan.specs.Listed.{Listed}
use Rattle.journal.specs.AbstractLog.{Promise, as_begun}
use Rattle.journal.specs.Calls.{Call}
use Rattle.journal.specs.CrashSafe.{System, Event, GoesOn, with_held, call, crash, effect_in, after, after_all, AllFit, formatted}
use Rattle.journal.specs.RunLog.{RunLog, first_run, ran_after}
use Rattle.journal.proofs.CrashFormat.{inv_formatted}
use Rattle.journal.proofs.Invariant.{Inv, inv_after, inv_after_all, inv_recovers}
use Rattle.journal.proofs.Theorem.{owed}
use Rattle.inspections.specs.PairStays.{StillDurable, NeverBegun, Rests, PairStays}
use Rattle.inspections.proofs.FedLaws.{fed_by, feed_cases, still, still_names, late_in}
use Rattle.inspections.proofs.HeldLaws.{Holds, not_back}

module _ (s : System) {ran : RunLog} (i : Inv s ran) {j n : ℕ} (r : Rests s.log j n) where
  -- both are among the committed ones
  firm : (k : ℕ) → StillDurable s.log k → k < i.quiet.frame.firm
  firm k a = i.quiet.zoned.keeps k a.promise a.is a.durable a.begun

  holding : Holds s.log i.quiet.frame.firm j n
  holding = let a = r.replacement in record {
    promise = a.promise;
    is = a.is;
    begun = a.begun;
    committed = firm j a;
    before = r.before;
    names = r.names;
  }

module _ (s : System) {ran : RunLog} (i : Inv s ran) {j n : ℕ} (r : Rests s.log j n) (g : GoesOn) (words m : ℕ) where
  -- each event leaves both
  rests_on : (c : Call) → ((p : Promise) → fed_by s g words m c j ≡ some p → p.begun ≡ false)
      → Rests (fed_by s g words m c) j n
  rests_on c nb =
      let o = effect_in s g c words in
      let a = r.replacement in
      let b = r.inspection in
      let l = late_in s i words g c in
      let x = still a.is (feed_cases c o.reply (length o.ops) m _ l s.log j (firm s i r j a))
      (λ y e. true≢false (nb (as_begun a.promise) e)) in
      let y = still b.is (feed_cases c o.reply (length o.ops) m _ l s.log n (firm s i r n b))
      (λ z e. not_back s i (holding s i r) g words m c nb z) in record {
        replacement = record {
          promise = x.promise;
          is = x.is;
          durable = x.durable a.durable;
          begun = x.begun ∙ a.begun;
        };
        inspection = record {
          promise = y.promise;
          is = y.is;
          durable = y.durable b.durable;
          begun = y.begun ∙ b.begun;
        };
        before = r.before;
        names = still_names x ∙ r.names;
      }

pub rests_after : (e : Event) (s : System) {ran : RunLog} (i : Inv s ran) {j n : ℕ} → Rests s.log j n
    → ((p : Promise) → (after e s).log j ≡ some p → p.begun ≡ false) → Rests (after e s).log j n
unfolding after
rests_after (call g c words) s i r nb = rests_on s i r g words _ c nb
rests_after (crash c words carried image) s i r nb = rests_on s i r with_held words carried c nb

pub stay_listed : (later : List Event) (s : System) (ran : RunLog) → Inv s ran → AllFit later s → {j n : ℕ}
    → Rests s.log j n → NeverBegun j later s
    → Listed j (after_all later s).image × Listed n (after_all later s).image
unfolding after_all AllFit NeverBegun
stay_listed [] s ran i f {j} {n} r nb =
    let a = r.replacement in
    let b = r.inspection in
    let owed-next = inv_recovers s i in (
      owed-next.listed j a.promise a.is a.durable a.begun,
      owed-next.listed n b.promise b.is b.durable b.begun,
    )
stay_listed (e ∷ es) s ran i f r nb =
    stay_listed es (after e s) (ran_after e s ran) (inv_after owed e s ran i f.0) f.1
    (rests_after e s i r nb.0) nb.1

pub pair_stays : PairStays
unfolding PairStays
pair_stays old words granted es f j n r later g nb =
    stay_listed later (after_all es (formatted old words)) _
    (inv_after_all owed es (formatted old words) first_run (inv_formatted old words granted) f) g r nb
