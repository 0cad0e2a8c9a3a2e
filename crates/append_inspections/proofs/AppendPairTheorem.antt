-- With append among the calls a replacement and its inspection stay listed: the calls that an append is begin no
-- release. Cites specs/AppendPairStays.antt; PairTheorem.antt and FedLaws.antt of inspections, AppendInvariant.antt of
-- append.
use mathlib.Core.Path.{◌≡◌, refl, ap, ◌∙◌, sym, subst}
use mathlib.Core.List.{List, [], ◌∷◌}
use mathlib.Core.Bool.{Bool, true, false}
use mathlib.Core.Option.{some}
use Prim.Native.Nat.{ℕ}
use lib.ListN.{length}
use Rattle.refusal.specs.Tests.{Reply, ok, refused}
use Rattle.scan.specs.Listed.{Listed}
use Rattle.journal.specs.AbstractLog.{Promise}
use Rattle.journal.specs.Calls.{Call}
use Rattle.journal.specs.CrashSafe.{System, Event, GoesOn, with_held, call, crash, effect_in, after, after_all, AllFit, formatted}
use Rattle.journal.specs.Effect.{Granted, done, reserved, durable, deferred}
use Rattle.journal.specs.RunLog.{RunLog, ran_after}
use Rattle.journal.proofs.CrashFormat.{inv_formatted}
use Rattle.journal.proofs.Invariant.{Inv, inv_after}
use Rattle.journal.proofs.Theorem.{owed}
use Rattle.journal.proofs.Zones.{some_inj}
use Rattle.append.specs.AppendSafe.{AppendEvent, event, append, append_crash, append_in, after_append, FitsAppend, after_appends, AllFitAppend}
use Rattle.append.proofs.AppendInvariant.{goes_from, inv_append, inv_appends}
use Rattle.append.proofs.AppendSteps.{none_went, reply_went, Goes}
use Rattle.append.proofs.ReachLaws.{Went, went, went_all}
use Rattle.inspections.specs.PairStays.{StillDurable, NeverBegun, Rests}
use Rattle.inspections.proofs.FedLaws.{fed_by, feed_cases, still, late_in, gives_back, begins_none}
use Rattle.inspections.proofs.PairTheorem.{rests_after, stay_listed}
use Rattle.append_inspections.specs.AppendPairStays.{NeverBegunAppends, AppendPairStays}

-- ---------------------------------------------------------------- calls that begin no release
unfoldable pub AllKeep : List Went → Type 0
AllKeep [] = Unit {0}
AllKeep (went whole c reply s ∷ ws) = (gives_back c ≡ false) × AllKeep ws

module _ (s : System) {ran : RunLog} (i : Inv s ran) {j : ℕ} (a : StillDurable s.log j) where
  none_begun : (g : GoesOn) (words m : ℕ) (c : Call) → gives_back c ≡ false → (p : Promise)
      → fed_by s g words m c j ≡ some p → p.begun ≡ false
  none_begun g words m c keeps p is =
      let o = effect_in s g c words in
      let x = still a.is
      (feed_cases c o.reply (length o.ops) m _ (late_in s i words g c) s.log j
      (i.quiet.zoned.keeps j a.promise a.is a.durable a.begun))
      (λ y e. begins_none c o.reply m j keeps y) in
      ap (λ (y : Promise). y.begun) (some_inj (sym is ∙ x.is)) ∙ x.begun ∙ a.begun

rests_kept : (es : List Event) (s : System) (ran : RunLog) → Inv s ran → AllFit es s → AllKeep (went_all es s)
    → {j n : ℕ} → Rests s.log j n → Rests (after_all es s).log j n
unfolding after_all AllFit AllKeep went_all after
rests_kept [] s ran i f k r = r
rests_kept (call g c words ∷ es) s ran i f k r =
    let e = call g c words in
    rests_kept es (after e s) (ran_after e s ran) (inv_after owed e s ran i f.0) f.1 k.1
    (rests_after e s i r (none_begun s i r.replacement g words _ c k.0))
rests_kept (crash c words carried image ∷ es) s ran i f k r =
    let e = crash c words carried image in
    rests_kept es (after e s) (ran_after e s ran) (inv_after owed e s ran i f.0) f.1 k.1
    (rests_after e s i r (none_begun s i r.replacement with_held words carried c k.0))

-- ---------------------------------------------------------------- append is such calls
none_keep : (whole : Bool) (s : System) → AllKeep (none_went whole s)
unfolding AllKeep
none_keep true s = tt
none_keep false s = (refl, tt)

module _ (whole : Bool) (kind : ℕ) (bytes : List ℕ) (frequency : ℕ) where
  reply_keeps : (reply : Reply Granted) (s : System) → AllKeep (reply_went whole kind bytes frequency reply s)
  unfolding AllKeep
  reply_keeps (ok (reserved lsn d)) s = (refl, (refl, (refl, (refl, tt))))
  reply_keeps (ok done) s = none_keep whole s
  reply_keeps (ok durable) s = none_keep whole s
  reply_keeps (ok deferred) s = none_keep whole s
  reply_keeps (refused w) s = none_keep whole s

-- ---------------------------------------------------------------- events with append among them
module _ (s : System) {x : RunLog} (i : Inv s x) {j n : ℕ} (r : Rests s.log j n) where
  rests_there : {t : System} {ws : List Went} → Goes s s.device ws t → AllKeep ws → Rests t.log j n
  rests_there g k = let h = g.reach in
      subst (λ (u : System). Rests u.log j n) h.there
      (rests_kept h.events s _ i h.fit (subst AllKeep (sym h.goes) k) r)

  rests_event : (e : AppendEvent) → FitsAppend e s
      → ((p : Promise) → (after_append e s).log j ≡ some p → p.begun ≡ false) → Rests (after_append e s).log j n
  unfolding after_append
  rests_event (event e) f nb = rests_after e s i r nb
  rests_event (append kind bytes frequency words) f nb =
      rests_there (goes_from (append kind bytes frequency words) s i f)
      (reply_keeps true kind bytes frequency (append_in s kind bytes frequency words).reply s)
  rests_event (append_crash kind bytes frequency words carried image) f nb =
      rests_there (goes_from (append_crash kind bytes frequency words carried image) s i f)
      (reply_keeps false kind bytes frequency (append_in s kind bytes frequency words).reply s)

both_stay : (later : List AppendEvent) (s : System) {x : RunLog} → Inv s x → AllFitAppend later s → {j n : ℕ}
    → Rests s.log j n → NeverBegunAppends j later s
    → Listed j (after_appends later s).image × Listed n (after_appends later s).image
unfolding after_appends AllFitAppend NeverBegunAppends after_all AllFit NeverBegun
both_stay [] s i f r nb = stay_listed [] s _ i tt r tt
both_stay (e ∷ es) s i f r nb =
    both_stay es (after_append e s) (inv_append e s i f.0) f.1 (rests_event s i r e f.0 nb.0) nb.1

pub append_pair_stays : AppendPairStays
unfolding AppendPairStays
append_pair_stays old words granted es f j n r later fits nb =
    both_stay later (after_appends es (formatted old words))
    (inv_appends es (formatted old words) (inv_formatted old words granted) f) fits r nb
