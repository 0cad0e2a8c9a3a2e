-- With append among the calls at most F of the records completed since the last recovery are missing, the newest ones.
-- Cites specs/AppendLoss.antt, TurnLaws.antt, AppenderLaws.antt, NewestLaws.antt; LossTheorem.antt of loss,
-- AppendTheorem.antt of append.
use mathlib.Core.Path.{◌≡◌, refl, sym, ◌∙◌, ap, subst}
use mathlib.Core.List.{List, []}
use mathlib.Core.Bool.{false, false≢true}
use Prim.Native.Nat.{ℕ, ◌-◌, ◌≤◌, ◌<◌}
use native.Mathlib.Omega.{arith}
use lib.ListN.{length, take}
use borrow.Author.Tests.{not-true}
use Rattle.refusal.specs.Tests.{ok}
use Rattle.device.specs.Crash.{Device, carry, CrashImage}
use Rattle.device.proofs.CrashLaws.{shows_all}
use Rattle.journal.specs.Calls.{Call, recover}
use Rattle.journal.specs.CrashSafe.{System, with_held, call, crash, effect_in, after, Fits, after_all, formatted}
use Rattle.journal.specs.Effect.{done, Effect, no_state}
use Rattle.journal.specs.Recover.{format_effect}
use Rattle.journal.specs.RunLog.{first_run}
use Rattle.journal.proofs.CrashFormat.{inv_formatted}
use Rattle.journal.proofs.CrashRecover.{recovery_feeds}
use Rattle.journal.proofs.Invariant.{Inv, inv_after}
use Rattle.journal.proofs.Theorem.{owed}
use Rattle.append.specs.AppendSafe.{AppendEvent, event, append, append_crash, append_in, feed_append, after_append, FitsAppend, after_appends, AllFitAppend}
use Rattle.append.proofs.ReachLaws.{Went, along, along_append}
use Rattle.append.proofs.AppendSteps.{with_device, Goes, failed_as}
use Rattle.append.proofs.AppendTheorem.{append_went, appends_went, call_below, crash_fits, note_went, inv_reached, goes_event, goes_on, goes_all}
use Rattle.append.proofs.BelowLaws.{below_same}
use Rattle.append.proofs.FourTheorem.{Came, refused-for, late, due, came}
use Rattle.loss.specs.LossBound.{since, free, Disciplined, LosesAtMost, LossBound, LossBoundSince, is_complete, LossBoundForced}
use Rattle.loss.proofs.LossTheorem.{loss_bound, loss_bound_since, loss_bound_forced}
use Rattle.append_loss.specs.AppendLoss.{since_answered, since_append, since_appends, turn_appends, DisciplinedAppends, AppendLossBound, AppendLossBoundSince, AppendLossBoundForced}
use Rattle.append_loss.proofs.AppenderLaws.{answered_free}
use Rattle.append_loss.proofs.NewestLaws.{loses_same, loses_older}
use Rattle.append_loss.proofs.TurnLaws.{since_went, turn_went, AllInTurn, since_along, turn_along, disciplined_along, in_turn_append, since_event, since_appends_lem, turn_appends_lem, event_in_turn, appends_in_turn}

-- ---------------------------------------------------------------- the events of demand 3 that lead where these lead
module _ (F : ℕ) {s t : System} {d : Device} {ws : List Went} (g : Goes s d ws t) where
  goes_disciplined : AllInTurn F ws free → Disciplined F g.reach.events (with_device d s)
  goes_disciplined h = disciplined_along F g.reach.events (with_device d s) free
      (subst (λ (vs : List Went). AllInTurn F vs free) (sym g.reach.goes) h)

  goes_since : since g.reach.events (with_device d s) [] ≡ along since_went ws []
  goes_since = since_along g.reach.events (with_device d s) []
      ∙ ap (λ (vs : List Went). along since_went vs []) g.reach.goes

  goes-loses
      : LosesAtMost F (after_all g.reach.events (with_device d s)) (since g.reach.events (with_device d s) [])
      → LosesAtMost F t (along since_went ws [])
  goes-loses l =
      loses_same (with_device g.device t) t refl refl (along since_went ws []) (rw (g.reach.there, goes_since) at l)

-- ---------------------------------------------------------------- from a log freshly formatted
module _ (old : List ℕ) (words : ℕ) (granted : (format_effect no_state old words).reply ≡ ok done) where
  abbrev s : System
  s = formatted old words

  first_inv : Inv (formatted old words) first_run
  first_inv = inv_formatted old words granted

  first_goes : (es : List AppendEvent) → AllFitAppend es s → Goes s s.device (appends_went es s) (after_appends es s)
  first_goes es f = goes_all es s s.device first_inv (below_same _ s.device) first_inv.shows f

  first_loses : (F : ℕ) → 1 ≤ F → {t : System} {ws : List Went} → Goes s s.device ws t → AllInTurn F ws free
      → LosesAtMost F t (along since_went ws [])
  unfolding LossBound
  first_loses F some-F g h = goes-loses F g
      (loss_bound old words granted F some-F g.reach.events g.reach.fit (goes_disciplined F g h))

  -- -------------------------------------------------------------- where every force is over
  module _ (es : List AppendEvent) (f : AllFitAppend es (formatted old words)) (F : ℕ) (some-F : 1 ≤ F)
      (h : DisciplinedAppends F es (formatted old words))
      (over : turn_appends F es (formatted old words) free ≡ free) where
    abbrev t : System
    t = after_appends es s

    abbrev ks : List ℕ
    ks = since_appends es s []

    g : Goes s s.device (appends_went es s) t
    g = first_goes es f

    there-inv : Inv (with_device g.device t) (along note_went (appends_went es s) first_run)
    there-inv = inv_reached first_inv g.reach

    -- power fails in a call of demand 3 that is no complete
    forced-crash : 0 < t.state.area → (c : Call) (buffer carried : ℕ) (image : List ℕ)
        → Fits (crash c buffer carried image) t → is_complete c ≡ false
        → LosesAtMost (F - 1) (after (crash c buffer carried image) t) ks
    unfolding LossBoundForced after
    forced-crash area c buffer carried image fits other =
        rw (g.reach.there, goes_since F g, since_appends_lem) at
        (loss_bound_forced old words granted g.reach.events g.reach.fit F some-F
        (goes_disciplined F g (appends_in_turn F es s free h))
        (turn_along F g.reach.events s free
        ∙ ap (λ (ws : List Went). along (turn_went F) ws free) g.reach.goes ∙ turn_appends_lem F es s free ∙ over)
        (rw g.reach.there area) c buffer carried image
        (rw g.reach.there (crash_fits t g.device there-inv g.below g.shows c buffer carried image fits))
        other)

    -- power fails in an append: its own record is the newest
    module _ (kind : ℕ) (bytes : List ℕ) (frequency buffer carried : ℕ) (image : List ℕ) where
      abbrev e : AppendEvent
      e = append_crash kind bytes frequency buffer carried image

      all-loses : FitsAppend e t → LosesAtMost F (after_append e t) (since_append e t ks)
      all-loses fits =
          rw (along_append since_went (appends_went es s) (append_went e t) [], since_appends_lem, since_event e t ks)
          at
          (first_loses F some-F
          (goes_on g (goes_event t g.device there-inv g.below g.shows e fits))
          (in_turn_append F (appends_went es s) (append_went e t) free (appends_in_turn F es s free h)
          (subst (AllInTurn F (append_went e t)) (sym (turn_appends_lem F es s free ∙ over))
          (event_in_turn F e t free (answered_free (append_in t kind bytes frequency buffer).reply)))))

      forced-append : 0 < t.state.area → FitsAppend e t → LosesAtMost (F - 1) (after_append e t) ks
      unfolding after_append since_append after feed_append carry
      forced-append area fits =
          go (came t.state t.image buffer kind bytes frequency) fits.2 fits.3 (all-loses fits)
        where
          go : {o : Effect} → Came t.state t.image buffer kind bytes frequency o → carried ≤ length o.ops
              → CrashImage (carry (take carried o.ops) t.device) (length t.image) image
              → LosesAtMost F (failed_as kind bytes frequency o carried image t) (since_answered o.reply ks)
              → LosesAtMost (F - 1) (failed_as kind bytes frequency o carried image t) ks
          go (refused-for w) l ci lost =
              let none : carried ≡ 0 = omega arith in
              let o = effect_in t with_held recover 0 in
              loses_same (after (crash recover 0 0 image) t) _ refl
              (recovery_feeds o.reply (length o.ops) 0 t.log) ks
              (forced-crash area recover 0 0 image (tt, λ x. refl, omega arith, rw none at ci) refl)
          go (late ps d l) m ci lost = loses_older some-F _ t.state.next_lsn ks lost
          go (due ps d p) m ci lost = loses_older some-F _ t.state.next_lsn ks lost

-- ---------------------------------------------------------------- the theorems
pub append_loss_bound : AppendLossBound
unfolding AppendLossBound
append_loss_bound old words granted F some-F es f h = let s = formatted old words in
    rw since_appends_lem at (first_loses old words granted F some-F (first_goes old words granted es f)
    (appends_in_turn F es s free h))

pub append_loss_bound_since : AppendLossBoundSince
unfolding AppendLossBoundSince LossBoundSince after
append_loss_bound_since old words granted es f s is g buffer h F some-F later fits d =
    let a : Goes (formatted old words) (formatted old words).device (appends_went es (formatted old words)) s =
    rw is (first_goes old words granted es f) in
    let i = inv_reached (first_inv old words granted) a.reach in
    let e = call g recover buffer in
    let o = effect_in s g recover buffer in
    let b = goes_all later (after e s) (carry o.ops a.device)
    (inv_after owed e (with_device a.device s) _ i (tt, λ x. refl))
    (call_below s a.device i a.below a.shows g recover buffer)
    (shows_all o.ops s.image s.device a.shows) fits in
    rw since_appends_lem at (goes-loses F b
    (loss_bound_since old words granted a.reach.events a.reach.fit (with_device a.device s)
    (sym a.reach.there) g buffer h F some-F b.reach.events b.reach.fit
    (goes_disciplined F b (appends_in_turn F later (after e s) free d))))

pub append_loss_bound_forced : AppendLossBoundForced
unfolding AppendLossBoundForced after_append
append_loss_bound_forced old words granted es f F some-F h over area (event (call g c buffer)) fits fails =
    absurd (false≢true fails)
append_loss_bound_forced old words granted es f F some-F h over area (event (crash c buffer carried image)) fits fails =
    forced-crash old words granted es f F some-F h over area c buffer carried image fits
    (not-true (is_complete c) fails)
append_loss_bound_forced old words granted es f F some-F h over area (append kind bytes frequency buffer) fits fails =
    absurd (false≢true fails)
append_loss_bound_forced old words granted es f F some-F h over area
    (append_crash kind bytes frequency buffer carried image) fits fails =
    forced-append old words granted es f F some-F h over kind bytes frequency buffer carried image area fits
