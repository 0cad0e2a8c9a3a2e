-- What OrphansBegun asks of events follows from how their calls went, and what AppendOrphansBegun asks of an append,
-- from how the calls went that it is.
-- Cites specs/AppendOrphansBegun.antt; ReachLaws.antt, AppendSteps.antt, AppendTheorem.antt of append.
use mathlib.Core.Path.{◌≡◌, refl, sym, ◌∙◌}
use mathlib.Core.List.{List, [], ◌∷◌}
use mathlib.Core.Bool.{Bool, true, false, false≢true}
use Prim.Native.Nat.{ℕ}
use lib.ListN.{length}
use Rattle.refusal.specs.Tests.{Reply, ok, refused}
use Rattle.state.specs.declared.State.{State}
use Rattle.journal.specs.AbstractLog.{AbstractLog, feed_granted, feed}
use Rattle.journal.specs.Append.{reserve_state, complete_state}
use Rattle.journal.specs.Calls.{Call, reserve, copy, complete, force, release, release_all, recover}
use Rattle.journal.specs.CrashSafe.{System, Event, call, crash, after}
use Rattle.journal.specs.Effect.{Granted, done, reserved, durable, deferred}
use Rattle.append.specs.AppendCall.{recorded_state}
use Rattle.append.specs.AppendSafe.{AppendEvent, event, append, append_crash, append_in, feed_recorded}
use Rattle.append.proofs.AppendSteps.{none_went, reply_went}
use Rattle.append.proofs.AppendTheorem.{append_went}
use Rattle.append.proofs.ReachLaws.{Went, went, went_all}
use Rattle.inspections.specs.OrphansBegun.{InStretch, in_stretch, NamesEarlier, ForcesInspected}
use Rattle.append_inspections.specs.AppendOrphansBegun.{AnsweredInspected, EventInspected}

-- at each call whose answer is a granted force's, by the abstract log before it, however many ops the earlier ones had
unfoldable pub WentInspected : List Went → AbstractLog → Type 0
WentInspected [] log = Unit {0}
WentInspected (went whole c reply st ∷ ws) log =
    ((j : ℕ) → InStretch st j c reply → NamesEarlier log j)
    × ((count carried : ℕ) → WentInspected ws (feed c reply count carried log))

pub inspected_along : (es : List Event) (s : System) → WentInspected (went_all es s) s.log → ForcesInspected es s
unfolding ForcesInspected WentInspected went_all after
inspected_along [] s h = tt
inspected_along (call g c words ∷ es) s h = (h.0, inspected_along es (after (call g c words) s) (h.1 _ _))
inspected_along (crash c words carried image ∷ es) s h =
    (h.0, inspected_along es (after (crash c words carried image) s) (h.1 _ _))

-- ---------------------------------------------------------------- a stretch
-- only a force has one
abbrev pub is_force : Call → Bool
is_force (force k frequency) = true
is_force (reserve kind len) = false
is_force (copy k offset bytes) = false
is_force (complete k) = false
is_force (release k) = false
is_force release_all = false
is_force recover = false

stretch_forces : {st : State} {j : ℕ} {c : Call} {reply : Reply Granted} → InStretch st j c reply → is_force c ≡ true
stretch_forces (in_stretch lo hi) = refl

pub none_else : {st : State} {j : ℕ} {c : Call} {reply : Reply Granted} {log : AbstractLog} → is_force c ≡ false
    → InStretch st j c reply → NamesEarlier log j
none_else h x = absurd (false≢true (sym h ∙ stretch_forces x))

-- the record that append completes moves no committed LSN
stretch_recorded : (s : State) (kind len : ℕ) {j : ℕ} {c : Call} {reply : Reply Granted}
    → InStretch (recorded_state s kind len) j c reply → InStretch s j c reply
unfolding recorded_state complete_state reserve_state
stretch_recorded s kind len (in_stretch lo hi) = in_stretch lo hi

-- ---------------------------------------------------------------- append
none_inspected : (whole : Bool) (s : System) (log : AbstractLog) → WentInspected (none_went whole s) log
unfolding WentInspected
none_inspected true s log = tt
none_inspected false s log = (λ j x. none_else refl x, λ count carried. tt)

module _ (whole : Bool) (kind : ℕ) (bytes : List ℕ) (frequency : ℕ) where
  reply_inspected : (reply : Reply Granted) (s : System) → AnsweredInspected kind bytes frequency reply s
      → WentInspected (reply_went whole kind bytes frequency reply s) s.log
  unfolding WentInspected feed feed_granted feed_recorded
  reply_inspected (ok (reserved lsn d)) s h = (
    λ j x. none_else refl x,
    λ a b. (
      λ j x. none_else refl x,
      λ a b. (
        λ j x. none_else refl x,
        λ a b. (
          λ j x. h j (stretch_recorded s.state kind (length bytes) x),
          λ a b. tt,
        ),
      ),
    ),
  )
  reply_inspected (ok done) s h = none_inspected whole s s.log
  reply_inspected (ok durable) s h = none_inspected whole s s.log
  reply_inspected (ok deferred) s h = none_inspected whole s s.log
  reply_inspected (refused w) s h = none_inspected whole s s.log

pub event_inspected : (e : AppendEvent) (s : System) → EventInspected e s → WentInspected (append_went e s) s.log
unfolding WentInspected
event_inspected (event (call g c words)) s h = (h, λ count carried. tt)
event_inspected (event (crash c words carried image)) s h = (h, λ count carried. tt)
event_inspected (append kind bytes frequency words) s h =
    reply_inspected true kind bytes frequency (append_in s kind bytes frequency words).reply s h
event_inspected (append_crash kind bytes frequency words carried image) s h =
    reply_inspected false kind bytes frequency (append_in s kind bytes frequency words).reply s h
