-- What LossBound tells of events follows from how their calls went; and what AppendLoss tells of appends, from how the
-- calls went that each append is.
-- Cites specs/AppendLoss.antt; LossBound.antt of loss; ReachLaws.antt, AppendSteps.antt, AppendTheorem.antt of append.
use mathlib.Core.Path.{◌≡◌, refl, sym, ◌∙◌, ap, subst}
use mathlib.Core.List.{List, [], ◌∷◌, ◌++◌}
use mathlib.Core.Bool.{Bool, true, false, cond}
use Prim.Native.Nat.{ℕ}
use borrow.Author.Tests.{eq-eqb}
use Rattle.refusal.specs.Tests.{Reply, ok, refused}
use Rattle.journal.specs.Calls.{recover}
use Rattle.journal.specs.CrashSafe.{System, Event, with_held, call, crash, effect_in, after}
use Rattle.journal.specs.Effect.{Granted, done, reserved, durable, deferred}
use Rattle.loss.specs.LossBound.{since_reply, since_after, since, Turn, free, turn_reply, turn_after, turn_after_all, InTurn, DisciplinedFrom}
use Rattle.append.specs.AppendSafe.{AppendEvent, event, append, append_crash, append_in, after_append}
use Rattle.append.proofs.ReachLaws.{Went, went, went_all, along, along_append}
use Rattle.append.proofs.AppendSteps.{none_went, reply_went}
use Rattle.append.proofs.AppendTheorem.{append_went, appends_went}
use Rattle.append_loss.specs.AppendLoss.{since_answered, since_append, since_appends, turn_answered, turn_append, turn_appends, AnsweredInTurn, AppendInTurn, DisciplinedAppendsFrom}

-- ---------------------------------------------------------------- told of calls by how they went
abbrev pub since_went : Went → List ℕ → List ℕ
since_went (went whole c reply s) ks = since_reply whole c reply ks

abbrev pub turn_went : ℕ → Went → Turn → Turn
turn_went F (went whole c reply s) t = cond whole (turn_reply F c reply t) free

abbrev pub WentInTurn : Went → Turn → Type 0
WentInTurn (went whole c reply s) t = InTurn c reply t

unfoldable pub AllInTurn : ℕ → List Went → Turn → Type 0
AllInTurn F [] t = Unit {0}
AllInTurn F (w ∷ ws) t = WentInTurn w t × AllInTurn F ws (turn_went F w t)

pub since_along : (es : List Event) (s : System) (ks : List ℕ) → since es s ks ≡ along since_went (went_all es s) ks
unfolding since since_after went_all along
since_along [] s ks = refl
since_along (call g c words ∷ es) s ks = since_along es (after (call g c words) s) _
since_along (crash c words n image ∷ es) s ks = since_along es (after (crash c words n image) s) _

pub disciplined_along : (F : ℕ) (es : List Event) (s : System) (t : Turn) → AllInTurn F (went_all es s) t
    → DisciplinedFrom F es s t
unfolding DisciplinedFrom AllInTurn turn_after went_all
disciplined_along F [] s t h = tt
disciplined_along F (call g c words ∷ es) s t h =
    (h.0, disciplined_along F es (after (call g c words) s) _ h.1)
disciplined_along F (crash c words n image ∷ es) s t h =
    (h.0, disciplined_along F es (after (crash c words n image) s) free h.1)

pub turn_along : (F : ℕ) (es : List Event) (s : System) (t : Turn)
    → turn_after_all F es s t ≡ along (turn_went F) (went_all es s) t
unfolding turn_after_all turn_after went_all along
turn_along F [] s t = refl
turn_along F (call g c words ∷ es) s t = turn_along F es (after (call g c words) s) _
turn_along F (crash c words n image ∷ es) s t = turn_along F es (after (crash c words n image) s) free

pub in_turn_append : (F : ℕ) (vs ws : List Went) (t : Turn) → AllInTurn F vs t
    → AllInTurn F ws (along (turn_went F) vs t)
    → AllInTurn F (vs ++ ws) t
unfolding AllInTurn along
in_turn_append F [] ws t h k = k
in_turn_append F (v ∷ vs) ws t h k = (h.0, in_turn_append F vs ws (turn_went F v t) h.1 k)

-- ---------------------------------------------------------------- no call, and a power failure between two
since_none : (whole : Bool) (s : System) (ks : List ℕ) → along since_went (none_went whole s) ks ≡ ks
unfolding along
since_none true s ks = refl
since_none false s ks = go (effect_in s with_held recover 0).reply
  where
    go : (r : Reply Granted) → since_reply false recover r ks ≡ ks
    go (ok a) = refl
    go (refused w) = refl

none_in_turn : (F : ℕ) (whole : Bool) (s : System) (t : Turn) → AllInTurn F (none_went whole s) t
unfolding AllInTurn
none_in_turn F true s t = tt
none_in_turn F false s t = (tt, tt)

-- ---------------------------------------------------------------- append
module _ (kind : ℕ) (bytes : List ℕ) (frequency : ℕ) where
  since_reply_lem : (whole : Bool) (reply : Reply Granted) (s : System) (ks : List ℕ)
      → along since_went (reply_went whole kind bytes frequency reply s) ks ≡ since_answered reply ks
  unfolding along
  since_reply_lem whole (ok (reserved lsn d)) s ks = refl
  since_reply_lem whole (ok done) s ks = since_none whole s ks
  since_reply_lem whole (ok durable) s ks = since_none whole s ks
  since_reply_lem whole (ok deferred) s ks = since_none whole s ks
  since_reply_lem whole (refused w) s ks = since_none whole s ks

  module _ (F : ℕ) where
    turn-reply : (reply : Reply Granted) (s : System) (t : Turn)
        → along (turn_went F) (reply_went true kind bytes frequency reply s) t ≡ turn_answered F frequency reply t
    unfolding along
    turn-reply (ok (reserved lsn d)) s t = simp (eq-eqb lsn lsn refl)
    turn-reply (ok done) s t = refl
    turn-reply (ok durable) s t = refl
    turn-reply (ok deferred) s t = refl
    turn-reply (refused w) s t = refl

    turn-failed : (reply : Reply Granted) (s : System) (t : Turn)
        → along (turn_went F) (reply_went false kind bytes frequency reply s) t ≡ free
    unfolding along
    turn-failed (ok (reserved lsn d)) s t = refl
    turn-failed (ok done) s t = refl
    turn-failed (ok durable) s t = refl
    turn-failed (ok deferred) s t = refl
    turn-failed (refused w) s t = refl

    reply-in-turn : (whole : Bool) (reply : Reply Granted) (s : System) (t : Turn) → AnsweredInTurn reply t
        → AllInTurn F (reply_went whole kind bytes frequency reply s) t
    unfolding AllInTurn
    reply-in-turn whole (ok (reserved lsn d)) s t h = (h, (tt, (tt, (tt, tt))))
    reply-in-turn whole (ok done) s t h = none_in_turn F whole s t
    reply-in-turn whole (ok durable) s t h = none_in_turn F whole s t
    reply-in-turn whole (ok deferred) s t h = none_in_turn F whole s t
    reply-in-turn whole (refused w) s t h = none_in_turn F whole s t

-- ---------------------------------------------------------------- events with append among them
pub since_event : (e : AppendEvent) (s : System) (ks : List ℕ)
    → along since_went (append_went e s) ks ≡ since_append e s ks
unfolding along since_append since_after
since_event (event (call g c words)) s ks = refl
since_event (event (crash c words n image)) s ks = refl
since_event (append kind bytes frequency words) s ks =
    since_reply_lem kind bytes frequency true (append_in s kind bytes frequency words).reply s ks
since_event (append_crash kind bytes frequency words n image) s ks =
    since_reply_lem kind bytes frequency false (append_in s kind bytes frequency words).reply s ks

pub since_appends_lem : (es : List AppendEvent) (s : System) (ks : List ℕ)
    → along since_went (appends_went es s) ks ≡ since_appends es s ks
unfolding appends_went since_appends along
since_appends_lem [] s ks = refl
since_appends_lem (e ∷ es) s ks = along_append since_went (append_went e s) (appends_went es (after_append e s)) ks
    ∙ ap (along since_went (appends_went es (after_append e s))) (since_event e s ks)
    ∙ since_appends_lem es (after_append e s) (since_append e s ks)

module _ (F : ℕ) where
  turn_event : (e : AppendEvent) (s : System) (t : Turn) → along (turn_went F) (append_went e s) t ≡ turn_append F e s t
  unfolding along turn_append turn_after
  turn_event (event (call g c words)) s t = refl
  turn_event (event (crash c words n image)) s t = refl
  turn_event (append kind bytes frequency words) s t =
      turn-reply kind bytes frequency F (append_in s kind bytes frequency words).reply s t
  turn_event (append_crash kind bytes frequency words n image) s t =
      turn-failed kind bytes frequency F (append_in s kind bytes frequency words).reply s t

  pub turn_appends_lem : (es : List AppendEvent) (s : System) (t : Turn)
      → along (turn_went F) (appends_went es s) t ≡ turn_appends F es s t
  unfolding appends_went turn_appends along
  turn_appends_lem [] s t = refl
  turn_appends_lem (e ∷ es) s t = along_append (turn_went F) (append_went e s) (appends_went es (after_append e s)) t
      ∙ ap (along (turn_went F) (appends_went es (after_append e s))) (turn_event e s t)
      ∙ turn_appends_lem es (after_append e s) (turn_append F e s t)

  pub event_in_turn : (e : AppendEvent) (s : System) (t : Turn) → AppendInTurn e s t → AllInTurn F (append_went e s) t
  unfolding AllInTurn
  event_in_turn (event (call g c words)) s t h = (h, tt)
  event_in_turn (event (crash c words n image)) s t h = (h, tt)
  event_in_turn (append kind bytes frequency words) s t h =
      reply-in-turn kind bytes frequency F true (append_in s kind bytes frequency words).reply s t h
  event_in_turn (append_crash kind bytes frequency words n image) s t h =
      reply-in-turn kind bytes frequency F false (append_in s kind bytes frequency words).reply s t h

  pub appends_in_turn : (es : List AppendEvent) (s : System) (t : Turn) → DisciplinedAppendsFrom F es s t
      → AllInTurn F (appends_went es s) t
  unfolding DisciplinedAppendsFrom appends_went AllInTurn
  appends_in_turn [] s t h = tt
  appends_in_turn (e ∷ es) s t h =
      in_turn_append F (append_went e s) (appends_went es (after_append e s)) t (event_in_turn e s t h.0)
      (subst (AllInTurn F (appends_went es (after_append e s))) (sym (turn_event e s t))
      (appends_in_turn es (after_append e s) (turn_append F e s t) h.1))
