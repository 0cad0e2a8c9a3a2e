-- A caller that reserves nothing itself and appends with F alone is disciplined: every turn of its is over at once.
-- Cites specs/AppendLoss.antt; LossTheorem.antt of loss.
use mathlib.Core.Path.{◌≡◌, refl, sym, subst}
use mathlib.Core.List.{[], ◌∷◌}
use mathlib.Core.Bool.{false, true≢false}
use Prim.Native.Nat.{ℕ}
use borrow.Author.Tests.{eq-eqb}
use Rattle.refusal.specs.Tests.{Reply, ok, refused}
use Rattle.journal.specs.Calls.{Call, reserve, copy, complete, force, release, release_all, recover}
use Rattle.journal.specs.CrashSafe.{System, with_held, call, crash, effect_in}
use Rattle.journal.specs.Effect.{Granted, done, reserved, durable, deferred}
use Rattle.append.specs.AppendSafe.{AppendEvent, event, append, append_crash, append_in, after_append}
use Rattle.loss.specs.LossBound.{Turn, free, turn_reply, turn_after}
use Rattle.loss.proofs.LossTheorem.{in_turn}
use Rattle.append_loss.specs.AppendLoss.{turn_answered, turn_append, turn_appends, AnsweredInTurn, AppendInTurn, DisciplinedAppendsFrom, is_reserve, AppendsWith, AllAppendWith, AppendersDisciplined}

pub answered_free : (reply : Reply Granted) → AnsweredInTurn reply free
answered_free (ok a) = refl
answered_free (refused w) = tt

event_free : (e : AppendEvent) (s : System) → AppendInTurn e s free
event_free (event (call g c words)) s = in_turn c (effect_in s g c words).reply
event_free (event (crash c words n image)) s = in_turn c (effect_in s with_held c words).reply
event_free (append kind bytes frequency words) s = answered_free (append_in s kind bytes frequency words).reply
event_free (append_crash kind bytes frequency words n image) s =
    answered_free (append_in s kind bytes frequency words).reply

-- what is no reserve opens no turn
call_over : (F : ℕ) (c : Call) (reply : Reply Granted) → is_reserve c ≡ false → turn_reply F c reply free ≡ free
call_over F c (refused w) h = refl
call_over F (reserve kind len) (ok a) h = absurd (true≢false h)
call_over F (copy k offset bytes) (ok a) h = refl
call_over F (complete k) (ok a) h = refl
call_over F (force k frequency) (ok a) h = refl
call_over F (release k) (ok a) h = refl
call_over F release_all (ok a) h = refl
call_over F recover (ok a) h = refl

-- an append with F ends its own
append_over : (F frequency : ℕ) (reply : Reply Granted) → frequency ≡ F → turn_answered F frequency reply free ≡ free
append_over F frequency (ok (reserved lsn d)) h =
    subst (λ (G : ℕ). turn_answered G frequency (ok (reserved lsn d)) free ≡ free) h
    (rw (eq-eqb frequency frequency refl))
append_over F frequency (ok done) h = refl
append_over F frequency (ok durable) h = refl
append_over F frequency (ok deferred) h = refl
append_over F frequency (refused w) h = refl

event_over : (F : ℕ) (e : AppendEvent) (s : System) → AppendsWith F e → turn_append F e s free ≡ free
unfolding turn_append turn_after
event_over F (event (call g c words)) s h = call_over F c (effect_in s g c words).reply h
event_over F (event (crash c words n image)) s h = refl
event_over F (append kind bytes frequency words) s h =
    append_over F frequency (append_in s kind bytes frequency words).reply h
event_over F (append_crash kind bytes frequency words n image) s h = refl

pub appenders_disciplined : AppendersDisciplined
unfolding AppendersDisciplined AllAppendWith DisciplinedAppendsFrom turn_appends
appenders_disciplined F [] h s = (tt, refl)
appenders_disciplined F (e ∷ es) h s =
    let o = sym (event_over F e s h.0) in
    let r = appenders_disciplined F es h.1 (after_append e s) in (
      (event_free e s, subst (DisciplinedAppendsFrom F es (after_append e s)) o r.0),
      subst (λ (t : Turn). turn_appends F es (after_append e s) t ≡ free) o r.1,
    )
