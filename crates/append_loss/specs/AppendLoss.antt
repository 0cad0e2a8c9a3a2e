-- How many can be lost (specs/LossBound.antt of loss), with append among the calls: in the runs of AppendSafe.antt of
-- append, "if each record is completed and then forced with the same F before the next is reserved, .. then at any cut
-- at most F of the records completed since the last take-up or the formatting, with no release of them begun, are
-- missing from the next one, and they are the newest". Append is reserve, copy, complete and force in turn.
use Rattle.std.specs.Prelude.{◌≡◌, List, [], ◌∷◌, Bool, true, false, cond, not, ℕ, ◌-◌, ◌≤◌, ◌<◌, length, eqb}
use Rattle.refusal.specs.Tests.{Reply, ok, refused}
use Rattle.journal.specs.Calls.{Call, reserve, copy, complete, force, release, release_all, recover}
use Rattle.journal.specs.CrashSafe.{System, GoesOn, call, crash, effect_in, after, formatted}
use Rattle.journal.specs.Effect.{Granted, done, reserved, durable, deferred, no_state}
use Rattle.journal.specs.Recover.{format_effect}
use Rattle.append.specs.AppendSafe.{AppendEvent, event, append, append_crash, append_in, after_append, FitsAppend, after_appends, AllFitAppend}
use Rattle.loss.specs.LossBound.{since_after, Turn, free, completed, turn_after, EventInTurn, missing, LosesAtMost, is_complete}

-- since ---------------------------------------------------------------------------------------------------------------
-- append completes its record, which counts even if power fails in it
abbrev pub since_appended : Granted → List ℕ → List ℕ
since_appended (reserved lsn d) ks = lsn ∷ ks
since_appended done ks = ks
since_appended durable ks = ks
since_appended deferred ks = ks

-- refused it changes nothing
abbrev pub since_answered : Reply Granted → List ℕ → List ℕ
since_answered (ok a) ks = since_appended a ks
since_answered (refused w) ks = ks

unfoldable pub since_append : AppendEvent → System → List ℕ → List ℕ
since_append (event e) s ks = since_after e s ks
since_append (append kind bytes frequency words) s ks =
    since_answered (append_in s kind bytes frequency words).reply ks
since_append (append_crash kind bytes frequency words carried image) s ks =
    since_answered (append_in s kind bytes frequency words).reply ks

unfoldable pub since_appends : List AppendEvent → System → List ℕ → List ℕ
since_appends [] s ks = ks
since_appends (e ∷ es) s ks = since_appends es (after_append e s) (since_append e s ks)

-- disciplined ---------------------------------------------------------------------------------------------------------
-- append completes its record and then forces it: with F its turn is over; with another frequency it is completed, and
-- not yet forced with F
abbrev pub turn_appended : ℕ → ℕ → Granted → Turn → Turn
turn_appended F frequency (reserved lsn d) t = cond (eqb frequency F) free (completed lsn)
turn_appended F frequency done t = t
turn_appended F frequency durable t = t
turn_appended F frequency deferred t = t

abbrev pub turn_answered : ℕ → ℕ → Reply Granted → Turn → Turn
turn_answered F frequency (ok a) t = turn_appended F frequency a t
turn_answered F frequency (refused w) t = t

-- "save where a cut comes between"
unfoldable pub turn_append : ℕ → AppendEvent → System → Turn → Turn
turn_append F (event e) s t = turn_after F e s t
turn_append F (append kind bytes frequency words) s t =
    turn_answered F frequency (append_in s kind bytes frequency words).reply t
turn_append F (append_crash kind bytes frequency words carried image) s t = free

unfoldable pub turn_appends : ℕ → List AppendEvent → System → Turn → Turn
turn_appends F [] s t = t
turn_appends F (e ∷ es) s t = turn_appends F es (after_append e s) (turn_append F e s t)

-- ".. before the next is reserved": a granted append reserves
abbrev pub AnsweredInTurn : Reply Granted → Turn → Type 0
AnsweredInTurn (ok a) t = t ≡ free
AnsweredInTurn (refused w) t = Unit {0}

abbrev pub AppendInTurn : AppendEvent → System → Turn → Type 0
AppendInTurn (event e) s t = EventInTurn e s t
AppendInTurn (append kind bytes frequency words) s t =
    AnsweredInTurn (append_in s kind bytes frequency words).reply t
AppendInTurn (append_crash kind bytes frequency words carried image) s t =
    AnsweredInTurn (append_in s kind bytes frequency words).reply t

unfoldable pub DisciplinedAppendsFrom : ℕ → List AppendEvent → System → Turn → Type 0
DisciplinedAppendsFrom F [] s t = Unit {0}
DisciplinedAppendsFrom F (e ∷ es) s t =
    AppendInTurn e s t × DisciplinedAppendsFrom F es (after_append e s) (turn_append F e s t)

abbrev pub DisciplinedAppends : ℕ → List AppendEvent → System → Type 0
DisciplinedAppends F es s = DisciplinedAppendsFrom F es s free

-- the claim -----------------------------------------------------------------------------------------------------------
-- after every list of events on a freshly formatted log, the last of them a power failure or not, in an append or
-- elsewhere
unfoldable pub AppendLossBound : Type 0
AppendLossBound =
    (old : List ℕ) (words : ℕ) → (format_effect no_state old words).reply ≡ ok done
    → (F : ℕ) → 1 ≤ F → (es : List AppendEvent) → AllFitAppend es (formatted old words)
    → DisciplinedAppends F es (formatted old words)
    → LosesAtMost F (after_appends es (formatted old words)) (since_appends es (formatted old words) [])

-- "It holds over restarts": whatever came before a recovery that succeeded, all its ops carried out, disciplined or not
-- and with whatever frequency, the F of the discipline since then bounds
unfoldable pub AppendLossBoundSince : Type 0
AppendLossBoundSince =
    (old : List ℕ) (words : ℕ) → (format_effect no_state old words).reply ≡ ok done
    → (es : List AppendEvent) → AllFitAppend es (formatted old words)
    → (s : System) → s ≡ after_appends es (formatted old words)
    → (g : GoesOn) (buffer : ℕ) → (effect_in s g recover buffer).reply ≡ ok done
    → (F : ℕ) → 1 ≤ F → (later : List AppendEvent) → AllFitAppend later (after (call g recover buffer) s)
    → DisciplinedAppends F later (after (call g recover buffer) s)
    → LosesAtMost F (after_appends later (after (call g recover buffer) s))
    (since_appends later (after (call g recover buffer) s) [])

-- a power failure, in an append or in a call that is no complete
abbrev pub is_failure : AppendEvent → Bool
is_failure (event (call g c words)) = false
is_failure (event (crash c words carried image)) = not (is_complete c)
is_failure (append kind bytes frequency words) = false
is_failure (append_crash kind bytes frequency words carried image) = true

-- where a state is held and the newest record's own force is over, one fewer is lost of those that were completed
-- before the call in which power fails: of those whose append has returned
unfoldable pub AppendLossBoundForced : Type 0
AppendLossBoundForced =
    (old : List ℕ) (words : ℕ) → (format_effect no_state old words).reply ≡ ok done
    → (es : List AppendEvent) → AllFitAppend es (formatted old words)
    → (F : ℕ) → 1 ≤ F → DisciplinedAppends F es (formatted old words)
    → turn_appends F es (formatted old words) free ≡ free
    → 0 < (after_appends es (formatted old words)).state.area
    → (e : AppendEvent) → FitsAppend e (after_appends es (formatted old words)) → is_failure e ≡ true
    → LosesAtMost (F - 1) (after_append e (after_appends es (formatted old words)))
    (since_appends es (formatted old words) [])

-- a caller that reserves nothing itself and appends with F alone
abbrev pub is_reserve : Call → Bool
is_reserve (reserve kind len) = true
is_reserve (copy k offset bytes) = false
is_reserve (complete k) = false
is_reserve (force k frequency) = false
is_reserve (release k) = false
is_reserve release_all = false
is_reserve recover = false

abbrev pub AppendsWith : ℕ → AppendEvent → Type 0
AppendsWith F (event (call g c words)) = is_reserve c ≡ false
AppendsWith F (event (crash c words carried image)) = is_reserve c ≡ false
AppendsWith F (append kind bytes frequency words) = frequency ≡ F
AppendsWith F (append_crash kind bytes frequency words carried image) = frequency ≡ F

unfoldable pub AllAppendWith : ℕ → List AppendEvent → Type 0
AllAppendWith F [] = Unit {0}
AllAppendWith F (e ∷ es) = AppendsWith F e × AllAppendWith F es

-- .. is disciplined, whatever its other calls are, and the newest record's own force is over
unfoldable pub AppendersDisciplined : Type 0
AppendersDisciplined =
    (F : ℕ) (es : List AppendEvent) → AllAppendWith F es → (s : System)
    → DisciplinedAppends F es s × (turn_appends F es s free ≡ free)

-- no smaller bound will do: a list of such events that loses F
pub record AppendReached (F : ℕ) : Type 0 where
  pub old : List ℕ
  pub words : ℕ
  pub granted : (format_effect no_state old words).reply ≡ ok done
  pub events : List AppendEvent
  pub fits : AllFitAppend events (formatted old words)
  pub disciplined : DisciplinedAppends F events (formatted old words)
  pub lost : length (missing (after_appends events (formatted old words))
      (since_appends events (formatted old words) [])) ≡ F
