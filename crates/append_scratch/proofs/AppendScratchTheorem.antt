-- With append among the calls passed ops do no harm: the invariant of the crash theorem holds after each event.
-- Cites specs/AppendScratch.antt; AppendInvariant.antt of append, ScratchTheorem.antt and HarmlessTheorem.antt of
-- scratch.
use mathlib.Core.Path.{◌≡◌}
use mathlib.Core.List.{List, [], ◌∷◌}
use Prim.Native.Nat.{ℕ}
use Rattle.refusal.specs.Tests.{ok}
use Rattle.journal.specs.CrashSafe.{System, formatted}
use Rattle.journal.specs.Effect.{done, no_state}
use Rattle.journal.specs.Recover.{format_effect}
use Rattle.journal.specs.RunLog.{RunLog, first_run}
use Rattle.journal.proofs.CrashFormat.{inv_formatted}
use Rattle.journal.proofs.Invariant.{Inv, inv_recovers}
use Rattle.journal.proofs.RunTheorem.{inv_tells}
use Rattle.append.proofs.AppendInvariant.{inv_append}
use Rattle.scratch.proofs.HarmlessTheorem.{inv_harmless}
use Rattle.scratch.proofs.ScratchTheorem.{inv_scratch}
use Rattle.append_scratch.specs.AppendScratch.{AppendScratchEvent, appends, scratch, after_either, FitsEither, ran_either, after_eithers, AllFitEither, ran_eithers, AppendScratchSafe, AppendScratchHarmless, AppendScratchRunsTold}

inv_either : (e : AppendScratchEvent) (s : System) (x : RunLog) → Inv s x → FitsEither e s
    → Inv (after_either e s) (ran_either e s x)
unfolding after_either ran_either
inv_either (appends e) s x i f = inv_append e s i f
inv_either (scratch e) s x i f = inv_scratch e s x i f

inv_eithers : (es : List AppendScratchEvent) (s : System) (x : RunLog) → Inv s x → AllFitEither es s
    → Inv (after_eithers es s) (ran_eithers es s x)
unfolding after_eithers AllFitEither ran_eithers
inv_eithers [] s x i f = i
inv_eithers (e ∷ es) s x i f =
    inv_eithers es (after_either e s) (ran_either e s x) (inv_either e s x i f.0) f.1

inv_run : (old : List ℕ) (words : ℕ) → (format_effect no_state old words).reply ≡ ok done
    → (es : List AppendScratchEvent) → AllFitEither es (formatted old words)
    → Inv (after_eithers es (formatted old words)) (ran_eithers es (formatted old words) first_run)
inv_run old words granted es f = inv_eithers es (formatted old words) first_run (inv_formatted old words granted) f

pub append_scratch_safe : AppendScratchSafe
unfolding AppendScratchSafe
append_scratch_safe old words granted es f =
    inv_recovers (after_eithers es (formatted old words)) (inv_run old words granted es f)

pub append_scratch_harmless : AppendScratchHarmless
unfolding AppendScratchHarmless
append_scratch_harmless old words granted es f =
    inv_harmless (after_eithers es (formatted old words)) (inv_run old words granted es f)

pub append_scratch_runs_told : AppendScratchRunsTold
unfolding AppendScratchRunsTold
append_scratch_runs_told old words granted es f =
    inv_tells (after_eithers es (formatted old words)) (inv_run old words granted es f)
