-- The crash theorem with passed ops among the events.
-- Cites specs/ScratchSafe.antt and ScratchRuns.antt, and the invariant of journal's crash theorem.
use mathlib.Core.Path.{◌≡◌, refl, subst}
use mathlib.Core.List.{List, [], ◌∷◌}
use mathlib.Core.Bool.{true}
use Prim.Native.Nat.{ℕ, ◌+◌}
use native.Mathlib.Omega.{arith}
use native.Mathlib.Nat.{le_refl}
use lib.ListN.{length, take}
use lib.Dec.{eqb}
use borrow.Author.Tests.{eqb-true}
use Rattle.device.specs.Ops.{apply}
use Rattle.device.specs.ReadOps.{ops_of}
use Rattle.device.specs.Crash.{carry, CrashImage}
use Rattle.device.proofs.CrashLaws.{Rule, AllLawful, Keeps, keeps_all, keeps_prefix, shows_all, shows_power_up, length_apply}
use Rattle.device.proofs.ReadOpsLaws.{inside_lawful}
use Rattle.device.proofs.RollBack.{lawful_weaken, apply_others}
use Rattle.layout.specs.Ring.{area_start}
use Rattle.state.proofs.AndLaws.{both}
use Rattle.state.specs.declared.State.{State}
use Rattle.scan.specs.Open.{image_size_ok}
use Rattle.journal.specs.CrashSafe.{System, formatted}
use Rattle.refusal.specs.Tests.{ok}
use Rattle.journal.specs.Effect.{image_ok, done, no_state}
use Rattle.journal.specs.Recover.{format_effect}
use Rattle.journal.specs.RunLog.{RunLog, first_run}
use Rattle.journal.proofs.Calm.{Frame, Quiet, limits, calm, quiet_safe, settle}
use Rattle.journal.proofs.CrashFormat.{inv_formatted}
use Rattle.journal.proofs.Invariant.{Knows, lost, held, Agrees, Inv, inv_after, inv_recovers}
use Rattle.journal.proofs.RunTheorem.{inv_tells}
use Rattle.journal.proofs.Theorem.{owed}
use Rattle.journal.proofs.Zones.{Allowed}
use Rattle.scratch.specs.ScratchSafe.{Passed, ScratchEvent, event, passed, crashed, after_scratch, FitsScratch, after_scratches, AllFitScratch, ScratchSafe}
use Rattle.scratch.specs.ScratchRuns.{ran_scratch, ran_scratches, ScratchRunsTold}
use Rattle.scratch.specs.VetExact.{FreeWord, MayPass, PassedExactly}
use Rattle.scratch.proofs.ExactLaws.{passed_exactly}
use Rattle.scratch.proofs.AllowedLaws.{free_allowed, agrees-still}

-- stores go to free words only
abbrev pub OnlyFree : System → Rule
OnlyFree s = λ w v. FreeWord s.state (length s.image) w

may_pass : (s : System) (given : List ℕ) → Passed s given → MayPass s.state s.image given
unfolding PassedExactly
may_pass s given p = (passed_exactly s.state s.image given).0 p

module _ (s : System) {ran : RunLog} (h : Inv s ran) (given : List ℕ) (p : Passed s given) where
  abbrev frame : Frame
  frame = h.quiet.frame

  -- where ops are passed there is a state
  pub agrees : Agrees s.log frame s.image s.state
  agrees = go h.knows (may_pass s given p).sized
    where
      n : ℕ
      n = length s.image

      go : Knows s.log frame s.image s.state → image_ok n s.state.area ≡ true
          → Agrees s.log frame s.image s.state
      go (held a) z = a
      go (lost e) z =
          let none : image_ok n 0 ≡ true = subst (λ (t : State). image_ok n t.area ≡ true) e z in
          let small = eqb-true n (0 + area_start) (both (image_size_ok n) (eqb n (0 + area_start)) none).1 in
          absurd (let q = h.quiet.size in let r = h.quiet.zoned.room in omega arith)

  pub only_free : AllLawful (OnlyFree s) (ops_of given)
  only_free =
      inside_lawful (FreeWord s.state (length s.image)) (length s.image) (ops_of given)
      (may_pass s given p).inside

  lawful : AllLawful (Allowed s.log (calm frame)) (ops_of given)
  lawful =
      lawful_weaken (OnlyFree s) (Allowed s.log (calm frame))
      (free_allowed h.quiet.zoned agrees (length s.image)) (ops_of given) only_free

  -- so the module is as quiet after any of the ops as before
  pub keeps_part : (j : ℕ)
      → Keeps (Allowed s.log (calm frame)) (length s.image) (carry (take j (ops_of given)) s.device)
  keeps_part j = keeps_prefix j (ops_of given) s.device h.quiet.keeps lawful

  abbrev quiet_part : (j : ℕ) → Quiet s.log ran (length s.image) (carry (take j (ops_of given)) s.device)
  quiet_part j =
      let q = h.quiet in
      record { frame = q.frame; ran_is = q.ran_is; zoned = q.zoned; size = q.size; keeps = keeps_part j }

  inv_passed : Inv (after_scratch (passed given) s) ran
  unfolding after_scratch
  inv_passed = let q = h.quiet in record {
    quiet = rw (length_apply (ops_of given) s.image) (record {
      frame = q.frame;
      ran_is = q.ran_is;
      zoned = q.zoned;
      size = q.size;
      keeps = keeps_all (ops_of given) s.device q.keeps lawful;
    });
    shows = shows_all (ops_of given) s.image s.device h.shows;
    knows = held (agrees-still q.zoned agrees (length s.image) (apply (ops_of given) s.image)
        (apply_others (FreeWord s.state (length s.image)) (ops_of given) only_free s.image));
    numbered = h.numbered;
  }

  inv_crashed : (carried : ℕ) (image : List ℕ)
      → CrashImage (carry (take carried (ops_of given)) s.device) (length s.image) image
      → Inv (after_scratch (crashed given carried image) s) ran
  unfolding after_scratch
  inv_crashed carried image ci =
      let here = limits frame.firm frame.epoch frame.epoch in
      let safe =
      quiet_safe here (quiet_part carried) (le_refl frame.firm) (le_refl frame.epoch, le_refl frame.epoch) in
      record {
        quiet = rw ci.size (settle here _ _ (length s.image) _ image safe ci).quiet;
        shows = shows_power_up image;
        knows = lost refl;
        numbered = h.numbered;
      }

pub inv_scratch : (e : ScratchEvent) (s : System) (ran : RunLog) → Inv s ran → FitsScratch e s
    → Inv (after_scratch e s) (ran_scratch e s ran)
unfolding ran_scratch
inv_scratch (event e) s ran i f = unfold after_scratch in inv_after owed e s ran i f
inv_scratch (passed given) s ran i f = inv_passed s i given f
inv_scratch (crashed given carried image) s ran i f = inv_crashed s i given f.0 carried image f.2

inv_all : (es : List ScratchEvent) (s : System) (ran : RunLog) → Inv s ran → AllFitScratch es s
    → Inv (after_scratches es s) (ran_scratches es s ran)
unfolding after_scratches AllFitScratch ran_scratches
inv_all [] s ran i f = i
inv_all (e ∷ es) s ran i f = inv_all es (after_scratch e s) (ran_scratch e s ran) (inv_scratch e s ran i f.0) f.1

-- the same invariant after a run with passed ops
pub inv_scratches : (old : List ℕ) (words : ℕ) → (format_effect no_state old words).reply ≡ ok done
    → (es : List ScratchEvent) → AllFitScratch es (formatted old words)
    → Inv (after_scratches es (formatted old words)) (ran_scratches es (formatted old words) first_run)
inv_scratches old words granted es f = inv_all es (formatted old words) first_run (inv_formatted old words granted) f

pub scratch_safe : ScratchSafe
unfolding ScratchSafe
scratch_safe old words granted es f =
    inv_recovers (after_scratches es (formatted old words)) (inv_scratches old words granted es f)

pub scratch_runs_told : ScratchRunsTold
unfolding ScratchRunsTold
scratch_runs_told old words granted es f =
    inv_tells (after_scratches es (formatted old words)) (inv_scratches old words granted es f)
