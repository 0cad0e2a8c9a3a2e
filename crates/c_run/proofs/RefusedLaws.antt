-- A writing call that is refused returns the state that it was handed; and recover does the same whatever it was
-- handed, but for that state.
-- Cites Calls.antt of journal.
use mathlib.Core.Path.{◌≡◌, refl}
use mathlib.Core.List.{List, [], ◌∷◌}
use mathlib.Core.Bool.{Bool, true, false, cond}
use Prim.Native.Nat.{ℕ, suc, ◌-◌}
use native.Mathlib.Omega.{arith}
use lib.Dec.{leb, eqb}
use Rattle.refusal.specs.Tests.{refused, Test, decide}
use Rattle.refusal.specs.declared.Why.{Why}
use Rattle.refusal.proofs.TestLaws.{Decided, passed, failed, decided}
use Rattle.device.specs.Ops.{Op}
use Rattle.state.specs.declared.State.{State}
use Rattle.journal.specs.Effect.{Granted, done, reserved, durable, deferred, Effect, effect, refused_effect, image_test, sound_test, buffer_test}
use Rattle.journal.specs.Append.{reserve_state, reserve_ops, reserve_tests, reserve_effect, copy_ops, copy_tests, copy_effect, complete_state, complete_ops, complete_tests, complete_effect}
use Rattle.journal.specs.Force.{force_ops, force_state, first_open, open_test, force_stretch, is_deferred, force_tests, force_effect}
use Rattle.journal.specs.Release.{head_at, head_ops, release_ops, release_state, release_tests, release_effect, release_all_tests, release_all_effect}
use Rattle.journal.specs.Recover.{recover_ops, recover_state, recover_tests, recover_effect}
use Rattle.journal.specs.Calls.{Call, reserve, copy, complete, force, release, release_all, recover, effect_of}

-- where it is refused, an effect has this state
abbrev Leaves : State → Effect → Type 0
Leaves s o = (w : Why) → o.reply ≡ refused w → o.state ≡ s

granted_leaves : (s : State) (a : Granted) (t : State) (os : List Op) → Leaves s (effect a t os)
granted_leaves s a t os w e = absurd (let z : ◌≡◌ {A = ℕ} 0 1 = cc in omega arith)

tested_leaves : (s : State) (ts : List Test) (granted : Effect) → Leaves s granted
    → Leaves s (decide ts (refused_effect s) granted)
tested_leaves s ts granted h = go (decided ts (refused_effect s) granted)
  where
    go : {o : Effect} → Decided ts (refused_effect s) granted o → Leaves s o
    go (passed p) = h
    go (failed w) = λ v e. refl

module _ (s : State) (image : List ℕ) (words : ℕ) where
  pub refused_leaves : (c : Call) → Leaves s (effect_of c s image words)
  unfolding effect_of reserve_effect copy_effect complete_effect force_effect force_stretch release_effect
      release_all_effect
      recover_effect
  refused_leaves (reserve kind len) = tested_leaves s (reserve_tests s image words kind len) _
      (granted_leaves s (reserved s.next_lsn s.next_pos) (reserve_state s kind len) (reserve_ops s kind len))
  refused_leaves (copy lsn offset bytes) = tested_leaves s (copy_tests s image words lsn offset bytes) _
      (granted_leaves s done s (copy_ops s image lsn offset bytes))
  refused_leaves (complete lsn) = tested_leaves s (complete_tests s image words lsn) _
      (granted_leaves s done (complete_state s lsn) (complete_ops s image lsn))
  refused_leaves (force lsn frequency) = tested_leaves s (force_tests s image lsn frequency) _
      (go (leb lsn s.committed_lsn) (is_deferred s.committed_lsn lsn frequency))
    where
      from : ℕ
      from = suc s.committed_lsn

      n : ℕ
      n = lsn - s.committed_lsn

      go : (x y : Bool)
          → Leaves s (cond x (effect durable s []) (cond y (effect deferred s []) (force_stretch s words from n)))
      go true y = granted_leaves s durable s []
      go false true = granted_leaves s deferred s []
      go false false = tested_leaves s (open_test (first_open s from n) ∷ buffer_test words (force_ops s from n) ∷ []) _
          (granted_leaves s durable (force_state s from n) (force_ops s from n))
  refused_leaves (release lsn) = tested_leaves s (release_tests s image words lsn) _
      (granted_leaves s done (release_state s lsn) (release_ops s lsn))
  refused_leaves release_all = tested_leaves s (image_test s image ∷ sound_test s ∷ []) _
      (go (eqb s.head_lsn s.next_lsn))
    where
      moved : Effect
      moved = effect done (head_at s s.next_lsn) (head_ops s s.next_lsn)

      go : (x : Bool)
          → Leaves s (cond x (effect done s []) (decide (release_all_tests s words) (refused_effect s) moved))
      go true = granted_leaves s done s []
      go false = tested_leaves s (release_all_tests s words) moved
          (granted_leaves s done (head_at s s.next_lsn) (head_ops s s.next_lsn))
  refused_leaves recover = tested_leaves s (recover_tests image words) _
      (granted_leaves s done (recover_state image) (recover_ops image))

-- the same tests with two states: granted both, or refused both
pub data Both (s t : State) (granted : Effect) : Effect → Effect → Type 0 where
  granted_both : Both s t granted granted granted
  refused_both : (w : Why) → Both s t granted (refused_effect s w) (refused_effect t w)

pub decided_both : (s t : State) (granted : Effect) (ts : List Test)
    → Both s t granted (decide ts (refused_effect s) granted) (decide ts (refused_effect t) granted)
decided_both s t granted [] = granted_both
decided_both s t granted (x ∷ xs) = go x.fails (decided_both s t granted xs)
  where
    go : (f : Bool) → {o p : Effect} → Both s t granted o p
        → Both s t granted (cond f (refused_effect s x.why) o) (cond f (refused_effect t x.why) p)
    go true b = refused_both x.why
    go false b = b

-- what recover grants, whatever state its caller holds
abbrev pub recovered : List ℕ → Effect
recovered image = effect done (recover_state image) (recover_ops image)

pub recover_both : (s t : State) (image : List ℕ) (words : ℕ)
    → Both s t (recovered image) (recover_effect s image words) (recover_effect t image words)
unfolding recover_effect
recover_both s t image words = decided_both s t (recovered image) (recover_tests image words)
