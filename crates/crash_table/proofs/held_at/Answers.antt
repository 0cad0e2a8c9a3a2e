use mathlib.Core.Path.{refl}
use native.Mathlib.Omega.{arith}
use Rattle.crash_images.specs.InnerSteps.{newest_at, flushed_at}
use Rattle.crash_images.proofs.BufferLaws.{held_turn}
use Rattle.crash_table.proofs.held_at.Goals as goal

pub loop-j-init : goal.loop-j-init
unfolding newest_at flushed_at
loop-j-init c = (refl, refl)

pub loop-j-preserved : goal.loop-j-preserved
loop-j-preserved c =
    let l = c.loop-j in
    let a = c.args in
    held_turn a.image.now a.ops.now l.j a.w (omega arith) _ _ _ _ l.invariant c.held_after-held.ensures
