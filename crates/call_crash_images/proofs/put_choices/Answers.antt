use mathlib.Core.Path.{refl}
use mathlib.Core.List.{reverse}
use Prim.Native.Nat.{◌+◌}
use native.Mathlib.Omega.{arith}
use Rattle.call_crash_images.proofs.PutLaws.{filled_first, filled_next, filled_put, filled_all}
use Rattle.call_crash_images.proofs.put_choices.Goals as goal

pub loop-w-init : goal.loop-w-init
loop-w-init c =
    let a = c.args in
    let t = reverse a.entries.now in (
      filled_next t a.output.now a.m a.m a.output.now 0 _ _ refl c.next_word-w.ensures
          (filled_first t a.output.now a.m),
      c.next_word-w.ensures.below,
    )

pub loop-w-preserved : goal.loop-w-preserved
loop-w-preserved c =
    let a = c.args in
    let t = reverse a.entries.now in (
      filled_next t a.output.now a.m _ _ (c.loop-w.w + 1) _ _ refl c.next_word-w-in-loop-w.ensures
          (filled_put t a.output.now a.m c.loop-w.rest c.loop-w.output c.loop-w.w _ _ (omega arith)
          c.loop-w.invariant.0 c.put_choice-rest.ensures),
      c.next_word-w-in-loop-w.ensures.below,
    )

pub returns : goal.returns
returns c =
    let a = c.args in
    filled_all (reverse a.entries.now) a.output.now a.m c.loop-w.rest c.loop-w.output c.loop-w.w (omega arith)
    c.loop-w.invariant.0
