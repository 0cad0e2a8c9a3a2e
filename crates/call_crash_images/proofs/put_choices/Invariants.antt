use mathlib.Core.List.{reverse}
use Prim.Native.Nat.{◌-◌, ◌≤◌}
use lib.ListN.{length}
use Rattle.call_crash_images.proofs.PutLaws.{Filled}
use Rattle.call_crash_images.proofs.put_choices.Given as goal

-- `call_crash_images::put_choices` meets its contract. The loop's invariant: the words from w on, put by what is left
-- of the number, after those before them make the image. Cites PutLaws.antt.
abbrev pub invariant-loop-w : goal.invariant-loop-w
invariant-loop-w l = Filled (reverse l.entries) l.initial.output l.m l.w l.rest l.output
    × (l.w ≤ length l.initial.output)

abbrev pub decreases-loop-w : goal.decreases-loop-w
decreases-loop-w l = length l.initial.output - l.w
