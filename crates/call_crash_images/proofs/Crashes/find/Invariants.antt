use mathlib.Core.Path.{◌≡◌}
use Prim.Native.Nat.{◌+◌, ◌-◌, ◌≤◌}
use lib.ListN.{length}
use Rattle.device.specs.ReadOps.{ops_of}
use Rattle.crash_images.specs.InnerSteps.{table_at, crashes_before}
use Rattle.call_crash_images.proofs.Crashes.find.Given as goal

-- `call_crash_images::Crashes::find` meets its contract. The loop's invariant: what is left of the number, after the
-- points before this one, with the table of this one. Cites SumLaws.antt.
abbrev pub invariant-loop-left : goal.invariant-loop-left
invariant-loop-left l = (l.i ≡ crashes_before l.self.image.now (ops_of l.self.ops.now) l.k + l.left)
    × (l.table ≡ table_at l.self.image.now (ops_of l.self.ops.now) l.k)
    × (l.k ≤ length (ops_of l.self.ops.now))

abbrev pub decreases-loop-left : goal.decreases-loop-left
decreases-loop-left l = length (ops_of l.self.ops.now) - l.k
