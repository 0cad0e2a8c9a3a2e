use mathlib.Core.Path.{◌≡◌}
use Prim.Native.Nat.{suc, ◌-◌, ◌≤◌}
use lib.ListN.{length}
use Rattle.device.specs.ReadOps.{ops_of}
use Rattle.crash_images.specs.InnerSteps.{table_at, crashes_before}
use Rattle.call_crash_images.proofs.Crashes.total.Given as goal

-- `call_crash_images::Crashes::total` meets its contract. The loop's invariant: the sum is that of the points up to
-- now, with the table of the last of them. Cites SumLaws.antt.
abbrev pub invariant-loop-k : goal.invariant-loop-k
invariant-loop-k l = (l.sum ≡ crashes_before l.self.image.now (ops_of l.self.ops.now) (suc l.k))
    × (l.table ≡ table_at l.self.image.now (ops_of l.self.ops.now) l.k)
    × (l.k ≤ length (ops_of l.self.ops.now))

abbrev pub decreases-loop-k : goal.decreases-loop-k
decreases-loop-k l = l.count - l.k
