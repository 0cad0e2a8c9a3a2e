use mathlib.Core.Path.{◌≡◌}
use Prim.Native.Nat.{◌*◌}
use lib.ListN.{drop}
use Rattle.crash_images.specs.CrashImages.{op_ok}
use Rattle.device.specs.ReadOps.{ops_of, first_other}
use Rattle.call_crash_images.proofs.OpLaws.{FlushesTo}
use Rattle.call_crash_images.proofs.checked_ops.Given as goal

-- `call_crash_images::checked_ops` meets its contract. The loop's invariant: the ops that are left have the first bad
-- one that all have, and of those looked at all after so many are flushes. Cites OpLaws.antt.
abbrev pub invariant-loop-k : goal.invariant-loop-k
invariant-loop-k l = (first_other (op_ok l.n) l.k (drop (l.k * 3) l.ops) ≡ first_other (op_ok l.n) 0 l.ops)
    × FlushesTo (ops_of l.ops) l.stores l.k
