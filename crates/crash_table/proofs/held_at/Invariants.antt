use mathlib.Core.Path.{◌≡◌}
use Rattle.device.specs.ReadOps.{ops_of}
use Rattle.crash_images.specs.InnerSteps.{newest_at, flushed_at}
use Rattle.crash_table.proofs.held_at.Given as goal

-- `crash_table::held_at` meets its contract.
abbrev pub invariant-loop-j : goal.invariant-loop-j
invariant-loop-j l =
    (l.held.newest ≡ newest_at l.image (ops_of l.ops) l.j l.w)
    × (l.held.flushed ≡ flushed_at l.image (ops_of l.ops) l.j l.w)
