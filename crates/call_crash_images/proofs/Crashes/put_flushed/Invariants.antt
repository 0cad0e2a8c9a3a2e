use mathlib.Core.Path.{◌≡◌}
use lib.ListN.{length}
use Rattle.device.specs.ReadOps.{ops_of}
use Rattle.call_crash_images.proofs.PutLaws.{FlushedTo}
use Rattle.call_crash_images.proofs.Crashes.put_flushed.Given as goal

-- `call_crash_images::Crashes::put_flushed` meets its contract. The loop's invariant: the words that the ops looked at
-- store to have their flushed values. Cites PutLaws.antt.
abbrev pub invariant-loop-j : goal.invariant-loop-j
invariant-loop-j l = FlushedTo l.self.image.now (ops_of l.self.ops.now) l.k l.j l.output
    × (length l.output ≡ length l.self.image.now)
