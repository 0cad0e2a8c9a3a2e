-- `bench::room::payload` is safe: the array keeps its length.
use Rattle.std.proofs.Common.{◌≡◌, length}
use Rattle.bench.proofs.room.payload.Given as goal

abbrev pub invariant-loop-i : goal.invariant-loop-i
invariant-loop-i l = 1024 ≡ length l.bytes
