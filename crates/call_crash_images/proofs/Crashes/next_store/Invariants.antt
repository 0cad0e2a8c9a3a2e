use Rattle.device.specs.ReadOps.{ops_of}
use Rattle.call_crash_images.specs.InnerPut.{NextStore}
use Rattle.call_crash_images.proofs.Crashes.next_store.Given as goal

-- `call_crash_images::Crashes::next_store` meets its contract. The loop's invariant: there are only flushes before op
-- j.
-- Cites OpLaws.antt and SumLaws.antt.
abbrev pub invariant-loop-j : goal.invariant-loop-j
invariant-loop-j l = NextStore (ops_of l.self.ops.now) l.k l.end l.j
