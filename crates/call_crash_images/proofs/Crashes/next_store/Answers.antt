use native.Mathlib.Omega.{arith}
use Rattle.device.specs.ReadOps.{ops_of}
use Rattle.call_crash_images.proofs.OpLaws.{other_flush}
use Rattle.call_crash_images.proofs.SumLaws.{store_turn}
use Rattle.call_crash_images.proofs.Crashes.next_store.Goals as goal

pub loop-j-preserved : goal.loop-j-preserved
loop-j-preserved c =
    let a = c.args in
    let ops = a.self.now.ops.now in
    store_turn (ops_of ops) a.k a.end c.loop-j.j c.loop-j.invariant (omega arith)
    (other_flush ops c.loop-j.j (omega arith) c.if-self-j-eq1.false)
