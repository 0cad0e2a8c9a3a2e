use mathlib.Core.Path.{◌≡◌, sym, ◌∙◌}
use mathlib.Core.Option.{none, some}
use Prim.Native.Nat.{◌+◌, ◌*◌, ◌/◌, ◌≤◌}
use native.Mathlib.Omega.{arith}
use lib.ListN.{length}
use Rattle.crash_images.specs.CrashImages.{op_ok}
use Rattle.crash_images.proofs.BufferLaws.{good_ops}
use Rattle.device.specs.ReadOps.{ops_of, first_other}
use Rattle.device.proofs.ReadOpsLaws.{other_later, other_here, other_short, other_none}
use Rattle.call_crash_images.proofs.OpLaws.{flushes_none, flushes_more}
use Rattle.call_crash_images.proofs.checked_ops.Goals as goal
use Rattle.call_crash_images.proofs.checked_ops.Goals.{then-ops-at-eq1, else-ops-at-eq1}

pub returns-then-not-op_ok : goal.returns-then-not-op_ok
returns-then-not-op_ok c =
    let a = c.args in
    let e : first_other (op_ok a.n) 0 a.ops.now ≡ some c.loop-k.k = sym c.loop-k.invariant.0 ∙ other_here (op_ok a.n)
    a.ops.now c.loop-k.k (omega arith) (sym c.op_ok.ensures ∙ c.if-not-op_ok.true) in
    record { verdict = rw e; stores = tt }

pub loop-k-preserved : goal.loop-k-preserved
loop-k-preserved c =
    let l = c.loop-k in
    let ops = c.args.ops.now in
    let whole : l.k * 3 + 3 ≤ length ops = omega arith in
    let rest =
    other_later (op_ok c.args.n) ops l.k whole (sym c.op_ok.ensures ∙ c.if-not-op_ok.false) ∙ l.invariant.0 in
    elim c.if-ops-at-eq1.branch [
      | then-ops-at-eq1 w ↦ (rest, rw w.stores-is (flushes_none (ops_of ops) (l.k + 1)))
      | else-ops-at-eq1 w ↦
          (rest, rw w.stores-is (flushes_more ops l.stores l.k whole l.invariant.1 w.if-ops-at-eq1.false))
    ]

pub returns-then-ops-ne0 : goal.returns-then-ops-ne0
returns-then-ops-ne0 c =
    let a = c.args in
    let k = c.loop-k.k in
    let last : k ≡ length a.ops.now / 3 = omega arith in
    let e : first_other (op_ok a.n) 0 a.ops.now ≡ some k = sym c.loop-k.invariant.0
    ∙ other_short (op_ok a.n) a.ops.now k last c.if-ops-ne0.true in
    record { verdict = rw (e, last); stores = tt }

pub returns : goal.returns
returns c =
    let a = c.args in
    let k = c.loop-k.k in
    let last : k ≡ length a.ops.now / 3 = omega arith in
    let e : first_other (op_ok a.n) 0 a.ops.now ≡ none = sym c.loop-k.invariant.0
    ∙ other_none (op_ok a.n) a.ops.now k last c.if-ops-ne0.false in
    let whole = (good_ops a.n 0 a.ops.now e).whole in
    record {
      verdict = rw e;
      stores = record { flushes = λ j b m. c.loop-k.invariant.1 j b (omega (arith, whole)) };
    }
