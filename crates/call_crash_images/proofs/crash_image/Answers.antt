-- `call_crash_images::crash_image` meets its contract. Cites CallLaws.antt.
use mathlib.Core.Path.{◌≡◌, sym, ap}
use Prim.Native.Nat.{◌≤◌, ℕ}
use native.Mathlib.Omega.{arith}
use lib.ListN.{length}
use Rattle.std.proofs.lemmas.Result.{err_from_is_err_and}
use Rattle.refusal.specs.Tests.{ok}
use Rattle.crash_images.specs.CrashImages.{max_crashes}
use Rattle.call_crash_images.specs.InnerPut.{Totals}
use Rattle.call_crash_images.proofs.CallLaws.{passed, fine_ops, crash_refused, crash-over, crash-none, crash-granted, says_refused, says_granted}
use Rattle.call_crash_images.proofs.crash_image.Goals as goal

-- the total is what was summed
summed : {r t : ℕ} → Totals r t → r ≤ max_crashes → (r ≡ t) × (t ≤ max_crashes)
summed e h = let f = e.exact h in (f, omega (arith, f, h))

pub returns-in_err-stores : goal.returns-in_err-stores
returns-in_err-stores c =
    let a = c.args in
    let p = err_from_is_err_and c.from_residual.result c.from_residual.ensures.1 in
    rw (p.1, p.2) (says_refused a.image.now a.ops.now a.output.now
    (crash_refused a.image.now a.ops.now a.i (length a.output.now) c.in_err-stores.ensures.verdict))

pub invariant_of-crashes : goal.invariant_of-crashes
invariant_of-crashes c =
    let a = c.args in
    let t = c.in_ok-stores.ensures in record {
      good = fine_ops (passed (length a.image.now) (length a.output.now) a.ops.now t);
      last = t.stores;
    }

pub returns-then-total-gt-MAX_CRASHES : goal.returns-then-total-gt-MAX_CRASHES
returns-then-total-gt-MAX_CRASHES c =
    let a = c.args in
    says_refused a.image.now a.ops.now a.output.now
    (crash-over a.image.now a.ops.now a.i (length a.output.now)
    (passed (length a.image.now) (length a.output.now) a.ops.now c.in_ok-stores.ensures)
    (c.total-total.ensures.over c.if-total-gt-MAX_CRASHES.true))

pub returns-then-total-i : goal.returns-then-total-i
returns-then-total-i c =
    let a = c.args in
    let e = summed c.total-total.ensures c.if-total-gt-MAX_CRASHES.false in
    says_refused a.image.now a.ops.now a.output.now
    (crash-none a.image.now a.ops.now a.i (length a.output.now)
    (passed (length a.image.now) (length a.output.now) a.ops.now c.in_ok-stores.ensures) e.1
    (omega (arith, e.0, c.if-total-i.true)))

pub put-requires : goal.put-requires
put-requires c =
    let a = c.args in
    let f = passed (length a.image.now) (length a.output.now) a.ops.now c.in_ok-stores.ensures in
    let e = summed c.total-total.ensures c.if-total-gt-MAX_CRASHES.false in
    (sym f.same, omega (arith, e.0, c.if-total-i.false), e.1)

pub returns : goal.returns
returns c =
    let a = c.args in
    let e = summed c.total-total.ensures c.if-total-gt-MAX_CRASHES.false in
    says_granted a.image.now a.ops.now _
    (crash-granted a.image.now a.ops.now a.i (length a.output.now)
    (passed (length a.image.now) (length a.output.now) a.ops.now c.in_ok-stores.ensures) e.1
    (omega (arith, e.0, c.if-total-i.false)))
    (ap ok c.put.ensures.0) c.put.ensures.1 a.output.now
