-- `call_crash_images::crash_count` meets its contract. Cites CallLaws.antt.
use lib.ListN.{length}
use Rattle.std.proofs.lemmas.Result.{err_from_is_err_and}
use Rattle.call_crash_images.proofs.CallLaws.{passed, fine_ops, count_refused, count-over, count-granted}
use Rattle.call_crash_images.proofs.crash_count.Goals as goal

pub returns-in_err-stores : goal.returns-in_err-stores
returns-in_err-stores c =
    let p = err_from_is_err_and c.from_residual.result c.from_residual.ensures.1 in
    rw (p.1, p.2) (count_refused c.args.image.now c.args.ops.now c.in_err-stores.ensures.verdict)

pub invariant_of-total : goal.invariant_of-total
invariant_of-total c =
    let n = length c.args.image.now in
    let t = c.in_ok-stores.ensures in
    record { good = fine_ops (passed n n c.args.ops.now t); last = t.stores }

pub returns-then-total-gt-MAX_CRASHES : goal.returns-then-total-gt-MAX_CRASHES
returns-then-total-gt-MAX_CRASHES c =
    let a = c.args in
    let n = length a.image.now in
    count-over a.image.now a.ops.now (passed n n a.ops.now c.in_ok-stores.ensures)
    (c.total-total.ensures.over c.if-total-gt-MAX_CRASHES.true)

pub returns : goal.returns
returns c =
    let a = c.args in
    let n = length a.image.now in
    count-granted a.image.now a.ops.now (passed n n a.ops.now c.in_ok-stores.ensures) _
    (c.total-total.ensures.exact c.if-total-gt-MAX_CRASHES.false) c.if-total-gt-MAX_CRASHES.false
