use mathlib.Core.Path.{◌∙◌}
use Prim.Native.Nat.{suc, ◌+◌, ◌*◌, ◌≤◌, ◌<◌}
use native.Mathlib.Omega.{arith}
use lib.ListN.{length}
use Rattle.crash_images.specs.CrashImages.{max_crashes}
use Rattle.device.specs.ReadOps.{ops_of}
use Rattle.crash_images.specs.InnerSteps.{table_count, crashes_before}
use Rattle.call_crash_images.specs.InnerPut.{NextChange}
use Rattle.call_crash_images.proofs.SumLaws.{table_start, sum_start, idle_table, point_fits, next_fits, sum_turn, sum_ends, sum_goes_on, count_ops, group_inside}
use Rattle.call_crash_images.proofs.Crashes.total.Goals as goal

pub loop-k-init : goal.loop-k-init
loop-k-init c =
    let s = c.args.self.now in
    let ops = ops_of s.ops.now in
    let n = c.next_store-k.ensures in (
      sum_start s.image.now ops _ _ n,
      c.new-table.ensures ∙ table_start s.image.now ops _ _ n,
      omega (arith, n.below, count_ops s.good),
    )

pub carry-requires : goal.carry-requires
carry-requires c =
    let l = c.loop-k in
    let s = c.args.self.now in
    let on = sum_goes_on l.k _ l.sum c.loop-k-test.true in
    let next : l.k < length (ops_of s.ops.now) = omega (arith, on.0, count_ops s.good) in
    let few : crashes_before s.image.now (ops_of s.ops.now) (suc l.k) ≤ max_crashes =
    omega (arith, l.invariant.0, on.1) in
    let p = point_fits s.image.now s.ops.now s.good l.k l.invariant.1 l.invariant.2 few in
    (s.good, group_inside s.image.now s.ops.now s.good l.k next, l.invariant.1, p.0, p.1)

-- the images of the next table fit
pub overflow_add-sum-in-loop-k : goal.overflow_add-sum-in-loop-k
overflow_add-sum-in-loop-k c =
    let l = c.loop-k in
    let s = c.args.self.now in
    let on = sum_goes_on l.k _ l.sum c.loop-k-test.true in
    let next : l.k < length (ops_of s.ops.now) = omega (arith, on.0, count_ops s.good) in
    let few : crashes_before s.image.now (ops_of s.ops.now) (suc l.k) ≤ max_crashes =
    omega (arith, l.invariant.0, on.1) in
    let fit : table_count c.carry.new.self ≤ 2 * max_crashes =
    next_fits s.image.now s.ops.now s.good l.k c.carry.ensures next few in
    let n = c.next_change-next.ensures.next in
    record { fits = omega (arith, fit, n.above, n.below, c.images.ensures, c.next_change-next.type_inv) }

pub overflow_add-sum-in-loop-k-2 : goal.overflow_add-sum-in-loop-k-2
overflow_add-sum-in-loop-k-2 c =
    let l = c.loop-k in
    let s = c.args.self.now in
    let on = sum_goes_on l.k _ l.sum c.loop-k-test.true in
    let next : l.k < length (ops_of s.ops.now) = omega (arith, on.0, count_ops s.good) in
    let few : crashes_before s.image.now (ops_of s.ops.now) (suc l.k) ≤ max_crashes =
    omega (arith, l.invariant.0, on.1) in
    let fit : table_count c.carry.new.self ≤ 2 * max_crashes =
    next_fits s.image.now s.ops.now s.good l.k c.carry.ensures next few in
    let n = c.next_change-next.ensures.next in
    record { fits = omega (arith, fit, on.1, n.above, n.below, c.images.ensures, c.next_change-next.type_inv) }

pub loop-k-preserved : goal.loop-k-preserved
loop-k-preserved c =
    let l = c.loop-k in
    let s = c.args.self.now in
    let n : NextChange (ops_of s.ops.now) (l.k + 1) _ (length c.carry.new.self) c.next_change-next.result =
    rw c.len.ensures at c.next_change-next.ensures in (
      rw c.images.ensures (sum_turn s.image.now s.ops.now s.good l.k l.sum _ _ l.invariant.0 c.carry.ensures n),
      idle_table s.image.now (ops_of s.ops.now) (l.k + 1) _ _ c.carry.new.self c.carry.ensures n,
      omega (arith, n.next.below, count_ops s.good),
    )

pub returns : goal.returns
returns c =
    let l = c.loop-k in
    let s = c.args.self.now in
    sum_ends s.image.now s.ops.now s.good l.k l.sum _ l.invariant.0 (omega (arith, l.invariant.2, count_ops s.good))
    (count_ops s.good)
    c.loop-k-test.false
