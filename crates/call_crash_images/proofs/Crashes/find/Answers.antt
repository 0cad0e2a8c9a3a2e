use mathlib.Core.Path.{◌∙◌}
use Prim.Native.Nat.{◌+◌, ◌≤◌}
use native.Mathlib.Omega.{arith}
use lib.ListN.{length}
use Rattle.device.specs.ReadOps.{ops_of}
use Rattle.crash_images.specs.InnerSteps.{table_count}
use Rattle.call_crash_images.specs.InnerPut.{NextChange}
use Rattle.call_crash_images.proofs.SumLaws.{table_start, before_start, idle_table, before_total, point_fits, find_goes_on, find_turn, found, count_ops, group_inside}
use Rattle.call_crash_images.proofs.Crashes.find.Goals as goal

pub loop-left-init : goal.loop-left-init
loop-left-init c =
    let s = c.args.self.now in
    let ops = ops_of s.ops.now in
    let n = c.next_store-k.ensures in (
      omega (arith, before_start s.image.now ops _ _ n, n.below, c.min.ensures),
      c.requires.0 ∙ table_start s.image.now ops _ _ n,
      omega (arith, n.below, c.min.ensures, count_ops s.good),
    )

pub carry-requires : goal.carry-requires
carry-requires c =
    let l = c.loop-left in
    let s = c.args.self.now in
    let few : table_count l.table ≤ l.left = omega (arith, c.images.ensures) in
    let on = find_goes_on s.image.now s.ops.now s.good l.k c.args.i l.left l.invariant.0 l.invariant.1 l.invariant.2
    c.requires.1 few in
    let p = point_fits s.image.now s.ops.now s.good l.k l.invariant.1 l.invariant.2
    (omega (arith, c.requires.2, before_total s.image.now s.ops.now s.good l.k l.invariant.2)) in
    (s.good, group_inside s.image.now s.ops.now s.good l.k on, l.invariant.1, p.0, p.1)

pub next_change-next-requires : goal.next_change-next-requires
next_change-next-requires c =
    let l = c.loop-left in
    let s = c.args.self.now in
    let few : table_count l.table ≤ l.left = omega (arith, c.images.ensures) in
    let on = find_goes_on s.image.now s.ops.now s.good l.k c.args.i l.left l.invariant.0 l.invariant.1 l.invariant.2
    c.requires.1 few in
    (omega (arith, on, c.min-end.ensures, count_ops s.good), omega (arith, c.min-end.ensures))

pub loop-left-preserved : goal.loop-left-preserved
loop-left-preserved c =
    let l = c.loop-left in
    let s = c.args.self.now in
    let few : table_count l.table ≤ l.left = omega (arith, c.images.ensures) in
    let n : NextChange (ops_of s.ops.now) (l.k + 1) _ (length c.carry.new.self) c.next_change-next.result =
    rw c.len.ensures at c.next_change-next.ensures in (
      rw c.images-left.ensures (find_turn s.image.now s.ops.now s.good l.k c.args.i l.left _ _ l.invariant.0
          l.invariant.1 few c.carry.ensures n (omega (arith, c.min-end.ensures, c.images-left.ensures))),
      idle_table s.image.now (ops_of s.ops.now) (l.k + 1) _ _ c.carry.new.self c.carry.ensures n,
      omega (arith, n.next.below, c.min-end.ensures, count_ops s.good),
    )

pub returns : goal.returns
returns c =
    let l = c.loop-left in
    let s = c.args.self.now in
    found s.image.now s.ops.now s.good l.k c.args.i l.left l.invariant.0 l.invariant.1 l.invariant.2
    (omega (arith, c.images.ensures))
