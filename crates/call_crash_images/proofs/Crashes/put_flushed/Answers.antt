use mathlib.Core.Path.{◌∙◌, ap}
use native.Mathlib.Omega.{arith}
use lib.ListN.{length}
use Rattle.device.specs.ReadOps.{ops_of}
use Rattle.call_crash_images.proofs.PutLaws.{flushed_start, flushed_turn, flushed_last, flushed_all}
use Rattle.call_crash_images.proofs.Crashes.put_flushed.Goals as goal

pub loop-j-init : goal.loop-j-init
loop-j-init c =
    let s = c.args.self.now in (
      flushed_start s.image.now (ops_of s.ops.now) c.args.k _ c.copy_image.ensures,
      ap length c.copy_image.ensures,
    )

pub loop-j-preserved : goal.loop-j-preserved
loop-j-preserved c =
    let s = c.args.self.now in (
      flushed_turn s.image.now (ops_of s.ops.now) c.args.k c.loop-j.j c.loop-j.output _ c.loop-j.invariant.0
          c.put_flushed_of.ensures,
      c.put_flushed_of.auto.output ∙ c.loop-j.invariant.1,
    )

pub returns : goal.returns
returns c =
    let s = c.args.self.now in
    flushed_all s.image.now (ops_of s.ops.now) c.args.k c.loop-j.output
    (flushed_last s.image.now (ops_of s.ops.now) c.args.k s.stores c.loop-j.j c.loop-j.output s.last
    (omega (arith, s.good.whole)) (omega arith) c.loop-j.invariant.0)
