use mathlib.Core.List.{reverse}
use lib.ListN.{get_or, take}
use Rattle.crash_images.specs.InnerSteps.{entry}
use Rattle.crash_images.proofs.TableLaws.{newest_turn}
use Rattle.call_crash_images.proofs.PutLaws.{next_first, next_lower, next_other}
use Rattle.call_crash_images.proofs.next_word.Goals as goal
use Rattle.call_crash_images.proofs.next_word.Goals.{then-entry-from, else-entry-from}

pub loop-entry-init : goal.loop-entry-init
loop-entry-init c = next_first c.args.from c.args.n c.requires

pub loop-entry-preserved : goal.loop-entry-preserved
loop-entry-preserved c =
    let a = c.args in
    let l = c.loop-entry in
    let e = get_or a.entries.now l.entry-index (entry 0 0) in
    let t = reverse (take l.entry-index a.entries.now) in
    rw (newest_turn a.entries.now l.entry-index (entry 0 0) c.loop-entry-test.true)
    (elim c.if-entry-from.branch [
      | then-entry-from w ↦
          rw (w.best-is, w.min-best.ensures) (next_lower e t a.from a.n l.best l.invariant w.if-entry-from.true)
      | else-entry-from w ↦ rw w.best-is (next_other e t a.from a.n l.best l.invariant w.if-entry-from.false)
    ])
