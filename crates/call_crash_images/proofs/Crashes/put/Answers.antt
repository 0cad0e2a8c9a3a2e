use mathlib.Core.Path.{sym, ◌∙◌}
use Rattle.call_crash_images.proofs.PutLaws.{found_point, found_image}
use Rattle.call_crash_images.proofs.Crashes.put.Goals as goal

-- `call_crash_images::Crashes::put` meets its contract. Cites PutLaws.antt.
pub returns : goal.returns
returns c =
    let s = c.args.self.now in
    let f = c.find-found in (
      found_point s.image.now s.ops.now s.good c.args.i f.result _ f.ensures,
      found_image s.image.now s.ops.now s.good c.args.i f.result _ f.ensures c.put_flushed.ensures
          (c.put_flushed.auto.output ∙ sym c.requires.0)
          (rw c.entries.ensures at c.put_choices.ensures),
    )
