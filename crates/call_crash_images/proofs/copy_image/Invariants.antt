-- The first w words are copied.
use mathlib.Core.Path.{◌≡◌}
use lib.ListN.{length, take}
use Rattle.call_crash_images.proofs.copy_image.Given as goal

abbrev pub invariant-loop-w : goal.invariant-loop-w
invariant-loop-w l = (take l.w l.output ≡ take l.w l.image) × (length l.output ≡ length l.image)
