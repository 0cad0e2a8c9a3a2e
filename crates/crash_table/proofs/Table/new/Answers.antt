use mathlib.Core.Path.{refl}
use native.Mathlib.Omega.{arith}
use Rattle.crash_images.specs.InnerSteps.{table_count}
use Rattle.crash_table.proofs.Table.new.Goals as goal

pub invariant_of-result : goal.invariant_of-result
unfolding table_count
invariant_of-result c = (omega arith, refl)
