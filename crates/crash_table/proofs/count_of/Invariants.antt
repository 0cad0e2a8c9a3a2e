use mathlib.Core.Path.{◌≡◌}
use lib.ListN.{take}
use lib.Dec.{eqb}
use Rattle.std.specs.List.{count_by}
use Rattle.crash_table.proofs.count_of.Given as goal

-- `crash_table::count_of` meets its contract.
abbrev pub invariant-loop-entry : goal.invariant-loop-entry
invariant-loop-entry l = l.count ≡ count_by (λ e. eqb e.word l.w) (take l.entry-index l.entries)
