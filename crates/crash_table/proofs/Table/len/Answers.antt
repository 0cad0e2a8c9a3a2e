use mathlib.Core.Path.{sym, ap, ◌∙◌}
use lib.ListN.{length, length-reverse}
use Rattle.crash_table.proofs.Table.len.Goals as goal

pub returns : goal.returns
returns c = sym (length-reverse c.entries.result.now) ∙ ap length c.entries.ensures
