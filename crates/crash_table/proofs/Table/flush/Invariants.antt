use Rattle.crash_table.proofs.TableTurns.{Kept}
use Rattle.crash_table.proofs.Table.flush.Given as goal

-- `crash_table::Table::flush` meets its contract. The loop's invariant: what the flush leaves of the entries looked at
-- is in front, and the entries after them are as they were. Cites TableTurns.antt.
abbrev pub invariant-loop-j : goal.invariant-loop-j
invariant-loop-j l = Kept l.first l.count l.initial.self-inside.entries l.j l.self-inside.entries l.kept l.images
