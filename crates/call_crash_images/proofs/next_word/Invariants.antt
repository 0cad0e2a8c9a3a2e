use mathlib.Core.List.{reverse}
use lib.ListN.{take}
use Rattle.call_crash_images.specs.InnerPut.{NextWord}
use Rattle.call_crash_images.proofs.next_word.Given as goal

-- `call_crash_images::next_word` meets its contract. Cites PutLaws.antt.
abbrev pub invariant-loop-entry : goal.invariant-loop-entry
invariant-loop-entry l = NextWord (reverse (take l.entry-index l.entries)) l.from l.n l.best
