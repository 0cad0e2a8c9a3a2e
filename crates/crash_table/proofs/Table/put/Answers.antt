use mathlib.Core.Path.{◌≡◌, ap, ◌∙◌}
use mathlib.Core.List.{List}
use Prim.Native.Nat.{◌<◌}
use native.Mathlib.Omega.{arith}
use lib.ListN.{length, take}
use Rattle.std.proofs.Common.{rules}
use Rattle.crash_images.specs.declared.Entry.{Entry}
use Rattle.crash_table.specs.InnerTable.{table_room}
use Rattle.crash_table.proofs.TableTurns.{count_is, newest_length, put_images}
use Rattle.crash_table.proofs.Table.put.Goals as goal

-- `crash_table::Table::put` meets its contract: the entry is put where there is room.
pub invariant_of-self : goal.invariant_of-self
invariant_of-self c =
    let t = c.self.inside in
    let long : length t.entries ≡ table_room = search rules in
    let room : t.len < table_room =
    omega (arith, ap (λ (l : List Entry). length l) c.self.view_is, newest_length t.entries t.len (omega arith)) in (
      omega arith,
      put_images t.entries t.len c.args.entry t.images c.count_of-c.result _ (omega arith) c.self.invariant.1
          (c.count_of-c.ensures ∙ count_is c.args.entry.word (take t.len t.entries)) c.more_images-self-inside.ensures,
    )
