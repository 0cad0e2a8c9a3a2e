use mathlib.Core.Path.{◌≡◌, sym, ◌∙◌}
use mathlib.Core.Bool.{true, false}
use borrow.Author.Tests.{eq-eqb, ne_eqb}
use Rattle.crash_images.specs.InnerSteps.{in_table}
use Rattle.crash_table.proofs.TableTurns.{found_is}
use Rattle.crash_table.proofs.Table.store.Goals as goal
use Rattle.crash_table.proofs.Table.store.Goals.{else-entry-flushed-via-then-entry-flushed+else-not-contains, else-entry-flushed-via-else-entry-flushed}

-- `crash_table::Table::store` meets its contract, by whether the entry is dropped.
pub returns-then-not-contains : goal.returns-then-not-contains
returns-then-not-contains c =
    let e = c.args.entry in
    let f : in_table e.word e.value c.args.self.now ≡ false =
    rw (← c.entries.ensures)
    (sym (found_is e c.entries.result.now) ∙ sym c.contains.ensures.value ∙ c.if-not-contains.true) in
    rw (ne_eqb e.value c.args.flushed c.if-entry-flushed.true, f) c.put.ensures

pub returns-else-entry-flushed : goal.returns-else-entry-flushed
returns-else-entry-flushed c =
    let e = c.args.entry in
    elim c.else-entry-flushed.branch [
      | else-entry-flushed-via-then-entry-flushed+else-not-contains w ↦
          let f : in_table e.word e.value c.args.self.now ≡ true =
          rw (← w.entries.ensures)
          (sym (found_is e w.entries.result.now) ∙ sym w.contains.ensures.value ∙ w.if-not-contains.false) in
          rw (ne_eqb e.value c.args.flushed w.if-entry-flushed.true, f)
      | else-entry-flushed-via-else-entry-flushed w ↦ rw (eq-eqb e.value c.args.flushed w.if-entry-flushed.false)
    ]
