use native.Mathlib.Omega.{arith}
use Rattle.crash_images.proofs.BufferLaws.{store_inside, table_stored, table_flushed}
use Rattle.crash_table.proofs.Table.carry.Goals as goal

-- `crash_table::Table::carry` meets its contract, by whether the op is a store.
pub held_at-held-requires : goal.held_at-held-requires
held_at-held-requires c =
    let a = c.args in
    (store_inside _ a.ops.now a.k c.requires.0 c.requires.1 c.if-ops-at-eq1.true, omega arith)

pub returns-then-ops-at-eq1 : goal.returns-then-ops-at-eq1
returns-then-ops-at-eq1 c =
    let a = c.args in
    table_stored a.image.now a.ops.now a.k a.self.now _ _ c.requires.1 c.requires.2 c.if-ops-at-eq1.true
    c.held_at-held.ensures.1 c.store.ensures

pub returns-else-ops-at-eq1 : goal.returns-else-ops-at-eq1
returns-else-ops-at-eq1 c =
    let a = c.args in
    table_flushed a.image.now a.ops.now a.k a.self.now _ c.requires.1 c.requires.2 c.if-ops-at-eq1.false
    c.flush.ensures
