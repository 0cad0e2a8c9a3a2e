use native.Mathlib.Omega.{arith}
use Rattle.crash_images.proofs.BufferLaws.{store_inside}
use Rattle.call_crash_images.proofs.PutLaws.{flushed_store, flushed_flush}
use Rattle.call_crash_images.proofs.put_flushed_of.Goals as goal

-- `call_crash_images::put_flushed_of` meets its contract. Cites PutLaws.antt.
pub held_at-requires : goal.held_at-requires
held_at-requires c =
    let a = c.args in
    (store_inside _ a.ops.now a.j c.requires.0 c.requires.3 c.if-ops-at-eq1.true, c.requires.2)

pub offset_bounds-output-w : goal.offset_bounds-output-w
offset_bounds-output-w c =
    let a = c.args in
    omega (arith, store_inside _ a.ops.now a.j c.requires.0 c.requires.3 c.if-ops-at-eq1.true)

pub bounds-output-w : goal.bounds-output-w
bounds-output-w c =
    let a = c.args in
    omega (arith, store_inside _ a.ops.now a.j c.requires.0 c.requires.3 c.if-ops-at-eq1.true)

pub returns-then-ops-at-eq1 : goal.returns-then-ops-at-eq1
returns-then-ops-at-eq1 c =
    let a = c.args in
    let tag = c.if-ops-at-eq1.true in
    flushed_store a.image.now a.ops.now a.k a.j c.requires.3 a.output.now _ tag
    (omega (arith, store_inside _ a.ops.now a.j c.requires.0 c.requires.3 tag)) c.held_at.ensures.1

pub returns-else-ops-at-eq1 : goal.returns-else-ops-at-eq1
returns-else-ops-at-eq1 c =
    let a = c.args in
    flushed_flush a.image.now a.ops.now a.k a.j c.requires.3 a.output.now c.if-ops-at-eq1.false
