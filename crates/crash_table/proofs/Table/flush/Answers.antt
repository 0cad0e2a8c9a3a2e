use mathlib.Core.Path.{◌≡◌, sym, ap, ◌∙◌}
use native.Mathlib.Omega.{arith}
use lib.ListN.{length, get_or, take}
use Rattle.std.proofs.Common.{rules}
use Rattle.crash_images.specs.InnerSteps.{entry, table_count}
use Rattle.crash_table.specs.InnerTable.{table_room}
use Rattle.crash_table.proofs.TableTurns.{count_is, count_below, kept_first, kept_skips, kept_puts, kept_few}
use Rattle.crash_table.proofs.Table.flush.Goals as goal

-- `crash_table::Table::flush` meets its contract: an entry more is left out, or put in front.
pub loop-j-init : goal.loop-j-init
loop-j-init c = kept_first c.args.first c.args.count c.self.inside.entries

pub loop-j-preserved-then-covers : goal.loop-j-preserved-then-covers
loop-j-preserved-then-covers c =
    let old = c.self.inside.entries in
    let long : length old ≡ table_room = search rules in
    kept_skips c.args.first c.args.count old c.loop-j.j c.loop-j.invariant (omega arith)
    (sym c.covers.ensures ∙ c.if-covers.true)

pub more_images-images-requires : goal.more_images-images-requires
more_images-images-requires c =
    let l = c.loop-j in
    let old = c.self.inside.entries in
    let long : length old ≡ table_room = search rules in (
      kept_few c.args.first c.args.count old l.j l.invariant (omega arith) c.self.inside.len (omega arith)
          (omega (arith, ap table_count c.self.view_is)),
      omega (
        arith,
        c.count_of.ensures,
        count_below (get_or l.self-inside.entries l.j (entry 0 0)).word l.kept
            l.self-inside.entries,
      ),
    )

pub loop-j-preserved : goal.loop-j-preserved
loop-j-preserved c =
    let l = c.loop-j in
    let old = c.self.inside.entries in
    let long : length old ≡ table_room = search rules in
    kept_puts c.args.first c.args.count old l.j l.invariant (omega arith) c.count_of.result _
    (sym c.covers.ensures ∙ c.if-covers.false)
    (c.count_of.ensures ∙ count_is _ (take l.kept l.self-inside.entries)) c.more_images-images.ensures
