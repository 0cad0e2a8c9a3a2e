use mathlib.Core.Path.{◌∙◌}
use mathlib.Core.List.{reverse}
use Rattle.crash_table.proofs.TableTurns.{count_is}
use Rattle.call_crash_images.proofs.PutLaws.{put_choice_is}
use Rattle.call_crash_images.proofs.put_choice.Goals as goal

-- `call_crash_images::put_choice` meets its contract. Cites PutLaws.antt.
pub returns : goal.returns
returns c =
    let a = c.args in
    put_choice_is (reverse a.entries.now) a.w a.m c.count_of-c.result c.choice_of.result a.output.now
    (c.count_of-c.ensures ∙ count_is a.w a.entries.now) c.choice_of.ensures
