-- `c_crash::drivelog_crash_count` meets its contract. Cites CrashCallLaws.antt.
use Rattle.c_crash.proofs.CrashCallLaws.{count_small}
use Rattle.c_crash.proofs.drivelog_crash_count.Goals as goal

pub report-requires : goal.report-requires
report-requires c =
    let a = c.args in
    (c.if-reply-lt-REPLY_WORDS.false, rw c.crash_count-answer.ensures (count_small a.image.now a.ops.now))
