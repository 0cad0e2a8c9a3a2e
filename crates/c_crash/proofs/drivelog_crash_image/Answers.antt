-- `c_crash::drivelog_crash_image` meets its contract. Cites CrashCallLaws.antt.
use lib.ListN.{length}
use Rattle.c_crash.proofs.CrashCallLaws.{point_small}
use Rattle.c_crash.proofs.drivelog_crash_image.Goals as goal

pub report-requires : goal.report-requires
report-requires c =
    let a = c.args in (
      c.if-reply-lt-REPLY_WORDS.false,
      rw c.crash_image-answer.ensures.0
          (point_small a.image.now a.ops.now a.number (length a.output.now)),
    )
