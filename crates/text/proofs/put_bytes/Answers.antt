-- The part of the buffer that is copied over.
-- Cites AppendLaws.antt.
use native.Mathlib.Omega.{arith}
use Rattle.text.proofs.AppendLaws.{appended_part}
use Rattle.text.proofs.put_bytes.Goals as goal

pub returns : goal.returns
returns c =
    rw c.copy_from_slice.ensures.after (appended_part _ _ _ _ _ (omega arith) (omega arith) (omega arith))
