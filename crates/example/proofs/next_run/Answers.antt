-- `example::next_run` is safe, and ends if its writes do. The text ends within its room.
-- Cites AnswerLaws.antt of list_image.
use Rattle.std.proofs.Common.{sym, arith, length-take-le}
use Rattle.list_image.proofs.AnswerLaws.{listed_within}
use Rattle.example.proofs.next_run.Goals as goal

pub slice_bounds-text-end : goal.slice_bounds-text-end
slice_bounds-text-end c c' = listed_within c'.list_image-listed.ensures c'.in-Some.is (omega arith)

pub slice_bounds-write_all-end : goal.slice_bounds-write_all-end
slice_bounds-write_all-end c c' =
    sym (length-take-le _ _ (listed_within c'.list_image-listed.ensures c'.in-Some.is (omega arith)))
