-- `bench::log::list` is safe, and the text ends within the buffer. Cites AnswerLaws.antt of list_image.
use Rattle.std.proofs.Common.{arith}
use Rattle.list_image.proofs.AnswerLaws.{listed_within}
use Rattle.bench.proofs.log.list.Goals as goal

pub returns-in-Some : goal.returns-in-Some
returns-in-Some c =
    let kept = c.list_image-listed.auto.out in
    let within = listed_within c.list_image-listed.ensures c.in-Some.is (omega arith) in
    omega arith
