-- `logorphans::put_orphans` meets its contract: the room is enough for any text, so that a text is answered.
-- Cites AnsweredLaws.antt of list_image.
use Rattle.std.proofs.Common.{rules}
use Rattle.list_image.proofs.AnsweredLaws.{never_without_text, text_put}
use Rattle.logorphans.proofs.put_orphans.Goals as goal

pub returns-in-Some : goal.returns-in-Some
returns-in-Some c =
    text_put c.list_orphans-listed.ensures c.requires c.in-Some.is (search rules)

pub returns-in-None : goal.returns-in-None
returns-in-None c = absurd (never_without_text c.list_orphans-listed.ensures c.requires c.in-None.is)
