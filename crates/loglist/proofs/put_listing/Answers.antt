-- `loglist::put_listing` meets its contract: the room is enough for any text, so that a text is answered.
-- Cites AnsweredLaws.antt of list_image.
use Rattle.std.proofs.Common.{rules}
use Rattle.list_image.proofs.AnsweredLaws.{text_end}
use Rattle.loglist.proofs.put_listing.Goals as goal

pub returns : goal.returns
returns c = rw c.unwrap_or.ensures (text_end c.list_bytes.ensures c.requires (search rules))
