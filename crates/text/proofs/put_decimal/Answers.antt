-- The digits that `io::decimal` makes are the decimal text.
-- Cites NumberLaws.antt.
use Rattle.text.proofs.NumberLaws.{decimal_put}
use Rattle.text.proofs.put_decimal.Goals as goal

pub returns : goal.returns
returns c =
    decimal_put _ _ c.put_bytes.ensures c.decimal-k.ensures.digits c.ranges.n.fits c.decimal-k.ensures.len
