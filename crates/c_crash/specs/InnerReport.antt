-- An answer about crashes, reported in a reply and returned.
-- Cites ByteAnswer.antt and ReplyWords.antt of c_reply.
use Rattle.std.specs.Prelude.{◌≡◌, List, ℕ, ℤ}
use Rattle.refusal.specs.Tests.{Reply, ok, refused}
use Rattle.c_reply.specs.ByteAnswer.{signed}
use Rattle.c_reply.specs.ReplyWords.{reply_after}

-- the number of an answer, 0 where it is refused
abbrev pub number_in : Reply ℕ → ℕ
number_in (ok n) = n
number_in (refused w) = 0

pub record Reports (o : Reply ℕ) (z : ℤ) (reply reply' : List ℕ) : Type 0 where
  pub returned : z ≡ signed (λ n. n) o
  pub told : reply' ≡ reply_after (λ n. 0) 0 o reply
