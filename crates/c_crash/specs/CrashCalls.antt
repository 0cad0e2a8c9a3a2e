-- The calls about crashes for C: 14 where the reply is short, and then the tests of the definition.
-- Cites CrashImages.antt of crash_images, Lent.antt of device, and ByteAnswer.antt and ReplyWords.antt of c_reply.
use Rattle.std.specs.Prelude.{◌≡◌, List, [], ◌∷◌, ℕ, ltb, ℤ}
use Rattle.refusal.specs.Tests.{Reply, refused, test, decide}
use Rattle.device.specs.Ops.{Op}
use Rattle.device.specs.Lent.{Lent, given, left, room}
use Rattle.crash_images.specs.CrashImages.{count_reply, Crash, crash_reply, output_left}
use Rattle.device.specs.ReadOps.{ops_of}
use Rattle.c_reply.specs.ByteAnswer.{signed}
use Rattle.c_reply.specs.ReplyWords.{reply_size, reply_after}

-- an answer after the test of the reply's length
abbrev pub replied : {A : Type 0} → ℕ → Reply A → Reply A
replied reply answer = decide (test (ltb reply reply_size) 14 0 ∷ []) refused answer

-- the call that counts: it returns the number of crashes; image and op buffer are lent to be read alone, so they are
-- given as what they hold
abbrev pub count_on : List ℕ → List ℕ → ℕ → Reply ℕ
count_on image ops reply = replied reply (count_reply image ops)

pub record CountsTo (o : Reply ℕ) (r : ℤ) (reply reply' : List ℕ) : Type 0 where
  pub returned : r ≡ signed (λ n. n) o
  pub told : reply' ≡ reply_after (λ n. 0) 0 o reply

abbrev pub CountCall : ℤ → List ℕ → List ℕ → Lent → Type 0
CountCall r image ops reply =
    CountsTo (count_on image ops (room reply)) r (given reply) (left reply)

-- the call that puts an image: it returns the crash point
abbrev pub crash_on : List ℕ → List ℕ → ℕ → ℕ → ℕ → Reply Crash
crash_on image ops number output reply = replied reply (crash_reply image ops number output)

pub record PutsTo (image : List ℕ) (os : List Op) (o : Reply Crash) (r : ℤ) (output output' reply reply' : List ℕ)
    : Type 0 where
  pub returned : r ≡ signed (λ (c : Crash). c.point) o
  pub put : output' ≡ output_left image os o output
  pub told : reply' ≡ reply_after (λ (c : Crash). 0) 0 o reply

abbrev pub ImageCall : ℕ → ℤ → List ℕ → List ℕ → Lent → Lent → Type 0
ImageCall number r image ops output reply =
    PutsTo image (ops_of ops) (crash_on image ops number (room output) (room reply)) r
    (given output) (left output) (given reply) (left reply)
