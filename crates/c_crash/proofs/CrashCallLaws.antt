-- What a call about crashes answers is small. Cites InnerReport.antt, and CrashImages.antt of crash_images.
use mathlib.Core.Path.{◌≡◌, refl}
use mathlib.Core.List.{List}
use Prim.Native.Nat.{ℕ, ◌≤◌}
use native.Mathlib.Omega.{arith}
use lib.ListN.{length}
use borrow.Author.Tests.{ltb-false, leb-false}
use Rattle.refusal.specs.Tests.{Reply, ok, refused}
use Rattle.refusal.proofs.TestLaws.{Decided, passed, failed, decided, first_passes, rest_pass}
use Rattle.device.specs.Crash.{power_up}
use Rattle.crash_images.specs.CrashImages.{max_crashes, total, count_tests, count_reply, Crash, crash_number, crash_tests, crash_reply, point_reply}
use Rattle.device.specs.ReadOps.{ops_of}
use Rattle.crash_images.proofs.PointLaws.{point_below}
use Rattle.c_reply.specs.ByteAnswer.{signed}
use Rattle.c_reply.specs.ReplyWords.{reply_after}
use Rattle.c_crash.specs.InnerReport.{number_in}

-- a number that is granted is at most the most
pub count_small : (image buffer : List ℕ) → number_in (count_reply image buffer) ≤ max_crashes
unfolding count_reply
count_small image buffer = go (decided (count_tests image buffer) refused (ok (total image (ops_of buffer))))
  where
    go : {o : Reply ℕ} → Decided (count_tests image buffer) refused (ok (total image (ops_of buffer))) o
        → number_in o ≤ max_crashes
    go (passed p) = ltb-false max_crashes (total image (ops_of buffer)) (first_passes (rest_pass (rest_pass p)))
    go (failed w) = omega arith

pub point_small : (image buffer : List ℕ) (i room : ℕ)
    → number_in (point_reply (crash_reply image buffer i room)) ≤ max_crashes
unfolding crash_reply
point_small image buffer i room =
    go (decided (crash_tests image buffer i room) refused (ok (crash_number image (ops_of buffer) i)))
  where
    go : {o : Reply Crash}
        → Decided (crash_tests image buffer i room) refused (ok (crash_number image (ops_of buffer) i)) o
        → number_in (point_reply o) ≤ max_crashes
    go (passed p) = omega (
      arith,
      point_below (length image) (ops_of buffer) (power_up image) i,
      ltb-false max_crashes (total image (ops_of buffer)) (first_passes (rest_pass (rest_pass p))),
      leb-false (total image (ops_of buffer)) i (first_passes (rest_pass (rest_pass (rest_pass p)))),
    )
    go (failed w) = omega arith

-- a point as a number
pub signed_point : (o : Reply Crash) → signed (λ n. n) (point_reply o) ≡ signed (λ (c : Crash). c.point) o
signed_point (ok c) = refl
signed_point (refused w) = refl

pub told_point : (o : Reply Crash) (reply : List ℕ)
    → reply_after (λ n. 0) 0 (point_reply o) reply ≡ reply_after (λ (c : Crash). 0) 0 o reply
told_point (ok c) reply = refl
told_point (refused w) reply = refl
