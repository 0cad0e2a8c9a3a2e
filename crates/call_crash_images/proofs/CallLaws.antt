-- The calls, by their tests: 1 and 21 first, then 22 and 23 of the total.
-- Cites CrashImages.antt of crash_images, and InnerPut.antt.
use mathlib.Core.Path.{◌≡◌, refl, sym, ◌∙◌}
use mathlib.Core.Bool.{Bool, true, false, not, ◌||◌, false≢true}
use mathlib.Core.List.{List, [], ◌∷◌}
use mathlib.Core.Option.{none}
use Prim.Native.Nat.{ℕ, ◌≤◌, ◌<◌}
use native.Mathlib.Omega.{arith}
use lib.ListN.{length}
use lib.Dec.{leb, ltb, eqb}
use borrow.Author.Tests.{eqb-true, eq-eqb, lt-ltb, le-ltb, le-leb, lt-leb}
use Rattle.refusal.specs.Tests.{Reply, ok, refused, because, test, decide, verdict}
use Rattle.refusal.specs.declared.Why.{Why}
use Rattle.std.specs.Prelude.{Ok}
use Rattle.refusal.proofs.TestLaws.{AllPass, answered, first_passes, rest_pass, refusal_decides, op_test_passes}
use Rattle.scan.specs.Open.{image_size_ok, size_test}
use Rattle.crash_images.specs.CrashImages.{max_crashes, total, count_reply, Crash, crash_number, crash_reply, left_by, point_reply, output_left, op_ok}
use Rattle.device.specs.ReadOps.{ops_of, first_other}
use Rattle.refusal.specs.Tests.{op_test}
use Rattle.crash_images.specs.InnerSteps.{GoodOps}
use Rattle.crash_images.proofs.BufferLaws.{good_ops}
use Rattle.call_crash_images.specs.InnerPut.{lent_tests, Tests}

or_none : (a : Bool) → (a || false) ≡ a
or_none true = refl
or_none false = refl

-- what is lent is as it has to be
pub record Fine (n room : ℕ) (buffer : List ℕ) : Type 0 where
  pub size : not (image_size_ok n) ≡ false
  pub same : room ≡ n
  pub ops : first_other (op_ok n) 0 buffer ≡ none

pub fine : (n room : ℕ) (buffer : List ℕ) → AllPass (lent_tests n room buffer) → Fine n room buffer
fine n room buffer p = record {
  size = (go (not (image_size_ok n)) (eqb room n) refl (first_passes p)).0;
  same = eqb-true room n (go (not (image_size_ok n)) (eqb room n) refl (first_passes p)).1;
  ops = op_test_passes (first_other (op_ok n) 0 buffer) (first_passes (rest_pass p));
}
  where
    go : (a b : Bool) → eqb room n ≡ b → (a || not b) ≡ false → (a ≡ false) × (b ≡ true)
    go false true e h = (refl, refl)
    go false false e h = absurd (false≢true (sym h))
    go true b e h = absurd (false≢true (sym h))

-- the words lent pass
pub passed : (n room : ℕ) (ops : List ℕ) {stores : ℕ} → Tests (lent_tests n room ops) (ops_of ops) (Ok stores)
    → Fine n room ops
passed n room ops t = fine n room ops (answered (lent_tests n room ops) (ok tt) tt (sym t.verdict)).0

pub fine_ops : {n room : ℕ} {buffer : List ℕ} → Fine n room buffer → GoodOps n buffer
fine_ops {n} {room} {buffer} f = good_ops n 0 buffer f.ops

-- counting
module _ (image buffer : List ℕ) where
  pub count_refused : {w : Why} → refused w ≡ verdict (lent_tests (length image) (length image) buffer)
      → refused w ≡ count_reply image buffer
  unfolding count_reply
  count_refused {w} h =
      sym (refusal_decides (size_test image ∷ op_test (first_other (op_ok (length image)) 0 buffer) ∷ []) tt refused
      (decide (test (ltb max_crashes (total image (ops_of buffer))) 22 0 ∷ []) refused
      (ok (total image (ops_of buffer))))
      (h ∙ rw (eq-eqb (length image) (length image) refl, or_none (not (image_size_ok (length image))))))

  module _ (f : Fine (length image) (length image) buffer) where
    pub count-over : max_crashes < total image (ops_of buffer) → refused (because 22 0) ≡ count_reply image buffer
    unfolding count_reply
    count-over h = rw (f.size, f.ops, lt-ltb max_crashes (total image (ops_of buffer)) h)

    pub count-granted : (r : ℕ) → r ≡ total image (ops_of buffer) → r ≤ max_crashes → ok r ≡ count_reply image buffer
    unfolding count_reply
    count-granted r e h = rw (f.size, f.ops, le-ltb max_crashes (total image (ops_of buffer)) (omega arith), e)

-- an image
module _ (image buffer : List ℕ) (i room : ℕ) where
  pub crash_refused : {w : Why} → refused w ≡ verdict (lent_tests (length image) room buffer)
      → crash_reply image buffer i room ≡ refused w
  unfolding crash_reply
  crash_refused {w} h = refusal_decides (lent_tests (length image) room buffer) tt refused
      (decide
      (test (ltb max_crashes (total image (ops_of buffer))) 22 0 ∷ test (leb (total image (ops_of buffer)) i) 23 0 ∷ [])
      refused (ok (crash_number image (ops_of buffer) i))) h

  module _ (f : Fine (length image) room buffer) where
    pub crash-over : max_crashes < total image (ops_of buffer)
        → crash_reply image buffer i room ≡ refused (because 22 0)
    unfolding crash_reply
    crash-over h =
        rw (f.size, eq-eqb room (length image) f.same, f.ops, lt-ltb max_crashes (total image (ops_of buffer)) h)

    pub crash-none : total image (ops_of buffer) ≤ max_crashes → total image (ops_of buffer) ≤ i
        → crash_reply image buffer i room ≡ refused (because 23 0)
    unfolding crash_reply
    crash-none h l = rw (
      f.size,
      eq-eqb room (length image) f.same,
      f.ops,
      le-ltb max_crashes (total image (ops_of buffer)) h,
      le-leb (total image (ops_of buffer)) i l,
    )

    pub crash-granted : total image (ops_of buffer) ≤ max_crashes → i < total image (ops_of buffer)
        → crash_reply image buffer i room ≡ ok (crash_number image (ops_of buffer) i)
    unfolding crash_reply
    crash-granted h l = rw (
      f.size,
      eq-eqb room (length image) f.same,
      f.ops,
      le-ltb max_crashes (total image (ops_of buffer)) h,
      lt-leb (total image (ops_of buffer)) i l,
    )

-- what the call says and leaves
module _ (image buffer : List ℕ) {r : Reply Crash} (output : List ℕ) where
  pub says_refused : {w : Why} → r ≡ refused w
      → (refused w ≡ point_reply r) × (output ≡ output_left image (ops_of buffer) r output)
  says_refused e = rw e (refl, refl)

  pub says_granted : {c : Crash} {v : Reply ℕ} → r ≡ ok c → v ≡ ok c.point → output ≡ left_by image (ops_of buffer) c
      → (old : List ℕ) → (v ≡ point_reply r) × (output ≡ output_left image (ops_of buffer) r old)
  says_granted e p h old = rw e (p, h)
