-- The theorems of specs/EachOnce.antt.
use mathlib.Core.Path.{◌≡◌, sym, ◌∙◌, subst}
use mathlib.Core.List.{List}
use Prim.Native.Nat.{ℕ}
use lib.ListN.{length}
use Rattle.device.specs.Ops.{Op}
use Rattle.device.specs.Crash.{Device, CrashImage, power_up}
use Rattle.crash_images.specs.CrashImages.{count_at, image_at, total, Crash, crash_number}
use Rattle.crash_images.specs.EachOnce.{OneBelow, EachOnceAt, IsCrash, EachOnce, Numbered, AllNumbered}
use Rattle.crash_images.proofs.WayLaws.{picks_way, way_picks, way_once, columns_good, crash_picks, picks_crash}
use Rattle.crash_images.proofs.PointLaws.{crash_among, crash_all, crash_rises, crash_inj}

pub each_once_at : (n : ℕ) (d : Device) → EachOnceAt n d
each_once_at n d = record {
  possible = λ m h. possible m;
  once = λ image. (is-once image, (λ o. subst (CrashImage d n) o.is (possible o.it)));
}
  where
    possible : (m : ℕ) → CrashImage d n (image_at n d m)
    possible m = picks_crash d n (way_picks (columns_good d 0 n) m)

    is-once : (image : List ℕ) → CrashImage d n image → OneBelow (count_at n d) (λ m. image_at n d m ≡ image)
    is-once image c = let p = picks_way (crash_picks d n c) in record {
      it = p.0;
      below = p.1;
      is = p.2;
      only = λ m h e. way_once (columns_good d 0 n) m p.0 h p.1 (e ∙ sym p.2);
    }

pub each_once : EachOnce
unfolding EachOnce
each_once image os k = each_once_at (length image) _

numbered : (image : List ℕ) (os : List Op) → Numbered image os
numbered image os = record {
  each = λ i h. let a = crash_among n os d i h in record { point = a.point; choice = a.choice };
  all = λ c a. has c a;
  rising = λ i j h k. crash_rises n os d i j h k;
}
  where
    n : ℕ
    n = length image

    d : Device
    d = power_up image

    has : (c : Crash) → IsCrash image os c → OneBelow (total image os) (λ i. crash_number image os i ≡ c)
    has c a =
        let r = crash_all (length image) os (power_up image) c.point c.choice a.point a.choice in record {
          it = r.0;
          below = r.1;
          is = r.2;
          only = λ j h e. crash_inj (length image) os (power_up image) j r.0 h r.1 (e ∙ sym r.2);
        }

pub all_numbered : AllNumbered
unfolding AllNumbered
all_numbered image os = numbered image os
