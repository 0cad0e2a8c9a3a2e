-- Slip 13: "At one cut point each possible image comes exactly once", where possible is `CrashImage`, of which the
-- crash theorem speaks; and the numbers below the total are those of the pairs of a crash point and an image there, in
-- rising order.
use Rattle.std.specs.Prelude.{◌≡◌, List, ◌⊎◌, ◌↔◌, ℕ, ◌≤◌, ◌<◌, length}
use Rattle.device.specs.Ops.{Op}
use Rattle.device.specs.Crash.{Device, CrashImage}
use Rattle.crash_images.specs.CrashImages.{count_at, image_at, point_of, total, Crash, crash_number}

-- P holds of one number below n, and of that one only
pub record OneBelow (n : ℕ) (P : ℕ → Type 0) : Type 0 where
  pub it : ℕ
  pub below : it < n
  pub is : P it
  pub only : (m : ℕ) → m < n → P m → m ≡ it

-- every number's image is possible; each possible image is that of one and only one number, and no other image is that
-- of just one
pub record EachOnceAt (n : ℕ) (d : Device) : Type 0 where
  pub possible : (m : ℕ) → m < count_at n d → CrashImage d n (image_at n d m)
  pub once : (image : List ℕ) → CrashImage d n image ↔ OneBelow (count_at n d) (λ m. image_at n d m ≡ image)

-- a crash before another: at an earlier point, or at the same one with a lower number
abbrev pub Before : Crash → Crash → Type 0
Before a b = (a.point < b.point) ⊎ ((a.point ≡ b.point) × (a.choice < b.choice))

-- a pair of a crash point and an image's number there
pub record IsCrash (image : List ℕ) (os : List Op) (c : Crash) : Type 0 where
  pub point : c.point ≤ length os
  pub choice : c.choice < count_at (length image) (point_of image os c.point)

unfoldable pub EachOnce : Type 0
EachOnce = (image : List ℕ) (os : List Op) (k : ℕ) → EachOnceAt (length image) (point_of image os k)

-- the numbers are the crashes
pub record Numbered (image : List ℕ) (os : List Op) : Type 0 where
  pub each : (i : ℕ) → i < total image os → IsCrash image os (crash_number image os i)
  pub all : (c : Crash) → IsCrash image os c → OneBelow (total image os) (λ i. crash_number image os i ≡ c)
  pub rising : (i j : ℕ) → i < j → j < total image os → Before (crash_number image os i) (crash_number image os j)

unfoldable pub AllNumbered : Type 0
AllNumbered = (image : List ℕ) (os : List Op) → Numbered image os
