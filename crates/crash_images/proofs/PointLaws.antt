-- The crashes numbered: prefix sums over the points.
use mathlib.Core.Path.{◌≡◌, refl, sym, ap}
use mathlib.Core.List.{List, [], ◌∷◌}
use mathlib.Core.Bool.{Bool, true, false, cond}
use mathlib.Core.Logic.{inl, inr}
use Prim.Native.Nat.{ℕ, zero, suc, ◌+◌, ◌-◌, ◌≤◌, ◌<◌}
use native.Mathlib.Omega.{arith}
use lib.ListN.{length, take}
use lib.Dec.{ltb}
use borrow.Author.Tests.{ltb-true, ltb-false, lt-ltb, le-ltb}
use Rattle.device.specs.Ops.{Op}
use Rattle.device.specs.Crash.{Device, carry_op, carry}
use Rattle.crash_images.specs.CrashImages.{count_at, total_of, Crash, later, crash_of}
use Rattle.crash_images.proofs.WayLaws.{columns_some}
use Rattle.crash_images.specs.EachOnce.{Before}

abbrev at : ℕ → ℕ → Crash
at k m = record { point = k; choice = m }

-- a pair of a point and a number there, of any module
pub record Among (n : ℕ) (os : List Op) (d : Device) (c : Crash) : Type 0 where
  pub point : c.point ≤ length os
  pub choice : c.choice < count_at n (carry (take c.point os) d)

pub crash_among : (n : ℕ) (os : List Op) (d : Device) (i : ℕ) → i < total_of n os d → Among n os d (crash_of n os d i)
unfolding total_of crash_of carry
crash_among n [] d i h = record { point = omega arith; choice = h }
crash_among n (o ∷ os) d i h = go (ltb i (count_at n d)) refl (crash_among n os (carry_op o d) (i - count_at n d))
  where
    go : (b : Bool) → ltb i (count_at n d) ≡ b
        → (i - count_at n d < total_of n os (carry_op o d)
        → Among n os (carry_op o d) (crash_of n os (carry_op o d) (i - count_at n d)))
        → Among n (o ∷ os) d (cond b (at 0 i) (later (crash_of n os (carry_op o d) (i - count_at n d))))
    go true p f = record { point = omega arith; choice = ltb-true i (count_at n d) p }
    go false p f =
        let r = f (omega (arith, ltb-false i (count_at n d) p)) in
        record { point = omega (arith, r.point); choice = r.choice }

-- each pair has a number
pub crash_all : (n : ℕ) (os : List Op) (d : Device) (k m : ℕ) → k ≤ length os → m < count_at n (carry (take k os) d)
    → (i : ℕ) × (i < total_of n os d) × (crash_of n os d i ≡ at k m)
unfolding total_of crash_of carry
crash_all n [] d zero m h l = (m, l, refl)
crash_all n [] d (suc k) m h l = absurd (omega arith)
crash_all n (o ∷ os) d zero m h l = (m, omega arith, rw (lt-ltb m (count_at n d) l))
crash_all n (o ∷ os) d (suc k) m h l = go (crash_all n os (carry_op o d) k m (omega arith) l)
  where
    go : (i : ℕ) × (i < total_of n os (carry_op o d)) × (crash_of n os (carry_op o d) i ≡ at k m)
        → (i : ℕ) × (i < count_at n d + total_of n os (carry_op o d))
        × (cond (ltb i (count_at n d)) (at 0 i) (later (crash_of n os (carry_op o d) (i - count_at n d)))
        ≡ at (suc k) m)
    go r = (
      count_at n d + r.0,
      omega (arith, r.1),
      rw (le-ltb (count_at n d + r.0) (count_at n d) (omega arith), back) (ap later r.2),
    )
      where
        back : count_at n d + r.0 - count_at n d ≡ r.0
        back = omega arith

-- a crash's point is at most its number, since each point has an image
pub point_below : (n : ℕ) (os : List Op) (d : Device) (i : ℕ) → (crash_of n os d i).point ≤ i
unfolding crash_of
point_below n [] d i = omega arith
point_below n (o ∷ os) d i = go (ltb i (count_at n d)) refl (point_below n os (carry_op o d) (i - count_at n d))
  where
    go : (b : Bool) → ltb i (count_at n d) ≡ b
        → (crash_of n os (carry_op o d) (i - count_at n d)).point ≤ i - count_at n d
        → (cond b (at 0 i) (later (crash_of n os (carry_op o d) (i - count_at n d)))).point ≤ i
    go true p h = omega arith
    go false p h = omega (arith, h, ltb-false i (count_at n d) p, columns_some d 0 n)

before_later : (a b : Crash) → Before a b → Before (later a) (later b)
before_later a b (inl h) = inl (omega arith)
before_later a b (inr h) = inr (ap suc h.0, h.1)

-- and the numbers rise with the pairs
pub crash_rises : (n : ℕ) (os : List Op) (d : Device) (i j : ℕ) → i < j → j < total_of n os d
    → Before (crash_of n os d i) (crash_of n os d j)
unfolding total_of crash_of
crash_rises n [] d i j h l = inr (refl, h)
crash_rises n (o ∷ os) d i j h l = go (ltb i (count_at n d)) (ltb j (count_at n d)) refl refl
    (crash_rises n os (carry_op o d) (i - count_at n d) (j - count_at n d))
  where
    go : (b c : Bool) → ltb i (count_at n d) ≡ b → ltb j (count_at n d) ≡ c
        → (i - count_at n d < j - count_at n d → j - count_at n d < total_of n os (carry_op o d)
        → Before (crash_of n os (carry_op o d) (i - count_at n d)) (crash_of n os (carry_op o d) (j - count_at n d)))
        → Before (cond b (at 0 i) (later (crash_of n os (carry_op o d) (i - count_at n d))))
        (cond c (at 0 j) (later (crash_of n os (carry_op o d) (j - count_at n d))))
    go true true p q f = inr (refl, h)
    go true false p q f = inl (omega arith)
    go false true p q f = absurd (omega (arith, ltb-false i (count_at n d) p, ltb-true j (count_at n d) q))
    go false false p q f =
        before_later _ _ (f (omega (arith, ltb-false i (count_at n d) p, ltb-false j (count_at n d) q))
        (omega (arith, ltb-false j (count_at n d) q)))

not_before : (a b : Crash) → a ≡ b → Before a b → ⊥
not_before a b e (inl h) = let p : a.point ≡ b.point = ap (λ (c : Crash). c.point) e in omega arith
not_before a b e (inr h) = let p : a.choice ≡ b.choice = ap (λ (c : Crash). c.choice) e in omega (arith, h.1)

pub crash_inj : (n : ℕ) (os : List Op) (d : Device) (i j : ℕ) → i < total_of n os d → j < total_of n os d
    → crash_of n os d i ≡ crash_of n os d j → i ≡ j
crash_inj n os d i j h k e = go (ltb i j) (ltb j i) refl refl
  where
    go : (b c : Bool) → ltb i j ≡ b → ltb j i ≡ c → i ≡ j
    go true c p q = absurd (not_before _ _ e (crash_rises n os d i j (ltb-true i j p) k))
    go false true p q = absurd (not_before _ _ (sym e) (crash_rises n os d j i (ltb-true j i q) h))
    go false false p q = omega (arith, ltb-false i j p, ltb-false j i q)
