-- The steps' sums: all crashes, the crash of a number, and how long a table can grow.
use mathlib.Core.Path.{◌≡◌, refl, sym, ◌∙◌, ap}
use mathlib.Core.List.{List, [], ◌∷◌, ◌++◌, reverse}
use mathlib.Core.Bool.{Bool, true, false, cond, ◌||◌}
use Prim.Native.Nat.{ℕ, zero, suc, ◌+◌, ◌-◌, ◌*◌, ◌≤◌, ◌<◌}
use native.Mathlib.Omega.{arith}
use native.Mathlib.Nat.{mul-zero, mul-le-mul, mul-add, add-mul}
use lib.ListN.{length, take, drop, take-append-drop}
use Rattle.std.proofs.lemmas.List.{take-take, reverse-append}
use lib.Dec.{ltb, eqb}
use borrow.Author.Tests.{ltb-true, ltb-false, lt-ltb, le-ltb, eq-eqb, ne_eqb}
use Rattle.device.specs.Ops.{Op, store, flush}
use Rattle.device.specs.Crash.{Device, within, carry_op, carry, power_up}
use Rattle.crash_images.specs.CrashImages.{count_at, total_of, total, Crash, later, crash_of, crash_number, image_left}
use Rattle.crash_images.specs.declared.Entry.{Entry}
use Rattle.crash_images.specs.InnerSteps.{entry, op_at, flushed_at, in_table, without, entries_of, table_step, table_at, table_count, crashes_before, words_by, StoresIn}
use Rattle.crash_images.proofs.StepLaws.{prod, Rest, prod_at, factor, Inside, end, and, count_prod, inside_without, inside_at, count_by_steps, image_by_steps}

-- the sum of g below k
unfoldable sum_below : (ℕ → ℕ) → ℕ → ℕ
sum_below g zero = 0
sum_below g (suc k) = sum_below g k + g k

sum_first : (g : ℕ → ℕ) (k : ℕ) → sum_below g (suc k) ≡ g 0 + sum_below (λ j. g (suc j)) k
unfolding sum_below
sum_first g zero = omega arith
sum_first g (suc k) = let r = sum_first g k in omega (arith, r)

sum_same : (f g : ℕ → ℕ) (k : ℕ) → ((j : ℕ) → j < k → f j ≡ g j) → sum_below f k ≡ sum_below g k
unfolding sum_below
sum_same f g zero h = refl
sum_same f g (suc k) h = rw (sum_same f g k (λ j l. h j (omega arith)), h k (omega arith))

-- the count at each point
abbrev counts : ℕ → List Op → Device → ℕ → ℕ
counts n os d k = count_at n (carry (take k os) d)

total_sum : (n : ℕ) (os : List Op) (d : Device) → total_of n os d ≡ sum_below (counts n os d) (suc (length os))
unfolding total_of carry sum_below
total_sum n [] d = omega arith
total_sum n (o ∷ os) d = ap (λ (x : ℕ). count_at n d + x) (total_sum n os (carry_op o d))
    ∙ sym (sum_first (counts n (o ∷ os) d) (suc (length os)))

abbrev at : ℕ → ℕ → Crash
at k m = record { point = k; choice = m }

crash_number_lem : (n : ℕ) (os : List Op) (d : Device) (k m : ℕ) → k ≤ length os → m < counts n os d k
    → crash_of n os d (sum_below (counts n os d) k + m) ≡ at k m
unfolding crash_of carry
crash_number_lem n [] d zero m h l = unfold sum_below in rw (zero_plus m)
  where
    zero_plus : (x : ℕ) → 0 + x ≡ x
    zero_plus x = omega arith
crash_number_lem n [] d (suc k) m h l = absurd (omega arith)
crash_number_lem n (o ∷ os) d zero m h l = unfold sum_below in rw (zero_plus m, lt-ltb m (count_at n d) l)
  where
    zero_plus : (x : ℕ) → 0 + x ≡ x
    zero_plus x = omega arith
crash_number_lem n (o ∷ os) d (suc k) m h l =
    go (crash_number_lem n os (carry_op o d) k m (omega arith) l) (sum_first (counts n (o ∷ os) d) k)
  where
    go : crash_of n os (carry_op o d) (sum_below (counts n os (carry_op o d)) k + m) ≡ at k m
        → sum_below (counts n (o ∷ os) d) (suc k) ≡ count_at n d + sum_below (counts n os (carry_op o d)) k
        → cond (ltb (sum_below (counts n (o ∷ os) d) (suc k) + m) (count_at n d))
        (at 0 (sum_below (counts n (o ∷ os) d) (suc k) + m))
        (later (crash_of n os (carry_op o d) (sum_below (counts n (o ∷ os) d) (suc k) + m - count_at n d)))
        ≡ at (suc k) m
    go r e = rw (le-ltb (sum_below (counts n (o ∷ os) d) (suc k) + m) (count_at n d) (omega arith), back) (ap later r)
      where
        back : sum_below (counts n (o ∷ os) d) (suc k) + m - count_at n d ≡ sum_below (counts n os (carry_op o d)) k + m
        back = omega arith

-- by the tables
module _ (image : List ℕ) (os : List Op) (stores : (k : ℕ) → k < length os → StoresIn (length image) (op_at os k)) where
  before_sum : (k : ℕ) → k ≤ suc (length os)
      → crashes_before image os k ≡ sum_below (counts (length image) os (power_up image)) k
  unfolding crashes_before sum_below
  before_sum zero h = refl
  before_sum (suc k) h = rw (before_sum k (omega arith), count_by_steps (length image) image os stores k (omega arith))

  pub total_by_steps : crashes_before image os (suc (length os)) ≡ total image os
  total_by_steps = before_sum (suc (length os)) (omega arith) ∙ sym (total_sum (length image) os (power_up image))

  -- the crash of a number that falls to point k
  pub crash_by_steps : (k m : ℕ) → k ≤ length os → m < table_count (table_at image os k)
      → crash_number image os (crashes_before image os k + m) ≡ record { point = k; choice = m }
  crash_by_steps k m h l = rw (before_sum k (omega arith)) (crash_number_lem (length image) os (power_up image) k m h
      (rw (count_by_steps (length image) image os stores k h) at l))

  -- and the image that it leaves
  pub left_by_steps : (k m : ℕ) → k ≤ length os → m < table_count (table_at image os k)
      → image_left image os (crashes_before image os k + m)
      ≡ words_by (flushed_at image os k) (table_at image os k) 0 (length image) m
  left_by_steps k m h l = rw (crash_by_steps k m h l) (sym (image_by_steps image os k h (length image) m))

-- an entry more: more images, and at most twice as many
prod_some : (f : ℕ → ℕ) (first n : ℕ) → ((w : ℕ) → 0 < f w) → 0 < prod f first n
unfolding prod
prod_some f first zero h = omega arith
prod_some f first (suc n) h = mul-le-mul {n₁ = 1} {m₁ = 1} (h first) (prod_some f (suc first) n h)

pos_right : (a r : ℕ) → 0 < a * r → 0 < r
pos_right a zero h = rw mul-zero at h
pos_right a (suc r) h = omega arith

grows : (c r x y : ℕ) → 0 < x → x ≡ (1 + c) * r → y ≡ (2 + c) * r → (x < y) × (y ≤ 2 * x)
grows c r x y h p q = let s : 0 < r = pos_right (1 + c) r (rw p at h) in
    (omega (arith, add-mul 1 c r, add-mul 2 c r), omega (arith, add-mul 1 c r, add-mul 2 c r))

pub count_some : (n : ℕ) {t : List Entry} → Inside n t → 0 < table_count t
count_some n {t} i = rw (count_prod n i) (prod_some (factor t) 0 n (λ w. omega arith))

pub count_grows : (n : ℕ) (e : Entry) (t : List Entry) → e.word < n → Inside n t
    → (table_count t < table_count (e ∷ t)) × (table_count (e ∷ t) ≤ 2 * table_count t)
unfolding entries_of
count_grows n e t h i = go (prod_at (factor t) e.word 0 n (omega arith) (omega arith))
  where
    more : factor (e ∷ t) e.word ≡ 2 + entries_of e.word t
    more = rw (eq-eqb e.word e.word refl) (omega arith)

    go : Rest (factor t) e.word 0 n → (table_count t < table_count (e ∷ t)) × (table_count (e ∷ t) ≤ 2 * table_count t)
    go r = grows (entries_of e.word t) r.rest (table_count t) (table_count (e ∷ t)) (count_some n i)
        (count_prod n i ∙ r.whole (factor t) (λ w z. refl))
        (count_prod n (and h i) ∙ r.whole (factor (e ∷ t)) (λ w z. rw (ne_eqb w e.word z))
        ∙ ap (λ (y : ℕ). y * r.rest) more)

-- a table of l entries has more than l images
pub count_long : (n : ℕ) {t : List Entry} → Inside n t → length t < table_count t
unfolding table_count
count_long n end = omega arith
count_long n (and {e} {t} h i) =
    let p : table_count t < table_count (e ∷ t) = (count_grows n e t h i).0 in
    let q : length t < table_count t = count_long n i in
    omega (arith, p, q)

prod_below : (f g : ℕ → ℕ) (first n : ℕ) → ((w : ℕ) → f w ≤ g w) → prod f first n ≤ prod g first n
unfolding prod
prod_below f g first zero h = omega arith
prod_below f g first (suc n) h = mul-le-mul (h first) (prod_below f g (suc first) n h)

-- after a flush a word has no more entries, and the table no more images
entries_without : (f c w : ℕ) (t : List Entry) → entries_of w (without f c t) ≤ entries_of w t
unfolding without entries_of
entries_without f c w [] = omega arith
entries_without f c w (e ∷ t) = go (within f c e.word) (entries_without f c w t)
  where
    more : (d : Bool) (x y : ℕ) → x ≤ y → x ≤ cond d (suc y) y
    more true x y h = omega arith
    more false x y h = h

    both : (d : Bool) (x y : ℕ) → x ≤ y → cond d (suc x) x ≤ cond d (suc y) y
    both true x y h = omega arith
    both false x y h = h

    go : (b : Bool) → entries_of w (without f c t) ≤ entries_of w t
        → entries_of w (cond b (without f c t) (e ∷ without f c t))
        ≤ cond (eqb w e.word) (suc (entries_of w t)) (entries_of w t)
    go true r = more (eqb w e.word) (entries_of w (without f c t)) (entries_of w t) r
    go false r = both (eqb w e.word) (entries_of w (without f c t)) (entries_of w t) r

pub count_without : (n f c : ℕ) {t : List Entry} → Inside n t → table_count (without f c t) ≤ table_count t
count_without n f c {t} i = rw (count_prod n (inside_without n f c i), count_prod n i)
    (prod_below (factor (without f c t)) (factor t) 0 n (λ w. omega (arith, entries_without f c w t)))

-- the oldest entries of a table have no more images than all of them
inside_tail : {n : ℕ} (newer t : List Entry) → Inside n (newer ++ t) → Inside n t
inside_tail [] t i = i
inside_tail (e ∷ newer) t (and h i) = inside_tail newer t i

count_tail : (n : ℕ) (newer t : List Entry) → Inside n (newer ++ t) → table_count t ≤ table_count (newer ++ t)
count_tail n [] t i = omega arith
count_tail n (e ∷ newer) t (and h i) =
    omega (arith, count_tail n newer t i, (count_grows n e (newer ++ t) h i).0)

-- every table's words are below some number
inside_more : {n m : ℕ} {t : List Entry} → n ≤ m → Inside n t → Inside m t
inside_more l end = end
inside_more l (and h i) = and (omega arith) (inside_more l i)

inside_some : (t : List Entry) → (n : ℕ) × Inside n t
inside_some [] = (0, end)
inside_some (e ∷ t) =
    let s = inside_some t in
    (suc (e.word + s.0), and (omega arith) (inside_more (omega arith) s.1))

-- what a flush leaves of the first j entries of a slice has no more images than its first len ones
pub count_kept : (f c : ℕ) (xs : List Entry) (j len : ℕ) → j ≤ len
    → table_count (without f c (reverse (take j xs))) ≤ table_count (reverse (take len xs))
count_kept f c xs j len h =
    let newer = reverse (drop j (take len xs)) in
    let older = reverse (take j xs) in
    let e : reverse (take len xs) ≡ newer ++ older =
    ap reverse (sym (take-append-drop j (take len xs)))
    ∙ rw (take-take j len xs h) (reverse-append (take j xs) (drop j (take len xs))) in
    let s = inside_some (newer ++ older) in
    rw e (omega (arith, count_without s.0 f c (inside_tail newer older s.1), count_tail s.0 newer older s.1))

short_without : (f c : ℕ) (t : List Entry) → length (without f c t) ≤ length t
unfolding without
short_without f c [] = omega arith
short_without f c (e ∷ t) = go (within f c e.word) (short_without f c t)
  where
    go : (b : Bool) → length (without f c t) ≤ length t
        → length (cond b (without f c t) (e ∷ without f c t)) ≤ suc (length t)
    go true r = omega arith
    go false r = omega arith

short_step : (o : Op) (flushed : ℕ → ℕ) (t : List Entry) → length (table_step o flushed t) ≤ suc (length t)
short_step (store x v) flushed t = go (eqb v (flushed x) || in_table x v t)
  where
    go : (b : Bool) → length (cond b t (entry x v ∷ t)) ≤ suc (length t)
    go true = omega arith
    go false = omega arith
short_step (flush f c) flushed t = let r = short_without f c t in omega (arith, r)

-- l entries have taken 1 + 2 + .. + (l + 1) crashes at least: a table of 90 entries is never full before the crashes
-- pass 4,096
square : (l m s c : ℕ) → m ≤ suc l → (l + 1) * (l + 2) ≤ 2 * s → m < c → (m + 1) * (m + 2) ≤ 2 * (s + c)
square l zero s c h k g = omega arith
square l (suc m) s c h k g =
    let p : (m + 1) * (m + 2) ≤ (l + 1) * (l + 2) = mul-le-mul (omega arith) (omega arith) in
    omega (arith, p, mul-add (suc m + 1) m 3, add-mul m 2 m, add-mul m 1 m, mul-add (m + 1) m 2)

module _ (n : ℕ) (image : List ℕ) (os : List Op) (stores : (k : ℕ) → k < length os → StoresIn n (op_at os k)) where
  pub table_square : (k : ℕ) → k ≤ length os
      → (length (table_at image os k) + 1) * (length (table_at image os k) + 2) ≤ 2 * crashes_before image os (suc k)
  unfolding table_at crashes_before
  table_square zero h = unfold table_count in omega arith
  table_square (suc k) h = square (length (table_at image os k)) (length (table_at image os (suc k)))
      (crashes_before image os (suc k)) (table_count (table_at image os (suc k)))
      (short_step (op_at os k) (flushed_at image os k) (table_at image os k)) (table_square k (omega arith))
      (count_long n (inside_at n image os stores (suc k) h))

  pub table_fits : (k : ℕ) → k ≤ length os → crashes_before image os (suc k) ≤ 4096 → length (table_at image os k) < 90
  table_fits k h c = go (ltb (length (table_at image os k)) 90) refl
    where
      l : ℕ
      l = length (table_at image os k)

      go : (b : Bool) → ltb (length (table_at image os k)) 90 ≡ b → length (table_at image os k) < 90
      go true p = ltb-true (length (table_at image os k)) 90 p
      go false p =
          let q : 91 * 92 ≤ (length (table_at image os k) + 1) * (length (table_at image os k) + 2) =
          mul-le-mul {n₁ = 91} {m₁ = 92} (omega (arith, ltb-false (length (table_at image os k)) 90 p))
          (omega (arith, ltb-false (length (table_at image os k)) 90 p)) in
          absurd (omega (arith, table_square k h))

  -- an op makes at most twice as many images
  pub count_step : (k : ℕ) → k < length os
      → table_count (table_at image os (suc k)) ≤ 2 * table_count (table_at image os k)
  unfolding table_at
  count_step k h = go (op_at os k) (stores k h)
    where
      inside : Inside n (table_at image os k)
      inside = inside_at n image os stores k (omega arith)

      stored : (b : Bool) (x v : ℕ) → x < n
          → table_count (cond b (table_at image os k) (entry x v ∷ table_at image os k))
          ≤ 2 * table_count (table_at image os k)
      stored true x v l = omega arith
      stored false x v l =
          (count_grows n (entry x v) (table_at image os k) l (inside_at n image os stores k (omega arith))).1

      go : (o : Op) → StoresIn n o
          → table_count (table_step o (flushed_at image os k) (table_at image os k))
          ≤ 2 * table_count (table_at image os k)
      go (store x v) l = stored (eqb v (flushed_at image os k x) || in_table x v (table_at image os k)) x v l
      go (flush f c) l = omega (arith, count_without n f c (inside_at n image os stores k (omega arith)))
