-- The ways to take one value of each column, by mixed radix: each is that of one number.
use mathlib.Core.Path.{◌≡◌, refl, sym, ◌∙◌, subst, ap}
use mathlib.Core.List.{List, [], ◌∷◌}
use Prim.Native.Nat.{ℕ, zero, suc, ◌+◌, ◌*◌, ◌/◌, ◌%◌, ◌≤◌, ◌<◌}
use native.Mathlib.Omega.{arith}
use native.Mathlib.Nat.{mul_comm, mul-suc, mul-le-mul, mul-le-mul_left, mod-lt, mod-eq_of_lt, div-eq_of_lt, add-mul-mod_self_left, add-mul-div_left, div-lt_iff_lt-mul, mod-add-div}
use lib.ListN.{length, get_or}
use Rattle.device.specs.Crash.{Device, In, CrashImage}
use Rattle.crash_images.specs.CrashImages.{columns, ways_of, way_of}
use Rattle.crash_images.proofs.ChoiceLaws.{Once, in_place, place_in, choices_once, choices_some, in_choices, choices_in}

-- values, one of each column
pub data Picks : List (List ℕ) → List ℕ → Type 0 where
  end : Picks [] []
  pick : {v : ℕ} {c : List ℕ} {cs : List (List ℕ)} {vs : List ℕ} → In v c → Picks cs vs → Picks (c ∷ cs) (v ∷ vs)

-- columns with a value or more each, none twice
pub data Good : List (List ℕ) → Type 0 where
  end : Good []
  and : {c : List ℕ} {cs : List (List ℕ)} → Once c → 0 < length c → Good cs → Good (c ∷ cs)

-- a digit a below l and a number m of the rest
module _ (l a m : ℕ) (h : a < l) where
  radix_lt : (w : ℕ) → m < w → a + l * m < l * w
  radix_lt w k = let p : l * suc m ≤ l * w = mul-le-mul_left l k in omega (arith, p, mul-suc l m)

  radix_digit : (a + l * m) % l ≡ a
  radix_digit = add-mul-mod_self_left a l m ∙ mod-eq_of_lt h

  radix_rest : (a + l * m) / l ≡ m
  radix_rest = let p : 0 < l = omega arith in rw (add-mul-div_left a m p, div-eq_of_lt h) (omega arith)

pub picks_way : {cs : List (List ℕ)} {vs : List ℕ} → Picks cs vs → (m : ℕ) × (m < ways_of cs) × (way_of cs m ≡ vs)
unfolding ways_of way_of
picks_way end = (0, omega arith, refl)
picks_way (pick {v} {c} {cs} {vs} i p) =
    let a = in_place i in let r = picks_way p in (
      a.0 + length c * r.0,
      radix_lt (length c) a.0 r.0 a.1 (ways_of cs) r.1,
      rw (radix_digit (length c) a.0 r.0 a.1, radix_rest (length c) a.0 r.0 a.1, a.2, r.2),
    )

pub way_picks : {cs : List (List ℕ)} → Good cs → (m : ℕ) → Picks cs (way_of cs m)
unfolding way_of
way_picks end m = end
way_picks (and {c} {cs} once some good) m =
    pick (place_in c (m % length c) (mod-lt m some)) (way_picks good (m / length c))

head_d : List ℕ → ℕ
head_d [] = 0
head_d (x ∷ xs) = x

tail_d : List ℕ → List ℕ
tail_d [] = []
tail_d (x ∷ xs) = xs

rest_below : (l w m : ℕ) → 0 < l → m < l * w → m / l < w
rest_below l w m h k = (div-lt_iff_lt-mul h).1 (rw (mul_comm w l) k)

pub way_once : {cs : List (List ℕ)} → Good cs → (m k : ℕ) → m < ways_of cs → k < ways_of cs → way_of cs m ≡ way_of cs k
    → m ≡ k
unfolding ways_of way_of
way_once end m k hm hk e = omega arith
way_once (and {c} {cs} once some good) m k hm hk e =
    let d : m % length c ≡ k % length c = once (m % length c) (k % length c) (mod-lt m some) (mod-lt k some) (cc) in
    let r : m / length c ≡ k / length c =
    way_once good (m / length c) (k / length c) (rest_below (length c) (ways_of cs) m some hm)
    (rest_below (length c) (ways_of cs) k some hk) (cc) in
    sym (mod-add-div m (length c)) ∙ rw (d, r) (mod-add-div k (length c))

-- a module's columns
pub columns_good : (d : Device) (first n : ℕ) → Good (columns d first n)
unfolding columns
columns_good d first zero = end
columns_good d first (suc n) = and (choices_once (d first).flushed (d first).since)
    (choices_some (d first).flushed (d first).since) (columns_good d (suc first) n)

-- and has an image at least
pub columns_some : (d : Device) (first n : ℕ) → 0 < ways_of (columns d first n)
unfolding columns ways_of
columns_some d first zero = omega arith
columns_some d first (suc n) =
    mul-le-mul {n₁ = 1} {m₁ = 1} (choices_some (d first).flushed (d first).since) (columns_some d (suc first) n)

-- what a crash may leave of a word; of an image's words, as the module's from first on
abbrev Left : Device → ℕ → ℕ → Type 0
Left d v w = In v ((d w).flushed ∷ (d w).since)

abbrev Fits : Device → ℕ → ℕ → List ℕ → Type 0
Fits d first n image = (w : ℕ) → w < n → Left d (get_or image w 0) (first + w)

at_zero : (first : ℕ) → first + 0 ≡ first
at_zero first = omega arith

at_suc : (first w : ℕ) → first + suc w ≡ suc first + w
at_suc first w = omega arith

zero_plus : (w : ℕ) → 0 + w ≡ w
zero_plus w = omega arith

picks_all : (d : Device) (first n : ℕ) (image : List ℕ) → length image ≡ n → Fits d first n image
    → Picks (columns d first n) image
unfolding columns
picks_all d first zero [] e f = end
picks_all d first zero (v ∷ vs) e f = absurd (omega arith)
picks_all d first (suc n) [] e f = absurd (omega arith)
picks_all d first (suc n) (v ∷ vs) e f = pick
    (in_choices (d first).flushed (d first).since (subst (Left d v) (at_zero first) (f 0 (omega arith))))
    (picks_all d (suc first) n vs (omega arith)
    (λ w h. subst (Left d (get_or vs w 0)) (at_suc first w) (f (suc w) (omega arith))))

all_picks : (d : Device) (first n : ℕ) {image : List ℕ} → Picks (columns d first n) image
    → (length image ≡ n) × Fits d first n image
unfolding columns
all_picks d first zero end = (refl, λ w h. absurd (omega arith))
all_picks d first (suc n) (pick {v} {vs = vs} i p) = go (all_picks d (suc first) n p)
  where
    word : Fits d (suc first) n vs → Fits d first (suc n) (v ∷ vs)
    word f zero h = subst (Left d v) (sym (at_zero first)) (choices_in (d first).flushed (d first).since i)
    word f (suc w) h = subst (Left d (get_or vs w 0)) (sym (at_suc first w)) (f w (omega arith))

    go : (length vs ≡ n) × Fits d (suc first) n vs → (suc (length vs) ≡ suc n) × Fits d first (suc n) (v ∷ vs)
    go r = (ap suc r.0, word r.1)

pub crash_picks : (d : Device) (n : ℕ) {image : List ℕ} → CrashImage d n image → Picks (columns d 0 n) image
crash_picks d n {image} c =
    picks_all d 0 n image c.size (λ w h. subst (Left d (get_or image w 0)) (sym (zero_plus w)) (c.word w h))

pub picks_crash : (d : Device) (n : ℕ) {image : List ℕ} → Picks (columns d 0 n) image → CrashImage d n image
picks_crash d n {image} p =
    let r = all_picks d 0 n p in
    record { size = r.0; word = λ w h. subst (Left d (get_or image w 0)) (zero_plus w) (r.1 w h) }
