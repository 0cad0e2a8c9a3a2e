-- A table in a slice, the oldest entry first: what is counted and found in it, an entry put, and what a flush leaves.
-- Cites InnerTable.antt, and InnerSteps.antt of crash_images.
use mathlib.Core.Path.{◌≡◌, refl, sym, ◌∙◌, ap}
use mathlib.Core.Bool.{Bool, true, false, cond, ◌&&◌}
use mathlib.Core.List.{List, [], ◌∷◌, reverse}
use Prim.Native.Nat.{ℕ, suc, ◌+◌, ◌*◌, ◌≤◌, ◌<◌}
use native.Mathlib.Omega.{arith}
use native.Mathlib.Nat.{mul-le-mul, div-le_self}
use lib.ListN.{length, get_or, set, take, length-set, length-take, length-reverse}
use lib.Seq.{get_or-set_other}
use lib.Dec.{eqb}
use borrow.Author.Tests.{eqb-true, eqb-false, eq-eqb, ne_eqb}
use Rattle.std.proofs.lemmas.List.{length-take-le}
use Rattle.std.specs.List.{count_by, list_any}
use Rattle.std.proofs.lemmas.List.Recursion.{is_count_by}
use Rattle.std.proofs.lemmas.List.Sums.{count_by-le-length}
use Rattle.std.proofs.lemmas.List.Sorted.{sum_by-IsPermutation, list_any-IsPermutation, IsPermutation-reverse}
use Rattle.device.specs.Crash.{within}
use Rattle.crash_images.specs.declared.Entry.{Entry}
use Rattle.crash_images.specs.InnerSteps.{entry, entries_of, in_table, without, table_count}
use Rattle.crash_images.proofs.TableLaws.{newest_turn, newest_put}
use Rattle.crash_images.proofs.StepTotals.{count_kept}
use Rattle.crash_table.specs.InnerTable.{more_images}

-- the images of one entry more fit
pub more_fits : (images c : ℕ) → images ≤ 4096 → c ≤ 90 → more_images images c ≤ 4096 * 92
more_fits images c h k =
    let p = div-le_self images (1 + c) in
    mul-le-mul {n₂ = 4096} {m₂ = 92} (omega arith) (omega arith)

pub eqb_swap : (a b : ℕ) → eqb a b ≡ eqb b a
eqb_swap a b = go (eqb b a) refl
  where
    go : (c : Bool) → eqb b a ≡ c → eqb a b ≡ c
    go true e = eq-eqb a b (sym (eqb-true b a e))
    go false e = ne_eqb a b (λ z. eqb-false b a e (sym z))

-- a count does not depend on the order
pub count_is : (w : ℕ) (xs : List Entry) → count_by (λ e. eqb e.word w) xs ≡ entries_of w (reverse xs)
unfolding entries_of
count_is w xs =
    sym (sum_by-IsPermutation (λ e. cond (eqb e.word w) 1 0) xs (reverse xs) (IsPermutation-reverse xs))
    ∙ sym (is_count_by (entries_of w) (λ e. eqb e.word w) refl step (reverse xs))
  where
    more : (b : Bool) (n : ℕ) → cond b (suc n) n ≡ cond b (1 + n) n
    more true n = omega arith
    more false n = refl

    step : (e : Entry) (t : List Entry)
        → entries_of w (e ∷ t) ≡ cond (eqb e.word w) (1 + entries_of w t) (entries_of w t)
    step e t = rw (eqb_swap w e.word) (more (eqb e.word w) (entries_of w t))

pub count_below : (w n : ℕ) (xs : List Entry) → count_by (λ e. eqb e.word w) (take n xs) ≤ n
count_below w n xs = omega (arith, count_by-le-length (λ (e : Entry). eqb e.word w) (take n xs), length-take n xs)

-- nor does whether an entry is there
pub found_is : (e : Entry) (xs : List Entry)
    → list_any (λ x. eqb x.word e.word && eqb x.value e.value) xs ≡ in_table e.word e.value (reverse xs)
unfolding in_table
found_is e xs =
    list_any-IsPermutation (λ x. eqb x.word e.word && eqb x.value e.value) xs (reverse xs) (IsPermutation-reverse xs)
    ∙ same (reverse xs)
  where
    same : (t : List Entry)
        → list_any (λ x. eqb x.word e.word && eqb x.value e.value) t ≡ in_table e.word e.value t
    same [] = refl
    same (x ∷ t) = rw (eqb_swap x.word e.word, eqb_swap x.value e.value, same t)

-- a table has as many entries as it says
pub newest_length : (xs : List Entry) (len : ℕ) → len ≤ length xs → length (reverse (take len xs)) ≡ len
newest_length xs len h = length-reverse (take len xs) ∙ length-take-le len xs h

-- the images of one entry more
pub put_images : (xs : List Entry) (len : ℕ) (e : Entry) (images c r : ℕ) → len < length xs
    → images ≡ table_count (reverse (take len xs)) → c ≡ entries_of e.word (reverse (take len xs))
    → r ≡ more_images images c → r ≡ table_count (reverse (take (len + 1) (set xs len e)))
unfolding table_count
put_images xs len e images c r h i k p = p ∙ rw (newest_put xs len e h, i, k)

-- after j entries looked at: what a flush leaves of them is in front, and those after them are as they were
pub record Kept (first count : ℕ) (old : List Entry) (j : ℕ) (xs : List Entry) (kept made : ℕ) : Type 0 where
  pub table : reverse (take kept xs) ≡ without first count (reverse (take j old))
  pub images : made ≡ table_count (reverse (take kept xs))
  pub short : kept ≤ j
  pub long : length xs ≡ length old
  pub rest : (i : ℕ) → j ≤ i → get_or xs i (entry 0 0) ≡ get_or old i (entry 0 0)

pub kept_first : (first count : ℕ) (xs : List Entry) → Kept first count xs 0 xs 0 1
unfolding without table_count
kept_first first count xs = record {
  table = refl;
  images = refl;
  short = omega arith;
  long = refl;
  rest = λ i h. refl;
}

module _ (first count : ℕ) (old : List Entry) (j : ℕ) {xs : List Entry} {kept images : ℕ}
    (k : Kept first count old j xs kept images) (h : j < length xs) where
  pub kept_skips : within first count (get_or xs j (entry 0 0)).word ≡ true
      → Kept first count old (j + 1) xs kept images
  unfolding without
  kept_skips e = record {
    table = rw (newest_turn old j (entry 0 0) (omega (arith, k.long)), rw (k.rest j (omega arith)) at e) k.table;
    images = k.images;
    short = omega (arith, k.short);
    long = k.long;
    rest = λ i l. k.rest i (omega arith);
  }

  pub kept_puts : (c r : ℕ) → within first count (get_or xs j (entry 0 0)).word ≡ false
      → c ≡ entries_of (get_or xs j (entry 0 0)).word (reverse (take kept xs)) → r ≡ more_images images c
      → Kept first count old (j + 1) (set xs kept (get_or xs j (entry 0 0))) (kept + 1) r
  unfolding without
  kept_puts c r e p q = record {
    table = rw (
      newest_put xs kept (get_or xs j (entry 0 0)) (omega (arith, k.short)),
      newest_turn old j (entry 0 0) (omega (arith, k.long)),
      rw (k.rest j (omega arith)) at e,
      k.rest j (omega arith),
      k.table,
    );
    images = put_images xs kept (get_or xs j (entry 0 0)) images c r (omega (arith, k.short)) k.images p q;
    short = omega (arith, k.short);
    long = length-set xs kept (get_or xs j (entry 0 0)) ∙ k.long;
    rest = λ i l.
        get_or-set_other xs kept i (get_or xs j (entry 0 0)) (entry 0 0) (λ z. omega (arith, k.short))
        ∙ k.rest i (omega arith);
  }

  -- few images so far
  pub kept_few : (len : ℕ) → j ≤ len → table_count (reverse (take len old)) ≤ 4096 → images ≤ 4096
  kept_few len l m = omega (arith, k.images, ap table_count k.table, count_kept first count old j len l)
