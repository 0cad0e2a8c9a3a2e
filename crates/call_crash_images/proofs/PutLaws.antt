-- The image put: the flushed values of all words, and then the choices of those in the table.
-- Cites InnerSteps.antt of crash_images, and InnerPut.antt.
use mathlib.Core.Path.{◌≡◌, refl, sym, ◌∙◌, ap, subst}
use mathlib.Core.Bool.{Bool, true, false, cond, ◌||◌}
use mathlib.Core.List.{List, [], ◌∷◌, ◌++◌, append_assoc, append-nil, map, reverse}
use Rattle.std.specs.Prelude.{Option, Some, None, unwrap_or}
use Rattle.std.specs.Option.{option_map, option_map_or}
use Rattle.std.specs.List.{filter, slice_get}
use Rattle.std.proofs.lemmas.Option.{slice_get-map, unwrap_or-slice_get}
use Rattle.std.proofs.lemmas.Grind.{reverse_onto}
use Rattle.crash_table.proofs.TableTurns.{eqb_swap}
use Prim.Native.Nat.{ℕ, zero, suc, ◌+◌, ◌-◌, ◌*◌, ◌/◌, ◌%◌, ◌≤◌, ◌<◌, min}
use native.Mathlib.Omega.{arith}
use native.Mathlib.Nat.{mod-one, div-one}
use native.Mathlib.Numerals.{add-one}
use lib.ListN.{length, get_or, set, take, length-set}
use lib.Seq.{take_all, take-suc, get_or-set_same, get_or-set_other}
use lib.Dec.{eqb}
use borrow.Author.Tests.{eqb-true, eqb-false, eq-eqb, ne_eqb}
use Rattle.device.specs.Ops.{Op, store, flush}
use Rattle.device.specs.Crash.{within}
use Rattle.crash_images.specs.CrashImages.{Crash, crash_number, image_left}
use Rattle.device.specs.ReadOps.{ops_of}
use Rattle.crash_images.specs.declared.Entry.{Entry}
use Rattle.crash_images.specs.InnerSteps.{op_at, newest_step, newest_at, flushed_step, flushed_at, entries_of, values_of, table_at, words_by, GoodOps}
use Rattle.crash_images.proofs.StepTotals.{crash_by_steps, left_by_steps}
use Rattle.crash_images.proofs.BufferLaws.{ops_at, ops_long}
use Rattle.crash_images.proofs.TableLaws.{fill_turn}
use Rattle.call_crash_images.specs.InnerPut.{IsFlush, LastStore, Finds, stores_to, stored_by, FlushedOf, FlushedWords, NextWord, PutsChoice}
use Rattle.call_crash_images.specs.declared.Found.{Found}

-- a word that none of the first k ops stores to has its first value
unstored : (image : List ℕ) (os : List Op) (k w : ℕ) → stored_by os k w ≡ false
    → (newest_at image os k w ≡ get_or image w 0) × (flushed_at image os k w ≡ get_or image w 0)
unfolding stored_by newest_at flushed_at
unstored image os zero w h = (refl, refl)
unstored image os (suc k) w h = go (unstored image os k w) (op_at os k) h
  where
    true-false : true ≡ false → ⊥
    true-false e = let z : ◌≡◌ {A = ℕ} 0 1 = cc in omega arith

    same : (b : Bool) {x y z : ℕ} → x ≡ z → y ≡ z → cond b x y ≡ z
    same true p q = p
    same false p q = q

    stored :
        (stored_by os k w ≡ false
        → (newest_at image os k w ≡ get_or image w 0) × (flushed_at image os k w ≡ get_or image w 0))
        → (b : Bool) (v : ℕ) → (b || stored_by os k w) ≡ false
        → (cond b v (newest_at image os k w) ≡ get_or image w 0) × (flushed_at image os k w ≡ get_or image w 0)
    stored r true v q = absurd (true-false q)
    stored r false v q = r q

    go :
        (stored_by os k w ≡ false
        → (newest_at image os k w ≡ get_or image w 0) × (flushed_at image os k w ≡ get_or image w 0))
        → (o : Op) → (stores_to o w || stored_by os k w) ≡ false
        → (newest_step o w (newest_at image os k w) ≡ get_or image w 0)
        × (flushed_step o w (newest_at image os k w) (flushed_at image os k w) ≡ get_or image w 0)
    go r (store x v) q = stored r (eqb w x) v q
    go r (flush f c) q = ((r q).0, same (within f c w) (r q).0 (r q).1)

-- the flushed values: those of words that the first j ops store to are put
abbrev pub FlushedTo : List ℕ → List Op → ℕ → ℕ → List ℕ → Type 0
FlushedTo image os k j output =
    (w : ℕ) → get_or output w 0 ≡ cond (stored_by os j w) (flushed_at image os k w) (get_or image w 0)

flushed_first : (image : List ℕ) (os : List Op) (k : ℕ) → FlushedTo image os k 0 image
unfolding stored_by
flushed_first image os k = λ w. refl

-- flushes store to no word
stored_before : (os : List Op) (j d w : ℕ) → ((i : ℕ) → j ≤ i → i < j + d → IsFlush (op_at os i))
    → stored_by os (j + d) w ≡ stored_by os j w
unfolding stored_by
stored_before os j zero w f = let z : j + 0 ≡ j = omega arith in rw z
stored_before os j (suc d) w f = let z : j + suc d ≡ suc (j + d) = omega arith in
    rw z (go (op_at os (j + d)) (f (j + d) (omega arith) (omega arith))
    ∙ stored_before os j d w (λ i a b. f i a (omega arith)))
  where
    go : (o : Op) → IsFlush o → (stores_to o w || stored_by os (j + d) w) ≡ stored_by os (j + d) w
    go (store x v) g = absurd g
    go (flush a c) g = refl

-- an image copied, and the word of op j put
pub flushed_start : (image : List ℕ) (os : List Op) (k : ℕ) (output : List ℕ) → output ≡ image
    → FlushedTo image os k 0 output
flushed_start image os k output e = subst (FlushedTo image os k 0) (sym e) (flushed_first image os k)

pub flushed_turn : (image : List ℕ) (os : List Op) (k j : ℕ) (output output' : List ℕ) → FlushedTo image os k j output
    → FlushedOf image os k j output output' → FlushedTo image os k (j + 1) output'
unfolding stored_by
flushed_turn image os k j output output' f g =
    λ w. rw (add-one j) (g.each w ∙ go w (stores_to (op_at os j) w) (f w))
  where
    go : (w : ℕ) (b : Bool) → get_or output w 0 ≡ cond (stored_by os j w) (flushed_at image os k w) (get_or image w 0)
        → cond b (flushed_at image os k w) (get_or output w 0)
        ≡ cond (b || stored_by os j w) (flushed_at image os k w) (get_or image w 0)
    go w true e = refl
    go w false e = e

-- no op after the last store matters
pub flushed_last : (image : List ℕ) (os : List Op) (k stores j : ℕ) (output : List ℕ) → LastStore os stores
    → k ≤ length os → j ≡ min k stores → FlushedTo image os k j output → FlushedTo image os k k output
flushed_last image os k stores j output l h e f = λ w. rw (same w) (f w)
  where
    same : (w : ℕ) → stored_by os k w ≡ stored_by os j w
    same w = let z : j + (k - j) ≡ k = omega arith in
        rw z at (stored_before os j (k - j) w (λ i a b. l.flushes i (omega arith) (omega arith)))

pub flushed_all : (image : List ℕ) (os : List Op) (k : ℕ) (output : List ℕ) → FlushedTo image os k k output
    → FlushedWords image os k output
flushed_all image os k output f = record { each = λ w. f w ∙ go w (stored_by os k w) refl }
  where
    go : (w : ℕ) (b : Bool) → stored_by os k w ≡ b
        → cond b (flushed_at image os k w) (get_or image w 0) ≡ flushed_at image os k w
    go w true e = refl
    go w false e = sym (unstored image os k w e).1

-- op j is a store, or a flush
module _ (image buffer : List ℕ) (k j : ℕ) (h : j * 3 + 3 ≤ length buffer) where
  pub flushed_store : (output : List ℕ) (v : ℕ) → get_or buffer (j * 3) 0 ≡ 1
      → get_or buffer (j * 3 + 1) 0 < length output
      → v ≡ flushed_at image (ops_of buffer) k (get_or buffer (j * 3 + 1) 0)
      → FlushedOf image (ops_of buffer) k j output (set output (get_or buffer (j * 3 + 1) 0) v)
  flushed_store output v tag l e = record {
    each = λ w. rw (ops_at buffer j (ops_long buffer j h), eq-eqb (get_or buffer (j * 3) 0) 1 tag)
        (go w (eqb w (get_or buffer (j * 3 + 1) 0)) refl);
  }
    where
      go : (w : ℕ) (b : Bool) → eqb w (get_or buffer (j * 3 + 1) 0) ≡ b
          → get_or (set output (get_or buffer (j * 3 + 1) 0) v) w 0
          ≡ cond b (flushed_at image (ops_of buffer) k w) (get_or output w 0)
      go w true p =
          let z = eqb-true w (get_or buffer (j * 3 + 1) 0) p in
          rw z (get_or-set_same output (get_or buffer (j * 3 + 1) 0) v 0 l ∙ e)
      go w false p =
          get_or-set_other output (get_or buffer (j * 3 + 1) 0) w v 0
          (λ z. eqb-false w (get_or buffer (j * 3 + 1) 0) p z)

  pub flushed_flush : (output : List ℕ) → (get_or buffer (j * 3) 0 ≡ 1 → ⊥)
      → FlushedOf image (ops_of buffer) k j output output
  flushed_flush output tag = record {
    each = λ w. rw (ops_at buffer j (ops_long buffer j h), ne_eqb (get_or buffer (j * 3) 0) 1 tag);
  }

-- the lowest word of a table
pub next_first : (from n : ℕ) → from ≤ n → NextWord [] from n n
unfolding entries_of
next_first from n h = record { above = h; below = omega arith; none = λ w a b. refl }

pub next_lower : (e : Entry) (t : List Entry) (from n best : ℕ) → NextWord t from n best → from ≤ e.word
    → NextWord (e ∷ t) from n (min best e.word)
unfolding entries_of
next_lower e t from n best i h = record {
  above = omega (arith, i.above);
  below = omega (arith, i.below);
  none = λ w a b. rw (ne_eqb w e.word (λ z. omega arith)) (i.none w a (omega arith));
}

pub next_other : (e : Entry) (t : List Entry) (from n best : ℕ) → NextWord t from n best → e.word < from
    → NextWord (e ∷ t) from n best
unfolding entries_of
next_other e t from n best i h = record {
  above = i.above;
  below = i.below;
  none = λ w a b. rw (ne_eqb w e.word (λ z. omega arith)) (i.none w a b);
}

-- the values of a word
values_append : (w : ℕ) (a b : List Entry) → values_of w (a ++ b) ≡ values_of w b ++ values_of w a
unfolding values_of
values_append w [] b = sym (append-nil (values_of w b))
values_append w (e ∷ a) b = go (eqb w e.word) (values_append w a b)
  where
    go : (c : Bool) → values_of w (a ++ b) ≡ values_of w b ++ values_of w a
        → cond c (values_of w (a ++ b) ++ (e.value ∷ [])) (values_of w (a ++ b))
        ≡ values_of w b ++ cond c (values_of w a ++ (e.value ∷ [])) (values_of w a)
    go true r = rw r (append_assoc (values_of w b) (values_of w a) (e.value ∷ []))
    go false r = r

pub values_is : (w : ℕ) (xs : List Entry)
    → values_of w (reverse xs) ≡ map (λ e. e.value) (filter (λ e. eqb e.word w) xs)
unfolding values_of
values_is w [] = refl
values_is w (x ∷ xs) =
    ap (values_of w) (reverse_onto xs x []) ∙ values_append w (reverse xs) (x ∷ [])
    ∙ rw (values_is w xs, eqb_swap w x.word) (go (eqb x.word w))
  where
    go : (c : Bool) → cond c (x.value ∷ []) [] ++ map (λ e. e.value) (filter (λ e. eqb e.word w) xs)
        ≡ map (λ e. e.value) (cond c (x ∷ filter (λ e. eqb e.word w) xs) (filter (λ e. eqb e.word w) xs))
    go true = refl
    go false = refl

-- and choice d of them, as the one before it of the entries
pub choice_is : {B : Type 0} (flushed w d : ℕ) (xs : List Entry) (r : Option B) (read : B → Entry) → (d ≡ 0 → ⊥)
    → option_map read r ≡ slice_get (filter (λ e. eqb e.word w) xs) (d - 1)
    → option_map_or (λ b. (read b).value) r 0 ≡ get_or (flushed ∷ values_of w (reverse xs)) d 0
choice_is flushed w zero xs r read h e = absurd (h refl)
choice_is {B} flushed w (suc d) xs r read h e =
    let z : suc d - 1 ≡ d = omega arith in
    value r ∙ rw (rw z at e, ← slice_get-map (λ (x : Entry). x.value) (filter (λ e. eqb e.word w) xs) d, values_is w xs)
    (unwrap_or-slice_get (map (λ (x : Entry). x.value) (filter (λ e. eqb e.word w) xs)) d 0)
  where
    value : (r : Option B)
        → option_map_or (λ b. (read b).value) r 0
        ≡ unwrap_or (option_map (λ (x : Entry). x.value) (option_map read r)) 0
    value None = refl
    value (Some b) = refl

-- a word's choice is put
pub put_choice_is : (t : List Entry) (w m c x : ℕ) (output : List ℕ) → c ≡ entries_of w t
    → x ≡ get_or (get_or output w 0 ∷ values_of w t) (m % (1 + c)) 0
    → PutsChoice t w m (m / (1 + c)) output (set output w x)
put_choice_is t w m c x output e q = record {
  put = ap (λ (y : ℕ). set output w y)
      (q ∙ ap (λ (n : ℕ). get_or (get_or output w 0 ∷ values_of w t) (m % (1 + n)) 0) e);
  rest = ap (λ (n : ℕ). m / (1 + n)) e;
}

-- words from w on are put as they were; those before them are done
pub record Filled (t : List Entry) (old : List ℕ) (m w rest : ℕ) (output : List ℕ) : Type 0 where
  pub size : length output ≡ length old
  pub same : (x : ℕ) → w ≤ x → get_or output x 0 ≡ get_or old x 0
  pub end : take w output ++ words_by (λ x. get_or old x 0) t w (length old - w) rest
      ≡ words_by (λ x. get_or old x 0) t 0 (length old) m

pub filled_first : (t : List Entry) (old : List ℕ) (m : ℕ) → Filled t old m 0 m old
filled_first t old m = record { size = refl; same = λ x h. refl; end = rw all }
  where
    all : length old - 0 ≡ length old
    all = omega arith

-- a word without entries is left as it is
module _ (t : List Entry) (old : List ℕ) (m rest : ℕ) (output : List ℕ) where
  filled_skip : (w : ℕ) → w < length old → entries_of w t ≡ 0 → Filled t old m w rest output
      → Filled t old m (suc w) rest output
  unfolding words_by
  filled_skip w h e f = record {
    size = f.size;
    same = λ x l. f.same x (omega arith);
    end = rw (take-suc output w 0 (omega (arith, f.size)))
        (append_assoc (take w output) (get_or output w 0 ∷ [])
        (words_by (λ x. get_or old x 0) t (suc w) (length old - suc w) rest)
        ∙ rw (f.same w (omega arith)) (sym skipped ∙ f.end));
  }
    where
      left : length old - w ≡ suc (length old - suc w)
      left = omega arith

      skipped : take w output ++ words_by (λ x. get_or old x 0) t w (length old - w) rest
          ≡ take w output ++ (get_or old w 0 ∷ words_by (λ x. get_or old x 0) t (suc w) (length old - suc w) rest)
      skipped = rw (left, e, mod-one rest, div-one rest)

  pub filled_to : (w d : ℕ) → w + d ≤ length old → ((x : ℕ) → w ≤ x → x < w + d → entries_of x t ≡ 0)
      → Filled t old m w rest output → Filled t old m (w + d) rest output
  filled_to w zero h e f = let z : w + 0 ≡ w = omega arith in rw z f
  filled_to w (suc d) h e f = let z : w + suc d ≡ suc (w + d) = omega arith in
      rw z (filled_skip (w + d) (omega arith) (e (w + d) (omega arith) (omega arith))
      (filled_to w d (omega arith) (λ x a b. e x a (omega arith)) f))

  -- the next word of the table
  pub filled_next : (w n next : ℕ) → n ≡ length old → NextWord t w n next → Filled t old m w rest output
      → Filled t old m next rest output
  filled_next w n next z i f = let e : w + (next - w) ≡ next = omega (arith, i.above) in
      rw e
      at (filled_to w (next - w) (omega (arith, i.above, i.below)) (λ x a b. i.none x a (omega (arith, i.above))) f)

  -- a word gets its choice
  pub filled_put : (w r : ℕ) (output' : List ℕ) → w < length old → Filled t old m w rest output
      → PutsChoice t w rest r output output' → Filled t old m (w + 1) r output'
  filled_put w r output' h f p = record {
    size = rw p.put (length-set output w _ ∙ f.size);
    same = λ x l. rw p.put (get_or-set_other output w x _ 0 (λ z. omega arith) ∙ f.same x (omega arith));
    end = rw (p.put, p.rest, add-one w)
        (fill_turn (λ x. get_or old x 0) t output w (length old - suc w) rest _ (omega (arith, f.size))
        (rw (f.same w (omega arith))) ∙ rw (← left) f.end);
  }
    where
      left : length old - w ≡ suc (length old - suc w)
      left = omega arith

  pub filled_all : (w : ℕ) → w ≡ length old → Filled t old m w rest output
      → output ≡ words_by (λ x. get_or old x 0) t 0 (length old) m
  unfolding words_by
  filled_all w e f = sym (take_all w output (omega (arith, f.size))) ∙ sym (append-nil (take w output))
      ∙ rw none at f.end
    where
      none : length old - w ≡ 0
      none = omega arith

-- images by the same flushed values are the same
pub words_same : (f g : ℕ → ℕ) (t : List Entry) (w count m : ℕ) → ((x : ℕ) → f x ≡ g x)
    → words_by f t w count m ≡ words_by g t w count m
unfolding words_by
words_same f g t w zero m h = refl
words_same f g t w (suc count) m h = rw (h w, words_same f g t (suc w) count (m / (1 + entries_of w t)) h)

-- the image of a crash that is found: its flushed values, and then its choices
module _ (image buffer : List ℕ) (good : GoodOps (length image) buffer) (i : ℕ) (r : Found) (t : List Entry)
    (f : Finds image (ops_of buffer) i r t) where
  number_at : crash_number image (ops_of buffer) i ≡ record { point = r.point; choice = r.choice }
  number_at =
      rw f.number (crash_by_steps image (ops_of buffer) good.each r.point r.choice f.point f.choice)

  pub found_point : r.point ≡ (crash_number image (ops_of buffer) i).point
  found_point = sym (ap (λ (c : Crash). c.point) number_at)

  pub found_image : {flushed output : List ℕ}
      → FlushedWords image (ops_of buffer) r.point flushed → length flushed ≡ length image
      → output ≡ words_by (λ w. get_or flushed w 0) t 0 (length flushed) r.choice
      → output ≡ image_left image (ops_of buffer) i
  found_image {flushed} {output} same size e = e
      ∙ rw (f.table, size)
      (words_same (λ w. get_or flushed w 0) (flushed_at image (ops_of buffer) r.point)
      (table_at image (ops_of buffer) r.point) 0 (length image) r.choice same.each)
      ∙ sym (left_by_steps image (ops_of buffer) good.each r.point r.choice f.point f.choice)
      ∙ ap (λ (n : ℕ). image_left image (ops_of buffer) n) (sym f.number)
