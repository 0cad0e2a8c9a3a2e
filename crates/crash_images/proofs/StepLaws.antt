-- The steps of specs/InnerSteps.antt are the module's: values, choices, counts, images.
use mathlib.Core.Path.{◌≡◌, refl, sym, ◌∙◌, subst, ap}
use mathlib.Core.List.{List, [], ◌∷◌, ◌++◌}
use mathlib.Core.Bool.{Bool, true, false, cond, ◌&&◌, ◌||◌, false≢true}
use Prim.Native.Nat.{ℕ, zero, suc, ◌+◌, ◌*◌, ◌/◌, ◌≤◌, ◌<◌}
use native.Mathlib.Omega.{arith}
use native.Mathlib.Nat.{mul_comm, mul_left_comm, mul-div_cancel_left}
use lib.ListN.{length, take, length-append}
use lib.Seq.{take-suc}
use lib.Dec.{eqb}
use borrow.Author.Tests.{eqb-true, eqb-false, eq-eqb, ne_eqb}
use Rattle.device.specs.Ops.{Op, store, flush}
use Rattle.device.specs.Crash.{Device, newest, settled, push, within, carry_op, carry, power_up}
use Rattle.device.proofs.CrashLaws.{carry_append}
use Rattle.crash_images.specs.CrashImages.{holds, add_choice, choices_of, choices, columns, ways_of, way_of, count_at, image_at, point_of}
use Rattle.crash_images.specs.declared.Entry.{Entry}
use Rattle.crash_images.specs.InnerSteps.{entry, op_at, newest_step, newest_at, flushed_step, flushed_at, in_table, without, entries_of, values_of, table_step, table_at, table_count, words_by, StoresIn}

-- one op more
pub point_suc : (image : List ℕ) (os : List Op) (k : ℕ) → k < length os
    → point_of image os (suc k) ≡ carry_op (op_at os k) (point_of image os k)
unfolding carry
point_suc image os k h = rw (take-suc os k (flush 0 0) h) (carry_append (take k os) (op_at os k ∷ []) (power_up image))

newest_step_lem : (w : ℕ) (o : Op) (d : Device) → newest_step o w (newest (d w)) ≡ newest (carry_op o d w)
unfolding carry_op
newest_step_lem w (store x v) d = go (eqb w x)
  where
    go : (b : Bool) → cond b v (newest (d w)) ≡ newest (cond b (push v (d w)) (d w))
    go true = refl
    go false = refl
newest_step_lem w (flush f c) d = go (within f c w)
  where
    go : (b : Bool) → newest (d w) ≡ newest (cond b (settled (newest (d w))) (d w))
    go true = refl
    go false = refl

flushed_step_lem : (w : ℕ) (o : Op) (d : Device)
    → flushed_step o w (newest (d w)) (d w).flushed ≡ (carry_op o d w).flushed
unfolding carry_op
flushed_step_lem w (store x v) d = go (eqb w x)
  where
    go : (b : Bool) → (d w).flushed ≡ (cond b (push v (d w)) (d w)).flushed
    go true = refl
    go false = refl
flushed_step_lem w (flush f c) d = go (within f c w)
  where
    go : (b : Bool) → cond b (newest (d w)) (d w).flushed ≡ (cond b (settled (newest (d w))) (d w)).flushed
    go true = refl
    go false = refl

pub newest_is : (image : List ℕ) (os : List Op) (k : ℕ) → k ≤ length os → (w : ℕ)
    → newest_at image os k w ≡ newest (point_of image os k w)
unfolding newest_at carry
newest_is image os zero h w = refl
newest_is image os (suc k) h w = ap (newest_step (op_at os k) w) (newest_is image os k (omega arith) w)
    ∙ newest_step_lem w (op_at os k) (point_of image os k)
    ∙ sym (ap (λ (d : Device). newest (d w)) (point_suc image os k h))

pub flushed_is : (image : List ℕ) (os : List Op) (k : ℕ) → k ≤ length os → (w : ℕ)
    → flushed_at image os k w ≡ (point_of image os k w).flushed
unfolding flushed_at carry
flushed_is image os zero h w = refl
flushed_is image os (suc k) h w =
    ap (λ (x : ℕ). flushed_step (op_at os k) w x (flushed_at image os k w)) (newest_is image os k (omega arith) w)
    ∙ ap (λ (x : ℕ). flushed_step (op_at os k) w (newest (point_of image os k w)) x)
    (flushed_is image os k (omega arith) w)
    ∙ flushed_step_lem w (op_at os k) (point_of image os k)
    ∙ sym (ap (λ (d : Device). (d w).flushed) (point_suc image os k h))

-- the table's values
or_swap : (a b c : Bool) → (a || (b || c)) ≡ (b || (a || c))
or_swap true true c = refl
or_swap true false c = refl
or_swap false true c = refl
or_swap false false c = refl

holds_after : (v y : ℕ) (xs : List ℕ) → holds v (xs ++ (y ∷ [])) ≡ (eqb v y || holds v xs)
unfolding holds
holds_after v y [] = refl
holds_after v y (x ∷ xs) =
    ap (λ (b : Bool). eqb v x || b) (holds_after v y xs) ∙ or_swap (eqb v x) (eqb v y) (holds v xs)

table_holds : (w v : ℕ) (t : List Entry) → in_table w v t ≡ holds v (values_of w t)
unfolding in_table values_of holds
table_holds w v [] = refl
table_holds w v (e ∷ t) = go (eqb w e.word) (table_holds w v t)
  where
    go : (b : Bool) → in_table w v t ≡ holds v (values_of w t)
        → ((b && eqb v e.value) || in_table w v t) ≡ holds v (cond b (values_of w t ++ (e.value ∷ [])) (values_of w t))
    go true r = ap (λ (b : Bool). eqb v e.value || b) r ∙ sym (holds_after v e.value (values_of w t))
    go false r = r

within_apart : (f c w x : ℕ) {a b : Bool} → within f c w ≡ a → within f c x ≡ b → (a ≡ b → ⊥) → eqb w x ≡ false
within_apart f c w x p q n = ne_eqb w x (λ e. n (sym p ∙ ap (within f c) e ∙ q))

without_in : (f c w : ℕ) (t : List Entry) → within f c w ≡ true → values_of w (without f c t) ≡ []
unfolding values_of without
without_in f c w [] h = refl
without_in f c w (e ∷ t) h = go (within f c e.word) refl (without_in f c w t h)
  where
    go : (b : Bool) → within f c e.word ≡ b → values_of w (without f c t) ≡ []
        → values_of w (cond b (without f c t) (e ∷ without f c t)) ≡ []
    go true p r = r
    go false p r = rw (within_apart f c w e.word h p (λ z. false≢true (sym z))) r

without_out : (f c w : ℕ) (t : List Entry) → within f c w ≡ false → values_of w (without f c t) ≡ values_of w t
unfolding values_of without
without_out f c w [] h = refl
without_out f c w (e ∷ t) h = go (within f c e.word) refl (without_out f c w t h)
  where
    go : (b : Bool) → within f c e.word ≡ b → values_of w (without f c t) ≡ values_of w t
        → values_of w (cond b (without f c t) (e ∷ without f c t))
        ≡ cond (eqb w e.word) (values_of w t ++ (e.value ∷ [])) (values_of w t)
    go true p r = rw (within_apart f c w e.word h p false≢true) r
    go false p r = rw r

-- a word's choices by the table
abbrev Shows : Device → List Entry → Type 0
Shows d t = (w : ℕ) → choices (d w) ≡ (d w).flushed ∷ values_of w t

add_shown : (v w : ℕ) (f : ℕ) (t : List Entry)
    → add_choice v (f ∷ values_of w t) ≡ f ∷ values_of w (cond (eqb v f || in_table w v t) t (entry w v ∷ t))
unfolding add_choice holds values_of
add_shown v w f t = rw (table_holds w v t) (go (eqb v f || holds v (values_of w t)))
  where
    go : (b : Bool)
        → cond b (f ∷ values_of w t) (f ∷ (values_of w t ++ (v ∷ []))) ≡ f ∷ values_of w (cond b t (entry w v ∷ t))
    go true = refl
    go false = rw (eq-eqb w w refl)

other_shown : (v w x : ℕ) (b : Bool) (t : List Entry) → eqb w x ≡ false
    → values_of w (cond b t (entry x v ∷ t)) ≡ values_of w t
unfolding values_of
other_shown v w x true t h = refl
other_shown v w x false t h = rw h

shows_step : (o : Op) (d : Device) (t : List Entry) → Shows d t
    → Shows (carry_op o d) (table_step o (λ w. (d w).flushed) t)
unfolding carry_op choices_of
shows_step (store x v) d t h w = go (eqb w x) refl
  where
    stored : List Entry
    stored = table_step (store x v) (λ y. (d y).flushed) t

    same : (y : ℕ) → y ≡ w
        → add_choice v (choices (d w))
        ≡ (d w).flushed ∷ values_of w (cond (eqb v (d y).flushed || in_table y v t) t (entry y v ∷ t))
    same y e = rw (e, h w) (add_shown v w (d w).flushed t)

    go : (b : Bool) → eqb w x ≡ b → choices (cond b (push v (d w)) (d w)) ≡ (cond b (push v (d w)) (d w)).flushed
        ∷ values_of w (cond (eqb v (d x).flushed || in_table x v t) t (entry x v ∷ t))
    go true e = same x (sym (eqb-true w x e))
    go false e = h w ∙ ap (λ (l : List ℕ). (d w).flushed ∷ l)
        (sym (other_shown v w x (eqb v (d x).flushed || in_table x v t) t e))
shows_step (flush f c) d t h w = go (within f c w) refl
  where
    go : (b : Bool) → within f c w ≡ b
        → choices (cond b (settled (newest (d w))) (d w))
        ≡ (cond b (settled (newest (d w))) (d w)).flushed ∷ values_of w (without f c t)
    go true e = rw (without_in f c w t e)
    go false e = h w ∙ ap (λ (l : List ℕ). (d w).flushed ∷ l) (sym (without_out f c w t e))

step_same : (o : Op) (f g : ℕ → ℕ) (t : List Entry) → ((w : ℕ) → f w ≡ g w) → table_step o f t ≡ table_step o g t
step_same (store x v) f g t h = rw (h x)
step_same (flush a c) f g t h = refl

pub shows_at : (image : List ℕ) (os : List Op) (k : ℕ) → k ≤ length os
    → Shows (point_of image os k) (table_at image os k)
unfolding table_at carry choices_of values_of
shows_at image os zero h = λ w. refl
shows_at image os (suc k) h = subst (λ (d : Device). Shows d (table_at image os (suc k))) (sym (point_suc image os k h))
    (subst (Shows (carry_op (op_at os k) (point_of image os k)))
    (step_same (op_at os k) _ _ (table_at image os k) (λ w. sym (flushed_is image os k (omega arith) w)))
    (shows_step (op_at os k) (point_of image os k) (table_at image os k) (shows_at image os k (omega arith))))

pub entries_values : (w : ℕ) (t : List Entry) → length (values_of w t) ≡ entries_of w t
unfolding values_of entries_of
entries_values w [] = refl
entries_values w (e ∷ t) = go (eqb w e.word) (entries_values w t)
  where
    go : (b : Bool) → length (values_of w t) ≡ entries_of w t
        → length (cond b (values_of w t ++ (e.value ∷ [])) (values_of w t))
        ≡ cond b (suc (entries_of w t)) (entries_of w t)
    go true r = rw length-append (omega arith)
    go false r = r

-- an image by the table
words_way : (d : Device) (flushed : ℕ → ℕ) (t : List Entry) → ((w : ℕ) → choices (d w) ≡ flushed w ∷ values_of w t)
    → (first n m : ℕ) → words_by flushed t first n m ≡ way_of (columns d first n) m
unfolding words_by columns way_of
words_way d flushed t h first zero m = refl
words_way d flushed t h first (suc n) m =
    rw (h first, size, words_way d flushed t h (suc first) n (m / (1 + entries_of first t)))
  where
    size : suc (length (values_of first t)) ≡ 1 + entries_of first t
    size = rw (entries_values first t) (omega arith)

pub image_by_steps : (image : List ℕ) (os : List Op) (k : ℕ) → k ≤ length os → (n m : ℕ)
    → words_by (flushed_at image os k) (table_at image os k) 0 n m ≡ image_at n (point_of image os k) m
image_by_steps image os k h n m = words_way (point_of image os k) (flushed_at image os k) (table_at image os k)
    (λ w. rw (flushed_is image os k h w) (shows_at image os k h w)) 0 n m

-- products over words
unfoldable pub prod : (ℕ → ℕ) → ℕ → ℕ → ℕ
prod f first zero = 1
prod f first (suc n) = f first * prod f (suc first) n

ways_prod : (d : Device) (f : ℕ → ℕ) → ((w : ℕ) → length (choices (d w)) ≡ f w) → (first n : ℕ)
    → ways_of (columns d first n) ≡ prod f first n
unfolding ways_of columns prod
ways_prod d f h first zero = refl
ways_prod d f h first (suc n) = rw (h first, ways_prod d f h (suc first) n)

prod_same : (f g : ℕ → ℕ) (first n : ℕ) → ((w : ℕ) → first ≤ w → g w ≡ f w) → prod g first n ≡ prod f first n
unfolding prod
prod_same f g first zero h = refl
prod_same f g first (suc n) h = rw (h first (omega arith), prod_same f g (suc first) n (λ w l. h w (omega arith)))

-- all but one word's factor
pub record Rest (f : ℕ → ℕ) (x first n : ℕ) : Type 0 where
  pub rest : ℕ
  pub whole : (g : ℕ → ℕ) → ((w : ℕ) → (w ≡ x → ⊥) → g w ≡ f w) → prod g first n ≡ g x * rest

pub prod_at : (f : ℕ → ℕ) (x first n : ℕ) → first ≤ x → x < first + n → Rest f x first n
unfolding prod
prod_at f x first zero h l = absurd (omega arith)
prod_at f x first (suc n) h l = go (eqb x first) refl (λ p q. prod_at f x (suc first) n p q)
  where
    go : (b : Bool) → eqb x first ≡ b → (suc first ≤ x → x < suc first + n → Rest f x (suc first) n)
        → Rest f x first (suc n)
    go true e r = let p = eqb-true x first e in record {
      rest = prod f (suc first) n;
      whole = λ g s. rw (p, prod_same f g (suc first) n (λ w k. s w (λ z. omega arith)));
    }
    go false e r = let apart = eqb-false x first e in
        let q = r (omega arith) (omega arith) in record {
          rest = f first * q.rest;
          whole = λ g s. rw (q.whole g s, s first (λ z. apart (sym z))) (mul_left_comm (f first) (g x) q.rest);
        }

-- a table's count
pub data Inside (n : ℕ) : List Entry → Type 0 where
  end : Inside n []
  and : {e : Entry} {t : List Entry} → e.word < n → Inside n t → Inside n (e ∷ t)

abbrev pub factor : List Entry → ℕ → ℕ
factor t w = 1 + entries_of w t

prod_one : (first n : ℕ) → prod (factor []) first n ≡ 1
unfolding prod entries_of
prod_one first zero = refl
prod_one first (suc n) = rw (prod_one (suc first) n)

count_step : (n : ℕ) (e : Entry) (t : List Entry) → e.word < n → table_count t ≡ prod (factor t) 0 n
    → table_count (e ∷ t) ≡ prod (factor (e ∷ t)) 0 n
unfolding table_count entries_of
count_step n e t h r = let p = prod_at (factor t) e.word 0 n (omega arith) (omega arith) in
    rw (r, p.whole (factor t) (λ w z. refl), mul-div_cancel_left p.rest {n = factor t e.word} (omega arith))
    (mul_comm p.rest (2 + entries_of e.word t) ∙ new p)
  where
    more : factor (e ∷ t) e.word ≡ 2 + entries_of e.word t
    more = rw (eq-eqb e.word e.word refl) (omega arith)

    new : (p : Rest (factor t) e.word 0 n) → (2 + entries_of e.word t) * p.rest ≡ prod (factor (e ∷ t)) 0 n
    new p = sym (p.whole (factor (e ∷ t)) (λ w z. rw (ne_eqb w e.word z)) ∙ ap (λ (y : ℕ). y * p.rest) more)

pub count_prod : (n : ℕ) {t : List Entry} → Inside n t → table_count t ≡ prod (factor t) 0 n
unfolding table_count entries_of
count_prod n end = sym (prod_one 0 n)
count_prod n (and {e} {t} h i) = count_step n e t h (count_prod n i)

pub inside_without : (n f c : ℕ) {t : List Entry} → Inside n t → Inside n (without f c t)
unfolding without
inside_without n f c end = end
inside_without n f c (and {e} {t} h i) = go (within f c e.word) (inside_without n f c i)
  where
    go : (b : Bool) → Inside n (without f c t) → Inside n (cond b (without f c t) (e ∷ without f c t))
    go true r = r
    go false r = and h r

inside_step : (n : ℕ) (o : Op) (flushed : ℕ → ℕ) {t : List Entry} → StoresIn n o → Inside n t
    → Inside n (table_step o flushed t)
inside_step n (store x v) flushed {t} h i = go (eqb v (flushed x) || in_table x v t)
  where
    go : (b : Bool) → Inside n (cond b t (entry x v ∷ t))
    go true = i
    go false = and h i
inside_step n (flush f c) flushed h i = inside_without n f c i

pub inside_at : (n : ℕ) (image : List ℕ) (os : List Op) → ((k : ℕ) → k < length os → StoresIn n (op_at os k)) → (k : ℕ)
    → k ≤ length os → Inside n (table_at image os k)
unfolding table_at
inside_at n image os s zero h = end
inside_at n image os s (suc k) h =
    inside_step n (op_at os k) (flushed_at image os k) (s k h) (inside_at n image os s k (omega arith))

pub count_by_steps : (n : ℕ) (image : List ℕ) (os : List Op) → ((k : ℕ) → k < length os → StoresIn n (op_at os k))
    → (k : ℕ) → k ≤ length os
    → table_count (table_at image os k) ≡ count_at n (point_of image os k)
count_by_steps n image os s k h = count_prod n (inside_at n image os s k h)
    ∙ sym (ways_prod (point_of image os k) (factor (table_at image os k)) size 0 n)
  where
    size : (w : ℕ) → length (choices (point_of image os k w)) ≡ factor (table_at image os k) w
    size w = rw (shows_at image os k h w, entries_values w (table_at image os k)) (omega arith)
