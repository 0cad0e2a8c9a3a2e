-- A word's choices are the values that a crash may leave there, each once.
use mathlib.Core.Path.{◌≡◌, refl, sym, ◌∙◌, subst}
use mathlib.Core.List.{List, [], ◌∷◌, ◌++◌}
use mathlib.Core.Bool.{Bool, true, false, cond, ◌||◌, false≢true}
use Prim.Native.Nat.{ℕ, zero, suc, ◌+◌, ◌<◌}
use native.Mathlib.Omega.{arith}
use lib.ListN.{length, get_or, length-append, get_or-append}
use lib.Seq.{get_or-append_seam}
use lib.Dec.{eqb, ltb}
use borrow.Author.Tests.{eqb-true, eqb-false, ltb-true, ltb-false}
use Rattle.device.specs.Crash.{In, here, there}
use Rattle.crash_images.specs.CrashImages.{holds, add_choice, choices_of}

pub holds_in : (v : ℕ) (xs : List ℕ) → holds v xs ≡ true → In v xs
unfolding holds
holds_in v [] e = absurd (false≢true e)
holds_in v (x ∷ xs) e = go (eqb v x) refl (holds_in v xs) e
  where
    go : (b : Bool) → eqb v x ≡ b → (holds v xs ≡ true → In v xs) → (b || holds v xs) ≡ true → In v (x ∷ xs)
    go true p f q = subst (λ (y : ℕ). In v (y ∷ xs)) (eqb-true v x p) here
    go false p f q = there (f q)

no_in_nil : {v : ℕ} → In v [] → ⊥
no_in_nil i = elim i [ ]

pub in_holds : (v : ℕ) (xs : List ℕ) → holds v xs ≡ false → In v xs → ⊥
unfolding holds
in_holds v [] e i = no_in_nil i
in_holds v (x ∷ xs) e i = go (eqb v x) refl (in_holds v xs) e i
  where
    out : {y : ℕ} → In v (y ∷ xs) → (v ≡ y → ⊥) → (In v xs → ⊥) → ⊥
    out here n f = n refl
    out (there m) n f = f m

    go : (b : Bool) → eqb v x ≡ b → (holds v xs ≡ false → In v xs → ⊥) → (b || holds v xs) ≡ false → In v (x ∷ xs) → ⊥
    go true p f q m = false≢true (sym q)
    go false p f q m = out m (eqb-false v x p) (f q)

-- a value after the first stays after one more
in_second : {x v : ℕ} {xs : List ℕ} (y : ℕ) → In x (v ∷ xs) → In x (v ∷ (y ∷ xs))
in_second y here = here
in_second y (there m) = there (there m)

-- by cases
in_either : {x y : ℕ} {ys : List ℕ} {A : Type 0} → In x (y ∷ ys) → (x ≡ y → A) → (In x ys → A) → A
in_either here f g = f refl
in_either (there m) f g = g m

in_here : {x y : ℕ} {ys : List ℕ} → x ≡ y → In x (y ∷ ys)
in_here {x} {y} {ys} e = subst (λ (z : ℕ). In x (z ∷ ys)) e here

-- where a value stands
pub in_place : {v : ℕ} {xs : List ℕ} → In v xs → (i : ℕ) × (i < length xs) × (get_or xs i 0 ≡ v)
in_place here = (0, omega arith, refl)
in_place (there m) = let p = in_place m in (suc p.0, omega (arith, p.1), p.2)

pub place_in : (xs : List ℕ) (i : ℕ) → i < length xs → In (get_or xs i 0) xs
place_in [] i h = absurd (omega arith)
place_in (x ∷ xs) zero h = here
place_in (x ∷ xs) (suc i) h = there (place_in xs i (omega arith))

-- no value twice
abbrev pub Once : List ℕ → Type 0
Once xs = (i j : ℕ) → i < length xs → j < length xs → get_or xs i 0 ≡ get_or xs j 0 → i ≡ j

once_one : (v : ℕ) → Once (v ∷ [])
once_one v i j h k e = omega arith

module _ (xs : List ℕ) (v : ℕ) (once : Once xs) (new : In v xs → ⊥) where
  once_after : Once (xs ++ (v ∷ []))
  once_after i j h k e = go (ltb i (length xs)) (ltb j (length xs)) refl refl
    where
      hi : i < length xs + 1
      hi = rw length-append at h

      hj : j < length xs + 1
      hj = rw length-append at k

      last : (n : ℕ) → n ≡ length xs → get_or (xs ++ (v ∷ [])) n 0 ≡ v
      last n p = rw p (get_or-append_seam xs v [] 0)

      first : (n : ℕ) → n < length xs → get_or (xs ++ (v ∷ [])) n 0 ≡ get_or xs n 0
      first n p = get_or-append xs (v ∷ []) 0 n p

      go : (b c : Bool) → ltb i (length xs) ≡ b → ltb j (length xs) ≡ c → i ≡ j
      go true true p q = once i j (ltb-true i (length xs) p) (ltb-true j (length xs) q)
          (sym (first i (ltb-true i (length xs) p)) ∙ e ∙ first j (ltb-true j (length xs) q))
      go true false p q = absurd (new (subst (λ (y : ℕ). In y xs) (sym (first i (ltb-true i (length xs) p)) ∙ e
          ∙ last j (omega (arith, hj, ltb-false j (length xs) q))) (place_in xs i (ltb-true i (length xs) p))))
      go false true p q = absurd (new (subst (λ (y : ℕ). In y xs) (sym (first j (ltb-true j (length xs) q)) ∙ sym e
          ∙ last i (omega (arith, hi, ltb-false i (length xs) p))) (place_in xs j (ltb-true j (length xs) q))))
      go false false p q = omega (arith, hi, hj, ltb-false i (length xs) p, ltb-false j (length xs) q)

in_front : {x : ℕ} {xs : List ℕ} (ys : List ℕ) → In x xs → In x (xs ++ ys)
in_front ys here = here
in_front ys (there m) = there (in_front ys m)

in_last : (x : ℕ) (xs : List ℕ) → In x (xs ++ (x ∷ []))
in_last x [] = here
in_last x (y ∷ xs) = there (in_last x xs)

in_after : {x v : ℕ} (xs : List ℕ) → In x (xs ++ (v ∷ [])) → In x (v ∷ xs)
in_after [] m = m
in_after {x} {v} (y ∷ xs) m = in_either m (λ e. there (in_here e)) (λ k. in_second y (in_after xs k))

pub in_add_old : {x : ℕ} (v : ℕ) (xs : List ℕ) → In x xs → In x (add_choice v xs)
unfolding add_choice
in_add_old {x} v xs m = go (holds v xs)
  where
    go : (b : Bool) → In x (cond b xs (xs ++ (v ∷ [])))
    go true = m
    go false = in_front (v ∷ []) m

pub in_add_new : (v : ℕ) (xs : List ℕ) → In v (add_choice v xs)
unfolding add_choice
in_add_new v xs = go (holds v xs) refl
  where
    go : (b : Bool) → holds v xs ≡ b → In v (cond b xs (xs ++ (v ∷ [])))
    go true p = holds_in v xs p
    go false p = in_last v xs

pub in_add_back : {x : ℕ} (v : ℕ) (xs : List ℕ) → In x (add_choice v xs) → In x (v ∷ xs)
unfolding add_choice
in_add_back {x} v xs m = go (holds v xs) m
  where
    go : (b : Bool) → In x (cond b xs (xs ++ (v ∷ []))) → In x (v ∷ xs)
    go true k = there k
    go false k = in_after xs k

pub once_add : (v : ℕ) (xs : List ℕ) → Once xs → Once (add_choice v xs)
unfolding add_choice
once_add v xs once = go (holds v xs) refl
  where
    go : (b : Bool) → holds v xs ≡ b → Once (cond b xs (xs ++ (v ∷ [])))
    go true p = once
    go false p = once_after xs v once (in_holds v xs p)

pub some_add : (v : ℕ) (xs : List ℕ) → 0 < length xs → 0 < length (add_choice v xs)
unfolding add_choice
some_add v xs h = go (holds v xs)
  where
    go : (b : Bool) → 0 < length (cond b xs (xs ++ (v ∷ [])))
    go true = h
    go false = rw length-append (omega arith)

-- the choices: none twice, at least one, and just the values that the cell may show
pub choices_once : (flushed : ℕ) (vs : List ℕ) → Once (choices_of flushed vs)
unfolding choices_of
choices_once flushed [] = once_one flushed
choices_once flushed (v ∷ vs) = once_add v (choices_of flushed vs) (choices_once flushed vs)

pub choices_some : (flushed : ℕ) (vs : List ℕ) → 0 < length (choices_of flushed vs)
unfolding choices_of
choices_some flushed [] = omega arith
choices_some flushed (v ∷ vs) = some_add v (choices_of flushed vs) (choices_some flushed vs)

pub in_choices : {x : ℕ} (flushed : ℕ) (vs : List ℕ) → In x (flushed ∷ vs) → In x (choices_of flushed vs)
unfolding choices_of
in_choices flushed [] m = m
in_choices {x} flushed (v ∷ vs) m = in_either m
    (λ e. in_add_old v (choices_of flushed vs) (in_choices flushed vs (in_here e)))
    (λ k. in_either k
    (λ e. subst (λ (y : ℕ). In y (add_choice v (choices_of flushed vs))) (sym e) (in_add_new v (choices_of flushed vs)))
    (λ j. in_add_old v (choices_of flushed vs) (in_choices flushed vs (there j))))

pub choices_in : {x : ℕ} (flushed : ℕ) (vs : List ℕ) → In x (choices_of flushed vs) → In x (flushed ∷ vs)
unfolding choices_of
choices_in flushed [] m = m
choices_in {x} flushed (v ∷ vs) m = in_either (in_add_back v (choices_of flushed vs) m)
    (λ e. there (in_here e))
    (λ k. in_second v (choices_in flushed vs k))
