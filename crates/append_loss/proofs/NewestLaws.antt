-- What is missing, by image and abstract log, and of a list without its newest.
-- Cites specs/LossBound.antt of loss.
use mathlib.Core.Path.{◌≡◌, refl, sym, ◌∙◌, subst}
use mathlib.Core.List.{List, [], ◌∷◌}
use mathlib.Core.Bool.{Bool, true, false, cond, false≢true}
use Prim.Native.Nat.{ℕ, ◌-◌, ◌≤◌}
use native.Mathlib.Omega.{arith}
use lib.ListN.{length, take}
use Rattle.journal.specs.CrashSafe.{System}
use Rattle.loss.specs.LossBound.{is_missing, missing, LosesAtMost}

missing_same : (s t : System) → s.image ≡ t.image → s.log ≡ t.log → (ks : List ℕ) → missing s ks ≡ missing t ks
unfolding missing
missing_same s t p q [] = refl
missing_same s t p q (k ∷ ks) = rw (missing_same s t p q ks, p, q)

pub loses_same : {F : ℕ} (s t : System) → s.image ≡ t.image → s.log ≡ t.log → (ks : List ℕ) → LosesAtMost F s ks
    → LosesAtMost F t ks
loses_same s t p q ks l = let e = missing_same s t p q ks in
    record { few = rw e at l.few; newest = rw e at l.newest }

-- the first of those missing is missing
first_missing : (s : System) (ks : List ℕ) (m : ℕ) (ms : List ℕ) → missing s ks ≡ m ∷ ms → is_missing s m ≡ true
unfolding missing
first_missing s [] m ms e = absurd (let z : ◌≡◌ {A = ℕ} 0 1 = cc in omega arith)
first_missing s (k ∷ ks) m ms e = go (is_missing s k) refl (first_missing s ks m ms) e
  where
    go : (b : Bool) → is_missing s k ≡ b → (missing s ks ≡ m ∷ ms → is_missing s m ≡ true)
        → cond b (k ∷ missing s ks) (missing s ks) ≡ m ∷ ms → is_missing s m ≡ true
    go true h later e = let z : k ≡ m = cc in subst (λ (j : ℕ). is_missing s j ≡ true) z h
    go false h later e = later e

-- those lost are the newest: without the newest of all, one fewer
pub loses_older : {F : ℕ} → 1 ≤ F → (s : System) (k : ℕ) (ks : List ℕ) → LosesAtMost F s (k ∷ ks)
    → LosesAtMost (F - 1) s ks
unfolding missing
loses_older {F} some-F s k ks l = go (is_missing s k) refl l.few l.newest
  where
    none_else : (ms : List ℕ) → missing s ks ≡ ms → is_missing s k ≡ false → ms ≡ take (length ms) (k ∷ ks)
        → LosesAtMost (F - 1) s ks
    none_else [] e h n = record { few = rw e (omega arith); newest = rw e }
    none_else (m ∷ ms) e h n =
        let z : m ≡ k = cc in
        absurd (false≢true (sym h ∙ subst (λ (j : ℕ). is_missing s j ≡ true) z (first_missing s ks m ms e)))

    go : (b : Bool) → is_missing s k ≡ b → length (cond b (k ∷ missing s ks) (missing s ks)) ≤ F
        → cond b (k ∷ missing s ks) (missing s ks)
        ≡ take (length (cond b (k ∷ missing s ks) (missing s ks))) (k ∷ ks)
        → LosesAtMost (F - 1) s ks
    go true h f n = record { few = omega arith; newest = cc }
    go false h f n = none_else (missing s ks) refl h n
