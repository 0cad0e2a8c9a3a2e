-- The record that holds a word: there is one among those that a scan finds, or none, and there are no two.
-- Cites specs/OneCell.antt and PositionLaws.antt.
use mathlib.Core.Path.{◌≡◌, refl, sym, ap, ◌∙◌, subst}
use mathlib.Core.List.{List, [], ◌∷◌, ◌++◌}
use mathlib.Core.Logic.{◌⊎◌, inl, inr}
use mathlib.Core.Bool.{Bool, true, false}
use Prim.Native.Nat.{ℕ, zero, suc, ◌+◌, ◌<◌}
use native.Mathlib.Omega.{arith}
use native.Mathlib.Decide.{dec_lt}
use lib.Dec.{eqb}
use borrow.Author.Tests.{eqb-true, eqb-false}
use Rattle.layout.specs.Record.{size_of}
use Rattle.layout.specs.Ring.{area_of, ring_word}
use Rattle.state.specs.Table.{table_size}
use Rattle.scan.specs.declared.Found.{Found}
use Rattle.scan.specs.Open.{head_cursor}
use Rattle.scan.specs.Scan.{scan, scan_within}
use Rattle.scan.specs.Listed.{Among, here, there}
use Rattle.cells.specs.OneCell.{Holds, Holder, held, free, OneHolder}
use Rattle.cells.proofs.PositionLaws.{none_before}

-- one of n words from a position on is w, or none is
record Met (c w p n : ℕ) : Type 0 where
  pub index : ℕ
  pub inside : index < n
  pub is : w ≡ ring_word c (p + index)

abbrev Unmet : ℕ → ℕ → ℕ → ℕ → Type 0
Unmet c w p n = (i : ℕ) → i < n → w ≡ ring_word c (p + i) → ⊥

search_words : (c w p n : ℕ) → (Unmet c w p n) ⊎ (Met c w p n)
search_words c w p zero = inl (λ i l e. omega arith)
search_words c w p (suc n) = go (eqb w (ring_word c (p + n))) refl (search_words c w p n)
  where
    go : (b : Bool) → eqb w (ring_word c (p + n)) ≡ b → (Unmet c w p n) ⊎ (Met c w p n)
        → (Unmet c w p (suc n)) ⊎ (Met c w p (suc n))
    go true z s = inr (record { index = n; inside = omega arith; is = eqb-true w (ring_word c (p + n)) z })
    go false z (inr m) = inr (record { index = m.index; inside = let l = m.inside in omega arith; is = m.is })
    go false z (inl f) = inl (λ i l e. last i l e (dec_lt i n))
      where
        last : (i : ℕ) → i < suc n → w ≡ ring_word c (p + i) → Dec (i < n) → ⊥
        last i l e (yes k) = f i k e
        last i l e (no g) =
            eqb-false w (ring_word c (p + n)) z (e ∙ ap (λ (j : ℕ). ring_word c (p + j)) {x = i} {y = n} (omega arith))

holds_or_not : (c w : ℕ) (r : Found) → (Holds c w r → ⊥) ⊎ (Holds c w r)
holds_or_not c w r = go (search_words c w r.pos (size_of r.length))
  where
    go : (Unmet c w r.pos (size_of r.length)) ⊎ (Met c w r.pos (size_of r.length))
        → (Holds c w r → ⊥) ⊎ (Holds c w r)
    go (inl f) = inl (λ h. f h.index h.inside h.is)
    go (inr m) = inr (record { index = m.index; inside = m.inside; is = m.is })

data Among-holder (c w : ℕ) (rs : List Found) : Type 0 where
  some : (zs rest : List Found) (r : Found) → rs ≡ zs ++ (r ∷ rest) → Holds c w r → Among-holder c w rs
  none : ((r : Found) → Among r rs → Holds c w r → ⊥) → Among-holder c w rs

holder_among : (c w : ℕ) (rs : List Found) → Among-holder c w rs
holder_among c w [] = none nobody
  where
    nobody : (r : Found) → Among r [] → Holds c w r → ⊥
    nobody r m h = elim m [ ]
holder_among c w (x ∷ rs) = go (holds_or_not c w x) (holder_among c w rs)
  where
    go : (Holds c w x → ⊥) ⊎ (Holds c w x) → Among-holder c w rs → Among-holder c w (x ∷ rs)
    go (inr h) k = some [] rs x refl h
    go (inl f) (some zs rest r e h) = some (x ∷ zs) rest r (ap (λ (l : List Found). x ∷ l) e) h
    go (inl f) (none g) = none (λ r m h. each r m h)
      where
        each : (r : Found) → Among r (x ∷ rs) → Holds c w r → ⊥
        each r here h = f h
        each r (there m) h = g r m h

-- two records of a list that are the first of a kind are one
first_is_one : (P : Found → Type 0) (zs rest zs' rest' : List Found) (r r' : Found)
    → zs ++ (r ∷ rest) ≡ zs' ++ (r' ∷ rest')
    → ((z : Found) → Among z zs → P z → ⊥) → ((z : Found) → Among z zs' → P z → ⊥) → P r → P r' → (zs ≡ zs') × (r ≡ r')
first_is_one P [] rest [] rest' r r' e f g h h' = (refl, (cc))
first_is_one P [] rest (x ∷ zs') rest' r r' e f g h h' = let is : r ≡ x = cc in absurd (g x here (subst P is h))
first_is_one P (x ∷ zs) rest [] rest' r r' e f g h h' = let is : r' ≡ x = cc in absurd (f x here (subst P is h'))
first_is_one P (x ∷ zs) rest (x' ∷ zs') rest' r r' e f g h h' =
    let is : x ≡ x' = cc in
    let k = first_is_one P zs rest zs' rest' r r' (cc) (λ z m. f z (there m)) (λ z m. g z (there m)) h h' in
    let t = k.0 in
    ((cc), k.1)

pub one_holder : OneHolder
unfolding OneHolder scan_within
one_holder image w = (
  known (holder_among (area_of image) w (scan image).found),
  λ zs rest zs' rest' r r' e h e' h'.
      first_is_one (Holds (area_of image) w) zs rest zs' rest' r r' (sym e ∙ e')
      (none_before image (suc table_size) (head_cursor image) zs rest r w e h)
      (none_before image (suc table_size) (head_cursor image) zs' rest' r' w e' h') h h',
)
  where
    known : Among-holder (area_of image) w (scan image).found → Holder image w
    known (some zs rest r e h) = held zs rest r e h
    known (none f) = free f
