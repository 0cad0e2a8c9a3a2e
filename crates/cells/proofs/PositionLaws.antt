-- Where the records of a scan are: one after another in less than one round, so that no two hold one word, and none
-- holds the word at which the scan ends.
-- Cites crates/scan/specs/Scan.antt.
use mathlib.Core.Path.{◌≡◌, refl, sym, ap, ◌∙◌, subst}
use mathlib.Core.List.{List, [], ◌∷◌, ◌++◌}
use Prim.Native.Nat.{ℕ, zero, suc, ◌+◌, ◌%◌, ◌≤◌, ◌<◌}
use native.Mathlib.Omega.{arith}
use native.Mathlib.Nat.{add-zero, add_assoc}
use Rattle.refusal.specs.Tests.{Reply, ok, refused}
use Rattle.layout.specs.Record.{size_of}
use Rattle.layout.specs.Ring.{area_of, ring_word}
use Rattle.layout.proofs.RingLaws.{word_wrap, ring_eq}
use Rattle.scan.specs.declared.Cursor.{Cursor}
use Rattle.scan.specs.declared.Found.{Found}
use Rattle.scan.specs.Next.{Next, one, ended, next, behind}
use Rattle.scan.specs.Scan.{Scan, go_on, scan_from, scan_from_within}
use Rattle.scan.specs.Listed.{Among, here, there}
use Rattle.scan.proofs.FoundLaws.{next_found}
use Rattle.cells.specs.OneCell.{Holds}

among_middle : (zs : List Found) (r : Found) (rest : List Found) → Among r (zs ++ (r ∷ rest))
among_middle [] r rest = here
among_middle (z ∷ zs) r rest = there (among_middle zs r rest)

module _ (image : List ℕ) where
  abbrev c : ℕ
  c = area_of image

  -- a step past a record, in numbers
  pub record Moved (u : Cursor) (r : Found) (v : Cursor) : Type 0 where
    pub at : r.pos ≡ u.pos
    pub pos : v.pos ≡ (u.pos + size_of r.length) % c
    pub used : v.used ≡ u.used + size_of r.length
    pub room : u.used + size_of r.length + 1 ≤ c

  pub moved : (u : Cursor) (r : Found) (v : Cursor) → next image u ≡ ok (one r v) → Moved u r v
  unfolding behind
  moved u r v h =
      let s = next_found image u r v h in
      record {
        at = s.at;
        pos = ap (λ (x : Cursor). x.pos) s.behind_it;
        used = ap (λ (x : Cursor). x.used) s.behind_it;
        room = s.room;
      }

  -- the words from a cursor on, and from the one after a record
  step_words : (u : Cursor) (r : Found) (v : Cursor) → Moved u r v → (i : ℕ)
      → ring_word c (v.pos + i) ≡ ring_word c (u.pos + (size_of r.length + i))
  step_words u r v m i =
      ap (λ (p : ℕ). ring_word c (p + i)) m.pos
      ∙ word_wrap c (u.pos + size_of r.length) i
      ∙ ap (ring_word c) (add_assoc u.pos (size_of r.length) i)

  -- a record that a scan finds from a cursor on: d words after it, and with room for all
  pub record Placed (u : Cursor) (r : Found) : Type 0 where
    pub d : ℕ
    pub word : (i : ℕ) → ring_word c (r.pos + i) ≡ ring_word c (u.pos + (d + i))
    pub room : u.used + d + size_of r.length + 1 ≤ c

  pub placed : (n : ℕ) (u : Cursor) (r : Found) → Among r (scan_from n image u).found → Placed u r
  unfolding scan_from_within
  placed zero u r a = elim a [ ]
  placed (suc n) u r a = go (next image u) refl a (λ v. placed n v r)
    where
      go : (x : Reply Next) → next image u ≡ x → Among r (go_on (scan_from n image) u x).found
          → ((v : Cursor) → Among r (scan_from n image v).found → Placed v r) → Placed u r
      go (ok (one r v)) h here ih =
          let m = moved u r v h in
          record {
            d = 0;
            word = λ i. ap (ring_word c) {x = r.pos + i} {y = u.pos + (0 + i)} (omega arith);
            room = omega arith;
          }
      go (ok (one z v)) h (there k) ih =
          let m = moved u z v h in
          let p = ih v k in
          record {
            d = size_of z.length + p.d;
            word = λ i. p.word i ∙ step_words u z v m (p.d + i)
                ∙ ap (λ (j : ℕ). ring_word c (u.pos + j)) (sym (add_assoc (size_of z.length) p.d i));
            room = omega arith;
          }
      go (ok (ended _)) h k ih = elim k [ ]
      go (refused _) h k ih = elim k [ ]

  -- where a scan ended
  pub record EndsAt (u : Cursor) (s : Scan) : Type 0 where
    pub d : ℕ
    pub word : ring_word c s.at.pos ≡ ring_word c (u.pos + d)
    pub room : u.used + d < c

  pub ends_at : (n : ℕ) (u : Cursor) → u.used < c → EndsAt u (scan_from n image u)
  unfolding scan_from_within
  ends_at zero u l = record { d = 0; word = ap (ring_word c) (sym (add-zero u.pos)); room = omega arith }
  ends_at (suc n) u l = go (next image u) refl (λ v. ends_at n v)
    where
      go : (x : Reply Next) → next image u ≡ x → ((v : Cursor) → v.used < c → EndsAt v (scan_from n image v))
          → EndsAt u (go_on (scan_from n image) u x)
      go (ok (one z v)) h ih =
          let m = moved u z v h in
          let p = ih v (omega arith) in
          record { d = size_of z.length + p.d; word = p.word ∙ step_words u z v m p.d; room = omega arith }
      go (ok (ended k)) h ih = record { d = 0; word = ap (ring_word c) (sym (add-zero u.pos)); room = omega arith }
      go (refused w) h ih = record { d = 0; word = ap (ring_word c) (sym (add-zero u.pos)); room = omega arith }

  -- a word of a record, and one at least its size after its position, within one round: they differ
  differ : (u : Cursor) (r : Found) (v : Cursor) (w : ℕ) → Moved u r v → Holds c w r → (j : ℕ) → v.used + j < c
      → w ≡ ring_word c (v.pos + j) → ⊥
  differ u r v w m h j l e =
      let hi = h.inside in
      let e₁ : ring_word c (u.pos + h.index) ≡ ring_word c (u.pos + (size_of r.length + j)) =
      ap (λ (p : ℕ). ring_word c (p + h.index)) (sym m.at) ∙ sym h.is ∙ e ∙ step_words u r v m j in
      let same = ring_eq c u.pos (u.pos + h.index) (u.pos + (size_of r.length + j)) (omega arith) (omega arith)
      (omega arith) (omega arith) (omega arith) e₁ in
      omega arith

  -- no record found after one that holds a word holds it
  pub none_after : (u : Cursor) (r : Found) (v : Cursor) (w n : ℕ) → next image u ≡ ok (one r v) → Holds c w r
      → (y : Found) → Among y (scan_from n image v).found → Holds c w y → ⊥
  none_after u r v w n h hold y a other =
      let p = placed n v y a in
      let hi = other.inside in
      differ u r v w (moved u r v h) hold (p.d + other.index) (let k = p.room in omega arith)
      (other.is ∙ p.word other.index)

  -- nor is it the word at which the scan ends
  pub not_end : (u : Cursor) (r : Found) (v : Cursor) (w n : ℕ) → next image u ≡ ok (one r v) → Holds c w r
      → w ≡ ring_word c (scan_from n image v).at.pos → ⊥
  not_end u r v w n h hold e =
      let m = moved u r v h in
      let p = ends_at n v (omega arith) in
      differ u r v w m hold p.d p.room (e ∙ p.word)

  -- and no record found before it holds it
  pub none_before : (n : ℕ) (u : Cursor) (zs rest : List Found) (r : Found) (w : ℕ)
      → (scan_from n image u).found ≡ zs ++ (r ∷ rest) → Holds c w r
      → (z : Found) → Among z zs → Holds c w z → ⊥
  unfolding scan_from_within
  none_before zero u [] rest r w e hold z a other = elim a [ ]
  none_before (suc n) u [] rest r w e hold z a other = elim a [ ]
  none_before zero u (x ∷ zs) rest r w e hold z a other = let q : ◌≡◌ {A = ℕ} 0 1 = cc in omega arith
  none_before (suc n) u (x ∷ zs) rest r w e hold z a other =
      go (next image u) refl e a (λ v t m. none_before n v zs rest r w t hold z m other)
    where
      go : {x : Found} (y : Reply Next) → next image u ≡ y
          → (go_on (scan_from n image) u y).found ≡ x ∷ (zs ++ (r ∷ rest)) → Among z (x ∷ zs)
          → ((v : Cursor) → (scan_from n image v).found ≡ zs ++ (r ∷ rest) → Among z zs → ⊥) → ⊥
      go (ok (one k v)) h f here ih =
          let is : k ≡ z = cc in
          let t : (scan_from n image v).found ≡ zs ++ (r ∷ rest) = cc in
          none_after u z v w n (h ∙ ap (λ (q : Found). ok (one q v)) is) other r
          (subst (λ (l : List Found). Among r l) (sym t) (among_middle zs r rest)) hold
      go (ok (one k v)) h f (there m) ih = ih v (cc) m
      go (ok (ended k)) h f m ih = let q : ◌≡◌ {A = ℕ} 0 1 = cc in omega arith
      go (refused y) h f m ih = let q : ◌≡◌ {A = ℕ} 0 1 = cc in omega arith

  -- the first record of a scan
  pub record First (n : ℕ) (u : Cursor) (r : Found) (rest : List Found) : Type 0 where
    pub left : ℕ
    pub is : n ≡ suc left
    pub v : Cursor
    pub step : next image u ≡ ok (one r v)
    pub others : (scan_from left image v).found ≡ rest

  pub first : (n : ℕ) (u : Cursor) (r : Found) (rest : List Found) → (scan_from n image u).found ≡ r ∷ rest
      → First n u r rest
  unfolding scan_from_within
  first zero u r rest e = absurd (let q : ◌≡◌ {A = ℕ} 0 1 = cc in omega arith)
  first (suc n) u r rest e = go (next image u) refl e
    where
      go : (x : Reply Next) → next image u ≡ x → (go_on (scan_from n image) u x).found ≡ r ∷ rest
          → First (suc n) u r rest
      go (ok (one k v)) h f =
          let is : k ≡ r = cc in
          record { left = n; is = refl; v = v; step = h ∙ ap (λ (y : Found). ok (one y v)) is; others = cc }
      go (ok (ended k)) h f = absurd (let q : ◌≡◌ {A = ℕ} 0 1 = cc in omega arith)
      go (refused w) h f = absurd (let q : ◌≡◌ {A = ℕ} 0 1 = cc in omega arith)
