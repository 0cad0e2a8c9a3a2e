-- Reading an image of which one word was changed: other words are as they were, and a payload is cut at a word of it.
-- Cites crates/layout/specs/Ring.antt, and the theorem on bursts of crc_spec.
use mathlib.Core.Path.{◌≡◌, sym, ap, ap₂, ◌∙◌, subst}
use mathlib.Core.List.{List, [], ◌++◌, append_assoc, append-nil}
use Prim.Native.Nat.{ℕ, suc, ◌+◌, ◌-◌, ◌*◌, ◌%◌, ◌^◌, ◌≤◌, ◌<◌}
use native.Mathlib.Omega.{arith}
use native.Mathlib.Decide.{dec_le}
use lib.ListN.{length, set, take}
use lib.Seq.{take-append-le, take-append-add, get_or-set_other}
use Rattle.crc_spec.specs.Burst.{Within32}
use Rattle.crc_spec.specs.Bytes.{le_bytes}
use Rattle.crc_spec.specs.Crc.{crc32}
use Rattle.crc_spec.proofs.Burst.{burst_agrees, bytes_agree}
use Rattle.crc_spec.proofs.Laws.{length_le_bytes, take_le_bytes, le_bytes_bytes, append_bytes, take_bytes}
use Rattle.layout.specs.Record.{payload_words, record_check}
use Rattle.layout.specs.Ring.{ring_word, read_at, ring_bytes, payload_of}
use Rattle.layout.proofs.RingByteLaws.{ring_bytes_append, ring_bytes_same, ring_bytes_bytes, length_ring_bytes}

pub read_other : (image : List ℕ) (w v c p : ℕ) → (w ≡ ring_word c p → ⊥)
    → read_at (set image w v) c p ≡ read_at image c p
unfolding read_at
read_other image w v c p f = get_or-set_other image w (ring_word c p) v 0 (λ e. f (sym e))

-- ---------------------------------------------------------------- a payload cut at a word
-- how many of a word's bytes belong to k that are left
abbrev own : ℕ → ℕ
own k = 8 - (8 - k)

word_cut : (k x : ℕ) (rest : List ℕ) → take k (le_bytes 8 x ++ rest) ≡ le_bytes (own k) x ++ take (k - 8) rest
word_cut k x rest = go (dec_le k 8)
  where
    go : Dec (k ≤ 8) → take k (le_bytes 8 x ++ rest) ≡ le_bytes (own k) x ++ take (k - 8) rest
    go (yes l) =
        take-append-le k (le_bytes 8 x) rest (omega (arith, length_le_bytes 8 x))
        ∙ take_le_bytes k 8 x l
        ∙ sym (append-nil (le_bytes k x))
        ∙ ap (λ (a : ℕ). le_bytes a x ++ []) {x = k} {y = own k} (omega arith)
        ∙ ap (λ (b : ℕ). le_bytes (own k) x ++ take b rest) {x = 0} {y = k - 8} (omega arith)
    go (no f) =
        ap (λ (j : ℕ). take j (le_bytes 8 x ++ rest)) {x = k} {y = length (le_bytes 8 x) + (k - 8)}
        (omega (arith, length_le_bytes 8 x))
        ∙ take-append-add (le_bytes 8 x) rest (k - 8)
        ∙ ap (λ (a : ℕ). le_bytes a x ++ take (k - 8) rest) {x = 8} {y = own k} (omega arith)

module _ (c pos len q : ℕ) (inside : q < payload_words len) where
  abbrev left : ℕ
  left = len - q * 8

  abbrev pub t : ℕ
  t = own left

  abbrev m : ℕ
  m = payload_words len - q - 1

  abbrev before_in : List ℕ → List ℕ
  before_in image = ring_bytes image c (pos + 3) q

  abbrev after_in : List ℕ → List ℕ
  after_in image = take (left - 8) (ring_bytes image c (pos + 3 + q + 1) m)

  pub payload_cut : (image : List ℕ)
      → payload_of image c pos len ≡ before_in image ++ (le_bytes t (read_at image c (pos + 3 + q)) ++ after_in image)
  unfolding payload_of ring_bytes
  payload_cut image =
      ap (λ (n : ℕ). take len (ring_bytes image c (pos + 3) n)) {x = payload_words len} {y = q + suc m} (omega arith)
      ∙ ap (take len) (ring_bytes_append image c (pos + 3) q (suc m))
      ∙ ap (λ (j : ℕ). take j (before_in image ++ ring_bytes image c (pos + 3 + q) (suc m))) {x = len}
      {y = length (before_in image) + left} (omega (arith, length_ring_bytes image c (pos + 3) q))
      ∙ take-append-add (before_in image) (ring_bytes image c (pos + 3 + q) (suc m)) left
      ∙ ap (λ (l : List ℕ). before_in image ++ l)
      (word_cut left (read_at image c (pos + 3 + q)) (ring_bytes image c (pos + 3 + q + 1) m))

  -- two images whose payloads differ in that word alone
  module _ (old new : List ℕ)
      (others : (i : ℕ) → i < payload_words len → (i ≡ q → ⊥)
      → read_at new c (pos + 3 + i) ≡ read_at old c (pos + 3 + i)) where
    abbrev a : ℕ
    a = read_at old c (pos + 3 + q)

    abbrev b : ℕ
    b = read_at new c (pos + 3 + q)

    cut-new : payload_of new c pos len ≡ before_in old ++ (le_bytes t b ++ after_in old)
    cut-new =
        payload_cut new
        ∙ ap₂ (λ (x y : List ℕ). x ++ (le_bytes t b ++ take (left - 8) y))
        (ring_bytes_same new old c (pos + 3) q (λ i l. others i (omega arith) (omega arith)))
        (ring_bytes_same new old c (pos + 3 + q + 1) m
        (λ i l.
        subst (λ (p : ℕ). read_at new c p ≡ read_at old c p) {x = pos + 3 + (q + 1 + i)} {y = pos + 3 + q + 1 + i}
        (omega arith) (others (q + 1 + i) (omega arith) (omega arith))))

    -- they agree in the record's own bytes of it: the payload is the same
    pub same-payload : a % 2 ^ (t * 8) ≡ b % 2 ^ (t * 8) → payload_of new c pos len ≡ payload_of old c pos len
    same-payload e = cut-new ∙ ap (λ (l : List ℕ). before_in old ++ (l ++ after_in old)) (sym (bytes_agree t a b e))
        ∙ sym (payload_cut old)

    -- the words differ within 32 neighbouring bits, and the checks are equal: they agree in the record's own bytes
    pub same_check : (kind lsn p : ℕ) → Within32 p a b
        → record_check len kind lsn (payload_of new c pos len) ≡ record_check len kind lsn (payload_of old c pos len)
        → a % 2 ^ (t * 8) ≡ b % 2 ^ (t * 8)
    unfolding record_check
    same_check kind lsn p within same =
        burst_agrees t a b p head (after_in old)
        (append_bytes (le_bytes 4 len) _ (le_bytes_bytes 4 len)
        (append_bytes (le_bytes 2 kind) _ (le_bytes_bytes 2 kind)
        (append_bytes (le_bytes 8 lsn) (before_in old) (le_bytes_bytes 8 lsn) (ring_bytes_bytes old c (pos + 3) q))))
        (take_bytes (left - 8) _ (ring_bytes_bytes old c (pos + 3 + q + 1) m)) within
        (sym (grouped a) ∙ ap whole (sym (payload_cut old)) ∙ sym same ∙ ap whole cut-new ∙ grouped b)
      where
        head : List ℕ
        head = le_bytes 4 len ++ (le_bytes 2 kind ++ (le_bytes 8 lsn ++ before_in old))

        whole : List ℕ → ℕ
        whole bytes = crc32 (le_bytes 4 len ++ (le_bytes 2 kind ++ (le_bytes 8 lsn ++ bytes)))

        grouped : (x : ℕ)
            → whole (before_in old ++ (le_bytes t x ++ after_in old)) ≡ crc32 (head ++ (le_bytes t x ++ after_in old))
        grouped x = ap crc32
            (sym (regroup (le_bytes 4 len) (le_bytes 2 kind) (le_bytes 8 lsn) (before_in old)
            (le_bytes t x ++ after_in old)))
          where
            regroup : (s₁ s₂ s₃ s₄ s₅ : List ℕ) → (s₁ ++ (s₂ ++ (s₃ ++ s₄))) ++ s₅ ≡ s₁ ++ (s₂ ++ (s₃ ++ (s₄ ++ s₅)))
            regroup s₁ s₂ s₃ s₄ s₅ = simp append_assoc
