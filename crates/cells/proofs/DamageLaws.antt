-- A record that a step finds in one image, and of which another image has one word changed: which test is the first
-- that fails there. The other words are those of the first image, where every test passes
-- (crates/scan/proofs/FrameLaws.antt has the law where nothing that the step reads is changed).
-- Cites crates/scan/specs/Next.antt.
use mathlib.Core.Path.{◌≡◌, refl, sym, subst}
use mathlib.Core.List.{List, [], ◌∷◌}
use mathlib.Core.Bool.{Bool, true, false, cond, not, ◌||◌}
use Prim.Native.Nat.{ℕ, ◌+◌, ◌≤◌, ◌<◌}
use native.Mathlib.Omega.{arith}
use lib.ListN.{length}
use lib.Dec.{leb, ltb, eqb}
use borrow.Author.Tests.{eqb-true, eqb-false, eq-eqb, ne_eqb, lt-ltb, le-ltb, ltb-false, not-false}
use Rattle.refusal.specs.Tests.{damaged_by, Reply, ok, refused, Test, test, damage_test, decide}
use Rattle.refusal.specs.declared.Why.{Why}
use Rattle.refusal.proofs.TestLaws.{AllPass, and, first_passes, rest_pass, answered}
use Rattle.layout.specs.Record.{size_of, mark_of, kind_of, length_of, check_of, epoch_of, record_check, max_payload, no_more_lsn}
use Rattle.layout.specs.Ring.{area_of, read_at, payload_of}
use Rattle.scan.specs.declared.Cursor.{Cursor}
use Rattle.scan.specs.declared.Found.{Found}
use Rattle.scan.specs.Open.{size_test}
use Rattle.scan.specs.Next.{Next, one, ended, found_at, damage_tests, step_tests_within, step_within, behind, cursor_ok_within, next_within}
use Rattle.scan.proofs.FoundLaws.{positive}

-- ---------------------------------------------------------------- the tests of a step, as words 0 to 2 and a check
-- make them
module _ (limit c : ℕ) (u : Cursor) where
  abbrev rows : ℕ → ℕ → ℕ → ℕ → List Test
  rows w0 w1 w2 check =
      test (leb limit u.count) 13 u.lsn
      ∷ damage_test (ltb 2 (mark_of w0)) 1 u.lsn
      ∷ damage_test (eqb (kind_of w0) 0) 2 u.lsn
      ∷ damage_test (ltb max_payload (length_of w0)) 3 u.lsn
      ∷ damage_test (ltb c (u.used + size_of (length_of w0) + 1)) 4 u.lsn
      ∷ damage_test (not (eqb w1 u.lsn) || leb no_more_lsn u.lsn) 5 u.lsn
      ∷ damage_test (not (eqb (check_of w2) check)) 6 u.lsn
      ∷ damage_test (ltb (epoch_of w2) u.last_epoch || ltb u.superline_epoch (epoch_of w2)) 7 u.lsn
      ∷ []

  abbrev Refuses : ℕ → ℕ → ℕ → ℕ → Reply Next → ℕ → Type 0
  Refuses w0 w1 w2 check granted test = decide (rows w0 w1 w2 check) refused granted ≡ refused (damaged_by test u.lsn)

  -- all pass with some words and a check
  module _ (w0 w1 w2 x : ℕ) (p : AllPass (rows w0 w1 w2 x)) where
    lawful-mark : mark_of w0 ≤ 2
    lawful-mark = go p
      where
        go : AllPass (rows w0 w1 w2 x) → mark_of w0 ≤ 2
        go (and h₁₃ (and h₁ q)) = ltb-false 2 (mark_of w0) h₁

    lawful-kind : kind_of w0 ≡ 0 → ⊥
    lawful-kind = go p
      where
        go : AllPass (rows w0 w1 w2 x) → kind_of w0 ≡ 0 → ⊥
        go (and h₁₃ (and h₁ (and h₂ q))) = eqb-false (kind_of w0) 0 h₂

    lawful-check : check_of w2 ≡ x
    lawful-check = go p
      where
        go : AllPass (rows w0 w1 w2 x) → check_of w2 ≡ x
        go (and h₁₃ (and h₁ (and h₂ (and h₃ (and h₄ (and h₅ (and h₆ q))))))) = eqb-true (check_of w2) x (not-false _ h₆)

    mark-fails : (granted : Reply Next) (v a b y : ℕ) → 2 < mark_of v → Refuses v a b y granted 1
    mark-fails granted v a b y l = go p
      where
        go : AllPass (rows w0 w1 w2 x) → Refuses v a b y granted 1
        go (and h₁₃ q) = rw (h₁₃, lt-ltb 2 (mark_of v) l)

    kind-fails : (granted : Reply Next) (v a b y : ℕ) → mark_of v ≤ 2 → kind_of v ≡ 0 → Refuses v a b y granted 2
    kind-fails granted v a b y m z = go p
      where
        go : AllPass (rows w0 w1 w2 x) → Refuses v a b y granted 2
        go (and h₁₃ q) = rw (h₁₃, le-ltb 2 (mark_of v) m, eq-eqb (kind_of v) 0 z)

    length-fails : (granted : Reply Next) (v a b y : ℕ) → mark_of v ≤ 2 → (kind_of v ≡ 0 → ⊥)
        → max_payload < length_of v
        → Refuses v a b y granted 3
    length-fails granted v a b y m z l = go p
      where
        go : AllPass (rows w0 w1 w2 x) → Refuses v a b y granted 3
        go (and h₁₃ q) = rw (h₁₃, le-ltb 2 (mark_of v) m, ne_eqb (kind_of v) 0 z, lt-ltb max_payload (length_of v) l)

    lsn-fails : (granted : Reply Next) (v b y : ℕ) → (v ≡ u.lsn → ⊥) → Refuses w0 v b y granted 5
    lsn-fails granted v b y n = go p
      where
        go : AllPass (rows w0 w1 w2 x) → Refuses w0 v b y granted 5
        go (and h₁₃ (and h₁ (and h₂ (and h₃ (and h₄ q))))) = rw (h₁₃, h₁, h₂, h₃, h₄, ne_eqb v u.lsn n)

    -- another word 0 of the same length, another word 2, another check
    check-fails : (granted : Reply Next) (v b y : ℕ) → mark_of v ≤ 2 → (kind_of v ≡ 0 → ⊥) → length_of v ≡ length_of w0
        → (check_of b ≡ y → ⊥)
        → Refuses v w1 b y granted 6
    check-fails granted v b y m z len n = go p
      where
        go : AllPass (rows w0 w1 w2 x) → Refuses v w1 b y granted 6
        go (and h₁₃ (and h₁ (and h₂ (and h₃ (and h₄ (and h₅ q)))))) =
            rw (h₁₃, le-ltb 2 (mark_of v) m, ne_eqb (kind_of v) 0 z, len, h₃, h₄, h₅, ne_eqb (check_of b) y n)

-- ---------------------------------------------------------------- two images of one length
module _ (limit : ℕ) (old new : List ℕ) (sized : length new ≡ length old) (u : Cursor) where
  abbrev c : ℕ
  c = area_of old

  abbrev here : Found
  here = found_at old c u

  -- words 0 to 2 at the cursor
  abbrev w0 : ℕ
  w0 = read_at old c u.pos

  abbrev w1 : ℕ
  w1 = read_at old c (u.pos + 1)

  abbrev w2 : ℕ
  w2 = read_at old c (u.pos + 2)

  -- the check of an image's record at the cursor, by its word 0
  abbrev over : List ℕ → ℕ → ℕ
  over image v = record_check (length_of v) (kind_of v) u.lsn (payload_of image c u.pos (length_of v))

  -- a step that found a record: every test passed, and a step of the other image that is refused there is next's answer
  record Granted (r : Found) : Type 0 where
    is : r ≡ here
    marked : mark_of w0 ≡ 0 → ⊥
    passes : AllPass (rows limit c u w0 w1 w2 (over old w0))
    by-step : (w : Why) → step_within limit new c u ≡ refused w → next_within limit new u ≡ refused w

  granted : (r : Found) (v : Cursor) → next_within limit old u ≡ ok (one r v) → Granted r
  unfolding next_within step_within step_tests_within damage_tests found_at
  granted r v h =
      let p =
      answered (size_test old ∷ test (not (cursor_ok_within limit c u)) 2 0 ∷ []) (step_within limit old c u) (one r v)
      h in
      go (eqb (mark_of w0) 0) refl p.0 p.1
    where
      go : (m : Bool) → eqb (mark_of w0) 0 ≡ m
          → AllPass (size_test old ∷ test (not (cursor_ok_within limit c u)) 2 0 ∷ [])
          → cond m (ok (ended u.lsn))
          (decide (step_tests_within limit old c u) refused (ok (one here (behind c u here))))
          ≡ ok (one r v) → Granted r
      go true e t q = absurd (let z : ◌≡◌ {A = ℕ} 0 1 = cc in omega arith)
      go false e t q =
          let p = answered (step_tests_within limit old c u) (ok (one here (behind c u here))) (one r v) q in
          let same = p.1 in
          record {
            is = cc;
            marked = eqb-false (mark_of w0) 0 e;
            passes = p.0;
            by-step = λ w s. unfold next_within in rw (sized, first_passes t, first_passes (rest_pass t), s);
          }

  -- a step of the other image, marked, by its words 0 to 2
  step_by : (a b d : ℕ) → read_at new c u.pos ≡ a → read_at new c (u.pos + 1) ≡ b → read_at new c (u.pos + 2) ≡ d
      → (mark_of a ≡ 0 → ⊥) → (w : Why)
      → ((g : Reply Next) → decide (rows limit c u a b d (over new a)) refused g ≡ refused w)
      → step_within limit new c u ≡ refused w
  unfolding step_within step_tests_within damage_tests found_at
  step_by a b d e₀ e₁ e₂ m w refuses = rw (e₀, e₁, e₂, ne_eqb (mark_of a) 0 m) (refuses _)

  -- what the other image has at the record
  module _ (r : Found) (v : Cursor) (h : next_within limit old u ≡ ok (one r v)) where
    abbrev g : Granted r
    g = granted r v h

    -- a word 0 with a test that fails whatever comes after it
    abbrev Word0 : ℕ → ℕ → Type 0
    Word0 a test = read_at new c r.pos ≡ a → next_within limit new u ≡ refused (damaged_by test r.lsn)

    by-word-0 : (a test : ℕ) → (mark_of a ≡ 0 → ⊥)
        → ((b d y : ℕ) (o : Reply Next) → Refuses limit c u a b d y o test) → Word0 a test
    unfolding found_at
    by-word-0 a test m refuses =
        subst (λ (x : Found). read_at new c x.pos ≡ a → next_within limit new u ≡ refused (damaged_by test x.lsn))
        (sym g.is)
        (λ e. g.by-step (damaged_by test u.lsn)
        (step_by a _ _ e refl refl m (damaged_by test u.lsn) (λ o. refuses _ _ _ o)))

    pub next-bad-mark : (a : ℕ) → 2 < mark_of a → Word0 a 1
    next-bad-mark a l =
        by-word-0 a 1 (λ z. omega arith)
        (λ b d y o. mark-fails limit c u w0 w1 w2 (over old w0) g.passes o a b d y l)

    pub next-bad-kind : (a : ℕ) → 1 ≤ mark_of a → mark_of a ≤ 2 → kind_of a ≡ 0 → Word0 a 2
    next-bad-kind a l m z =
        by-word-0 a 2 (λ q. omega arith)
        (λ b d y o. kind-fails limit c u w0 w1 w2 (over old w0) g.passes o a b d y m z)

    pub next-bad-length : (a : ℕ) → 1 ≤ mark_of a → mark_of a ≤ 2 → (kind_of a ≡ 0 → ⊥) → max_payload < length_of a
        → Word0 a 3
    next-bad-length a l m z k =
        by-word-0 a 3 (λ q. omega arith)
        (λ b d y o. length-fails limit c u w0 w1 w2 (over old w0) g.passes o a b d y m z k)

    -- another LSN
    pub next-bad-lsn : (b : ℕ) → read_at new c r.pos ≡ read_at old c r.pos → read_at new c (r.pos + 1) ≡ b
        → (b ≡ r.lsn → ⊥) → next_within limit new u ≡ refused (damaged_by 5 r.lsn)
    unfolding found_at
    next-bad-lsn b =
        subst (λ (x : Found). read_at new c x.pos ≡ read_at old c x.pos → read_at new c (x.pos + 1) ≡ b
        → (b ≡ x.lsn → ⊥) → next_within limit new u ≡ refused (damaged_by 5 x.lsn)) (sym g.is)
        (λ e₀ e₁ n. g.by-step (damaged_by 5 u.lsn)
        (step_by w0 b _ e₀ e₁ refl g.marked (damaged_by 5 u.lsn)
        (λ o. lsn-fails limit c u w0 w1 w2 (over old w0) g.passes o b _ _ n)))

    -- another check than that of the words: a word 0 of the same length, word 1 as it was
    pub next-bad-check : (a d : ℕ) → read_at new c r.pos ≡ a → read_at new c (r.pos + 1) ≡ read_at old c (r.pos + 1)
        → read_at new c (r.pos + 2) ≡ d → 1 ≤ mark_of a → mark_of a ≤ 2 → (kind_of a ≡ 0 → ⊥) → length_of a ≡ r.length
        → (check_of d ≡ record_check r.length (kind_of a) r.lsn (payload_of new c r.pos r.length) → ⊥)
        → next_within limit new u ≡ refused (damaged_by 6 r.lsn)
    unfolding found_at
    next-bad-check a d =
        subst (λ (x : Found). read_at new c x.pos ≡ a → read_at new c (x.pos + 1) ≡ read_at old c (x.pos + 1)
        → read_at new c (x.pos + 2) ≡ d → 1 ≤ mark_of a → mark_of a ≤ 2 → (kind_of a ≡ 0 → ⊥) → length_of a ≡ x.length
        → (check_of d ≡ record_check x.length (kind_of a) x.lsn (payload_of new c x.pos x.length) → ⊥)
        → next_within limit new u ≡ refused (damaged_by 6 x.lsn)) (sym g.is)
        (λ e₀ e₁ e₂ l m z len n. g.by-step (damaged_by 6 u.lsn)
        (step_by a w1 d e₀ e₁ e₂ (λ q. omega arith) (damaged_by 6 u.lsn)
        (λ o. check-fails limit c u w0 w1 w2 (over old w0) g.passes o a d (over new a) m z len (rw len n))))

    -- what the words of the record were
    pub record Were : Type 0 where
      pub marked : 1 ≤ mark_of (read_at old c r.pos)
      pub most : mark_of (read_at old c r.pos) ≤ 2
      pub some_kind : kind_of (read_at old c r.pos) ≡ 0 → ⊥
      pub kind : kind_of (read_at old c r.pos) ≡ r.kind
      pub len : length_of (read_at old c r.pos) ≡ r.length
      pub check : check_of (read_at old c (r.pos + 2))
          ≡ record_check r.length r.kind r.lsn (payload_of old c r.pos r.length)

    pub were : Were
    unfolding found_at
    were =
        let is = g.is in
        record {
          marked = rw is (positive (mark_of w0) g.marked);
          most = rw is (lawful-mark limit c u w0 w1 w2 (over old w0) g.passes);
          some_kind = rw is (lawful-kind limit c u w0 w1 w2 (over old w0) g.passes);
          kind = rw is refl;
          len = rw is refl;
          check = rw is (lawful-check limit c u w0 w1 w2 (over old w0) g.passes);
        }
