-- The LSNs that the program prints of an image that obeys the rule, by the abstract log.
-- Cites crates/scan/specs/Orphans.antt, crates/journal/proofs/ScanImages.antt.
use mathlib.Core.Path.{◌≡◌, refl, ap, ◌∙◌, sym, subst}
use mathlib.Core.Logic.{◌≢◌}
use mathlib.Core.List.{List, [], ◌∷◌, ◌++◌}
use mathlib.Core.Bool.{Bool, true, false, cond, not, ◌&&◌, ◌||◌, true≢false, false≢true}
use mathlib.Core.Option.{some}
use Prim.Native.Nat.{ℕ, suc, ◌+◌, ◌≤◌, ◌<◌}
use native.Mathlib.Omega.{arith}
use native.Mathlib.Decide.{ℕ_discrete}
use lib.ListN.{length}
use lib.Dec.{leb, eqb}
use borrow.Author.Tests.{eq-eqb, eqb-true, leb-true}
use Rattle.layout.specs.ByteWords.{word_at}
use Rattle.layout.specs.Record.{size_of}
use Rattle.layout.specs.Ring.{read_at}
use Rattle.layout.proofs.RingLaws.{read_wrap}
use Rattle.device.proofs.CrashLaws.{Obeys, shown_obeys}
use Rattle.state.proofs.AndLaws.{both}
use Rattle.scan.specs.Names.{replacement, names_one, names, names_in}
use Rattle.scan.specs.Orphans.{named_by, is_one_of, is_orphan, orphans_after, orphan_lsns}
use Rattle.scan.specs.Scan.{scan, listed}
use Rattle.scan.specs.declared.Found.{Found}
use Rattle.journal.specs.AbstractLog.{Promise, AbstractLog}
use Rattle.journal.specs.CrashSafe.{System}
use Rattle.journal.specs.RunLog.{Note, RunLog}
use Rattle.journal.proofs.Calm.{calm}
use Rattle.journal.proofs.Invariant.{Inv}
use Rattle.journal.proofs.NextRecovery.{point_ok, the_scan, scan_all}
use Rattle.journal.proofs.ScanImages.{FoundOk, Series, stop, more, at, area_is, series_le}
use Rattle.journal.proofs.Zones.{start_of, Zone, Allowed, Zoned, some_inj}
use Rattle.inspections.specs.OrphansBegun.{Earlier, ReleaseBegun}

-- as long as no release of it is begun, the record j names 0 or an earlier LSN with no release begun
abbrev pub RestsOn : AbstractLog → ℕ → Type 0
RestsOn log j = (p : Promise) → log j ≡ some p → p.begun ≡ false → names_in p.kind p.bytes ≢ 0
    → Earlier log j (names_in p.kind p.bytes)

-- ---------------------------------------------------------------- one of a list
one_of_left : (n : ℕ) (xs ys : List ℕ) → is_one_of n xs ≡ true → is_one_of n (xs ++ ys) ≡ true
unfolding is_one_of
one_of_left n [] ys h = absurd (false≢true h)
one_of_left n (x ∷ xs) ys h = go (eqb x n) (one_of_left n xs ys) h
  where
    go : (t : Bool) → (is_one_of n xs ≡ true → is_one_of n (xs ++ ys) ≡ true) → (t || is_one_of n xs) ≡ true
        → (t || is_one_of n (xs ++ ys)) ≡ true
    go true ih h = refl
    go false ih h = ih h

one_of_last : (n : ℕ) (xs : List ℕ) → is_one_of n (xs ++ (n ∷ [])) ≡ true
unfolding is_one_of
one_of_last n [] = rw (eq-eqb n n refl)
one_of_last n (x ∷ xs) = go (eqb x n) (one_of_last n xs)
  where
    go : (t : Bool) → is_one_of n (xs ++ (n ∷ [])) ≡ true → (t || is_one_of n (xs ++ (n ∷ []))) ≡ true
    go true h = refl
    go false h = h

-- ---------------------------------------------------------------- what a record found names
module _ (b : AbstractLog) (z : Zone) (zd : Zoned b z) (img : List ℕ) (hn : length img ≡ z.c + 24)
    (ob : Obeys (Allowed b z) (length img) img) where
  -- the word three positions on, which the image must have
  first_word : (k : ℕ) → z.lo ≤ k → k < z.stop → (e : Promise) → b k ≡ some e → 8 ≤ length e.bytes
      → read_at img z.c (start_of b k + 3) ≡ word_at e.bytes 0
  unfolding size_of
  first_word k kl ks e is long =
      (at b z zd img hn ob (start_of b k + 3)).word k e is kl ks 3 (omega arith) refl

  found_names : {x : ℕ → Note} {k : ℕ} {r : Found} → z.lo ≤ k → k < z.stop → (g : FoundOk b x img z.c k r)
      → named_by img r ≡ names_in g.promise.kind g.promise.bytes
  unfolding names names_in names_one
  found_names {k = k} kl ks g =
      rw (area_is b z zd img hn ob, g.pos, g.kind, g.len, read_wrap)
      (go (eqb g.promise.kind replacement && leb 8 (length g.promise.bytes)) refl)
    where
      go : (t : Bool) → (eqb g.promise.kind replacement && leb 8 (length g.promise.bytes)) ≡ t
          → cond t (read_at img z.c (start_of b k + 3)) 0 ≡ cond t (word_at g.promise.bytes 0) 0
      go false h = refl
      go true h = first_word k kl ks g.promise g.is (leb-true 8 (length g.promise.bytes)
          (both (eqb g.promise.kind replacement) (leb 8 (length g.promise.bytes)) h).1)

  -- -------------------------------------------------------------- those printed
  module _ (rests : (j : ℕ) → j < z.stop → RestsOn b j) where
    -- every record below an LSN that has no release begun is among the earlier listed ones
    abbrev Noted : ℕ → List ℕ → Type 0
    Noted k earlier = (n : ℕ) (e : Promise) → b n ≡ some e → e.begun ≡ false → n < k → is_one_of n earlier ≡ true

    -- an orphan has a release begun
    orphan-begun : {x : ℕ → Note} {k : ℕ} {r : Found} (earlier : List ℕ) → Noted k earlier → z.lo ≤ k → k < z.stop
        → (g : FoundOk b x img z.c k r) → is_orphan (named_by img r) earlier ≡ true → ReleaseBegun b k
    unfolding is_orphan
    orphan-begun {k = k} {r} earlier noted kl ks g h =
        go g.promise.begun refl (both (not (eqb (named_by img r) 0)) (not (is_one_of (named_by img r) earlier)) h)
      where
        nonzero : not (eqb (named_by img r) 0) ≡ true → names_in g.promise.kind g.promise.bytes ≢ 0
        nonzero h q = false≢true (rw (eq-eqb (named_by img r) 0 (found_names kl ks g ∙ q)) at h)

        go : (t : Bool) → g.promise.begun ≡ t
            → (not (eqb (named_by img r) 0) ≡ true) × (not (is_one_of (named_by img r) earlier) ≡ true)
            → ReleaseBegun b k
        go true e h = record { promise = g.promise; is = g.is; begun = e }
        go false e h =
            let n = rests k ks g.promise g.is e (nonzero h.0) in
            absurd
            (false≢true (rw (found_names kl ks g, noted _ n.promise n.is n.begun n.before) at h.1))

    -- one LSN further
    noted-next : {k : ℕ} (earlier earlier' : List ℕ) → Noted k earlier
        → ((n : ℕ) → is_one_of n earlier ≡ true → is_one_of n earlier' ≡ true)
        → ((e : Promise) → b k ≡ some e → e.begun ≡ false → is_one_of k earlier' ≡ true) → Noted (suc k) earlier'
    noted-next {k = k} earlier earlier' noted wider at_k n e is nb l = go (ℕ_discrete n k)
      where
        go : Dec (n ≡ k) → is_one_of n earlier' ≡ true
        go (yes q) = subst (λ (y : ℕ). is_one_of y earlier' ≡ true) (sym q) (at_k e (ap b (sym q) ∙ is) nb)
        go (no f) = wider n (noted n e is nb (omega arith))

    -- those printed of the records found after an LSN have a release begun
    abbrev Later : ℕ → List Found → ℕ → Type 0
    Later k rs j = (earlier : List ℕ) → Noted (suc k) earlier
        → is_one_of j (orphans_after img earlier (listed rs)) ≡ true → ReleaseBegun b j

    series-begun : {x : ℕ → Note} {k to : ℕ} {rs : List Found} → Series b x img z.c k to rs → z.lo ≤ k
        → to ≤ z.stop
        → (earlier : List ℕ) → Noted k earlier → (j : ℕ) → is_one_of j (orphans_after img earlier (listed rs)) ≡ true
        → ReleaseBegun b j
    unfolding orphans_after listed is_one_of
    series-begun stop kl ks earlier noted j h = absurd (false≢true h)
    series-begun {k = k} {to} (more {r = r} {rs = rest} g more_of) kl ks earlier noted j h =
        released (λ earlier' noted' h'. series-begun more_of (omega arith) ks earlier' noted' j h') (eqb r.mark 2)
        refl h
      where
        added : Noted (suc k) (earlier ++ (r.lsn ∷ []))
        added = noted-next earlier (earlier ++ (r.lsn ∷ [])) noted (λ n. one_of_left n earlier (r.lsn ∷ []))
            (λ e is nb.
            subst (λ (y : ℕ). is_one_of k (earlier ++ (y ∷ [])) ≡ true) (sym g.lsn) (one_of_last k earlier))

        this : Later k rest j → (t : Bool) → eqb r.lsn j ≡ t → is_orphan (named_by img r) earlier ≡ true
            → (t || is_one_of j (orphans_after img (earlier ++ (r.lsn ∷ [])) (listed rest))) ≡ true → ReleaseBegun b j
        this later true q o h = subst (ReleaseBegun b) (sym g.lsn ∙ eqb-true r.lsn j q)
            (orphan-begun earlier noted kl (omega (arith, series_le more_of)) g o)
        this later false q o h = later (earlier ++ (r.lsn ∷ [])) added h

        orphan : Later k rest j → (t : Bool) → is_orphan (named_by img r) earlier ≡ t
            → is_one_of j (cond t (r.lsn ∷ orphans_after img (earlier ++ (r.lsn ∷ [])) (listed rest))
            (orphans_after img (earlier ++ (r.lsn ∷ [])) (listed rest))) ≡ true → ReleaseBegun b j
        orphan later true o h = this later (eqb r.lsn j) refl o h
        orphan later false o h = later (earlier ++ (r.lsn ∷ [])) added h

        released : Later k rest j → (t : Bool) → eqb r.mark 2 ≡ t
            → is_one_of j (orphans_after img earlier (cond t (listed rest) (r ∷ listed rest))) ≡ true → ReleaseBegun b j
        released later true q h = later earlier
            (noted-next earlier earlier noted (λ n o. o) (λ e is nb.
            absurd (true≢false (sym (g.begun (eqb-true r.mark 2 q))
            ∙ ap (λ (y : Promise). y.begun) (some_inj (sym g.is ∙ is)) ∙ nb)))) h
        released later false q h = orphan later (is_orphan (named_by img r) earlier) refl h

-- of the scan of an image between calls
pub printed_begun : (s : System) {ran : RunLog} (i : Inv s ran)
    → ((j : ℕ) → j < i.quiet.frame.firm → RestsOn s.log j) → (j : ℕ)
    → is_one_of j (orphan_lsns s.image (listed (scan s.image).found)) ≡ true → ReleaseBegun s.log j
printed_begun s i rests j h =
    let b = s.log in
    let img = s.image in
    let z = calm i.quiet.frame in
    let zd = i.quiet.zoned in
    let hn = i.quiet.size in
    let ob = shown_obeys img refl i.shows i.quiet.keeps in
    let w = the_scan b img z zd hn ob in
    let p = point_ok b img z zd hn ob in
    series-begun b z zd img hn ob rests w.series p.low w.upto []
    (λ n e is nb l. absurd (omega (arith, p.keeps n e is nb))) j (rw (scan_all b img z zd hn ob) at h)
