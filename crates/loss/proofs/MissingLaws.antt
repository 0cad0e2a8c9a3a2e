-- What the image loses of a falling list of LSNs, by the abstract log and the invariant of the crash theorem.
-- Cites specs/LossBound.antt; crates/journal/proofs/Invariant.antt.
use mathlib.Core.Path.{◌≡◌, refl, ap}
use mathlib.Core.Logic.{◌≢◌}
use mathlib.Core.List.{List, [], ◌∷◌}
use mathlib.Core.Bool.{Bool, true, false, not, ◌&&◌, ◌||◌}
use mathlib.Core.Option.{some}
use Prim.Native.Nat.{ℕ, suc, ◌+◌, ◌-◌, ◌≤◌, ◌<◌}
use native.Mathlib.Omega.{arith}
use native.Mathlib.Decide.{dec_le}
use lib.ListN.{length}
use lib.Dec.{eqb}
use borrow.Author.Tests.{eq-eqb, ne_eqb}
use Rattle.device.proofs.CrashLaws.{Obeys, shown_obeys}
use Rattle.scan.specs.declared.Found.{Found}
use Rattle.scan.specs.Scan.{scan, listed}
use Rattle.scan.specs.Listed.{Among, here, there}
use Rattle.scan.proofs.AmongLaws.{listed_found}
use Rattle.journal.specs.AbstractLog.{Promise, AbstractLog}
use Rattle.journal.specs.CrashSafe.{System}
use Rattle.journal.specs.RunLog.{RunLog}
use Rattle.journal.proofs.Calm.{Frame, calm}
use Rattle.journal.proofs.Invariant.{Inv, inv_recovers}
use Rattle.journal.proofs.NextRecovery.{series_listed, point_ok, the_scan, scan_all}
use Rattle.journal.proofs.ScanImages.{series_has}
use Rattle.journal.proofs.Zones.{Allowed}
use Rattle.loss.specs.LossBound.{lists, is_missing, missing, LosesAtMost}

-- ---------------------------------------------------------------- falling lists
pub data Has (k : ℕ) : List ℕ → Type 0 where
  first : {ks : List ℕ} → Has k (k ∷ ks)
  later : {j : ℕ} {ks : List ℕ} → Has k ks → Has k (j ∷ ks)

-- each below the one before it, all below a bound
abbrev pub Falls : ℕ → List ℕ → Type 0
Falls b [] = Unit {0}
Falls b (k ∷ ks) = (k < b) × Falls k ks

pub falls_has : (b : ℕ) (ks : List ℕ) {k : ℕ} → Falls b ks → Has k ks → k < b
falls_has b [] f m = elim m [ ]
falls_has b (k ∷ ks) f first = f.0
falls_has b (j ∷ ks) f (later h) = let a = falls_has j ks f.1 h in omega (arith, f.0)

pub falls_up : (b d : ℕ) (ks : List ℕ) → b ≤ d → Falls b ks → Falls d ks
falls_up b d [] l f = tt
falls_up b d (k ∷ ks) l f = (omega (arith, f.0), f.1)

-- ---------------------------------------------------------------- those missing among them
module _ (s : System) where
  none_missing : (ks : List ℕ) → ((k : ℕ) → Has k ks → is_missing s k ≡ false) → missing s ks ≡ []
  unfolding missing
  none_missing [] h = refl
  none_missing (k ∷ ks) h = rw (h k first) (none_missing ks (λ j x. h j (later x)))

  -- those of the list from t on are missing, and those below t are not
  newest_missing : (t b : ℕ) (ks : List ℕ) → Falls b ks → ((k : ℕ) → Has k ks → t ≤ k → is_missing s k ≡ true)
      → ((k : ℕ) → Has k ks → k < t → is_missing s k ≡ false) → LosesAtMost (b - t) s ks
  unfolding missing
  newest_missing t b [] f above below = record { few = omega arith; newest = refl }
  newest_missing t b (k ∷ ks) f above below =
      go (newest_missing t k ks f.1 (λ j x. above j (later x)) (λ j x. below j (later x))) (dec_le t k)
    where
      go : LosesAtMost (k - t) s ks → Dec (t ≤ k) → LosesAtMost (b - t) s (k ∷ ks)
      go ih (yes l) =
          let e : missing s (k ∷ ks) ≡ k ∷ missing s ks = rw (above k first l) in
          record {
            few = rw e (let a = ih.few in let q = f.0 in omega arith);
            newest = rw e (ap (λ (xs : List ℕ). k ∷ xs) ih.newest);
          }
      go ih (no g) =
          let e : missing s (k ∷ ks) ≡ [] = none_missing (k ∷ ks)
          (λ j x. below j x (let a = falls_has (suc k) (k ∷ ks) (omega arith, f.1) x in omega arith)) in
          record { few = rw e (omega arith); newest = rw e }

-- ---------------------------------------------------------------- listed or not
lists_yes : (k : ℕ) (r : Found) (rs : List Found) → Among r rs → r.lsn ≡ k → lists k rs ≡ true
lists_yes k r [] m e = elim m [ ]
lists_yes k r (x ∷ rs) here e = rw (eq-eqb r.lsn k e)
lists_yes k r (x ∷ rs) (there m) e = go (eqb x.lsn k) (lists_yes k r rs m e)
  where
    go : (t : Bool) → lists k rs ≡ true → (t || lists k rs) ≡ true
    go true h = refl
    go false h = h

lists_no : (k : ℕ) (rs : List Found) → ((r : Found) → Among r rs → r.lsn ≢ k) → lists k rs ≡ false
lists_no k [] h = refl
lists_no k (x ∷ rs) h = rw (ne_eqb x.lsn k (h x here)) (lists_no k rs (λ r m. h r (there m)))

-- ---------------------------------------------------------------- what the abstract log says of a falling list
-- an LSN is there, with no release begun
pub record Unbegun (log : AbstractLog) (k : ℕ) : Type 0 where
  pub promise : Promise
  pub is : log k ≡ some promise
  pub begun : promise.begun ≡ false

-- an LSN is there, and durable
pub record Durable (log : AbstractLog) (k : ℕ) : Type 0 where
  pub promise : Promise
  pub is : log k ≡ some promise
  pub durable : promise.durable ≡ true

-- c: the LSN up to which all of the list are durable; those above it are at most F, with no release begun
pub record LogOk (F c : ℕ) (log : AbstractLog) (ks : List ℕ) : Type 0 where
  pub falls : Falls (suc (c + F)) ks
  pub low : (k : ℕ) → Has k ks → k ≤ c → Durable log k
  pub high : (k : ℕ) → Has k ks → c < k → Unbegun log k

module _ (s : System) {ran : RunLog} (i : Inv s ran) where
  abbrev fr : Frame
  fr = i.quiet.frame

  ob : Obeys (Allowed s.log (calm fr)) (length s.image) s.image
  ob = shown_obeys s.image refl i.shows i.quiet.keeps

  -- where the scan ends
  ends : ℕ
  ends = (the_scan s.log s.image (calm fr) i.quiet.zoned i.quiet.size ob).to

  abbrev rs : List Found
  rs = listed (scan s.image).found

  lists_below : (k : ℕ) → Unbegun s.log k → k < ends → lists k rs ≡ true
  unfolding ends
  lists_below k u l =
      let w = the_scan s.log s.image (calm fr) i.quiet.zoned i.quiet.size ob in
      let p = point_ok s.log s.image (calm fr) i.quiet.zoned i.quiet.size ob in
      let e = scan_all s.log s.image (calm fr) i.quiet.zoned i.quiet.size ob in
      let z =
      series_listed w.series k u.promise u.is u.begun (p.keeps k u.promise u.is u.begun) l in
      lists_yes k z.item rs (rw e z.among) z.is

  lists_above : (k : ℕ) → ends ≤ k → lists k rs ≡ false
  unfolding ends
  lists_above k l =
      let w = the_scan s.log s.image (calm fr) i.quiet.zoned i.quiet.size ob in
      let e = scan_all s.log s.image (calm fr) i.quiet.zoned i.quiet.size ob in
      lists_no k rs
      (λ r m q. let a = (series_has r w.series (listed_found r w.items (rw e at m)).0).high in omega arith)

  lists_durable : (k : ℕ) (e : Promise) → s.log k ≡ some e → e.durable ≡ true → e.begun ≡ false → lists k rs ≡ true
  lists_durable k e is d nb =
      let l = (inv_recovers s i).listed k e is d nb in
      lists_yes k l.item rs l.among l.is

  module _ (F c : ℕ) (ks : List ℕ) (b : LogOk F c s.log ks) where
    missing-above : (k : ℕ) → Has k ks → c < k → ends ≤ k → is_missing s k ≡ true
    missing-above k h l m = let u = b.high k h l in rw (u.is, u.begun, lists_above k m)

    there-below : (k : ℕ) → Has k ks → c < k → k < ends → is_missing s k ≡ false
    there-below k h l m = let u = b.high k h l in rw (u.is, u.begun, lists_below k u m)

    there-durable : (k : ℕ) → Has k ks → k ≤ c → is_missing s k ≡ false
    there-durable k h l = let d = b.low k h l in rw d.is (go d d.promise.begun refl)
      where
        go : (d : Durable s.log k) (t : Bool) → d.promise.begun ≡ t → (not t && not (lists k rs)) ≡ false
        go d true q = refl
        go d false q = rw (lists_durable k d.promise d.is d.durable q)

    pub log-loses : LosesAtMost F s ks
    log-loses = go (dec_le ends (suc c))
      where
        split : (k : ℕ) → Has k ks → k < ends → Dec (k ≤ c) → is_missing s k ≡ false
        split k h m (yes l) = there-durable k h l
        split k h m (no g) = there-below k h (omega arith) m

        go : Dec (ends ≤ suc c) → LosesAtMost F s ks
        go (yes l) =
            let n = newest_missing s (suc c) (suc (c + F)) ks b.falls
            (λ k h a. missing-above k h (omega arith) (omega arith)) (λ k h a. there-durable k h (omega arith)) in
            record { few = let a = n.few in omega arith; newest = n.newest }
        go (no g) =
            let n = newest_missing s ends (suc (c + F)) ks b.falls (λ k h a. missing-above k h (omega arith) a)
            (λ k h a. split k h a (dec_le k c)) in
            record { few = let a = n.few in omega arith; newest = n.newest }
