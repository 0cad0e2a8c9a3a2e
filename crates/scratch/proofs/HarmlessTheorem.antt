-- A crash in passed ops leaves only what reads like something that a crash before them may leave.
-- Cites specs/ScratchSafe.antt, FrameLaws.antt of scan and RollBack.antt of device.
use mathlib.Core.Path.{◌≡◌, sym, ◌∙◌, ap}
use mathlib.Core.List.{List}
use Prim.Native.Nat.{ℕ, suc, ◌+◌, ◌*◌, ◌%◌, ◌<◌}
use native.Mathlib.Omega.{arith}
use lib.ListN.{length, take, get_or}
use Rattle.device.specs.ReadOps.{ops_of}
use Rattle.device.specs.Crash.{carry}
use Rattle.device.proofs.CrashLaws.{Obeys, crash_obeys}
use Rattle.device.proofs.RollBack.{lawful_take, roll_back}
use Rattle.layout.specs.Ring.{area_of, ring_word, read_at}
use Rattle.layout.specs.Superline.{copy_start, selector}
use Rattle.layout.proofs.RingLaws.{word_wrap, word_mod}
use Rattle.state.specs.declared.State.{State}
use Rattle.state.specs.Table.{table_size}
use Rattle.scan.specs.declared.Found.{Found}
use Rattle.scan.specs.Open.{head_cursor}
use Rattle.scan.specs.Scan.{Scan, scan, scan_within}
use Rattle.scan.specs.Listed.{Among}
use Rattle.scan.proofs.FrameLaws.{Alike, words_alike, SameSuperline, selector_alike, active_alike, superline_alike, opening_alike, scan_from_head, scan_alike, fetch_alike}
use Rattle.journal.specs.AbstractLog.{AbstractLog}
use Rattle.journal.specs.CrashSafe.{System, after_all, formatted}
use Rattle.journal.specs.Recover.{recover_effect, recover_ops, recover_state}
use Rattle.journal.specs.RunLog.{RunLog, first_run}
use Rattle.journal.proofs.Calm.{Frame, calm}
use Rattle.journal.proofs.CrashFormat.{inv_formatted}
use Rattle.journal.proofs.Invariant.{Agrees, Inv, inv_after_all}
use Rattle.journal.proofs.NextRecovery.{point_ok, the_scan, scan_all}
use Rattle.journal.proofs.ScanImages.{area_is, series_has}
use Rattle.journal.proofs.Theorem.{owed}
use Rattle.journal.proofs.Zones.{start_of, Allowed, Zoned}
use Rattle.scratch.specs.ScratchSafe.{SameReading, Harmless, after_scratches, PassedOpsHarmless, FurtherOpsHarmless}
use Rattle.scratch.specs.VetExact.{FreeWord}
use Rattle.scratch.proofs.AllowedLaws.{record_untouched, end_untouched, superline_untouched}
use Rattle.scratch.proofs.ScratchTheorem.{OnlyFree, agrees, only_free, keeps_part, inv_scratches}

-- an image that a crash may leave, and one that differs from it in free words only
module _ (b : AbstractLog) (fr : Frame) (zd : Zoned b (calm fr)) {now : List ℕ} {st : State} (g : Agrees b fr now st)
    (n : ℕ) (image : List ℕ) (hn : length image ≡ fr.area + 24) (ob : Obeys (Allowed b (calm fr)) (length image) image)
    (earlier : List ℕ) (e : length earlier ≡ length image)
    (same : (w : ℕ) → (FreeWord st n w → ⊥) → get_or earlier w 0 ≡ get_or image w 0) where
  low_same : (w : ℕ) → w < 24 → get_or earlier w 0 ≡ get_or image w 0
  low_same w l = same w (λ f. superline_untouched zd g n w f l)

  superline : SameSuperline image earlier
  unfolding copy_start
  superline = record {
    select = low_same 0 (omega arith);
    active = λ i l.
        let copy = (point_ok b image (calm fr) zd hn ob).copy in low_same (8 + 8 * selector image + i) (omega arith);
  }

  area : area_of image ≡ fr.area
  area = area_is b (calm fr) zd image hn ob

  to_firm : (the_scan b image (calm fr) zd hn ob).to ≡ fr.firm
  to_firm =
      let w = the_scan b image (calm fr) zd hn ob in
      let p = point_ok b image (calm fr) zd hn ob in
      let u = w.upto in
      let f = w.firm p.high in
      omega arith

  records_alike : (r : Found) → Among r (scan image).found → Alike image earlier r
  unfolding read_at
  records_alike r m =
      let p = point_ok b image (calm fr) zd hn ob in
      let w = the_scan b image (calm fr) zd hn ob in
      let a = series_has r w.series (rw (scan_all b image (calm fr) zd hn ob) at m) in
      let o = g.order in
      let u = w.upto in
      let untouched = record_untouched zd g n r.lsn (let l = p.low in let k = a.low in omega arith)
      (let k = a.high in omega arith) a.good.promise a.good.is in
      words_alike image earlier (area_of image) r.pos r.length (λ i hi. unfold read_at in
      rw (area, a.good.pos, word_wrap)
      (same (ring_word fr.area (start_of b r.lsn + i)) (untouched i (rw (← a.good.len) hi))))

  end_same : read_at earlier (area_of image) (scan image).at.pos ≡ read_at image (area_of image) (scan image).at.pos
  unfolding read_at
  end_same =
      let at_end : (scan image).at.pos ≡ start_of b fr.firm % fr.area =
      ap (λ (x : Scan). x.at.pos) (scan_all b image (calm fr) zd hn ob)
      ∙ ap (λ (k : ℕ). start_of b k % fr.area) to_firm in
      rw (area, at_end, word_mod) (same (ring_word fr.area (start_of b fr.firm)) (end_untouched zd g n))

  scan_same : scan earlier ≡ scan image
  unfolding scan_within
  scan_same =
      scan_from_head image earlier e superline table_size
      ∙ scan_alike table_size image earlier e (suc table_size) (head_cursor image)
      (the_scan b image (calm fr) zd hn ob).to
      (ap (λ (x : Scan). x.end) (scan_all b image (calm fr) zd hn ob)) records_alike end_same

  recover_same : (held : State) (words : ℕ) → recover_effect held earlier words ≡ recover_effect held image words
  unfolding recover_effect recover_ops recover_state
  recover_same held words =
      rw (
        e,
        superline_alike image earlier e superline,
        selector_alike image earlier e superline,
        scan_same,
        active_alike image earlier e superline 4 (omega arith),
      )

  same_reading : SameReading earlier image
  same_reading = record {
    opened = opening_alike image earlier e superline;
    scanned = scan_same;
    fetched = λ r m output.
        fetch_alike image earlier r.pos r.length output e (records_alike r (rw scan_same at m)).bytes;
    recovered = recover_same;
  }

pub inv_harmless : (s : System) {ran : RunLog} → Inv s ran → Harmless s
inv_harmless s h given p carried l image ci =
    let q = h.quiet in
    let n = length s.image in
    let part = take carried (ops_of given) in
    let back =
    roll_back (FreeWord s.state n) part (lawful_take (OnlyFree s) carried (ops_of given) (only_free s h given p))
    s.device n image ci in
    record {
      earlier = back.earlier;
      left = back.left;
      reads = same_reading s.log q.frame q.zoned (agrees s h given p) n image (ci.size ∙ q.size)
          (rw ci.size (crash_obeys (carry part s.device) (keeps_part s h given p carried) ci))
          back.earlier (back.left.size ∙ sym ci.size) back.same;
    }

pub passed_ops_harmless : PassedOpsHarmless
unfolding PassedOpsHarmless
passed_ops_harmless old words granted es f =
    inv_harmless (after_all es (formatted old words))
    (inv_after_all owed es (formatted old words) first_run (inv_formatted old words granted) f)

pub further_ops_harmless : FurtherOpsHarmless
unfolding FurtherOpsHarmless
further_ops_harmless old words granted es f =
    inv_harmless (after_scratches es (formatted old words)) (inv_scratches old words granted es f)
