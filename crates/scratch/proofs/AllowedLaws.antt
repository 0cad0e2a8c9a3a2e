-- A state that agrees with the log: its free words are none that the crash theorem's rule, or the state, speaks of. So
-- a store to one is lawful, and the state agrees with the image after it.
-- Cites FreeLaws.antt, and Invariant.antt, Calm.antt and Zones.antt of journal.
use mathlib.Core.Path.{◌≡◌, refl, sym, ◌∙◌, ap, subst}
use mathlib.Core.List.{List}
use mathlib.Core.Option.{some}
use Prim.Native.Nat.{ℕ, ◌+◌, ◌-◌, ◌%◌, ◌≤◌, ◌<◌}
use native.Mathlib.Omega.{arith}
use native.Mathlib.Decide.{dec_lt}
use native.Mathlib.Nat.{add-zero, add_assoc, mod-add-mod}
use lib.ListN.{length, get_or}
use Rattle.layout.specs.Record.{size_of, mark_of}
use Rattle.layout.specs.Ring.{area_start, ring_word, read_at}
use Rattle.layout.specs.Superline.{copy_start}
use Rattle.state.specs.declared.State.{State}
use Rattle.state.specs.Table.{entry_of}
use Rattle.journal.specs.AbstractLog.{Promise, AbstractLog}
use Rattle.journal.proofs.Calm.{Frame, calm}
use Rattle.journal.proofs.Invariant.{Agrees, Recorded, dates_of}
use Rattle.journal.proofs.Zones.{start_of, Allowed, Zoned, some_inj}
use Rattle.scratch.specs.VetExact.{FreeWord}

after_start : (x : ℕ) → area_start + x - area_start ≡ x
after_start x = omega arith

module _ {b : AbstractLog} {fr : Frame} {img : List ℕ} {s : State} (zd : Zoned b (calm fr)) (g : Agrees b fr img s)
    (n : ℕ) where
  -- a word of a live record is not free
  pub record_untouched : (k : ℕ) → fr.head ≤ k → k < s.next_lsn → (e : Promise) → b k ≡ some e
      → (i : ℕ) → i < size_of (length e.bytes) → FreeWord s n (ring_word fr.area (start_of b k + i)) → ⊥
  unfolding ring_word
  record_untouched k kl ks e is i hi f =
      let r = g.records k kl ks in
      let same : r.promise ≡ e = some_inj (sym r.is ∙ is) in
      let long : (entry_of s k).length ≡ length e.bytes = r.len ∙ ap (λ (x : Promise). length x.bytes) same in
      f.unheld k (rw g.head_lsn kl) ks i (rw long hi)
      (after_start ((start_of b k + i) % fr.area) ∙ rw (g.area, r.pos, mod-add-mod) refl)

  -- nor the terminator at the next position
  pub terminator_untouched : FreeWord s n (ring_word fr.area (start_of b s.next_lsn)) → ⊥
  unfolding ring_word
  terminator_untouched f = f.not_next (after_start (start_of b s.next_lsn % fr.area) ∙ sym g.next_pos)

  -- nor word 0 of a record
  head_untouched : (k : ℕ) → fr.head ≤ k → k < s.next_lsn → FreeWord s n (ring_word fr.area (start_of b k)) → ⊥
  unfolding size_of
  head_untouched k kl ks f =
      let r = g.records k kl ks in
      record_untouched k kl ks r.promise r.is 0 (omega arith) (rw (add-zero (start_of b k)) f)

  -- nor the word where a scan ends
  pub end_untouched : FreeWord s n (ring_word fr.area (start_of b fr.firm)) → ⊥
  end_untouched f = go (dec_lt fr.firm s.next_lsn)
    where
      go : Dec (fr.firm < s.next_lsn) → ⊥
      go (yes l) = head_untouched fr.firm zd.order.0 l f
      go (no h) =
          let e : fr.firm ≡ s.next_lsn = (let o = g.order in omega arith) in
          terminator_untouched (subst (λ (x : ℕ). FreeWord s n (ring_word fr.area (start_of b x))) e f)

  -- nor a word of the superline
  pub superline_untouched : (w : ℕ) → FreeWord s n w → w < area_start → ⊥
  superline_untouched w f l = let a = f.low in omega arith

  -- so any value may stand in a free word
  pub free_allowed : (w v : ℕ) → FreeWord s n w → Allowed b (calm fr) w v
  unfolding copy_start
  free_allowed w v f = let o = g.order in record {
    word = λ k e is kl ks i hi q. absurd (record_untouched k kl (omega arith) e is i hi (subst (FreeWord s n) q f));
    end = λ q. absurd (end_untouched (subst (FreeWord s n) q f));
    sel = λ q. absurd (superline_untouched w f (omega arith));
    super = λ c p is i hi q. absurd (let x = (zd.points c p is).copy in superline_untouched w f (omega arith));
  }

  -- an image with the same words but for the free ones
  module _ (img' : List ℕ) (same : (w : ℕ) → (FreeWord s n w → ⊥) → get_or img' w 0 ≡ get_or img w 0) where
    read_same : (k : ℕ) → fr.head ≤ k → k < s.next_lsn → (e : Promise) → b k ≡ some e
        → (i : ℕ) → i < size_of (length e.bytes)
        → read_at img' fr.area (start_of b k + i) ≡ read_at img fr.area (start_of b k + i)
    unfolding read_at
    read_same k kl ks e is i hi = same (ring_word fr.area (start_of b k + i)) (record_untouched k kl ks e is i hi)

    terminator-same : read_at img' fr.area (start_of b s.next_lsn)
        ≡ read_at img fr.area (start_of b s.next_lsn)
    unfolding read_at
    terminator-same = same (ring_word fr.area (start_of b s.next_lsn)) terminator_untouched

    recorded : (k : ℕ) → fr.head ≤ k → k < s.next_lsn
        → Recorded b (dates_of fr) fr.area fr.firm img' k (entry_of s k)
    unfolding size_of
    recorded k kl ks =
        let r = g.records k kl ks in
        let at = read_same k kl ks r.promise r.is in
        record {
          promise = r.promise;
          is = r.is;
          pos = r.pos;
          len = r.len;
          kind = r.kind;
          storable = r.storable;
          stage = rw (at 2 (omega arith)) r.stage;
          first = λ h. (rw add-zero at (at 0 (omega arith))) ∙ r.first h;
          second = λ h. at 1 (omega arith) ∙ r.second h;
          payload = λ h j hj. (rw (← add_assoc) at (at (3 + j) (omega arith))) ∙ r.payload h j hj;
        }

    pub agrees-still : Agrees b fr img' s
    agrees-still = record {
      area = g.area;
      copy = g.copy;
      epoch = g.epoch;
      head_lsn = g.head_lsn;
      committed_lsn = g.committed_lsn;
      next_pos = g.next_pos;
      order = g.order;
      few = g.few;
      last = g.last;
      fits = g.fits;
      table = g.table;
      records = recorded;
      stopper = ap mark_of terminator-same ∙ g.stopper;
      dated = g.dated;
    }
