-- What one changed word can do, whatever its value: the first theorem of specs/OneCell.antt, and over what is listed.
-- Cites crates/scan/proofs/FrameLaws.antt and PositionLaws.antt.
use mathlib.Core.Path.{◌≡◌, refl, sym, ap, ◌∙◌, subst}
use mathlib.Core.List.{List, [], ◌∷◌, ◌++◌, append-nil}
use Prim.Native.Nat.{ℕ, suc, ◌+◌, ◌-◌}
use lib.ListN.{length, set, length-set}
use lib.Seq.{get_or-set_other}
use Rattle.refusal.specs.Tests.{ok}
use Rattle.layout.specs.Ring.{area_start, area_of, payload_of}
use Rattle.layout.specs.Superline.{copy_start, selector}
use Rattle.state.specs.Table.{table_size}
use Rattle.scan.specs.declared.Found.{Found}
use Rattle.scan.specs.Open.{head_cursor}
use Rattle.scan.specs.Scan.{Scan, scan_from, scan, scan_within, listed}
use Rattle.scan.specs.Listed.{Among}
use Rattle.scan.proofs.AmongLaws.{listed_found, listed_append, among_left}
use Rattle.scan.proofs.FrameLaws.{Alike, words_alike, reach, scan_alike, SameSuperline, head_alike, opening_alike, scan_from_head}
use Rattle.cells.specs.OneCell.{Opens, Outside, Holds, NoneHolds, IsEndWord, payload, Unchanged, AllSame, OneWord, StillListed, OneWordListed}
use Rattle.cells.proofs.PositionLaws.{none_before}
use Rattle.cells.proofs.WordLaws.{read_other}

module _ (image : List ℕ) (w v : ℕ) (out : Outside image w) where
  abbrev new : List ℕ
  new = set image w v

  pub sized : length new ≡ length image
  sized = length-set image w v

  superline : SameSuperline image new
  superline = record {
    select = get_or-set_other image w 0 v 0 (λ e. out.not_selector (sym e));
    active = λ i l. get_or-set_other image w (copy_start (selector image) + i) v 0 (λ e. out.not_active i l (sym e));
  }

  pub not_held : (z : Found) → (Holds (area_of image) w z → ⊥) → Alike image new z
  not_held z f = words_alike image new (area_of image) z.pos z.length
      (λ i l. read_other image w v (area_of image) (z.pos + i) (λ e. f (record { index = i; inside = l; is = e })))

  pub payload_same : (z : Found) → Alike image new z → payload new z ≡ payload image z
  payload_same z a = ap (λ (n : ℕ). payload_of new (n - area_start) z.pos z.length) sized ∙ a.bytes

  scan_old : scan image ≡ scan_from (suc table_size) image (head_cursor image)
  unfolding scan_within
  scan_old = refl

  pub scan_new : scan new ≡ scan_from (suc table_size) new (head_cursor image)
  scan_new = scan_from_head image new sized superline table_size

  module _ (op : Opens image) where
    pub opens-new : Opens new
    opens-new = opening_alike image new sized superline ∙ op ∙ ap ok (sym (head_alike image new sized superline))

    unchanged : (zs ys : List Found) → (scan image).found ≡ zs ++ ys
        → ((z : Found) → Among z zs → Holds (area_of image) w z → ⊥) → Unchanged image new zs
    unchanged zs ys e f =
        let k = reach table_size image new sized (suc table_size) (head_cursor image) zs ys
        (ap (λ (s : Scan). s.found) (sym scan_old) ∙ e) (λ z a. not_held z (f z a)) in
        let others = (scan_from k.left new k.at).found in
        let found : (scan new).found ≡ zs ++ others = ap (λ (s : Scan). s.found) (scan_new ∙ k.in-new) in
        record {
          opens = opens-new;
          others = others;
          found = found;
          payloads = λ z a. payload_same z (not_held z (f z a));
        }

    before-holder : (zs rest : List Found) (r : Found) → (scan image).found ≡ zs ++ (r ∷ rest)
        → Holds (area_of image) w r → Unchanged image new zs
    before-holder zs rest r e h =
        unchanged zs (r ∷ rest) e (none_before image (suc table_size) (head_cursor image) zs rest r w
        (ap (λ (s : Scan). s.found) (sym scan_old) ∙ e) h)

    no-holder : NoneHolds image w → Unchanged image new (scan image).found
    no-holder f = unchanged (scan image).found [] (sym (append-nil (scan image).found)) f

    -- all records alike, and the word at which the scan ended
    pub all_same : (lsn : ℕ) → (scan image).end ≡ ok lsn
        → ((z : Found) → Among z (scan image).found → Alike image new z) → (IsEndWord image w → ⊥)
        → AllSame image new
    unfolding scan_within
    all_same lsn ends a g = record {
      opens = opens-new;
      scans = scan_new ∙ scan_alike table_size image new sized (suc table_size) (head_cursor image) lsn ends a
          (read_other image w v (area_of image) (scan image).at.pos g);
      payloads = λ z m. payload_same z (a z m);
    }

    elsewhere : (lsn : ℕ) → (scan image).end ≡ ok lsn → NoneHolds image w → (IsEndWord image w → ⊥) → AllSame image new
    elsewhere lsn ends f g = all_same lsn ends (λ z a. not_held z (f z a)) g

pub one_word : OneWord
unfolding OneWord
one_word image op w v out = (before-holder image w v out op, no-holder image w v out op, elsewhere image w v out op)

still : {old new : List ℕ} (zs : List Found) → Unchanged old new zs → (z : Found) → Among z (listed zs)
    → StillListed old new z
still zs u z m = record {
  among = subst (λ (l : List Found). Among z l) (sym (ap listed u.found ∙ listed_append zs u.others))
      (among_left (listed u.others) m);
  payload_same = u.payloads z (listed_found z zs m).0;
}

pub one_word_listed : OneWordListed
unfolding OneWordListed
one_word_listed image en w v out = (
  λ zs rest r z e h m. still zs (before-holder image w v out en.opens zs rest r e h) z m,
  λ z f m. still (scan image).found (no-holder image w v out en.opens f) z m,
)
