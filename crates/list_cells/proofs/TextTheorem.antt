-- What one bad cell can do to loglist's text: from the theorems of crate cells, since a line is made of its record and
-- its payload.
-- Cites specs/CellText.antt.
use mathlib.Core.Path.{◌≡◌, refl, sym, ap, ap₂, ◌∙◌}
use mathlib.Core.List.{List, [], ◌∷◌, ◌++◌, append_assoc}
use Prim.Native.Nat.{ℕ}
use lib.ListN.{set}
use Rattle.refusal.specs.Tests.{Reply}
use Rattle.scan.specs.declared.Found.{Found}
use Rattle.scan.specs.Scan.{Scan, scan, listed}
use Rattle.scan.specs.Listed.{here, there}
use Rattle.scan.proofs.AmongLaws.{listed_found, listed_append}
use Rattle.list_lines.specs.Lines.{heading, record_line, damaged_line, stop_line}
use Rattle.list_image.specs.Listing.{found_line, found_lines, last_line, scan_text, open_text, listing_text}
use Rattle.cells.specs.OneCell.{Opens, SamePayloads, Unchanged, AllSame, DamagedAt, PaddingOrDamage, padding, damage, OneWord, OneBurst}
use Rattle.cells.proofs.OneRecordTheorem.{one_burst}
use Rattle.cells.proofs.OneWordTheorem.{one_word}
use Rattle.list_cells.specs.CellText.{Begins, OneWordText, SameTextOrDamage, same_text, damage_line, OneBurstText}

lines_append : (image : List ℕ) (xs ys : List Found)
    → found_lines image (xs ++ ys) ≡ found_lines image xs ++ found_lines image ys
unfolding found_lines
lines_append image [] ys = refl
lines_append image (x ∷ xs) ys =
    ap (λ (l : List ℕ). found_line image x ++ l) (lines_append image xs ys)
    ∙ sym (append_assoc (found_line image x) (found_lines image xs) (found_lines image ys))

lines_same : (old new : List ℕ) (rs : List Found) → SamePayloads old new rs → found_lines new rs ≡ found_lines old rs
unfolding found_lines found_line
lines_same old new [] f = refl
lines_same old new (r ∷ rs) f =
    ap₂ (λ (b l : List ℕ). record_line r.lsn r.kind b ++ l) (f r here)
    (lines_same old new rs (λ z m. f z (there m)))

listed_same : (old new : List ℕ) (zs : List Found) → SamePayloads old new zs
    → found_lines new (listed zs) ≡ found_lines old (listed zs)
listed_same old new zs f = lines_same old new (listed zs) (λ z m. f z (listed_found z zs m).0)

-- the text of an image that open accepts
opened_as : (image : List ℕ) → Opens image
    → listing_text image ≡ heading ++ (found_lines image (listed (scan image).found) ++ last_line (scan image).end)
unfolding listing_text scan_text
opened_as image e = ap (open_text (heading ++ scan_text image (scan image))) e

begins : (old new : List ℕ) (zs : List Found) → Unchanged old new zs → Begins old new zs
begins old new zs u =
    let last = last_line (scan new).end in
    let others = found_lines new (listed u.others) in
    record {
      more = others ++ last;
      text = opened_as new u.opens
          ∙ ap (λ (l : List ℕ). heading ++ (l ++ last))
          (ap (λ (l : List Found). found_lines new (listed l)) u.found
          ∙ ap (found_lines new) (listed_append zs u.others)
          ∙ lines_append new (listed zs) (listed u.others)
          ∙ ap (λ (l : List ℕ). l ++ others) (listed_same old new zs u.payloads))
          ∙ ap (λ (l : List ℕ). heading ++ l) (append_assoc (found_lines old (listed zs)) others last);
    }

text_same : (old new : List ℕ) → Opens old → AllSame old new → listing_text new ≡ listing_text old
text_same old new opens a =
    opened_as new a.opens
    ∙ ap (λ (s : Scan). heading ++ (found_lines new (listed s.found) ++ last_line s.end)) a.scans
    ∙ ap (λ (l : List ℕ). heading ++ (l ++ last_line (scan old).end))
    (listed_same old new (scan old).found a.payloads)
    ∙ sym (opened_as old opens)

damaged_text : (old new : List ℕ) (zs : List Found) (r : Found) → DamagedAt 6 old new zs r
    → listing_text new ≡ heading ++ (found_lines old (listed zs) ++ damaged_line r.lsn 6)
unfolding stop_line
damaged_text old new zs r d =
    opened_as new d.opens
    ∙ ap₂ (λ (l : List Found) (e : Reply ℕ). heading ++ (found_lines new (listed l) ++ last_line e)) d.found d.ends
    ∙ ap (λ (l : List ℕ). heading ++ (l ++ damaged_line r.lsn 6)) (listed_same old new zs d.payloads)

pub one_word_text : OneWordText
unfolding OneWordText OneWord
one_word_text image en w v out =
    let k = one_word image en.opens w v out in (
      λ zs rest r e h. begins image (set image w v) zs (k.0 zs rest r e h),
      λ f. begins image (set image w v) (scan image).found (k.1 f),
      λ f g. text_same image (set image w v) en.opens (k.2 en.lsn en.ends f g),
    )

pub one_burst_text : OneBurstText
unfolding OneBurstText OneBurst
one_burst_text image en zs rest r e q inside v p within = go (one_burst image en zs rest r e q inside v p within)
  where
    go : {new : List ℕ} → PaddingOrDamage image new zs r → SameTextOrDamage image new zs r
    go {new} (padding same a) = same_text same (text_same image new en.opens a)
    go {new} (damage other d) = damage_line other (damaged_text image new zs r d)
