-- Document 02, slip 14, over what loglist prints: crates/cells/specs/OneCell.antt, line by line.
-- Cites crates/list_image/specs/Listing.antt.
use Rattle.std.specs.Prelude.{◌≡◌, List, ◌∷◌, ◌++◌, ℕ, ◌<◌, get_or, set}
use Rattle.crc_spec.specs.Burst.{Within32}
use Rattle.layout.specs.Record.{payload_words}
use Rattle.layout.specs.Ring.{area_of}
use Rattle.scan.specs.declared.Found.{Found}
use Rattle.scan.specs.Scan.{scan, listed}
use Rattle.list_lines.specs.Lines.{heading, damaged_line}
use Rattle.list_image.specs.Listing.{found_lines, listing_text}
use Rattle.cells.specs.OneCell.{Ended, Outside, Holds, NoneHolds, IsEndWord, payload, payload_word}

-- the text of `new` begins with the heading and the lines that `old` has of these records
pub record Begins (old new : List ℕ) (zs : List Found) : Type 0 where
  pub more : List ℕ
  pub text : listing_text new ≡ heading ++ (found_lines old (listed zs) ++ more)

-- "every record listed before the walked record that holds the word is listed unchanged; if no walked record holds it,
-- all of them are"; and the whole text is the same if the word is not the one at which the scan ended either
unfoldable pub OneWordText : Type 0
OneWordText =
    (image : List ℕ) → Ended image → (w v : ℕ) → Outside image w
    → ((zs rest : List Found) (r : Found) → (scan image).found ≡ zs ++ (r ∷ rest) → Holds (area_of image) w r
    → Begins image (set image w v) zs)
    × (NoneHolds image w → Begins image (set image w v) (scan image).found)
    × (NoneHolds image w → (IsEndWord image w → ⊥) → listing_text (set image w v) ≡ listing_text image)

-- "either only padding changed and the listing is the same, or the walk stops as damaged at that very record": then the
-- last line is `damaged`, its LSN and `check`
pub data SameTextOrDamage (old new : List ℕ) (zs : List Found) (r : Found) : Type 0 where
  same_text : payload new r ≡ payload old r → listing_text new ≡ listing_text old → SameTextOrDamage old new zs r
  damage_line : (payload new r ≡ payload old r → ⊥)
      → listing_text new ≡ heading ++ (found_lines old (listed zs) ++ damaged_line r.lsn 6)
      → SameTextOrDamage old new zs r

unfoldable pub OneBurstText : Type 0
OneBurstText =
    (image : List ℕ) → Ended image
    → (zs rest : List Found) (r : Found) → (scan image).found ≡ zs ++ (r ∷ rest)
    → (q : ℕ) → q < payload_words r.length → (v p : ℕ)
    → Within32 p (get_or image (payload_word image r q) 0) v
    → SameTextOrDamage image (set image (payload_word image r q) v) zs r
