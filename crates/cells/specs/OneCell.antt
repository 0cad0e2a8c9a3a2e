-- What one bad cell can do. Document 02, slip 14: "If any one word outside the selector and the copy in use is changed
-- at will, every record listed before the walked record that holds the word is listed unchanged; if no walked record
-- holds it, all of them are. If the change lies within 32 neighbouring bits of one payload word of a walked record,
-- then either only padding changed and the listing is the same, or the walk stops as damaged at that very record. The
-- rule is for images whose walk ended without refusal before the change."
-- A walk is a scan here, and what is listed is what the scan finds but for mark 2: loglist's list. (The calls of slip 1
-- give minus 12 and no list where the changed image's scan ends in damage.)
-- Cites crates/scan/specs/Open.antt, Scan.antt and Listed.antt, and crates/layout/specs/Ring.antt.
use Rattle.std.specs.Prelude.{◌≡◌, List, ◌∷◌, ◌++◌, ℕ, ◌+◌, ◌≤◌, ◌<◌, get_or, set}
use Rattle.crc_spec.specs.Burst.{Within32}
use Rattle.refusal.specs.Tests.{damaged_by, ok, refused}
use Rattle.layout.specs.Record.{max_payload, size_of, payload_words, mark_of, kind_of, length_of, check_of}
use Rattle.layout.specs.Ring.{area_of, ring_word, payload_of}
use Rattle.layout.specs.Superline.{copy_start, selector}
use Rattle.scan.specs.declared.Found.{Found}
use Rattle.scan.specs.Open.{head_cursor, opening}
use Rattle.scan.specs.Scan.{scan, listed}
use Rattle.scan.specs.Listed.{Among}

-- open is not refused
abbrev pub Opens : List ℕ → Type 0
Opens image = opening image ≡ ok (head_cursor image)

-- "images whose walk ended without refusal": neither open nor a step of the scan is refused
pub record Ended (image : List ℕ) : Type 0 where
  pub opens : Opens image
  pub lsn : ℕ
  pub ends : (scan image).end ≡ ok lsn

-- a "word outside the selector and the copy in use"
pub record Outside (image : List ℕ) (w : ℕ) : Type 0 where
  pub not_selector : w ≡ 0 → ⊥
  pub not_active : (i : ℕ) → i < 6 → w ≡ copy_start (selector image) + i → ⊥

-- a record "that holds the word", in an area of c words: one of the words of its size from its position on
pub record Holds (c : ℕ) (w : ℕ) (r : Found) : Type 0 where
  pub index : ℕ
  pub inside : index < size_of r.length
  pub is : w ≡ ring_word c (r.pos + index)

-- "no walked record holds it"
abbrev pub NoneHolds : List ℕ → ℕ → Type 0
NoneHolds image w = (r : Found) → Among r (scan image).found → Holds (area_of image) w r → ⊥

-- the word at which the scan ended
abbrev pub IsEndWord : List ℕ → ℕ → Type 0
IsEndWord image w = w ≡ ring_word (area_of image) (scan image).at.pos

-- the payload of a record that was found, as an image has it
abbrev pub payload : List ℕ → Found → List ℕ
payload image r = payload_of image (area_of image) r.pos r.length

-- the payloads of records are the same
abbrev pub SamePayloads : List ℕ → List ℕ → List Found → Type 0
SamePayloads old new zs = (z : Found) → Among z zs → payload new z ≡ payload old z

-- the records of a list are found by a scan of `new` too, before any other; and their payloads are unchanged
pub record Unchanged (old new : List ℕ) (zs : List Found) : Type 0 where
  pub opens : Opens new
  pub others : List Found
  pub found : (scan new).found ≡ zs ++ others
  pub payloads : SamePayloads old new zs

-- the whole scan is the same, and every payload
pub record AllSame (old new : List ℕ) : Type 0 where
  pub opens : Opens new
  pub scans : scan new ≡ scan old
  pub payloads : SamePayloads old new (scan old).found

-- "the walked record that holds the word": there is one, or none does
pub data Holder (image : List ℕ) (w : ℕ) : Type 0 where
  held : (zs rest : List Found) (r : Found) → (scan image).found ≡ zs ++ (r ∷ rest) → Holds (area_of image) w r
      → Holder image w
  free : NoneHolds image w → Holder image w

-- of every image and word; and there are no two
unfoldable pub OneHolder : Type 0
OneHolder =
    (image : List ℕ) (w : ℕ) → Holder image w
    × ((zs rest zs' rest' : List Found) (r r' : Found)
    → (scan image).found ≡ zs ++ (r ∷ rest) → Holds (area_of image) w r
    → (scan image).found ≡ zs' ++ (r' ∷ rest') → Holds (area_of image) w r' → (zs ≡ zs') × (r ≡ r'))

-- "any one word .. changed at will"
module _ (image : List ℕ) (w v : ℕ) where
  -- "every record listed before the walked record that holds the word is listed unchanged"
  abbrev pub BeforeHolder : Type 0
  BeforeHolder =
      (zs rest : List Found) (r : Found) → (scan image).found ≡ zs ++ (r ∷ rest) → Holds (area_of image) w r
      → Unchanged image (set image w v) zs

  -- "if no walked record holds it, all of them are"; more records, damage or one record too many may follow them
  abbrev pub NoHolder : Type 0
  NoHolder = NoneHolds image w → Unchanged image (set image w v) (scan image).found

  -- where the scan ended without refusal, nothing can follow unless the word is the one at which it ended
  abbrev pub Elsewhere : Type 0
  Elsewhere =
      (lsn : ℕ) → (scan image).end ≡ ok lsn → NoneHolds image w → (IsEndWord image w → ⊥)
      → AllSame image (set image w v)

-- of every image that open accepts, whether or not its scan ended without refusal
unfoldable pub OneWord : Type 0
OneWord =
    (image : List ℕ) → Opens image → (w v : ℕ) → Outside image w
    → BeforeHolder image w v × NoHolder image w v × Elsewhere image w v

-- "the walk stops as damaged at that very record": those before it are found, and 12 is given with its LSN and the
-- number of a test
pub record DamagedAt (test : ℕ) (old new : List ℕ) (zs : List Found) (r : Found) : Type 0 where
  pub opens : Opens new
  pub found : (scan new).found ≡ zs
  pub ends : (scan new).end ≡ refused (damaged_by test r.lsn)
  pub payloads : SamePayloads old new zs

-- "either only padding changed and the listing is the same, or ..": padding is what is not of the record's L bytes; the
-- test is `check`, the sixth
pub data PaddingOrDamage (old new : List ℕ) (zs : List Found) (r : Found) : Type 0 where
  padding : payload new r ≡ payload old r → AllSame old new → PaddingOrDamage old new zs r
  damage : (payload new r ≡ payload old r → ⊥) → DamagedAt 6 old new zs r → PaddingOrDamage old new zs r

-- word i of a record
abbrev pub record_word : List ℕ → Found → ℕ → ℕ
record_word image r i = ring_word (area_of image) (r.pos + i)

-- "one payload word of a walked record": word q of its payload
abbrev pub payload_word : List ℕ → Found → ℕ → ℕ
payload_word image r q = record_word image r (3 + q)

-- "the change lies within 32 neighbouring bits" of it
unfoldable pub OneBurst : Type 0
OneBurst =
    (image : List ℕ) → Ended image
    → (zs rest : List Found) (r : Found) → (scan image).found ≡ zs ++ (r ∷ rest)
    → (q : ℕ) → q < payload_words r.length → (v p : ℕ)
    → Within32 p (get_or image (payload_word image r q) 0) v
    → PaddingOrDamage image (set image (payload_word image r q) v) zs r

-- Beside that, what the other words of a record do: word 0 with a mark above 2, with kind 0, too long, or with another
-- kind; word 1; word 2 with another check. (A length, a mark from 0 to 2 or an epoch may change with no test failing.)
unfoldable pub EachWord : Type 0
EachWord =
    (image : List ℕ) → Opens image
    → (zs rest : List Found) (r : Found) → (scan image).found ≡ zs ++ (r ∷ rest) → (v : ℕ)
    → let with0 = set image (record_word image r 0) v in
    let with1 = set image (record_word image r 1) v in
    let with2 = set image (record_word image r 2) v in
    (2 < mark_of v → DamagedAt 1 image with0 zs r)
    × (1 ≤ mark_of v → mark_of v ≤ 2 → kind_of v ≡ 0 → DamagedAt 2 image with0 zs r)
    × (1 ≤ mark_of v → mark_of v ≤ 2 → 1 ≤ kind_of v → max_payload < length_of v → DamagedAt 3 image with0 zs r)
    × (1 ≤ mark_of v → mark_of v ≤ 2 → 1 ≤ kind_of v → length_of v ≡ r.length → (kind_of v ≡ r.kind → ⊥)
    → DamagedAt 6 image with0 zs r)
    × ((v ≡ r.lsn → ⊥) → DamagedAt 5 image with1 zs r)
    × ((check_of v ≡ check_of (get_or image (record_word image r 2) 0) → ⊥) → DamagedAt 6 image with2 zs r)

-- The same in the request's words, over what is listed.
-- a record is listed with its payload
pub record StillListed (old new : List ℕ) (z : Found) : Type 0 where
  pub among : Among z (listed (scan new).found)
  pub payload_same : payload new z ≡ payload old z

-- "every record listed before the walked record that holds the word is listed unchanged; if no walked record holds it,
-- all of them are"
unfoldable pub OneWordListed : Type 0
OneWordListed =
    (image : List ℕ) → Ended image → (w v : ℕ) → Outside image w
    → ((zs rest : List Found) (r z : Found) → (scan image).found ≡ zs ++ (r ∷ rest) → Holds (area_of image) w r
    → Among z (listed zs) → StillListed image (set image w v) z)
    × ((z : Found) → NoneHolds image w → Among z (listed (scan image).found) → StillListed image (set image w v) z)

-- "either only padding changed and the listing is the same, or the walk stops as damaged at that very record"
pub data SameListOrDamage (old new : List ℕ) (zs : List Found) (r : Found) : Type 0 where
  same_list : listed (scan new).found ≡ listed (scan old).found → (scan new).end ≡ (scan old).end
      → SamePayloads old new (listed (scan old).found) → SameListOrDamage old new zs r
  damage_there : listed (scan new).found ≡ listed zs → (scan new).end ≡ refused (damaged_by 6 r.lsn)
      → SamePayloads old new (listed zs) → SameListOrDamage old new zs r

unfoldable pub OneBurstListed : Type 0
OneBurstListed =
    (image : List ℕ) → Ended image
    → (zs rest : List Found) (r : Found) → (scan image).found ≡ zs ++ (r ∷ rest)
    → (q : ℕ) → q < payload_words r.length → (v p : ℕ)
    → Within32 p (get_or image (payload_word image r q) 0) v
    → SameListOrDamage image (set image (payload_word image r q) v) zs r
