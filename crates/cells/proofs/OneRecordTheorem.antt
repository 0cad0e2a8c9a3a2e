-- What a changed word of a record found can do: 32 neighbouring bits of a payload word, and each of the words before.
-- Cites specs/OneCell.antt, OneWordTheorem.antt, DamageLaws.antt, PositionLaws.antt and WordLaws.antt.
use mathlib.Core.Path.{◌≡◌, refl, sym, ap, ◌∙◌, subst}
use mathlib.Core.List.{List, [], ◌∷◌, ◌++◌, append-nil}
use mathlib.Core.Bool.{Bool, true, false}
use Prim.Native.Nat.{ℕ, suc, ◌+◌, ◌-◌, ◌*◌, ◌/◌, ◌%◌, ◌^◌, ◌≤◌, ◌<◌}
use native.Mathlib.Omega.{arith}
use native.Mathlib.Nat.{mod-lt}
use lib.Dec.{eqb}
use lib.ListN.{length, get_or, set, take, length-set}
use lib.Seq.{get_or-set_same}
use borrow.Author.Tests.{eqb-true, eqb-false}
use Rattle.crc_spec.specs.Burst.{Within32}
use Rattle.crc_spec.specs.Bytes.{le_bytes, AllBytes}
use Rattle.crc_spec.proofs.Burst.{burst_agrees}
use Rattle.crc_spec.proofs.Laws.{le_bytes_bytes, append_bytes}
use Rattle.refusal.specs.Tests.{damaged_by, ok, refused}
use Rattle.layout.specs.Record.{max_payload, size_of, payload_words, mark_of, kind_of, length_of, check_of, record_check}
use Rattle.layout.specs.Ring.{area_start, area_of, ring_word, read_at, payload_of}
use Rattle.layout.specs.Superline.{copy_start}
use Rattle.layout.proofs.RingByteLaws.{ring_bytes_same, payload_of_bytes}
use Rattle.layout.proofs.RingLaws.{ring_eq}
use Rattle.state.specs.Table.{table_size}
use Rattle.scan.specs.declared.Cursor.{Cursor}
use Rattle.scan.specs.declared.Found.{Found}
use Rattle.scan.specs.Open.{head_cursor}
use Rattle.scan.specs.Next.{one, next}
use Rattle.scan.specs.Scan.{Scan, stopped, scan_from, scan, scan_from_within, scan_within, listed}
use Rattle.scan.specs.Listed.{Among, here, there}
use Rattle.scan.proofs.AmongLaws.{listed_found}
use Rattle.scan.proofs.FoundLaws.{opened_at, superline_right}
use Rattle.scan.proofs.FrameLaws.{Alike, ahead, Reached, reach}
use Rattle.scan.proofs.OpenLaws.{size_in_range}
use Rattle.scan.proofs.RepeatLaws.{scan_goes_on}
use Rattle.cells.specs.OneCell.{Opens, Ended, Outside, Holds, payload, AllSame, DamagedAt, PaddingOrDamage, padding, damage, record_word, payload_word, OneBurst, EachWord, SameListOrDamage, same_list, damage_there, OneBurstListed}
use Rattle.cells.proofs.DamageLaws.{Were, were, next-bad-mark, next-bad-kind, next-bad-length, next-bad-lsn, next-bad-check}
use Rattle.cells.proofs.PositionLaws.{moved, none_after, not_end, none_before, First, first}
use Rattle.cells.proofs.WordLaws.{read_other, same-payload, same_check, t}
use Rattle.cells.proofs.OneWordTheorem.{sized, not_held, payload_same, scan_new, opens-new, all_same}

-- what holds of the records before one, of it, and of those after it, holds of all
among_each : (P : Found → Type 0) (zs : List Found) (r : Found) (rest : List Found) → ((z : Found) → Among z zs → P z)
    → P r → ((z : Found) → Among z rest → P z)
    → (z : Found) → Among z (zs ++ (r ∷ rest)) → P z
among_each P [] r rest f p g z here = p
among_each P [] r rest f p g z (there m) = g z m
among_each P (x ∷ zs) r rest f p g z here = f x here
among_each P (x ∷ zs) r rest f p g z (there m) = among_each P zs r rest (λ y a. f y (there a)) p g z m

module _ (image : List ℕ) (op : Opens image) (zs rest : List Found) (r : Found)
    (e : (scan image).found ≡ zs ++ (r ∷ rest))
    (i : ℕ) (inside : i < size_of r.length) (v : ℕ) where
  abbrev c : ℕ
  c = area_of image

  abbrev len : ℕ
  len = r.length

  abbrev w : ℕ
  w = ring_word c (r.pos + i)

  abbrev img : List ℕ
  img = set image w v

  big : 40 ≤ length image
  big = (size_in_range (length image) (opened_at image (head_cursor image) op).sized).0

  w_least : 24 ≤ w
  unfolding ring_word
  w_least = omega arith

  w_most : w < length image
  unfolding ring_word
  w_most = let l = big in let m = mod-lt (r.pos + i) {m = c} (omega arith) in omega arith

  outside : Outside image w
  unfolding copy_start
  outside =
      let s = superline_right image (opened_at image (head_cursor image) op).right in
      let n = s.names_copy in
      let l = w_least in
      record { not_selector = λ z. omega arith; not_active = λ j k z. omega arith }

  hold : Holds c w r
  hold = record { index = i; inside = inside; is = refl }

  found_from : (scan_from (suc table_size) image (head_cursor image)).found ≡ zs ++ (r ∷ rest)
  unfolding scan_within
  found_from = e

  alike_before : (z : Found) → Among z zs → Alike image img z
  alike_before z a = not_held image w v outside z
      (none_before image (suc table_size) (head_cursor image) zs rest r w found_from hold z a)

  size_same : length img ≡ length image
  size_same = sized image w v outside

  k : Reached table_size image img size_same (suc table_size) (head_cursor image) zs (r ∷ rest)
  k = reach table_size image img size_same (suc table_size) (head_cursor image) zs (r ∷ rest) found_from alike_before

  f : First image k.left k.at r rest
  f = first image k.left k.at r rest k.others

  -- the word itself, and the record's other words
  this_word : read_at img c (r.pos + i) ≡ v
  unfolding read_at
  this_word = get_or-set_same image w v 0 w_most

  other_word : (j : ℕ) → j < size_of len → (j ≡ i → ⊥) → read_at img c (r.pos + j) ≡ read_at image c (r.pos + j)
  other_word j l n = read_other image w v c (r.pos + j) (λ z.
      let m = moved image k.at r f.v f.step in
      let room = m.room in
      let same = ring_eq c r.pos (r.pos + i) (r.pos + j) (omega arith) (omega arith) (omega arith) (omega arith)
      (omega arith) z in
      n (omega arith))

  other_0 : (0 ≡ i → ⊥) → read_at img c r.pos ≡ read_at image c r.pos
  unfolding size_of
  other_0 n = subst (λ (p : ℕ). read_at img c p ≡ read_at image c p) {x = r.pos + 0} {y = r.pos} (omega arith)
      (other_word 0 (omega arith) n)

  other_1 : (1 ≡ i → ⊥) → read_at img c (r.pos + 1) ≡ read_at image c (r.pos + 1)
  unfolding size_of
  other_1 n = other_word 1 (omega arith) n

  other_2 : (2 ≡ i → ⊥) → read_at img c (r.pos + 2) ≡ read_at image c (r.pos + 2)
  unfolding size_of
  other_2 n = other_word 2 (omega arith) n

  payload_word_lem : (q : ℕ) → q < payload_words len → (3 + q ≡ i → ⊥)
      → read_at img c (r.pos + 3 + q) ≡ read_at image c (r.pos + 3 + q)
  unfolding size_of
  payload_word_lem q l n =
      subst (λ (p : ℕ). read_at img c p ≡ read_at image c p) {x = r.pos + (3 + q)} {y = r.pos + 3 + q}
      (omega arith) (other_word (3 + q) (omega arith) n)

  -- a word before the payload leaves it
  payload_kept : i < 3 → payload_of img c r.pos len ≡ payload_of image c r.pos len
  unfolding payload_of
  payload_kept l = ap (take len) (ring_bytes_same img image c (r.pos + 3) (payload_words len)
      (λ q h. payload_word_lem q h (λ z. omega arith)))

  -- next is refused at the record: the scan ends there
  damaged_by_lem : (test : ℕ) → next img k.at ≡ refused (damaged_by test r.lsn) → DamagedAt test image img zs r
  unfolding scan_from_within
  damaged_by_lem test refuses = record {
    opens = opens-new image w v outside op;
    found = ap (λ (s : Scan). s.found) whole ∙ append-nil zs;
    ends = ap (λ (s : Scan). s.end) whole;
    payloads = λ z a. payload_same image w v outside z (alike_before z a);
  }
    where
      ends_there : scan_from (suc f.left) img k.at ≡ stopped k.at (refused (damaged_by test r.lsn))
      ends_there = rw refuses

      whole : scan img ≡ ahead zs (stopped k.at (refused (damaged_by test r.lsn)))
      whole =
          scan_new image w v outside
          ∙ k.in-new
          ∙ ap (λ (n : ℕ). ahead zs (scan_from n img k.at)) f.is
          ∙ ap (ahead zs) ends_there

  old_words : Were table_size image img size_same k.at r f.v f.step
  old_words = were table_size image img size_same k.at r f.v f.step

  -- the payload of the record gives another check, its words 0 to 2 as they were
  damaged_there : 3 ≤ i
      → (record_check len r.kind r.lsn (payload_of img c r.pos len)
      ≡ record_check len r.kind r.lsn (payload_of image c r.pos len) → ⊥) → DamagedAt 6 image img zs r
  damaged_there l differs =
      let o = old_words in
      damaged_by_lem 6
      (next-bad-check table_size image img size_same k.at r f.v f.step (read_at image c r.pos)
      (read_at image c (r.pos + 2)) (other_0 (λ z. omega arith)) (other_1 (λ z. omega arith))
      (other_2 (λ z. omega arith))
      o.marked o.most o.some_kind o.len
      (λ s. differs (sym (rw o.kind at s) ∙ o.check)))

  -- the same payload: the scan is the same
  module _ (lsn : ℕ) (ends : (scan image).end ≡ ok lsn) (after-words : 3 ≤ i)
      (same : payload_of img c r.pos len ≡ payload_of image c r.pos len) where
    this : Alike image img r
    this = record {
      word_0 = other_0 (λ z. omega arith);
      word_1 = other_1 (λ z. omega arith);
      word_2 = other_2 (λ z. omega arith);
      bytes = same;
    }

    alike-after : (z : Found) → Among z rest → Alike image img z
    alike-after z a = not_held image w v outside z
        (none_after image k.at r f.v w f.left f.step hold z
        (subst (λ (l : List Found). Among z l) (sym f.others) a))

    every : (z : Found) → Among z (scan image).found → Alike image img z
    every z a = among_each (λ y. Alike image img y) zs r rest alike_before this alike-after z
        (subst (λ (l : List Found). Among z l) e a)

    end_is : (scan image).at ≡ (scan_from f.left image f.v).at
    unfolding scan_within
    end_is =
        ap (λ (s : Scan). s.at) k.in-old
        ∙ ap (λ (n : ℕ). (scan_from n image k.at).at) f.is
        ∙ ap (λ (s : Scan). s.at) (scan_goes_on f.left image k.at r f.v f.step)

    only-padding : AllSame image img
    only-padding =
        all_same image w v outside op lsn ends every
        (λ z. not_end image k.at r f.v w f.left f.step hold
        (z ∙ ap (λ (u : Cursor). ring_word c u.pos) end_is))

-- ---------------------------------------------------------------- 32 neighbouring bits of a payload word
module _ (image : List ℕ) (en : Ended image) (zs rest : List Found) (r : Found)
    (e : (scan image).found ≡ zs ++ (r ∷ rest))
    (q : ℕ) (inside : q < payload_words r.length) (v : ℕ) where
  abbrev area : ℕ
  area = area_of image

  abbrev at_word : ℕ
  at_word = payload_word image r q

  abbrev changed : List ℕ
  changed = set image at_word v

  room : 3 + q < size_of r.length
  unfolding size_of
  room = omega arith

  behind_head : 3 ≤ 3 + q
  behind_head = omega arith

  place : r.pos + (3 + q) ≡ r.pos + 3 + q
  place = omega arith

  others : (i : ℕ) → i < payload_words r.length → (i ≡ q → ⊥)
      → read_at changed area (r.pos + 3 + i) ≡ read_at image area (r.pos + 3 + i)
  others i l n = payload_word_lem image en.opens zs rest r e (3 + q) room v i l (λ z. n (omega arith))

  payload_new : payload changed r ≡ payload_of changed area r.pos r.length
  payload_new = ap (λ (n : ℕ). payload_of changed (n - area_start) r.pos r.length) (length-set image at_word v)

  either : (p : ℕ) → Within32 p (get_or image at_word 0) v → PaddingOrDamage image changed zs r
  unfolding read_at
  either p within = go (eqb (a % 2 ^ n) (b % 2 ^ n)) refl
    where
      a : ℕ
      a = read_at image area (r.pos + 3 + q)

      b : ℕ
      b = read_at changed area (r.pos + 3 + q)

      n : ℕ
      n = t area r.pos r.length q inside * 8

      near : Within32 p a b
      near = subst (λ (y : ℕ). Within32 p (read_at image area y) (read_at changed area y)) place
          (subst (Within32 p (get_or image at_word 0)) (sym (this_word image en.opens zs rest r e (3 + q) room v))
          within)

      over : List ℕ → ℕ
      over bytes = record_check r.length r.kind r.lsn bytes

      checks : over (payload_of changed area r.pos r.length) ≡ over (payload_of image area r.pos r.length)
          → a % 2 ^ n ≡ b % 2 ^ n
      checks = same_check area r.pos r.length q inside image changed others r.kind r.lsn p near

      go : (y : Bool) → eqb (a % 2 ^ n) (b % 2 ^ n) ≡ y → PaddingOrDamage image changed zs r
      go true z =
          let same = same-payload area r.pos r.length q inside image changed others
          (eqb-true (a % 2 ^ n) (b % 2 ^ n) z) in
          padding (payload_new ∙ same)
          (only-padding image en.opens zs rest r e (3 + q) room v en.lsn en.ends behind_head same)
      go false z =
          let no = eqb-false (a % 2 ^ n) (b % 2 ^ n) z in
          damage (λ s. no (checks (ap over (sym payload_new ∙ s))))
          (damaged_there image en.opens zs rest r e (3 + q) room v behind_head (λ s. no (checks s)))

pub one_burst : OneBurst
unfolding OneBurst
one_burst image en zs rest r e q inside v p within = either image en zs rest r e q inside v p within

-- ---------------------------------------------------------------- a record's other words
-- a check over another kind is another one: the kind is two bytes
other_kind : (len kind kind' lsn : ℕ) (bytes : List ℕ) → AllBytes bytes → kind < 65536 → kind' < 65536
    → record_check len kind lsn bytes ≡ record_check len kind' lsn bytes → kind ≡ kind'
unfolding record_check
other_kind len kind kind' lsn bytes all small small' same =
    let bits : kind % 2 ^ 16 ≡ kind' % 2 ^ 16 =
    burst_agrees 2 kind kind' 0 (le_bytes 4 len) (le_bytes 8 lsn ++ bytes) (le_bytes_bytes 4 len)
    (append_bytes (le_bytes 8 lsn) bytes (le_bytes_bytes 8 lsn) all)
    (record { below = omega arith; above = omega arith }) same in
    omega arith

-- one of the three words before the payload, changed to v
module _ (image : List ℕ) (op : Opens image) (zs rest : List Found) (r : Found)
    (e : (scan image).found ≡ zs ++ (r ∷ rest)) (i : ℕ) (head : i < 3) (v : ℕ) where
  held_word : i < size_of r.length
  unfolding size_of
  held_word = omega arith

  abbrev now : List ℕ
  now = set image (record_word image r i) v

  -- the scan is refused there if next is
  refused_there : (test : ℕ)
      → ((u : Cursor) (y : Cursor) → next image u ≡ ok (one r y) → length now ≡ length image
      → next now u ≡ refused (damaged_by test r.lsn)) → DamagedAt test image now zs r
  refused_there test refuses =
      damaged_by_lem image op zs rest r e i held_word v test
      (refuses (k image op zs rest r e i held_word v).at (f image op zs rest r e i held_word v).v
      (f image op zs rest r e i held_word v).step (length-set image (record_word image r i) v))

  is_v : (y : ℕ) → r.pos + i ≡ y → read_at now (area_of image) y ≡ v
  is_v y q = subst (λ (x : ℕ). read_at now (area_of image) x ≡ v) q (this_word image op zs rest r e i held_word v)

  was : (j y : ℕ) → j < 3 → (j ≡ i → ⊥) → r.pos + j ≡ y
      → read_at now (area_of image) y ≡ read_at image (area_of image) y
  unfolding size_of
  was j y l n q = subst (λ (x : ℕ). read_at now (area_of image) x ≡ read_at image (area_of image) x) q
      (other_word image op zs rest r e i held_word v j (omega arith) n)

  payload_was : payload_of now (area_of image) r.pos r.length ≡ payload_of image (area_of image) r.pos r.length
  payload_was = payload_kept image op zs rest r e i held_word v head

module _ (image : List ℕ) (op : Opens image) (zs rest : List Found) (r : Found)
    (e : (scan image).found ≡ zs ++ (r ∷ rest)) (v : ℕ) where
  abbrev with : ℕ → List ℕ
  with i = set image (record_word image r i) v

  low_0 : 0 < 3
  low_0 = omega arith

  low_1 : 1 < 3
  low_1 = omega arith

  low_2 : 2 < 3
  low_2 = omega arith

  at_0 : r.pos + 0 ≡ r.pos
  at_0 = omega arith

  is_word_0 : read_at (with 0) (area_of image) r.pos ≡ v
  is_word_0 = is_v image op zs rest r e 0 low_0 v r.pos at_0

  bad_mark : 2 < mark_of v → DamagedAt 1 image (with 0) zs r
  bad_mark l = refused_there image op zs rest r e 0 low_0 v 1
      (λ u y h s. next-bad-mark table_size image (with 0) s u r y h v l is_word_0)

  bad_kind : 1 ≤ mark_of v → mark_of v ≤ 2 → kind_of v ≡ 0 → DamagedAt 2 image (with 0) zs r
  bad_kind l m z = refused_there image op zs rest r e 0 low_0 v 2
      (λ u y h s. next-bad-kind table_size image (with 0) s u r y h v l m z is_word_0)

  bad_length : 1 ≤ mark_of v → mark_of v ≤ 2 → 1 ≤ kind_of v → max_payload < length_of v
      → DamagedAt 3 image (with 0) zs r
  bad_length l m z x = refused_there image op zs rest r e 0 low_0 v 3
      (λ u y h s. next-bad-length table_size image (with 0) s u r y h v l m (λ q. omega arith) x is_word_0)

  changed_kind : 1 ≤ mark_of v → mark_of v ≤ 2 → 1 ≤ kind_of v → length_of v ≡ r.length → (kind_of v ≡ r.kind → ⊥)
      → DamagedAt 6 image (with 0) zs r
  unfolding kind_of
  changed_kind l m z same other = refused_there image op zs rest r e 0 low_0 v 6 (λ u y h s.
      let o = were table_size image (with 0) s u r y h in
      let bytes = payload_of image (area_of image) r.pos r.length in
      let small : kind_of v < 65536 = mod-lt (v / 4294967296) (omega arith) in
      let was-small : r.kind < 65536 =
      subst (λ (x : ℕ). x < 65536) o.kind
      (mod-lt (read_at image (area_of image) r.pos / 4294967296) (omega arith)) in
      next-bad-check table_size image (with 0) s u r y h v (read_at image (area_of image) (r.pos + 2)) is_word_0
      (was image op zs rest r e 0 low_0 v 1 (r.pos + 1) low_1 (λ q. omega arith) refl)
      (was image op zs rest r e 0 low_0 v 2 (r.pos + 2) low_2 (λ q. omega arith) refl)
      l m (λ q. omega arith) same
      (λ q. other (other_kind r.length (kind_of v) r.kind r.lsn bytes
      (payload_of_bytes image (area_of image) r.pos r.length) small was-small
      (sym (rw (payload_was image op zs rest r e 0 low_0 v) at q) ∙ o.check))))

  bad_lsn : (v ≡ r.lsn → ⊥) → DamagedAt 5 image (with 1) zs r
  bad_lsn n = refused_there image op zs rest r e 1 low_1 v 5
      (λ u y h s. next-bad-lsn table_size image (with 1) s u r y h v
      (was image op zs rest r e 1 low_1 v 0 r.pos low_0 (λ q. omega arith) at_0)
      (is_v image op zs rest r e 1 low_1 v (r.pos + 1) refl) n)

  bad_check : (check_of v ≡ check_of (get_or image (record_word image r 2) 0) → ⊥) → DamagedAt 6 image (with 2) zs r
  unfolding read_at
  bad_check n = refused_there image op zs rest r e 2 low_2 v 6 (λ u y h s.
      let o = were table_size image (with 2) s u r y h in
      next-bad-check table_size image (with 2) s u r y h (read_at image (area_of image) r.pos) v
      (was image op zs rest r e 2 low_2 v 0 r.pos low_0 (λ q. omega arith) at_0)
      (was image op zs rest r e 2 low_2 v 1 (r.pos + 1) low_1 (λ q. omega arith) refl)
      (is_v image op zs rest r e 2 low_2 v (r.pos + 2) refl)
      o.marked o.most o.some_kind o.len
      (λ q. n ((rw (payload_was image op zs rest r e 2 low_2 v, o.kind) at q) ∙ sym o.check)))

pub each_word : EachWord
unfolding EachWord
each_word image op zs rest r e v = (
  bad_mark image op zs rest r e v,
  bad_kind image op zs rest r e v,
  bad_length image op zs rest r e v,
  changed_kind image op zs rest r e v,
  bad_lsn image op zs rest r e v,
  bad_check image op zs rest r e v,
)

-- ---------------------------------------------------------------- over what is listed
pub one_burst_listed : OneBurstListed
unfolding OneBurstListed OneBurst
one_burst_listed image en zs rest r e q inside v p within = go (one_burst image en zs rest r e q inside v p within)
  where
    go : {new : List ℕ} → PaddingOrDamage image new zs r → SameListOrDamage image new zs r
    go (padding same a) =
        same_list (ap (λ (s : Scan). listed s.found) a.scans) (ap (λ (s : Scan). s.end) a.scans)
        (λ z m. a.payloads z (listed_found z (scan image).found m).0)
    go (damage other d) =
        damage_there (ap listed d.found) d.ends (λ z m. d.payloads z (listed_found z zs m).0)
