-- Texts put one after another: nothing, one byte, a part of the buffer, two texts in a row, a text under way, and one
-- byte more in hex.
-- Cites specs/Text.antt.
use mathlib.Core.Path.{◌≡◌, refl, sym, ap, ◌∙◌}
use mathlib.Core.List.{List, [], ◌∷◌, ◌++◌, append_assoc, append-nil}
use Prim.Native.Nat.{ℕ, suc, ◌+◌, ◌*◌, ◌-◌, ◌/◌, ◌%◌, ◌≤◌, ◌<◌}
use native.Mathlib.Numerals.{add-one}
use native.Mathlib.Omega.{arith}
use lib.ListN.{length, take, drop, get_or, set, length-append, length-take, length-drop, length-set}
use lib.Seq.{take-suc, take-suc-set, drop-set-lt, drop-drop}
use borrow.Rule.Slice.PartMut.{put_mid}
use Rattle.std.proofs.lemmas.Slice.{take-put_mid, drop-put_mid}
use Rattle.io.specs.Digits.{hex_digit_ascii}
use Rattle.text.specs.Text.{hex_text, Appended}

-- no text
pub appended_none : (at : ℕ) (a : List ℕ) → Appended at at a a []
appended_none at a = record { front = sym (append-nil _); rest = refl; end = omega arith; room = refl }

-- the same text by another name
pub appended_as : {at r : ℕ} {a b s u : List ℕ} → Appended at r a b s → s ≡ u → Appended at r a b u
appended_as p e = rw e at p

-- one byte
pub appended_one : (at : ℕ) (a : List ℕ) (x : ℕ) → at < length a → Appended at (at + 1) a (set a at x) (x ∷ [])
appended_one at a x h = record {
  front = rw add-one (take-suc-set a at x h);
  rest = rw add-one (drop-set-lt (suc at) a at x (omega arith));
  end = refl;
  room = length-set a at x;
}

-- one text after another
pub appended_both : {at r t : ℕ} {a b c s u : List ℕ} → Appended at r a b s → Appended r t b c u
    → Appended at t a c (s ++ u)
appended_both {at} {r} {t} {a} {b} {c} {s} {u} p q =
    let l = length-append s u in
    let pe = p.end in
    let qe = q.end in
    let e : r + (t - r) ≡ t = omega arith in
    record {
      front = q.front ∙ ap (λ (x : List ℕ). x ++ u) p.front ∙ append_assoc (take at a) s u;
      rest = q.rest ∙ (rw e at (sym (drop-drop (t - r) r b) ∙ ap (drop (t - r)) p.rest ∙ drop-drop (t - r) r a));
      end = omega arith;
      room = q.room ∙ p.room;
    }

-- a text under way: whatever puts the rest from here on leaves the whole
pub record Leads (at₀ at : ℕ) (out₀ out rest whole : List ℕ) : Type 0 where
  pub whole_put : {r : ℕ} {out' : List ℕ} → Appended at r out out' rest → Appended at₀ r out₀ out' whole

pub leads_start : (at : ℕ) (out text : List ℕ) → Leads at at out out text text
leads_start at out text = record { whole_put = λ p. p }

module _ {at₀ at to : ℕ} {out₀ out out' rest whole text : List ℕ} (way : Leads at₀ at out₀ out rest whole)
    (put : Appended at to out out' text) where
  -- a part of the rest, and what is left then
  pub leads_on : {left : List ℕ} → rest ≡ text ++ left → Leads at₀ to out₀ out' left whole
  leads_on e = record { whole_put = λ p. way.whole_put (appended_as (appended_both put p) (sym e)) }

  -- all of the rest
  pub leads_last : rest ≡ text → Appended at₀ to out₀ out' whole
  leads_last e = way.whole_put (appended_as put (sym e))

-- a text written over a part of the buffer
pub appended_part : (at k r : ℕ) (a s : List ℕ) → k ≡ length s → r ≡ at + length s → r ≤ length a
    → Appended at r a (put_mid at k a s) s
appended_part at k r a s e f h = record {
  front = take-put_mid at k a s r f (omega arith);
  rest = drop-put_mid at k a s r (omega arith) (omega arith) (sym e);
  end = f;
  room = omega (arith, length-append {A = ℕ}, length-take {A = ℕ}, length-drop {A = ℕ});
}

hex_append : (xs ys : List ℕ) → hex_text (xs ++ ys) ≡ hex_text xs ++ hex_text ys
unfolding hex_text
hex_append [] ys = refl
hex_append (x ∷ xs) ys = rw (hex_append xs ys)

pub length_hex : (bs : List ℕ) → length (hex_text bs) ≡ 2 * length bs
unfolding hex_text
length_hex [] = refl
length_hex (b ∷ bs) = let h = length_hex bs in omega arith

-- one more byte of a byte string in hex
pub hex_more : {at end i : ℕ} {a b : List ℕ} (bs : List ℕ) (x y : ℕ) → Appended at end a b (hex_text (take i bs))
    → i < length bs → end + 2 ≤ length a → x ≡ hex_digit_ascii (get_or bs i 0 / 16)
    → y ≡ hex_digit_ascii (get_or bs i 0 % 16)
    → Appended at (end + 2) a (set (set b end x) (end + 1) y) (hex_text (take (i + 1) bs))
unfolding hex_text
hex_more {at} {end} {i} {a} {b} bs x y p l h ex ey =
    let lb = p.room in
    let ls = length-set b end x in
    let e : end + 1 + 1 ≡ end + 2 = omega arith in
    let two = appended_both (appended_one end b x (omega arith))
    (appended_one (end + 1) (set b end x) y (omega arith)) in
    let t : hex_text (take (i + 1) bs) ≡ hex_text (take i bs) ++ (x ∷ y ∷ []) =
    rw (add-one i, take-suc bs i 0 l, hex_append, ex, ey) in
    rw t (rw e at (appended_both p two))

-- a text ends within the buffer
pub appended_within : {at r : ℕ} {a b s : List ℕ} → Appended at r a b s → at ≤ length a → r ≤ length b
appended_within {at} {r} {a} {b} {s} p h =
    let e = p.end in
    omega (arith, length-take r b, length-take at a, length-append (take at a) s, ap length p.front)
