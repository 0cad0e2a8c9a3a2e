-- The invariant of three modules holds of modules that can show less, and of one in step that is settled on an image
-- that it may show.
-- Cites AppendInvariant.antt and BelowLaws.antt of append; Standing.antt and Fared.antt of replicas.
use mathlib.Core.Path.{◌≡◌, refl, ◌∙◌, sym}
use mathlib.Core.List.{List}
use mathlib.Core.Bool.{true, false, true≢false}
use Prim.Native.Nat.{ℕ}
use lib.ListN.{length}
use Rattle.device.specs.Crash.{Device, CrashImage, power_up}
use Rattle.device.proofs.CrashLaws.{Shows, shows_power_up}
use Rattle.journal.specs.AbstractLog.{AbstractLog}
use Rattle.append.proofs.AppendInvariant.{inv_below}
use Rattle.append.proofs.BelowLaws.{Below}
use Rattle.replicas.specs.RecoverThree.{Slot, reads_to_end}
use Rattle.replicas.specs.ThreeSafe.{Module, Drive, settled_on}
use Rattle.replicas.proofs.Fared.{settle_top}
use Rattle.replicas.proofs.RecoveryStep.{any_of_slot}
use Rattle.replicas.proofs.Standing.{base_of, Plain, Top, torn, stale, Good, good_top, good_torn, Any, any_top, any_out, Working, Standing, inv_readable}

-- what m may be replaced by: a device that is below its own, or an image that it may show
pub data Narrows (m : Module) : Module → Type 0 where
  less : (d : Device) → Shows m.image d → Below (length m.image) d m.device
      → (m.is_in_step ≡ false → d ≡ power_up m.image)
      → Narrows m (record { image = m.image; device = d; is_in_step = m.is_in_step })
  cut : m.is_in_step ≡ true → (img : List ℕ) → CrashImage m.device (length m.image) img → Narrows m (settled_on img)

abbrev pub with_modules : (Slot → Module) → Drive → Drive
with_modules ms s =
    record { image = s.image; state = s.state; log = s.log; down = s.down; lone = s.lone; modules = ms }

narrow_plain : {n : ℕ} {m m' : Module} → Narrows m m' → Plain n m → Plain n m'
narrow_plain (less d sh b o) p = record { size = p.size; shows = sh; settled = o }
narrow_plain (cut h img c) p =
    record { size = c.size ∙ p.size; shows = shows_power_up img; settled = λ q. refl }

narrow_out : {m m' : Module} → Narrows m m' → m.is_in_step ≡ false → m'.is_in_step ≡ false
narrow_out (less d sh b o) h = h
narrow_out (cut q img c) h = refl

module _ (s : Drive) (ms : Slot → Module) where
  abbrev s' : Drive
  s' = with_modules ms s

  moved_top : {log : AbstractLog} {e : ℕ} {m : Module} → Top s log e m → Top s' log e m
  moved_top t = record { ran = t.ran; inv = t.inv; epoch = t.epoch; upto = t.upto; state = t.state }

  narrow_top : {log : AbstractLog} {e : ℕ} {m m' : Module} → Narrows m m' → Top s log e m → Top s' log e m'
  narrow_top {log = log} {m = m} (less d sh b o) t = record {
    ran = t.ran;
    inv = inv_below (base_of log m.image d) m.device t.inv b sh;
    epoch = t.epoch;
    upto = t.upto;
    state = t.state;
  }
  narrow_top (cut h img c) t = moved_top (settle_top t img c)

  narrow_good : {e : ℕ} {m m' : Module} → Narrows m m' → Good s e m → Good s' e m'
  narrow_good n (good_top t) = good_top (narrow_top n t)
  narrow_good (less d sh b o) (good_torn x q) = good_torn x q
  narrow_good (cut h img c) (good_torn x q) = absurd (true≢false (sym h ∙ x))

  narrow_any : {e : ℕ} {m m' : Module} → Narrows m m' → Any s e m → Any s' e m'
  narrow_any n (any_top t) = any_top (narrow_top n t)
  narrow_any (less d sh b o) (any_out x (torn q)) = any_out x (torn q)
  narrow_any (less d sh b o) (any_out x (stale l)) = any_out x (stale l)
  narrow_any (cut h img c) (any_out x q) = absurd (true≢false (sym h ∙ x))

  narrow_readable : {e : ℕ} {m m' : Module} → Narrows m m' → Any s e m → reads_to_end m.image ≡ true
      → reads_to_end m'.image ≡ true
  narrow_readable (less d sh b o) a r = r
  narrow_readable (cut h img c) (any_top t) r = inv_readable (settle_top t img c).inv
  narrow_readable (cut h img c) (any_out x q) r = absurd (true≢false (sym h ∙ x))

  module _ (st : Standing s) (ns : (i : Slot) → Narrows (s.modules i) (ms i)) where
    same-working : Working s st.size st.epoch → Working s' st.size st.epoch
    same-working w = record {
      device = w.device;
      ran = w.ran;
      log = w.log;
      like = w.like;
      inv = w.inv;
      agrees = w.agrees;
      size = w.size;
      epoch = w.epoch;
    }

    pub narrow-stands : Standing s'
    narrow-stands = record {
      size = st.size;
      epoch = st.epoch;
      odd = st.odd;
      plain = λ i. narrow_plain (ns i) (st.plain i);
      good = λ i n. narrow_good (ns i) (st.good i n);
      any = narrow_any (ns st.odd) st.any;
      working = λ u. same-working (st.working u);
      idle = λ d i. narrow_out (ns i) (st.idle d i);
    }

    -- a module that could be read still can
    pub narrow-reads : (i : Slot) → reads_to_end (s.modules i).image ≡ true → reads_to_end (ms i).image ≡ true
    narrow-reads i r = narrow_readable (ns i) (any_of_slot st i) r
