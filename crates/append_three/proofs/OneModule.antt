-- What append makes of one module, beside what reserve, copy, complete and force make of it.
-- Cites RecordBelow.antt of append; NarrowLaws.antt and KnownCalls.antt.
use mathlib.Core.Path.{◌≡◌, refl, ◌∙◌, ap, sym, subst}
use mathlib.Core.List.{List, ◌++◌}
use mathlib.Core.Bool.{Bool, true, false, cond, not, ◌&&◌, true≢false, false≢true}
use Prim.Native.Nat.{ℕ, ◌+◌, ◌-◌, ◌≤◌}
use native.Mathlib.Omega.{arith}
use native.Mathlib.Decide.{dec_le}
use lib.ListN.{length, take, length-append}
use lib.Seq.{take-append-le, take-append-add}
use lib.Dec.{eqb}
use Rattle.device.specs.Ops.{Op, apply}
use Rattle.device.specs.Crash.{Device, carry, CrashImage, power_up}
use Rattle.device.proofs.CrashLaws.{Shows, shows_all, shows_power_up, length_apply, apply_append, carry_append}
use Rattle.state.specs.declared.State.{State}
use Rattle.journal.specs.Append.{reserve_ops}
use Rattle.append.specs.AppendCall.{record_ops}
use Rattle.append.proofs.BelowLaws.{Below, below_same, below_all, crash_below}
use Rattle.append.proofs.FourCalls.{payload_stores, check_stores, Three}
use Rattle.append.proofs.RecordBelow.{completed_on, record_shows, record_below, part_below}
use Rattle.replicas.specs.ThreeSafe.{Module, Fate, settled_on, carried_out, module_after, Befalls, part_in_call}
use Rattle.replicas.proofs.CallStep.{moved_in, moved_still}
use Rattle.append_three.proofs.NarrowLaws.{Narrows, less, cut}
use Rattle.append_three.proofs.KnownCalls.{whole_on}

still : (os : List Op) (m : Module) → m.is_in_step ≡ false → whole_on os m ≡ m
still os m h = rw h

-- a module after the three calls, carried out if it is in step
abbrev pub recorded_on : State → ℕ → List ℕ → Module → Module
recorded_on st kind bytes m = whole_on (check_stores st kind bytes)
    (whole_on (payload_stores st bytes) (whole_on (reserve_ops st kind (length bytes)) m))

whole_step : (os : List Op) (m : Module) → (whole_on os m).is_in_step ≡ m.is_in_step
whole_step os m = go m.is_in_step refl
  where
    go : (t : Bool) → m.is_in_step ≡ t → (whole_on os m).is_in_step ≡ m.is_in_step
    go true h = rw h
    go false h = rw h

pub recorded_step : (st : State) (kind : ℕ) (bytes : List ℕ) (m : Module)
    → (recorded_on st kind bytes m).is_in_step ≡ m.is_in_step
recorded_step st kind bytes m =
    whole_step (check_stores st kind bytes) _ ∙ whole_step (payload_stores st bytes) _
    ∙ whole_step (reserve_ops st kind (length bytes)) m

recorded_still : (st : State) (kind : ℕ) (bytes : List ℕ) (m : Module) → m.is_in_step ≡ false
    → recorded_on st kind bytes m ≡ m
recorded_still st kind bytes m h =
    ap (λ (x : Module). whole_on (check_stores st kind bytes) (whole_on (payload_stores st bytes) x))
    (still (reserve_ops st kind (length bytes)) m h)
    ∙ ap (λ (x : Module). whole_on (check_stores st kind bytes) x) (still (payload_stores st bytes) m h)
    ∙ still (check_stores st kind bytes) m h

-- what is carried out of the ops after the first k: nothing where the module is cut in those
abbrev pub rest_after : ℕ → Fate → Fate
rest_after k f = record { carried = f.carried - k; left = f.left }

module _ (st : State) (kind : ℕ) (bytes : List ℕ) (m : Module) (few : ℕ) (th : Three st m.image kind bytes few)
    (sh : Shows m.image m.device) (settled : m.is_in_step ≡ false → m.device ≡ power_up m.image) where
  abbrev d : Device
  d = m.device

  abbrev n : ℕ
  n = length m.image

  abbrev os : List Op
  os = record_ops st kind bytes

  -- in step
  abbrev r : Module
  r = record { image = apply os m.image; device = completed_on st kind bytes d; is_in_step = true }

  recorded_in : m.is_in_step ≡ true → recorded_on st kind bytes m ≡ r
  recorded_in h = rw h (λ t.
      record { image = sym th.same_image t; device = completed_on st kind bytes d; is_in_step = true })

  length_r : length r.image ≡ n
  length_r = length_apply os m.image

  shows_r : Shows r.image r.device
  shows_r = record_shows st m.image kind bytes few th d d (below_same n d) sh

  shows_os : Shows r.image (carry os d)
  shows_os = shows_all os m.image d sh

  below_r : Below n (carry os d) r.device
  below_r = record_below st m.image kind bytes few th d d (below_same n d) sh

  below_part : (j : ℕ) → Below n (carry (take j os) d) r.device
  below_part = part_below st m.image kind bytes few th d d (below_same n d) sh

  as_it_is : Narrows m m
  as_it_is = less d sh (below_same n d) settled

  -- ---------------------------------------------------------------- the record's stores alone
  pub record_narrows : (f : Fate) → Befalls (part_in_call os false f m) f m
      → Narrows (recorded_on st kind bytes m) (module_after (part_in_call os false f m) f m)
  record_narrows f b = go m.is_in_step refl
    where
      in_step : (w : Bool) → (f.carried ≤ length os)
          × (w ≡ false → CrashImage (carry (take f.carried os) d) n f.left)
          → Narrows r (cond w (carried_out os m) (settled_on f.left))
      in_step true h = less (carry os d) shows_os (rw length_r below_r) (λ q. absurd (true≢false q))
      in_step false h = cut refl f.left
          (rw length_r (crash_below (carry (take f.carried os) d) r.device (below_part f.carried)
          (h.1 refl)))

      go : (t : Bool) → m.is_in_step ≡ t
          → Narrows (recorded_on st kind bytes m) (module_after (part_in_call os false f m) f m)
      go true h = subst (λ (x : Module). Narrows x (module_after (part_in_call os false f m) f m)) (sym (recorded_in h))
          (subst (Narrows r) (sym (moved_in (part_in_call os false f m) f m h)) (in_step _ (b h)))
      go false h = subst (λ (x : Module). Narrows x (module_after (part_in_call os false f m) f m))
          (sym (recorded_still st kind bytes m h))
          (subst (Narrows m) (sym (moved_still (part_in_call os false f m) f m h)) as_it_is)

  -- ---------------------------------------------------------------- with a force's ops after them
  module _ (fs : List Op) (fails : Bool) (f : Fate)
      (same : (not fails && eqb (f.carried - length os) (length fs))
      ≡ (not fails && eqb f.carried (length (os ++ fs))))
      (b : Befalls (part_in_call (os ++ fs) fails f m) f m) where
    abbrev rest : Fate
    rest = rest_after (length os) f

    left_by : f.carried ≤ length (os ++ fs)
        → CrashImage (carry (take f.carried (os ++ fs)) d) n f.left
        → CrashImage (carry (take (f.carried - length os) fs) r.device) (length r.image) f.left
    unfolding carry
    left_by l c = go (dec_le f.carried (length os))
      where
        go : Dec (f.carried ≤ length os)
            → CrashImage (carry (take (f.carried - length os) fs) r.device) (length r.image) f.left
        go (yes a) = let z : f.carried - length os ≡ 0 = omega arith in
            rw (z, length_r) (crash_below (carry (take f.carried os) d) r.device (below_part f.carried)
            (rw (take-append-le f.carried os fs a) at c))
        go (no a) =
            let j = f.carried - length os in
            let e : length os + j ≡ f.carried = omega arith in
            crash_below (carry (take j fs) (carry os d)) (carry (take j fs) r.device)
            (below_all (take j fs) r.image (carry os d) r.device shows_os shows_r (rw length_r below_r))
            (rw (length_r, ← carry_append os (take j fs) d, ← take-append-add os fs j, e) c)

    pub force-befalls : Befalls (part_in_call fs fails rest (recorded_on st kind bytes m)) rest
        (recorded_on st kind bytes m)
    force-befalls = go m.is_in_step refl
      where
        go : (t : Bool) → m.is_in_step ≡ t
            → Befalls (part_in_call fs fails rest (recorded_on st kind bytes m)) rest
            (recorded_on st kind bytes m)
        go true h = subst (λ (x : Module). Befalls (part_in_call fs fails rest x) rest x)
            (sym (recorded_in h))
            (λ t. (omega (arith, (b h).0, length-append os fs), λ w. left_by (b h).0 ((b h).1 (sym same ∙ w))))
        go false h = λ t.
            absurd (false≢true (sym h ∙ sym (recorded_step st kind bytes m) ∙ t))

    below-all-ops : Below n (carry (os ++ fs) d) (carry fs r.device)
    below-all-ops = rw (carry_append os fs d) (rw length_r at
        (below_all fs r.image (carry os d) r.device shows_os shows_r (rw length_r below_r)))

    in_step : (w : Bool)
        → Narrows (cond w (carried_out fs r) (settled_on f.left))
        (cond w (carried_out (os ++ fs) m) (settled_on f.left))
    in_step true = subst (Narrows (carried_out fs r))
        (λ t. record { image = sym (apply_append os fs m.image) t; device = carry (os ++ fs) d; is_in_step = true })
        (less (carry (os ++ fs) d)
        (rw (← apply_append os fs m.image) (shows_all (os ++ fs) m.image d sh))
        (rw (length_apply fs r.image, length_r) below-all-ops) (λ q. absurd (true≢false q)))
    in_step false = less (power_up f.left) (shows_power_up f.left) (below_same _ (power_up f.left)) (λ q. refl)

    abbrev forced : Module → Module
    forced x = module_after (part_in_call fs fails rest x) rest x

    abbrev ends : Module
    ends = module_after (part_in_call (os ++ fs) fails f m) f m

    pub force-narrows : Narrows (forced (recorded_on st kind bytes m)) ends
    force-narrows = go m.is_in_step refl
      where
        go : (t : Bool) → m.is_in_step ≡ t → Narrows (forced (recorded_on st kind bytes m)) ends
        go true h = subst (λ (x : Module). Narrows (forced x) ends) (sym (recorded_in h))
            (subst (λ (x : Module). Narrows x ends) (sym (moved_in (part_in_call fs fails rest r) rest r refl))
            (subst (Narrows (cond (not fails && eqb (f.carried - length os) (length fs)) (carried_out fs r)
            (settled_on f.left)))
            (sym (moved_in (part_in_call (os ++ fs) fails f m) f m h))
            (rw same (in_step (not fails && eqb f.carried (length (os ++ fs)))))))
        go false h = subst (λ (x : Module). Narrows (forced x) ends) (sym (recorded_still st kind bytes m h))
            (subst (λ (x : Module). Narrows x ends) (sym (moved_still (part_in_call fs fails rest m) rest m h))
            (subst (Narrows m) (sym (moved_still (part_in_call (os ++ fs) fails f m) f m h)) as_it_is))
