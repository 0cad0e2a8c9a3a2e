-- How far an event moves the first LSN that is not committed: past those of the stretch of a granted force, and no
-- further. It is where the scan of the image ends.
use mathlib.Core.Path.{◌≡◌, refl, ap, ◌∙◌, sym, subst}
use mathlib.Core.Logic.{◌⊎◌, inl, inr}
use mathlib.Core.List.{List, [], ◌∷◌}
use mathlib.Core.Bool.{Bool, true, false, cond, true≢false}
use Prim.Native.Nat.{ℕ, suc, ◌-◌, ◌≤◌, ◌<◌}
use native.Mathlib.Omega.{arith}
use native.Mathlib.Decide.{dec_le}
use lib.ListN.{length}
use lib.Dec.{leb, eqb}
use Rattle.refusal.specs.Tests.{ok, Test, decide}
use Rattle.refusal.proofs.TestLaws.{Decided, passed, failed, decided}
use Rattle.device.specs.Crash.{Device, carry}
use Rattle.device.specs.Ops.{Op, apply}
use Rattle.device.proofs.CrashLaws.{Keeps, Obeys, Shows, shown_obeys, shows_all, shows_power_up, length_apply}
use Rattle.state.specs.declared.State.{State}
use Rattle.scan.specs.Scan.{Scan, scan}
use Rattle.journal.specs.AbstractLog.{AbstractLog}
use Rattle.journal.specs.Append.{reserve_tests, reserve_state, reserve_ops, reserve_effect, copy_tests, copy_ops, copy_effect, complete_tests, complete_state, complete_ops, complete_effect}
use Rattle.journal.specs.Calls.{Call, reserve, copy, complete, force, release, release_all, recover, effect_of}
use Rattle.journal.specs.CrashSafe.{System, Event, GoesOn, with_held, call, crash, left_by, effect_in, is_recover, after, Fits}
use Rattle.journal.specs.Effect.{done, reserved, durable, deferred, Effect, effect, refused_effect, no_state, log_tests, buffer_test}
use Rattle.journal.specs.Force.{force_ops, force_state, first_open, open_test, force_stretch, is_deferred, force_tests, force_effect}
use Rattle.journal.specs.Recover.{recover_tests, recover_ops, recover_state, recover_state_of, recover_effect}
use Rattle.journal.specs.Release.{new_head, head_at, head_ops, mark_released, release_tests, release_ops, release_state, release_effect, release_all_tests, release_all_effect}
use Rattle.journal.specs.RunLog.{RunLog}
use Rattle.journal.proofs.Calm.{calm, Quiet, settle}
use Rattle.journal.proofs.Invariant.{Agrees, Knows, lost, held, Inv, Carries, Owed}
use Rattle.journal.proofs.NextRecovery.{point_ok, the_scan, scan_all}
use Rattle.journal.proofs.Theorem.{owed}
use Rattle.journal.proofs.Zones.{Allowed}
use Rattle.replicas.proofs.EffectLaws.{none_refused, runs_on}
use Rattle.inspections.specs.OrphansBegun.{InStretch, in_stretch, Forces}

-- where the scan of the image of a quiet module ends
quiet_ends : {b : AbstractLog} {ran : RunLog} {n : ℕ} {d : Device} (img : List ℕ) (q : Quiet b ran n d)
    → length img ≡ n → Shows img d → (scan img).at.lsn ≡ q.frame.firm
quiet_ends {b} {d = d} img q e shows =
    let fr = q.frame in
    let hn = e ∙ q.size in
    let ob : Obeys (Allowed b (calm fr)) (length img) img =
    shown_obeys img refl shows (subst (λ (x : ℕ). Keeps (Allowed b (calm fr)) x d) (sym e) q.keeps) in
    let w = the_scan b img (calm fr) q.zoned hn ob in
    let p = point_ok b img (calm fr) q.zoned hn ob in
    let same : w.to ≡ fr.firm = omega (arith, w.upto, w.firm p.high) in
    ap (λ (x : Scan). x.at.lsn) (scan_all b img (calm fr) q.zoned hn ob) ∙ same

-- ---------------------------------------------------------------- the committed LSN of the state after a call
-- what is committed after a call was so before, or is of the stretch of a force
abbrev CommitsTo : State → Call → Effect → Type 0
CommitsTo st c o =
    (j : ℕ) → j ≤ o.state.committed_lsn → (j ≤ st.committed_lsn) ⊎ InStretch st j c o.reply

tested : (st : State) (c : Call) (ts : List Test) (good : Effect) → CommitsTo st c good
    → CommitsTo st c (decide ts (refused_effect st) good)
tested st c ts good h = go (decided ts (refused_effect st) good)
  where
    go : {o : Effect} → Decided ts (refused_effect st) good o → CommitsTo st c o
    go (passed p) = h
    go (failed w) = λ j l. inl l

either : (st : State) (c : Call) (t : Bool) (x y : Effect) → CommitsTo st c x → CommitsTo st c y
    → CommitsTo st c (cond t x y)
either st c true x y a b = a
either st c false x y a b = b

either_state : (st : State) (t : Bool) (x y : State) → x.committed_lsn ≡ st.committed_lsn
    → y.committed_lsn ≡ st.committed_lsn → (cond t x y).committed_lsn ≡ st.committed_lsn
either_state st true x y a b = a
either_state st false x y a b = b

stretch : (st : State) (k frequency : ℕ) (os : List Op)
    → CommitsTo st (force k frequency)
    (effect durable (force_state st (suc st.committed_lsn) (k - st.committed_lsn)) os)
unfolding force_state
stretch st k frequency os j l = go (dec_le j st.committed_lsn)
  where
    go : Dec (j ≤ st.committed_lsn)
        → (j ≤ st.committed_lsn) ⊎ InStretch st j (force k frequency) (ok durable)
    go (yes h) = inl h
    go (no h) = inr (in_stretch {k = k} (omega arith) (omega arith))

commits_to : (c : Call) → is_recover c ≡ false → (st : State) (img : List ℕ) (t : ℕ)
    → CommitsTo st c (effect_of c st img t)
unfolding effect_of reserve_effect reserve_state copy_effect complete_effect complete_state force_effect force_stretch
    release_effect release_state head_at mark_released release_all_effect
commits_to (reserve kind len) n st img t =
    tested st (reserve kind len) (reserve_tests st img t kind len)
    (effect (reserved st.next_lsn st.next_pos) (reserve_state st kind len) (reserve_ops st kind len))
    (λ j l. inl l)
commits_to (copy k offset bytes) n st img t =
    tested st (copy k offset bytes) (copy_tests st img t k offset bytes)
    (effect done st (copy_ops st img k offset bytes))
    (λ j l. inl l)
commits_to (complete k) n st img t =
    tested st (complete k) (complete_tests st img t k) (effect done (complete_state st k) (complete_ops st img k))
    (λ j l. inl l)
commits_to (force k frequency) n st img t =
    let m = st.committed_lsn in
    let c = force k frequency in
    tested st c (force_tests st img k frequency) (cond (leb k m) (effect durable st [])
    (cond (is_deferred m k frequency) (effect deferred st []) (force_stretch st t (suc m) (k - m))))
    (either st c (leb k m) (effect durable st [])
    (cond (is_deferred m k frequency) (effect deferred st []) (force_stretch st t (suc m) (k - m))) (λ j l. inl l)
    (either st c (is_deferred m k frequency) (effect deferred st []) (force_stretch st t (suc m) (k - m)) (λ j l. inl l)
    (tested st c (open_test (first_open st (suc m) (k - m)) ∷ buffer_test t (force_ops st (suc m) (k - m)) ∷ [])
    (effect durable (force_state st (suc m) (k - m)) (force_ops st (suc m) (k - m)))
    (stretch st k frequency (force_ops st (suc m) (k - m))))))
commits_to (release k) n st img t =
    tested st (release k) (release_tests st img t k) (effect done (release_state st k) (release_ops st k))
    (λ j l. inl (subst (λ (x : ℕ). j ≤ x) (either_state st (eqb k st.head_lsn)
    (head_at (mark_released st k) (new_head st)) (mark_released st k) refl refl) l))
commits_to release_all n st img t =
    tested st release_all (log_tests st img) (cond (eqb st.head_lsn st.next_lsn) (effect done st []) (decide
    (release_all_tests st t) (refused_effect st) (effect done (head_at st st.next_lsn) (head_ops st st.next_lsn))))
    (either st release_all (eqb st.head_lsn st.next_lsn) (effect done st []) (decide (release_all_tests st t)
    (refused_effect st) (effect done (head_at st st.next_lsn) (head_ops st st.next_lsn))) (λ j l. inl l)
    (tested st release_all (release_all_tests st t)
    (effect done (head_at st st.next_lsn) (head_ops st st.next_lsn)) (λ j l. inl l)))
commits_to recover n st img t = absurd (true≢false n)

-- ---------------------------------------------------------------- by what a call owes
module _ (s : System) {ran : RunLog} (i : Inv s ran) where
  -- a call with no ops leaves it
  no_ops : {c : Call} {o : Effect} (k : Carries s i c o) → o.ops ≡ [] → k.quiet.frame.firm ≡ i.quiet.frame.firm
  unfolding carry
  no_ops k none =
      sym (quiet_ends s.image k.quiet refl
      (subst (λ (os : List Op). Shows s.image (carry os s.device)) (sym none) i.shows))
      ∙ quiet_ends s.image i.quiet refl i.shows

  -- where a state is held it follows the committed LSN
  follows : {c : Call} {o : Effect} (k : Carries s i c o) → (o.state ≡ no_state → ⊥)
      → k.quiet.frame.firm ≡ suc o.state.committed_lsn
  follows {c} {o} k some-state = go k.knows
    where
      go : {b : AbstractLog} {img : List ℕ} → Knows b k.quiet.frame img o.state
          → k.quiet.frame.firm ≡ suc o.state.committed_lsn
      go (held a) = sym a.committed_lsn
      go (lost e) = absurd (some-state e)

  -- a recovery leaves it
  recovered : (g : GoesOn) (t : ℕ) (k : Carries s i recover (effect_in s g recover t))
      → k.quiet.frame.firm ≡ i.quiet.frame.firm
  unfolding effect_of recover_effect recover_state recover_state_of
  recovered g t k = go (decided (recover_tests s.image t) (refused_effect (left_by true g s.state))
      (effect done (recover_state s.image) (recover_ops s.image))) k
    where
      go : {o : Effect}
          → Decided (recover_tests s.image t) (refused_effect (left_by true g s.state))
          (effect done (recover_state s.image) (recover_ops s.image)) o
          → (k : Carries s i recover o) → k.quiet.frame.firm ≡ i.quiet.frame.firm
      go (passed p) k =
          let z = i.quiet.zoned in
          let e = quiet_ends s.image i.quiet refl i.shows in
          let f = follows k (λ q. let x = ap (λ (y : State). y.epoch) q in omega arith) in
          omega (arith, z.first, z.order)
      go (failed w) k = no_ops k refl

  -- any other call moves it to the end of a stretch
  plain : (c : Call) → is_recover c ≡ false → (t : ℕ) (k : Carries s i c (effect_of c s.state s.image t)) → (j : ℕ)
      → j < k.quiet.frame.firm
      → (j < i.quiet.frame.firm) ⊎ InStretch s.state j c (effect_of c s.state s.image t).reply
  plain c other t k j l = go i.knows
    where
      known : Agrees s.log i.quiet.frame s.image s.state
          → (j ≤ s.state.committed_lsn) ⊎ InStretch s.state j c (effect_of c s.state s.image t).reply
          → (j < i.quiet.frame.firm) ⊎ InStretch s.state j c (effect_of c s.state s.image t).reply
      known ag (inl h) = inl (omega (arith, ag.committed_lsn))
      known ag (inr h) = inr h

      go : Knows s.log i.quiet.frame s.image s.state
          → (j < i.quiet.frame.firm) ⊎ InStretch s.state j c (effect_of c s.state s.image t).reply
      go (held ag) =
          let on = runs_on c other s.state s.image t in
          let f = follows k (λ q. let x = ap (λ (y : State). y.area) q in
          omega (arith, on.area, ag.area, i.quiet.zoned.room)) in
          known ag (commits_to c other s.state s.image t j (omega arith))
      go (lost e) =
          let same = ap (λ (st : State). effect_of c st s.image t) e ∙ none_refused c other s.image t in
          inl (subst (λ (x : ℕ). j < x) (no_ops k (ap (λ (o : Effect). o.ops) same)) l)

  moved : (g : GoesOn) (c : Call) (t : ℕ) (k : Carries s i c (effect_in s g c t)) → (j : ℕ) → j < k.quiet.frame.firm
      → (j < i.quiet.frame.firm) ⊎ InStretch s.state j c (effect_in s g c t).reply
  moved g (reserve kind len) t k j l = plain (reserve kind len) refl t k j l
  moved g (copy lsn offset bytes) t k j l = plain (copy lsn offset bytes) refl t k j l
  moved g (complete lsn) t k j l = plain (complete lsn) refl t k j l
  moved g (force lsn frequency) t k j l = plain (force lsn frequency) refl t k j l
  moved g (release lsn) t k j l = plain (release lsn) refl t k j l
  moved g release_all t k j l = plain release_all refl t k j l
  moved g recover t k j l = inl (subst (λ (x : ℕ). j < x) (recovered g t k) l)

-- ---------------------------------------------------------------- after an event
pub firm_after : (e : Event) (s : System) {ran ran' : RunLog} (i : Inv s ran) → Fits e s → (i' : Inv (after e s) ran')
    → (j : ℕ) → j < i'.quiet.frame.firm → (j < i.quiet.frame.firm) ⊎ Forces e s j
unfolding after Owed
firm_after (call g c t) s {ran} i f i' j l =
    let k = owed s ran i g c f.0 t in
    let os = (effect_in s g c t).ops in
    let new = apply os s.image in
    let same : i'.quiet.frame.firm ≡ k.quiet.frame.firm = sym (quiet_ends new i'.quiet refl i'.shows)
    ∙ quiet_ends new k.quiet (length_apply os s.image) (shows_all os s.image s.device i.shows) in
    moved s i g c t k j (omega arith)
firm_after (crash c t n img) s {ran} i f i' j l =
    let k = owed s ran i with_held c f.0 t in
    let w = settle _ _ _ (length s.image) _ img (k.safe n f.2) f.3 in
    let same : i'.quiet.frame.firm ≡ w.quiet.frame.firm = sym (quiet_ends img i'.quiet refl i'.shows)
    ∙ quiet_ends img w.quiet f.3.size (shows_power_up img) in
    let upto : w.quiet.frame.firm ≤ k.quiet.frame.firm = w.upto in
    moved s i with_held c t k j (omega arith)
