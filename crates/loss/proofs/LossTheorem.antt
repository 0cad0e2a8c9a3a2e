-- Slip 10, the theorem: at most F of the records completed since the last recovery are missing, the newest ones.
-- Cites specs/LossBound.antt, CallSteps.antt, MissingLaws.antt; crates/journal/proofs/Theorem.antt.
use mathlib.Core.Path.{◌≡◌, refl, subst}
use mathlib.Core.List.{List, [], ◌∷◌}
use mathlib.Core.Bool.{Bool, true, false, cond, true≢false}
use Prim.Native.Nat.{ℕ, suc, ◌+◌, ◌-◌, ◌≤◌, ◌<◌}
use native.Mathlib.Omega.{arith}
use lib.Dec.{eqb, leb}
use borrow.Author.Tests.{eqb-true, eqb-false, leb-true, leb-false, ltb-false, not-false}
use Rattle.device.specs.Ops.{Op}
use Rattle.refusal.specs.Tests.{Reply, ok, refused, Test, decide}
use Rattle.refusal.specs.declared.Why.{Why}
use Rattle.refusal.proofs.TestLaws.{AllPass, and, Decided, passed, failed, decided}
use Rattle.layout.specs.Ring.{area_of}
use Rattle.state.specs.declared.State.{State}
use Rattle.state.specs.Table.{table_size}
use Rattle.journal.specs.Append.{reserve_ops, reserve_state, reserve_tests, reserve_effect, copy_ops, copy_tests, copy_effect, complete_ops, complete_state, complete_tests, complete_effect}
use Rattle.journal.specs.Calls.{Call, reserve, copy, complete, force, release, release_all, recover, effect_of}
use Rattle.journal.specs.CrashSafe.{System, Event, GoesOn, with_held, with_returned, call, crash, effect_in, after, Fits, after_all, AllFit, formatted}
use Rattle.journal.specs.Effect.{Granted, done, reserved, durable, deferred, Effect, effect, refused_effect, no_state, log_tests, buffer_test}
use Rattle.journal.specs.Force.{force_ops, force_state, first_open, open_test, force_stretch, is_deferred, force_tests, force_effect}
use Rattle.journal.specs.Recover.{format_effect, format_tests, format_ops, fresh_state, recover_state_of, recover_state, recover_ops, recover_tests, recover_effect}
use Rattle.journal.specs.Release.{head_at, head_ops, release_ops, release_state, release_tests, release_effect, release_all_tests, release_all_effect}
use Rattle.journal.specs.AbstractLog.{empty_log, feed_granted, feed}
use Rattle.journal.specs.RunLog.{RunLog, first_run, ran_after, ran_all}
use Rattle.journal.proofs.CallRows.{live_ok}
use Rattle.journal.proofs.CrashFormat.{inv_formatted}
use Rattle.journal.proofs.AgreedLaws.{holds}
use Rattle.journal.proofs.DeferLaws.{deferred_near}
use Rattle.journal.proofs.Invariant.{Agrees, Inv, inv_after, inv_after_all}
use Rattle.journal.proofs.Theorem.{owed}
use Rattle.loss.specs.LossBound.{since_after, since, Turn, free, opened, completed, turn_after, InTurn, EventInTurn, DisciplinedFrom, LosesAtMost, LossBound, LossBoundSince, turn_after_all, is_complete, since_reply, LossBoundForced, ForceBound}
use Rattle.loss.proofs.MissingLaws.{falls_up, LogOk, log-loses}
use Rattle.loss.proofs.CallSteps.{LossOf, Steps, idle, refusing, started, steps-reserve, steps-copy, steps-complete, steps-release, steps-release-all, steps-durable, steps-deferred, steps-forced}

abbrev reserve_good : State → ℕ → ℕ → Effect
reserve_good s kind len =
    effect (reserved s.next_lsn s.next_pos) (reserve_state s kind len) (reserve_ops s kind len)

-- the stretch of a force
module _ (s : State) (words k : ℕ) where
  abbrev stretch_ops : List Op
  stretch_ops = force_ops s (suc s.committed_lsn) (k - s.committed_lsn)

  abbrev stretch_tests : List Test
  stretch_tests =
      open_test (first_open s (suc s.committed_lsn) (k - s.committed_lsn)) ∷ buffer_test words stretch_ops ∷ []

  abbrev stretch_good : Effect
  stretch_good = effect durable (force_state s (suc s.committed_lsn) (k - s.committed_lsn)) stretch_ops

  abbrev stretch_to : Effect
  stretch_to = decide stretch_tests (refused_effect s) stretch_good

-- what a force answers where its tests pass
abbrev answered : State → ℕ → ℕ → ℕ → Effect
answered s words k F =
    cond (leb k s.committed_lsn) (effect durable s [])
    (cond (is_deferred s.committed_lsn k F) (effect deferred s []) (stretch_to s words k))

refused_ok : {w : Why} {a : Granted} → refused w ≡ ok a → ⊥
refused_ok h = let z : ◌≡◌ {A = ℕ} 0 1 = cc in omega arith

module _ (F : ℕ) (some-F : 1 ≤ F) (s : System) {ran : RunLog} (i : Inv s ran) (ks : List ℕ) where
  roomy : Agrees s.log i.quiet.frame s.image s.state → 0 < s.state.area
  roomy ag = let r = i.quiet.zoned.room in omega (arith, ag.area)

  abbrev Loss : Turn → Type 0
  Loss t = LossOf F s.log s.state ks t

  abbrev Step : ℕ → Turn → Call → Effect → Type 0
  Step c t x o = Steps F c s.log ks t x o

  step_reserve : (t : Turn) (l : Loss t) (kind len words : ℕ)
      → InTurn (reserve kind len) (reserve_effect s.state s.image words kind len).reply t
      → Step l.c t (reserve kind len) (reserve_effect s.state s.image words kind len)
  unfolding reserve_effect
  step_reserve t l kind len words =
      go (decided (reserve_tests s.state s.image words kind len) (refused_effect s.state) _)
    where
      granted : (t : Turn) (l : Loss t) → AllPass (reserve_tests s.state s.image words kind len) → t ≡ free
          → Step l.c t (reserve kind len) (reserve_good s.state kind len)
      granted free l (and h1 (and h2 (and h3 (and h4 (and h5 r))))) e =
          let ag = holds s i h1 in
          steps-reserve F some-F s i ag ks kind len l.c l.known (l.held (roomy ag))
          (omega (arith, leb-false table_size (s.state.next_lsn - s.state.head_lsn) h5)) s.state.next_pos
      granted (opened k) l p e = absurd (let z : ◌≡◌ {A = ℕ} 0 1 = cc in omega arith)
      granted (completed k) l p e = absurd (let z : ◌≡◌ {A = ℕ} 0 1 = cc in omega arith)

      go : {o : Effect}
          → Decided (reserve_tests s.state s.image words kind len) (refused_effect s.state)
          (reserve_good s.state kind len) o → InTurn (reserve kind len) o.reply t
          → Step l.c t (reserve kind len) o
      go (passed p) e = granted t l p e
      go (failed w) e = idle (reserve kind len) w l

  module _ (t : Turn) (l : LossOf F s.log s.state ks t) where
    step-copy : (k offset : ℕ) (bytes : List ℕ) (words : ℕ)
        → Step l.c t (copy k offset bytes) (copy_effect s.state s.image words k offset bytes)
    unfolding copy_effect
    step-copy k offset bytes words =
        refusing (copy k offset bytes) (copy_tests s.state s.image words k offset bytes) _ l go
      where
        go : AllPass (copy_tests s.state s.image words k offset bytes)
            → Step l.c t (copy k offset bytes)
            (effect done s.state (copy_ops s.state s.image k offset bytes))
        go (and h1 r) =
            let ag = holds s i h1 in
            steps-copy F some-F s i ag ks t l.c l.known (l.held (roomy ag)) k offset bytes _

    step-complete : (k words : ℕ) → Step l.c t (complete k) (complete_effect s.state s.image words k)
    unfolding complete_effect
    step-complete k words = refusing (complete k) (complete_tests s.state s.image words k) _ l go
      where
        go : AllPass (complete_tests s.state s.image words k)
            → Step l.c t (complete k)
            (effect done (complete_state s.state k) (complete_ops s.state s.image k))
        go (and h1 (and h2 (and h3 (and h4 r)))) = let ag = holds s i h1 in let lv = live_ok s.state k h3 in
            steps-complete F some-F s i ag ks t l.c l.known (l.held (roomy ag)) k lv.0 lv.1
            (not-false _ h4) _

    step-release : (k words : ℕ) → Step l.c t (release k) (release_effect s.state s.image words k)
    unfolding release_effect
    step-release k words = refusing (release k) (release_tests s.state s.image words k) _ l go
      where
        go : AllPass (release_tests s.state s.image words k)
            → Step l.c t (release k) (effect done (release_state s.state k) (release_ops s.state k))
        go (and h1 (and h2 (and h3 (and h4 r)))) = let ag = holds s i h1 in let lv = live_ok s.state k h3 in
            steps-release F some-F s i ag ks t l.c l.known (l.held (roomy ag)) k lv.0 lv.1 (not-false _ h4)
            _

    step-release-all : (words : ℕ) → Step l.c t release_all (release_all_effect s.state s.image words)
    unfolding release_all_effect head_at
    step-release-all words = refusing release_all (log_tests s.state s.image) _ l go
      where
        some-live : (ag : Agrees s.log i.quiet.frame s.image s.state)
            → AllPass (release_all_tests s.state words)
            → Step l.c t release_all
            (effect done (head_at s.state s.state.next_lsn) (head_ops s.state s.state.next_lsn))
        some-live ag (and h1 r) = steps-release-all F some-F s i ag ks t l.c l.known (l.held (roomy ag))
            (ltb-false (suc s.state.committed_lsn) s.state.next_lsn h1) _ refl refl _

        split : Agrees s.log i.quiet.frame s.image s.state → (x : Bool)
            → eqb s.state.head_lsn s.state.next_lsn ≡ x
            → Step l.c t release_all
            (cond x (effect done s.state []) (decide (release_all_tests s.state words) (refused_effect s.state)
            (effect done (head_at s.state s.state.next_lsn) (head_ops s.state s.state.next_lsn))))
        split ag true e = steps-release-all F some-F s i ag ks t l.c l.known (l.held (roomy ag))
            (let z = eqb-true s.state.head_lsn s.state.next_lsn e in let o = i.quiet.zoned.order in
            omega (arith, ag.head_lsn, ag.committed_lsn)) s.state refl refl []
        split ag false e = refusing release_all (release_all_tests s.state words) _ l (some-live ag)

        go : AllPass (log_tests s.state s.image)
            → Step l.c t release_all (cond (eqb s.state.head_lsn s.state.next_lsn)
            (effect done s.state []) (decide (release_all_tests s.state words) (refused_effect s.state)
            (effect done (head_at s.state s.state.next_lsn) (head_ops s.state s.state.next_lsn))))
        go (and h1 r) = split (holds s i h1) (eqb s.state.head_lsn s.state.next_lsn) refl

    step-force : (k frequency words : ℕ)
        → Step l.c t (force k frequency) (force_effect s.state s.image words k frequency)
    unfolding force_effect force_stretch
    step-force k frequency words = refusing (force k frequency) (force_tests s.state s.image k frequency) _ l go
      where
        due : Agrees s.log i.quiet.frame s.image s.state → k < s.state.next_lsn
            → s.state.committed_lsn < k → (y : Bool) → is_deferred s.state.committed_lsn k frequency ≡ y
            → Step l.c t (force k frequency) (cond y (effect deferred s.state []) (stretch_to s.state words k))
        due ag high n true e =
            steps-deferred F some-F s i ag ks t l.c l.known (l.held (roomy ag)) k frequency n e
        due ag high n false e = refusing (force k frequency) (stretch_tests s.state words k)
            (stretch_good s.state words k) l (λ p. steps-forced F some-F s i ag ks t l.c l.known
            (l.held (roomy ag)) k frequency n high (stretch_ops s.state words k))

        split : Agrees s.log i.quiet.frame s.image s.state → k < s.state.next_lsn → (x : Bool)
            → leb k s.state.committed_lsn ≡ x
            → Step l.c t (force k frequency)
            (cond x (effect durable s.state []) (cond (is_deferred s.state.committed_lsn k frequency)
            (effect deferred s.state []) (stretch_to s.state words k)))
        split ag high true e = steps-durable F some-F s i ag ks t l.c l.known (l.held (roomy ag)) k frequency
            (leb-true k s.state.committed_lsn e)
        split ag high false e = due ag high (leb-false k s.state.committed_lsn e)
            (is_deferred s.state.committed_lsn k frequency) refl

        go : AllPass (force_tests s.state s.image k frequency)
            → Step l.c t (force k frequency) (answered s.state words k frequency)
        go (and h1 (and h2 (and h3 (and h4 r)))) =
            split (holds s i h1) (live_ok s.state k h4).1 (leb k s.state.committed_lsn) refl

    step-recover : (st : State) (l' : LossOf F s.log st ks t) (words : ℕ)
        → Step l'.c t recover (recover_effect st s.image words)
    unfolding recover_effect feed feed_granted recover_state recover_state_of
    step-recover st l' words = refusing recover (recover_tests s.image words) _ l' (λ p. granted)
      where
        granted : Step l'.c t recover (effect done (recover_state s.image) (recover_ops s.image))
        granted = record { whole = started F some-F s.log (recover_state s.image) refl; crashed = λ n. l'.known }

    -- no state is held
    abbrev lost-loss : LossOf F s.log no_state ks t
    lost-loss = record { c = l.c; known = l.known; held = λ a. absurd (omega arith) }

    stepped : (g : GoesOn) (x : Call) (words : ℕ) → InTurn x (effect_in s g x words).reply t
        → Step l.c t x (effect_in s g x words)
    unfolding effect_of
    stepped g (reserve kind len) words e = step_reserve t l kind len words e
    stepped g (copy k offset bytes) words e = step-copy k offset bytes words
    stepped g (complete k) words e = step-complete k words
    stepped g (force k frequency) words e = step-force k frequency words
    stepped g (release k) words e = step-release k words
    stepped g release_all words e = step-release-all words
    stepped with_held recover words e = step-recover s.state l words
    stepped with_returned recover words e = step-recover no_state lost-loss words

-- ---------------------------------------------------------------- events
loss_after : (F : ℕ) → 1 ≤ F → (e : Event) (s : System) {ran : RunLog} → Inv s ran → (ks : List ℕ) (t : Turn)
    → LossOf F s.log s.state ks t → EventInTurn e s t
    → LossOf F (after e s).log (after e s).state (since_after e s ks) (turn_after F e s t)
unfolding after since_after turn_after
loss_after F some-F (call g x words) s i ks t l d = (stepped F some-F s i ks t l g x words d).whole
loss_after F some-F (crash x words carried image) s i ks t l d =
    record {
      c = l.c;
      known = (stepped F some-F s i ks t l with_held x words d).crashed carried;
      held = λ a. absurd (omega arith);
    }

loss_all : (F : ℕ) → 1 ≤ F → (es : List Event) (s : System) (ran : RunLog) → Inv s ran → (ks : List ℕ) (t : Turn)
    → LossOf F s.log s.state ks t → AllFit es s → DisciplinedFrom F es s t
    → LossOf F (after_all es s).log (after_all es s).state (since es s ks) (turn_after_all F es s t)
unfolding after_all AllFit DisciplinedFrom since turn_after_all
loss_all F some-F [] s ran i ks t l f d = l
loss_all F some-F (e ∷ es) s ran i ks t l f d =
    loss_all F some-F es (after e s) (ran_after e s ran) (inv_after owed e s ran i f.0) (since_after e s ks)
    (turn_after F e s t) (loss_after F some-F e s i ks t l d.0) f.1 d.1

losses : (F : ℕ) → 1 ≤ F → (es : List Event) (s : System) (ran : RunLog) → Inv s ran → (ks : List ℕ) (t : Turn)
    → LossOf F s.log s.state ks t → AllFit es s → DisciplinedFrom F es s t
    → LosesAtMost F (after_all es s) (since es s ks)
losses F some-F es s ran i ks t l f d =
    let n = loss_all F some-F es s ran i ks t l f d in
    log-loses (after_all es s) (inv_after_all owed es s ran i f) F n.c (since es s ks) n.known

-- a log freshly formatted
fresh_next : (old : List ℕ) (words : ℕ)
    → (format_effect no_state old words).state.committed_lsn ≡ (format_effect no_state old words).state.next_lsn - 1
unfolding format_effect fresh_state
fresh_next old words = go (decided (format_tests old words) (refused_effect no_state) _)
  where
    go : {o : Effect}
        → Decided (format_tests old words) (refused_effect no_state)
        (effect done (fresh_state (area_of old)) (format_ops old)) o → o.state.committed_lsn ≡ o.state.next_lsn - 1
    go (passed p) = refl
    go (failed w) = refl

pub loss_bound : LossBound
unfolding LossBound
loss_bound old words granted F some-F es f d =
    losses F some-F es (formatted old words) first_run (inv_formatted old words granted) [] free
    (unfold formatted in started F some-F empty_log _ (fresh_next old words)) f d

-- ---------------------------------------------------------------- since a recovery
recovered_next : (st : State) (image : List ℕ) (words : ℕ) → (recover_effect st image words).reply ≡ ok done
    → (recover_effect st image words).state.committed_lsn ≡ (recover_effect st image words).state.next_lsn - 1
unfolding recover_effect recover_state recover_state_of
recovered_next st image words h =
    go (decided (recover_tests image words) (refused_effect st) (effect done (recover_state image) (recover_ops image)))
    h
  where
    go : {o : Effect}
        → Decided (recover_tests image words) (refused_effect st)
        (effect done (recover_state image) (recover_ops image)) o
        → o.reply ≡ ok done → o.state.committed_lsn ≡ o.state.next_lsn - 1
    go (passed p) e = refl
    go (failed w) e = absurd (refused_ok e)

pub loss_bound_since : LossBoundSince
unfolding LossBoundSince
loss_bound_since old words granted es f s is g buffer h F some-F later fits d =
    let i : Inv s (ran_all es (formatted old words) first_run) =
    rw is (inv_after_all owed es (formatted old words) first_run (inv_formatted old words granted) f) in
    losses F some-F later (after (call g recover buffer) s) _
    (inv_after owed (call g recover buffer) s _ i (tt, λ x. refl)) [] free
    (unfold after effect_of in started F some-F _ _ (recovered_next _ s.image buffer (unfold effect_of in h))) fits d

-- ---------------------------------------------------------------- where every force is over
pub in_turn : (x : Call) (r : Reply Granted) → InTurn x r free
in_turn (reserve kind len) (ok a) = refl
in_turn (reserve kind len) (refused w) = tt
in_turn (copy k offset bytes) r = tt
in_turn (complete k) r = tt
in_turn (force k frequency) r = tt
in_turn (release k) r = tt
in_turn release_all r = tt
in_turn recover r = tt

same_since : (x : Call) (r : Reply Granted) (ks : List ℕ) → is_complete x ≡ false → since_reply false x r ks ≡ ks
same_since x (refused w) ks h = refl
same_since (reserve kind len) (ok a) ks h = refl
same_since (copy k offset bytes) (ok a) ks h = refl
same_since (complete k) (ok a) ks h = absurd (true≢false h)
same_since (force k frequency) (ok a) ks h = refl
same_since (release k) (ok a) ks h = refl
same_since release_all (ok a) ks h = refl
same_since recover (ok a) ks h = refl

forced_loses : (F : ℕ) → 1 ≤ F → (s : System) {ran : RunLog} → Inv s ran → (ks : List ℕ)
    → LossOf F s.log s.state ks free → 0 < s.state.area
    → (x : Call) (words carried : ℕ) (image : List ℕ) → Fits (crash x words carried image) s → is_complete x ≡ false
    → LosesAtMost (F - 1) (after (crash x words carried image) s) ks
unfolding after
forced_loses F some-F s {ran} i ks l area x words carried image f other =
    let h = l.held area in
    let b : LogOk F l.c (after (crash x words carried image) s).log ks =
    rw (same_since x (effect_in s with_held x words).reply ks other)
    at ((stepped F some-F s i ks free l with_held x words (in_turn x (effect_in s with_held x words).reply)).crashed
    carried) in
    log-loses (after (crash x words carried image) s) (inv_after owed (crash x words carried image) s ran i f) (F - 1)
    l.c ks
    (record {
      falls = falls_up s.state.next_lsn (suc (l.c + (F - 1))) ks (let n = h.near in omega arith) h.falls;
      low = b.low;
      high = b.high;
    })

pub loss_bound_forced : LossBoundForced
unfolding LossBoundForced
loss_bound_forced old words granted es f F some-F d over area x buffer carried image fits other =
    let s = formatted old words in
    let l = loss_all F some-F es s first_run (inv_formatted old words granted) [] free
    (unfold formatted in started F some-F empty_log _ (fresh_next old words)) f d in
    forced_loses F some-F (after_all es s) (inv_after_all owed es s first_run (inv_formatted old words granted) f)
    (since es s [])
    (subst (λ (t : Turn). LossOf F (after_all es s).log (after_all es s).state (since es s []) t) over l) area x
    buffer carried image fits other

-- ---------------------------------------------------------------- a single force
pub force_bound : ForceBound
unfolding ForceBound force_effect force_stretch force_state
force_bound s image words k F a = go (decided (force_tests s image k F) (refused_effect s) (answered s words k F))
  where
    stretch : {o : Effect} → Decided (stretch_tests s words k) (refused_effect s) (stretch_good s words k) o
        → o.reply ≡ ok a → 1 ≤ F → k < o.state.committed_lsn + F
    stretch (passed p) e f = omega arith
    stretch (failed w) e f = absurd (refused_ok e)

    split : 1 ≤ F → (x y : Bool) → leb k s.committed_lsn ≡ x → is_deferred s.committed_lsn k F ≡ y
        → (cond x (effect durable s []) (cond y (effect deferred s []) (stretch_to s words k))).reply ≡ ok a
        → k
        < (cond x (effect durable s []) (cond y (effect deferred s []) (stretch_to s words k))).state.committed_lsn
        + F
    split f true y low late e = let l = leb-true k s.committed_lsn low in omega arith
    split f false true low late e = deferred_near F f s.committed_lsn k late
    split f false false low late e =
        stretch (decided (stretch_tests s words k) (refused_effect s) (stretch_good s words k)) e f

    go : {o : Effect} → Decided (force_tests s image k F) (refused_effect s) (answered s words k F) o
        → o.reply ≡ ok a → k < o.state.committed_lsn + F
    go (passed (and h1 (and h2 (and h3 r)))) e =
        split (let z = eqb-false F 0 h3 in omega arith) (leb k s.committed_lsn)
        (is_deferred s.committed_lsn k F) refl refl e
    go (failed w) e = absurd (refused_ok e)
