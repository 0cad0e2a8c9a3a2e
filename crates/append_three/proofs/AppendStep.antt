-- Append on three modules keeps the invariant: reserve, copy and complete are carried out whole, then the force with
-- what is left of each module's ops; and its modules show less.
-- Cites specs/AppendThree.antt; OneModule.antt; FourCalls.antt and FourTheorem.antt of append; CallStep.antt and
-- RecoveryStep.antt of replicas.
use mathlib.Core.Path.{◌≡◌, refl, ◌∙◌, ap, sym, subst}
use mathlib.Core.Logic.{◌⊎◌, inl, inr}
use mathlib.Core.List.{List, [], ◌++◌, append-nil}
use mathlib.Core.Bool.{Bool, true, false, cond, not, ◌&&◌, true≢false}
use Prim.Native.Nat.{ℕ, suc, ◌+◌, ◌-◌, ◌*◌, ◌<◌}
use native.Mathlib.Omega.{arith}
use native.Mathlib.Nat.{le_refl}
use lib.ListN.{length, length-append}
use lib.Dec.{leb, eqb}
use borrow.Author.Tests.{eq-eqb, ne_eqb, eqb-true, eqb-false}
use Rattle.crc_spec.specs.Bytes.{AllBytes}
use Rattle.device.specs.Ops.{Op, apply}
use Rattle.device.proofs.CrashLaws.{apply_append}
use Rattle.refusal.specs.Tests.{ok}
use Rattle.refusal.proofs.TestLaws.{AllPass, first_passes, rest_pass}
use Rattle.layout.specs.Record.{size_of}
use Rattle.state.specs.declared.State.{State}
use Rattle.state.specs.Table.{table_size}
use Rattle.journal.specs.AbstractLog.{AbstractLog, feed_force, feed_granted, feed}
use Rattle.journal.specs.Append.{reserve_ops, reserve_state}
use Rattle.journal.specs.Calls.{reserve, copy, complete, force, effect_of}
use Rattle.journal.specs.Effect.{Effect, effect, done, reserved, durable, deferred, no_state, image_test}
use Rattle.journal.specs.Force.{force_ops, force_state, first_open, open_test, is_deferred}
use Rattle.append.specs.AppendCall.{appended, record_ops, recorded_state, append_tests}
use Rattle.append.specs.AppendSafe.{feed_recorded}
use Rattle.append.proofs.AppendSteps.{force_some}
use Rattle.append.proofs.FourCalls.{payload_stores, check_stores, Three, three_calls}
use Rattle.append.proofs.FourTheorem.{force_deferred, force_is_due, Came, refused-for, late, due, came}
use Rattle.replicas.specs.RecoverThree.{Slot, how_many, reads_to_end}
use Rattle.replicas.specs.ThreeSafe.{Module, Drive, Fate, module_after, Befalls, part_in_call, whole_in, feed_three, call_in, state_left}
use Rattle.replicas.proofs.CallStep.{or_up, left_none}
use Rattle.replicas.proofs.EffectLaws.{none_ok}
use Rattle.replicas.proofs.RecoveryStep.{refused_stands, any_of_slot, idle_reads}
use Rattle.replicas.proofs.Standing.{Standing, with_state, Stood}
use Rattle.append_three.specs.AppendThree.{drive_append, feed_appended_three, feed_append_three, append_drive_after, AppendDriveFits}
use Rattle.append_three.proofs.NarrowLaws.{with_modules}
use Rattle.append_three.proofs.KnownCalls.{Kept, kept_on, kept_is, kept_narrow, after_as, after_whole, kept_call, kept_whole}
use Rattle.append_three.proofs.OneModule.{recorded_on, recorded_step, rest_after, record_narrows, force-befalls, force-narrows}

-- the drive after append with this effect
abbrev pub appended_as : ℕ → List ℕ → ℕ → Effect → (Slot → Fate) → Bool → Drive → Drive
appended_as kind bytes frequency o f fails s = record {
  image = apply o.ops s.image;
  state = state_left fails o.state;
  log = feed_append_three kind bytes frequency o.reply o.ops f s.modules s.log;
  down = fails;
  lone = s.lone;
  modules = λ i. module_after (part_in_call o.ops fails (f i) (s.modules i)) (f i) (s.modules i);
}

-- ---------------------------------------------------------------- the force in the abstract log
-- deferred it changes nothing
deferred_log : (k frequency : ℕ) (os : List Op) (f : Slot → Fate) (ms : Slot → Module) (log : AbstractLog)
    → feed_three (force k frequency) (ok deferred) os f ms log ≡ log
unfolding feed_three feed feed_granted
deferred_log k frequency os f ms log = go (leb 2 (how_many (whole_in os f ms)))
  where
    go : (t : Bool) → cond t log log ≡ log
    go true = refl
    go false = refl

-- ops that are not none, after a others: all of them are carried out where a + n are
eqb_rest : (k a n : ℕ) → 0 < n → eqb (k - a) n ≡ eqb k (a + n)
eqb_rest k a n h = go (eqb (k - a) n) refl
  where
    go : (t : Bool) → eqb (k - a) n ≡ t → t ≡ eqb k (a + n)
    go true e = let q = eqb-true (k - a) n e in sym (eq-eqb k (a + n) (omega arith))
    go false e = sym (ne_eqb k (a + n) (λ q. eqb-false (k - a) n e (omega arith)))

-- it counts where as many modules have carried out all
same_feed : (k frequency : ℕ) (os fs : List Op) (f g : Slot → Fate) (ms ns : Slot → Module) (log : AbstractLog)
    → ((i : Slot) → whole_in fs g ns i ≡ whole_in os f ms i)
    → feed_three (force k frequency) (ok durable) fs g ns log ≡ feed_three (force k frequency) (ok durable) os f ms log
unfolding feed_three feed feed_granted
same_feed k frequency os fs f g ms ns log h =
    rw (eq-eqb (length fs) (length fs) refl, eq-eqb (length os) (length os) refl)
    (λ t. cond (leb 2 (how_many (λ i. h i t))) (feed_force durable k true log) log)

-- ---------------------------------------------------------------- granted
module _ (s : Drive) (st : Standing s) (up : s.down ≡ false) (kind : ℕ) (bytes : List ℕ) (ty : AllBytes bytes)
    (frequency : ℕ) (ps : AllPass (append_tests s.state s.image kind (length bytes) frequency)) where
  abbrev q : ℕ
  q = s.state.next_lsn

  abbrev m : ℕ
  m = s.state.committed_lsn

  abbrev words : ℕ
  words = 3 * (size_of (length bytes) + 1)

  full : length s.state.table ≡ table_size
  full = (st.working up).agrees.table

  abbrev os : List Op
  os = record_ops s.state kind bytes

  -- the three calls, for the working image and for that of a module
  three_of : (image : List ℕ) → length image ≡ length s.image → Three s.state image kind bytes words
  three_of image e = three_calls s.state full image kind bytes ty frequency (rw e ps) words (le_refl _)

  th : Three s.state s.image kind bytes words
  th = three_of s.image refl

  abbrev s1 : State
  s1 = reserve_state s.state kind (length bytes)

  abbrev between : State
  between = recorded_state s.state kind (length bytes)

  abbrev o1 : Effect
  o1 = effect (reserved s.state.next_lsn s.state.next_pos) s1 (reserve_ops s.state kind (length bytes))

  abbrev o2 : Effect
  o2 = effect done s1 (payload_stores s.state bytes)

  abbrev o3 : Effect
  o3 = effect done between (check_stores s.state kind bytes)

  abbrev t1 : Drive
  t1 = after_whole (reserve kind (length bytes)) o1 s

  abbrev t2 : Drive
  t2 = after_whole (copy q 0 bytes) o2 t1

  abbrev t3 : Drive
  t3 = after_whole (complete q) o3 t2

  kept1 : Kept s t1
  unfolding effect_of
  kept1 = kept_whole s st up (reserve kind (length bytes)) tt refl words o1 th.reserve

  kept2 : Kept t1 t2
  unfolding effect_of
  kept2 = kept_whole t1 kept1.stands refl (copy q 0 bytes) ty refl words o2 th.copy

  kept3 : Kept t2 t3
  unfolding effect_of
  kept3 = kept_whole t2 kept2.stands refl (complete q) tt refl words o3 th.complete

  -- the drive after them, with the image that append's stores leave
  abbrev r : Drive
  r = record {
    image = apply os s.image;
    state = between;
    log = feed_recorded kind bytes q s.log;
    down = false;
    lone = s.lone;
    modules = λ i. recorded_on s.state kind bytes (s.modules i);
  }

  kept_r : Kept s r
  unfolding feed_three feed feed_granted feed_recorded
  kept_r = kept_is (kept_on kept1 (kept_on kept2 kept3)) (λ t. record {
    image = sym th.same_image t;
    state = between;
    log = feed_recorded kind bytes q s.log;
    down = false;
    lone = s.lone;
    modules = λ i. recorded_on s.state kind bytes (s.modules i);
  })

  three_at : (i : Slot) → Three s.state (s.modules i).image kind bytes words
  three_at i = three_of (s.modules i).image ((st.plain i).size ∙ sym (st.working up).size)

  module _ (f : Slot → Fate) (fails : Bool) where
    abbrev rests : Slot → Fate
    rests i = rest_after (length os) (f i)

    abbrev ends : List Op → Slot → Module
    ends xs i = module_after (part_in_call xs fails (f i) (s.modules i)) (f i) (s.modules i)

    -- a force that is granted, with what is left of each module's ops
    kept-force : (w : ℕ) (o : Effect) → call_in r (force q frequency) w ≡ o
        → ((i : Slot) → (not fails && eqb ((f i).carried - length os) (length o.ops))
        ≡ (not fails && eqb (f i).carried (length (os ++ o.ops))))
        → ((i : Slot) → Befalls (part_in_call (os ++ o.ops) fails (f i) (s.modules i)) (f i) (s.modules i))
        → Kept s (with_modules (ends (os ++ o.ops)) (after_as (force q frequency) o rests fails r))
    kept-force w o e same fits =
        kept_on kept_r (kept_on forced (kept_narrow (after_as (force q frequency) o rests fails r) forced.stands
        (ends (os ++ o.ops)) (λ i. force-narrows s.state kind bytes (s.modules i) words (three_at i)
        (st.plain i).shows (st.plain i).settled o.ops fails (f i) (same i) (fits i))))
      where
        forced : Kept r (after_as (force q frequency) o rests fails r)
        forced = kept_call r kept_r.stands refl (force q frequency) tt refl w o e rests fails
            (λ i. force-befalls s.state kind bytes (s.modules i) words (three_at i)
            (st.plain i).shows (st.plain i).settled o.ops fails (f i) (same i) (fits i))

  frequency_ok : eqb frequency 0 ≡ false
  frequency_ok = first_passes (rest_pass (rest_pass (rest_pass ps)))

  -- ---------------------------------------------------------------- deferred
  abbrev late_effect : Effect
  late_effect = effect (appended q 0) between os

  kept_late : is_deferred m q frequency ≡ true → (f : Slot → Fate) (fails : Bool)
      → ((i : Slot) → Befalls (part_in_call os fails (f i) (s.modules i)) (f i) (s.modules i))
      → Kept s (appended_as kind bytes frequency late_effect f fails s)
  unfolding feed_append_three feed_appended_three effect_of apply
  kept_late d f false fits = kept_is (kept_on kept_r (kept_narrow r kept_r.stands (ends f false os)
      (λ i. record_narrows s.state kind bytes (s.modules i) words (three_at i) (st.plain i).shows
      (st.plain i).settled (f i) (fits i))))
      (λ t. record {
        image = apply os s.image;
        state = between;
        log = sym (deferred_log q frequency os f s.modules (feed_recorded kind bytes q s.log)) t;
        down = false;
        lone = s.lone;
        modules = ends f false os;
      })
  kept_late d f true fits = kept_is
      (kept-force f true words (effect deferred between [])
      (force_deferred s.state s.image kind bytes words th frequency frequency_ok words d) (λ i. refl)
      (λ i. rw (append-nil os) (fits i)))
      (λ t. record {
        image = apply os s.image;
        state = no_state;
        log = (deferred_log q frequency [] (rests f true) r.modules r.log
            ∙ sym (deferred_log q frequency os f s.modules r.log)) t;
        down = true;
        lone = s.lone;
        modules = ends f true (append-nil os t);
      })

  -- ---------------------------------------------------------------- due
  abbrev fs : List Op
  fs = force_ops between (suc m) (q - m)

  abbrev due_effect : Effect
  due_effect = effect (appended q 1) (force_state between (suc m) (q - m)) (os ++ fs)

  rest_whole : (k : ℕ) → eqb (k - length os) (length fs) ≡ eqb k (length (os ++ fs))
  rest_whole k = rw (length-append os fs) (eqb_rest k (length os) (length fs) (force_some between (suc m) (q - m)))

  kept_due : is_deferred m q frequency ≡ false → (open_test (first_open between (suc m) (q - m))).fails ≡ false
      → (f : Slot → Fate) (fails : Bool)
      → ((i : Slot) → Befalls (part_in_call (os ++ fs) fails (f i) (s.modules i)) (f i) (s.modules i))
      → Kept s (appended_as kind bytes frequency due_effect f fails s)
  unfolding feed_append_three feed_appended_three effect_of
  kept_due is-due none_open f fails fits = kept_is
      (kept-force f fails (3 * length fs) (effect durable (force_state between (suc m) (q - m)) fs)
      (force_is_due s.state s.image kind bytes words th frequency frequency_ok (3 * length fs) is-due none_open
      (le_refl _)) (λ i. ap (λ (b : Bool). not fails && b) (rest_whole (f i).carried)) fits)
      (λ t. record {
        image = sym (apply_append os fs s.image) t;
        state = state_left fails (force_state between (suc m) (q - m));
        log = same_feed q frequency (os ++ fs) fs f (rests f fails) s.modules r.modules r.log
            (λ i. rw (recorded_step s.state kind bytes (s.modules i), rest_whole (f i).carried)) t;
        down = fails;
        lone = s.lone;
        modules = ends f fails (os ++ fs);
      })

-- ---------------------------------------------------------------- append, with the state or without
-- t stands, with the state that it has or with one that nobody has; and modules can be read as in s
pub record StoodOn (s t : Drive) : Type 0 where
  pub stood : Stood t
  pub reads : (i : Slot) → reads_to_end (s.modules i).image ≡ true → reads_to_end (t.modules i).image ≡ true

kept_stood : {s t : Drive} → Kept s t → StoodOn s t
kept_stood {s} {t} k =
    record { stood = record { held = t.state; standing = k.stands; state = inl refl }; reads = k.reads }

-- without a state append is refused
no_state_lem : (image : List ℕ) → (image_test no_state image).fails ≡ false → ⊥
no_state_lem image h = true≢false (rw (none_ok (length image)) at h)

same_state : (fails : Bool) {x held : State} → (x ≡ held) ⊎ (x ≡ no_state)
    → (state_left fails x ≡ state_left fails held) ⊎ (state_left fails x ≡ no_state)
same_state fails (inl e) = inl (ap (state_left fails) e)
same_state fails (inr e) = inr (ap (state_left fails) e ∙ left_none fails)

pub stood_append : (s : Drive) → Stood s → (kind : ℕ) (bytes : List ℕ) (frequency words : ℕ) (f : Slot → Fate)
    (fails : Bool) → AppendDriveFits (drive_append kind bytes frequency words f fails) s
    → StoodOn s (append_drive_after (drive_append kind bytes frequency words f fails) s)
unfolding append_drive_after feed_append_three apply
stood_append s st kind bytes frequency words f fails fits =
    go (came s.state s.image words kind bytes frequency) fits.2
  where
    standing : {A : Type 0} → (image_test s.state s.image).fails ≡ false → (Standing s → A) → A
    standing {A} h k = pick st.state
      where
        pick : (s.state ≡ st.held) ⊎ (s.state ≡ no_state) → A
        pick (inl e) = k (subst (λ (x : State). Standing (with_state x s)) (sym e) st.standing)
        pick (inr e) =
            absurd (no_state_lem s.image (subst (λ (x : State). (image_test x s.image).fails ≡ false) e h))

    go : {o : Effect} → Came s.state s.image words kind bytes frequency o
        → ((i : Slot) → Befalls (part_in_call o.ops fails (f i) (s.modules i)) (f i) (s.modules i))
        → StoodOn s (appended_as kind bytes frequency o f fails s)
    go (refused-for w) fit = record {
      stood = record {
        held = state_left fails st.held;
        standing = rw (or_up fails s.down fits.1)
            at (refused_stands (with_state st.held s) st.standing f fails fit);
        state = same_state fails st.state;
      };
      reads = λ i r. idle_reads (s.modules i) (f i) fails (any_of_slot st.standing i) (fit i) r;
    }
    go (late ps e l) fit = standing (first_passes ps)
        (λ t. kept_stood (kept_late s t fits.1 kind bytes fits.0 frequency ps e f fails fit))
    go (due ps e p) fit = standing (first_passes ps)
        (λ t. kept_stood (kept_due s t fits.1 kind bytes fits.0 frequency ps e (first_passes p) f fails fit))
