-- What holds beside the invariant of the crash theorem in a disciplined run, and that each call keeps it.
-- Cites specs/LossBound.antt, MissingLaws.antt; crates/journal/proofs/DeferLaws.antt.
use mathlib.Core.Path.{◌≡◌, refl, ap, ◌∙◌, sym, subst}
use mathlib.Core.Logic.{◌≢◌}
use mathlib.Core.List.{List, [], ◌∷◌}
use mathlib.Core.Bool.{Bool, true, false, cond, true≢false, false≢true}
use mathlib.Core.Option.{some}
use Prim.Native.Nat.{ℕ, suc, ◌+◌, ◌-◌, ◌≤◌, ◌<◌}
use native.Mathlib.Omega.{arith}
use native.Mathlib.Nat.{le_refl}
use native.Mathlib.Decide.{dec_le, ℕ_discrete}
use lib.ListN.{length}
use lib.Dec.{eqb, leb, ltb}
use borrow.Author.Tests.{eq-eqb, ne_eqb, eqb-true, le-leb}
use Rattle.device.specs.Ops.{Op}
use Rattle.refusal.specs.Tests.{Test, decide}
use Rattle.refusal.specs.declared.Why.{Why}
use Rattle.refusal.proofs.TestLaws.{AllPass, Decided, passed, failed, decided}
use Rattle.state.specs.declared.State.{State}
use Rattle.state.specs.declared.Stage.{Stage}
use Rattle.state.specs.Table.{table_size, entry_in_table, entry_of, is_open_stage, is_committed}
use Rattle.state.proofs.AndLaws.{both}
use Rattle.state.proofs.TableLaws.{entry_other, entry_same}
use Rattle.journal.specs.AbstractLog.{Promise, AbstractLog, change, fresh_promise, with_bytes, as_complete, as_durable, as_begun, feed_granted, feed}
use Rattle.journal.specs.Append.{reserve_state, reserve_ops, complete_state}
use Rattle.journal.specs.Calls.{Call, reserve, copy, complete, force, release, release_all}
use Rattle.journal.specs.CrashSafe.{System}
use Rattle.journal.specs.Effect.{done, reserved, durable, deferred, Effect, effect, refused_effect}
use Rattle.journal.specs.Force.{force_state, is_deferred}
use Rattle.journal.specs.Release.{new_head, head_at, mark_released, release_state}
use Rattle.journal.specs.RunLog.{RunLog}
use Rattle.journal.proofs.DeferLaws.{deferred_near}
use Rattle.journal.proofs.CrashCopyComplete.{open_is}
use Rattle.journal.proofs.CrashRelease.{committed_ok, released_ok}
use Rattle.journal.proofs.Invariant.{Agrees, Inv}
use Rattle.journal.proofs.TableRuns.{commit_other, freed_other, held_range, held_skipped}
use Rattle.loss.specs.LossBound.{since_reply, Turn, free, opened, completed, is_forced, turn_forced, turn_completed, turn_reply}
use Rattle.loss.proofs.MissingLaws.{Has, first, later, Falls, falls_has, falls_up, Unbegun, Durable, LogOk}

-- ---------------------------------------------------------------- what holds between calls
-- a record that is not yet forced with F is one more than F allows
abbrev pub slack : Turn → ℕ
slack free = 0
slack (opened k) = 1
slack (completed k) = 1

-- it is the newest: the next LSN follows it
abbrev pub Last : Turn → ℕ → Type 0
Last free n = Unit {0}
Last (opened k) n = suc k ≡ n
Last (completed k) n = suc k ≡ n

-- those completed are below this LSN
abbrev pub limit : Turn → ℕ → ℕ
limit free n = n
limit (opened k) n = k
limit (completed k) n = n

-- while a state is held. c is its committed LSN; above it no record but the newest is open, and no release is begun
pub record HeldOk (F c : ℕ) (log : AbstractLog) (st : State) (ks : List ℕ) (t : Turn) : Type 0 where
  pub committed : st.committed_lsn ≡ c
  pub near : st.next_lsn ≤ c + F + slack t
  pub last : Last t st.next_lsn
  pub falls : Falls (limit t st.next_lsn) ks
  pub closed : (j : ℕ) → c < j → j < st.next_lsn → is_open_stage (entry_of st j).stage ≡ true → t ≡ opened j
  pub unbegun : (j : ℕ) → c < j → j < st.next_lsn → Unbegun log j

-- a power failure takes the state: c stays as a number, and what the abstract log says by it
pub record LossOf (F : ℕ) (log : AbstractLog) (st : State) (ks : List ℕ) (t : Turn) : Type 0 where
  pub c : ℕ
  pub known : LogOk F c log ks
  pub held : 0 < st.area → HeldOk F c log st ks t

-- all that a call owes: after it, and where power fails after n of its ops
pub record Steps (F c : ℕ) (log : AbstractLog) (ks : List ℕ) (t : Turn) (x : Call) (o : Effect) : Type 0 where
  pub whole : LossOf F (feed x o.reply (length o.ops) (length o.ops) log) o.state
      (since_reply true x o.reply ks) (turn_reply F x o.reply t)
  pub crashed : (n : ℕ) → LogOk F c (feed x o.reply (length o.ops) n log) (since_reply false x o.reply ks)

-- ---------------------------------------------------------------- refused
pub idle : {F : ℕ} {log : AbstractLog} {st : State} {ks : List ℕ} {t : Turn} (x : Call) (w : Why)
    (l : LossOf F log st ks t) → Steps F l.c log ks t x (refused_effect st w)
unfolding feed
idle x w l = record { whole = l; crashed = λ n. l.known }

pub refusing : {F : ℕ} {log : AbstractLog} {st : State} {ks : List ℕ} {t : Turn} (x : Call) (ts : List Test)
    (good : Effect) (l : LossOf F log st ks t) → (AllPass ts → Steps F l.c log ks t x good)
    → Steps F l.c log ks t x (decide ts (refused_effect st) good)
refusing {F} {log} {st} {ks} {t} x ts good l h = go (decided ts (refused_effect st) good)
  where
    go : {o : Effect} → Decided ts (refused_effect st) good o → Steps F l.c log ks t x o
    go (passed p) = h p
    go (failed w) = idle x w l

-- ---------------------------------------------------------------- the abstract log changed
change_durable : (picks : ℕ → Bool) (f : Promise → Promise) (log : AbstractLog) (k : ℕ)
    → ((e : Promise) → e.durable ≡ true → (f e).durable ≡ true) → Durable log k → Durable (change picks f log) k
change_durable picks f log k keeps u = go (picks k) refl
  where
    go : (b : Bool) → picks k ≡ b → Durable (change picks f log) k
    go true q = record { promise = f u.promise; is = rw (q, u.is); durable = keeps u.promise u.durable }
    go false q = record { promise = u.promise; is = rw (q, u.is); durable = u.durable }

beside_durable : (log log' : AbstractLog) (k : ℕ) → log' k ≡ log k → Durable log k → Durable log' k
beside_durable log log' k e u = record { promise = u.promise; is = e ∙ u.is; durable = u.durable }

change_unbegun : (picks : ℕ → Bool) (f : Promise → Promise) (log : AbstractLog) (k : ℕ)
    → ((e : Promise) → (f e).begun ≡ e.begun) → Unbegun log k → Unbegun (change picks f log) k
change_unbegun picks f log k keeps u = go (picks k) refl
  where
    go : (b : Bool) → picks k ≡ b → Unbegun (change picks f log) k
    go true q = record { promise = f u.promise; is = rw (q, u.is); begun = keeps u.promise ∙ u.begun }
    go false q = record { promise = u.promise; is = rw (q, u.is); begun = u.begun }

beside_unbegun : (log log' : AbstractLog) (k : ℕ) → log' k ≡ log k → Unbegun log k → Unbegun log' k
beside_unbegun log log' k e u = record { promise = u.promise; is = e ∙ u.is; begun = u.begun }

log_next : {F c : ℕ} {log log' : AbstractLog} {ks : List ℕ} → LogOk F c log ks
    → ((k : ℕ) → Has k ks → Durable log k → Durable log' k)
    → ((k : ℕ) → Has k ks → c < k → Unbegun log k → Unbegun log' k) → LogOk F c log' ks
log_next b d u =
    record { falls = b.falls; low = λ k h l. d k h (b.low k h l); high = λ k h l. u k h l (b.high k h l) }

-- ---------------------------------------------------------------- granted calls, in a state that agrees
limit_le : (t : Turn) (n : ℕ) → Last t n → limit t n ≤ n
limit_le free n h = le_refl n
limit_le (opened k) n h = omega arith
limit_le (completed k) n h = le_refl n

below_next : {F c : ℕ} {log : AbstractLog} {st : State} {ks : List ℕ} {t : Turn} → HeldOk F c log st ks t → {k : ℕ}
    → Has k ks → k < st.next_lsn
below_next {st = st} {ks} {t} h x =
    let a = falls_has (limit t st.next_lsn) ks h.falls x in
    let b = limit_le t st.next_lsn h.last in
    omega arith

opened_inj : {j k : ℕ} → opened j ≡ opened k → j ≡ k
opened_inj h = cc

free_opened : {j : ℕ} → free ≡ opened j → ⊥
free_opened h = let z : ◌≡◌ {A = ℕ} 0 1 = cc in omega arith

completed_opened : {j k : ℕ} → completed k ≡ opened j → ⊥
completed_opened h = let z : ◌≡◌ {A = ℕ} 0 1 = cc in omega arith

-- a call that leaves the next LSN, the committed LSN, and the entries above that
same_held : {F c : ℕ} {log log' : AbstractLog} {st st' : State} {ks : List ℕ} {t : Turn} → HeldOk F c log st ks t
    → st'.next_lsn ≡ st.next_lsn → st'.committed_lsn ≡ st.committed_lsn
    → ((j : ℕ) → c < j → j < st.next_lsn → (entry_of st' j).stage ≡ (entry_of st j).stage)
    → ((j : ℕ) → c < j → j < st.next_lsn → Unbegun log j → Unbegun log' j) → HeldOk F c log' st' ks t
same_held {st = st} {ks = ks} {t} h n m es us = record {
  committed = m ∙ h.committed;
  near = rw n h.near;
  last = rw n h.last;
  falls = rw n h.falls;
  closed = λ j a b o. h.closed j a (rw n at b) (sym (ap (λ (g : Stage). is_open_stage g) (es j a (rw n at b))) ∙ o);
  unbegun = λ j a b. us j a (rw n at b) (h.unbegun j a (rw n at b));
}

-- the force that ends a turn is that of the record last completed, and with F
forced_so : (F k frequency : ℕ) (t : Turn) → is_forced F k frequency t ≡ true → (t ≡ completed k) × (frequency ≡ F)
forced_so F k frequency free e = absurd (false≢true e)
forced_so F k frequency (opened j) e = absurd (false≢true e)
forced_so F k frequency (completed j) e =
    let p = both (eqb k j) (eqb frequency F) e in
    (ap completed (sym (eqb-true k j p.0)), eqb-true frequency F p.1)

-- the turn after a force that is granted
forced_held : (F c : ℕ) (log : AbstractLog) (st : State) (ks : List ℕ) (k frequency : ℕ) (t : Turn)
    → HeldOk F c log st ks t → (suc k ≡ st.next_lsn → frequency ≡ F → st.next_lsn ≤ c + F)
    → HeldOk F c log st ks (turn_forced F k frequency t)
forced_held F c log st ks k frequency t h ready = go (is_forced F k frequency t) refl
  where
    ended : HeldOk F c log st ks (completed k) → frequency ≡ F → HeldOk F c log st ks free
    ended h e = record {
      committed = h.committed;
      near = let n = ready h.last e in omega arith;
      last = tt;
      falls = h.falls;
      closed = λ i a l o. absurd (completed_opened (h.closed i a l o));
      unbegun = h.unbegun;
    }

    go : (x : Bool) → is_forced F k frequency t ≡ x → HeldOk F c log st ks (cond x free t)
    go false e = h
    go true e =
        let p = forced_so F k frequency t e in
        ended (subst (λ (x : Turn). HeldOk F c log st ks x) p.0 h) p.1

-- after a recovery that succeeds uncut all is committed, and nothing completed since; after format too
pub started : (F : ℕ) → 1 ≤ F → (log : AbstractLog) (st : State) → st.committed_lsn ≡ st.next_lsn - 1
    → LossOf F log st [] free
started F some-F log st e = record {
  c = st.committed_lsn;
  known = record { falls = tt; low = λ k x. absurd (none_has x); high = λ k x. absurd (none_has x) };
  held = λ a. record {
    committed = refl;
    near = omega arith;
    last = tt;
    falls = tt;
    closed = λ j a l o. absurd (omega arith);
    unbegun = λ j a l. absurd (omega arith);
  };
}
  where
    none_has : {k : ℕ} → Has k [] → ⊥
    none_has x = let a = falls_has 0 [] tt x in omega arith

module _ (F : ℕ) (some-F : 1 ≤ F) (s : System) {ran : RunLog} (i : Inv s ran)
    (ag : Agrees s.log i.quiet.frame s.image s.state)
    (ks : List ℕ) where
  abbrev st : State
  st = s.state

  abbrev q : ℕ
  q = s.state.next_lsn

  abbrev log : AbstractLog
  log = s.log

  abbrev m : ℕ
  m = s.state.committed_lsn

  -- the lower and upper ends of what is live
  spans : (s.state.head_lsn ≤ suc m) × (suc m ≤ q) × (q ≤ s.state.head_lsn + table_size)
  spans =
      let a = ag.head_lsn in
      let b = ag.committed_lsn in
      let o = i.quiet.zoned.order in
      let w = ag.order in
      let f = ag.few in
      (omega arith, omega arith, omega arith)

  -- -------------------------------------------------------------- reserve
  module _ (kind len : ℕ) (c : ℕ) (b : LogOk F c s.log ks) (h : HeldOk F c s.log s.state ks free)
      (spare : s.state.next_lsn < s.state.head_lsn + table_size) where
    abbrev log' : AbstractLog
    log' = λ j. cond (eqb j s.state.next_lsn) (some (fresh_promise kind len)) (s.log j)

    not_q : (j : ℕ) → j < q → log' j ≡ log j
    not_q j l = rw (ne_eqb j q (omega arith))

    log-reserved : LogOk F c log' ks
    log-reserved = log_next b (λ k x d. beside_durable log log' k (not_q k (below_next h x)) d)
        (λ k x l u. beside_unbegun log log' k (not_q k (below_next h x)) u)

    entry_q : (j : ℕ) → c < j → j < q → entry_of (reserve_state s.state kind len) j ≡ entry_of s.state j
    unfolding reserve_state entry_in_table
    entry_q j a l =
        let p = spans in
        let e = h.committed in
        entry_other s.state.table q j _ (omega arith) (omega arith) (omega arith)

    held-reserved : HeldOk F c log' (reserve_state st kind len) ks (opened q)
    unfolding reserve_state
    held-reserved = record {
      committed = h.committed;
      near = let a = h.near in omega arith;
      last = refl;
      falls = h.falls;
      closed = λ j a l o. shut j a l o (ℕ_discrete j q);
      unbegun = λ j a l. fresh j a l (ℕ_discrete j q);
    }
      where
        shut : (j : ℕ) → c < j → j < suc q → is_open_stage (entry_of (reserve_state s.state kind len) j).stage ≡ true
            → Dec (j ≡ q) → opened q ≡ opened j
        shut j a l o (yes e) = ap opened (sym e)
        shut j a l o (no n) = absurd (free_opened (h.closed j a (omega arith) (rw (entry_q j a (omega arith)) at o)))

        fresh : (j : ℕ) → c < j → j < suc q → Dec (j ≡ q) → Unbegun log' j
        fresh j a l (yes e) = record { promise = fresh_promise kind len; is = rw (eq-eqb j q e); begun = refl }
        fresh j a l (no n) = beside_unbegun log log' j (not_q j (omega arith)) (h.unbegun j a (omega arith))

    pub steps-reserve : (pos : ℕ)
        → Steps F c log ks free (reserve kind len)
        (effect (reserved q pos) (reserve_state st kind len) (reserve_ops st kind len))
    unfolding feed feed_granted
    steps-reserve pos = record {
      whole = record { c = c; known = log-reserved; held = λ a. held-reserved };
      crashed = λ n. log-reserved;
    }

  -- -------------------------------------------------------------- what is durable and begun stays
  module _ (t : Turn) (c : ℕ) (b : LogOk F c s.log ks) (h : HeldOk F c s.log s.state ks t) where
    log-changed : (picks : ℕ → Bool) (f : Promise → Promise)
        → ((e : Promise) → e.durable ≡ true → (f e).durable ≡ true) → ((e : Promise) → (f e).begun ≡ e.begun)
        → LogOk F c (change picks f log) ks
    log-changed picks f d g =
        log_next b (λ k x w. change_durable picks f log k d w) (λ k x l u. change_unbegun picks f log k g u)

    -- ------------------------------------------------------------ copy
    pub steps-copy : (k offset : ℕ) (bytes : List ℕ) (os : List Op)
        → Steps F c log ks t (copy k offset bytes) (effect done st os)
    unfolding feed feed_granted
    steps-copy k offset bytes os =
        let bk = log-changed (eqb k) (with_bytes offset bytes) (λ e d. d) (λ e. refl) in record {
          whole = record {
            c = c;
            known = bk;
            held = λ a. same_held h refl refl (λ j x y. refl)
                (λ j x y u. change_unbegun (eqb k) (with_bytes offset bytes) log j (λ e. refl) u);
          };
          crashed = λ n. bk;
        }

    -- ------------------------------------------------------------ complete
    module _ (k : ℕ) (low : s.state.head_lsn ≤ k) (high : k < s.state.next_lsn)
        (is_open : is_open_stage (entry_of s.state k).stage ≡ true) where
      above : c < k
      above =
          let a = (open_is (ag.records k (omega (arith, ag.head_lsn)) high).stage is_open).0 in
          omega (arith, ag.committed_lsn, h.committed)

      turn : t ≡ opened k
      turn = h.closed k above high is_open

      h' : HeldOk F c s.log s.state ks (opened k)
      h' = subst (λ (x : Turn). HeldOk F c s.log s.state ks x) turn h

      abbrev logC : AbstractLog
      logC = change (eqb k) as_complete s.log

      unbegunC : (j : ℕ) → Unbegun s.log j → Unbegun logC j
      unbegunC j u = change_unbegun (eqb k) as_complete s.log j (λ e. refl) u

      log-completed : LogOk F c logC (k ∷ ks)
      log-completed = let a = h'.near in let n = h'.last in record {
        falls = (omega arith, h'.falls);
        low = λ j x l. durable-at j x l;
        high = λ j x l. unbegun-at j x l;
      }
        where
          durable-at : (j : ℕ) → Has j (k ∷ ks) → j ≤ c → Durable logC j
          durable-at j first l = absurd (let a = above in omega arith)
          durable-at j (later x) l = change_durable (eqb k) as_complete s.log j (λ e d. d) (b.low j x l)

          unbegun-at : (j : ℕ) → Has j (k ∷ ks) → c < j → Unbegun logC j
          unbegun-at j first l = unbegunC k (h.unbegun k above high)
          unbegun-at j (later x) l = unbegunC j (b.high j x l)

      entry-k : (j : ℕ) → c < j → j < q → j ≢ k → entry_of (complete_state s.state k) j ≡ entry_of s.state j
      unfolding complete_state entry_in_table
      entry-k j a l n =
          let p = spans in
          let e = h.committed in
          entry_other s.state.table k j _ (λ z. n (sym z)) (omega arith) (omega arith)

      entry-shut : is_open_stage (entry_of (complete_state s.state k) k).stage ≡ false
      unfolding complete_state
      entry-shut = rw (entry_same s.state.table k _ ag.table)

      -- it is complete and not yet forced: so is one more than F allows
      held-completed : HeldOk F c logC (complete_state st k) (k ∷ ks) (turn_completed k t)
      unfolding complete_state
      held-completed = rw (turn, eq-eqb k k refl) (record {
        committed = h.committed;
        near = let n = h'.near in omega arith;
        last = h'.last;
        falls = (high, h'.falls);
        closed = λ j a l o. absurd (shut j a l o (ℕ_discrete j k));
        unbegun = λ j a l. unbegunC j (h.unbegun j a l);
      })
        where
          shut : (j : ℕ) → c < j → j < q → is_open_stage (entry_of (complete_state s.state k) j).stage ≡ true
              → Dec (j ≡ k)
              → ⊥
          shut j a l o (yes e) = true≢false
              (sym o ∙ ap (λ (y : ℕ). is_open_stage (entry_of (complete_state s.state k) y).stage) e ∙ entry-shut)
          shut j a l o (no n) = n (sym (opened_inj (sym turn ∙ h.closed j a l (rw (entry-k j a l n) at o))))

      pub steps-complete : (os : List Op) → Steps F c log ks t (complete k) (effect done (complete_state st k) os)
      unfolding feed feed_granted
      steps-complete os = record {
        whole = record { c = c; known = log-completed; held = λ a. held-completed };
        crashed = λ n. log-completed;
      }

    -- ------------------------------------------------------------ release
    module _ (k : ℕ) (low : s.state.head_lsn ≤ k) (high : k < s.state.next_lsn)
        (is_committed_lem : is_committed (entry_of s.state k).stage ≡ true) where
      not-above : k ≤ c
      not-above =
          let a = committed_ok (ag.records k (omega (arith, ag.head_lsn)) high).stage is_committed_lem in
          omega (arith, ag.committed_lsn, h.committed)

      logR : Bool → AbstractLog
      logR x = cond x (change (eqb k) as_begun s.log) s.log

      beside : (x : Bool) (j : ℕ) → c < j → logR x j ≡ s.log j
      unfolding logR
      beside true j l = rw (ne_eqb k j (let a = not-above in omega arith))
      beside false j l = refl

      log-released : (x : Bool) → LogOk F c (logR x) ks
      unfolding logR
      log-released x = log_next b (λ j y. stays x j) (λ j y l u. beside_unbegun s.log (logR x) j (beside x j l) u)
        where
          stays : (x : Bool) (j : ℕ) → Durable s.log j
              → Durable (cond x (change (eqb k) as_begun s.log) s.log) j
          stays true j = change_durable (eqb k) as_begun s.log j (λ e d. d)
          stays false j = λ w. w

      marked : (j : ℕ) → c < j → j < q → entry_of (mark_released s.state k) j ≡ entry_of s.state j
      unfolding mark_released entry_in_table
      marked j a l =
          let p = spans in
          let e = h.committed in
          let n = not-above in
          entry_other s.state.table k j _ (omega arith) (omega arith) (omega arith)

      -- the new head is at most the first that is not committed
      head-below : (j : ℕ) → c < j → j < q → new_head s.state ≤ j
      head-below j a l = go (dec_le (new_head s.state) j)
        where
          go : Dec (new_head s.state ≤ j) → new_head s.state ≤ j
          go (yes y) = y
          go (no n) = absurd (let p = spans in let e = h.committed in let k' = not-above in
              let z = (released_ok (ag.records j (omega (arith, ag.head_lsn)) l).stage
              (held_skipped s.state (suc s.state.head_lsn) (q - suc s.state.head_lsn) j (omega arith)
              (omega arith))).0 in
              omega (arith, ag.committed_lsn))

      moved : (j : ℕ) → c < j → j < q
          → entry_of (head_at (mark_released s.state k) (new_head s.state)) j ≡ entry_of s.state j
      unfolding head_at mark_released
      moved j a l =
          let p = spans in
          let e = h.committed in
          let n = head-below j a l in
          let r = (held_range s.state (suc s.state.head_lsn) (q - suc s.state.head_lsn)).0 in
          freed_other _ s.state.head_lsn (new_head s.state - s.state.head_lsn) j (omega arith) (omega arith)
          ∙ marked j a l

      held-released : (x : Bool) → HeldOk F c (logR x) (release_state st k) ks t
      unfolding release_state head_at mark_released
      held-released x = go (eqb k s.state.head_lsn)
        where
          go : (y : Bool)
              → HeldOk F c (logR x)
              (cond y (head_at (mark_released s.state k) (new_head s.state)) (mark_released s.state k)) ks t
          go true = same_held h refl refl (λ j a l. rw (moved j a l))
              (λ j a l u. beside_unbegun s.log (logR x) j (beside x j a) u)
          go false = same_held h refl refl (λ j a l. rw (marked j a l))
              (λ j a l u. beside_unbegun s.log (logR x) j (beside x j a) u)

      pub steps-release : (os : List Op) → Steps F c log ks t (release k) (effect done (release_state st k) os)
      unfolding feed feed_granted logR
      steps-release os = record {
        whole =
            record { c = c; known = log-released (ltb 0 (length os)); held = λ a. held-released (ltb 0 (length os)) };
        crashed = λ n. log-released (ltb 0 n);
      }

    -- ------------------------------------------------------------ release all
    module _ (all : s.state.next_lsn ≤ suc s.state.committed_lsn) where
      none_above : (j : ℕ) → c < j → j < q → ⊥
      none_above j a l = let e = h.committed in let x = all in omega arith

      logA : Bool → AbstractLog
      logA x = cond x (change (λ lsn. true) as_begun s.log) s.log

      log-released-all : (x : Bool) → LogOk F c (logA x) ks
      unfolding logA
      log-released-all x = log_next b (λ j y. stays x j) (λ j y l u. absurd (none_above j l (below_next h y)))
        where
          stays : (x : Bool) (j : ℕ) → Durable s.log j
              → Durable (cond x (change (λ lsn. true) as_begun s.log) s.log) j
          stays true j = change_durable (λ lsn. true) as_begun s.log j (λ e d. d)
          stays false j = λ w. w

      pub steps-release-all : (st' : State) → st'.next_lsn ≡ s.state.next_lsn
          → st'.committed_lsn ≡ s.state.committed_lsn → (os : List Op)
          → Steps F c log ks t release_all (effect done st' os)
      unfolding feed feed_granted logA
      steps-release-all st' n m os = record {
        whole = record {
          c = c;
          known = log-released-all (ltb 0 (length os));
          held = λ a. same_held h n m (λ j x y. absurd (none_above j x y)) (λ j x y. absurd (none_above j x y));
        };
        crashed = λ n. log-released-all (ltb 0 n);
      }

    -- ------------------------------------------------------------ force
    module _ (k frequency : ℕ) where
      logF : Bool → AbstractLog
      logF x = cond x (change (λ j. leb j k) as_durable s.log) s.log

      unbegunF : (x : Bool) (j : ℕ) → Unbegun s.log j → Unbegun (logF x) j
      unfolding logF
      unbegunF true j u = change_unbegun (λ j. leb j k) as_durable s.log j (λ e. refl) u
      unbegunF false j u = u

      log-forced : (x : Bool) → LogOk F c (logF x) ks
      unfolding logF
      log-forced x = log_next b (λ j y. stays x j) (λ j y l u. unbegunF x j u)
        where
          stays : (x : Bool) (j : ℕ) → Durable s.log j
              → Durable (cond x (change (λ j. leb j k) as_durable s.log) s.log) j
          stays true j = change_durable (λ j. leb j k) as_durable s.log j (λ e d. refl)
          stays false j = λ w. w

      -- an LSN that is committed
      pub steps-durable : k ≤ s.state.committed_lsn → Steps F c log ks t (force k frequency) (effect durable st [])
      unfolding feed feed_granted logF
      steps-durable l = record {
        whole = record {
          c = c;
          known = log-forced true;
          held = λ a. forced_held F c (logF true) st ks k frequency t
              (same_held h refl refl (λ j x y. refl) (λ j x y u. unbegunF true j u))
              (λ n e. omega (arith, h.committed));
        };
        crashed = λ n. log-forced (eqb n 0);
      }

      -- deferred
      pub steps-deferred : s.state.committed_lsn < k → is_deferred s.state.committed_lsn k frequency ≡ true
          → Steps F c log ks t (force k frequency) (effect deferred st [])
      unfolding feed feed_granted
      steps-deferred l late = record {
        whole = record {
          c = c;
          known = b;
          held = λ a. forced_held F c log st ks k frequency t h
              (λ n e. let z = deferred_near F some-F m k (subst (λ (x : ℕ). is_deferred m k x ≡ true) e late) in
              omega (arith, h.committed));
        };
        crashed = λ n. b;
      }

      -- a stretch
      module _ (l : s.state.committed_lsn < k) (high : k < s.state.next_lsn) where
        log-raised : LogOk F k (logF true) ks
        unfolding logF
        log-raised = record {
          falls = falls_up (suc (c + F)) (suc (k + F)) ks (let e = h.committed in omega arith) b.falls;
          low = λ j x y. raised j x y (dec_le j c);
          high = λ j x y. unbegunF true j (b.high j x (let e = h.committed in omega arith));
        }
          where
            now-durable : (j : ℕ) → j ≤ k → (e : Promise) → s.log j ≡ some e
                → Durable (change (λ j. leb j k) as_durable s.log) j
            now-durable j y e is = record { promise = as_durable e; is = rw (le-leb j k y, is); durable = refl }

            raised : (j : ℕ) → Has j ks → j ≤ k → Dec (j ≤ c) → Durable (change (λ j. leb j k) as_durable s.log) j
            raised j x y (yes z) = let d = b.low j x z in now-durable j y d.promise d.is
            raised j x y (no n) = let u = b.high j x (omega arith) in now-durable j y u.promise u.is

        entry-after : (j : ℕ) → k < j → j < q → entry_of (force_state s.state (suc m) (k - m)) j ≡ entry_of s.state j
        unfolding force_state
        entry-after j a y =
            let p = spans in
            commit_other s.state.table (suc m) (k - m) j (omega arith)
            (λ x u v. (omega arith, omega arith, omega arith))

        held-raised : HeldOk F k (logF true) (force_state st (suc m) (k - m)) ks t
        unfolding force_state
        held-raised = let e = h.committed in record {
          committed = omega arith;
          near = let a = h.near in omega arith;
          last = h.last;
          falls = h.falls;
          closed = λ j a y o. h.closed j (omega arith) y (rw (entry-after j a y) at o);
          unbegun = λ j a y. unbegunF true j (h.unbegun j (omega arith) y);
        }

        pub steps-forced : (os : List Op)
            → Steps F c log ks t (force k frequency) (effect durable (force_state st (suc m) (k - m)) os)
        unfolding feed feed_granted logF force_state
        steps-forced os = record {
          whole = record {
            c = k;
            known = rw (eq-eqb (length os) (length os) refl) log-raised;
            held = λ a. rw (eq-eqb (length os) (length os) refl) (forced_held F k (logF true)
                (force_state st (suc m) (k - m)) ks k frequency t held-raised (λ n e. omega arith));
          };
          crashed = λ n. log-forced (eqb n (length os));
        }
