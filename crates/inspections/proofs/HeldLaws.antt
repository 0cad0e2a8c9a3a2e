-- A release of a record that a committed one names is refused.
use mathlib.Core.Path.{◌≡◌, refl, ap, ◌∙◌, sym, subst}
use mathlib.Core.List.{List}
use mathlib.Core.Bool.{Bool, true, false, cond, true≢false, false≢true}
use mathlib.Core.Option.{some}
use Prim.Native.Nat.{ℕ, zero, suc, ◌+◌, ◌-◌, ◌≤◌, ◌<◌}
use native.Mathlib.Omega.{arith}
use native.Mathlib.Decide.{ℕ_discrete}
use borrow.Author.Tests.{eq-eqb, lt-ltb}
use Rattle.refusal.proofs.TestLaws.{AllPass, and, Decided, passed, failed, decided}
use Rattle.device.proofs.CrashLaws.{shown_obeys}
use Rattle.state.specs.Table.{entry_of, is_committed}
use Rattle.state.specs.declared.Stage.{Stage}
use Rattle.state.specs.declared.State.{State}
use Rattle.scan.specs.Names.{names_in}
use Rattle.journal.specs.AbstractLog.{Promise, AbstractLog, as_begun}
use Rattle.journal.specs.Calls.{Call, reserve, copy, complete, force, release, release_all, recover, effect_of}
use Rattle.journal.specs.CrashSafe.{System, GoesOn, effect_in}
use Rattle.journal.specs.Effect.{done, Effect, effect, refused_effect}
use Rattle.journal.specs.Release.{is_holder, first_holder, holder_of, release_tests, release_ops, release_state, release_effect}
use Rattle.journal.specs.RunLog.{RunLog}
use Rattle.journal.proofs.AgreedLaws.{holds}
use Rattle.journal.proofs.CallRows.{live_ok}
use Rattle.journal.proofs.Invariant.{Dates, StageOk, is_committed_lem, is_released_lem, is_opened, is_complete, Inv}
use Rattle.journal.proofs.NamedLaws.{firm_names}
use Rattle.journal.proofs.Zones.{some_inj}
use Rattle.inspections.proofs.FedLaws.{fed_by, Releases, begins_none, begins_all}

-- the search finds one where there is one
found : (st : State) (img : List ℕ) (k j lsn n : ℕ) → 1 ≤ lsn → lsn ≤ j → j < lsn + n
    → is_holder img st.area k (entry_of st j) ≡ true → 0 < first_holder st img k lsn n
unfolding first_holder
found st img k j lsn zero one lo hi h = absurd (omega arith)
found st img k j lsn (suc n) one lo hi h =
    go (is_holder img st.area k (entry_of st lsn)) refl
    (λ more. found st img k j (suc lsn) n (omega arith) more (omega arith) h) (ℕ_discrete lsn j)
  where
    go : (t : Bool) → is_holder img st.area k (entry_of st lsn) ≡ t
        → (suc lsn ≤ j → 0 < first_holder st img k (suc lsn) n) → Dec (lsn ≡ j)
        → 0 < cond t lsn (first_holder st img k (suc lsn) n)
    go true e ih d = one
    go false e ih (yes q) = absurd (true≢false
        (sym (subst (λ (x : ℕ). is_holder img st.area k (entry_of st x) ≡ true) (sym q) h) ∙ e))
    go false e ih (no f) = ih (omega arith)

-- a committed record whose release is not begun is committed in the table too
staged : {e : Promise} {t : Dates} {k m x : ℕ} {g : Stage} → StageOk e t k m x g → k < m → e.begun ≡ false
    → is_committed g ≡ true
staged (is_committed_lem h) l nb = refl
staged (is_released_lem h b) l nb = absurd (true≢false (sym b ∙ nb))
staged (is_opened h) l nb = absurd (omega arith)
staged (is_complete h c w d) l nb = absurd (omega arith)

-- a committed record, with no release of it begun, that names an earlier one
pub record Holds (log : AbstractLog) (firm j n : ℕ) : Type 0 where
  pub promise : Promise
  pub is : log j ≡ some promise
  pub begun : promise.begun ≡ false
  pub committed : j < firm
  pub before : n < j
  pub names : names_in promise.kind promise.bytes ≡ n

module _ (s : System) {ran : RunLog} (i : Inv s ran) {j n : ℕ} (r : Holds s.log i.quiet.frame.firm j n) where
  -- a release of the inspection is refused
  held_back : (words : ℕ) → AllPass (release_tests s.state s.image words n) → ⊥
  held_back words (and h1 (and h2 (and h3 (and h4 (and h5 p))))) =
      let ag = holds s i h1 in
      let live = live_ok s.state n h3 in
      let high = r.committed in
      let low : i.quiet.frame.head ≤ j = omega (arith, ag.head_lsn, live.0, r.before) in
      let here : j < s.state.next_lsn = omega (arith, ag.order) in
      let rec = ag.records j low here in
      let same : rec.promise ≡ r.promise = some_inj (sym rec.is ∙ r.is) in
      let comm = staged rec.stage high (ap (λ (x : Promise). x.begun) same ∙ r.begun) in
      let named = firm_names i.quiet.zoned i.quiet.size
      (shown_obeys s.image refl i.shows i.quiet.keeps) ag j low high r.promise r.is ∙ r.names in
      let holder : is_holder s.image s.state.area n (entry_of s.state j) ≡ true =
      rw (comm, named) (eq-eqb n n refl) in
      let some = found s.state s.image n j (suc n) (s.state.next_lsn - suc n) (omega arith) r.before
      (omega arith) holder in
      false≢true (sym h5 ∙ lt-ltb 0 (holder_of s.state s.image n) some)

  module _ (g : GoesOn) (words m : ℕ) where
    -- the inspection is not given back
    pub not_back : (c : Call) → ((p : Promise) → fed_by s g words m c j ≡ some p → p.begun ≡ false)
        → Releases c (effect_in s g c words).reply m n → ⊥
    unfolding effect_of release_effect
    not_back (release k) nb x = go (decided (release_tests s.state s.image words k) (refused_effect s.state)
        (effect done (release_state s.state k) (release_ops s.state k))) x
      where
        go : {o : Effect} → Decided (release_tests s.state s.image words k) (refused_effect s.state)
            (effect done (release_state s.state k) (release_ops s.state k)) o
            → Releases (release k) o.reply m n → ⊥
        go (passed p) x =
            held_back words (subst (λ (y : ℕ). AllPass (release_tests s.state s.image words y)) x p)
        go (failed w) x = x
    not_back release_all nb x =
        true≢false (nb (as_begun r.promise) (begins_all _ _ m n j s.log r.promise x r.is))
    not_back (reserve kind len) nb x =
        begins_none (reserve kind len) (effect_in s g (reserve kind len) words).reply m n refl x
    not_back (copy k offset bytes) nb x =
        begins_none (copy k offset bytes) (effect_in s g (copy k offset bytes) words).reply m n refl x
    not_back (complete k) nb x =
        begins_none (complete k) (effect_in s g (complete k) words).reply m n refl x
    not_back (force k frequency) nb x =
        begins_none (force k frequency) (effect_in s g (force k frequency) words).reply m n refl x
    not_back recover nb x =
        begins_none recover (effect_in s g recover words).reply m n refl x
