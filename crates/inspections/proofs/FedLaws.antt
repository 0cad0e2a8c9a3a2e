-- What a call leaves of the records that it does not write to, the committed ones among them.
use mathlib.Core.Path.{◌≡◌, refl, ap, ◌∙◌, sym, subst}
use mathlib.Core.Bool.{Bool, true, false, cond, true≢false}
use mathlib.Core.Option.{Option, none, some}
use Prim.Native.Nat.{ℕ, ◌<◌}
use native.Mathlib.Omega.{arith}
use lib.ListN.{length}
use lib.Dec.{leb, ltb, eqb}
use borrow.Author.Tests.{eqb-true, ne_eqb}
use Rattle.refusal.specs.Tests.{Reply, ok, refused}
use Rattle.refusal.specs.declared.Why.{Why}
use Rattle.state.specs.declared.State.{State}
use Rattle.scan.specs.Names.{names_in}
use Rattle.journal.specs.AbstractLog.{Promise, AbstractLog, on_promise, change, as_durable, as_begun, feed_granted, feed}
use Rattle.journal.specs.Calls.{Call, reserve, copy, complete, force, release, release_all, recover, effect_of}
use Rattle.journal.specs.CrashSafe.{System, GoesOn, effect_in, is_recover}
use Rattle.journal.specs.Effect.{Granted, done, reserved, durable, deferred, Effect}
use Rattle.journal.specs.RunLog.{RunLog}
use Rattle.journal.proofs.Invariant.{Knows, lost, held, Inv}
use Rattle.journal.proofs.Zones.{some_inj, some_not_none}
use Rattle.replicas.proofs.EffectLaws.{none_refused, late}
use Rattle.replicas.proofs.FeedLaws.{Late}

-- the abstract log after a call with so many ops carried out
abbrev pub fed_by : System → GoesOn → ℕ → ℕ → Call → AbstractLog
fed_by s g words m c = let o = effect_in s g c words in feed c o.reply (length o.ops) m s.log

-- whether a granted call begins a release of the record k, with so many ops carried out
abbrev pub Releases : Call → Reply Granted → ℕ → ℕ → Type 0
Releases (release k') (ok g) m k = k' ≡ k
Releases release_all (ok g) m k = ltb 0 m ≡ true
Releases (reserve kind len) (ok g) m k = ⊥
Releases (copy k' offset bytes) (ok g) m k = ⊥
Releases (complete k') (ok g) m k = ⊥
Releases (force k' frequency) (ok g) m k = ⊥
Releases recover (ok g) m k = ⊥
Releases c (refused w) m k = ⊥

-- what a call leaves of a record that it does not write to
pub data Fed (c : Call) (a : Reply Granted) (m k : ℕ) (o : Option Promise) : Option Promise → Type 0 where
  same : Fed c a m k o o
  forced : Fed c a m k o (on_promise as_durable o)
  given_back : Releases c a m k → Fed c a m k o (on_promise as_begun o)

pub feed_cases : (c : Call) (a : Reply Granted) (count m f : ℕ) → Late c a f → (log : AbstractLog) (k : ℕ) → k < f
    → Fed c a m k (log k) (feed c a count m log k)
unfolding feed feed_granted
feed_cases (reserve kind len) (ok (reserved q pos)) count m f l log k h = rw (ne_eqb k q (λ x. omega arith)) same
feed_cases (reserve kind len) (ok done) count m f l log k h = same
feed_cases (reserve kind len) (ok durable) count m f l log k h = same
feed_cases (reserve kind len) (ok deferred) count m f l log k h = same
feed_cases (copy k' offset bytes) (ok g) count m f l log k h = rw (ne_eqb k' k (λ x. omega arith)) same
feed_cases (complete k') (ok g) count m f l log k h = rw (ne_eqb k' k (λ x. omega arith)) same
feed_cases (force k' frequency) (ok durable) count m f l log k h = whole (eqb m count)
  where
    up : (t : Bool)
        → Fed (force k' frequency) (ok durable) m k (log k) (cond t (on_promise as_durable (log k)) (log k))
    up true = forced
    up false = same

    whole : (w : Bool)
        → Fed (force k' frequency) (ok durable) m k (log k) (cond w (change (λ lsn. leb lsn k') as_durable log) log k)
    whole true = up (leb k k')
    whole false = same
feed_cases (force k' frequency) (ok deferred) count m f l log k h = same
feed_cases (force k' frequency) (ok done) count m f l log k h = same
feed_cases (force k' frequency) (ok (reserved q pos)) count m f l log k h = same
feed_cases (release k') (ok g) count m f l log k h = begun (ltb 0 m)
  where
    at : (t : Bool) → eqb k' k ≡ t
        → Fed (release k') (ok g) m k (log k) (cond t (on_promise as_begun (log k)) (log k))
    at true q = given_back (eqb-true k' k q)
    at false q = same

    begun : (w : Bool) → Fed (release k') (ok g) m k (log k) (cond w (change (eqb k') as_begun log) log k)
    begun true = at (eqb k' k) refl
    begun false = same
feed_cases release_all (ok g) count m f l log k h = begun (ltb 0 m) refl
  where
    begun : (w : Bool) → ltb 0 m ≡ w
        → Fed release_all (ok g) m k (log k) (cond w (change (λ lsn. true) as_begun log) log k)
    begun true q = given_back q
    begun false q = same
feed_cases recover (ok g) count m f l log k h = same
feed_cases (reserve kind len) (refused w) count m f l log k h = same
feed_cases (copy k' offset bytes) (refused w) count m f l log k h = same
feed_cases (complete k') (refused w) count m f l log k h = same
feed_cases (force k' frequency) (refused w) count m f l log k h = same
feed_cases (release k') (refused w) count m f l log k h = same
feed_cases release_all (refused w) count m f l log k h = same
feed_cases recover (refused w) count m f l log k h = same

-- a record that stays as it was, at most made durable
pub record Still (e : Promise) (q : Option Promise) : Type 0 where
  pub promise : Promise
  pub is : q ≡ some promise
  pub durable : e.durable ≡ true → promise.durable ≡ true
  pub begun : promise.begun ≡ e.begun
  pub kind : promise.kind ≡ e.kind
  pub bytes : promise.bytes ≡ e.bytes

pub still : {e : Promise} {c : Call} {a : Reply Granted} {m k : ℕ} {o q : Option Promise} → o ≡ some e
    → Fed c a m k o q → (Releases c a m k → q ≡ some (as_begun e) → ⊥) → Still e q
still {e} is same back =
    record { promise = e; is = is; durable = λ h. h; begun = refl; kind = refl; bytes = refl }
still {e} is forced back =
    record { promise = as_durable e; is = rw is refl; durable = λ h. refl; begun = refl; kind = refl; bytes = refl }
still is (given_back x) back = absurd (back x (rw is refl))

pub still_names : {e : Promise} {q : Option Promise} (x : Still e q)
    → names_in x.promise.kind x.promise.bytes ≡ names_in e.kind e.bytes
still_names {e} x = by-fields x.promise e x.kind x.bytes
  where
    by-fields : (f e : Promise) → f.kind ≡ e.kind → f.bytes ≡ e.bytes
        → names_in f.kind f.bytes ≡ names_in e.kind e.bytes
    by-fields f e hk hb = rw (hk, hb)

-- a record with no release begun was one before
pub record Was (o : Option Promise) (p : Promise) : Type 0 where
  pub promise : Promise
  pub is : o ≡ some promise
  pub begun : promise.begun ≡ false
  pub names : names_in promise.kind promise.bytes ≡ names_in p.kind p.bytes

pub was : {c : Call} {a : Reply Granted} {m k : ℕ} {o q : Option Promise} → Fed c a m k o q → (p : Promise)
    → q ≡ some p → p.begun ≡ false → Was o p
was {o = some e} same p is nb =
    let h : e ≡ p = some_inj is in record {
      promise = e;
      is = refl;
      begun = ap (λ (x : Promise). x.begun) h ∙ nb;
      names = ap (λ (x : Promise). names_in x.kind x.bytes) h;
    }
was {o = some e} forced p is nb =
    let h : as_durable e ≡ p = some_inj is in record {
      promise = e;
      is = refl;
      begun = ap (λ (x : Promise). x.begun) h ∙ nb;
      names = ap (λ (x : Promise). names_in x.kind x.bytes) h;
    }
was {o = some e} (given_back x) p is nb =
    let h : as_begun e ≡ p = some_inj is in
    absurd (true≢false (ap (λ (x : Promise). x.begun) h ∙ nb))
was {o = none} same p is nb = absurd (some_not_none is)
was {o = none} forced p is nb = absurd (some_not_none is)
was {o = none} (given_back x) p is nb = absurd (some_not_none is)

-- a call other than a release begins none
abbrev pub gives_back : Call → Bool
gives_back (reserve kind len) = false
gives_back (copy k offset bytes) = false
gives_back (complete k) = false
gives_back (force k frequency) = false
gives_back (release k) = true
gives_back release_all = true
gives_back recover = false

pub begins_none : (c : Call) (a : Reply Granted) (m k : ℕ) → gives_back c ≡ false → Releases c a m k → ⊥
begins_none (reserve kind len) (ok g) m k h x = x
begins_none (copy k' offset bytes) (ok g) m k h x = x
begins_none (complete k') (ok g) m k h x = x
begins_none (force k' frequency) (ok g) m k h x = x
begins_none (release k') (ok g) m k h x = true≢false h
begins_none release_all (ok g) m k h x = true≢false h
begins_none recover (ok g) m k h x = x
begins_none c (refused w) m k h x = x

-- a release all that begins one begins every one
pub begins_all : (a : Reply Granted) (count m k j : ℕ) (log : AbstractLog) (e : Promise) → Releases release_all a m k
    → log j ≡ some e → feed release_all a count m log j ≡ some (as_begun e)
unfolding feed feed_granted
begins_all (ok g) count m k j log e x is = rw (x, is)
begins_all (refused w) count m k j log e x is = absurd x

-- what a call reserves, copies to or completes is not committed
late_refused : (c : Call) (w : Why) (f : ℕ) → Late c (refused w) f
late_refused (reserve kind len) w f = tt
late_refused (copy k offset bytes) w f = tt
late_refused (complete k) w f = tt
late_refused (force k frequency) w f = tt
late_refused (release k) w f = tt
late_refused release_all w f = tt
late_refused recover w f = tt

module _ (s : System) {ran : RunLog} (i : Inv s ran) (words : ℕ) where
  late_held : (c : Call) → is_recover c ≡ false → Knows s.log i.quiet.frame s.image s.state
      → Late c (effect_of c s.state s.image words).reply i.quiet.frame.firm
  late_held c plain (held ag) =
      subst (Late c (effect_of c s.state s.image words).reply) ag.committed_lsn (late c words ag)
  late_held c plain (lost e) =
      subst (λ (o : Effect). Late c o.reply i.quiet.frame.firm)
      (sym (ap (λ (st : State). effect_of c st s.image words) e ∙ none_refused c plain s.image words))
      (late_refused c _ i.quiet.frame.firm)

  pub late_in : (g : GoesOn) (c : Call) → Late c (effect_in s g c words).reply i.quiet.frame.firm
  late_in g (reserve kind len) = late_held (reserve kind len) refl i.knows
  late_in g (copy k offset bytes) = late_held (copy k offset bytes) refl i.knows
  late_in g (complete k) = late_held (complete k) refl i.knows
  late_in g (force k frequency) = late_held (force k frequency) refl i.knows
  late_in g (release k) = late_held (release k) refl i.knows
  late_in g release_all = late_held release_all refl i.knows
  late_in g recover = tt
