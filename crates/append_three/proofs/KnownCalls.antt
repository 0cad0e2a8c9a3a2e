-- Calls on three modules whose effect is known, and those that every module in step carries out whole.
-- Cites ThreeSafe.antt of replicas and CallStep.antt of its proofs.
use mathlib.Core.Path.{◌≡◌, refl, ◌∙◌, sym, subst}
use mathlib.Core.List.{List, []}
use mathlib.Core.Bool.{Bool, true, false, cond, true≢false}
use Prim.Native.Nat.{ℕ}
use native.Mathlib.Nat.{le_refl}
use lib.ListN.{length}
use borrow.Author.Tests.{eq-eqb}
use Rattle.device.specs.Ops.{Op, apply}
use Rattle.journal.specs.Calls.{Call}
use Rattle.journal.specs.CrashSafe.{is_recover, Typed}
use Rattle.journal.specs.Effect.{Effect}
use Rattle.replicas.specs.RecoverThree.{Slot, reads_to_end}
use Rattle.replicas.specs.ThreeSafe.{Module, Drive, Fate, carried_out, module_after, Befalls, part_in_call, feed_three, call_in, state_left, drive_after}
use Rattle.replicas.proofs.CallStep.{stands_call, reads_call}
use Rattle.replicas.proofs.Standing.{Standing}
use Rattle.append_three.proofs.NarrowLaws.{Narrows, with_modules, narrow-stands, narrow-reads}

-- t stands, and a module that could be read in s can be read in it
pub record Kept (s t : Drive) : Type 0 where
  pub stands : Standing t
  pub reads : (i : Slot) → reads_to_end (s.modules i).image ≡ true → reads_to_end (t.modules i).image ≡ true

pub kept_on : {s t u : Drive} → Kept s t → Kept t u → Kept s u
kept_on a b = record { stands = b.stands; reads = λ i r. b.reads i (a.reads i r) }

pub kept_is : {s t u : Drive} → Kept s t → t ≡ u → Kept s u
kept_is {s} k e = subst (Kept s) e k

pub kept_narrow : (s : Drive) → Standing s → (ms : Slot → Module) → ((i : Slot) → Narrows (s.modules i) (ms i))
    → Kept s (with_modules ms s)
kept_narrow s st ms ns = record { stands = narrow-stands s ms st ns; reads = narrow-reads s ms st ns }

-- the drive after a call with this effect
abbrev pub after_as : Call → Effect → (Slot → Fate) → Bool → Drive → Drive
after_as c o f fails s = record {
  image = apply o.ops s.image;
  state = state_left fails o.state;
  log = feed_three c o.reply o.ops f s.modules s.log;
  down = fails;
  lone = s.lone;
  modules = λ i. module_after (part_in_call o.ops fails (f i) (s.modules i)) (f i) (s.modules i);
}

-- a module in step with all ops carried out; any other as it is
abbrev pub whole_on : List Op → Module → Module
whole_on os m = cond m.is_in_step (carried_out os m) m

abbrev wholly : List Op → Fate
wholly os = record { carried = length os; left = [] }

whole_moved : (os : List Op) (m : Module)
    → module_after (part_in_call os false (wholly os) m) (wholly os) m ≡ whole_on os m
unfolding module_after
whole_moved os m = rw (eq-eqb (length os) (length os) refl)

-- the drive after a call that every module in step carries out
abbrev pub after_whole : Call → Effect → Drive → Drive
after_whole c o s = with_modules (λ i. whole_on o.ops (s.modules i)) (after_as c o (λ i. wholly o.ops) false s)

module _ (s : Drive) (st : Standing s) (up : s.down ≡ false) (c : Call) (ty : Typed c)
    (other : is_recover c ≡ false) (words : ℕ) (o : Effect) (e : call_in s c words ≡ o) where
  pub kept_call : (f : Slot → Fate) (fails : Bool)
      → ((i : Slot) → Befalls (part_in_call o.ops fails (f i) (s.modules i)) (f i) (s.modules i))
      → Kept s (after_as c o f fails s)
  unfolding drive_after
  kept_call f fails = subst
      (λ (x : Effect). ((i : Slot) → Befalls (part_in_call x.ops fails (f i) (s.modules i)) (f i) (s.modules i))
      → Kept s (after_as c x f fails s)) e
      (λ fits. record {
        stands = stands_call s st c words f fails (ty, other, up, fits);
        reads = reads_call s st c words f fails (ty, other, up, fits);
      })

  pub kept_whole : Kept s (after_whole c o s)
  kept_whole = kept_is (kept_call (λ i. wholly o.ops) false
      (λ i t. (le_refl _, λ w. absurd (true≢false (sym (eq-eqb (length o.ops) (length o.ops) refl) ∙ w)))))
      (λ t. with_modules (λ i. whole_moved o.ops (s.modules i) t) (after_as c o (λ i. wholly o.ops) false s))
