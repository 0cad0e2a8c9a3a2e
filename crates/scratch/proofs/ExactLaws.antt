-- Vetting says what the sentence says: exactly the ops of the kind are passed, and refusal 21 names the lowest other.
-- Cites specs/VetExact.antt, and ReadOpsLaws.antt of device.
use mathlib.Core.Path.{◌≡◌, refl, sym, ap, subst}
use mathlib.Core.List.{List}
use mathlib.Core.Bool.{Bool, true, false, cond, not}
use mathlib.Core.Option.{Option, none, some}
use Prim.Native.Nat.{ℕ}
use native.Mathlib.Omega.{arith}
use lib.ListN.{length}
use borrow.Author.Tests.{not-false}
use Rattle.device.specs.ReadOps.{ops_of, first_other, OtherAt}
use Rattle.device.proofs.ReadOpsLaws.{all_laid, none_other, lowest_other}
use Rattle.refusal.specs.declared.Why.{Why}
use Rattle.refusal.specs.Tests.{because, Reply, ok, refused, decide, op_test}
use Rattle.refusal.proofs.TestLaws.{end, and, first_passes, rest_pass, all_granted, answered, op_test_passes}
use Rattle.state.specs.Sound.{is_sound}
use Rattle.journal.specs.Effect.{image_ok}
use Rattle.scratch.specs.Vet.{is_free_word, passes, vet_tests, vet}
use Rattle.scratch.specs.VetExact.{FreeWord, MayPass, PassedExactly, OtherExactly}
use Rattle.scratch.proofs.FreeLaws.{is_free, free_is}

pub passed_exactly : PassedExactly
unfolding PassedExactly vet
passed_exactly s image given = (to, from)
  where
    n : ℕ
    n = length image

    granted : Reply ℕ
    granted = ok (length (ops_of given))

    to : decide (vet_tests s image given) refused granted ≡ granted → MayPass s image given
    to h =
        let ps = (answered (vet_tests s image given) granted (length (ops_of given)) h).0 in
        let g = all_laid (is_free_word s n) (FreeWord s n) (is_free s n) (free_is s n) n 0 given
        (op_test_passes (first_other (passes s n) 0 given) (first_passes (rest_pass (rest_pass ps)))) in
        record {
          sized = not-false _ (first_passes ps);
          sound = not-false _ (first_passes (rest_pass ps));
          words = g.same;
          inside = g.inside;
        }

    from : MayPass s image given → decide (vet_tests s image given) refused granted ≡ granted
    from m =
        let w : first_other (passes s n) 0 given ≡ none =
        subst (λ (t : List ℕ). first_other (passes s n) 0 t ≡ none) (sym m.words)
        (none_other (is_free_word s n) (FreeWord s n) (is_free s n) (free_is s n) n 0 (ops_of given) m.inside) in
        all_granted (vet_tests s image given) refused granted
        (and (rw m.sized) (and (rw m.sound) (and (rw w) end)))

why_same : {v w : Why} → ◌≡◌ {A = Reply ℕ} (refused v) (refused w) → v ≡ w
why_same q = cc

pub other_exactly : OtherExactly
unfolding OtherExactly vet
other_exactly s image given i h =
    go (image_ok n s.area) refl (is_sound s) refl (first_other (passes s n) 0 given) refl h
  where
    n : ℕ
    n = length image

    number : {v w : Why} → ◌≡◌ {A = Reply ℕ} (refused v) (refused w) → v.number ≡ w.number
    number q = ap (λ (x : Why). x.number) (why_same q)

    go : (x : Bool) → image_ok n s.area ≡ x → (y : Bool) → is_sound s ≡ y
        → (o : Option ℕ) → first_other (passes s n) 0 given ≡ o
        → cond (not x) (refused (because 1 0)) (cond (not y) (refused (because 2 0))
        (cond (op_test o).fails (refused (op_test o).why) (ok (length (ops_of given))))) ≡ refused (because 21 i)
        → (image_ok n s.area ≡ true) × (is_sound s ≡ true) × OtherAt (FreeWord s n) n i given
    go false e y f o g q = absurd (let z : ◌≡◌ {A = ℕ} 1 21 = number q in omega arith)
    go true e false f o g q = absurd (let z : ◌≡◌ {A = ℕ} 2 21 = number q in omega arith)
    go true e true f none g q = absurd (let z : ◌≡◌ {A = ℕ} 0 1 = cc in omega arith)
    go true e true f (some j) g q =
        let l = lowest_other (is_free_word s n) (FreeWord s n) (is_free s n) (free_is s n) n 0 j given g in
        let same : l.far ≡ i =
        (let z : j ≡ i = ap (λ (x : Why). x.detail) (why_same q) in let y = l.sum in omega arith) in
        (e, f, subst (λ (x : ℕ). OtherAt (FreeWord s n) n x given) same l.at)
