-- What a program writes, told by what its reader had: `got` is what it read, the first bytes of those.
use Rattle.std.proofs.Common.{◌≡◌, ℕ, List, Option, None, Some, Result, Ok, Err, OnOk, IfSome, subst, take}
use Rattle.std.specs.Io.KnownBytes.{Appends}

pub written : {A E : Type 0} (r : Result A E) (known old new : Option (List ℕ)) (text : List ℕ → List ℕ) (k : ℕ)
    (got : List ℕ)
    → IfSome known (λ xs. got ≡ take k xs) → OnOk r (Appends old new (text got))
    → OnOk r (IfSome known (λ xs. Appends old new (text (take k xs))))
written (Ok a) None old new text k got first p = tt
written (Ok a) (Some xs) old new text k got first p = subst (λ bytes. Appends old new (text bytes)) first p
written (Err e) known old new text k got first p = tt
