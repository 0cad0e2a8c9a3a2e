-- Slip 9, beside AppendThreeSafe: which modules can be read, and so when a recovery of three is granted.
use Rattle.std.specs.Prelude.{◌≡◌, List, [], ◌∷◌, Bool, true, false, not, ◌&&◌, ℕ, ◌-◌, ◌*◌, ◌≤◌, ◌<◌, length}
use Rattle.refusal.specs.Tests.{ok}
use Rattle.layout.specs.Superline.{active_word, no_more_epoch}
use Rattle.journal.specs.Effect.{done, no_state}
use Rattle.journal.specs.Recover.{format_effect}
use Rattle.replicas.specs.RecoverThree.{Slot, how_many, reads_to_end, chosen_image, ops_for, three_effect}
use Rattle.replicas.specs.ThreeReadable.{mending_after, none_mending}
use Rattle.replicas.specs.ThreeSafe.{Drive, replicas_of, formatted_drive}
use Rattle.append_three.specs.AppendThree.{AppendDriveEvent, drive_event, drive_append, append_drive_after, append_drive_after_all, AppendDriveAllFit}

-- whether a repair of a module is begun and not finished: append repairs nothing
unfoldable pub append_mending_after : AppendDriveEvent → Drive → (Slot → Bool) → Slot → Bool
append_mending_after (drive_event e) s before i = mending_after e s before i
append_mending_after (drive_append kind bytes frequency words f fails) s before i = before i

unfoldable pub append_mending_all : List AppendDriveEvent → Drive → (Slot → Bool) → Slot → Bool
append_mending_all [] s before = before
append_mending_all (e ∷ es) s before = append_mending_all es (append_drive_after e s) (append_mending_after e s before)

-- MendedReads with append: a module with no repair begun and not finished can be read to its end
unfoldable pub AppendMendedReads : Type 0
AppendMendedReads =
    (old : List ℕ) (olds : Slot → List ℕ) (words : ℕ) → (format_effect no_state old words).reply ≡ ok done
    → ((i : Slot) → length (olds i) ≡ length old)
    → (es : List AppendDriveEvent) → AppendDriveAllFit es (formatted_drive old olds words)
    → (append_drive_after_all es (formatted_drive old olds words)).lone ≡ false
    → (i : Slot) → append_mending_all es (formatted_drive old olds words) none_mending i ≡ false
    → reads_to_end ((append_drive_after_all es (formatted_drive old olds words)).modules i).image ≡ true

-- TwoMendedGranted with append: with two such present, the chosen epoch not the last one and op buffers enough,
-- recovery is granted
unfoldable pub AppendTwoMendedGranted : Type 0
AppendTwoMendedGranted =
    (old : List ℕ) (olds : Slot → List ℕ) (words : ℕ) → (format_effect no_state old words).reply ≡ ok done
    → ((i : Slot) → length (olds i) ≡ length old)
    → (es : List AppendDriveEvent) → AppendDriveAllFit es (formatted_drive old olds words)
    → (append_drive_after_all es (formatted_drive old olds words)).lone ≡ false
    → (present : Slot → Bool) (room : Slot → ℕ)
    → 2 ≤ how_many (λ i. present i && not (append_mending_all es (formatted_drive old olds words) none_mending i))
    → let c = replicas_of (append_drive_after_all es (formatted_drive old olds words)) present room in
    active_word (chosen_image c) 4 < no_more_epoch - 1
    → ((i : Slot) → 3 * length (ops_for (chosen_image c) (c i)) ≤ room i)
    → (three_effect no_state c).reply ≡ ok done
