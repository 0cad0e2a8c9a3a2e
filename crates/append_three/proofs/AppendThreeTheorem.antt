-- Slip 9 with append among the calls: three modules freshly formatted, any list of calls, appends and recoveries.
-- Cites specs/AppendThree.antt and AppendReadable.antt, and AppendStep.antt; ThreeTheorem.antt and ReadableTheorem.antt
-- of replicas.
use mathlib.Core.Path.{◌≡◌}
use mathlib.Core.List.{List, [], ◌∷◌}
use mathlib.Core.Bool.{Bool, false}
use Rattle.replicas.specs.RecoverThree.{Slot}
use Rattle.replicas.specs.ThreeReadable.{none_mending}
use Rattle.replicas.specs.ThreeSafe.{Drive, formatted_drive}
use Rattle.replicas.proofs.Choice.{stood_lists}
use Rattle.replicas.proofs.ReadableTheorem.{ReadsBut, reads_after, stands_first, reads_first, stood_granted}
use Rattle.replicas.proofs.Standing.{Stands, Stood}
use Rattle.replicas.proofs.ThreeTheorem.{lone_after, stands_after}
use Rattle.append_three.specs.AppendReadable.{append_mending_after, append_mending_all, AppendMendedReads, AppendTwoMendedGranted}
use Rattle.append_three.specs.AppendThree.{AppendDriveEvent, drive_event, drive_append, append_drive_after, AppendDriveFits, append_drive_after_all, AppendDriveAllFit, AppendThreeSafe}
use Rattle.append_three.proofs.AppendStep.{stood_append}

-- ---------------------------------------------------------------- one event
stands_event : (e : AppendDriveEvent) (s : Drive) → Stands s → AppendDriveFits e s → Stands (append_drive_after e s)
unfolding append_drive_after
stands_event (drive_event e) s st fits h = stands_after e s st fits h
stands_event (drive_append kind bytes frequency words f fails) s st fits h =
    (stood_append s (st h) kind bytes frequency words f fails fits).stood

lone_event : (e : AppendDriveEvent) (s : Drive) → (append_drive_after e s).lone ≡ false → s.lone ≡ false
unfolding append_drive_after
lone_event (drive_event e) s h = lone_after e s h
lone_event (drive_append kind bytes frequency words f fails) s h = h

reads_event : (e : AppendDriveEvent) (s : Drive) (mending : Slot → Bool) → Stood s → AppendDriveFits e s
    → ReadsBut mending s → ReadsBut (append_mending_after e s mending) (append_drive_after e s)
unfolding append_drive_after append_mending_after
reads_event (drive_event e) s mending st fits r = reads_after e s mending st fits r
reads_event (drive_append kind bytes frequency words f fails) s mending st fits r = λ i h.
    (stood_append s st kind bytes frequency words f fails fits).reads i (r i h)

-- ---------------------------------------------------------------- lists of events
stands_events : (es : List AppendDriveEvent) (s : Drive) → Stands s → AppendDriveAllFit es s
    → Stands (append_drive_after_all es s)
unfolding append_drive_after_all AppendDriveAllFit
stands_events [] s st fits = st
stands_events (e ∷ es) s st fits =
    stands_events es (append_drive_after e s) (stands_event e s st fits.0) fits.1

lone_events : (es : List AppendDriveEvent) (s : Drive) → (append_drive_after_all es s).lone ≡ false → s.lone ≡ false
unfolding append_drive_after_all
lone_events [] s h = h
lone_events (e ∷ es) s h = lone_event e s (lone_events es (append_drive_after e s) h)

reads_events : (es : List AppendDriveEvent) (s : Drive) (mending : Slot → Bool) → Stands s → AppendDriveAllFit es s
    → (append_drive_after_all es s).lone ≡ false → ReadsBut mending s
    → ReadsBut (append_mending_all es s mending) (append_drive_after_all es s)
unfolding append_drive_after_all AppendDriveAllFit append_mending_all
reads_events [] s mending st fits lone r = r
reads_events (e ∷ es) s mending st fits lone r =
    reads_events es (append_drive_after e s) (append_mending_after e s mending) (stands_event e s st fits.0) fits.1
    lone (reads_event e s mending (st (lone_events (e ∷ es) s lone)) fits.0 r)

-- ---------------------------------------------------------------- the theorems
pub append_three_safe : AppendThreeSafe
unfolding AppendThreeSafe
append_three_safe old olds words granted same es fits lone =
    stood_lists (append_drive_after_all es (formatted_drive old olds words))
    (stands_events es (formatted_drive old olds words) (stands_first old olds words granted same) fits lone)

pub append_mended_reads : AppendMendedReads
unfolding AppendMendedReads
append_mended_reads old olds words granted same es fits lone =
    reads_events es (formatted_drive old olds words) none_mending (stands_first old olds words granted same) fits lone
    (reads_first old olds words granted same)

pub append_two_mended_granted : AppendTwoMendedGranted
unfolding AppendTwoMendedGranted AppendMendedReads
append_two_mended_granted old olds words granted same es fits lone =
    stood_granted (append_drive_after_all es (formatted_drive old olds words))
    (stands_events es (formatted_drive old olds words) (stands_first old olds words granted same) fits lone)
    (append_mending_all es (formatted_drive old olds words) none_mending)
    (append_mended_reads old olds words granted same es fits lone)
