-- Slip 9's promise with append among the calls: the events of ThreeSafe, and append on three modules, with modules
-- absent, ops missed and power failures.
use Rattle.std.specs.Prelude.{◌≡◌, List, [], ◌∷◌, Bool, false, ℕ, length}
use Rattle.crc_spec.specs.Bytes.{AllBytes}
use Rattle.device.specs.Ops.{Op, apply}
use Rattle.refusal.specs.Tests.{Reply, ok, refused}
use Rattle.journal.specs.AbstractLog.{AbstractLog}
use Rattle.journal.specs.Calls.{force}
use Rattle.journal.specs.Effect.{Granted, done, reserved, durable, deferred, Effect, no_state}
use Rattle.journal.specs.Recover.{format_effect}
use Rattle.replicas.specs.RecoverThree.{Slot}
use Rattle.replicas.specs.ThreeSafe.{Module, Drive, Fate, DriveEvent, Part, module_after, Befalls, part_in_call, feed_three, state_left, drive_after, DriveFits, formatted_drive, DriveRecovers}
use Rattle.append.specs.AppendCall.{append_effect}
use Rattle.append.specs.AppendFour.{force_reply}
use Rattle.append.specs.AppendSafe.{feed_recorded}

-- an event of ThreeSafe; or append with kind, bytes, force frequency and an op buffer of so many words, what becomes of
-- each module, and whether power fails
pub data AppendDriveEvent : Type 0 where
  drive_event : DriveEvent → AppendDriveEvent
  drive_append : ℕ → List ℕ → ℕ → ℕ → (Slot → Fate) → Bool → AppendDriveEvent

abbrev pub append_on : Drive → ℕ → List ℕ → ℕ → ℕ → Effect
append_on s kind bytes frequency words = append_effect s.state s.image words kind bytes frequency

-- the abstract log is fed the four calls: reserve, copy and complete, which "count even if cut", and the force, which
-- "counts as kept when two of them .. have carried out its orders": these come last, so two modules in step have
-- carried out all of append's
unfoldable pub feed_appended_three : ℕ → List ℕ → ℕ → Granted → List Op → (Slot → Fate) → (Slot → Module) → AbstractLog
    → AbstractLog
feed_appended_three kind bytes frequency (reserved lsn d) os f m log =
    feed_three (force lsn frequency) (ok (force_reply d)) os f m (feed_recorded kind bytes lsn log)
feed_appended_three kind bytes frequency done os f m log = log
feed_appended_three kind bytes frequency durable os f m log = log
feed_appended_three kind bytes frequency deferred os f m log = log

-- refused it changes nothing
unfoldable pub feed_append_three : ℕ → List ℕ → ℕ → Reply Granted → List Op → (Slot → Fate) → (Slot → Module)
    → AbstractLog → AbstractLog
feed_append_three kind bytes frequency (ok a) os f m log = feed_appended_three kind bytes frequency a os f m log
feed_append_three kind bytes frequency (refused w) os f m log = log

-- a module's part in append is that in a call: in step it gets the ops, and is cut where power fails or it misses some
abbrev pub append_part : Drive → ℕ → List ℕ → ℕ → ℕ → (Slot → Fate) → Bool → Slot → Part
append_part s kind bytes frequency words f fails i =
    part_in_call (append_on s kind bytes frequency words).ops fails (f i) (s.modules i)

unfoldable pub append_drive_after : AppendDriveEvent → Drive → Drive
append_drive_after (drive_event e) s = drive_after e s
append_drive_after (drive_append kind bytes frequency words f fails) s =
    let o = append_on s kind bytes frequency words in record {
      image = apply o.ops s.image;
      state = state_left fails o.state;
      log = feed_append_three kind bytes frequency o.reply o.ops f s.modules s.log;
      down = fails;
      lone = s.lone;
      modules = λ i. module_after (append_part s kind bytes frequency words f fails i) (f i) (s.modules i);
    }

-- append only while not down; each module's fate is one that may befall it
abbrev pub AppendDriveFits : AppendDriveEvent → Drive → Type 0
AppendDriveFits (drive_event e) s = DriveFits e s
AppendDriveFits (drive_append kind bytes frequency words f fails) s =
    AllBytes bytes × (s.down ≡ false)
    × ((i : Slot) → Befalls (append_part s kind bytes frequency words f fails i) (f i) (s.modules i))

unfoldable pub append_drive_after_all : List AppendDriveEvent → Drive → Drive
append_drive_after_all [] s = s
append_drive_after_all (e ∷ es) s = append_drive_after_all es (append_drive_after e s)

unfoldable pub AppendDriveAllFit : List AppendDriveEvent → Drive → Type 0
AppendDriveAllFit [] s = Unit {0}
AppendDriveAllFit (e ∷ es) s = AppendDriveFits e s × AppendDriveAllFit es (append_drive_after e s)

-- Slip 9 with append: after every list of such events on three modules freshly formatted, unless a recovery left its
-- raised epoch on exactly one, the next recovery owes what it owes in ThreeSafe
unfoldable pub AppendThreeSafe : Type 0
AppendThreeSafe =
    (old : List ℕ) (olds : Slot → List ℕ) (words : ℕ) → (format_effect no_state old words).reply ≡ ok done
    → ((i : Slot) → length (olds i) ≡ length old)
    → (es : List AppendDriveEvent) → AppendDriveAllFit es (formatted_drive old olds words)
    → (append_drive_after_all es (formatted_drive old olds words)).lone ≡ false
    → DriveRecovers (append_drive_after_all es (formatted_drive old olds words))
