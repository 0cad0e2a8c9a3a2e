-- What a table has room for, and how many images one entry more makes.
-- Cites InnerSteps.antt of crash_images.
use Rattle.std.specs.Prelude.{ℕ, ◌+◌, ◌*◌, ◌/◌}

-- the entries that a table has room for
abbrev pub table_room : ℕ
table_room = 90

-- how many images there are with one more entry of a word that has c of them
abbrev pub more_images : ℕ → ℕ → ℕ
more_images images c = images / (1 + c) * (2 + c)
