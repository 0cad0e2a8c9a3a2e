-- A table in a slice, the oldest entry first: turns of the loops over it.
use mathlib.Core.Path.{◌≡◌, ◌∙◌, ap}
use mathlib.Core.List.{List, [], ◌∷◌, ◌++◌, append_assoc, reverse}
use Prim.Native.Nat.{ℕ, suc, ◌+◌, ◌/◌, ◌%◌, ◌<◌}
use lib.ListN.{length, get_or, set, take}
use lib.Seq.{take-suc-set}
use Rattle.std.proofs.lemmas.List.{take_more, take_more_set, reverse-append}
use Rattle.crash_images.specs.declared.Entry.{Entry}
use Rattle.crash_images.specs.InnerSteps.{entries_of, values_of, words_by}

-- the first entries, the newest first: one more of them, and one put after them
pub newest_turn : (xs : List Entry) (j : ℕ) (d : Entry) → j < length xs
    → reverse (take (j + 1) xs) ≡ get_or xs j d ∷ reverse (take j xs)
newest_turn xs j d h = ap reverse (take_more xs j d h) ∙ reverse-append (take j xs) (get_or xs j d ∷ [])

pub newest_put : (xs : List Entry) (i : ℕ) (e : Entry) → i < length xs
    → reverse (take (i + 1) (set xs i e)) ≡ e ∷ reverse (take i xs)
newest_put xs i e h = ap reverse (take_more_set xs i e h) ∙ reverse-append (take i xs) (e ∷ [])

-- a turn of the loop that fills the buffer: x is put at word w, and r words are left
pub fill_turn : (flushed : ℕ → ℕ) (t : List Entry) (buffer : List ℕ) (w r m x : ℕ) → w < length buffer
    → x ≡ get_or (flushed w ∷ values_of w t) (m % (1 + entries_of w t)) 0
    → take (suc w) (set buffer w x) ++ words_by flushed t (suc w) r (m / (1 + entries_of w t))
    ≡ take w buffer ++ words_by flushed t w (suc r) m
unfolding words_by
fill_turn flushed t buffer w r m x h e = rw (take-suc-set buffer w x h, ← e)
    (append_assoc (take w buffer) (x ∷ []) (words_by flushed t (suc w) r (m / (1 + entries_of w t))))
