-- At each turn the bytes so far are put, in hex.
use Rattle.std.proofs.Common.{◌≡◌, take, ◌+◌, ◌*◌}
use Rattle.text.specs.Text.{Appended, hex_text}
use Rattle.text.proofs.put_hex.Given as goal

abbrev pub invariant-loop-b : goal.invariant-loop-b
invariant-loop-b l = record {
  text : Appended l.at l.end l.initial.out l.out (hex_text (take l.b-index l.bytes));
  end_at : l.end ≡ l.at + 2 * l.b-index;
}
