-- Cites specs/Text.antt and AppendLaws.antt.
use native.Mathlib.Omega.{arith}
use Rattle.text.specs.Text.{hex_text}
use Rattle.text.proofs.AppendLaws.{appended_none, hex_more}
use Rattle.text.proofs.put_hex.Goals as goal

pub loop-b-init : goal.loop-b-init
unfolding hex_text
loop-b-init c = record { text = appended_none _ _; end_at = omega arith }

pub loop-b-preserved : goal.loop-b-preserved
loop-b-preserved c = record {
  text =
      hex_more _ _ _ c.loop-b.invariant.text c.loop-b-test.true (omega arith) c.hex_digit.ensures
      c.hex_digit-in-loop-b.ensures;
  end_at = omega arith;
}
