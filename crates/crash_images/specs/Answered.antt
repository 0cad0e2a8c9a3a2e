-- What a call about crash images answers, a number or why it declines, as a reply.
use Rattle.std.specs.Prelude.{ℕ, Result, Ok, Err}
use Rattle.refusal.specs.Tests.{Reply, ok, refused}
use Rattle.refusal.specs.Refusals.{why_of}
use Rattle.refusal.specs.declared.Refusal.{Refusal}

abbrev pub answered : Result ℕ Refusal → Reply ℕ
answered (Ok n) = ok n
answered (Err r) = refused (why_of r)
