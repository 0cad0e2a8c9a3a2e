-- `logload::load_whole` meets its contract: an image of 8,192 words is loaded whatever words it has.
use Rattle.std.proofs.Common.{arith, refl, ap, ◌∙◌, ◌≡◌, length}
use Rattle.std.proofs.lemmas.Bool.{eq-eqb}
use Rattle.load_image.specs.LoadImage.{load, built_of}
use Rattle.load_image.specs.Loading.{loading}
use Rattle.logload.specs.Output.{reply_bytes, loaded_bytes}
use Rattle.logload.proofs.load_whole.Goals as goal

pub returns : goal.returns
unfolding load loaded_bytes
returns c =
    let image = c.args.image.now in
    let size : length image ≡ 8192 = omega arith in
    let loads : load c.args.input.now image ≡ built_of (loading c.args.input.now) =
    rw (eq-eqb (length image) 8192 size) refl in
    ap reply_bytes (c.load_text.ensures.0 ∙ loads)
