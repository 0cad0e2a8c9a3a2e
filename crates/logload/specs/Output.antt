-- What logload writes of the text that it reads.
-- Cites Loading.antt and LoadImage.antt of load_image, Bytes.antt of crc_spec, and Lines.antt of list_lines.
use Rattle.std.specs.Prelude.{List, ℕ}
use Rattle.refusal.specs.Tests.{Reply, ok, refused}
use Rattle.crc_spec.specs.Bytes.{word_bytes}
use Rattle.list_lines.specs.Lines.{refused_line}
use Rattle.load_image.specs.Loading.{loading}
use Rattle.load_image.specs.LoadImage.{built_of}

-- the bytes of an image's words, or the line of a refusal
abbrev pub reply_bytes : Reply (List ℕ) → List ℕ
reply_bytes (ok image) = word_bytes image
reply_bytes (refused w) = refused_line w.number

-- of a listing's text: the bytes of the image of what it lists, or the line of its refusal
unfoldable pub loaded_bytes : List ℕ → List ℕ
loaded_bytes text = reply_bytes (built_of (loading text))
