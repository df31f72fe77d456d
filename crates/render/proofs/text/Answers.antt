-- The answers for `text`: a copy into the buffer's part.
use Rattle.std.proofs.Common.{refl, ◌∙◌, arith}
use Rattle.std.proofs.lemmas.Slice.{put_mid-paste}
use Rattle.render.specs.WrittenLaws.{written_is}
use Rattle.render.proofs.text.Goals as goal

pub returns : goal.returns
returns c = (refl, put_mid-paste _ _ _ _ _ _ c.copy_from_slice.ensures.after (omega arith) refl ∙ written_is _ _ _ c.requires)
