-- `render::glyph` meets its contract.
use Rattle.num.specs.Choose.{choose}
use Rattle.render.proofs.glyph.Goals as goal

pub returns-then-d-lt10 : goal.returns-then-d-lt10
returns-then-d-lt10 c = search choose

pub returns-else-d-lt10 : goal.returns-else-d-lt10
returns-else-d-lt10 c = search choose
