use Rattle.std.specs.Prelude.{◌&&◌}
use Rattle.basics.proofs.Words.{ap₂, ◌∙◌, Bool}
use Rattle.joined.proofs.Parts.{no_marks}
use Rattle.joined.proofs.has_no_marks.Goals as goal

pub returns : goal.returns
returns c = ap₂ (λ (x y : Bool). x && y) c.arcs_are_free.ensures c.endings_are_free.ensures ∙ no_marks c.args.part.now
