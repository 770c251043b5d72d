use Rattle.std.specs.Prelude.{◌&&◌}
use Rattle.basics.proofs.Words.{ap, Bool, length, leb}
use Rattle.lines.specs.Parsing.{is_ranking_text}
use Rattle.lines.proofs.parsing.is_ranking_text.Goals as goal

pub returns : goal.returns
unfolding is_ranking_text
returns c = let l = c.args.text.now in ap (λ (t : Bool). leb 1 (length l) && leb (length l) 9 && t) c.are_digits.ensures
