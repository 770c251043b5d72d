use Rattle.std.specs.Prelude.{◌&&◌}
use Rattle.basics.proofs.Words.{ap, subst, ◌∙◌, Bool, not, ℕ}
use lib.Bits.{bit_and}
use Rattle.joined.specs.CommonPairs.{HasPair}
use Rattle.joined.specs.Laws.CommonPairs.{common_by_sets}
use Rattle.joined.proofs.share_pair.Goals as goal

pub returns : goal.returns
returns c =
    let a = c.args.first in
    let b = c.args.second in
    let I = bit_and a.inputs b.inputs in
    let O = bit_and a.outputs b.outputs in
    let r = c.has_pair.result in
    ap (λ (x : Bool). not x && r) c.kinds_clash-clash.ensures
    ∙ common_by_sets a b r (subst (λ (n : ℕ). HasPair n I O r) c.joined_kind.ensures c.has_pair.ensures)
