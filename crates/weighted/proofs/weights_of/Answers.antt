use Rattle.basics.proofs.Words.{◌∙◌, arith, length, rules}
use Rattle.tables.proofs.Counts.{few_counts}
use Rattle.weighted.specs.Laws.Sound.{sound_are}
use Rattle.weighted.proofs.Numbers.{numbers_of, numbers_by}
use Rattle.weighted.proofs.weights_of.Goals as goal

pub write_highs-requires : goal.write_highs-requires
write_highs-requires c =
    let e = (sound_are (length c.args.counts.now) c.args.weights.now c.requires.1).count in (omega (arith, few_counts c.requires.0), omega (arith, few_counts c.requires.0))

pub write_scales-requires : goal.write_scales-requires
write_scales-requires c =
    (c.requires.0, omega (arith, few_counts c.requires.0, c.write_highs.ensures.size))

pub returns : goal.returns
returns c =
    let A = sound_are (length c.args.counts.now) c.args.weights.now c.requires.1 in
    let H = c.write_highs.ensures in
    let S = c.write_scales.ensures in
    (numbers_of c.requires.0 A H S, numbers_by c.requires.0 A H S, S.size ∙ H.size)
