use Rattle.basics.specs.Words.{arith}
use Rattle.stage_entering.proofs.Listing.{count_ready, codes_few, listed_of}
use Rattle.stage_entering.proofs.pairs.list_insertions.Goals as goal

pub prepare-kept-requires : goal.prepare-kept-requires
prepare-kept-requires c =
    let Q = c.requires.0 in
    let w = Q.groups.states_are in
    record { accepted = Q.accepted; counts_are = Q.counts_are; input = omega arith; width = w; room = omega (arith, Q.room, w) }

pub count-requires : goal.count-requires
count-requires c =
    (c.requires.1, count_ready c.requires.0 c.prepare-kept.ensures, omega (arith, c.requires.0.few, c.requires.3), omega (arith, c.requires.0.few, c.requires.4))

pub list-requires : goal.list-requires
list-requires c =
    let n = c.count.ensures.0 in
    (count_ready c.requires.0 c.prepare-kept.ensures, n, omega (arith, n.few, codes_few c.requires.0, c.requires.2), omega (arith, c.requires.0.few, c.count.auto.high, c.requires.3), omega (arith, c.requires.0.few, c.count.auto.low, c.requires.4))

pub returns : goal.returns
returns c =
    λ ranking R six. listed_of c.requires.0 c.prepare-kept.ensures c.list.ensures ranking R six
