use Rattle.std.specs.Prelude.{◌≡◌, ◌/◌}
use Rattle.basics.proofs.Words.{ap, ◌∙◌, [], joined, arith, length}
use Rattle.writing.specs.Writing.{pairs_text}
use Rattle.writing.proofs.Writes.{ahead_start, ahead_end, ahead_next}
use Rattle.writing.proofs.Texts.{joined_room, joined_next, joined_end, chunk_text, chunks_pairs}
use Rattle.writing.proofs.answers.write_pairs.Goals as goal

pub loop-input-init : goal.loop-input-init
loop-input-init c =
    let e : joined chunk_text c.as_chunks.result.0.now ≡ pairs_text c.args.bytes.now =
    ap (joined chunk_text) c.as_chunks.ensures.front ∙ chunks_pairs (length c.args.bytes.now / 2) c.args.bytes.now (omega arith) (omega arith) in
    rw e (ahead_start (pairs_text c.args.bytes.now) c.args.at c.args.out.now)

pub write_pair-next-requires : goal.write_pair-next-requires
write_pair-next-requires c = joined_room chunk_text _ _ [] c.loop-input-test.true c.loop-input.invariant c.requires

pub loop-input-preserved : goal.loop-input-preserved
loop-input-preserved c =
    ahead_next _ _ (joined_next chunk_text _ _ [] c.loop-input-test.true) c.loop-input.invariant c.write_pair-next.ensures

pub returns : goal.returns
returns c = ahead_end (joined_end chunk_text _ _ c.loop-input-test.false) c.loop-input.invariant
