use Rattle.std.proofs.Common.{sym, arith}
use Rattle.readout.proofs.WordCalls.{word_few, word_fit, word_given}
use Rattle.optimizer.proofs.Answers.{front_room}
use Rattle.optimizer.proofs.best_profile.Goals as goal

pub overflow_mul-nodes : goal.overflow_mul-nodes
overflow_mul-nodes c = omega (arith, word_few _ _ _ _ c.requires.0 c.args.grid.size c.requires.1.size)

pub overflow_mul-nodes-2 : goal.overflow_mul-nodes-2
overflow_mul-nodes-2 c = omega (arith, word_few _ _ _ _ c.requires.0 c.args.grid.size c.requires.1.size)

pub slice_bounds-label_best-end : goal.slice_bounds-label_best-end
slice_bounds-label_best-end c = word_fit _ _ _ _ c.requires.0 c.args.grid.size c.requires.1.size

pub slice_bounds-label_best-end-2 : goal.slice_bounds-label_best-end-2
slice_bounds-label_best-end-2 c = sym (front_room _ _ (word_fit _ _ _ _ c.requires.0 c.args.grid.size c.requires.1.size))

pub label_best-requires : goal.label_best-requires
label_best-requires c =
    let s = c.requires.1 in
    (word_given _ _ _ _ c.requires.0 c.args.grid.size s.size (front_room _ _ (word_fit _ _ _ _ c.requires.0 c.args.grid.size s.size)), s, c.requires.2)
