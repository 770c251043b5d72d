use Rattle.std.specs.Prelude.{◌≡◌, ◌≤◌}
use Rattle.basics.proofs.Words.{length, drop, all_of}
use Rattle.product.specs.Optimizing.{sound_word}
use Rattle.product.proofs.Words.{symbol}
use Rattle.product.proofs.check_word.Given as goal

abbrev pub invariant-loop-byte : goal.invariant-loop-byte
invariant-loop-byte l = (l.byte-index ≤ length l.word) × (all_of (symbol l.symbols) (drop l.byte-index l.word) ≡ sound_word l.symbols l.word)
