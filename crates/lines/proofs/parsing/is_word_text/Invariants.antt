use Rattle.std.specs.Prelude.{◌≡◌, ◌≤◌}
use Rattle.basics.proofs.Words.{length, all_of}
use Rattle.writing.specs.Text.{comma, segments}
use Rattle.lines.specs.Parsing.{is_symbol_text, is_word_text}
use Rattle.lines.proofs.parsing.is_word_text.Given as goal

abbrev pub invariant-loop-rest : goal.invariant-loop-rest
invariant-loop-rest l = (length l.rest ≤ length l.text) × (all_of is_symbol_text (segments comma l.rest) ≡ is_word_text l.text)

abbrev pub decreases-loop-rest : goal.decreases-loop-rest
decreases-loop-rest l = length l.rest
