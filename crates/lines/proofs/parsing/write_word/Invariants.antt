use Rattle.std.specs.Prelude.{◌≡◌, ◌+◌, ◌≤◌}
use Rattle.basics.proofs.Words.{true, map, length, sets, all_of}
use Rattle.writing.specs.Text.{comma, segments}
use Rattle.writing.specs.Decimal.{value_of}
use Rattle.lines.specs.Parsing.{is_symbol_text, symbols_in}
use Rattle.lines.proofs.parsing.write_word.Given as goal

abbrev pub invariant-loop-rest : goal.invariant-loop-rest
invariant-loop-rest l = (length l.rest ≤ length l.text)
    × (length l.word ≡ length l.initial.word)
    × (all_of is_symbol_text (segments comma l.rest) ≡ true)
    × (l.count + length (segments comma l.rest) ≡ length (symbols_in l.text))
    × (sets l.word l.count (map value_of (segments comma l.rest)) ≡ sets l.initial.word 0 (map value_of (symbols_in l.text)))

abbrev pub decreases-loop-rest : goal.decreases-loop-rest
decreases-loop-rest l = length l.rest
