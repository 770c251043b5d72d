-- The program on card B: what it prints for a line, and its whole output for an input.
use Rattle.std.specs.Prelude.{◌≡◌}
use Rattle.basics.specs.Words.{refl, [], all_of, pairwise, those, joined, every_below, some_below, numbers_below, occurrences, set_of, product}
use Rattle.machine.specs.Machine.{of_kind, takes, step_among, ending_of, take_one_pair, clash}
use Rattle.machine.specs.Part.{arc_at, arcs_at, machine_of, sound_arc, shaped, part_refusal}
use Rattle.layout.specs.Layout.{due_offset, laid_out, parts_in}
use Rattle.card.specs.Layout.{counted, parts_of}
use Rattle.card.specs.Card.{card_refusal, parts_refusal, machines_of}
use Rattle.ranking.specs.Rankings.{is_ranking}
use Rattle.ranking.specs.Harmony.{harmony}
use Rattle.candidate.specs.Candidates.{pairs_of, bytes_of, spelled, marks_from, is_complete, profile_of}
use Rattle.ranking.specs.ByteStrings.{smaller}
use Rattle.product.specs.Best.{wins_tie, preferred, same_word, pairs_over, lists_below, contenders_among, least_of, best_below, best_of, best_in, best}
use Rattle.product.specs.Answering.{answered, answered_slice}
use Rattle.product.specs.Optimizing.{sound_word, input_refusal}
use Rattle.writing.specs.Text.{text_of, before, after, segments}
use Rattle.writing.specs.Decimal.{digits_within, decimal, value_from}
use Rattle.lines.specs.Parsing.{is_ranking_text, is_symbol_text, symbols_in, parsed_line}
use Rattle.lines.specs.Input.{lines_of}
use Rattle.writing.specs.Writing.{next_count, with_commas, pair_text, pairs_text, accepted_line, line_of, answered_line, total_line, closing_lines}
use Rattle.lesson.specs.Printed.{best_line, printed}
use Rattle.lesson.specs.Tally.{counts_of, shown_machines}
use Rattle.session.specs.Output.{total_of, totals, closing, lesson_output, output}
use Rattle.examples.specs.Cards.{card_b}

pub record ProgramExamples : Type 0 where
  -- the line `021 2`
  pub line : printed card_b (text_of "021 2") ≡ text_of "0,1,0 0:1 2:2\n"
  -- the empty word: a line with no pairs ends after the counts
  pub empty_word : printed card_b (text_of "012 ") ≡ text_of "0,0,0\n"
  -- these lines alone as the input, and no input: what is printed for each line, how many were answered and refused, the totals
  pub lesson_of_line : output card_b (text_of "021 2") ≡ text_of "0,1,0 0:1 2:2\nanswered 1 refused 0\ntotal 0,1,0\n"
  pub lesson_of_empty_word : output card_b (text_of "012 ") ≡ text_of "0,0,0\nanswered 1 refused 0\ntotal 0,0,0\n"
  pub no_input : output card_b [] ≡ text_of "answered 0 refused 0\ntotal 0,0,0\n"
  -- a lesson of two lines
  pub lesson_of_two : output card_b (text_of "012 2\n021 2") ≡ text_of "0,0,1 2:0\n0,1,0 0:1 2:2\nanswered 2 refused 0\ntotal 0,1,1\n"

pub the_program_examples : ProgramExamples
unfolding all_of pairwise those joined every_below some_below numbers_below occurrences set_of of_kind takes step_among ending_of take_one_pair clash arc_at arcs_at machine_of sound_arc shaped part_refusal due_offset laid_out parts_in counted parts_of card_refusal parts_refusal product machines_of is_ranking harmony pairs_of bytes_of spelled marks_from is_complete profile_of smaller wins_tie preferred same_word pairs_over lists_below contenders_among least_of best_below best_of best_in best sound_word input_refusal answered answered_slice before after segments digits_within decimal value_from is_ranking_text is_symbol_text symbols_in parsed_line lines_of next_count with_commas pair_text pairs_text accepted_line line_of answered_line total_line closing_lines best_line counts_of shown_machines total_of totals closing lesson_output
the_program_examples = record { line = refl; empty_word = refl; lesson_of_line = refl; lesson_of_empty_word = refl; no_input = refl; lesson_of_two = refl }
