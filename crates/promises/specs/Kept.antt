-- Every promise is kept: for each field of `Promises` the theorem that shows it. `f.met` is the proof of the contract of f.
use Rattle.ranking.proofs.harmony.compare.Met as compare
use Rattle.ranking.proofs.conditions.derive.Met as derive
use Rattle.finder.proofs.find.Met as find
use Rattle.card.proofs.read_part.Met as read_part
use Rattle.card.proofs.pack.Met as pack
use Rattle.candidate.proofs.evaluate.Met as evaluate
use Rattle.optimizer.proofs.optimize.Met as optimize
use Rattle.cull.proofs.cull.Met as cull
use Rattle.optimizer.proofs.optimize_sets.Met as optimize_sets
use Rattle.cull.proofs.cull_sets.Met as cull_sets
use Rattle.weights.proofs.optimize.Met as optimize_weights
use Rattle.tableau.proofs.judge.Met as judge
use Rattle.join.proofs.join.Met as join
use Rattle.live.proofs.add.Met as add_row
use Rattle.live.proofs.remove.Met as remove_row
use Rattle.live.proofs.leader.Met as leader
use Rattle.pastaspur.proofs.pastaspur_optimize.Met as c_optimize
use Rattle.pastaspur.proofs.pastaspur_cull.Met as c_cull
use Rattle.pastaspur.proofs.pastaspur_optimize_sets.Met as c_optimize_sets
use Rattle.pastaspur.proofs.pastaspur_cull_sets.Met as c_cull_sets
use Rattle.pastaspur.proofs.pastaspur_optimize_weights.Met as c_optimize_weights
use Rattle.pastaspur.proofs.pastaspur_evaluate.Met as c_evaluate
use Rattle.pastaspur.proofs.pastaspur_read_part.Met as c_read_part
use Rattle.pastaspur.proofs.pastaspur_pack.Met as c_pack
use Rattle.pastaspur.proofs.pastaspur_compare.Met as c_compare
use Rattle.pastaspur.proofs.pastaspur_condition.Met as c_condition
use Rattle.pastaspur.proofs.pastaspur_find_ranking.Met as c_find_ranking
use Rattle.pastaspur.proofs.pastaspur_judge.Met as c_judge
use Rattle.pastaspur.proofs.pastaspur_join.Met as c_join
use Rattle.pastaspur.proofs.pastaspur_add_row.Met as c_add_row
use Rattle.pastaspur.proofs.pastaspur_remove_row.Met as c_remove_row
use Rattle.pastaspur.proofs.pastaspur_leader.Met as c_leader
use Rattle.symbols.proofs.sets.set_of.Met as set_of_lem
use Rattle.lesson.proofs.answer_next.Met as answer_next
use Rattle.lesson.proofs.write_closing.Met as write_closing
use Rattle.pieces.proofs.answer_piece.Met as answer_piece
use Rattle.pieces.proofs.finish.Met as finish
use Rattle.ranking.specs.HarmonicInequality as harmonic-inequality
use Rattle.ranking.specs.DecidingMachine as deciding-machine
use Rattle.ranking.specs.ViolationSemiring as semiring
use Rattle.ranking.specs.ConditionMeaning as condition-meaning
use Rattle.finder.specs.FinderTheorems as finder
use Rattle.machine.specs.Steps as steps
use Rattle.machine.specs.OldStates as machine_states
use Rattle.machine.specs.OldArcs as machine-arcs
use Rattle.machine.specs.SameAndDifferent as kinds
use Rattle.card.specs.RoundTrip as round_trip
use Rattle.card.specs.Accepted as card-accepted
use Rattle.card.specs.OldStates as card-states
use Rattle.card.specs.OldArcs as card-arcs
use Rattle.candidate.specs.ProfileMerge as profile-merge
use Rattle.candidate.specs.OldCards as old_cards
use Rattle.candidate.specs.OldArcs as old-arcs
use Rattle.candidate.specs.BaseCards as base-cards
use Rattle.candidate.specs.EmptyWord as empty_word
use Rattle.product.proofs.BestTheorem as best-theorem
use Rattle.product.proofs.SetsTheorem as sets-theorem
use Rattle.product.specs.DominanceTheorem as dominance-theorem
use Rattle.optimizer.specs.Demand3 as demand3
use Rattle.optimizer.specs.CountsThatFit as counts
use Rattle.optimizer.specs.TwoCalls as calls
use Rattle.optimizer.specs.SetsCalls as sets-calls
use Rattle.tableau.proofs.Verdicts as verdicts
use Rattle.live.proofs.LiveTableau as live
use Rattle.lines.specs.LinesOfPieces as pieces
use Rattle.writing.specs.DecimalRead as decimal_read
use Rattle.session.specs.Totals as totals
use Rattle.cull.specs.Survivors as survivors
use Rattle.cull.specs.TwoEngines as engines
use Rattle.trimming.proofs.Acceptance as acceptance
use Rattle.trimming.proofs.Trimming as trimming
use Rattle.trimming.proofs.TrimmedAnswers as trimmed
use Rattle.weights.proofs.Demand3 as weighed
use Rattle.weights.proofs.CountsThatFit as weighed-counts
use Rattle.weights.specs.WeightedBest as weighted_best
use Rattle.weights.specs.TwoCalls as weighed-calls
use Rattle.weights.proofs.TwoEngines as agreeing
use Rattle.weights.specs.GangingUp as ganging-up
use Rattle.join.specs.JoinedCardTheorem as joined-card
use Rattle.join.specs.JoinedEvaluation as joined-evaluation
use Rattle.join.specs.SameAnswers as same_answers
use Rattle.examples.specs.Examples as examples
use Rattle.examples.specs.Program as program
use Rattle.examples.specs.Tableaux as tableaux
use Rattle.promises.specs.Promises.{Promises}

pub kept : Promises
kept = record {
  compare = compare.met;
  derive = derive.met;
  find = find.met;
  read_part = read_part.met;
  pack = pack.met;
  evaluate = evaluate.met;
  optimize = optimize.met;
  cull = cull.met;
  optimize_sets = optimize_sets.met;
  cull_sets = cull_sets.met;
  optimize_weights = optimize_weights.met;
  judge = judge.met;
  join = join.met;
  add_row = add_row.met;
  remove_row = remove_row.met;
  leader = leader.met;
  c_optimize = c_optimize.met;
  c_cull = c_cull.met;
  c_optimize_sets = c_optimize_sets.met;
  c_cull_sets = c_cull_sets.met;
  c_optimize_weights = c_optimize_weights.met;
  c_evaluate = c_evaluate.met;
  c_read_part = c_read_part.met;
  c_pack = c_pack.met;
  c_compare = c_compare.met;
  c_condition = c_condition.met;
  c_find_ranking = c_find_ranking.met;
  c_judge = c_judge.met;
  c_join = c_join.met;
  c_add_row = c_add_row.met;
  c_remove_row = c_remove_row.met;
  c_leader = c_leader.met;
  two_calls = calls.two_calls;
  two_calls_sets = calls.two_calls_sets;
  two_calls_weights = weighed-calls.two_calls;
  profile_is_merge = profile-merge.profile_is_merge;
  not_complete_infinite = profile-merge.not_complete_infinite;
  cost_counted = profile-merge.cost_counted;
  better_means = harmonic-inequality.better_means;
  worse_means = harmonic-inequality.worse_means;
  equal_means = harmonic-inequality.equal_means;
  decided_means = deciding-machine.decided_means;
  total = harmonic-inequality.total;
  transitive = harmonic-inequality.transitive;
  reversed = harmonic-inequality.reversed;
  better_worse = harmonic-inequality.better_worse;
  first_counts_decide = harmonic-inequality.first_counts_decide;
  merged_alike = harmonic-inequality.merged_alike;
  merge_associative = semiring.merge_associative;
  merge_commutative = semiring.merge_commutative;
  zero_merge = semiring.zero_merge;
  merge_zero = semiring.merge_zero;
  zero_counted = semiring.zero_counted;
  merge_counted = semiring.merge_counted;
  infinite_merge = semiring.infinite_merge;
  merge_infinite = semiring.merge_infinite;
  better_associative = semiring.better_associative;
  better_idempotent = semiring.better_idempotent;
  infinite_better = semiring.infinite_better;
  better_infinite = semiring.better_infinite;
  better_counted = semiring.better_counted;
  better_commutative = semiring.better_commutative;
  distributes_left = semiring.distributes_left;
  distributes_right = semiring.distributes_right;
  fits_means = condition-meaning.fits_means;
  listed_exactly = finder.listed_exactly;
  listed_in_order = finder.listed_in_order;
  found_exactly = finder.found_exactly;
  nothing_exactly = finder.nothing_exactly;
  gives_smallest = finder.gives_smallest;
  refuses_exactly = finder.refuses_exactly;
  one_arc = steps.one_arc;
  its_step = steps.its_step;
  step_bounds = steps.step_bounds;
  packed_reads_back = round_trip.packed_reads_back;
  accepted_packs_back = round_trip.accepted_packs_back;
  accepted_small = card-accepted.accepted_small;
  set_of_lem = set_of_lem.met;
  part_with_old_states = machine_states.refused_as_before;
  ends_as_before = machine_states.ends_as_before;
  card_with_old_states = card-states.refused_as_before;
  means_as_before = old_cards.means_as_before;
  takes_same = kinds.takes_same;
  takes_different = kinds.takes_different;
  same_and_different = kinds.same_and_different;
  same_takes = machine-arcs.same_takes;
  same_steps = machine-arcs.same_steps;
  part_with_old_arcs = machine-arcs.same_refusal;
  card_with_old_arcs = card-arcs.refused_as_before;
  takes_as_before = old-arcs.takes_as_before;
  old_cards = base-cards.old_cards;
  accepted_cards = base-cards.accepted_cards;
  demand_3 = demand3.demand_3;
  best_is_best_of_all = best-theorem.best_is_best_of_all;
  counts_that_fit = counts.counts_that_fit;
  spells_nothing = empty_word.spells_nothing;
  only_insertions = empty_word.only_insertions;
  no_pairs = empty_word.no_pairs;
  judged_means = verdicts.judged_means;
  refused_by = verdicts.refused_by;
  no_case_for_10 = verdicts.no_case_for_10;
  answer_next = answer_next.met;
  write_closing = write_closing.met;
  answer_piece = answer_piece.met;
  finish = finish.met;
  lines_of_pieces = pieces.lines_of_pieces;
  output_of_pieces = totals.output_of_pieces;
  output_left = totals.output_left;
  counts_lines = totals.counts_lines;
  answered_and_refused = totals.answered_and_refused;
  a_thousand_at_most = totals.a_thousand_at_most;
  bad_line_refused = totals.bad_line_refused;
  decimal_read = decimal_read.decimal_read;
  total_at = totals.total_at;
  total_count = totals.total_count;
  none_forgotten = totals.none_forgotten;
  ways_left = survivors.ways_left;
  candidates_left = survivors.candidates_left;
  two_engines = engines.two_engines;
  two_engines_sets = engines.two_engines_sets;
  live_tableau = live.live_tableau;
  every_list_runs = live.every_list_runs;
  demand_3_sets = demand3.demand_3_sets;
  counts_that_fit_sets = counts.counts_that_fit_sets;
  no_word_exactly = demand3.no_word_exactly;
  best_is_best_of_all_words = sets-theorem.best_is_best_of_all_words;
  best_of_one_word = sets-theorem.best_of_one_word;
  one_symbol_each = sets-calls.one_symbol_each;
  trimmed_lacks = acceptance.trimmed_lacks;
  trimmed_accepted = acceptance.trimmed_accepted;
  trimmed_answer = trimmed.trimmed_answer;
  trimmed_answer_sets = trimmed.trimmed_answer_sets;
  same_answer = trimming.same_answer;
  same_answer_sets = trimming.same_answer_sets;
  travelled_changes = trimming.travelled_changes;
  travelled_changes_sets = trimming.travelled_changes_sets;
  demand_3_weights = weighed.demand_3;
  counts_that_fit_weights = weighed-counts.counts_that_fit;
  best_by_weights_of_all = weighted_best.weighted_best_is_best_of_all;
  smallest_sum = weighted_best.smallest_sum;
  sum_fits = weighted_best.sum_fits;
  engines_agree = agreeing.two_engines;
  dominance = dominance-theorem.dominance;
  gangs_up = ganging-up.gangs_up;
  no_ranking_gives_it = ganging-up.no_ranking_gives_it;
  card_joined = joined-card.card_joined;
  call_joins = joined-card.call_joins;
  call_joined = joined-card.call_joined;
  same_evaluation = joined-evaluation.same_evaluation;
  input_too = same_answers.input_too;
  sets_input_too = same_answers.sets_input_too;
  join_keeps_answers = same_answers.join_keeps_answers;
  join_keeps_answers_sets = same_answers.join_keeps_answers_sets;
  the_ten_examples = examples.the_ten_examples;
  the_request_examples = examples.the_request_examples;
  the_program_examples = program.the_program_examples;
  the_three_verdicts = tableaux.the_three_verdicts;
}
