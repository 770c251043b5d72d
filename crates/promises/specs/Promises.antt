-- Every promise in one record, in the order of docs/PROMISES.md. `Kept.kept` says that each is kept, and cites its proof. docs/STATEMENTS.md has the definitions
-- that each rests on, in the order in which a reader needs them.
--
-- `f.statement M` is what Rattle makes of the contract of f in src/: for every input f returns, traps nowhere, reads and writes nothing but what it was lent,
-- and meets its `ensures`. No public call has a `requires`. M is the logic's, and says nothing of the call.
use Rattle.std.specs.Prelude.{◌≡◌, ◌∷◌, ◌++◌, ◌⊎◌, ◌↔◌, ◌+◌, ◌*◌, ◌-◌, ◌<◌, ◌≤◌}
use Rattle.basics.specs.Words.{true, false, List, List-as-Memᴰ, [], map, some, none, ℕ, suc, min, max, length, get_or, take, replicate, leb, ltb, all_of, pairwise, joined}
-- the contracts of the public calls
use Rattle.ranking.proofs.harmony.compare.Statement as compare
use Rattle.ranking.proofs.conditions.derive.Statement as derive
use Rattle.finder.proofs.find.Statement as find
use Rattle.card.proofs.read_part.Statement as read_part
use Rattle.card.proofs.pack.Statement as pack
use Rattle.candidate.proofs.evaluate.Statement as evaluate
use Rattle.optimizer.proofs.optimize.Statement as optimize
use Rattle.cull.proofs.cull.Statement as cull
use Rattle.optimizer.proofs.optimize_sets.Statement as optimize_sets
use Rattle.cull.proofs.cull_sets.Statement as cull_sets
use Rattle.weights.proofs.optimize.Statement as optimize_weights
use Rattle.tableau.proofs.judge.Statement as judge
use Rattle.join.proofs.join.Statement as join
use Rattle.live.proofs.add.Statement as add_row
use Rattle.live.proofs.remove.Statement as remove_row
use Rattle.live.proofs.leader.Statement as leader
-- and of those for C
use Rattle.pastaspur.proofs.pastaspur_optimize.Statement as c_optimize
use Rattle.pastaspur.proofs.pastaspur_cull.Statement as c_cull
use Rattle.pastaspur.proofs.pastaspur_optimize_sets.Statement as c_optimize_sets
use Rattle.pastaspur.proofs.pastaspur_cull_sets.Statement as c_cull_sets
use Rattle.pastaspur.proofs.pastaspur_optimize_weights.Statement as c_optimize_weights
use Rattle.pastaspur.proofs.pastaspur_evaluate.Statement as c_evaluate
use Rattle.pastaspur.proofs.pastaspur_read_part.Statement as c_read_part
use Rattle.pastaspur.proofs.pastaspur_pack.Statement as c_pack
use Rattle.pastaspur.proofs.pastaspur_compare.Statement as c_compare
use Rattle.pastaspur.proofs.pastaspur_condition.Statement as c_condition
use Rattle.pastaspur.proofs.pastaspur_find_ranking.Statement as c_find_ranking
use Rattle.pastaspur.proofs.pastaspur_judge.Statement as c_judge
use Rattle.pastaspur.proofs.pastaspur_join.Statement as c_join
use Rattle.pastaspur.proofs.pastaspur_add_row.Statement as c_add_row
use Rattle.pastaspur.proofs.pastaspur_remove_row.Statement as c_remove_row
use Rattle.pastaspur.proofs.pastaspur_leader.Statement as c_leader
-- of a symbol's set
use Rattle.symbols.proofs.sets.set_of.Statement as set_of_lem
-- and of the program's parts
use Rattle.lesson.proofs.answer_next.Statement as answer_next
use Rattle.lesson.proofs.write_closing.Statement as write_closing
use Rattle.pieces.proofs.answer_piece.Statement as answer_piece
use Rattle.pieces.proofs.finish.Statement as finish
-- profiles, rankings, conditions
use Rattle.ranking.specs.declared.Profile.{Profile}
use Rattle.ranking.specs.declared.Condition.{Condition}
use Rattle.ranking.specs.declared.Order.TheVariants.{Equal}
use Rattle.ranking.specs.Profiles.{merge}
use Rattle.ranking.specs.ByteStrings.{smaller}
use Rattle.ranking.specs.Rankings.{is_machine_count, is_ranking, rankings}
use Rattle.ranking.specs.Harmony.{better, worse, harmony}
use Rattle.ranking.specs.HarmonicInequality.{Agree, ExactlyOne, MoreHarmonic, opposite}
use Rattle.ranking.specs.DecidingMachine.{DecidedMeans}
use Rattle.ranking.specs.Conditions.{condition_of, fits}
use Rattle.ranking.specs.Violations.{Violations, finite, infinite, OfCounts, no_violations, merge_costs, better_cost}
use Rattle.finder.specs.Finder.{conditions_of, finding, smallest, sound_list}
use Rattle.finder.specs.FinderTheorems.{SmallestFitting}
-- machines, cards, candidates
use Rattle.refusals.specs.Refusals.{first_of}
use Rattle.machine.specs.declared.Pair.{Pair}
use Rattle.machine.specs.declared.Arc.{Arc}
use Rattle.machine.specs.Symbols.{is_pair}
use Rattle.machine.specs.Machine.{Machine, takes, takes_from, step_among, step_of, ending_of, clash}
use Rattle.machine.specs.Part.{arcs_of, machine_of, part_refusal}
use Rattle.machine.specs.Steps.{StepBounds}
use Rattle.machine.specs.OldStates.{old_states, old_machine_of, old_ending_of, old_part_refusal}
use Rattle.machine.specs.OldArcs.{old_arc, old_arcs, takes_by_sets, step_by_sets, refusal_by_sets}
use Rattle.layout.specs.Layout.{Bytes}
use Rattle.card.specs.declared.Packed.{Packed}
use Rattle.card.specs.Layout.{machine_count, parts_of}
use Rattle.card.specs.Card.{machines_of, card_refusal}
use Rattle.card.specs.Packing.{packed, packing_refusal}
use Rattle.card.specs.RoundTrip.{ReadsBack, PacksBack}
use Rattle.card.specs.OldStates.{old_machines_of, old_card_refusal}
use Rattle.card.specs.OldArcs.{card_refusal_by_sets}
use Rattle.card.specs.BaseCards.{base_card_refusal, base_card}
use Rattle.candidate.specs.declared.Evaluation.{Evaluation}
use Rattle.candidate.specs.Candidates.{spelled, is_complete, profile_of, IsCandidate}
use Rattle.candidate.specs.Evaluating.{evaluating, refused}
use Rattle.candidate.specs.ProfileMerge.{at_start, cost_of_pairs}
use Rattle.candidate.specs.OldCards.{MeansAsBefore}
use Rattle.candidate.specs.OldArcs.{TakesAsBefore}
use Rattle.candidate.specs.BaseCards.{AsInBase}
use Rattle.candidate.specs.EmptyWord.{inserts, start_is_final}
-- the best
use Rattle.product.specs.Nodes.{node_count}
use Rattle.product.specs.Best.{Contender, harmonic, best}
use Rattle.product.specs.Sets.{are64_bits, fits_sets, singletons, best_of_sets}
use Rattle.product.specs.BestCandidate.{IsBestCandidate, IsBestOfSets}
use Rattle.product.specs.BestTheorem.{BestOfAll}
use Rattle.product.specs.SetsTheorem.{BestOfAllWords}
use Rattle.product.specs.Optimizing.{input_refusal}
use Rattle.product.specs.OptimizingSets.{sets_input_refusal}
use Rattle.optimizer.specs.Optimizes.{Optimizes, OptimizesSets}
use Rattle.optimizer.specs.Demand3.{Demand3, Demand3Sets}
use Rattle.optimizer.specs.CountsThatFit.{CountsOfWord, CountsOfSets}
use Rattle.optimizer.specs.TwoCalls.{TwoCalls, checks_of_word, checks_of_sets}
use Rattle.optimizer.specs.SetsCalls.{OneSymbolEach}
-- tableaux
use Rattle.rows.specs.Tableau.{sound_tableau, every_row}
use Rattle.tableau.specs.declared.Judged.{Judged}
use Rattle.tableau.specs.Judging.{is_for_word}
use Rattle.tableau.specs.Judges.{Judges}
use Rattle.tableau.specs.Verdicts.{VerdictMeans}
use Rattle.live.specs.declared.Row.{Row}
use Rattle.live.specs.Afresh.{Call, Table, Ran}
use Rattle.live.specs.LiveTableau.{Runs, WorkedOut}
-- the program
use Rattle.lines.specs.Parsing.{parsed_line}
use Rattle.lines.specs.Input.{kept, lines_of}
use Rattle.lines.specs.Taking.{ended_lines, lines_taken}
use Rattle.tally.specs.declared.Tally.{Tally}
use Rattle.lesson.specs.Tally.{no_lines, shown_machines, lines_text, Fits}
use Rattle.pieces.specs.Pieces.{printed_pieces}
use Rattle.writing.specs.Decimal.{is_digit, decimal, value_of}
use Rattle.session.specs.Output.{answered_among, refused_among, is_answered, totals, total_of, output, counted_lines, Reads, Finishes}
use Rattle.session.specs.Totals.{tallied, Counts}
-- the cull
use Rattle.product.specs.ProductGraph.{card_start}
use Rattle.cull.specs.Culling.{StageDone}
use Rattle.cull.specs.Ways.{is_left, LeavesUnbeaten}
use Rattle.cull.specs.Survivors.{UnbeatenCandidate}
-- cards that lack an arc
use Rattle.trimming.specs.Travelling.{travels}
use Rattle.trimming.specs.Trimmed.{HasArc, LacksArc, card_without}
use Rattle.trimming.specs.Answering.{answered_candidate, SameAnswer}
use Rattle.trimming.specs.TrimmedAnswers.{LongEnough}
-- weights
use Rattle.product.specs.Weights.{sound_weights, weighted_sum, by_sum, best_by_weights}
use Rattle.product.specs.Dominance.{Outweighs}
use Rattle.weights.specs.declared.Weighing.{Weighing}
use Rattle.weights.specs.Weighing.{weighted_refusal, refused_weighing}
use Rattle.weights.specs.Searching as by_weights_lem
use Rattle.weights.specs.WeightedBest.{BestOfAllByWeights}
use Rattle.weights.specs.Demand3 as weighed
use Rattle.weights.specs.CountsThatFit.{CountsByWeights}
use Rattle.weights.specs.TwoCalls.{checks_of_weights}
use Rattle.weights.specs.Agreement.{largest}
use Rattle.weights.specs.TwoEngines as agreeing
use Rattle.weights.specs.GangingUp.{weakening, GangsUp}
-- joined machines
use Rattle.join.specs.JoinedCard.{MayJoin, lower, other, joined_card, joining, joining_refusal, joining_answer, joining_target}
use Rattle.join.specs.Writing.{CardJoins}
use Rattle.join.specs.JoinedRanking.{joined_ranking}
use Rattle.join.specs.BestJoined.{TwoCards, Unmarked}
use Rattle.join.specs.JoinedCardTheorem.{CardJoined}
use Rattle.join.specs.JoinedEvaluation.{SameEvaluation}
use Rattle.join.specs.SameAnswers.{SameAnswers}
-- examples
use Rattle.examples.specs.Examples.{TenExamples, RequestExamples}
use Rattle.examples.specs.Program.{ProgramExamples}
use Rattle.examples.specs.Tableaux.{ThreeVerdicts}

pub record Promises : Type 2 where
  -- ---- Demand 1: every call ends, traps nowhere, writes nothing it was not lent, and answers what its contract says

  pub compare : {M : Type 1} → compare.statement M
  pub derive : {M : Type 1} → derive.statement M
  pub find : {M : Type 1} → find.statement M
  pub read_part : {M : Type 1} → read_part.statement M
  pub pack : {M : Type 1} → pack.statement M
  pub evaluate : {M : Type 1} → evaluate.statement M
  pub optimize : {M : Type 1} → optimize.statement M
  pub cull : {M : Type 1} → cull.statement M
  pub optimize_sets : {M : Type 1} → optimize_sets.statement M
  pub cull_sets : {M : Type 1} → cull_sets.statement M
  pub optimize_weights : {M : Type 1} → optimize_weights.statement M
  pub judge : {M : Type 1} → judge.statement M
  pub join : {M : Type 1} → join.statement M
  pub add_row : {M : Type 1} → add_row.statement M
  pub remove_row : {M : Type 1} → remove_row.statement M
  pub leader : {M : Type 1} → leader.statement M
  -- the same calls from C
  pub c_optimize : {M : Type 1} → c_optimize.statement M
  pub c_cull : {M : Type 1} → c_cull.statement M
  pub c_optimize_sets : {M : Type 1} → c_optimize_sets.statement M
  pub c_cull_sets : {M : Type 1} → c_cull_sets.statement M
  pub c_optimize_weights : {M : Type 1} → c_optimize_weights.statement M
  pub c_evaluate : {M : Type 1} → c_evaluate.statement M
  pub c_read_part : {M : Type 1} → c_read_part.statement M
  pub c_pack : {M : Type 1} → c_pack.statement M
  pub c_compare : {M : Type 1} → c_compare.statement M
  pub c_condition : {M : Type 1} → c_condition.statement M
  pub c_find_ranking : {M : Type 1} → c_find_ranking.statement M
  pub c_judge : {M : Type 1} → c_judge.statement M
  pub c_join : {M : Type 1} → c_join.statement M
  pub c_add_row : {M : Type 1} → c_add_row.statement M
  pub c_remove_row : {M : Type 1} → c_remove_row.statement M
  pub c_leader : {M : Type 1} → c_leader.statement M
  -- two calls with work slices of their own: what the checks before 9 refuse both refuse, 9 is each call's alone, and two that pass it give one result
  -- and one answer slice
  pub two_calls : (card ranking : List ℕ) {word work workAfter work' workAfter' answer answerAfter answerAfter' : List ℕ} {r r' : Evaluation}
      → Optimizes card ranking word work workAfter answer answerAfter r → Optimizes card ranking word work' workAfter' answer answerAfter' r'
      → TwoCalls refused (first_of (checks_of_word card ranking word)) (8 * node_count (machines_of card) (length word)) work workAfter work' workAfter' answer answerAfter answerAfter' r r'
  pub two_calls_sets : (card ranking : List ℕ) {sets work workAfter work' workAfter' answer answerAfter answerAfter' : List ℕ} {r r' : Evaluation}
      → OptimizesSets card ranking sets work workAfter answer answerAfter r → OptimizesSets card ranking sets work' workAfter' answer answerAfter' r'
      → TwoCalls refused (first_of (checks_of_sets card ranking sets)) (8 * node_count (machines_of card) (length sets)) work workAfter work' workAfter' answer answerAfter answerAfter' r r'
  pub two_calls_weights : {card weights word work workAfter work' workAfter' answer answerAfter answerAfter' : List ℕ} {r r' : Weighing}
      → by_weights_lem.Optimizes card weights word work workAfter answer answerAfter r → by_weights_lem.Optimizes card weights word work' workAfter' answer answerAfter' r'
      → TwoCalls refused_weighing (first_of (checks_of_weights card weights word)) (2 * node_count (machines_of card) (length word)) work workAfter work' workAfter' answer answerAfter answerAfter' r r'
  -- ---- Demand 2: profiles, comparison and conditions in full; packing and reading back

  -- a candidate's profile is the merge of its pairs' marks and its ending's; of one that is not complete the cost is infinite
  pub profile_is_merge : (ms : List Machine) (c : List Pair) → is_complete ms c ≡ true → cost_of_pairs (at_start ms) c ≡ finite (profile_of ms c)
  pub not_complete_infinite : (ms : List Machine) (c : List Pair) → is_complete ms c ≡ false → cost_of_pairs (at_start ms) c ≡ infinite
  -- it is in the semiring of as many counts as there are machines
  pub cost_counted : (ms : List Machine) (c : List Pair) → OfCounts (length ms) (cost_of_pairs (at_start ms) c)
  -- the smaller count at the highest ranked machine where they differ
  pub better_means : (r v w : List ℕ) → (better r v w ≡ true) ↔ MoreHarmonic r v w
  pub worse_means : (r v w : List ℕ) → (worse r v w ≡ true) ↔ MoreHarmonic r w v
  pub equal_means : (K : ℕ) (r : List ℕ) (is : is_ranking K r ≡ true) (v w : List ℕ) → (harmony r v w ≡ Equal) ↔ Agree K v w
  -- S-1: better or worse with the highest ranked machine where they differ; equal carries nothing
  pub decided_means : (K : ℕ) (r : List ℕ) → is_machine_count K ≡ true → is_ranking K r ≡ true → (v w : Profile) → DecidedMeans K r v w
  -- comparison is a strict total order on the first K places
  pub total : (K : ℕ) (r : List ℕ) (is : is_ranking K r ≡ true) (v w : List ℕ) → ExactlyOne (MoreHarmonic r v w) (Agree K v w) (MoreHarmonic r w v)
  pub transitive : (r u v w : List ℕ) → better r u v ≡ true → better r v w ≡ true → better r u w ≡ true
  pub reversed : (r v w : List ℕ) → harmony r w v ≡ opposite (harmony r v w)
  pub better_worse : (r v w : List ℕ) → worse r w v ≡ better r v w
  pub first_counts_decide : (K : ℕ) (r : List ℕ) (is : is_ranking K r ≡ true) (v w x y : List ℕ) → Agree K v x → Agree K w y → harmony r v w ≡ harmony r x y
  -- adding one profile to both sides changes nothing
  pub merged_alike : (r u v w : List ℕ) → harmony r (merge u v) (merge u w) ≡ harmony r v w
  -- the violation semiring: merging is a commutative monoid with the zero profile, and the infinite cost annihilates
  pub merge_associative : (a b c : Violations) → merge_costs (merge_costs a b) c ≡ merge_costs a (merge_costs b c)
  pub merge_commutative : (a b : Violations) → merge_costs a b ≡ merge_costs b a
  pub zero_merge : (K : ℕ) (few : K ≤ 6) (a : Violations) → OfCounts K a → merge_costs (no_violations K) a ≡ a
  pub merge_zero : (K : ℕ) (few : K ≤ 6) (a : Violations) → OfCounts K a → merge_costs a (no_violations K) ≡ a
  pub zero_counted : (K : ℕ) (few : K ≤ 6) → OfCounts K (no_violations K)
  pub merge_counted : (K : ℕ) (a b : Violations) → OfCounts K a → OfCounts K b → OfCounts K (merge_costs a b)
  pub infinite_merge : (a : Violations) → merge_costs infinite a ≡ infinite
  pub merge_infinite : (a : Violations) → merge_costs a infinite ≡ infinite
  -- the better of two is an idempotent monoid with the infinite cost, commutative under a ranking of K machines
  pub better_associative : (r : List ℕ) (a b c : Violations) → better_cost r (better_cost r a b) c ≡ better_cost r a (better_cost r b c)
  pub better_idempotent : (r : List ℕ) (a : Violations) → better_cost r a a ≡ a
  pub infinite_better : (r : List ℕ) (a : Violations) → better_cost r infinite a ≡ a
  pub better_infinite : (r : List ℕ) (a : Violations) → better_cost r a infinite ≡ a
  pub better_counted : (K : ℕ) (r : List ℕ) (a b : Violations) → OfCounts K a → OfCounts K b → OfCounts K (better_cost r a b)
  pub better_commutative : (K : ℕ) (r : List ℕ) → is_ranking K r ≡ true → (a b : Violations) → OfCounts K a → OfCounts K b → better_cost r a b ≡ better_cost r b a
  -- merging distributes over it
  pub distributes_left : (r : List ℕ) (a b c : Violations) → merge_costs a (better_cost r b c) ≡ better_cost r (merge_costs a b) (merge_costs a c)
  pub distributes_right : (r : List ℕ) (a b c : Violations) → merge_costs (better_cost r b c) a ≡ better_cost r (merge_costs b a) (merge_costs c a)
  -- a ranking fits the condition of a and b exactly when a is not worse than b under it
  pub fits_means : (K : ℕ) (a b r : List ℕ) → is_ranking K r ≡ true → (fits r (condition_of K a b) ≡ true) ↔ (worse r a b ≡ false)
  -- the finder: the rankings are listed, smallest first, and the first that fits all conditions is found
  pub listed_exactly : (K : ℕ) (r : List ℕ) → List-as-Memᴰ r (rankings K) ↔ (is_ranking K r ≡ true)
  pub listed_in_order : (K : ℕ) → pairwise smaller (rankings K) ≡ true
  pub found_exactly : (K : ℕ) (cs : List Condition) (r : List ℕ) → (smallest K cs ≡ some r) ↔ SmallestFitting K cs r
  pub nothing_exactly : (K : ℕ) (cs : List Condition) → (smallest K cs ≡ none) ↔ ((r : List ℕ) → is_ranking K r ≡ true → all_of (fits r) cs ≡ false)
  -- and the call answers it, or 16 exactly when none fits
  pub gives_smallest : (K : ℕ) (l : List ℕ) (machines : is_machine_count K ≡ true) (sound : sound_list K l ≡ true) (r : List ℕ) → SmallestFitting K (conditions_of l) r
      → finding K l ≡ record { number = 0; ranking = r ++ replicate (6 - K) 0 }
  pub refuses_exactly : (K : ℕ) (l : List ℕ) (machines : is_machine_count K ≡ true) (sound : sound_list K l ≡ true) → ((finding K l).number ≡ 16) ↔ ((r : List ℕ) → is_ranking K r ≡ true → all_of (fits r) (conditions_of l) ≡ false)
  -- in an accepted part at most one arc of a state takes a pair, and the machine steps by it; the step's state is below Q, its marks at most 15
  pub one_arc : (S : ℕ) (part : List ℕ) (ok : part_refusal S part ≡ 0) → S < 64 → (s : ℕ) (p : Pair) → is_pair p ≡ true → (d : Arc) (i j : ℕ) → i < length (arcs_of part) → j < length (arcs_of part)
      → takes_from (get_or (arcs_of part) i d) s p ≡ true → takes_from (get_or (arcs_of part) j d) s p ≡ true → i ≡ j
  pub its_step : (S : ℕ) (part : List ℕ) (ok : part_refusal S part ≡ 0) → S < 64 → (s : ℕ) (p : Pair) → is_pair p ≡ true → (d : Arc) (i : ℕ) → i < length (arcs_of part)
      → takes_from (get_or (arcs_of part) i d) s p ≡ true → step_of (machine_of part) s p ≡ some ((get_or (arcs_of part) i d).to, (get_or (arcs_of part) i d).marks)
  pub step_bounds : (S : ℕ) (part : List ℕ) (ok : part_refusal S part ≡ 0) (s : ℕ) (p : Pair) (r : ℕ × ℕ) → step_of (machine_of part) s p ≡ some r → StepBounds S part p r
  -- packing and reading back gives the same parts and machines; repacking an accepted card gives the same card, which is short
  pub packed_reads_back : (S : ℕ) (lengths bytes target : List ℕ) → packing_refusal S lengths bytes (length target) ≡ 0 → ReadsBack S lengths bytes target (packed S lengths bytes)
  pub accepted_packs_back : (card : List ℕ) → Bytes card → card_refusal card ≡ 0 → PacksBack card (map length (parts_of card)) (joined (λ part. part) (parts_of card))
  pub accepted_small : (card : List ℕ) → Bytes card → card_refusal card ≡ 0 → length card ≤ 30830
  -- S-4: the set of one symbol is one shifted to the left by its number
  pub set_of_lem : {M : Type 1} → set_of_lem.statement M
  -- S-5: cards whose state bytes are 0 and 1 are refused as before and mean what they meant
  pub part_with_old_states : (S : ℕ) (part : List ℕ) → old_states part ≡ true → part_refusal S part ≡ old_part_refusal S part
  pub ends_as_before : (part : List ℕ) → old_states part ≡ true → (s : ℕ) → ending_of (machine_of part) s ≡ old_ending_of (old_machine_of part) s
  pub card_with_old_states : (card : List ℕ) → all_of old_states (parts_of card) ≡ true → card_refusal card ≡ old_card_refusal card
  pub means_as_before : (card : List ℕ) → all_of old_states (parts_of card) ≡ true → (c : List Pair) → MeansAsBefore (machines_of card) (old_machines_of card) c
  -- S-10: kind 1 takes only pairs with in equal to out, kind 2 only those with in unlike out, so the two do not clash
  pub takes_same : (a : Arc) (p : Pair) (t : takes a p ≡ true) → a.kind ≡ 1 → (is_pair p ≡ true) × (p.input ≡ p.output)
  pub takes_different : (a : Arc) (p : Pair) (t : takes a p ≡ true) → a.kind ≡ 2 → p.input ≡ p.output → ⊥
  pub same_and_different : (a b : Arc) → a.kind ≡ 1 → b.kind ≡ 2 → (clash a b ≡ false) × (clash b a ≡ false)
  -- cards whose arcs are all of kind 0 are refused as before and mean what they meant
  pub same_takes : (a : Arc) (p : Pair) → old_arc a ≡ true → takes a p ≡ takes_by_sets a p
  pub same_steps : (arcs : List Arc) → all_of old_arc arcs ≡ true → (s : ℕ) (p : Pair) → step_among arcs s p ≡ step_by_sets arcs s p
  pub part_with_old_arcs : (S : ℕ) (part : List ℕ) → old_arcs part ≡ true → part_refusal S part ≡ refusal_by_sets S part
  pub card_with_old_arcs : (card : List ℕ) → all_of old_arcs (parts_of card) ≡ true → card_refusal card ≡ card_refusal_by_sets card
  pub takes_as_before : (card : List ℕ) → all_of old_arcs (parts_of card) ≡ true → (c : List Pair) → TakesAsBefore (machines_of card) c
  -- S-5 and S-10: a card from before both means what the base meant, by the base's own reading, and so does every card that the base accepted
  pub old_cards : (card : List ℕ) → base_card card → AsInBase card
  pub accepted_cards : (card : List ℕ) → base_card_refusal card ≡ 0 → AsInBase card
  -- ---- Demand 3: the best, or none

  -- of what either engine answers: its number is 0, 10 or 12; 10 exactly when no list of pairs, however long, is a candidate, otherwise there is a best;
  -- 12 exactly when the best outgrows the answer slice; else the best with its own profile and pair count, and every other list is worse
  pub demand_3 : (card ranking : List ℕ) {word work workAfter answer answerAfter : List ℕ} {r : Evaluation} → Optimizes card ranking word work workAfter answer answerAfter r
      → input_refusal card ranking word (length work) ≡ 0 → Demand3 card ranking word answer answerAfter r
  -- the best of the definition, which looks at finitely many lists, is the best of all
  pub best_is_best_of_all : (card ranking word : List ℕ) → card_refusal card ≡ 0 → is_ranking (machine_count card) ranking ≡ true → BestOfAll card ranking word
  -- S-8: a candidate that none beats by profile or pair count passes no node twice: at most 3,199 pairs, no count above 48,000
  pub counts_that_fit : (card ranking : List ℕ) {work workAfter answer answerAfter : List ℕ} {r : Evaluation} {word : List ℕ} → Optimizes card ranking word work workAfter answer answerAfter r
      → input_refusal card ranking word (length work) ≡ 0 → CountsOfWord card ranking word r
  -- S-2: the empty word's candidates have only insertions, and the list of no pairs is one exactly if every start state is final
  pub spells_nothing : (c : List Pair) → (spelled c ≡ []) ↔ (all_of inserts c ≡ true)
  pub only_insertions : (ms : List Machine) (c : List Pair) → IsCandidate ms [] c → all_of inserts c ≡ true
  pub no_pairs : (ms : List Machine) → IsCandidate ms [] [] ↔ (all_of start_is_final ms ≡ true)
  -- ---- S-3: tableaux

  -- right exactly when the claimed row wins; another row, the first that wins, exactly when some row wins and the claimed one does not; not in the table
  -- exactly when no row wins
  pub judged_means : {card ranking word work workAfter tableau : List ℕ} {r : Judged} (call : Judges card ranking word work workAfter tableau r) → r.number ≡ 0 → VerdictMeans card ranking word tableau r
  -- after 9 the number is 0, 19, 20 or 21; a row that passes 20 leaves no case for 10
  pub refused_by : {card ranking word work workAfter tableau : List ℕ} {r : Judged} (call : Judges card ranking word work workAfter tableau r) → input_refusal card ranking word (length work) ≡ 0
      → (r.number ≡ 0) ⊎ ((r.number ≡ 19) ⊎ ((r.number ≡ 20) ⊎ (r.number ≡ 21)))
  pub no_case_for_10 : (card ranking word : List ℕ) (room : ℕ) (tableau : List ℕ) → input_refusal card ranking word room ≡ 0 → sound_tableau (machine_count card) tableau ≡ true → every_row (is_for_word card word) tableau ≡ true
      → (b : Contender) × (best card ranking word ≡ some b)
  -- ---- S-6: the program's lines and totals

  -- what is printed for a line, a piece of the input, and after the last one; these have a `requires`, which the program meets
  pub answer_next : {M : Type 1} → answer_next.statement M
  pub write_closing : {M : Type 1} → write_closing.statement M
  pub answer_piece : {M : Type 1} → answer_piece.statement M
  pub finish : {M : Type 1} → finish.statement M
  -- however an input is cut into pieces, its lines are the same
  pub lines_of_pieces : (ps : List (List ℕ)) → lines_taken [] ps ≡ map kept (lines_of (joined (λ p. p) ps))
  -- what is printed for the pieces in turn is the output of the whole input, and what is left at the end completes it
  pub output_of_pieces : (card : List ℕ) (pieces : List (List ℕ)) → printed_pieces card no_lines [] pieces ≡ output card (joined (λ p. p) pieces)
  pub output_left : (card : List ℕ) {out : List ℕ} {r : ℕ} (f : Finishes card [] no_lines out r) → 0 < r → lines_text card no_lines (ended_lines [] f.read) ++ take r out ≡ output card f.read
  -- the tally of lines is what they add to it, for every list of lines
  pub counts_lines : (card : List ℕ) (t : Tally) (ls : List (List ℕ)) → Counts card t ls (tallied card t ls)
  -- answered and refused are the number of lines, a thousand at most; bad lines are refused
  pub answered_and_refused : (card : List ℕ) (ls : List (List ℕ)) → length (answered_among card ls) + length (refused_among card ls) ≡ length ls
  pub a_thousand_at_most : (card : List ℕ) (ls : List (List ℕ)) → length (answered_among card (take 1000 ls)) + length (refused_among card (take 1000 ls)) ≤ 1000
  pub bad_line_refused : (card l : List ℕ) → parsed_line l ≡ none → is_answered card l ≡ false
  -- the numbers printed are decimal: digits alone, and read back they are the number
  pub decimal_read : (n : ℕ) → (all_of is_digit (decimal n) ≡ true) × (value_of (decimal n) ≡ n)
  -- a total is the sum of a machine's counts in the answered lines
  pub total_at : (card : List ℕ) (ls : List (List ℕ)) (i : ℕ) → i < shown_machines card → get_or (totals card ls) i 0 ≡ total_of card i (answered_among card ls)
  pub total_count : (card : List ℕ) (ls : List (List ℕ)) → length (totals card ls) ≡ shown_machines card
  -- whatever is read, no line is forgotten: in the end the lines counted are those counted at the start and those that end in the bytes read, up to a thousand
  pub none_forgotten : (card : List ℕ) {held line : List ℕ} {n : ℕ} {t u : Tally} (r : Reads card held t line n u true) → Fits t
      → counted_lines u ≡ min 1000 (counted_lines t + length (ended_lines held r.read))
  -- ---- S-7: Ellison's cull

  -- after each constraint the ways left from a node to an end are exactly those that no other way from there beats on the constraints gone down so far
  pub ways_left : {card ranking sets xs ys : List ℕ} {k : ℕ} (ok : card_refusal card ≡ 0) (each : length ranking ≡ length (machines_of card)) (h : k < length (machines_of card)) (D : StageDone card ranking sets xs ys k)
      → LeavesUnbeaten card ranking sets ys (suc k)
  -- from the start node they are candidates
  pub candidates_left : {card ranking sets xs ys : List ℕ} {k : ℕ} (ok : card_refusal card ≡ 0) (each : length ranking ≡ length (machines_of card)) (h : k < length (machines_of card)) (D : StageDone card ranking sets xs ys k)
      (c : List Pair) → (is_left (machines_of card) ranking sets ys (suc k) (card_start card) c ≡ true) ↔ UnbeatenCandidate card ranking sets (suc k) c
  -- for every input the two engines give the same result and the same answer slice
  pub two_engines : (card ranking : List ℕ) {word work work' after after' answer filled filled' : List ℕ} {r r' : Evaluation} (same_length : length work ≡ length work')
      → Optimizes card ranking word work after answer filled r → Optimizes card ranking word work' after' answer filled' r' → (r ≡ r') × (filled ≡ filled')
  pub two_engines_sets : (card ranking : List ℕ) {sets work work' after after' answer filled filled' : List ℕ} {r r' : Evaluation} (same_length : length work ≡ length work')
      → OptimizesSets card ranking sets work after answer filled r → OptimizesSets card ranking sets work' after' answer filled' r' → (r ≡ r') × (filled ≡ filled')
  -- ---- S-9: the live tableau

  -- for every list of adds and removals from an empty table rows and leader are those worked out afresh from the ids added and not since removed
  pub live_tableau : (K : ℕ) (ranking : List ℕ) (l : List Row) {calls done : List Call} {t : Table} → Ran K ranking l calls done t → WorkedOut K ranking l t done
  -- and every list of calls runs
  pub every_list_runs : (K : ℕ) (ranking : List ℕ) (l : List Row) (calls : List Call) → Runs K ranking l calls
  -- ---- S-11: words heard only in part

  -- demand 3 over every list of pairs that spells one of the words, and the bounds of S-8
  pub demand_3_sets : (card ranking : List ℕ) {sets work workAfter answer answerAfter : List ℕ} {r : Evaluation} (c : OptimizesSets card ranking sets work workAfter answer answerAfter r)
      (ok : sets_input_refusal card ranking sets (length work) ≡ 0) → Demand3Sets card ranking sets answer answerAfter r
  pub counts_that_fit_sets : (card ranking : List ℕ) {work workAfter answer answerAfter : List ℕ} {r : Evaluation} {sets : List ℕ} → OptimizesSets card ranking sets work workAfter answer answerAfter r
      → sets_input_refusal card ranking sets (length work) ≡ 0 → CountsOfSets card ranking sets r
  -- 10 exactly when no word among them has a complete candidate
  pub no_word_exactly : (card ranking : List ℕ) {sets work workAfter answer answerAfter : List ℕ} {r : Evaluation} (c : OptimizesSets card ranking sets work workAfter answer answerAfter r)
      (ok : sets_input_refusal card ranking sets (length work) ≡ 0) → (r.number ≡ 10) ↔ ((word : List ℕ) → fits_sets sets word ≡ true → (d : List Pair) → ¬ (IsCandidate (machines_of card) word d))
  -- the best over the sets is the best of all lists for all words
  pub best_is_best_of_all_words : (card ranking sets : List ℕ) → card_refusal card ≡ 0 → is_ranking (machine_count card) ranking ≡ true → are64_bits sets ≡ true → BestOfAllWords card ranking sets
  -- sets of one symbol give the ordinary call's answer
  pub best_of_one_word : (card ranking word : List ℕ) → card_refusal card ≡ 0 → all_of (λ x. ltb x 64) word ≡ true → best_of_sets card ranking (singletons word) ≡ best card ranking word
  pub one_symbol_each : (card ranking word : List ℕ) {work work' after after' answer filled filled' : List ℕ} {r r' : Evaluation} → length work ≡ length work'
      → OptimizesSets card ranking (singletons word) work after answer filled r → Optimizes card ranking word work' after' answer filled' r' → OneSymbolEach card ranking word filled filled' r r'
  -- ---- S-12: arcs that the answer does not use

  -- there is a card that lacks the arc, and it is accepted
  pub trimmed_lacks : (card : List ℕ) (i j : ℕ) (ok : card_refusal card ≡ 0) (has : HasArc card i j) → LacksArc card i j (card_without i j card)
  pub trimmed_accepted : (card : List ℕ) (i j : ℕ) (ok : card_refusal card ≡ 0) (has : HasArc card i j) → card_refusal (card_without i j card) ≡ 0
  -- it gives the word the same answer and profile, slices being long enough, where the answer's candidate does not travel the arc
  pub trimmed_answer : (ranking : List ℕ) {card word work workAfter answer answerAfter secondWork secondWorkAfter secondAnswer secondAfter : List ℕ} {r second : Evaluation} {i j : ℕ} (has : HasArc card i j)
      → Optimizes card ranking word work workAfter answer answerAfter r → r.number ≡ 0 → travels (machines_of card) i j (answered_candidate r answerAfter) ≡ false
      → Optimizes (card_without i j card) ranking word secondWork secondWorkAfter secondAnswer secondAfter second → LongEnough (card_without i j card) (length word) r.pairs secondWork secondAnswer
      → SameAnswer r answerAfter second secondAnswer secondAfter
  pub trimmed_answer_sets : (ranking : List ℕ) {card sets work workAfter answer answerAfter secondWork secondWorkAfter secondAnswer secondAfter : List ℕ} {r second : Evaluation} {i j : ℕ} (has : HasArc card i j)
      → OptimizesSets card ranking sets work workAfter answer answerAfter r → r.number ≡ 0 → travels (machines_of card) i j (answered_candidate r answerAfter) ≡ false
      → OptimizesSets (card_without i j card) ranking sets secondWork secondWorkAfter secondAnswer secondAfter second → LongEnough (card_without i j card) (length sets) r.pairs secondWork secondAnswer
      → SameAnswer r answerAfter second secondAnswer secondAfter
  -- so does every accepted card that lacks the arc
  pub same_answer : (ranking : List ℕ) {card trimmed word work workAfter answer answerAfter secondWork secondWorkAfter secondAnswer secondAfter : List ℕ} {r second : Evaluation} {i j : ℕ} (lacks : LacksArc card i j trimmed)
      (first : Optimizes card ranking word work workAfter answer answerAfter r) (answered : r.number ≡ 0) (call : Optimizes trimmed ranking word secondWork secondWorkAfter secondAnswer secondAfter second)
      → travels (machines_of card) i j (answered_candidate r answerAfter) ≡ false → card_refusal trimmed ≡ 0 → 8 * node_count (machines_of card) (length word) ≤ length secondWork → 2 * r.pairs ≤ length secondAnswer
      → SameAnswer r answerAfter second secondAnswer secondAfter
  pub same_answer_sets : (ranking : List ℕ) {card trimmed sets work workAfter answer answerAfter secondWork secondWorkAfter secondAnswer secondAfter : List ℕ} {r second : Evaluation} {i j : ℕ} (lacks : LacksArc card i j trimmed)
      (first : OptimizesSets card ranking sets work workAfter answer answerAfter r) (answered : r.number ≡ 0) (call : OptimizesSets trimmed ranking sets secondWork secondWorkAfter secondAnswer secondAfter second)
      → travels (machines_of card) i j (answered_candidate r answerAfter) ≡ false → card_refusal trimmed ≡ 0 → 8 * node_count (machines_of card) (length sets) ≤ length secondWork → 2 * r.pairs ≤ length secondAnswer
      → SameAnswer r answerAfter second secondAnswer secondAfter
  -- where it travels the arc the answer is another one
  pub travelled_changes : (ranking : List ℕ) {card trimmed word work workAfter answer answerAfter secondWork secondWorkAfter secondAnswer secondAfter : List ℕ} {r second : Evaluation} {i j : ℕ} (lacks : LacksArc card i j trimmed)
      (first : Optimizes card ranking word work workAfter answer answerAfter r) (answered : r.number ≡ 0) (call : Optimizes trimmed ranking word secondWork secondWorkAfter secondAnswer secondAfter second)
      → travels (machines_of card) i j (answered_candidate r answerAfter) ≡ true → ¬ (SameAnswer r answerAfter second secondAnswer secondAfter)
  pub travelled_changes_sets : (ranking : List ℕ) {card trimmed sets work workAfter answer answerAfter secondWork secondWorkAfter secondAnswer secondAfter : List ℕ} {r second : Evaluation} {i j : ℕ} (lacks : LacksArc card i j trimmed)
      (first : OptimizesSets card ranking sets work workAfter answer answerAfter r) (answered : r.number ≡ 0) (call : OptimizesSets trimmed ranking sets secondWork secondWorkAfter secondAnswer secondAfter second)
      → travels (machines_of card) i j (answered_candidate r answerAfter) ≡ true → ¬ (SameAnswer r answerAfter second secondAnswer secondAfter)
  -- ---- S-13: weights

  -- demand 3 for the order of the sums, with the sum answered, and the bounds of S-8
  pub demand_3_weights : {card weights word work workAfter answer answerAfter : List ℕ} {r : Weighing} (c : by_weights_lem.Optimizes card weights word work workAfter answer answerAfter r)
      (ok : weighted_refusal card weights word (length work) ≡ 0) → weighed.Demand3 card weights word answer answerAfter r
  pub counts_that_fit_weights : (card weights : List ℕ) {word work workAfter answer answerAfter : List ℕ} {r : Weighing} → by_weights_lem.Optimizes card weights word work workAfter answer answerAfter r
      → weighted_refusal card weights word (length work) ≡ 0 → CountsByWeights card weights word r
  -- the best by weights of the definition is the best of all lists
  pub best_by_weights_of_all : (card weights word : List ℕ) → card_refusal card ≡ 0 → BestOfAllByWeights card weights word
  -- no candidate has a smaller sum, and no sum wraps
  pub smallest_sum : (card weights word : List ℕ) → card_refusal card ≡ 0 → (b : Contender) → best_by_weights card weights word ≡ some b → (d : List Pair) → IsCandidate (machines_of card) word d
      → weighted_sum weights b.profile ≤ weighted_sum weights (profile_of (machines_of card) d)
  pub sum_fits : (card weights word : List ℕ) → card_refusal card ≡ 0 → sound_weights (machine_count card) weights ≡ true → length word ≤ 24
      → (b : Contender) → best_by_weights card weights word ≡ some b → weighted_sum weights b.profile ≤ 1152000000000000
  -- where this engine and the ranked one both answer, and each weight is more than c times the sum of those ranked below it, they give the same candidate
  -- and profile: there harmony is the order of the sums
  pub engines_agree : (ranking : List ℕ) {card weights word work workAfter answer after work' workAfter' answer' after' : List ℕ} {r : Evaluation} {s : Weighing}
      → Optimizes card ranking word work workAfter answer after r → by_weights_lem.Optimizes card weights word work' workAfter' answer' after' s → r.number ≡ 0 → s.evaluation.number ≡ 0
      → Outweighs (max (largest r.profile.counts) (largest s.evaluation.profile.counts)) weights ranking → agreeing.SameAnswer after after' r s
  pub dominance : (c : ℕ) (weights r v w : List ℕ) → is_ranking (length weights) r ≡ true → Outweighs c weights r → all_of (λ n. leb n c) v ≡ true → all_of (λ n. leb n c) w ≡ true → harmonic r v w ≡ by_sum weights v w
  -- a word whose best by weights no ranking gives
  pub gangs_up : GangsUp
  pub no_ranking_gives_it : (r : List ℕ) → is_ranking (machine_count weakening) r ≡ true → ¬ (best weakening r (1 ∷ []) ≡ best_by_weights weakening (1000 ∷ 1000 ∷ []) (1 ∷ []))
  -- ---- S-14: joining machines

  -- the new card is accepted, and a candidate is complete on it exactly when it is on the old, with the two counts added
  pub card_joined : (card : List ℕ) → card_refusal card ≡ 0 → (i j : ℕ) → MayJoin i j (machines_of card) → CardJoined i j card (joined_card i j card)
  -- it is what the call writes to the front of the target
  pub call_joins : (card target after : List ℕ) (a b : ℕ) (r : Packed) → r ≡ joining_answer card a b (length target) → after ≡ joining_target card a b target → r.number ≡ 0
      → (joining_refusal card a b (length target) ≡ 0) × (take r.length after ≡ joining card a b)
  pub call_joined : (card target after : List ℕ) (a b : ℕ) (r : Packed) → r ≡ joining_answer card a b (length target) → after ≡ joining_target card a b target → r.number ≡ 0
      → CardJoined (lower a b) (other a b) card (take r.length after)
  -- evaluation answers the same number, and where it is 0 the old profile with the two counts added
  pub same_evaluation : {card new : List ℕ} {i j : ℕ} (two : TwoCards i j card new) (bytes : List ℕ) → SameEvaluation i j (evaluating card bytes) (evaluating new bytes)
  -- input that the checks accept they accept on the new card, and both engines answer alike there
  pub input_too : {i j u : ℕ} {card new : List ℕ} (joins : CardJoins card i j) (joined : CardJoined i j card new) (unmarked : Unmarked i j u (machines_of card)) (ranking word : List ℕ) (room : ℕ)
      → input_refusal card ranking word room ≡ 0 → input_refusal new (joined_ranking i j u ranking) word room ≡ 0
  pub sets_input_too : {i j u : ℕ} {card new : List ℕ} (joins : CardJoins card i j) (joined : CardJoined i j card new) (unmarked : Unmarked i j u (machines_of card)) (ranking sets : List ℕ) (room : ℕ)
      → sets_input_refusal card ranking sets room ≡ 0 → sets_input_refusal new (joined_ranking i j u ranking) sets room ≡ 0
  pub join_keeps_answers : (card : List ℕ) (a b room : ℕ) (ok : joining_refusal card a b room ≡ 0) (u : ℕ) (unmarked : Unmarked (lower a b) (other a b) u (machines_of card)) (ranking : List ℕ)
      {word work workAfter newWork newWorkAfter answer after newAfter : List ℕ} {r s : Evaluation} → let new = joining card a b in let new_ranking = joined_ranking (lower a b) (other a b) u ranking in
      Optimizes card ranking word work workAfter answer after r → Optimizes new new_ranking word newWork newWorkAfter answer newAfter s → input_refusal card ranking word (length work) ≡ 0 → input_refusal new new_ranking word (length newWork) ≡ 0
      → SameAnswers (lower a b) (other a b) (machines_of card) (machines_of new) (IsBestCandidate ranking (machines_of card) word) (IsBestCandidate new_ranking (machines_of new) word) word answer after newAfter r s
  pub join_keeps_answers_sets : (card : List ℕ) (a b room : ℕ) (ok : joining_refusal card a b room ≡ 0) (u : ℕ) (unmarked : Unmarked (lower a b) (other a b) u (machines_of card)) (ranking : List ℕ)
      {sets work workAfter newWork newWorkAfter answer after newAfter : List ℕ} {r s : Evaluation} → let new = joining card a b in let new_ranking = joined_ranking (lower a b) (other a b) u ranking in
      OptimizesSets card ranking sets work workAfter answer after r → OptimizesSets new new_ranking sets newWork newWorkAfter answer newAfter s → sets_input_refusal card ranking sets (length work) ≡ 0 → sets_input_refusal new new_ranking sets (length newWork) ≡ 0
      → SameAnswers (lower a b) (other a b) (machines_of card) (machines_of new) (IsBestOfSets ranking (machines_of card) sets) (IsBestOfSets new_ranking (machines_of new) sets) sets answer after newAfter r s
  -- ---- Examples

  -- the ten of the requirements, those of the requests, the program's output, three verdicts
  pub the_ten_examples : TenExamples
  pub the_request_examples : RequestExamples
  pub the_program_examples : ProgramExamples
  pub the_three_verdicts : ThreeVerdicts
