-- The pairs with an input at the node that the walk has reached: which keep to the labels, and where the walk is after one. Assumes nothing.
use Rattle.std.specs.Prelude.{◌≡◌, ◌∷◌, ◌++◌, ◌⊎◌, ◌+◌, ◌*◌, ◌%◌, ◌<◌, ◌≤◌}
use Rattle.basics.proofs.Words.{sym, ◌∙◌, ap, subst, true, and-false, List, [], append_assoc, Option, some, none, inl, inr, ℕ, arith, length, get_or, take, length-set, length-append, ℕ_discrete, member, eq-eqb, ne_eqb, clash}
use Rattle.machine.specs.declared.Pair.{Pair}
use Rattle.machine.specs.Symbols.{empty_symbol, is_pair}
use Rattle.ranking.specs.Profiles.{merge}
use Rattle.ranking.specs.HarmonicInequality.{merge_count}
use Rattle.ranking.specs.Lemmas.Profiles.{counts_associative}
use Rattle.card.specs.Layout.{symbol_count}
use Rattle.card.specs.Card.{machines_of}
use Rattle.paths.specs.Costs.{Labels}
use Rattle.paths.specs.Ranked.{ranked_costs}
use Rattle.paths.specs.Walk.{Tight, LeastTight, Walking, walking_next, no_edge_not_tight}
use Rattle.product.specs.Nodes.{product, state_counts, states_of}
use Rattle.product.specs.ProductGraph.{pairs, card_start}
use Rattle.product.specs.Codes.{code_step}
use Rattle.product.specs.Laws.Codes.{priced_step, code_step_below}
use Rattle.product.specs.Laws.Letters.{PairAt, priced_over, letter_at}
use Rattle.product.specs.Laws.Setting.{few_nodes, symbols_few, node_below, node_position}
use Rattle.product.specs.Laws.JointStep.{joint_marks}
use Rattle.product.specs.Laws.Candidates.{starts}
use Rattle.product.specs.Laws.Following.{Following, following_room, pair_more}
use Rattle.tables.specs.Tables.{CardMachines}
use Rattle.tables.specs.Laws.Cards.{card_machines, start_below}
use Rattle.cells.specs.declared.Cell.{Cell}
use Rattle.cells.specs.Columns.{JointCell}
use Rattle.cells.specs.Labels.{OwnCell}
use Rattle.cells.specs.Trying.{label_from, cell_price}
use Rattle.entering.specs.Entering.{cell_graph}
use Rattle.tight.specs.declared.Least.{Least}
use Rattle.tight.specs.Labels.{cell_of, HasLabel}
use Rattle.tight.specs.Joint.{high_by, low_by}
use Rattle.tight.specs.Keeping.{Fits, KeepsAt, NoneBelow, LeastPre, LeastAt}
use Rattle.walk.specs.WalkLabels.{pair_count, Labelled}
use Rattle.passing.specs.Going.{GoPre, GoesOn}
use Rattle.walk.proofs.Sizes.{pairs_few, pairs_sized}
use Rattle.walk.proofs.Columns.{Told, HoldsAt, coded_by, marks_held, states_held, steps_few, weights_fit, joint_held}
use Rattle.walk.proofs.Tightness.{label_is, TightTo, keeps_tight, tight_keeps}
use Rattle.walk.proofs.Marks.{states_next, next_marks, marks_few}

-- labels that are in the slices, of `size` nodes to a position
pub record Ground (ranked sums card ws sets : List ℕ) (size : ℕ) (L : Labels (ranked_costs 1)) : Type 0 where
  pub labelled : Labelled card ws sets size L
  pub stored : (u : ℕ) → u < (length sets + 1) * size → L u ≡ label_from (cell_of ranked sums u)
  pub own : (u : ℕ) → u < (length sets + 1) * size → OwnCell (cell_of ranked sums u)
  pub fits : (u : ℕ) → u < (length sets + 1) * size → Fits (cell_of ranked sums u)

-- the node that is reached: its position, the code of its states, the states; its label; the pairs written and the marks passed
pub record At : Type 0 where
  pub position : ℕ
  pub code : ℕ
  pub states : List ℕ
  pub label : Cell
  pub pairs : ℕ
  pub passed : List ℕ

abbrev pub node_of : (position code : ℕ) (states : List ℕ) (high low pairs : ℕ) (passed : List ℕ) → At
node_of position code states high low pairs passed = record { position = position; code = code; states = states; label = record { high = high; low = low }; pairs = pairs; passed = passed }

-- a node is reached along the labels: its states, its label, the pairs written, and their marks, which are those passed
pub record Reached (card ws sets before answer : List ℕ) (size : ℕ) (L : Labels (ranked_costs 1)) (at : At) : Type 0 where
  pub position : at.position ≤ length sets
  pub code : at.code < size
  pub states_size : length at.states ≡ 6
  pub states : take (length (machines_of card)) at.states ≡ states_of (state_counts (machines_of card)) at.code
  pub follows : Following (cell_graph ws card sets) L pair_count (card_start card) before answer (at.position * size + at.code) at.pairs
  pub cell : OwnCell at.label
  pub label : label_from at.label ≡ some follows.rest
  pub marks : List ℕ
  pub goes_on : (qs : List Pair) (xs : List ℕ) → joint_marks (machines_of card) (states_of (state_counts (machines_of card)) at.code) qs ≡ some xs
      → joint_marks (machines_of card) (starts (machines_of card)) (follows.written ++ qs) ≡ some (merge marks xs)
  pub passed_size : length at.passed ≡ 6
  pub passed : (m : ℕ) → get_or at.passed m 0 ≡ get_or marks m 0
  pub few : (m : ℕ) → get_or marks m 0 ≤ 15 * at.pairs

pub reached_same : {card ws sets before answer answer' : List ℕ} {size : ℕ} {L : Labels (ranked_costs 1)} {at at' : At} → answer ≡ answer' → at ≡ at' → Reached card ws sets before answer' size L at' → Reached card ws sets before answer size L at
reached_same {card} {ws} {sets} {before} {size = size} {L} e d = subst (λ (z : List ℕ × At). Reached card ws sets before z.0 size L z.1) (λ i. (sym e i, sym d i))

module _ {ranked sums card ws sets : List ℕ} {size : ℕ} {L : Labels (ranked_costs 1)} (G : Ground ranked sums card ws sets size L) where
  K : Labelled card ws sets size L
  K = G.labelled

  M : CardMachines (symbol_count card) (machines_of card)
  M = card_machines card G.labelled.setting.accepted

  module _ {before answer : List ℕ} {at : At} (R : Reached card ws sets before answer size L at) where
    abbrev here : ℕ
    here = at.position * size + at.code

    code_there : at.code < product (state_counts (machines_of card))
    code_there = omega (arith, R.code, K.setting.states)

    -- few pairs are written
    pub pairs_written : at.pairs < 3200
    pairs_written =
        let b = node_below K.setting 0 (card_start card) (omega arith) (omega (arith, start_below card K.setting.accepted, K.setting.states)) in
        omega (arith, pairs_few K (card_start card) R.follows.cost b R.follows.cost_is, R.follows.walking.written, R.follows.count)

    -- a pair that keeps to the labels is one of the position's
    pub tight_pair : (q : Pair) → Tight (cell_graph ws card sets) L (at.position * size + at.code) q → PairAt card sets at.position q
    tight_pair q t = (letter_at (priced_over (cell_price ws) card sets K.setting.accepted) here q t.to at.position (node_position K.setting at.position at.code R.code) t.edge_is).pair

    -- ---- the pairs with the input x, which lead to the position j

    module _ {x j W kept : ℕ} {steps ps : List ℕ} (H : HoldsAt (machines_of card) at.code x W steps ps kept) (within : j ≤ length sets)
        (edges : (y : ℕ) → is_pair (record { input = x; output = y }) ≡ true → (cell_graph ws card sets).edge (at.position * size + at.code) (record { input = x; output = y }) ≡ priced_step (cell_price ws) (j * size) (code_step (machines_of card) at.code (record { input = x; output = y }))) where
      there : (c : ℕ) → c < size → j * size + c < (length sets + 1) * size
      there c b = node_below K.setting j (j * size + c) within (omega arith)

      joint : (y : ℕ) → y ≤ 64 → JointCell ws size (code_step (machines_of card) at.code (record { input = x; output = y })) (high_by steps ps ws W y) (low_by steps ps ws W y)
      joint y h = subst (λ (n : ℕ). JointCell ws n (code_step (machines_of card) at.code (record { input = x; output = y })) (high_by steps ps ws W y) (low_by steps ps ws W y)) (sym K.setting.states) (joint_held M H y h K.weights)

      pub least_pre : ((u : ℕ) → u < (length sets + 1) * size → HasLabel ranked sums u) → LeastPre at.label ranked sums steps ps ws (j * size) W
      least_pre nodes = record {
        columns = H.columns;
        small = H.small;
        weights = weights_fit M H 0 (omega arith) K.weights;
        label = (label_is at.label R.follows.rest R.label).there;
        leads = λ y h k.
            let J = joint y h in
            let b = there (high_by steps ps ws W y % 256) J.code in
            record { node = nodes (j * size + high_by steps ps ws W y % 256) b; few = omega (arith, b, few_nodes K.setting); fits = G.fits (j * size + high_by steps ps ws W y % 256) b; low_few = J.low_most };
      }

      abbrev Tights : ℕ → Type 0
      Tights y = Tight (cell_graph ws card sets) L (at.position * size + at.code) (record { input = x; output = y })

      owns : (c : ℕ) → c < size → OwnCell (cell_of ranked sums (j * size + c))
      owns c b = G.own (j * size + c) (there c b)

      are : (c : ℕ) → c < size → L (j * size + c) ≡ label_from (cell_of ranked sums (j * size + c))
      are c b = G.stored (j * size + c) (there c b)

      keeps_of : (y : ℕ) → y ≤ 64 → is_pair (record { input = x; output = y }) ≡ true → Tights y → KeepsAt at.label ranked sums steps ps ws (j * size) W y
      keeps_of y h k = tight_keeps K.weights.whole (joint y h) (cell_graph ws card sets) L here (j * size) (record { input = x; output = y }) (edges y k) (λ c. cell_of ranked sums (j * size + c)) owns are at.label R.cell R.follows.rest R.follows.walking.label R.label

      -- a pair is one where the kept outputs have no 0 with the empty input
      kept_pair : (y : ℕ) → member kept y ≡ true → is_pair (record { input = x; output = y }) ≡ true
      kept_pair y m = go (ℕ_discrete x 0)
        where
          go : Dec (x ≡ empty_symbol) → is_pair (record { input = x; output = y }) ≡ true
          go (no n) = rw (ne_eqb x 0 n)
          go (yes e) = rw (ne_eqb y empty_symbol (λ z. clash m (rw z (H.no_pair e))), and-false)

      -- where none of the kept outputs below a number keeps to the labels, no pair below it does
      none_below : (top : ℕ) → top ≤ 64 → ((y : ℕ) → y < top → member kept y ≡ true → ¬ (KeepsAt at.label ranked sums steps ps ws (j * size) W y)) → (q : Pair) → q.input ≡ x → q.output < top → ¬ (Tight (cell_graph ws card sets) L (at.position * size + at.code) q)
      none_below top few f q e h t = go (H.covers q.output (omega arith))
        where
          same : q ≡ record { input = x; output = q.output }
          same = λ k. record { input = e k; output = q.output }

          pair : is_pair (record { input = x; output = q.output }) ≡ true
          pair = ap is_pair (sym same) ∙ (tight_pair q t).is_pair_lem

          tight : Tights q.output
          tight = subst (Tight (cell_graph ws card sets) L here) same t

          go : ((x ≡ empty_symbol) × (q.output ≡ empty_symbol)) ⊎ ((code_step (machines_of card) at.code (record { input = x; output = q.output }) ≡ none) ⊎ Told (machines_of card) at.code x kept q.output) → ⊥
          go (inl z) = clash pair (rw (eq-eqb x 0 z.0, eq-eqb q.output 0 z.1))
          go (inr (inl n)) = no_edge_not_tight (cell_graph ws card sets) L (edges q.output pair ∙ ap (priced_step (cell_price ws) (j * size)) n) tight
          go (inr (inr k)) =
              f k.other (omega (arith, k.before)) k.is_kept_lem
              (keeps_of k.other (omega (arith, k.before)) (kept_pair k.other k.is_kept_lem)
              (record {
                to = tight.to;
                rest = tight.rest;
                edge_is = edges k.other (kept_pair k.other k.is_kept_lem) ∙ ap (priced_step (cell_price ws) (j * size)) k.same ∙ sym (edges q.output pair) ∙ tight.edge_is;
                rest_is = tight.rest_is;
                label_is = tight.label_is;
              }))

      -- ---- the least output found, or none

      pub none_least : NoneBelow at.label ranked sums steps ps ws (j * size) W kept 64 → (q : Pair) → q.input ≡ x → ¬ (Tight (cell_graph ws card sets) L (at.position * size + at.code) q)
      none_least f q z t = none_below 64 (omega arith) f q z (omega (arith, (tight_pair q t).output_there, symbols_few K.setting)) t

      module _ {r : Least} (F : LeastAt at.label ranked sums steps ps ws (j * size) W kept r) where
        most : r.output ≤ 64
        most = omega (arith, F.few)

        pair_found : is_pair (record { input = x; output = r.output }) ≡ true
        pair_found = kept_pair r.output F.inside

        found : TightTo K.weights.whole (joint r.output most) (cell_graph ws card sets) L here (j * size) (record { input = x; output = r.output }) (edges r.output pair_found) (λ c. cell_of ranked sums (j * size + c)) owns are at.label R.cell R.follows.rest R.follows.walking.label R.label
        found = keeps_tight K.weights.whole (joint r.output most) (cell_graph ws card sets) L here (j * size) (record { input = x; output = r.output }) (edges r.output pair_found) (λ c. cell_of ranked sums (j * size + c)) owns are at.label R.cell R.follows.rest R.follows.walking.label R.label F.keeps

        pub found_passed : (q : Pair) → q.input ≡ x → q.output < r.output → ¬ (Tight (cell_graph ws card sets) L (at.position * size + at.code) q)
        found_passed = none_below r.output most F.passed

        code_found : r.code ≡ found.move.target
        code_found = F.code ∙ found.code

        label_found : record { high = r.high; low = r.low } ≡ cell_of ranked sums (j * size + high_by steps ps ws W r.output % 256)
        label_found = F.label ∙ ap (λ (c : ℕ). cell_of ranked sums (j * size + c)) F.code

        -- one pair less is left
        pub low_falls : r.low < at.label.low
        low_falls = omega (arith, ap (λ (c : Cell). c.low) label_found, F.keeps.low_sum)

        module _ (least : (q : Pair) → pairs.◌◃◌ q (record { input = x; output = r.output }) → ¬ (Tight (cell_graph ws card sets) L (at.position * size + at.code) q)) where
          abbrev t : LeastTight (cell_graph ws card sets) L (at.position * size + at.code) (record { input = x; output = r.output })
          t = record { tight = found.tight; least = least }

          pub go_pre : GoPre at.states at.passed steps ps answer W r.output at.pairs
          go_pre = record {
            moves = record { columns = H.columns; output = most; there = steps_few M H r.output most found.move found.move_is };
            output = F.few;
            marks_fit = record { size = R.passed_size; fits = λ m. omega (arith, R.passed m, R.few m, pairs_written) };
            size = R.states_size;
            room = following_room (cell_graph ws card sets) L (card_start card) before (pairs_sized K) R.follows t;
            few = omega (arith, pairs_written);
          }

          module _ {states' marks' answer' : List ℕ} (E : GoesOn at.passed steps ps answer states' marks' answer' W x r.output at.pairs) where
            node_next : found.tight.to.target ≡ j * size + r.code
            node_next = found.target ∙ ap (λ (c : ℕ). j * size + c) (sym F.code)

            sums_next : (m : ℕ) → get_or marks' m 0 ≡ get_or at.passed m 0 + get_or found.move.marks m 0
            sums_next m = E.added.sums m ∙ ap (λ (l : List ℕ). get_or at.passed m 0 + get_or l m 0) (marks_held M H r.output most found.move found.move_is)

            states_after : take (length (machines_of card)) states' ≡ states_of (state_counts (machines_of card)) r.code
            states_after =
                ap (λ (n : ℕ). take n states') (sym H.places)
                ∙ E.moved.are
                ∙ states_held M H r.output most found.move found.move_is
                ∙ sym (states_next M at.code (record { input = x; output = r.output }) found.move found.move_is (coded_by (machines_of card) at.code (record { input = x; output = r.output }) found.move found.move_is))
                ∙ ap (states_of (state_counts (machines_of card))) (sym code_found)

            pub goes_next : Reached card ws sets before answer' size L (node_of j r.code states' r.high r.low (at.pairs + 1) marks')
            goes_next = record {
              position = within;
              code = omega (arith, code_found, code_step_below M.sound at.code (record { input = x; output = r.output }) found.move found.move_is, K.setting.states);
              states_size = E.moved.size;
              states = states_after;
              follows = record {
                cost = R.follows.cost;
                cost_is = R.follows.cost_is;
                fits = R.follows.fits;
                written = R.follows.written ++ record { input = x; output = r.output } ∷ [];
                count = omega (arith, R.follows.count, length-append R.follows.written (record { input = x; output = r.output } ∷ []));
                bytes = E.bytes ∙ pair_more R.follows.written (record { input = x; output = r.output }) before answer at.pairs R.follows.count (omega (arith, go_pre.room, R.follows.answer_size)) R.follows.bytes;
                answer_size = ap length E.bytes ∙ simp length-set R.follows.answer_size;
                rest = found.tight.rest;
                walking = subst (λ (n : ℕ). Walking (cell_graph ws card sets) L pair_count (card_start card) R.follows.cost (R.follows.written ++ record { input = x; output = r.output } ∷ []) n found.tight.rest) node_next
                    (walking_next (cell_graph ws card sets) L (pairs_sized K) (card_start card) R.follows.cost R.follows.written here R.follows.rest (record { input = x; output = r.output }) R.follows.walking t);
              };
              cell = subst OwnCell (sym label_found) (owns (high_by steps ps ws W r.output % 256) (joint r.output most).code);
              label = ap label_from label_found ∙ found.rest;
              marks = merge R.marks found.move.marks;
              goes_on = goes_on;
              passed_size = E.added.size;
              passed = λ m. omega (arith, sums_next m, R.passed m, merge_count R.marks found.move.marks m);
              few = λ m. omega (arith, R.few m, marks_few M at.code (record { input = x; output = r.output }) found.move found.move_is m, merge_count R.marks found.move.marks m);
            }
              where
                goes_on : (qs : List Pair) (xs : List ℕ) → joint_marks (machines_of card) (states_of (state_counts (machines_of card)) r.code) qs ≡ some xs
                    → joint_marks (machines_of card) (starts (machines_of card)) ((R.follows.written ++ record { input = x; output = r.output } ∷ []) ++ qs) ≡ some (merge (merge R.marks found.move.marks) xs)
                goes_on qs xs h =
                    let n = next_marks M at.code (record { input = x; output = r.output }) found.move found.move_is qs xs (ap (λ (c : ℕ). joint_marks (machines_of card) (states_of (state_counts (machines_of card)) c) qs) (sym code_found) ∙ h) in
                    ap (joint_marks (machines_of card) (starts (machines_of card))) (append_assoc R.follows.written (record { input = x; output = r.output } ∷ []) qs)
                    ∙ R.goes_on (record { input = x; output = r.output } ∷ qs) (merge found.move.marks xs) n
                    ∙ ap {B = Option (List ℕ)} some (sym (counts_associative R.marks found.move.marks xs))
