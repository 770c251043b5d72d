-- The walk by weights: the sums in the work slice are the labels that it asks for, and the list that it writes is the best by weights.
use Rattle.std.specs.Prelude.{◌≡◌, ◌+◌, ◌*◌, ◌/◌, ◌%◌, ◌^◌, ◌<◌, ◌≤◌}
use Rattle.basics.specs.Words.{refl, sym, ◌∙◌, ap, subst, true, List, [], Option, some, ℕ, arith, length, get_or, dec_lt}
use Rattle.std.proofs.Common.{ne_eqb, lt-ltb, le-ltb}
use Rattle.card.specs.Layout.{machine_count}
use Rattle.card.specs.Card.{machines_of}
use Rattle.paths.specs.Costs.{Labels}
use Rattle.paths.specs.Ranked.{Ranked, ranked_costs}
use Rattle.paths.specs.Graph.{path_cost}
use Rattle.paths.specs.Best.{IsBest}
use Rattle.paths.specs.Positions.{Done}
use Rattle.product.specs.Nodes.{product, state_counts}
use Rattle.product.specs.ProductGraph.{card_start}
use Rattle.product.specs.Setting.{position_of, Setting}
use Rattle.cells.specs.declared.Cell.{Cell}
use Rattle.cells.specs.Columns.{WeightsOf}
use Rattle.cells.specs.Labels.{OwnCell}
use Rattle.cells.specs.Trying.{label_from}
use Rattle.cells.specs.Laws.Trying.{label_there, label_none}
use Rattle.entering.specs.Entering.{cell_graph}
use Rattle.product.specs.Weights.{sound_weights}
use Rattle.product.specs.WeightedPaths.{weighted_graph}
use Rattle.tables.specs.SumLabels.{no_label, cost_of, label_of}
use Rattle.tables.specs.SumLabels as numbers
use Rattle.tables.proofs.SumLabels as sums
use Rattle.weighted.specs.WeighsBy.{WeighsBy}
use Rattle.weighted.specs.Laws.Sound.{sound_are}
use Rattle.weighted.specs.Laws.Room.{weighted_room}
use Rattle.weighted.specs.Laws.Done.{cells_done, weighted_cost, weighted_best}
use Rattle.walk.specs.declared.Written.{Written}
use Rattle.tight.specs.Labels.{no_cell, sum_cell, cell_of, HasLabel}
use Rattle.tight.specs.Keeping.{Fits}
use Rattle.walk.specs.WalkLabels.{WalkLabels, WalkPre}
use Rattle.walk.specs.Walked.{Walked}

-- ---- the cell of a sum

-- a cell has this label, as the walk asks for it
record HasCell (l : Option (Ranked 1)) (y : Cell) : Type 0 where
  stored : l ≡ label_from y
  own : OwnCell y
  fits : Fits y

module _ (x : ℕ) where
  abbrev cell : Cell
  cell = record { high = x / 4096 * 256 + 255; low = x % 4096 }

  some_cell : x < no_label → x / 4096 * 256 + 255 < 2 ^ 59 → HasCell (numbers.label_from x) cell
  some_cell h few = record {
    stored = sums.label_some x h ∙ ap some same ∙ sym (label_there cell (omega arith));
    own = record { last = omega arith; most = omega arith; empty = λ e. absurd (omega (arith, e)) };
    fits = record { high_fits = omega arith; low_fits = omega arith };
  }
    where
      same : ◌≡◌ {A = Ranked 1} (cost_of x) (cell.high / 256, cell.low)
      same = let q : x / 4096 ≡ (x / 4096 * 256 + 255) / 256 = omega arith in λ i. (q i, x % 4096)

  no_cell_lem : no_label ≤ x → HasCell (numbers.label_from x) no_cell
  no_cell_lem h = record {
    stored = sums.label_none x h ∙ sym (label_none no_cell (omega arith));
    own = record { last = refl; most = omega arith; empty = λ e. refl };
    fits = record { high_fits = omega arith; low_fits = omega arith };
  }

module _ {card sets : List ℕ} (work counts : List ℕ) (s : Setting card sets (product counts)) (weights : List ℕ) (sound : sound_weights (machine_count card) weights ≡ true) (nodes : length work ≡ (length sets + 1) * product counts) (D : Done (weighted_graph card weights sets) (position_of card) (label_of work) 0)
    (counts_are : counts ≡ state_counts (machines_of card)) {ws : List ℕ} (Z : WeightsOf counts ws) (W : WeighsBy weights ws) where
  done : Done (cell_graph ws card sets) (position_of card) (label_of work) 0
  done = cells_done W card sets D

  own_weights : WeightsOf (state_counts (machines_of card)) ws
  own_weights = subst (λ (qs : List ℕ). WeightsOf qs ws) counts_are Z

  module _ (u : ℕ) (h : u < (length sets + 1) * product counts) where
    by_sums : cell_of [] work u ≡ sum_cell work u
    unfolding cell_of
    by_sums = rw (ne_eqb (length work) 0 (λ e. omega (arith, nodes)))

    its_cell : HasCell (label_of work u) (sum_cell work u)
    its_cell = go (dec_lt (get_or work u 0) no_label)
      where
        stored : label_of work u ≡ numbers.label_from (get_or work u 0)
        stored = sums.label_at work u (omega (arith, nodes))

        go : Dec (get_or work u 0 < no_label) → HasCell (label_of work u) (sum_cell work u)
        go (yes k) =
            let r = weighted_room s (sound_are (machine_count card) weights sound) own_weights W done.attained u (cost_of (get_or work u 0)) h (stored ∙ sums.label_some (get_or work u 0) k) in
            rw (stored, lt-ltb (get_or work u 0) no_label k) (some_cell (get_or work u 0) k (omega (arith, r.high)))
        go (no k) = rw (stored, le-ltb (get_or work u 0) no_label (omega arith)) (no_cell_lem (get_or work u 0) (omega arith))

    has_cell : HasCell (label_of work u) (cell_of [] work u)
    has_cell = subst (λ (y : Cell). HasCell (label_of work u) y) (sym by_sums) its_cell

    pub has_label : HasLabel [] work u
    has_label = record { by_counts = λ e. absurd (omega (arith, nodes)); by_sums = λ n. omega (arith, nodes) }

  -- the start has a label, and the answer has room for its pairs
  module _ (room : ℕ) (c : Ranked 1) (start : label_of work (card_start card) ≡ some c) (fits : 2 * c.1 ≤ room) where
    pub weighted_walk_labels : WalkLabels [] work card counts ws sets room (label_of work)
    weighted_walk_labels = record {
      labelled = record {
        setting = s;
        weights = own_weights;
        pairs = λ m. ap (λ (n : ℕ). n % 65536) (W.low m);
        closed = λ u. done.closed u (omega arith);
        attained = done.attained;
      };
      stored = λ u h. (has_cell u h).stored;
      own = λ u h. (has_cell u h).own;
      fits = λ u h. (has_cell u h).fits;
      cost = c;
      cost_is = start;
      answer_fits_lem = omega arith;
    }

    pub weighted_walk_pre : {size : ℕ} → size ≡ product counts → WalkPre [] work card counts ws sets size room
    weighted_walk_pre e = record { labels = label_of work; walk_labels = weighted_walk_labels; counts_are = counts_are; size_is = e; nodes = has_label }

-- what the walk writes costs by weights what it costs by two numbers
pub weighted_walked : {card weights ws sets before after : List ℕ} {L : Labels (ranked_costs 1)} {r : Written} → WeighsBy weights ws → (w : Walked card ws sets before after L r)
    → IsBest (weighted_graph card weights sets) (card_start card) w.best × (path_cost (weighted_graph card weights sets) (card_start card) w.best ≡ L (card_start card))
weighted_walked {card} {sets = sets} W w = (weighted_best W card sets (card_start card) w.best w.is_best, sym (weighted_cost W card sets (card_start card) w.best) ∙ w.costs)
