-- What the walk of the best candidate is given, and what it writes. Assumes nothing.
use Rattle.std.specs.Prelude.{◌≡◌, ◌+◌, ◌*◌, ◌≤◌}
use Rattle.basics.specs.Words.{sym, ◌∙◌, ap, subst, List, ℕ, arith, length, take, length-take-le}
use Rattle.card.specs.Layout.{machine_count}
use Rattle.card.specs.Card.{machines_of}
use Rattle.card.specs.Accepted.{accepted}
use Rattle.paths.specs.Costs.{Labels}
use Rattle.paths.specs.Ranked.{ranked_costs}
use Rattle.product.specs.Nodes.{product, state_counts}
use Rattle.product.specs.ProductGraph.{card_start}
use Rattle.product.specs.Setting.{Setting}
use Rattle.tables.specs.Work.{cost_at}
use Rattle.tables.specs.Places.{six_places}
use Rattle.tables.proofs.Prefix.{front_is, front_length}
use Rattle.cells.specs.Columns.{WeightsOf}
use Rattle.insertions.specs.RankedWeights.{RankedWeights}
use Rattle.labelling.specs.Labelling.{LabelPre}
use Rattle.walk.specs.declared.Written.{Written}
use Rattle.walk.specs.WalkLabels.{WalkLabels, WalkPre}
use Rattle.walk.specs.Walked.{Walked}
use Rattle.walk.specs.RankedBest.{RankedWalked, ranked_walk_labels, ranked_walk_pre, ranked_walked}
use Rattle.readout.specs.Searching.{BestPre}

pub label_pre : {card ranking sets work : List ℕ} {size room : ℕ} → BestPre card ranking sets work size room → LabelPre card ranking sets work size
label_pre Q = record { setting = Q.sets_pre.setting; ranks = Q.sets_pre.ranks; room = Q.sets_pre.room }

-- the state counts of k machines are at the front of r, and their weights at the front of `ws`
module _ {card ranking sets work : List ℕ} {size room : ℕ} (Q : BestPre card ranking sets work size room) (r : List ℕ) (k : ℕ) (q : k ≡ machine_count card) (e : take (machine_count card) r ≡ state_counts (machines_of card)) (ws : List ℕ)
    (ensured : WeightsOf (take k r) (take (3 * length (take k r)) ws) × RankedWeights (six_places ranking) (take (3 * length (take k r)) ws) × (length ws ≡ 18)) where
  are : take k r ≡ state_counts (machines_of card)
  are = front_is card Q.sets_pre.setting.accepted r k q e

  three : take (3 * length (take k r)) ws ≡ take (3 * k) ws
  three = ap (λ (n : ℕ). take (3 * n) ws) (sym (front_length card Q.sets_pre.setting.accepted r k q e))

  weights : WeightsOf (state_counts (machines_of card)) (take (3 * k) ws)
  weights = subst (λ (l : List ℕ). WeightsOf l (take (3 * k) ws)) are (subst (λ (ws : List ℕ). WeightsOf (take k r) ws) three ensured.0)

  by_ranking_lem : RankedWeights (six_places ranking) (take (3 * k) ws)
  by_ranking_lem = subst (λ (ws : List ℕ). RankedWeights (six_places ranking) ws) three ensured.1

  size_is : size ≡ product (take k r)
  size_is = Q.sets_pre.setting.states ∙ ap product (sym are)

  setting : Setting card sets (product (take k r))
  setting = subst (λ (n : ℕ). Setting card sets n) size_is Q.sets_pre.setting

  -- the weights are there
  pub weights_fit : 3 * k ≤ length ws
  weights_fit = omega (arith, q, (accepted card Q.sets_pre.setting.accepted).head.counts.machines, ensured.2)

  pub weights_length : 3 * k ≡ length (take (3 * k) ws)
  weights_length = sym (length-take-le (3 * k) ws weights_fit)

  -- there are no sums, since the labels are counts
  module _ (sums : List ℕ) (no-sums : length sums ≡ 0) where
    pub walk_pre : WalkPre work sums card (take k r) (take (3 * k) ws) sets size room
    walk_pre =
        ranked_walk_pre (take k r) setting ranking weights by_ranking_lem work Q.done.done (cost_at work (card_start card)) Q.start.label_is sums no-sums room Q.start.fits are size size_is
        (Q.sets_pre.room ∙ ap (λ (n : ℕ). (length sets + 1) * n * 8) size_is)

    pub best_walked : {before after : List ℕ} {w : Written} → ((L : Labels (ranked_costs 1)) → WalkLabels work sums card (take k r) (take (3 * k) ws) sets room L → Walked card (take (3 * k) ws) sets before after L w)
        → RankedWalked card ranking sets before after (cost_at work (card_start card)) w
    best_walked {before} {after} {w} h =
        ranked_walked (take k r) setting ranking weights by_ranking_lem work Q.done.done (cost_at work (card_start card)) Q.start.label_is before after w
        (h _ (ranked_walk_labels (take k r) setting ranking weights by_ranking_lem work Q.done.done (cost_at work (card_start card)) Q.start.label_is sums no-sums room Q.start.fits))
