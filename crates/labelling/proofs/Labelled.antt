-- The labels of the positions that are done, as the work slices and the labels of the next position have them.
use Rattle.std.specs.Prelude.{◌≡◌, ◌+◌, ◌*◌, ◌-◌, ◌<◌, ◌≤◌}
use Rattle.basics.specs.Words.{refl, sym, ◌∙◌, ap, subst, List, Option, none, Option·none-ne-some, inr, ℕ, suc, arith, length, List·getD-eq-default, suc-mul, mul-le-mul_right, ℕ_discrete}
use Rattle.paths.specs.Costs.{Labels}
use Rattle.paths.specs.Ranked.{Ranked, ranked_costs}
use Rattle.paths.specs.Positions.{Done, done_start}
use Rattle.product.specs.Setting.{position_of, Setting}
use Rattle.product.specs.Laws.Setting.{node_low, node_high}
use Rattle.product.specs.Laws.Letters.{over_positioned, priced_over}
use Rattle.tables.proofs.Work.{past_end}
use Rattle.tables.specs.SumLabels as sumLabels
use Rattle.tables.proofs.SumLabels.{label_none}
use Rattle.settling.specs.Packing.{packed_path}
use Rattle.cells.specs.Labels.{cell_at, next_cell}
use Rattle.cells.specs.Trying.{label_from, cell_price}
use Rattle.cells.specs.Laws.Position.{placed, placed_in, placed_after}
use Rattle.entering.specs.Entering.{cell_graph}
use Rattle.closing.specs.CountsPacking.{counts_packing}
use Rattle.closing.specs.Closing.{Held, ClosedAt}
use Rattle.labelling.specs.Labelling.{Room, Labelled}

-- what entering the position before i reads has the labels of the position i
pub record Followed (next : List ℕ) (P i : ℕ) (L : Labels (ranked_costs 1)) : Type 0 where
  pub labels : (t : ℕ) → t < P → L (i * P + t) ≡ label_from (next_cell next t)

-- past the slices there is no label
past_held : {ranked sums : List ℕ} {n : ℕ} → Room ranked sums n → (u : ℕ) → n ≤ u → Held ranked sums u none
past_held {ranked} {sums} {n} R u h = record {
  counts = λ e.
      let is = past_end ranked u (omega (arith, R.counts e)) in
      record { stored = ap (packed_path counts_packing) (sym is); short = λ c l. absurd (Option·none-ne-some c (sym is ∙ l)) };
  in_sum = λ z. sym (ap sumLabels.label_from (List·getD-eq-default sums sumLabels.no_label (omega (arith, R.in_sums z))) ∙ label_none sumLabels.no_label (omega arith));
}

module _ {card ws sets : List ℕ} {P : ℕ} (s : Setting card sets P) where
  -- past the last position there is nothing
  pub labelled_start : {ranked sums : List ℕ} → Room ranked sums ((length sets + 1) * P) → Labelled card ws sets ranked sums (suc (length sets)) (λ _. none)
  labelled_start R = record {
    done = done_start (cell_graph ws card sets) (position_of card) (over_positioned (priced_over (cell_price ws) card sets s.accepted)) (λ _. none) (λ u. refl);
    held = λ u h. past_held R u (past u h);
  }
    where
      past : (u : ℕ) → suc (length sets) ≤ position_of card u → (length sets + 1) * P ≤ u
      past u h =
          let m : suc (length sets) * P ≤ position_of card u * P = mul-le-mul_right P h in
          let q : (length sets + 1) * P ≡ suc (length sets) * P = ap (λ (k : ℕ). k * P) (omega arith) in
          omega (arith, node_low s u (position_of card u) refl)

  module _ {ranked sums : List ℕ} {i : ℕ} {L : Labels (ranked_costs 1)} (A : Labelled card ws sets ranked sums (suc i) L) where
    -- closing a position that is done: one position more
    pub labelled_next : {ranked' sums' own own' next next' : List ℕ} → Done (cell_graph ws card sets) (position_of card) (placed (i * P) P L (cell_at own)) i
        → ClosedAt ranked ranked' sums sums' own own' next next' (i * P) P → Labelled card ws sets ranked' sums' i (placed (i * P) P L (cell_at own))
    labelled_next {ranked'} {sums'} {own} D C = record { done = D; held = λ u h. held u h (ℕ_discrete (position_of card u) i) }
      where
        held : (u : ℕ) → i ≤ position_of card u → Dec (position_of card u ≡ i) → Held ranked' sums' u (placed (i * P) P L (cell_at own) u)
        held u h (yes e) =
            let b : u - i * P < P = omega (arith, node_low s u i e, node_high s u i e) in
            let q : i * P + (u - i * P) ≡ u = omega (arith, node_low s u i e) in
            subst (λ (w : ℕ). Held ranked' sums' w (placed (i * P) P L (cell_at own) w)) q
            (subst (λ (o : Option (Ranked 1)). Held ranked' sums' (i * P + (u - i * P)) o) (sym (placed_in (i * P) P L (cell_at own) (u - i * P) b)) (C.written.held (u - i * P) b))
        held u h (no n) =
            let m : suc i * P ≤ position_of card u * P = mul-le-mul_right P (omega arith) in
            let b : i * P + P ≤ u = omega (arith, suc-mul i P, node_low s u (position_of card u) refl) in
            subst (λ (o : Option (Ranked 1)). Held ranked' sums' u o) (sym (placed_after (i * P) P L (cell_at own) u b)) (C.written.others u (L u) (inr b) (A.held u (omega arith)))
