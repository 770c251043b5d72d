-- One position after the other.
use Rattle.std.specs.Prelude.{◌≡◌, ◌+◌, ◌-◌, ◌*◌, ◌<◌, ◌≤◌}
use Rattle.basics.specs.Words.{refl, sym, ◌∙◌, ap, subst, List, none, ℕ, suc, arith, length, get_or, take, replicate, get_or-replicate, length-replicate, List·getD-eq-default, eqb, mul-le-mul_right, dec_lt}
use Rattle.card.specs.Card.{machines_of}
use Rattle.paths.specs.Positions.{Entered}
use Rattle.product.specs.Nodes.{state_counts, product}
use Rattle.product.specs.Setting.{position_of, Setting}
use Rattle.product.specs.Laws.Setting.{few_nodes}
use Rattle.cells.specs.declared.Groups.{Groups}
use Rattle.cells.specs.Columns.{WeightsOf}
use Rattle.cells.specs.Groups.{GroupsOf}
use Rattle.cells.specs.Cells.{places}
use Rattle.cells.specs.Labels.{cell_at, NextFits}
use Rattle.cells.specs.Laws.Position.{placed}
use Rattle.entering.specs.Entering.{cell_graph, Ready, Blank, Position, NextRoom, SymbolsEntered, EndingsEntered}
use Rattle.grid.specs.declared.Grid.{Grid}
use Rattle.labelling.specs.Kinds.{in_counts}
use Rattle.labelling.specs.Labelling.{Room, PositionsPre, Labelled, FinishPre, Finished, AllLabelled}
use Rattle.labelling.proofs.Sizes.{counts_are, counts_few, size_is}
use Rattle.labelling.proofs.Labelled.{labelled_start}
use Rattle.labelling.proofs.Finishing.{PositionClosed, finish_ready, finished}

-- slices of other contents and the same lengths
room_kept : {ranked ranked' sums sums' : List ℕ} {n : ℕ} → length ranked' ≡ length ranked → length sums' ≡ length sums → Room ranked sums n → Room ranked' sums' n
room_kept r s R = record { counts = λ e. r ∙ R.counts (sym s ∙ e); in_sums = λ z. s ∙ R.in_sums (λ e. z (s ∙ e)) }

kind_kept : (sums sums' : List ℕ) → length sums' ≡ length sums → in_counts sums ≡ in_counts sums'
kind_kept sums sums' s = ap (λ (n : ℕ). eqb n 0) (sym s)

module _ {ranked sums card : List ℕ} {grid : Grid} {ws hs sets steps entries ends : List ℕ} (Z : PositionsPre ranked sums card grid ws hs sets steps entries ends) where
  its_setting : Setting card sets grid.size
  its_setting = Z.search.setting

  pub enter_ready : {own steps' : List ℕ} {W : ℕ} {g : Groups} → W ≡ places (take grid.machines grid.counts) → length steps' ≡ length steps → length own ≡ 256
      → GroupsOf (take grid.machines grid.counts) g × (g.front + g.back ≤ 66) → Ready card (take grid.machines grid.counts) ws own steps' W g
  enter_ready {W = W} w e z G = record {
    accepted = its_setting.accepted;
    counts_are = counts_are its_setting.accepted Z.search.grid_of;
    width = w;
    weights = subst (λ (l : List ℕ). WeightsOf l ws) (sym (counts_are its_setting.accepted Z.search.grid_of)) Z.search.order_pre.weights;
    groups = G.0;
    few = G.1;
    room = omega (arith, Z.columns, w, Z.search.grid_of.states, ap places (counts_are its_setting.accepted Z.search.grid_of));
    size = z;
  }

  pub base_few : (i : ℕ) → i ≤ length sets → i * grid.size ≤ 3200
  base_few i h =
      let m : i * grid.size ≤ (length sets + 1) * grid.size = mul-le-mul_right grid.size (omega arith) in
      omega (arith, few_nodes its_setting)

  position_of_lem : {own : List ℕ} → Position own (product (state_counts (machines_of card))) → Position own grid.size
  position_of_lem {own} A = subst (λ (n : ℕ). Position own n) (sym its_setting.states) A

  few_machines : length (take grid.machines grid.counts) ≤ 6
  few_machines = counts_few its_setting.accepted Z.search.grid_of

  -- ---- the last position
  module _ {own next : List ℕ} (E : EndingsEntered card ws own) where
    pub last_ready : length next ≡ 256 → FinishPre ranked sums hs own next entries ends (length sets * grid.size) grid.size
    last_ready e =
        finish_ready its_setting Z.search.order_pre Z.prepared Z.listed (omega arith) (λ _. none) (position_of_lem E.position) (E.entered sets grid.size its_setting) refl Z.search.room e

    pub last_closed : {ranked' sums' own' next' : List ℕ} → NextFits next → Finished ranked ranked' sums sums' hs own own' next next' entries ends (length sets * grid.size) grid.size
        → PositionClosed card ws sets ranked' sums' own' next' (length (take grid.machines grid.counts)) grid.size (length sets)
    last_closed N F =
        finished its_setting Z.search.order_pre Z.prepared Z.listed (omega arith) (λ _. none) (position_of_lem E.position) (E.entered sets grid.size its_setting) {ranked = ranked} {sums = sums} refl
        (length (take grid.machines grid.counts)) few_machines (labelled_start its_setting Z.search.room) N F

  -- ---- another one
  module _ {ranked' sums' own next : List ℕ} {i : ℕ} (below : i < length sets)
      (B : PositionClosed card ws sets ranked' sums' own next (length (take grid.machines grid.counts)) grid.size (suc i)) where
    pub blank_there : Blank own (product (take grid.machines grid.counts))
    blank_there c h = B.blank c (omega (arith, size_is its_setting.accepted Z.search.grid_of))

    pub next_there : NextRoom next ws (length (take grid.machines grid.counts)) (product (take grid.machines grid.counts))
    next_there = subst (λ (n : ℕ). NextRoom next ws (length (take grid.machines grid.counts)) n) (size_is its_setting.accepted Z.search.grid_of) B.room

    module _ {own' : List ℕ} (E : SymbolsEntered card ws own' next (get_or sets i 0)) (sums_size : length sums' ≡ length sums) where
      entered : Entered (cell_graph ws card sets) (position_of card) (placed (i * grid.size) grid.size B.labels (cell_at own')) i
      entered =
          let q : i + 1 ≡ suc i = omega arith in
          E.entered sets grid.size i B.labels its_setting below refl B.labelled.done (λ t h. ap (λ (n : ℕ). B.labels (n * grid.size + t)) q ∙ B.followed.labels t h)

      pub symbols_ready : length ranked' ≡ length ranked → FinishPre ranked' sums' hs own' next entries ends (i * grid.size) grid.size
      symbols_ready ranked_size =
          finish_ready its_setting Z.search.order_pre Z.prepared Z.listed (omega arith) B.labels (position_of_lem E.position) entered (kind_kept sums sums' sums_size) (room_kept ranked_size sums_size Z.search.room) B.next_size

      pub symbols_closed : {ranked'' sums'' own'' next'' : List ℕ} → Finished ranked' ranked'' sums' sums'' hs own' own'' next next'' entries ends (i * grid.size) grid.size
          → PositionClosed card ws sets ranked'' sums'' own'' next'' (length (take grid.machines grid.counts)) grid.size i
      symbols_closed F =
          finished its_setting Z.search.order_pre Z.prepared Z.listed (omega arith) B.labels (position_of_lem E.position) entered {ranked = ranked'} {sums = sums'} (kind_kept sums sums' sums_size)
          (length (take grid.machines grid.counts)) few_machines B.labelled B.room.fits F

-- all positions are closed
pub all_closed : {card ws sets ranked ranked' sums sums' own next : List ℕ} {K P i : ℕ} → i ≤ 0 → length ranked' ≡ length ranked → length sums' ≡ length sums → PositionClosed card ws sets ranked' sums' own next K P i
    → AllLabelled card ws sets ranked ranked' sums sums'
all_closed {card} {ws} {sets} {ranked' = ranked'} {sums' = sums'} {i = i} h r s B =
    let q : i ≡ 0 = omega arith in
    record { ranked_size = r; sums_size = s; labels = B.labels; labelled = subst (λ (n : ℕ). Labelled card ws sets ranked' sums' n B.labels) q B.labelled }

-- a position before another one
pub one_before : {card ws sets ranked sums own next : List ℕ} {K P i : ℕ} → 0 < i → PositionClosed card ws sets ranked sums own next K P i → PositionClosed card ws sets ranked sums own next K P (suc (i - 1))
one_before {card} {ws} {sets} {ranked} {sums} {own} {next} {K} {P} {i} h B =
    let q : i ≡ suc (i - 1) = omega arith in
    subst (λ (n : ℕ). PositionClosed card ws sets ranked sums own next K P n) q B

-- a new array of labels
pub zeros_fit : NextFits (replicate 256 0)
zeros_fit = record { highs = λ i. omega (arith, zero_at (i * 2) (dec_lt (i * 2) 256)); lows = λ i. omega (arith, zero_at (i * 2 + 1) (dec_lt (i * 2 + 1) 256)) }
  where
    zero_at : (i : ℕ) → Dec (i < 256) → get_or (replicate {A = ℕ} 256 0) i 0 ≡ 0
    zero_at i (yes h) = get_or-replicate {A = ℕ} 256 i 0 0 h
    zero_at i (no h) = List·getD-eq-default (replicate {A = ℕ} 256 0) 0 {n = i} (omega (arith, length-replicate {A = ℕ} 256 0))
