-- The lists of insertions are the edges between the codes of a position; what settling it asks, and what it gives in ranked order.
use Rattle.std.specs.Prelude.{◌≡◌, ◌⊎◌, ◌≢◌, ◌+◌, ◌*◌, ◌-◌, ◌/◌, ◌%◌, ◌<◌, ◌≤◌}
use Rattle.basics.proofs.Words.{refl, sym, ◌∙◌, ap, subst, Bool, true, List, Option, none, some, Option·none-ne-some, inl, inr, ℕ, arith, length, get_or, member, clash}
use Rattle.std.proofs.Common.{ne_eqb}
use Rattle.machine.specs.declared.Pair.{Pair}
use Rattle.machine.specs.Symbols.{empty_symbol, is_pair, pair_of}
use Rattle.machine.specs.Machine.{Machine}
use Rattle.card.specs.Card.{machines_of}
use Rattle.paths.specs.Ranked.{Ranked}
use Rattle.paths.specs.Graph.{Edge, EdgeTo}
use Rattle.product.specs.Nodes.{state_counts, product, states_at}
use Rattle.product.specs.ProductGraph.{Move, move, priced_move}
use Rattle.product.specs.Codes.{moved_by}
use Rattle.product.specs.Setting.{position_of, Setting}
use Rattle.product.specs.Laws.Codes.{insertion_move}
use Rattle.product.specs.Laws.Edges.{moved, step_marks_bound}
use Rattle.product.specs.Laws.Letters.{LetterAt, letter_at}
use Rattle.product.specs.Laws.Setting.{machines_sound, symbols_few, node_position, node_low, node_high}
use Rattle.tables.specs.Places.{mark_number}
use Rattle.tables.specs.Laws.Cards.{card_machines}
use Rattle.tables.specs.Laws.Packing.{six_number}
use Rattle.cells.specs.Cells.{nowhere, high_of, low_of}
use Rattle.cells.specs.Columns.{weighed, WeightsOf}
use Rattle.cells.specs.Labels.{cell_at}
use Rattle.cells.specs.Trying.{label_from, cell_price}
use Rattle.cells.specs.Laws.Weighed.{weighed_whole}
use Rattle.columns.specs.Prepared.{NoSteps, Covered, Prepared}
use Rattle.settling.specs.Prices.{SixWeights, marks_price, most_price, insertion_cost, ranked_highs, ranked_lows, lows_by}
use Rattle.settling.specs.Insertions.{code_in, is_listed, lists_of}
use Rattle.settling.specs.Labels.{label_of}
use Rattle.settling.specs.Settling.{Fits, SettlePre}
use Rattle.settling.specs.Packing.{packed_edge}
use Rattle.settling.specs.WeightedPacking.{weighted_packing}
use Rattle.settling.proofs.Insertions.{edge_of}
use Rattle.settling.proofs.PositionDone.{Entry, Tied}
use Rattle.insertions.specs.Listed.{insertion_step, Place, Listed}
use Rattle.insertions.specs.RankedWeights.{RankedWeights}
use Rattle.insertions.specs.Laws.Ranked.{ranked_high, ranked_low}
use Rattle.entering.specs.Entering.{Position}
use Rattle.labelling.specs.Laws.Packed.{move_length}
use Rattle.labelling.specs.Laws.LabelRoom.{LabelRoom}
use Rattle.labelling.specs.Laws.Settled.{number_graph, number_over, path_of, cell_numbers, label_cell}

-- marks, as a number by their places, are priced as their machines weigh them
pub record SamePrices (places highs lows ws : List ℕ) : Type 0 where
  pub high : (marks : List ℕ) → length marks ≤ 6 → ((m : ℕ) → get_or marks m 0 ≤ 15) → marks_price highs (mark_number places marks) ≡ weighed (high_of ws) 0 marks
  pub low : (marks : List ℕ) → length marks ≤ 6 → ((m : ℕ) → get_or marks m 0 ≤ 15) → marks_price lows (mark_number places marks) ≡ weighed (low_of ws) 0 marks

-- ---- the ranked order

-- six marks in one number, by six weights
six_price : (ws : List ℕ) (a b c d e f n : ℕ) → a ≤ 15 → b ≤ 15 → c ≤ 15 → d ≤ 15 → e ≤ 15 → f ≤ 15 → n ≡ a * 1048576 + (b * 65536 + (c * 4096 + (d * 256 + (e * 16 + f))))
    → marks_price ws n ≡ get_or ws 0 0 * a + (get_or ws 1 0 * b + (get_or ws 2 0 * c + (get_or ws 3 0 * d + (get_or ws 4 0 * e + get_or ws 5 0 * f))))
unfolding marks_price
six_price ws a b c d e f n ha hb hc hd he hf q =
    let za : n / 1048576 ≡ a = omega arith in
    let zb : n / 65536 % 16 ≡ b = omega arith in
    let zc : n / 4096 % 16 ≡ c = omega arith in
    let zd : n / 256 % 16 ≡ d = omega arith in
    let ze : n / 16 % 16 ≡ e = omega arith in
    let zf : n % 16 ≡ f = omega arith in
    rw (za, zb, zc, zd, ze, zf) refl

pub ranked_tie : {places ws : List ℕ} → RankedWeights places ws → length places ≡ 6 → SamePrices places ranked_highs ranked_lows ws
ranked_tie {places} R six = record {
  high = λ marks few most. omega (arith, priced ranked_highs marks most, ranked_high R six marks few);
  low = λ marks few most. omega (arith, priced ranked_lows marks most, ranked_low R six marks few);
}
  where
    marks_at : List ℕ → ℕ → ℕ
    marks_at marks k = get_or marks (get_or places k 0) 0

    priced : (weights marks : List ℕ) → ((m : ℕ) → get_or marks m 0 ≤ 15)
        → marks_price weights (mark_number places marks)
        ≡ get_or weights 0 0 * marks_at marks 0 + (get_or weights 1 0 * marks_at marks 1 + (get_or weights 2 0 * marks_at marks 2 + (get_or weights 3 0 * marks_at marks 3 + (get_or weights 4 0 * marks_at marks 4 + get_or weights 5 0 * marks_at marks 5))))
    priced weights marks most =
        six_price weights (marks_at marks 0) (marks_at marks 1) (marks_at marks 2) (marks_at marks 3) (marks_at marks 4) (marks_at marks 5) (mark_number places marks)
        (most (get_or places 0 0)) (most (get_or places 1 0)) (most (get_or places 2 0)) (most (get_or places 3 0)) (most (get_or places 4 0)) (most (get_or places 5 0)) (six_number places marks six)

-- ---- the marks of a move: 15 a machine at most

record FewMarks (marks : List ℕ) : Type 0 where
  pub count : length marks ≤ 6
  pub most : (m : ℕ) → get_or marks m 0 ≤ 15

few_marks : {card sets : List ℕ} {P : ℕ} → Setting card sets P → (u : ℕ) (p : Pair) (m : Move) → move sets (machines_of card) u p ≡ some m → FewMarks m.marks
few_marks {card} {sets} s u p m h =
    let k = moved sets (machines_of card) u p m h in
    record {
      count = omega (arith, move_length sets (machines_of card) u p m h, (card_machines card s.accepted).machines);
      most = rw k.marks_are (step_marks_bound (machines_sound s) (states_at (state_counts (machines_of card)) u) p k.steps k.steps_are);
    }

-- ---- the ties

-- the edge of an insertion to the nodes from a number on
abbrev insertion_edge : (base : ℕ) (places highs lows : List ℕ) → Move → Edge (Ranked 1)
insertion_edge base places highs lows w = record { target = base + w.target; cost = insertion_cost highs lows (mark_number places w.marks) }

module _ {card sets : List ℕ} {P : ℕ} (s : Setting card sets P) (i : ℕ) (inside : i ≤ length sets) where
  -- an insertion is a move at every position
  inserting : (c y : ℕ) → c < P → y ≢ empty_symbol → move sets (machines_of card) (i * P + c) (pair_of empty_symbol y) ≡ moved_by (i * P) (insertion_step (machines_of card) c y)
  inserting c y h n =
      subst (λ (Q : ℕ). move sets (machines_of card) (i * Q + c) (pair_of empty_symbol y) ≡ moved_by (i * Q) (insertion_step (machines_of card) c y)) (sym s.states)
      (insertion_move sets (machines_of card) i c (omega (arith, s.states)) (pair_of empty_symbol y) inside (rw (ne_eqb y empty_symbol n)) refl)

  -- its edge
  module _ (ws : List ℕ) {places highs lows : List ℕ} (whole : (m : ℕ) → high_of ws m % 256 ≡ 0) (T : SamePrices places highs lows ws) (c y : ℕ) (w : Move) (b : c < P) (n : y ≢ empty_symbol) (e : insertion_step (machines_of card) c y ≡ some w) where
    marks_few : FewMarks w.marks
    marks_few = few_marks s (i * P + c) (pair_of empty_symbol y) (record { target = i * P + w.target; marks = w.marks }) (inserting c y b n ∙ ap (moved_by (i * P)) e)

    price_is : weighted_packing.edge ((cell_price ws).of w.marks 1) ≡ insertion_cost highs lows (mark_number places w.marks)
    unfolding weighted_packing
    price_is =
        let F = marks_few in
        let p : weighed (λ m. high_of ws m / 256) 0 w.marks * 256 ≡ marks_price highs (mark_number places w.marks) = omega (arith, T.high w.marks F.count F.most, weighed_whole (high_of ws) whole 0 w.marks) in
        let q : weighed (low_of ws) 0 w.marks + 1 ≡ 1 + marks_price lows (mark_number places w.marks) = omega (arith, T.low w.marks F.count F.most) in
        λ i. (p i, q i)

    insertion_is : (number_graph ws card sets).edge (i * P + c) (pair_of empty_symbol y) ≡ some (insertion_edge (i * P) places highs lows w)
    insertion_is =
        ap (λ (o : Option Move). packed_edge weighted_packing (priced_move (cell_price ws) sets (machines_of card) o)) (inserting c y b n ∙ ap (moved_by (i * P)) e)
        ∙ ap {B = Option (Edge (Ranked 1))} (λ (k : Ranked 1). some (record { target = i * P + w.target; cost = k })) price_is

  module _ (ws : List ℕ) {places highs entries ends steps : List ℕ} {W kept : ℕ} (ranked : Bool) (Z : WeightsOf (state_counts (machines_of card)) ws) (T : SamePrices places highs (lows_by ranked) ws)
      (X : Prepared (machines_of card) empty_symbol W steps kept) (Y : Listed (machines_of card) places kept entries ends) where
    -- a kept output is a symbol
    kept_symbol : (y : ℕ) → member kept y ≡ true → y ≢ empty_symbol
    kept_symbol y m q = clash m (ap (member kept) q ∙ X.no_pair refl)

    edges : (v at : ℕ) → is_listed ends v at ≡ true → EdgeTo (number_graph ws card sets) (i * P + code_in (get_or entries at 0)) (i * P + v) (edge_of (lists_of entries ends highs ranked) (v, at)).cost
    edges v at h =
        let I = Y.entry v at h in
        record {
          letter = pair_of empty_symbol I.output;
          to = insertion_edge (i * P) places highs (lows_by ranked) I.move;
          edge_is = insertion_is ws Z.whole T (code_in (get_or entries at 0)) I.output I.move (omega (arith, Y.from v at h, s.states)) (kept_symbol I.output I.is_kept_lem) I.is;
          target_is = ap (λ (n : ℕ). i * P + n) I.target_is;
          cost_is = ap (insertion_cost highs (lows_by ranked)) (sym I.marks_are);
        }

    -- an edge between two codes is an insertion, and a kept output has the same one
    all : (j v : ℕ) (p : Pair) (e : Edge (Ranked 1)) → j < P → v < P → j ≢ v → (number_graph ws card sets).edge (i * P + j) p ≡ some e → e.target ≡ i * P + v → Entry (lists_of entries ends highs ranked) j v e.cost
    all j v p e a b n h t = step (insertion_step (machines_of card) j p.output) refl
      where
        l : LetterAt card sets i p e.target
        l = letter_at (number_over ws s) (i * P + j) p e i (node_position s i j a) h

        no_input : (p.input ≡ empty_symbol) ⊎ ((p.input ≢ empty_symbol) × (member (get_or sets i 0) p.input ≡ true)) → p.input ≡ empty_symbol
        no_input (inl z) = z
        no_input (inr z) = absurd (omega (arith, (l.leaves z.0).1, ap (position_of card) t, node_position s i v b))

        letter_is : p ≡ pair_of empty_symbol p.output
        letter_is = let z = no_input l.pair.input_there in λ k. record { input = z k; output = p.output }

        symbol : p.output ≢ empty_symbol
        symbol z = clash l.pair.is_pair_lem (ap is_pair (letter_is ∙ ap (pair_of empty_symbol) z))

        edge_is : (number_graph ws card sets).edge (i * P + j) (pair_of empty_symbol p.output) ≡ some e
        edge_is = ap ((number_graph ws card sets).edge (i * P + j)) (sym letter_is) ∙ h

        entry_at : (w : Move) → insertion_edge (i * P) places highs (lows_by ranked) w ≡ e → w.target ≡ v → Place entries ends w.target j (mark_number places w.marks) → Entry (lists_of entries ends highs ranked) j v e.cost
        entry_at w f z A = record {
          at = A.at;
          place = subst (λ (v : ℕ). is_listed ends v A.at ≡ true) z A.listed;
          from = A.from_is;
          cost = inr (ap (insertion_cost highs (lows_by ranked)) A.marks_are ∙ ap (λ (f : Edge (Ranked 1)). f.cost) f);
        }

        entry_of_lem : (w : Move) → insertion_step (machines_of card) j p.output ≡ some w → (y : ℕ) → member kept y ≡ true → insertion_step (machines_of card) j y ≡ some w → Entry (lists_of entries ends highs ranked) j v e.cost
        entry_of_lem w k y m q =
            let f : insertion_edge (i * P) places highs (lows_by ranked) w ≡ e = cc (insertion_is ws Z.whole T j p.output w a symbol k, edge_is) in
            let z : w.target ≡ v = omega (arith, ap (λ (f : Edge (Ranked 1)). f.target) f, t) in
            entry_at w f z (Y.all j y w (omega (arith, s.states)) m q (λ r. n (sym r ∙ z)))

        told : (w : Move) → insertion_step (machines_of card) j p.output ≡ some w → (◌≡◌ {A = ℕ} empty_symbol empty_symbol × (p.output ≡ empty_symbol)) ⊎ (NoSteps (machines_of card) empty_symbol p.output ⊎ Covered (machines_of card) empty_symbol kept p.output) → Entry (lists_of entries ends highs ranked) j v e.cost
        told w k (inl z) = absurd (symbol z.1)
        told w k (inr (inl z)) = absurd (Option·none-ne-some w (sym (z j) ∙ k))
        told w k (inr (inr C)) = entry_of_lem w k C.other C.is_kept_lem (C.same j (omega (arith, s.states)) ∙ k)

        step : (o : Option Move) → insertion_step (machines_of card) j p.output ≡ o → Entry (lists_of entries ends highs ranked) j v e.cost
        step none k =
            absurd (Option·none-ne-some e (sym (ap (λ (o : Option Move). packed_edge weighted_packing (priced_move (cell_price ws) sets (machines_of card) o)) (inserting j p.output a symbol ∙ ap (moved_by (i * P)) k)) ∙ edge_is))
        step (some w) k = told w k (X.covers p.output (omega (arith, l.pair.output_there, symbols_few s)))

    pub tied : Tied (number_graph ws card sets) (position_of card) i (lists_of entries ends highs ranked) (i * P) P
    tied = record {
      code = λ u e. (u - i * P, omega (arith, node_low s u i e, node_high s u i e), omega (arith, node_low s u i e));
      to_below = λ v at h. omega (arith, Y.to v at h, s.states);
      edges = edges;
      all = all;
    }

-- ---- what settling asks

module _ {highs own : List ℕ} {P : ℕ} (ranked : Bool) (few : P ≤ 128) (A : Position own P) where
  -- the lists, their weights, and labels with room
  pub settle_ready : {ms : List Machine} {places entries ends : List ℕ} {kept : ℕ} → Listed ms places kept entries ends → P ≡ product (state_counts ms) → SixWeights highs → (ranked ≡ true → highs ≡ ranked_highs)
      → ((c : ℕ) (x : Ranked 1) → c < P → label_of own c ≡ some x → Fits (lists_of entries ends highs ranked) 128 x) → SettlePre (lists_of entries ends highs ranked) own P
  settle_ready Y states h r fits = record {
    size = A.size;
    sound = record {
      rising = Y.rising;
      sorted = Y.sorted;
      within = Y.within;
      from = λ v at p. omega (arith, Y.from v at p);
      highs_few = h;
      if_ranked = r;
    };
    few = few;
    below = λ v at p. omega (arith, Y.to v at p);
    from_below = λ v at p. omega (arith, Y.from v at p);
    fits = fits;
  }

  -- the numbers of a label with room
  pub settle_fits : (entries ends : List ℕ) {top : ℕ} → top ≤ nowhere → ((c : ℕ) (x : Ranked 1) → c < P → label_from (cell_at own c) ≡ some x → LabelRoom (most_price highs) (most_price (lows_by ranked)) top x)
      → (c : ℕ) (x : Ranked 1) → c < P → label_of own c ≡ some x → Fits (lists_of entries ends highs ranked) 128 x
  unfolding weighted_packing
  settle_fits entries ends t room c x b l =
      let k = path_of weighted_packing (label_from (cell_at own c)) x (cell_numbers (cell_at own c) (λ _. (A.labels c b).last) ∙ sym (label_cell own c A.size (omega arith)) ∙ l) in
      let r = room c k.cost b k.is in
      subst (λ (x : Ranked 1). Fits (lists_of entries ends highs ranked) 128 x) k.packed_is (record { high = omega (arith, r.high); low = omega (arith, r.low) })
