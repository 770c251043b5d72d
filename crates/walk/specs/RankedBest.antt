-- The walk along ranked labels: as two numbers they are what the walk asks for, and the path that it writes is the best in ranked order.
use Rattle.std.specs.Prelude.{◌≡◌, ◌∷◌, ◌++◌, ◌≢◌, ◌+◌, ◌*◌, ◌/◌, ◌%◌, ◌^◌, ◌<◌, ◌≤◌}
use Rattle.basics.specs.Words.{refl, sym, ◌∙◌, ap, subst, Bool, true, false, cond, List, [], Option, some, none, inl, inr, ℕ, zero, suc, arith, length, get_or, drop, List·getD-eq-default, eqb, dec_lt}
use Rattle.machine.specs.declared.Pair.{Pair}
use Rattle.card.specs.Card.{machines_of}
use Rattle.candidate.specs.Candidates.{bytes_of, profile_of}
use Rattle.candidate.specs.Evaluating.{profile_with}
use Rattle.paths.specs.Total.{Upto, asym, less_not_same}
use Rattle.paths.specs.Costs.{Costs, Labels, atmost_some}
use Rattle.paths.specs.Ranked.{Ranked, ranked_costs, letter_count, less_total}
use Rattle.paths.specs.Pigeonhole.{Distinct}
use Rattle.paths.specs.Graph.{Alphabet, Graph, path_cost, nodes, Run, run→cost, cost→run}
use Rattle.paths.specs.Labels.{Closed, Held, run_lower_bound}
use Rattle.paths.specs.Best.{Before, before_total, IsBest, IsCheapest, cheapest_distinct}
use Rattle.paths.specs.Positions.{Done}
use Rattle.product.specs.Nodes.{product, state_counts}
use Rattle.product.specs.ProductGraph.{pairs, card_start}
use Rattle.product.specs.Setting.{position_of, Setting}
use Rattle.tables.specs.LabelCost.{AllShort}
use Rattle.tables.specs.Work.{state_of, cost_at, label_of}
use Rattle.tables.specs.Engine.{engine_graph}
use Rattle.tables.specs.Places.{six_places}
use Rattle.tables.specs.Laws.Cards.{card_machines}
use Rattle.tables.proofs.Machines.{counts_length}
use Rattle.settling.specs.Prices.{ranked_lows}
use Rattle.settling.specs.Packing.{packed_path, Packs}
use Rattle.settling.proofs.Packing.{same_short, unpacked}
use Rattle.cells.specs.declared.Cell.{Cell}
use Rattle.cells.specs.Cells.{nowhere, low_of}
use Rattle.cells.specs.Columns.{WeightsOf}
use Rattle.cells.specs.Labels.{OwnCell}
use Rattle.cells.specs.Trying.{label_from}
use Rattle.cells.specs.Laws.Trying.{label_there, label_none}
use Rattle.insertions.specs.RankedWeights.{weight_by, RankedWeights}
use Rattle.entering.specs.Entering.{cell_graph}
use Rattle.closing.specs.CountsPacking.{first_counts, last_counts, both_counts, counts_packing}
use Rattle.labelling.specs.Laws.Packed.{ranked_packs}
use Rattle.labelling.specs.Laws.Ranked.{distinct_cost_short}
use Rattle.labelling.specs.Laws.Numbers.{packed_run, number_labels, labels_short, numbers_done}
use Rattle.labelling.specs.Laws.LabelRoom.{ranked_room}
use Rattle.walk.specs.declared.Written.{Written}
use Rattle.tight.specs.Labels.{no_cell, cell_of}
use Rattle.tight.specs.Keeping.{Fits}
use Rattle.walk.specs.WalkLabels.{Labelled, WalkLabels, WalkPre}
use Rattle.walk.specs.Walked.{Walked}

-- what the walk writes along ranked labels, where the start's is c
pub record RankedWalked (card ranking sets before after : List ℕ) (c : Ranked 6) (r : Written) : Type 0 where
  pub best : List Pair
  pub count : r.pairs ≡ length best
  pub written : after ≡ bytes_of best ++ drop (2 * length best) before
  pub is_best : IsBest (engine_graph (machines_of card) ranking sets) (card_start card) best
  pub costs : path_cost (engine_graph (machines_of card) ranking sets) (card_start card) best ≡ some c
  pub profile : r.profile ≡ profile_with (profile_of (machines_of card) best)

-- ---- paths

module _ {costs : Costs} {alphabet : Alphabet} (G : Graph costs alphabet) where
  -- with closed labels every path's suffixes cost at least their labels
  run_held : {L : Labels costs} → Closed G L → {u : ℕ} {ps : List alphabet.Letter} {c : costs.Cost} → Run G u ps c → Held G L u ps c
  run_held K (Run.halt h) = Held.halt h (run_lower_bound G K (Run.halt h))
  run_held K (Run.step e d h r q) = Held.step e d h (run_held K r) q (run_lower_bound G K (Run.step e d h r q))

  -- the best path is a cheapest one
  best_cheapest : (u : ℕ) (ps : List alphabet.Letter) → IsBest G u ps → IsCheapest G u ps
  best_cheapest u ps b = record { cost = b.cost; is = b.is; none_cheaper = none_cheaper }
    where
      none_cheaper : (qs : List alphabet.Letter) (d : costs.Cost) → path_cost G u qs ≡ some d → ¬ (costs.◌≺◌ d b.cost)
      none_cheaper qs d h l = asym (before_total costs alphabet) (b.cost, ps) (d, qs) (b.first qs d other h) (inl l)
        where
          other : qs ≢ ps
          other e = let z : d ≡ b.cost = cc (h, b.is, e) in less_not_same costs.total l z

-- ---- weights in ranked order leave the last 16 bits of a low number to the pairs

weight_whole : (order ns : List ℕ) → ((i : ℕ) → get_or ns i 0 % 65536 ≡ 0) → (m : ℕ) → weight_by order ns m % 65536 ≡ 0
unfolding weight_by
weight_whole [] ns h m = refl
weight_whole (a ∷ r) [] h m = refl
weight_whole (a ∷ r) (n ∷ ns) h m = go (eqb a m) (weight_whole r ns (λ i. h (suc i)) m)
  where
    go : (b : Bool) → weight_by r ns m % 65536 ≡ 0 → (cond b n 0 + weight_by r ns m) % 65536 ≡ 0
    go true e = omega (arith, h 0, e)
    go false e = omega (arith, e)

lows_whole : (i : ℕ) → get_or ranked_lows i 0 % 65536 ≡ 0
lows_whole zero = refl
lows_whole (suc zero) = refl
lows_whole (suc (suc zero)) = refl
lows_whole (suc (suc (suc zero))) = refl
lows_whole (suc (suc (suc (suc zero)))) = refl
lows_whole (suc (suc (suc (suc (suc zero))))) = refl
lows_whole (suc (suc (suc (suc (suc (suc i)))))) = refl

ranked_pairs : {counts ws places : List ℕ} → WeightsOf counts ws → length counts ≤ 6 → RankedWeights places ws → (m : ℕ) → low_of ws m % 65536 ≡ 0
ranked_pairs {ws = ws} {places} W few R m = go (dec_lt m 6)
  where
    go : Dec (m < 6) → low_of ws m % 65536 ≡ 0
    go (yes h) = ap (λ (n : ℕ). n % 65536) (R.low m h) ∙ weight_whole places ranked_lows lows_whole m
    go (no h) = ap (λ (n : ℕ). n % 65536) (List·getD-eq-default ws 0 {n = 3 * m + 2} (omega (arith, W.size)))

-- ---- the cell of a ranked label

-- the cell is a label's that leaves room for a step, and it stands for the numbers of the ranked label
record CellFor (o : Option (Ranked 6)) (x : Cell) : Type 0 where
  pub stored : packed_path counts_packing o ≡ label_from x
  pub own : OwnCell x
  pub fits : Fits x

no_cell_lem : CellFor none no_cell
no_cell_lem = record {
  stored = sym (label_none no_cell (omega arith));
  own = record { last = refl; most = omega arith; empty = λ _. refl };
  fits = record { high_fits = omega arith; low_fits = omega arith };
}

short_cell : (c : Ranked 6) → AllShort 6 c → last_counts c + 2 ^ 56 ≤ 2 ^ 64 → CellFor (some c) (record { high = first_counts c * 256 + 255; low = last_counts c })
unfolding counts_packing
short_cell c s r =
    let few : first_counts c * 256 + 255 < nowhere = omega (arith, s.0, s.1.0, s.1.1.0) in
    let d : first_counts c ≡ (first_counts c * 256 + 255) / 256 = omega arith in
    record {
      stored = (λ i. some (d i, last_counts c)) ∙ sym (label_there (record { high = first_counts c * 256 + 255; low = last_counts c }) few);
      own = record { last = omega arith; most = omega (arith, few); empty = λ h. absurd (omega (arith, few, h)) };
      fits = record { high_fits = omega (arith, few); low_fits = omega (arith, r) };
    }

ranked_cell : (xs sums : List ℕ) → length sums ≡ 0 → (u : ℕ) → ((c : Ranked 6) → label_of xs u ≡ some c → AllShort 6 c × (last_counts c + 2 ^ 56 ≤ 2 ^ 64)) → CellFor (label_of xs u) (cell_of xs sums u)
unfolding cell_of label_of
ranked_cell xs sums z u h = rw z (go (eqb (state_of xs u) 0) h)
  where
    go : (b : Bool) → ((c : Ranked 6) → cond b none (some (cost_at xs u)) ≡ some c → AllShort 6 c × (last_counts c + 2 ^ 56 ≤ 2 ^ 64))
        → CellFor (cond b none (some (cost_at xs u))) (cond b no_cell (record { high = first_counts (cost_at xs u) * 256 + 255; low = last_counts (cost_at xs u) }))
    go true h = no_cell_lem
    go false h = let k = h (cost_at xs u) refl in short_cell (cost_at xs u) k.0 k.1

-- ---- the walk

module _ {card sets : List ℕ} (counts : List ℕ) (s : Setting card sets (product counts)) (ranking : List ℕ) {ws : List ℕ} (W : WeightsOf (state_counts (machines_of card)) ws) (R : RankedWeights (six_places ranking) ws) (xs : List ℕ)
    (D : Done (engine_graph (machines_of card) ranking sets) (position_of card) (label_of xs) 0) (c : Ranked 6) (label : label_of xs (card_start card) ≡ some c) where
  abbrev G : Graph (ranked_costs 6) pairs
  G = engine_graph (machines_of card) ranking sets

  abbrev H : Graph (ranked_costs 1) pairs
  H = cell_graph ws card sets

  packs : Packs counts_packing G H
  packs = ranked_packs ranking R W.whole card sets s.accepted

  short : (u : ℕ) (d : Ranked 6) → label_of xs u ≡ some d → AllShort 6 d
  short = labels_short s ranking xs D

  closed_numbers : Closed H (number_labels xs)
  closed_numbers u = (numbers_done s ranking xs D W R).closed u (omega arith)

  start_label : number_labels xs (card_start card) ≡ some (both_counts c)
  unfolding counts_packing
  start_label = ap (packed_path counts_packing) label

  -- ---- what the walk asks for

  ranked_labelled : Labelled card ws sets (product counts) (number_labels xs)
  ranked_labelled = record {
    setting = s;
    weights = W;
    pairs = ranked_pairs W (omega (arith, counts_length (machines_of card), (card_machines card s.accepted).machines)) R;
    closed = closed_numbers;
    attained = (numbers_done s ranking xs D W R).attained;
  }

  module _ (sums : List ℕ) (empty : length sums ≡ 0) where
    cell_there : (u : ℕ) → u < (length sets + 1) * product counts → CellFor (label_of xs u) (cell_of xs sums u)
    unfolding counts_packing
    cell_there u h = ranked_cell xs sums empty u
        (λ d l. (short u d l, omega (arith, (ranked_room s ranking W R (numbers_done s ranking xs D W R).attained u (both_counts d) h (ap (packed_path counts_packing) l)).low)))

    -- the labels are in the work slice, and the answer has room for the pairs of the start's
    pub ranked_walk_labels : (room : ℕ) → 2 * letter_count 6 c ≤ room → WalkLabels xs sums card counts ws sets room (number_labels xs)
    ranked_walk_labels room fits = record {
      labelled = ranked_labelled;
      stored = λ u h. (cell_there u h).stored;
      own = λ u h. (cell_there u h).own;
      fits = λ u h. (cell_there u h).fits;
      cost = both_counts c;
      cost_is = start_label;
      answer_fits_lem = omega (arith, fits, (short (card_start card) c label).1.1.1.1.1.1);
    }

    -- and the slice has every node
    pub ranked_walk_pre : (room : ℕ) → 2 * letter_count 6 c ≤ room → counts ≡ state_counts (machines_of card) → (size : ℕ) → size ≡ product counts → length xs ≡ (length sets + 1) * product counts * 8 → WalkPre xs sums card counts ws sets size room
    ranked_walk_pre room fits counts_are size size_is long = record {
      labels = number_labels xs;
      walk_labels = ranked_walk_labels room fits;
      counts_are = counts_are;
      size_is = size_is;
      nodes = λ u h. record { by_counts = λ _. omega (arith, h, long); by_sums = λ n. absurd (n empty) };
    }

  -- ---- what it writes

  module _ (best : List Pair) (B : IsBest H (card_start card) best) (costs-label : path_cost H (card_start card) best ≡ number_labels xs (card_start card)) where
    -- the path costs what the start's label says
    ranked_cost : path_cost G (card_start card) best ≡ some c
    unfolding counts_packing
    ranked_cost =
        let k = unpacked counts_packing G H packs (label_of xs) (number_labels xs) (λ u. refl) short (run_held H closed_numbers (cost→run H (card_start card) best (both_counts c) (costs-label ∙ start_label))) in
        let n : Distinct (nodes G (card_start card) best) = subst (λ (l : List ℕ). Distinct l) (sym k.passes) (cheapest_distinct H (card_start card) best (best_cheapest H (card_start card) best B)) in
        let q : k.cost ≡ c = same_short counts_packing k.cost c (distinct_cost_short s ranking (card_start card) best k.cost k.run n) (short (card_start card) c label) k.is in
        run→cost G k.run ∙ ap {B = Option (Ranked 6)} some q

    -- and it is the best: closed labels bound every other from below, and one of the same cost has the same numbers
    ranked_best : IsBest G (card_start card) best
    ranked_best = record { cost = c; is = ranked_cost; first = first }
      where
        first : (qs : List Pair) (d : Ranked 6) → qs ≢ best → path_cost G (card_start card) qs ≡ some d → Before (ranked_costs 6) pairs (c, best) (d, qs)
        first qs d n h = go (atmost_some label (run_lower_bound G (λ u. D.closed u (omega arith)) (cost→run G (card_start card) qs d h)))
          where
            numbers : path_cost H (card_start card) qs ≡ some (counts_packing.path d)
            numbers = run→cost H (packed_run counts_packing G H packs (cost→run G (card_start card) qs d h))

            its : B.cost ≡ counts_packing.path c
            its = let l : path_cost H (card_start card) best ≡ some (counts_packing.path c) = costs-label ∙ ap (packed_path counts_packing) label in cc (B.is, l)

            later : c ≡ d → Before (ranked_costs 1) pairs (B.cost, best) (counts_packing.path d, qs) → Before (ranked_costs 6) pairs (c, best) (d, qs)
            later e (inl l) = absurd (less_not_same (less_total 1) l (its ∙ ap counts_packing.path e))
            later e (inr l) = inr (e, l.1)

            go : Upto (ranked_costs 6).◌≺◌ c d → Before (ranked_costs 6) pairs (c, best) (d, qs)
            go (inl l) = inl l
            go (inr e) = later e (B.first qs (counts_packing.path d) n numbers)

  pub ranked_walked : (before after : List ℕ) (r : Written) → Walked card ws sets before after (number_labels xs) r → RankedWalked card ranking sets before after c r
  ranked_walked before after r w = record {
    best = w.best;
    count = w.count;
    written = w.written;
    is_best = ranked_best w.best w.is_best w.costs;
    costs = ranked_cost w.best w.is_best w.costs;
    profile = w.profile;
  }
