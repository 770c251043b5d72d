-- What the search is given, from the call's parts: the order, columns and lists.
use Rattle.std.specs.Prelude.{◌≡◌, ◌+◌, ◌*◌, ◌<◌, ◌≤◌}
use Rattle.basics.specs.Words.{refl, sym, ◌∙◌, subst, true, true≢false, List, [], ℕ, zero, suc, arith, length, take, replicate, length-replicate, length-take-le, mul-le-mul_left, mul-zero, suc-mul}
use Rattle.ranking.specs.Rankings.{is_ranking}
use Rattle.machine.specs.Symbols.{empty_symbol}
use Rattle.card.specs.Layout.{symbol_count}
use Rattle.card.specs.Card.{machines_of}
use Rattle.product.specs.Nodes.{state_counts}
use Rattle.product.specs.Laws.Nodes.{product_positive}
use Rattle.tables.specs.Places.{six_places}
use Rattle.tables.specs.Laws.Cards.{card_machines}
use Rattle.tables.proofs.Counts.{all_positive}
use Rattle.tables.proofs.Prefix.{places_six}
use Rattle.settling.specs.Prices.{ranked_highs}
use Rattle.settling.proofs.Prices.{ranked_highs_few}
use Rattle.cells.specs.declared.Groups.{Groups}
use Rattle.cells.specs.Columns.{WeightsOf}
use Rattle.cells.specs.Groups.{GroupsOf}
use Rattle.cells.specs.Laws.Groups.{all_codes}
use Rattle.columns.specs.Filling.{FillPre}
use Rattle.columns.specs.Prepared.{Prepared}
use Rattle.grid.specs.declared.Grid.{Grid}
use Rattle.grid.specs.Grids.{GridOf}
use Rattle.insertions.specs.RankedWeights.{RankedWeights}
use Rattle.insertions.specs.Listing.{InsertionColumns, ListPre, ListedBy}
use Rattle.labelling.specs.Labelling.{LabelPre, PositionsDone, OrderPre, SearchPre, JointRoom, PositionsPre, AllLabelled}
use Rattle.labelling.specs.Laws.LabelRoom.{ranked_room, ranked_most_high}
use Rattle.labelling.specs.Laws.Ranked.{ranked_done}
use Rattle.labelling.specs.Laws.Tied.{ranked_tie}
use Rattle.labelling.proofs.Sizes.{counts_are, counts_length, counts_some, size_is, states_are}

-- two numbers that are not 0 add up to at most one more than their product
sum_few : (a b : ℕ) → 0 < a * b → a + b ≤ a * b + 1
sum_few zero b h = absurd (omega arith)
sum_few (suc a) zero h = absurd (omega (arith, mul-zero (suc a)))
sum_few (suc a) (suc b) h = let k : a * 1 ≤ a * suc b = mul-le-mul_left a (omega arith) in omega (arith, suc-mul a (suc b))

-- ---- the columns of the insertions, counted and in lists

module _ {ranked sums card : List ℕ} {grid : Grid} {ws hs marks sets : List ℕ} (Q : SearchPre ranked sums card grid ws hs marks sets) where
  pub fill_ready : {steps : List ℕ} → 65 * grid.states ≤ length steps → FillPre card (take grid.machines grid.counts) steps grid.states empty_symbol
  fill_ready room = record { accepted = Q.setting.accepted; counts_are = counts_are Q.setting.accepted Q.grid_of; input = omega arith; width = states_are Q.setting.accepted Q.grid_of; room = room }

  module _ {steps : List ℕ} {kept : ℕ} (X : Prepared (machines_of card) empty_symbol grid.states steps kept) where
    insertion_columns : InsertionColumns (symbol_count card) (machines_of card) steps (take grid.machines grid.counts) grid.states
    insertion_columns = record { machines = card_machines card Q.setting.accepted; counts_are = counts_are Q.setting.accepted Q.grid_of; columns = X.columns }

    pub list_ready : {g : Groups} → GroupsOf (take grid.machines grid.counts) g × (g.front + g.back ≤ 66) → ListPre steps (take grid.machines grid.counts) marks grid.states kept g
    list_ready G = record {
      symbols = symbol_count card;
      machines = machines_of card;
      of = insertion_columns;
      weights = subst (λ (l : List ℕ). WeightsOf l marks) (sym (counts_are Q.setting.accepted Q.grid_of)) Q.order_pre.marks_are;
      groups = G.0;
      few = G.1;
      no_pair = X.no_pair refl;
    }

    pub lists_ready : {entries ends : List ℕ} → 65 * grid.states ≤ length steps → ListedBy steps (take grid.machines grid.counts) marks grid.states kept entries ends
        → PositionsPre ranked sums card grid ws hs sets steps entries ends
    lists_ready room L = record {
      marks = marks;
      search = Q;
      kept = kept;
      prepared = X;
      columns = room;
      listed = L (symbol_count card) (machines_of card) Q.order_pre.order insertion_columns Q.order_pre.six Q.order_pre.ranked;
    }

  -- there is room for the joint steps of two groups
  pub groups_room : {g : Groups} {table : List ℕ} → GroupsOf (take grid.machines grid.counts) g × (g.front + g.back ≤ 66) → JointRoom grid.size table → (g.front + g.back) * 4 ≤ length table
  groups_room {g} G J = J.room (g.front + g.back) G.1 (omega (arith, sum_few g.front g.back (omega (arith, codes, some)), codes))
    where
      codes : g.front * g.back ≡ grid.size
      codes = all_codes G.0 ∙ sym (size_is Q.setting.accepted Q.grid_of)

      some : 0 < grid.size
      some = omega (arith, size_is Q.setting.accepted Q.grid_of, product_positive (take grid.machines grid.counts) (all_positive (counts_some Q.setting.accepted Q.grid_of)))

-- the front of a new array of columns
pub columns_length : (room n : ℕ) → n ≤ room → length (take n (replicate {A = ℕ} room 65535)) ≡ n
columns_length room n h = length-take-le n (replicate {A = ℕ} room 65535) (omega (arith, length-replicate {A = ℕ} room 65535))

-- ---- the order of a ranking

module _ {card ranking sets work : List ℕ} {grid : Grid} (Q : LabelPre card ranking sets work grid.size) (G : GridOf card grid) where
  pub counts_ranked : is_ranking (length (take grid.machines grid.counts)) ranking ≡ true
  counts_ranked = subst (λ (n : ℕ). is_ranking n ranking ≡ true) (sym G.machines ∙ counts_length Q.setting.accepted G) Q.ranks

  module _ {ws : List ℕ} (W : WeightsOf (state_counts (machines_of card)) ws) (R : RankedWeights (six_places ranking) ws) where
    ranked_order : OrderPre true card sets ws ranked_highs ws grid.size
    ranked_order = record {
      weights = W;
      marks_are = W;
      order = six_places ranking;
      six = places_six card Q.setting.accepted ranking refl Q.ranks;
      ranked = R;
      same = ranked_tie R refl;
      highs_few = ranked_highs_few;
      if_ranked = λ _. refl;
      most = λ K six. ranked_most_high ranking R K six;
      short = λ T u c h l.
          let r = ranked_room Q.setting ranking W R T u c h l in
          record { room = record { high = omega (arith, r.high); low = r.low }; in_counts_lem = λ _. omega (arith, r.high); in_sum = λ e. absurd (true≢false e) };
    }

    pub search_ready : SearchPre work [] card grid ws ranked_highs ws sets
    search_ready = record { setting = Q.setting; grid_of = G; order_pre = ranked_order; room = record { counts = λ _. Q.room; in_sums = λ z. absurd (z refl) } }

    -- all nodes are labelled, in the order of the ranking
    pub label_done : {work' sums' : List ℕ} → AllLabelled card ws sets work work' [] sums' → PositionsDone card ranking sets work work' 0
    label_done {work'} A = record {
      size = A.ranked_size;
      done =
          ranked_done Q.setting ranking W R work' A.labelled.done (λ u. ((A.labelled.held u (omega arith)).counts A.sums_size).stored)
          (λ u c l. ((A.labelled.held u (omega arith)).counts A.sums_size).short c l);
    }
