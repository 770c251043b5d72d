-- Trying the endings of the last position in a stage.
use Rattle.std.specs.Prelude.{◌≡◌, ◌∷◌, ◌+◌, ◌*◌, ◌/◌, ◌%◌, ◌≤◌, ◌<◌}
use Rattle.basics.specs.Words.{refl, sym, ◌∙◌, ap, subst, Bool, true, false, List, [], Option, none, some, ℕ, zero, suc, arith, length, get_or, mod-lt, div-lt_iff_lt-mul, div-add-mod', mul-le-mul_right}
use Rattle.machine.specs.Machine.{Machine, ending_of}
use Rattle.card.specs.Layout.{symbol_count}
use Rattle.card.specs.Card.{machines_of}
use Rattle.paths.specs.Ranked.{count_at, ranked_costs}
use Rattle.paths.specs.Graph.{Graph}
use Rattle.paths.specs.Positions.{Done, Entered}
use Rattle.tables.specs.Marks.{marks_cost}
use Rattle.product.specs.ProductGraph.{pairs}
use Rattle.product.specs.Nodes.{state_counts, product, states_of}
use Rattle.product.specs.Codes.{code_ending}
use Rattle.product.specs.Laws.Nodes.{product_positive}
use Rattle.product.specs.Laws.JointStep.{counts_positive}
use Rattle.product.specs.Laws.Edges.{ending_marks_bound}
use Rattle.tables.specs.Places.{six_places, mark_number}
use Rattle.tables.specs.Tables.{CardMachines}
use Rattle.tables.specs.Laws.Cards.{card_machines}
use Rattle.tables.specs.Laws.Packing.{six_number}
use Rattle.cells.specs.declared.Groups.{Groups}
use Rattle.cells.specs.Cells.{nowhere, places, high_at, low_at, cell_sum}
use Rattle.cells.specs.Laws.Numbers.{high_small, low_small}
use Rattle.cells.specs.Laws.Sums.{sum_small}
use Rattle.cells.specs.Columns.{WeightsOf}
use Rattle.cells.specs.Groups.{GroupsOf, sum_at, FourPre, FourAdded}
use Rattle.cells.specs.Laws.Groups.{all_codes, size_codes}
use Rattle.cells.specs.Laws.Tried.{lane_sum}
use Rattle.columns.specs.Filling.{Small}
use Rattle.columns.specs.Endings.{EndingsFilled}
use Rattle.columns.specs.Endings as columns
use Rattle.columns.specs.Laws.Endings.{EndingCell, endings_pre, ending_sum}
use Rattle.insertions.specs.Laws.Ranked.{ranked_high, ranked_low}
use Rattle.insertions.proofs.Steps.{marks_are}
use Rattle.tables.specs.Endings.{ending_costs}
use Rattle.tables.specs.JointNumbers.{ending_number, ending_from}
use Rattle.tables.specs.Laws.Endings.{ending_edge}
use Rattle.product.specs.Setting.{position_of, Setting}
use Rattle.product.specs.Laws.Setting.{machines_sound}
use Rattle.product.specs.Laws.Entering.{no_ending_tried, ending_tried, endings_begun, endings_entered}
use Rattle.tables.specs.Engine.{engine_graph}
use Rattle.cull.specs.Stages.{stage_no_ending}
use Rattle.stage.specs.StageLabels.{count_of, stage_label}
use Rattle.stage_entering.specs.Entering.{codes_at, lane_ending, EndingTried, not_final, dropped_ending, lowered_ending}
use Rattle.cull.specs.Entering.{end_sum, EndingsPre}
use Rattle.stage_entering.specs.Inputs.{InOrder}
use Rattle.stage_entering.specs.declared.Site.{Site}
use Rattle.stage.specs.Relaxing.{no_counts, LeftTold, Lowered}
use Rattle.cull.specs.Culling.{pairs_counted, stage_graph, Culled, EndsTried, CodesEnded, LastPre, LastTried}
use Rattle.cull.proofs.Linking.{ending_kept, ending_dropped}
use Rattle.cull.proofs.Positions.{culled_kept, stage_over}
use Rattle.cull.proofs.Unused.{each_length}
use Rattle.stage_entering.proofs.Lanes.{CodePlaces, ending_none, ending_some}

pub ends_first : {card ranking sets xs : List ℕ} {k u : ℕ} → EndsTried card ranking sets xs xs k u (u + 0)
ends_first {u = u} = let q : u + 0 ≡ u = omega arith in rw q (record { size = refl; counts = λ i w h. refl; enters = λ f C K E. E })

pub ends_trans : {card ranking sets xs ys zs : List ℕ} {k u v w : ℕ} → EndsTried card ranking sets xs ys k u v → EndsTried card ranking sets ys zs k v w → EndsTried card ranking sets xs zs k u w
ends_trans a b = record {
  size = b.size ∙ a.size;
  counts = λ i w h. b.counts i w h ∙ a.counts i w h;
  enters = λ f C K E. b.enters f (culled_kept a.counts C) K (a.enters f C K E);
}

pub ends_whole : {card ranking sets xs ys : List ℕ} {k u c n : ℕ} → EndsTried card ranking sets xs ys k u (u + c) → c ≤ n → n ≤ c → EndsTried card ranking sets xs ys k u (u + n)
ends_whole {c = c} {n = n} T a b = let q : n ≡ c = omega arith in rw q T

module _ {card sets : List ℕ} {P : ℕ} (s : Setting card sets P) (ranking : List ℕ) where
  abbrev G : Graph (ranked_costs 6) pairs
  G = engine_graph (machines_of card) ranking sets

  ends_at : (z : ℕ) → z < P → G.ending (length sets * P + z) ≡ ending_costs (ending_from (six_places ranking) (machines_of card) z)
  ends_at z h = rw s.states (ending_edge ranking sets (machines_sound s) z (omega (arith, s.states)))

  module _ {k : ℕ} {xs : List ℕ} (z : ℕ) (h : z < P) where
    -- there is no ending in the stage's graph
    ends_none : ((f : ℕ → ℕ → Option ℕ) → Culled card ranking sets f xs k → (stage_graph card ranking sets f k).ending (length sets * P + z) ≡ none) → EndsTried card ranking sets xs xs k (length sets * P + z) (length sets * P + (z + 1))
    ends_none gone = record { size = refl; counts = λ i w l. refl; enters = λ f C K E. no_ending_tried s (stage_over s ranking f k C) h E (gone f C) }

    pub ending_nothing : ending_from (six_places ranking) (machines_of card) z ≡ none → EndsTried card ranking sets xs xs k (length sets * P + z) (length sets * P + (z + 1))
    ending_nothing t = ends_none (λ f C. stage_no_ending 6 G (pairs_counted card ranking sets) f k (length sets * P + z) (ends_at z h ∙ ap ending_costs t))

    module _ (m : ℕ) (t : ending_from (six_places ranking) (machines_of card) z ≡ some m) {r : Bool} (T : LeftTold xs (length sets * P + z) m k no_counts r) where
      pub ending_gone : r ≡ false → EndsTried card ranking sets xs xs k (length sets * P + z) (length sets * P + (z + 1))
      ending_gone q =
          let d = T.dropped q in
          ends_none (λ f C. ending_dropped G (pairs_counted card ranking sets) f k C.below xs C.told (length sets * P + z) m (ends_at z h ∙ ap ending_costs t) d.0 d.1 d.2)

      pub ending_lowered : {ys : List ℕ} {a : ℕ} {b : Bool} → r ≡ true → a ≡ count_at 6 k (marks_cost m) → Lowered xs ys k (length sets * P + z) (a, 0) b → EndsTried card ranking sets xs ys k (length sets * P + z) (length sets * P + (z + 1))
      ending_lowered {ys} {a} {b} q e L₀ = record {
        size = L₀.size;
        counts = L₀.counts;
        enters = λ f C K E. ending_tried s (stage_over s ranking f k C) h E (count_at 6 k (marks_cost m), 0)
            (ending_kept G (pairs_counted card ranking sets) f k C.below xs C.told (length sets * P + z) m (ends_at z h ∙ ap ending_costs t) (T.kept q)) L.label;
      }
        where
          L : Lowered xs ys k (length sets * P + z) (count_at 6 k (marks_cost m), 0) b
          L = subst (λ (n : ℕ). Lowered xs ys k (length sets * P + z) (n, 0) b) e L₀

  -- every ending was tried: the last position is entered
  pub ends_entered : {k : ℕ} {xs ys : List ℕ} (f : ℕ → ℕ → Option ℕ) → Culled card ranking sets f xs k → Done (stage_graph card ranking sets f k) (position_of card) (stage_label xs k) (suc (length sets))
      → EndsTried card ranking sets xs ys k (length sets * P) (length sets * P + P) → Entered (stage_graph card ranking sets f k) (position_of card) (stage_label ys k) (length sets)
  ends_entered {k} {xs} f C d T = endings_entered s (stage_over s ranking f k C) d (T.enters f C (stage_label xs k) (endings_begun s (stage_over s ranking f k C) d))

-- ---- by two numbers

-- one node was tried
pub ends_one : {card ranking sets : List ℕ} {P k : ℕ} {xs ys : List ℕ} {o : Option ℕ} (s : Setting card sets P) (z : ℕ) → z < P → o ≡ ending_from (six_places ranking) (machines_of card) z → EndingTried xs ys o (length sets * P + z) k
    → EndsTried card ranking sets xs ys k (length sets * P + z) (length sets * P + (z + 1))
ends_one {card} {ranking} {sets} {P} {k} {xs} s z h q (not_final e r) = subst (λ (zs : List ℕ). EndsTried card ranking sets xs zs k (length sets * P + z) (length sets * P + (z + 1))) (sym r) (ending_nothing s ranking z h (sym q ∙ e))
ends_one {card} {ranking} {sets} {P} {k} {xs} s z h q (dropped_ending m e b t f r) = subst (λ (zs : List ℕ). EndsTried card ranking sets xs zs k (length sets * P + z) (length sets * P + (z + 1))) (sym r) (ending_gone s ranking z h m (sym q ∙ e) t f)
ends_one {card} {ranking} {sets} {P} {k} {xs} s z h q (lowered_ending m e r t f a g b L) = ending_lowered s ranking z h m (sym q ∙ e) t f g L

tried_facts : {xs ys : List ℕ} {o : Option ℕ} {u k : ℕ} → EndingTried xs ys o u k → (length ys ≡ length xs) × ((i w : ℕ) → i < k → count_of ys i w ≡ count_of xs i w)
tried_facts {k = k} (not_final e r) = (ap length r, λ i w h. ap (λ (zs : List ℕ). count_of zs i w) r)
tried_facts {k = k} (dropped_ending m e b t f r) = (ap length r, λ i w h. ap (λ (zs : List ℕ). count_of zs i w) r)
tried_facts (lowered_ending m e r t f a g b L) = (L.size, L.counts)

pub ended_start : {xs high low : List ℕ} {front back k b : ℕ} → CodesEnded xs xs high low front back k b 0
ended_start = record { size = refl; counts = λ i w h. refl; ends = λ card ranking sets P s q h f. ends_first }

pub ended_next : {xs ys zs high low : List ℕ} {front back k b n : ℕ} → CodesEnded xs ys high low front back k b n → EndingTried ys zs (lane_ending (end_sum high front back n) (end_sum low front back n)) (b + n) k → CodesEnded xs zs high low front back k b (n + 1)
ended_next {xs} {ys} {zs} {high} {low} {front} {back} {k} {b} {n} C T = record {
  size = (tried_facts T).0 ∙ C.size;
  counts = λ i w h. (tried_facts T).1 i w h ∙ C.counts i w h;
  ends = λ card ranking sets P s q h f.
      ends_trans (C.ends card ranking sets P s q (omega arith) (λ c l. f c (omega arith)))
      (ends_one s n (omega arith) (f n (omega arith)) (subst (λ (u : ℕ). EndingTried ys zs (lane_ending (end_sum high front back n) (end_sum low front back n)) (u + n) k) q T));
}

pub ended_end : {xs ys high low : List ℕ} {front back k b i n : ℕ} → CodesEnded xs ys high low front back k b i → i ≡ n → CodesEnded xs ys high low front back k b n
ended_end {xs} {ys} {high} {low} {front} {back} {k} {b} C q = subst (λ (j : ℕ). CodesEnded xs ys high low front back k b j) q C

-- ---- the numbers of a joint ending

module _ {S : ℕ} {ms : List Machine} {ranking ws : List ℕ} (M : CardMachines S ms) (O : InOrder ranking ws) where
  lane_ending_lem : (c : ℕ) {h l : ℕ} → EndingCell ws (code_ending ms c) h l → lane_ending h l ≡ ending_from (six_places ranking) ms c
  lane_ending_lem c {h} {l} J = go (code_ending ms c) refl
    where
      go : (o : Option (List ℕ)) → code_ending ms c ≡ o → lane_ending h l ≡ ending_number (six_places ranking) (code_ending ms c)
      go none e = ending_none h l (J.nothing e) ∙ ap (ending_number (six_places ranking)) (sym e)
      go (some v) e =
          let m : ℕ → ℕ = (λ i. get_or v (get_or (six_places ranking) i 0) 0) in
          let few : (i : ℕ) → m i ≤ 15 = (λ i. ending_marks_bound M.sound (states_of (state_counts ms) c) v e (get_or (six_places ranking) i 0)) in
          let size : length v ≤ 6 = omega (arith, each_length ending_of ms (states_of (state_counts ms) c) v e, M.machines) in
          let high : h ≡ 0 + (m 0 * 1099511627776 + (m 1 * 16777216 + m 2 * 256)) = omega (arith, J.high v e, ranked_high O.ranked O.six.size v size) in
          let low = J.low v e ∙ ranked_low O.ranked O.six.size v size in
          let number : mark_number (six_places ranking) v ≡ m 0 * 1048576 + (m 1 * 65536 + (m 2 * 4096 + (m 3 * 256 + (m 4 * 16 + m 5)))) = six_number (six_places ranking) v O.six.size in
          let b = marks_are 0 (m 0) (m 1) (m 2) (m 3) (m 4) (m 5) h l (few 0) (few 1) (few 2) (few 3) (few 4) (few 5) (omega arith) high low ∙ sym number in
          ending_some h l (J.there v e) ∙ ap some b ∙ ap (ending_number (six_places ranking)) (sym e)

-- ---- the endings as a column

first_sum_lem : (table : List ℕ) (front back c : ℕ) → sum_at table front (c / back) (c % back) 0 ≡ end_sum table front back c
first_sum_lem table front back c =
    let p : c / back * 4 + 0 ≡ c / back * 4 = omega arith in
    let q : (front + c % back) * 4 + 0 ≡ (front + c % back) * 4 = omega arith in
    λ i. get_or table (p i) 0 + get_or table (q i) 0

pub ending_places : {xs high low : List ℕ} {at : Site} → EndingsPre xs high low at → (code : ℕ) → code < codes_at at → CodePlaces code at.groups.front at.groups.back
ending_places Q code h = record { front_is = (div-lt_iff_lt-mul Q.some_back).1 (omega (arith, h, Q.size_is)); back_is = mod-lt code Q.some_back }

module _ {xs card counts ws steps high low : List ℕ} {at : Site} (Q : LastPre xs card counts ws steps high low at) where
  abbrev g : Groups
  g = at.groups

  M : CardMachines (symbol_count card) (machines_of card)
  M = card_machines card Q.tables.accepted

  Z : WeightsOf (state_counts (machines_of card)) ws
  Z = subst (λ (l : List ℕ). WeightsOf l ws) Q.tables.counts_are Q.tables.weights

  N : GroupsOf (state_counts (machines_of card)) g
  N = subst (λ (l : List ℕ). GroupsOf l g) Q.tables.counts_are Q.tables.groups

  codes_are : g.size ≡ product (state_counts (machines_of card))
  codes_are = N.size_is

  some_back : 0 < g.back
  some_back = positive g.back refl
    where
      some_codes : 0 < g.front * g.back
      some_codes = rw (all_codes N) (product_positive (state_counts (machines_of card)) (counts_positive M.sound))

      positive : (n : ℕ) → g.back ≡ n → 0 < g.back
      positive zero e = let z : g.front * g.back ≡ 0 = ap (λ (k : ℕ). g.front * k) e ∙ omega arith in absurd (omega (arith, z, some_codes))
      positive (suc n) e = omega arith

  front_below : (c : ℕ) → c < g.size → c / g.back < g.front
  front_below c h = (div-lt_iff_lt-mul some_back).1 (omega (arith, h, size_codes N))

  pub fill_ready : columns.EndingsPre card counts steps
  fill_ready = record { accepted = Q.tables.accepted; counts_are = Q.tables.counts_are; room = omega (arith, Q.tables.room) }

  module _ {ys : List ℕ} {W : ℕ} (small : Small steps) (E : EndingsFilled (machines_of card) steps ys) (w : W ≡ places counts) where
    room : 65 * W ≤ length ys
    room = omega (arith, w, E.size, Q.tables.room)

    pub add_ready : {high' low' : List ℕ} → length high' ≡ 264 → length low' ≡ 264 → FourPre ys (0 ∷ 64 ∷ 64 ∷ 64 ∷ []) counts ws high' low' W g
    add_ready {high'} {low'} eh el =
        subst (λ (l : List ℕ). FourPre ys (0 ∷ 64 ∷ 64 ∷ 64 ∷ []) l ws high' low' W g) (sym Q.tables.counts_are)
        (endings_pre M E Z N (0 ∷ 64 ∷ 64 ∷ 64 ∷ []) high' low' small (w ∙ ap places Q.tables.counts_are) room outputs (omega (arith, Q.tables.few, eh)) (omega (arith, Q.tables.few, el)))
      where
        outputs : (j : ℕ) → get_or (0 ∷ 64 ∷ 64 ∷ 64 ∷ []) j 0 ≤ 64
        outputs zero = omega arith
        outputs (suc zero) = omega arith
        outputs (suc (suc zero)) = omega arith
        outputs (suc (suc (suc zero))) = omega arith
        outputs (suc (suc (suc (suc j)))) = omega arith

    module _ {high' low' : List ℕ} (eh : length high' ≡ 264) (el : length low' ≡ 264) (J : FourAdded ys (0 ∷ 64 ∷ 64 ∷ 64 ∷ []) counts ws high' low' W g) where
      cell_at : (c : ℕ) → c < g.size → EndingCell ws (code_ending (machines_of card) c) (lane_sum high' g c 0) (lane_sum low' g c 0)
      cell_at c h =
          let a : c / g.back < g.front = front_below c h in
          let e : c / g.back * g.back + c % g.back ≡ c = div-add-mod' c g.back in
          let z = ending_sum M E Z N (subst (λ (l : List ℕ). FourAdded ys (0 ∷ 64 ∷ 64 ∷ 64 ∷ []) l ws high' low' W g) Q.tables.counts_are J) (c / g.back) (c % g.back) 0 a (mod-lt c some_back) (omega arith) refl in
          rw e at z

      pub endings_ready : EndingsPre xs high' low' at
      endings_ready = record {
        nodes = Q.nodes;
        few_nodes = Q.few_nodes;
        stage = Q.stage;
        few = omega (arith, codes_are, M.joint_states);
        small = Q.tables.few;
        size_is = size_codes N;
        some_back = some_back;
        high_room = omega (arith, eh, Q.tables.few);
        low_room = omega (arith, el, Q.tables.few);
        high_sums = λ c h. omega (arith, first_sum_lem high' g.front g.back c, J.highs (c / g.back) (c % g.back) 0 (front_below c h) (mod-lt c some_back) (omega arith), mul-le-mul_right nowhere R.machines, highs (c / g.back * g.back + c % g.back));
        low_sums = λ c h. omega (arith, first_sum_lem low' g.front g.back c, J.lows (c / g.back) (c % g.back) 0 (front_below c h) (mod-lt c some_back) (omega arith), mul-le-mul_right nowhere R.machines, lows (c / g.back * g.back + c % g.back));
      }
        where
          R : FourPre ys (0 ∷ 64 ∷ 64 ∷ 64 ∷ []) counts ws high' low' W g
          R = add_ready eh el

          highs : (n : ℕ) → cell_sum (high_at ys ws W 0) 0 0 counts n ≤ length counts * nowhere
          highs n = sum_small nowhere (high_at ys ws W 0) (λ m p. high_small _ _ _ (R.columns.small _) (R.weights m).scale_few (R.weights m).high_few) 0 0 counts n

          lows : (n : ℕ) → cell_sum (low_at ys ws W 0) 0 0 counts n ≤ length counts * nowhere
          lows n = sum_small nowhere (low_at ys ws W 0) (λ m p. low_small _ _ (R.weights m).low_few) 0 0 counts n

      pub endings_tried : {zs : List ℕ} → CodesEnded xs zs high' low' g.front g.back at.stage at.base (codes_at at) → LastTried card ws xs zs at
      endings_tried {zs} C = record {
        ends = λ ranking sets P s codes base O.
            subst (λ (n : ℕ). EndsTried card ranking sets xs zs at.stage (length sets * P) (length sets * P + n)) (sym codes)
            (C.ends card ranking sets P s base (omega (arith, codes)) (λ c h. (λ j. lane_ending (sym (first_sum_lem high' g.front g.back c) j) (sym (first_sum_lem low' g.front g.back c) j)) ∙ lane_ending_lem M O c (cell_at c h)));
      }
