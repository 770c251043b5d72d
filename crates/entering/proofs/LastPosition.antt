-- Entering the last position: its labels are its endings. Assumes nothing.
use Rattle.std.specs.Prelude.{◌≡◌, ◌∷◌, ◌≢◌, ◌+◌, ◌-◌, ◌*◌, ◌/◌, ◌%◌, ◌^◌, ◌<◌, ◌≤◌}
use Rattle.basics.proofs.Words.{refl, sym, ◌∙◌, ap, subst, List, [], Option, some, none, Option·none-ne-some, ℕ, zero, suc, arith, length, get_or, length-set, mod-lt, div-lt_iff_lt-mul, div-add-mod', mul_comm, mul-le-mul_right, dec_lt, ℕ_discrete, lt-ltb, le-ltb}
use Rattle.machine.specs.Machine.{Machine}
use Rattle.card.specs.Layout.{symbol_count}
use Rattle.card.specs.Card.{machines_of}
use Rattle.paths.specs.Costs.{Labels, lowered}
use Rattle.paths.specs.Ranked.{Ranked, ranked_costs}
use Rattle.paths.specs.Positions.{Done, Entering, Entered, done_start}
use Rattle.product.specs.Nodes.{state_counts, product}
use Rattle.product.specs.ProductGraph.{priced_ending}
use Rattle.product.specs.Setting.{position_of, Setting}
use Rattle.product.specs.Codes.{code_ending}
use Rattle.product.specs.Laws.Codes.{ending_edge}
use Rattle.product.specs.Laws.Letters.{OverSets, priced_over, over_positioned}
use Rattle.product.specs.Laws.Nodes.{product_positive}
use Rattle.product.specs.Laws.JointStep.{counts_positive}
use Rattle.product.specs.Laws.Entering.{endings_begun, no_ending_tried, ending_tried, endings_entered}
use Rattle.tables.specs.Tables.{CardMachines}
use Rattle.tables.specs.Laws.Cards.{card_machines}
use Rattle.cells.specs.declared.Cell.{Cell}
use Rattle.cells.specs.declared.Groups.{Groups}
use Rattle.cells.specs.Cells.{nowhere, high_of, low_of, high_at, low_at, cell_sum, places}
use Rattle.cells.specs.Columns.{weighed, WeightsOf}
use Rattle.cells.specs.Groups.{GroupsOf, sum_at, FourPre, FourAdded}
use Rattle.cells.specs.Labels.{no_label, cell_at, OwnCell}
use Rattle.cells.specs.Trying.{label_from, cell_price}
use Rattle.cells.specs.Laws.Numbers.{high_small, low_small}
use Rattle.cells.specs.Laws.Sums.{sum_small}
use Rattle.cells.specs.Laws.Groups.{all_codes, size_codes}
use Rattle.cells.specs.Laws.Labels.{written, written_here, written_other}
use Rattle.cells.specs.Laws.Trying.{label_there, label_none}
use Rattle.cells.specs.Laws.Position.{placed, placed_in, placed_before, placed_after}
use Rattle.cells.specs.Laws.Weighed.{weighed_whole}
use Rattle.columns.specs.Filling.{Small}
use Rattle.columns.specs.Endings.{EndingsPre, EndingsFilled}
use Rattle.columns.specs.Laws.Endings.{EndingCell, endings_pre, ending_sum}
use Rattle.entering.specs.Entering.{cell_graph, Ready, EndingsEntered}
use Rattle.entering.specs.Endings.{ending_cell, first_sum, ending_at, WritePre, EndingsWritten}

-- ---- the label of an ending

pub ending_there : (h l : ℕ) → h < nowhere → ending_cell h l ≡ record { high = h + 255; low = l }
unfolding ending_cell
ending_there h l k = rw (lt-ltb h nowhere k)

pub ending_none : (h l : ℕ) → nowhere ≤ h → ending_cell h l ≡ record { high = no_label; low = 0 }
unfolding ending_cell
ending_none h l k = rw (le-ltb h nowhere k)

-- ---- the loop over the codes

-- where the numbers of a code are, and that they can be added
pub record CodePlaces (high low : List ℕ) (front back code : ℕ) : Type 0 where
  pub code_few : code < 128
  pub places_few : (code / back < 66) × (front + code % back < 66)
  pub in_high : (code / back * 4 < length high) × ((front + code % back) * 4 < length high)
  pub in_low : (code / back * 4 < length low) × ((front + code % back) * 4 < length low)
  pub high_fits : first_sum high front (code / back) (code % back) < 2 ^ 64
  pub low_fits : first_sum low front (code / back) (code % back) < 2 ^ 64

module _ {own high low : List ℕ} {front back : ℕ} (R : WritePre own high low front back) where
  pub code_places : {code : ℕ} → code < front * back → CodePlaces high low front back code
  code_places {code} h =
      let p : code / back < front = (div-lt_iff_lt-mul R.some_back).1 h in
      let q : code % back < back = mod-lt code R.some_back in
      record {
        code_few = omega (arith, R.few);
        places_few = omega (arith, R.small);
        in_high = omega (arith, R.high_room);
        in_low = omega (arith, R.low_room);
        high_fits = omega (arith, R.high_few (code / back) (code % back) p q);
        low_fits = omega (arith, R.low_few (code / back) (code % back) p q);
      }

  pub written_start : EndingsWritten own high low front back 0
  written_start = record { size = R.size; label = λ c h. absurd (omega arith) }

  pub written_next : {xs : List ℕ} {code : ℕ} → EndingsWritten xs high low front back code → code < front * back → (x : Cell) → x ≡ ending_at high low front back code → EndingsWritten (written xs code x) high low front back (code + 1)
  written_next {xs} {code} W h x e = record { size = (simp length-set) ∙ W.size; label = λ c k. go c k (ℕ_discrete c code) }
    where
      go : (c : ℕ) → c < code + 1 → Dec (c ≡ code) → cell_at (written xs code x) c ≡ ending_at high low front back c
      go c k (yes q) = rw q (written_here xs code x (omega (arith, W.size, R.few)) ∙ e)
      go c k (no q) = written_other xs code x c q ∙ W.label c (omega arith)

pub written_end : {xs high low : List ℕ} {front back n code : ℕ} → EndingsWritten xs high low front back code → code ≤ n → n ≤ code → EndingsWritten xs high low front back n
written_end {n = n} {code = code} W a b = let e : code ≡ n = omega arith in rw e at W

-- ---- the sums are small enough to be added

first_sum_lem : (table : List ℕ) (front a b : ℕ) → first_sum table front a b ≡ sum_at table front a b 0
first_sum_lem table front a b =
    let p : a * 4 ≡ a * 4 + 0 = omega arith in
    let q : (front + b) * 4 ≡ (front + b) * 4 + 0 = omega arith in
    λ i. get_or table (p i) 0 + get_or table (q i) 0

back_some : {counts : List ℕ} {g : Groups} → GroupsOf counts g → 0 < product counts → 0 < g.back
back_some {g = g} G h = positive g.back g.front (rw (mul_comm g.back g.front) (omega (arith, all_codes G)))
  where
    positive : (m n : ℕ) → 0 < m * n → 0 < m
    positive zero n h = absurd (omega arith)
    positive (suc m) n h = omega arith

write_pre : {steps four counts ws own high low : List ℕ} {W : ℕ} {g : Groups} → FourPre steps four counts ws high low W g → FourAdded steps four counts ws high low W g
    → length own ≡ 256 → 0 < product counts → g.front + g.back ≤ 66 → WritePre own high low g.front g.back
write_pre {steps} {four} {counts} {ws} {high = high} {low = low} {W = W} {g = g} Q J size codes few = record {
  size = size;
  few = omega (arith, all_codes Q.groups, Q.few);
  small = few;
  some_back = back_some Q.groups codes;
  high_room = Q.high_room;
  low_room = Q.low_room;
  high_few = λ a b h k. omega (arith, first_sum_lem high g.front a b, J.highs a b 0 h k (omega arith), mul-le-mul_right nowhere Q.machines, highs a b);
  low_few = λ a b h k. omega (arith, first_sum_lem low g.front a b, J.lows a b 0 h k (omega arith), mul-le-mul_right nowhere Q.machines, lows a b);
}
  where
    highs : (a b : ℕ) → cell_sum (high_at steps ws W (get_or four 0 0)) 0 0 counts (a * g.back + b) ≤ length counts * nowhere
    highs a b = sum_small nowhere (high_at steps ws W (get_or four 0 0)) (λ m p. high_small _ _ _ (Q.columns.small _) (Q.weights m).scale_few (Q.weights m).high_few) 0 0 counts (a * g.back + b)

    lows : (a b : ℕ) → cell_sum (low_at steps ws W (get_or four 0 0)) 0 0 counts (a * g.back + b) ≤ length counts * nowhere
    lows a b = sum_small nowhere (low_at steps ws W (get_or four 0 0)) (λ m p. low_small _ _ (Q.weights m).low_few) 0 0 counts (a * g.back + b)

-- ---- the cell of a code's ending

-- x is the label of an ending with these marks
record EndedAs (ws : List ℕ) (o : Option (List ℕ)) (x : Cell) : Type 0 where
  high_is : (v : List ℕ) → o ≡ some v → x.high ≡ weighed (λ m. high_of ws m / 256) 0 v * 256 + 255
  low_is : (v : List ℕ) → o ≡ some v → x.low ≡ weighed (low_of ws) 0 v
  there : (v : List ℕ) → o ≡ some v → x.high < nowhere
  nothing : o ≡ none → x ≡ record { high = no_label; low = 0 }

module _ {ws : List ℕ} (whole : (m : ℕ) → high_of ws m % 256 ≡ 0) {o : Option (List ℕ)} where
  ended_as : {h l : ℕ} → EndingCell ws o h l → EndedAs ws o (ending_cell h l)
  ended_as {h} {l} E = record {
    high_is = λ v e. rw (is v e) (omega (arith, E.high v e, weighed_whole (high_of ws) whole 0 v));
    low_is = λ v e. rw (is v e) (E.low v e);
    there = λ v e. rw (is v e) (omega (arith, E.there v e, E.high v e, weighed_whole (high_of ws) whole 0 v));
    nothing = λ e. ending_none h l (E.nothing e);
  }
    where
      is : (v : List ℕ) → o ≡ some v → ending_cell h l ≡ record { high = h + 255; low = l }
      is v e = ending_there h l (E.there v e)

module _ {ws : List ℕ} {x : Cell} where
  ended_own : (o : Option (List ℕ)) → EndedAs ws o x → OwnCell x
  ended_own none E = rw (E.nothing refl) (record { last = refl; most = omega arith; empty = λ _. refl })
  ended_own (some v) E = record { last = omega (arith, E.high_is v refl); most = omega (arith, E.there v refl); empty = λ e. absurd (omega (arith, E.there v refl)) }

  ended_label : (o : Option (List ℕ)) → EndedAs ws o x → (sets : List ℕ) (ms : List Machine) → label_from x ≡ priced_ending (cell_price ws) sets ms o
  ended_label none E sets ms = label_none x (rw (E.nothing refl) (omega arith))
  ended_label (some v) E sets ms =
      let p : x.high / 256 ≡ weighed (λ m. high_of ws m / 256) 0 v = omega (arith, E.high_is v refl) in
      let q : x.low ≡ weighed (low_of ws) 0 v + 0 = omega (arith, E.low_is v refl) in
      label_there x (E.there v refl) ∙ (λ i. some (p i, q i))

-- ---- one code after the other

module _ {card sets : List ℕ} {P : ℕ} (s : Setting card sets P) (ws : List ℕ) (f : ℕ → Cell) (is : (c : ℕ) → c < P → label_from (f c) ≡ (cell_graph ws card sets).ending (length sets * P + c)) where
  over : OverSets (cell_graph ws card sets) card sets
  over = priced_over (cell_price ws) card sets s.accepted

  done : Done (cell_graph ws card sets) (position_of card) (λ _. none) (suc (length sets))
  done = done_start (cell_graph ws card sets) (position_of card) (over_positioned over) (λ _. none) (λ u. refl)

  -- the labels of the codes below z
  abbrev upto : ℕ → Labels (ranked_costs 1)
  upto z = placed (length sets * P) z (λ _. none) f

  upto_none : upto 0 ≡ (λ _. none)
  upto_none = λ i w. go w (dec_lt w (length sets * P)) i
    where
      go : (w : ℕ) → Dec (w < length sets * P) → upto 0 w ≡ none
      go w (yes h) = placed_before (length sets * P) 0 (λ _. none) f w h
      go w (no h) = placed_after (length sets * P) 0 (λ _. none) f w (omega arith)

  upto_here : (z : ℕ) → upto (z + 1) (length sets * P + z) ≡ label_from (f z)
  upto_here z = placed_in (length sets * P) (z + 1) (λ _. none) f z (omega arith)

  upto_before : (z : ℕ) → upto z (length sets * P + z) ≡ none
  upto_before z = placed_after (length sets * P) z (λ _. none) f (length sets * P + z) (omega arith)

  upto_other : (z w : ℕ) → w ≢ length sets * P + z → upto (z + 1) w ≡ upto z w
  upto_other z w n = go (dec_lt w (length sets * P)) (dec_lt w (length sets * P + z))
    where
      go : Dec (w < length sets * P) → Dec (w < length sets * P + z) → upto (z + 1) w ≡ upto z w
      go (yes h) d = placed_before (length sets * P) (z + 1) (λ _. none) f w h ∙ sym (placed_before (length sets * P) z (λ _. none) f w h)
      go (no h) (no d) = placed_after (length sets * P) (z + 1) (λ _. none) f w (omega arith) ∙ sym (placed_after (length sets * P) z (λ _. none) f w (omega arith))
      go (no h) (yes d) =
          let e : w ≡ length sets * P + (w - length sets * P) = omega arith in
          rw e (placed_in (length sets * P) (z + 1) (λ _. none) f (w - length sets * P) (omega arith) ∙ sym (placed_in (length sets * P) z (λ _. none) f (w - length sets * P) (omega arith)))

  -- a code without an ending has no label
  upto_same : (z : ℕ) → label_from (f z) ≡ none → upto z ≡ upto (z + 1)
  upto_same z e = λ i w. go w (ℕ_discrete w (length sets * P + z)) i
    where
      go : (w : ℕ) → Dec (w ≡ length sets * P + z) → upto z w ≡ upto (z + 1) w
      go w (yes q) = rw q (upto_before z ∙ sym (upto_here z ∙ e))
      go w (no q) = sym (upto_other z w q)

  abbrev EnteringTo : ℕ → Labels (ranked_costs 1) → Type 0
  EnteringTo z L = Entering (cell_graph ws card sets) (position_of card) (λ _. none) L (length sets) (λ w. w < length sets * P + z) (λ _ _. ⊥)

  code_entered : (z : ℕ) → z < P → EnteringTo z (upto z) → EnteringTo (z + 1) (upto (z + 1))
  code_entered z h S = go ((cell_graph ws card sets).ending (length sets * P + z)) refl
    where
      go : (o : Option (Ranked 1)) → (cell_graph ws card sets).ending (length sets * P + z) ≡ o → EnteringTo (z + 1) (upto (z + 1))
      go none e = subst (EnteringTo (z + 1)) (upto_same z (is z h ∙ e)) (no_ending_tried s over h S e)
      go (some c) e = ending_tried s over h S c e (record {
        here = lowered (λ a q. absurd (Option·none-ne-some a (sym (upto_before z) ∙ q))) (upto_here z ∙ is z h ∙ e);
        others = λ w n. upto_other z w n;
      })

  codes_entered : (z : ℕ) → z ≤ P → EnteringTo z (upto z)
  codes_entered zero h =
      let e : length sets * P + 0 ≡ length sets * P = omega arith in
      subst (λ (n : ℕ). Entering (cell_graph ws card sets) (position_of card) (λ _. none) (upto 0) (length sets) (λ w. w < n) (λ _ _. ⊥)) (sym e)
      (subst (λ (L : Labels (ranked_costs 1)). Entering (cell_graph ws card sets) (position_of card) (λ _. none) L (length sets) (λ w. w < length sets * P) (λ _ _. ⊥)) (sym upto_none) (endings_begun s over done))
  codes_entered (suc z) h =
      let e : suc z ≡ z + 1 = omega arith in
      rw e (code_entered z (omega arith) (codes_entered z (omega arith)))

  all_entered : Entered (cell_graph ws card sets) (position_of card) (upto P) (length sets)
  all_entered = endings_entered s over done (codes_entered P (omega arith))

-- ---- all together

module _ {card counts ws own steps : List ℕ} {W : ℕ} {g : Groups} (R : Ready card counts ws own steps W g) where
  M : CardMachines (symbol_count card) (machines_of card)
  M = card_machines card R.accepted

  Z : WeightsOf (state_counts (machines_of card)) ws
  Z = rw R.counts_are at R.weights

  G : GroupsOf (state_counts (machines_of card)) g
  G = rw R.counts_are at R.groups

  -- what filling asks
  pub fill_ready : EndingsPre card counts steps
  fill_ready = record { accepted = R.accepted; counts_are = R.counts_are; room = omega (arith, R.room, R.width) }

  -- what adding asks
  pub add_ready : {ys : List ℕ} → Small steps → EndingsFilled (machines_of card) steps ys → (high low : List ℕ) → (g.front + g.back) * 4 ≤ length high → (g.front + g.back) * 4 ≤ length low
      → FourPre ys (0 ∷ 64 ∷ 64 ∷ 64 ∷ []) counts ws high low W g
  add_ready small E high low rh rl =
      let w : W ≡ places (state_counts (machines_of card)) = R.width ∙ ap places R.counts_are in
      let p = endings_pre M E Z G (0 ∷ 64 ∷ 64 ∷ 64 ∷ []) high low small w (omega (arith, R.room, E.size)) outputs rh rl in
      rw R.counts_are p
    where
      outputs : (j : ℕ) → get_or (0 ∷ 64 ∷ 64 ∷ 64 ∷ []) j 0 ≤ 64
      outputs zero = omega arith
      outputs (suc zero) = omega arith
      outputs (suc (suc zero)) = omega arith
      outputs (suc (suc (suc zero))) = omega arith
      outputs (suc (suc (suc (suc j)))) = omega arith

  codes_some : 0 < product counts
  codes_some = rw R.counts_are (product_positive (state_counts (machines_of card)) (counts_positive M.sound))

  -- what writing asks
  pub write_ready : {ys high low : List ℕ} → Small steps → EndingsFilled (machines_of card) steps ys → FourAdded ys (0 ∷ 64 ∷ 64 ∷ 64 ∷ []) counts ws high low W g → (g.front + g.back) * 4 ≤ length high
      → (g.front + g.back) * 4 ≤ length low → WritePre own high low g.front g.back × (g.size ≡ g.front * g.back)
  write_ready {high = high} {low = low} small E J rh rl = (write_pre (add_ready small E high low rh rl) J R.size codes_some R.few, size_codes R.groups)

  pub last_entered : {ys high low own' : List ℕ} → EndingsFilled (machines_of card) steps ys → FourAdded ys (0 ∷ 64 ∷ 64 ∷ 64 ∷ []) counts ws high low W g
      → EndingsWritten own' high low g.front g.back g.size → EndingsEntered card ws own'
  last_entered {high = high} {low = low} {own' = own'} E J Y = record {
    position = record { size = Y.size; labels = λ c h. ended_own (code_ending (machines_of card) c) (ended c h) };
    entered = λ sets P s. all_entered s ws (cell_at own') (λ c h. labelled sets P s c h);
  }
    where
      back : 0 < g.back
      back = back_some R.groups codes_some

      ended : (c : ℕ) → c < product (state_counts (machines_of card)) → EndedAs ws (code_ending (machines_of card) c) (cell_at own' c)
      ended c h =
          let a : c / g.back < g.front = (div-lt_iff_lt-mul back).1 (omega (arith, all_codes G)) in
          let e : c / g.back * g.back + c % g.back ≡ c = div-add-mod' c g.back in
          let z = ending_sum M E Z G (rw R.counts_are at J) (c / g.back) (c % g.back) 0 a (mod-lt c back) (omega arith) refl in
          let y = rw e at z in
          rw (Y.label c (omega (arith, G.size_is)), first_sum_lem high g.front (c / g.back) (c % g.back), first_sum_lem low g.front (c / g.back) (c % g.back)) (ended_as Z.whole y)

      labelled : (sets : List ℕ) (P : ℕ) → Setting card sets P → (c : ℕ) → c < P → label_from (cell_at own' c) ≡ (cell_graph ws card sets).ending (length sets * P + c)
      labelled sets P s c h =
          let k : c < product (state_counts (machines_of card)) = omega (arith, s.states) in
          rw s.states (ended_label (code_ending (machines_of card) c) (ended c k) sets (machines_of card) ∙ sym (ending_edge (cell_price ws) sets (machines_of card) c k))
