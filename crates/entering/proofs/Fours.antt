-- Trying the pairs of one input, four kept outputs after the other.
use Rattle.std.specs.Prelude.{◌≡◌, ◌∷◌, ◌⊎◌, ◌+◌, ◌-◌, ◌*◌, ◌^◌, ◌<◌, ◌≤◌}
use Rattle.basics.proofs.Words.{refl, sym, ◌∙◌, ap, subst, Bool, true, false, List, [], Option, some, Option·none-ne-some, inl, inr, ℕ, arith, length, get_or, member, eq-eqb, clash, no_member, member_one}
use Rattle.machine.specs.declared.Pair.{Pair}
use Rattle.machine.specs.Symbols.{empty_symbol}
use Rattle.card.specs.Layout.{symbol_count}
use Rattle.card.specs.Card.{machines_of, card_refusal}
use Rattle.paths.specs.Costs.{Costs, Labels}
use Rattle.paths.specs.Ranked.{Ranked, ranked_costs}
use Rattle.paths.specs.Graph.{Alphabet, Edge, Graph}
use Rattle.paths.specs.Positions.{Entering, entering_skip}
use Rattle.product.specs.Nodes.{state_counts, product}
use Rattle.product.specs.ProductGraph.{Move}
use Rattle.product.specs.Codes.{code_step}
use Rattle.product.specs.Setting.{position_of}
use Rattle.product.specs.Laws.Codes.{priced_step, symbol_edge}
use Rattle.product.specs.Laws.Setting.{node_low, node_high, symbols_few}
use Rattle.product.specs.Laws.Letters.{letter_at, priced_over}
use Rattle.product.specs.Laws.Entering.{NotLeft, TriedBefore}
use Rattle.tables.specs.Tables.{CardMachines, CountsOfSome}
use Rattle.tables.specs.Laws.Cards.{card_machines, card_counts}
use Rattle.cells.specs.declared.Groups.{Groups}
use Rattle.cells.specs.Cells.{nowhere, places}
use Rattle.cells.specs.Columns.{WeightsOf}
use Rattle.cells.specs.Fours.{next_four, without_four}
use Rattle.cells.specs.Groups.{GroupsOf, FourPre, FourAdded}
use Rattle.cells.specs.Labels.{next_cell}
use Rattle.cells.specs.Trying.{label_from, cell_price}
use Rattle.cells.specs.Laws.Fours.{four_most, four_or_left}
use Rattle.cells.specs.Laws.Meeting.{four_pre}
use Rattle.cells.specs.Laws.Tried.{lane_pair, lane_sum, code_step_is}
use Rattle.lanes.specs.Trying.{way_by, TryPre, TriedIn, SkipPre}
use Rattle.lanes.specs.Laws.Meeting.{try_pre, skip_pre}
use Rattle.lanes.specs.Laws.Position.{DidTo}
use Rattle.lanes.specs.Laws.Tried.{position_tried, position_own}
use Rattle.columns.specs.Filling.{FillPre}
use Rattle.columns.specs.Prepared.{NoSteps, Covered, Prepared}
use Rattle.entering.specs.Entering.{cell_graph, NextRoom, Ready, Position}
use Rattle.entering.specs.Symbols.{codes, Ahead, EnteringBy, InputTried}
use Rattle.entering.specs.Laws.Most.{way_fits}

-- an edge serves for every letter that has the same edge
pub entering_alike : {costs : Costs} {alphabet : Alphabet} (G : Graph costs alphabet) (pos : ℕ → ℕ) {K L : Labels costs} {i : ℕ} {Ended : ℕ → Type 0} {Did : ℕ → alphabet.Letter → Type 0} → Entering G pos K L i Ended Did
    → (Did' : ℕ → alphabet.Letter → Type 0)
    → ((u : ℕ) (p : alphabet.Letter) (e : Edge costs.Cost) → pos u ≡ i → Did' u p → G.edge u p ≡ some e → (q : alphabet.Letter) × Did u q × (G.edge u q ≡ some e))
    → Entering G pos K L i Ended Did'
entering_alike G pos S Did' f = record {
  attained = S.attained;
  others = S.others;
  falls = S.falls;
  ends = S.ends;
  leaving = λ u p e c a b d h l. let z = f u p e a d h in S.leaving u z.0 e c a b z.1 z.2 l;
}

-- besides the pairs whose input is not in `rest`, those of the input x with the kept outputs that are not left
abbrev pub KeptTried : (rest x kept left : ℕ) → ℕ → Pair → Type 0
KeptTried rest x kept left w p = (member rest p.input ≡ false) ⊎ ((p.input ≡ x) × (member kept p.output ≡ true) × (member left p.output ≡ false))

-- own became own' by those pairs
pub record FoursTried (card ws own own' next : List ℕ) (x kept left : ℕ) : Type 0 where
  pub position : Position own' (codes card)
  pub enters : (sets : List ℕ) (K L : Labels (ranked_costs 1)) (i rest : ℕ) → Ahead card sets next i L → member (get_or sets i 0) x ≡ true
      → EnteringBy card ws sets own K L i (NotLeft rest) → EnteringBy card ws sets own' K L i (KeptTried rest x kept left)

pub fours_start : {card ws own next : List ℕ} {x kept : ℕ} → Position own (codes card) → FoursTried card ws own own next x kept kept
fours_start {card} {ws} {x = x} {kept} O = record {
  position = O;
  enters = λ sets K L i rest A t S. entering_skip (cell_graph ws card sets) (position_of card) S (λ _. ⊥) (KeptTried rest x kept kept) (λ u c a d h. d) (λ u p e c a b d h l. go rest p d);
}
  where
    go : (rest : ℕ) (p : Pair) → (member rest p.input ≡ false) ⊎ ((p.input ≡ x) × (member kept p.output ≡ true) × (member kept p.output ≡ false)) → member rest p.input ≡ false
    go rest p (inl t) = t
    go rest p (inr t) = absurd (clash t.1 t.2)

-- ---- the next four outputs

pub four_few : (set : ℕ) {four : List ℕ} → four ≡ next_four set → (j : ℕ) → get_or four j 0 ≤ 64
four_few set e j = subst (λ (l : List ℕ). get_or l j 0 ≤ 64) (sym e) (four_most set j)

pub four_or_after : (set : ℕ) {four : List ℕ} {after : ℕ} → set < 2 ^ 64 → four ≡ next_four set → after ≡ without_four set → (y : ℕ) → member set y ≡ true → ((j : ℕ) × (j < 4) × (get_or four j 0 ≡ y)) ⊎ (member after y ≡ true)
four_or_after set {four} {after} h e f y t = pick (four_or_left set h y t)
  where
    pick : ((j : ℕ) × (j < 4) × (get_or (next_four set) j 0 ≡ y)) ⊎ (member (without_four set) y ≡ true) → ((j : ℕ) × (j < 4) × (get_or four j 0 ≡ y)) ⊎ (member after y ≡ true)
    pick (inl z) = inl (z.0, z.1, ap (λ (l : List ℕ). get_or l z.0 0) e ∙ z.2)
    pick (inr z) = inr (ap (λ (n : ℕ). member n y) f ∙ z)

-- ---- what the calls ask, by what entering is given

-- the width may be any number that is the number of places
pub of_width : {card counts ws own steps : List ℕ} {W : ℕ} {g : Groups} → Ready card counts ws own steps (places counts) g → W ≡ places counts → Ready card counts ws own steps W g
of_width {card} {counts} {ws} {own} {steps} {g = g} R e = subst (λ (n : ℕ). Ready card counts ws own steps n g) (sym e) R

module _ {card counts ws own steps : List ℕ} {W : ℕ} {g : Groups} (R : Ready card counts ws own steps W g) where
  its_machines : CardMachines (symbol_count card) (machines_of card)
  its_machines = card_machines card R.accepted

  pub counts_known : CountsOfSome counts
  counts_known = card_counts card R.accepted R.counts_are

  weights_are : WeightsOf (state_counts (machines_of card)) ws
  weights_are = subst (λ (l : List ℕ). WeightsOf l ws) R.counts_are R.weights

  groups_are : GroupsOf (state_counts (machines_of card)) g
  groups_are = subst (λ (l : List ℕ). GroupsOf l g) R.counts_are R.groups

  room_is : {next : List ℕ} → NextRoom next ws (length counts) (product counts) → NextRoom next ws (length (state_counts (machines_of card))) (codes card)
  room_is {next} N = subst (λ (l : List ℕ). NextRoom next ws (length l) (product l)) R.counts_are N

  pub fill_ready : {x : ℕ} → x ≤ symbol_count card → FillPre card counts steps W x
  fill_ready h = record { accepted = R.accepted; counts_are = R.counts_are; input = omega (arith, its_machines.symbols); width = R.width; room = R.room }

  module _ {steps' four high low : List ℕ} {x kept : ℕ} (Q : Prepared (machines_of card) x W steps' kept) (outputs : (j : ℕ) → get_or four j 0 ≤ 64)
      (rh : (g.front + g.back) * 4 ≤ length high) (rl : (g.front + g.back) * 4 ≤ length low) where
    pub four_ready : FourPre steps' four counts ws high low W g
    four_ready =
        subst (λ (l : List ℕ). FourPre steps' four l ws high low W g) (sym R.counts_are)
        (four_pre its_machines Q.columns weights_are groups_are four high low outputs rh rl)

    module _ {own' next : List ℕ} (N : NextRoom next ws (length counts) (product counts)) (O : Position own' (codes card)) (J : FourAdded steps' four counts ws high low W g) where
      added_are : FourAdded steps' four (state_counts (machines_of card)) ws high low W g
      added_are = subst (λ (l : List ℕ). FourAdded steps' four l ws high low W g) R.counts_are J

      pub try_ready : TryPre own' next high low g.front g.back × SkipPre own' next high g.front g.back 0 (g.front * g.back)
      try_ready = (
        try_pre its_machines Q.columns weights_are groups_are added_are outputs rh rl O.size N.fits,
        skip_pre its_machines Q.columns weights_are groups_are added_are outputs (room_is N).labels O.labels,
      )

      -- ---- four outputs more

      module _ {own'' : List ℕ} (reads : 1 ≤ x) (T : TriedIn own' own'' next high low g.front g.back 0 (g.front * g.back)) where
        fits : (c j : ℕ) → c < codes card → j < 4 → (v : Move) → code_step (machines_of card) c (lane_pair x four j) ≡ some v → (next_cell next v.target).high < nowhere → (way_by next (lane_sum high g c j) (lane_sum low g c j)).high < nowhere
        fits c j h k =
            way_fits its_machines (room_is N) c (lane_pair x four j)
            (code_step_is its_machines Q.columns weights_are groups_are try_ready.0.some.1 added_are outputs c j h k)

        -- no label is of a set: those of the law are the set of x alone
        still_labels : Position own'' (codes card)
        still_labels = record {
          size = T.size ∙ O.size;
          labels = position_own its_machines Q.columns weights_are groups_are try_ready.0.some.1 added_are outputs (2 ^ x ∷ []) next 0 (λ e. omega arith) (member_one x x ∙ eq-eqb x x refl) (room_is N).labels fits
              (λ w. label_from (next_cell next (w - (0 + 1) * codes card))) (λ t h. let e : (0 + 1) * codes card + t - (0 + 1) * codes card ≡ t = omega arith in ap (λ (n : ℕ). label_from (next_cell next n)) e) O.labels T;
        }

        pub fours_next : {start : List ℕ} {left after : ℕ} → ((y : ℕ) → member left y ≡ true → ((j : ℕ) × (j < 4) × (get_or four j 0 ≡ y)) ⊎ (member after y ≡ true))
            → FoursTried card ws start own' next x kept left → FoursTried card ws start own'' next x kept after
        fours_next {left = left} {after} or_left A = record {
          position = still_labels;
          enters = λ sets K L i rest B t S.
              entering_skip (cell_graph ws card sets) (position_of card)
              (position_tried its_machines Q.columns weights_are groups_are try_ready.0.some.1 added_are outputs sets next i (λ e. omega arith) t (room_is N).labels fits
              (KeptTried rest x kept left) L B.nexts O.labels T (A.enters sets K L i rest B t S))
              (λ _. ⊥) (KeptTried rest x kept after) (λ u c a d h. d) (λ u p e c a b d h l. done i rest u p (node_low B.setting u i a) (node_high B.setting u i a) d);
        }
          where
            done : (i rest u : ℕ) (p : Pair) → i * codes card ≤ u → u < i * codes card + codes card → KeptTried rest x kept after u p → DidTo (i * codes card) (lane_pair x four) (KeptTried rest x kept left) (codes card) 0 u p
            done i rest u p a b (inl t) = inl (inl t)
            done i rest u p a b (inr t) = go (member left p.output) refl
              where
                lane : ((j : ℕ) × (j < 4) × (get_or four j 0 ≡ p.output)) ⊎ (member after p.output ≡ true) → DidTo (i * codes card) (lane_pair x four) (KeptTried rest x kept left) (codes card) 0 u p
                lane (inl z) = inr (record { code = u - i * codes card; lane = z.0; node = omega arith; letter = λ k. record { input = t.0 k; output = sym z.2 k }; lane_few = z.1; which = inl (omega arith) })
                lane (inr z) = absurd (clash z t.2)

                go : (b : Bool) → member left p.output ≡ b → DidTo (i * codes card) (lane_pair x four) (KeptTried rest x kept left) (codes card) 0 u p
                go true e = lane (or_left p.output e)
                go false e = inl (inr (t.0, t.1, e))

-- ---- no output left: a pair has no edge, or that of a kept output
pub fours_end : {card ws own own' next steps : List ℕ} {x W kept left : ℕ} → card_refusal card ≡ 0 → 1 ≤ x → Prepared (machines_of card) x W steps kept → left ≤ 0 → FoursTried card ws own own' next x kept left → InputTried card ws own own' next x
fours_end {card} {ws} {next = next} {x = x} {kept = kept} {left = left} ok reads Q z A = record {
  position = A.position;
  enters = λ sets K L i rest B t S.
      entering_alike (cell_graph ws card sets) (position_of card) (A.enters sets K L i rest B t S) (TriedBefore rest x (i * codes card + codes card) 0)
      (λ u p e a d h. serves sets i rest B t u p e a h d);
}
  where
    serves : (sets : List ℕ) {L : Labels (ranked_costs 1)} (i rest : ℕ) → Ahead card sets next i L → member (get_or sets i 0) x ≡ true → (u : ℕ) (p : Pair) (e : Edge (Ranked 1)) → position_of card u ≡ i → (cell_graph ws card sets).edge u p ≡ some e
        → TriedBefore rest x (i * codes card + codes card) 0 u p → (q : Pair) × KeptTried rest x kept left u q × ((cell_graph ws card sets).edge u q ≡ some e)
    serves sets i rest B t u p e a h (inl d) = (p, inl d, h)
    serves sets i rest B t u p e a h (inr d) = go (Q.covers p.output few)
      where
        few : p.output < 64
        few = omega (arith, symbols_few B.setting, (letter_at (priced_over (cell_price ws) card sets ok) u p e i a h).pair.output_there)

        step : ℕ → Option Move
        step y = code_step (machines_of card) (u - i * codes card) (record { input = x; output = y })

        below : u - i * codes card < codes card
        below = omega (arith, node_low B.setting u i a, node_high B.setting u i a)

        edge_is : (y : ℕ) → (cell_graph ws card sets).edge u (record { input = x; output = y }) ≡ priced_step (cell_price ws) ((i + 1) * codes card) (step y)
        edge_is y =
            let q : i * codes card + (u - i * codes card) ≡ u = omega (arith, node_low B.setting u i a) in
            rw q at (symbol_edge (cell_price ws) sets (machines_of card) i (u - i * codes card) below (record { input = x; output = y }) (λ n. omega arith) t)

        this : p ≡ record { input = x; output = p.output }
        this = λ k. record { input = d.0 k; output = p.output }

        its : priced_step (cell_price ws) ((i + 1) * codes card) (step p.output) ≡ some e
        its = sym (edge_is p.output) ∙ ap ((cell_graph ws card sets).edge u) (sym this) ∙ h

        go : ((x ≡ empty_symbol) × (p.output ≡ empty_symbol)) ⊎ (NoSteps (machines_of card) x p.output ⊎ Covered (machines_of card) x kept p.output) → (q : Pair) × KeptTried rest x kept left u q × ((cell_graph ws card sets).edge u q ≡ some e)
        go (inl n) = absurd (omega (arith, n.0))
        go (inr (inl n)) = absurd (Option·none-ne-some e (ap (priced_step (cell_price ws) ((i + 1) * codes card)) (sym (n (u - i * codes card))) ∙ its))
        go (inr (inr v)) =
            let l : left ≡ 0 = omega arith in (
              record { input = x; output = v.other },
              inr (refl, v.is_kept_lem, rw l (no_member v.other)),
              edge_is v.other ∙ ap (priced_step (cell_price ws) ((i + 1) * codes card)) (v.same (u - i * codes card) below) ∙ its,
            )
