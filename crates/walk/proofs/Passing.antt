-- The two kinds of ways on from a node: by an insertion, whose columns have the steps of all states, and by a symbol of the set there, whose columns have
-- those of the states at hand. Assumes nothing.
use Rattle.std.specs.Prelude.{◌≡◌, ◌&&◌, ◌||◌, ◌∷◌, ◌⊎◌, ◌≢◌, ◌+◌, ◌*◌, ◌%◌, ◌<◌, ◌≤◌}
use Rattle.basics.specs.Words.{refl, sym, ◌∙◌, ap, subst, Bool, true, false, not, List, [], Option, some, none, inl, inr, ℕ, zero, suc, arith, length, get_or, take, eqb, get_or-take, length-take-le, member}
use Rattle.machine.specs.declared.Pair.{Pair}
use Rattle.machine.specs.Symbols.{empty_symbol, is_pair}
use Rattle.machine.specs.SymbolSets.{least_symbol}
use Rattle.machine.specs.Machine.{Machine, state_count_of, step_of}
use Rattle.card.specs.Layout.{symbol_count}
use Rattle.card.specs.Card.{machines_of}
use Rattle.paths.specs.Costs.{Labels}
use Rattle.paths.specs.Ranked.{ranked_costs}
use Rattle.paths.specs.Walk.{Tight, some_tight}
use Rattle.product.specs.Nodes.{product, state_counts, states_of}
use Rattle.product.specs.ProductGraph.{pairs}
use Rattle.product.specs.JointStep.{and_those, of_each, joint_step}
use Rattle.product.specs.Codes.{coded, code_step}
use Rattle.product.specs.Laws.Codes.{priced_step, insertion_edge_lem, symbol_edge}
use Rattle.product.specs.Laws.Sets.{member_within}
use Rattle.product.specs.Laws.LeastPair.{Finding, finding_start, first_is_least, finding_next}
use Rattle.tables.specs.StepTable.{step_code, machine_at}
use Rattle.tables.specs.Tables.{CardMachines}
use Rattle.tables.specs.Laws.Cards.{card_machines}
use Rattle.tables.proofs.Machines.{counts_length, count_at_lem, code_states, below_at}
use Rattle.cells.specs.Cells.{step_at, places}
use Rattle.cells.specs.Trying.{cell_price}
use Rattle.cells.specs.Laws.Sums.{places_all}
use Rattle.columns.specs.AtHand.{AtHandPre, Stuck, FilledAtHand}
use Rattle.columns.specs.Prepared.{NoSteps, Covered, Prepared}
use Rattle.columns.specs.Laws.Places.{places_before, places_few}
use Rattle.entering.specs.Entering.{cell_graph}
use Rattle.tight.specs.declared.Least.{Least}
use Rattle.tight.specs.Labels.{HasLabel}
use Rattle.passing.specs.Places.{places_from, PlacesPre, Placed}
use Rattle.tight.specs.Keeping.{NoneBelow, LeastPre, LeastAt}
use Rattle.passing.specs.Going.{GoPre, GoesOn}
use Rattle.walk.specs.WalkLabels.{pair_count}
use Rattle.passing.proofs.Placing.{places_length, place_at}
use Rattle.walk.proofs.Sizes.{pairs_sized}
use Rattle.walk.proofs.Columns.{Told, HoldsAt, states_length}
use Rattle.walk.proofs.Tightness.{label_is}
use Rattle.walk.proofs.Nodes.{At, node_of, Ground, Reached, tight_pair, least_pre, none_least, found_passed, go_pre, low_falls, goes_next}

-- ---- the places of states in a column

module _ {S : ℕ} {ms : List Machine} (M : CardMachines S ms) (c : ℕ) (h : c < product (state_counts ms)) where
  pub state_there : (m : ℕ) → m < length ms → get_or (states_of (state_counts ms) c) m 0 < state_count_of (machine_at ms m)
  state_there m k = omega (arith, below_at (state_counts ms) (states_of (state_counts ms) c) (code_states M c h) m (omega (arith, counts_length ms)), count_at_lem ms m)

  place_is : (m : ℕ) → m < length ms → get_or (places_from 0 (state_counts ms) (states_of (state_counts ms) c)) m 0 ≡ places (take m (state_counts ms)) + get_or (states_of (state_counts ms) c) m 0
  place_is m k = omega (arith, place_at 0 (state_counts ms) (states_of (state_counts ms) c) (states_length (state_counts ms) c) m (omega (arith, counts_length ms)))

  pub place_there : (m : ℕ) → m < length ms → get_or (places_from 0 (state_counts ms) (states_of (state_counts ms) c)) m 0 < places (state_counts ms)
  place_there m k =
      omega (arith, place_is m k, state_there m k, count_at_lem ms m, places_all (state_counts ms), counts_length ms, places_before (state_counts ms) m (length (state_counts ms)) (omega (arith, counts_length ms)) (omega arith))

  places_count : length (places_from 0 (state_counts ms) (states_of (state_counts ms) c)) ≡ length ms
  places_count = places_length 0 (state_counts ms) (states_of (state_counts ms) c) (states_length (state_counts ms) c) ∙ counts_length ms

  pub few_places : places (state_counts ms) ≤ 40
  few_places = places_few (record { symbols = S; machines = ms; card = M; are = refl })

  -- columns of all states have the steps of these at their places
  pub prepared_holds : {x W kept : ℕ} {steps : List ℕ} → Prepared ms x W steps kept → HoldsAt ms c x W steps (places_from 0 (state_counts ms) (states_of (state_counts ms) c)) kept
  prepared_holds {x} {W} {kept} {steps} B = record {
    columns = record {
      few = omega (arith, places_count, M.machines);
      width = omega (arith, B.columns.width, few_places);
      room = B.columns.room;
      there = λ m k. omega (arith, place_there m (omega (arith, places_count)), B.columns.width);
    };
    small = B.columns.small;
    places = places_count;
    step = λ m y k l. ap (λ (p : ℕ). step_at steps W y p) (place_is m k) ∙ B.columns.step m (get_or (states_of (state_counts ms) c) m 0) y k (state_there m k) l;
    covers = λ y k. go y (B.covers y k);
    no_pair = B.no_pair;
  }
    where
      go : (y : ℕ) → ((x ≡ empty_symbol) × (y ≡ empty_symbol)) ⊎ (NoSteps ms x y ⊎ Covered ms x kept y) → ((x ≡ empty_symbol) × (y ≡ empty_symbol)) ⊎ ((code_step ms c (record { input = x; output = y }) ≡ none) ⊎ Told ms c x kept y)
      go y (inl e) = inl e
      go y (inr (inl n)) = inr (inl (n c))
      go y (inr (inr t)) = inr (inr (record { other = t.other; before = t.before; is_kept_lem = t.is_kept_lem; same = t.same c h }))

-- ---- the columns of the states at hand

-- the place of each machine is its number
abbrev pub hand : List ℕ
hand = 0 ∷ 1 ∷ 2 ∷ 3 ∷ 4 ∷ 5 ∷ []

hand_at : (m : ℕ) → m < 6 → get_or hand m 0 ≡ m
hand_at zero h = refl
hand_at (suc zero) h = refl
hand_at (suc (suc zero)) h = refl
hand_at (suc (suc (suc zero))) h = refl
hand_at (suc (suc (suc (suc zero)))) h = refl
hand_at (suc (suc (suc (suc (suc zero))))) h = refl
hand_at (suc (suc (suc (suc (suc (suc m)))))) h = absurd (omega arith)

-- a machine that does not take the pair from its state is enough for no joint step
stuck_none : (ms : List Machine) (ss : List ℕ) (p : Pair) (m : ℕ) → m < length ms → step_of (machine_at ms m) (get_or ss m 0) p ≡ none → joint_step ms ss p ≡ none
unfolding of_each
stuck_none [] ss p m h e = absurd (omega arith)
stuck_none (x ∷ ms) [] p m h e = refl
stuck_none (x ∷ ms) (s ∷ ss) p zero h e = ap (λ (o : Option (ℕ × ℕ)). and_those o (joint_step ms ss p)) e
stuck_none (x ∷ ms) (s ∷ ss) p (suc m) h e = ap (and_those (step_of x s p)) (stuck_none ms ss p m (omega arith) e) ∙ none_right (step_of x s p)
  where
    none_right : (o : Option (ℕ × ℕ)) → and_those {A = ℕ × ℕ} o none ≡ none
    none_right none = refl
    none_right (some r) = refl

module _ {S : ℕ} {ms : List Machine} (M : CardMachines S ms) (c : ℕ) {ss : List ℕ} (are : ss ≡ states_of (state_counts ms) c) {x outputs : ℕ} {steps : List ℕ} (room : 65 * length ms ≤ length steps) (F : FilledAtHand ms ss x steps outputs) where
  pub filled_holds : HoldsAt ms c x (length ms) steps (take (length ms) hand) outputs
  filled_holds = record {
    columns = record {
      few = omega (arith, size, M.machines);
      width = omega (arith, M.machines);
      room = room;
      there = λ m k. omega (arith, size, at_hand m (omega (arith, size)));
    };
    small = F.small;
    places = size;
    step = λ m y k l.
        ap (λ (p : ℕ). step_at steps (length ms) y p) (at_hand m k)
        ∙ F.step m y k l
        ∙ ap (λ (qs : List ℕ). step_code (step_of (machine_at ms m) (get_or qs m 0) (record { input = x; output = y }))) are;
    covers = λ y k. told y k (member outputs y) refl;
    no_pair = F.no_pair;
  }
    where
      size : length (take (length ms) hand) ≡ length ms
      size = length-take-le (length ms) hand (omega (arith, M.machines))

      at_hand : (m : ℕ) → m < length ms → get_or (take (length ms) hand) m 0 ≡ m
      at_hand m k = get_or-take (length ms) hand m 0 k ∙ hand_at m (omega (arith, M.machines))

      stuck : (y : ℕ) → ((x ≡ empty_symbol) × (y ≡ empty_symbol)) ⊎ Stuck ms ss x y → ((x ≡ empty_symbol) × (y ≡ empty_symbol)) ⊎ ((code_step ms c (record { input = x; output = y }) ≡ none) ⊎ Told ms c x outputs y)
      stuck y (inl e) = inl e
      stuck y (inr u) =
          inr
          (inl
          (ap (coded (state_counts ms))
          (stuck_none ms (states_of (state_counts ms) c) (record { input = x; output = y }) u.machine u.there
          (ap (λ (qs : List ℕ). step_of (machine_at ms u.machine) (get_or qs u.machine 0) (record { input = x; output = y })) (sym are) ∙ u.stuck))))

      told : (y : ℕ) → y < 64 → (b : Bool) → member outputs y ≡ b → ((x ≡ empty_symbol) × (y ≡ empty_symbol)) ⊎ ((code_step ms c (record { input = x; output = y }) ≡ none) ⊎ Told ms c x outputs y)
      told y h true m = inr (inr (record { other = y; before = omega arith; is_kept_lem = m; same = refl }))
      told y h false m = stuck y (F.missing y h m)

-- ---- a way on from the code c of the position i: the pairs with the input x, which lead to the position j

pub record Way (card ws sets : List ℕ) (size i c x j W : ℕ) (steps ps : List ℕ) (kept : ℕ) : Type 0 where
  pub holds : HoldsAt (machines_of card) c x W steps ps kept
  pub within : j ≤ length sets
  pub edges : (y : ℕ) → is_pair (record { input = x; output = y }) ≡ true → (cell_graph ws card sets).edge (i * size + c) (record { input = x; output = y }) ≡ priced_step (cell_price ws) (j * size) (code_step (machines_of card) c (record { input = x; output = y }))

module _ {ranked sums card ws sets : List ℕ} {size : ℕ} {L : Labels (ranked_costs 1)} (G : Ground ranked sums card ws sets size L) {before answer : List ℕ} {at : At} (R : Reached card ws sets before answer size L at) where
  M : CardMachines (symbol_count card) (machines_of card)
  M = card_machines card G.labelled.setting.accepted

  code_there : at.code < product (state_counts (machines_of card))
  code_there = omega (arith, R.code, G.labelled.setting.states)

  -- the states of the machines
  module _ {n : ℕ} (e : n ≡ length (machines_of card)) where
    pub states_are : take n at.states ≡ states_of (state_counts (machines_of card)) at.code
    states_are = ap (λ (k : ℕ). take k at.states) e ∙ R.states

    pub states_count : length (take n at.states) ≡ length (machines_of card)
    states_count = ap length states_are ∙ states_length (state_counts (machines_of card)) at.code ∙ counts_length (machines_of card)

    pub hand_pre : {x : ℕ} {steps : List ℕ} → x < 64 → length steps ≡ 390 → AtHandPre card (take n at.states) steps x
    hand_pre h room = record {
      accepted = G.labelled.setting.accepted;
      size = states_count;
      there = λ m k. omega (arith, ap (λ (qs : List ℕ). get_or qs m 0) states_are, state_there M at.code code_there m (omega (arith, states_count)));
      input = h;
      room = omega (arith, states_count, M.machines);
    }

    -- a symbol that is left
    pub symbol_within : {left : ℕ} → Finding sets (Tight (cell_graph ws card sets) L (at.position * size + at.code)) at.position left → {x : ℕ} → member left x ≡ true → x ≢ empty_symbol → at.position + 1 ≤ length sets
    symbol_within T {x} m symbol = omega (arith, member_within sets at.position x (T.inside x m symbol))

    pub symbol_way : {x outputs : ℕ} {steps : List ℕ} → length steps ≡ 390 → FilledAtHand (machines_of card) (take n at.states) x steps outputs → {left : ℕ} → Finding sets (Tight (cell_graph ws card sets) L (at.position * size + at.code)) at.position left → member left x ≡ true → x ≢ empty_symbol
        → Way card ws sets size at.position at.code x (at.position + 1) n steps (take n hand) outputs
    symbol_way {x} {outputs} {steps} room F T m symbol = record {
      holds = subst (λ (k : ℕ). HoldsAt (machines_of card) at.code x k steps (take k hand) outputs) (sym e) (filled_holds M at.code states_are (omega (arith, M.machines)) F);
      within = symbol_within T m symbol;
      edges = λ y t.
          subst (λ (s : ℕ). (cell_graph ws card sets).edge (at.position * s + at.code) (record { input = x; output = y }) ≡ priced_step (cell_price ws) ((at.position + 1) * s) (code_step (machines_of card) at.code (record { input = x; output = y }))) (sym G.labelled.setting.states)
          (symbol_edge (cell_price ws) sets (machines_of card) at.position at.code code_there (record { input = x; output = y }) symbol (T.inside x m symbol));
    }

  module _ {counts : List ℕ} (C : counts ≡ state_counts (machines_of card)) where
    same_length : length counts ≡ length (machines_of card)
    same_length = ap length C ∙ counts_length (machines_of card)

    places_are : places_from 0 counts (take (length counts) at.states) ≡ places_from 0 (state_counts (machines_of card)) (states_of (state_counts (machines_of card)) at.code)
    places_are = ap (λ (qs : List ℕ). places_from 0 qs (take (length counts) at.states)) C ∙ ap (places_from 0 (state_counts (machines_of card))) (states_are same_length)

    pub places_pre : {six : List ℕ} → length six ≡ 6 → PlacesPre counts at.states six
    places_pre room = record {
      few = omega (arith, same_length, M.machines);
      size = R.states_size;
      room = room;
      width = omega (arith, ap places C, few_places M at.code code_there);
      there = λ m k.
          omega (
            arith,
            get_or-take (length counts) at.states m 0 k,
            ap (λ (qs : List ℕ). get_or qs m 0) (states_are same_length),
            state_there M at.code code_there m (omega (arith, same_length)),
            count_at_lem (machines_of card) m,
            ap (λ (qs : List ℕ). get_or qs m 0) C,
          );
    }

    pub insertion_way : {n : ℕ} → n ≡ length counts → {x W kept : ℕ} {steps six : List ℕ} → Placed counts at.states six → Prepared (machines_of card) empty_symbol W steps kept → x ≡ empty_symbol → Way card ws sets size at.position at.code x at.position W steps (take n six) kept
    insertion_way {n} e {x} {W} {kept} {steps} {six} Q B z = record {
      holds = subst (λ (ps : List ℕ). HoldsAt (machines_of card) at.code x W steps ps kept) (sym (ap (λ (k : ℕ). take k six) e ∙ Q.are ∙ places_are))
          (subst (λ (k : ℕ). HoldsAt (machines_of card) at.code k W steps (places_from 0 (state_counts (machines_of card)) (states_of (state_counts (machines_of card)) at.code)) kept) (sym z) (prepared_holds M at.code code_there B));
      within = R.position;
      edges = λ y t.
          subst (λ (s : ℕ). (cell_graph ws card sets).edge (at.position * s + at.code) (record { input = x; output = y }) ≡ priced_step (cell_price ws) (at.position * s) (code_step (machines_of card) at.code (record { input = x; output = y }))) (sym G.labelled.setting.states)
          (insertion_edge_lem (cell_price ws) sets (machines_of card) at.position at.code code_there (record { input = x; output = y }) R.position t z);
    }

  -- ---- the least pair, input by input

  -- the pairs that are left
  pub pairs_left : pair_count R.follows.rest ≡ at.label.low % 65536
  pairs_left = ap (λ (n : ℕ). n % 65536) (label_is at.label R.follows.rest R.label).low

  -- where some are, a pair keeps to the labels
  pub ways_start : at.label.low % 65536 ≢ 0 → (left : ℕ) → ((x : ℕ) → member left x ≡ (eqb x empty_symbol || member (get_or sets at.position 0) x)) → Finding sets (Tight (cell_graph ws card sets) L (at.position * size + at.code)) at.position left
  ways_start n =
      let s = some_tight (cell_graph ws card sets) L (pairs_sized G.labelled) G.labelled.closed G.labelled.attained (at.position * size + at.code) R.follows.rest R.follows.walking.label (λ e. n (sym pairs_left ∙ e)) in
      finding_start (tight_pair G R) s.0 s.1

  module _ {x j W kept : ℕ} {steps ps : List ℕ} (Y : Way card ws sets size at.position at.code x j W steps ps kept) where
    pub way_least : ((u : ℕ) → u < (length sets + 1) * size → HasLabel ranked sums u) → LeastPre at.label ranked sums steps ps ws (j * size) W
    way_least = least_pre G R Y.holds Y.within Y.edges

    module _ {left : ℕ} (T : Finding sets (Tight (cell_graph ws card sets) L (at.position * size + at.code)) at.position left) where
      -- the input has none
      pub way_none : NoneBelow at.label ranked sums steps ps ws (j * size) W kept 64 → (after : ℕ) → ((n : ℕ) → member after n ≡ (member left n && not (eqb n x))) → Finding sets (Tight (cell_graph ws card sets) L (at.position * size + at.code)) at.position after
      way_none f = finding_next T x (none_least G R Y.holds Y.within Y.edges f)

      module _ {r : Least} (F : LeastAt at.label ranked sums steps ps ws (j * size) W kept r) where
        pub way_falls : r.low < at.label.low
        way_falls = low_falls G R Y.holds Y.within Y.edges F

        module _ (first : x ≡ least_symbol left) where
          least : (q : Pair) → pairs.◌◃◌ q (record { input = x; output = r.output }) → ¬ (Tight (cell_graph ws card sets) L (at.position * size + at.code) q)
          least = first_is_least T (record { input = x; output = r.output }) first (found_passed G R Y.holds Y.within Y.edges F)

          pub way_go : GoPre at.states at.passed steps ps answer W r.output at.pairs
          way_go = go_pre G R Y.holds Y.within Y.edges F least

          pub way_next : {states' marks' answer' : List ℕ} → GoesOn at.passed steps ps answer states' marks' answer' W x r.output at.pairs
              → Reached card ws sets before answer' size L (node_of j r.code states' r.high r.low (at.pairs + 1) marks')
          way_next = goes_next G R Y.holds Y.within Y.edges F least
