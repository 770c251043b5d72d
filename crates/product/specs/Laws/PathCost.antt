-- The cost of a list of pairs from a node: it is there exactly when they are pairs that spell a word with one symbol from each set that is left and
-- every machine takes them all and ends, and it is the price of the marks and of the number of pairs.
use Rattle.std.specs.Prelude.{◌≡◌, ◌&&◌, ◌∷◌, ◌+◌, ◌≤◌}
use Rattle.basics.specs.Words.{refl, sym, ◌∙◌, ap, Bool, true, false, and-false, List, [], map, Option, some, none, ℕ, suc, arith, length, get_or, drop, eqb, all_of, member}
use borrow.Author.Tests.{eqb-true, eqb-false, eq-eqb, ne_eqb, le-leb}
use Rattle.machine.specs.declared.Pair.{Pair}
use Rattle.machine.specs.Symbols.{empty_symbol, is_pair}
use Rattle.machine.specs.Machine.{Machine}
use Rattle.ranking.specs.Profiles.{merge}
use Rattle.candidate.specs.Candidates.{spelled}
use Rattle.product.specs.Sets.{fits_sets}
use Rattle.paths.specs.Costs.{Costs}
use Rattle.paths.specs.Graph.{path_cost, add_to, follow}
use Rattle.product.specs.Nodes.{state_counts, node_of}
use Rattle.product.specs.JointStep.{joint_step, joint_ending}
use Rattle.product.specs.Prices.{Price}
use Rattle.product.specs.ProductGraph.{advance, move_by, move, ending, priced_move, priced_ending, product_graph}
use Rattle.product.specs.Laws.Sets.{member_within, fits_end, fits_more, fits_next}
use Rattle.product.specs.Laws.Nodes.{Below, position_of_node, states_of_node}
use Rattle.product.specs.Laws.JointStep.{joint_marks, joint_marks_end, joint_marks_next, add_to_each, onward, AllSound, joint_below}

-- where a pair leads, case by case
pub advance_insertion : (sets : List ℕ) (i : ℕ) (p : Pair) → p.input ≡ empty_symbol → i ≤ length sets → advance sets i p ≡ some i
unfolding advance
advance_insertion sets i p e h = rw (eq-eqb p.input 0 e, advance, le-leb i (length sets) h)

pub advance_symbol : (sets : List ℕ) (i : ℕ) (p : Pair) → (p.input ≡ empty_symbol → ⊥) → member (get_or sets i 0) p.input ≡ true → advance sets i p ≡ some (i + 1)
unfolding advance
advance_symbol sets i p n e = rw (ne_eqb p.input 0 n, advance, e)

pub advance_other : (sets : List ℕ) (i : ℕ) (p : Pair) → (p.input ≡ empty_symbol → ⊥) → member (get_or sets i 0) p.input ≡ false → advance sets i p ≡ none
unfolding advance
advance_other sets i p n e = rw (ne_eqb p.input 0 n, advance, e)

-- the elements are pairs, and they spell a word with one symbol from each set from a position on
abbrev pub spells : List ℕ → ℕ → List Pair → Bool
spells sets i c = all_of is_pair c && fits_sets (drop i sets) (spelled c)

pub spelled_insertion : (p : Pair) (ps : List Pair) → p.input ≡ empty_symbol → spelled (p ∷ ps) ≡ spelled ps
unfolding spelled
spelled_insertion p ps e = rw (eq-eqb p.input 0 e, spelled)

pub spelled_symbol : (p : Pair) (ps : List Pair) → (p.input ≡ empty_symbol → ⊥) → spelled (p ∷ ps) ≡ p.input ∷ spelled ps
unfolding spelled
spelled_symbol p ps n = rw (ne_eqb p.input 0 n, spelled)

module _ (sets : List ℕ) (i : ℕ) (p : Pair) (ps : List Pair) where
  spells_no_pair : is_pair p ≡ false → spells sets i (p ∷ ps) ≡ false
  unfolding all_of
  spells_no_pair e = rw e

  spells_insertion : is_pair p ≡ true → p.input ≡ empty_symbol → spells sets i (p ∷ ps) ≡ spells sets i ps
  unfolding all_of
  spells_insertion e z = rw (e, spelled_insertion p ps z)

  spells_symbol : is_pair p ≡ true → (p.input ≡ empty_symbol → ⊥) → member (get_or sets i 0) p.input ≡ true → spells sets i (p ∷ ps) ≡ spells sets (i + 1) ps
  unfolding all_of
  spells_symbol e z q = rw (e, spelled_symbol p ps z, fits_next sets i p.input (spelled ps), q)

  spells_other : (p.input ≡ empty_symbol → ⊥) → member (get_or sets i 0) p.input ≡ false → spells sets i (p ∷ ps) ≡ false
  spells_other z q = rw (spelled_symbol p ps z, fits_next sets i p.input (spelled ps), q, and-false)

module _ {costs : Costs} (price : Price costs) (sets : List ℕ) (ms : List Machine) where
  -- the price of marks and a number of pairs, where a test passes
  abbrev pub cost_of : ℕ → Bool → Option (List ℕ) → Option costs.Cost
  cost_of n false o = none
  cost_of n true none = none
  cost_of n true (some xs) = some (price.of xs n)

  cost_of_none : (n : ℕ) (b : Bool) → cost_of n b none ≡ none
  cost_of_none n true = refl
  cost_of_none n false = refl

  cost_of_ending : (o : Option (List ℕ)) → priced_ending price sets ms o ≡ cost_of 0 true o
  cost_of_ending none = refl
  cost_of_ending (some xs) = refl

  cost_of_next : (xs : List ℕ) (n : ℕ) (b : Bool) (o : Option (List ℕ)) → add_to (product_graph price sets ms) (price.of xs 1) (cost_of n b o) ≡ cost_of (suc n) b (add_to_each xs o)
  cost_of_next xs n true none = refl
  cost_of_next xs n true (some ys) = let e : 1 + n ≡ suc n = omega arith in ap {B = Option costs.Cost} some (sym (price.adds xs ys 1 n) ∙ ap (price.of (merge xs ys)) e)
  cost_of_next xs n false o = refl

  module _ {S : ℕ} (sound : AllSound S ms) where
    -- a move, and an ending, at the node of a position and states
    pub move_pair : (i : ℕ) (ss : List ℕ) → Below (state_counts ms) ss → (p : Pair) → is_pair p ≡ true → move sets ms (node_of (state_counts ms) i ss) p ≡ move_by (state_counts ms) (advance sets i p) (joint_step ms ss p)
    unfolding move
    move_pair i ss b p h = rw (h, move, position_of_node (state_counts ms) i ss b, states_of_node (state_counts ms) i ss b)

    pub move_no_pair : (u : ℕ) (p : Pair) → is_pair p ≡ false → move sets ms u p ≡ none
    unfolding move
    move_no_pair u p h = rw (h, move)

    pub ending_here : (i : ℕ) (ss : List ℕ) → Below (state_counts ms) ss → i ≡ length sets → ending sets ms (node_of (state_counts ms) i ss) ≡ joint_ending ms ss
    unfolding ending
    ending_here i ss b h = rw (position_of_node (state_counts ms) i ss b, eq-eqb i (length sets) h, ending, states_of_node (state_counts ms) i ss b)

    pub ending_early : (i : ℕ) (ss : List ℕ) → Below (state_counts ms) ss → (i ≡ length sets → ⊥) → ending sets ms (node_of (state_counts ms) i ss) ≡ none
    unfolding ending
    ending_early i ss b h = rw (position_of_node (state_counts ms) i ss b, ne_eqb i (length sets) h, ending)

    -- a pair that leads to the position j
    after : (ss : List ℕ) (p : Pair) (ps : List Pair) (t : Bool) (j : ℕ)
        → ((ss' : List ℕ) → Below (state_counts ms) ss' → path_cost (product_graph price sets ms) (node_of (state_counts ms) j ss') ps ≡ cost_of (length ps) t (joint_marks ms ss' ps))
        → follow (product_graph price sets ms) (priced_move price sets ms (move_by (state_counts ms) (some j) (joint_step ms ss p))) (λ v. path_cost (product_graph price sets ms) v ps) ≡ cost_of (suc (length ps)) t (joint_marks ms ss (p ∷ ps))
    after ss p ps t j rec = rw (joint_marks_next ms ss p ps) (go (joint_step ms ss p) refl)
      where
        go : (o : Option (List (ℕ × ℕ))) → joint_step ms ss p ≡ o
            → follow (product_graph price sets ms) (priced_move price sets ms (move_by (state_counts ms) (some j) o)) (λ v. path_cost (product_graph price sets ms) v ps)
            ≡ cost_of (suc (length ps)) t (onward o (λ steps. add_to_each (map (λ r. r.1) steps) (joint_marks ms (map (λ r. r.0) steps) ps)))
        go none e = sym (cost_of_none (suc (length ps)) t)
        go (some steps) e = rw (rec (map (λ r. r.0) steps) (joint_below sound ss p steps e)) (cost_of_next (map (λ r. r.1) steps) (length ps) t (joint_marks ms (map (λ r. r.0) steps) ps))

    -- ---- the cost, from a node of an input position

    pub path_cost_is : (c : List Pair) (i : ℕ) (ss : List ℕ) → i ≤ length sets → Below (state_counts ms) ss
        → path_cost (product_graph price sets ms) (node_of (state_counts ms) i ss) c ≡ cost_of (length c) (spells sets i c) (joint_marks ms ss c)
    unfolding path_cost all_of spelled
    path_cost_is [] i ss h b = go (eqb i (length sets)) refl
      where
        go : (t : Bool) → eqb i (length sets) ≡ t → path_cost (product_graph price sets ms) (node_of (state_counts ms) i ss) [] ≡ cost_of 0 (spells sets i []) (joint_marks ms ss [])
        go true t =
            let e = eqb-true i (length sets) t in
            rw (ending_here i ss b e, fits_end sets i (omega arith), joint_marks_end) (cost_of_ending (joint_ending ms ss))
        go false t =
            let n = eqb-false i (length sets) t in
            rw (ending_early i ss b n, fits_more sets i (omega arith))
    path_cost_is (p ∷ ps) i ss h b = pair (is_pair p) refl (λ j ss' k d. path_cost_is ps j ss' k d)
      where
        Goal : Type 0
        Goal = path_cost (product_graph price sets ms) (node_of (state_counts ms) i ss) (p ∷ ps) ≡ cost_of (suc (length ps)) (spells sets i (p ∷ ps)) (joint_marks ms ss (p ∷ ps))

        Rest : Type 0
        Rest = (j : ℕ) (ss' : List ℕ) → j ≤ length sets → Below (state_counts ms) ss' → path_cost (product_graph price sets ms) (node_of (state_counts ms) j ss') ps ≡ cost_of (length ps) (spells sets j ps) (joint_marks ms ss' ps)

        -- in is in the set here, or not
        symbol : (t : Bool) → member (get_or sets i 0) p.input ≡ t → is_pair p ≡ true → (p.input ≡ empty_symbol → ⊥) → Rest → Goal
        symbol true t e n rec =
            rw (move_pair i ss b p e, advance_symbol sets i p n t, spells_symbol sets i p ps e n t)
            (after ss p ps (spells sets (i + 1) ps) (i + 1) (λ ss' d. rec (i + 1) ss' (omega (arith, member_within sets i p.input t)) d))
        symbol false t e n rec = rw (move_pair i ss b p e, advance_other sets i p n t, spells_other sets i p ps n t)

        insertion : (t : Bool) → eqb p.input empty_symbol ≡ t → is_pair p ≡ true → Rest → Goal
        insertion true t e rec =
            let z = eqb-true p.input 0 t in
            rw (move_pair i ss b p e, advance_insertion sets i p z h, spells_insertion sets i p ps e z)
            (after ss p ps (spells sets i ps) i (λ ss' d. rec i ss' h d))
        insertion false t e rec = symbol (member (get_or sets i 0) p.input) refl e (eqb-false p.input 0 t) rec

        pair : (t : Bool) → is_pair p ≡ t → Rest → Goal
        pair true e rec = insertion (eqb p.input empty_symbol) refl e rec
        pair false e rec = rw (move_no_pair (node_of (state_counts ms) i ss) p e, spells_no_pair sets i p ps e)
