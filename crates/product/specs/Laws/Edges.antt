-- Laws of the edges: where a move leads, what it costs, and what the theory of paths asks of the product.
use Rattle.std.specs.Prelude.{◌≡◌, ◌∷◌, ◌+◌, ◌*◌, ◌<◌, ◌≤◌}
use Rattle.basics.specs.Words.{refl, ◌∙◌, ap, Bool, true, false, cond, List, [], map, Option, some, none, Option·none-ne-some, ℕ, zero, suc, arith, length, get_or, eqb, leb, member}
use Rattle.std.proofs.Common.{eqb-true, leb-true}
use Rattle.std.proofs.lemmas.Bool.{eqb-false}
use Rattle.machine.specs.declared.Pair.{Pair}
use Rattle.machine.specs.Symbols.{empty_symbol, is_pair, within_symbols}
use Rattle.machine.specs.Machine.{Machine, ending_of}
use Rattle.paths.specs.Costs.{Costs}
use Rattle.paths.specs.Ranked.{Ranked, ranked_costs, letter_count, count_at}
use Rattle.paths.specs.ByRanking.{ranked, ranked_letters}
use Rattle.paths.specs.Graph.{Edge, Within}
use Rattle.paths.specs.Bounds.{Sized, BoundedCount}
use Rattle.paths.specs.RankedGraph.{ranked_sized, ranked_counts}
use Rattle.product.specs.Nodes.{product, state_counts, node_of, position_at, states_at}
use Rattle.product.specs.JointStep.{and_those, of_each, joint_step, joint_ending}
use Rattle.product.specs.Prices.{Price, by_ranking}
use Rattle.product.specs.ProductGraph.{advance, Move, move_by, move, ending, priced_move, priced_ending, product_graph}
use Rattle.product.specs.Laws.Sets.{member_within}
use Rattle.product.specs.Laws.Nodes.{position_of_node, node_below}
use Rattle.product.specs.Laws.JointStep.{AllSound, all_none, all_next, step_of_each, no_states_left, joint_below}

-- where a pair leads
pub data Advanced (sets : List ℕ) (i : ℕ) (p : Pair) (j : ℕ) : Type 0 where
  stays : p.input ≡ empty_symbol → j ≡ i → i ≤ length sets → Advanced sets i p j
  goes_on : (p.input ≡ empty_symbol → ⊥) → j ≡ i + 1 → i < length sets → member (get_or sets i 0) p.input ≡ true → Advanced sets i p j

pub advanced : (sets : List ℕ) (i : ℕ) (p : Pair) (j : ℕ) → advance sets i p ≡ some j → Advanced sets i p j
unfolding advance
advanced sets i p j h = go (eqb p.input empty_symbol) refl
  where
    insertion : p.input ≡ empty_symbol → (t : Bool) → leb i (length sets) ≡ t → cond t (some i) none ≡ some j → Advanced sets i p j
    insertion e true t k = let q : j ≡ i = cc in stays e q (leb-true i (length sets) t)
    insertion e false t k = absurd (Option·none-ne-some j k)

    symbol : (p.input ≡ empty_symbol → ⊥) → (t : Bool) → member (get_or sets i 0) p.input ≡ t → cond t (some (i + 1)) none ≡ some j → Advanced sets i p j
    symbol e true t k = let q : j ≡ i + 1 = cc in goes_on e q (member_within sets i p.input t) t
    symbol e false t k = absurd (Option·none-ne-some j k)

    go : (t : Bool) → eqb p.input empty_symbol ≡ t → Advanced sets i p j
    go true t = insertion (eqb-true p.input 0 t) (leb i (length sets)) refl (rw (t, advance) at h)
    go false t = symbol (eqb-false p.input 0 t) (member (get_or sets i 0) p.input) refl (rw (t, advance) at h)

-- a move is a pair that leads on, and a joint step
pub record Moved (sets : List ℕ) (ms : List Machine) (u : ℕ) (p : Pair) (m : Move) : Type 0 where
  pub is_pair_lem : is_pair p ≡ true
  pub position : ℕ
  pub advances : advance sets (position_at (state_counts ms) u) p ≡ some position
  pub steps : List (ℕ × ℕ)
  pub steps_are : joint_step ms (states_at (state_counts ms) u) p ≡ some steps
  pub target_is : m.target ≡ node_of (state_counts ms) position (map (λ r. r.0) steps)
  pub marks_are : m.marks ≡ map (λ r. r.1) steps

pub moved : (sets : List ℕ) (ms : List Machine) (u : ℕ) (p : Pair) (m : Move) → move sets ms u p ≡ some m → Moved sets ms u p m
unfolding move
moved sets ms u p m h = pair (is_pair p) refl
  where
    qs : List ℕ
    qs = state_counts ms

    parts : is_pair p ≡ true → (o : Option ℕ) → advance sets (position_at qs u) p ≡ o → (j : Option (List (ℕ × ℕ))) → joint_step ms (states_at qs u) p ≡ j → move_by qs o j ≡ some m → Moved sets ms u p m
    parts e none a j k q = absurd (Option·none-ne-some m q)
    parts e (some i) a none k q = absurd (Option·none-ne-some m q)
    parts e (some i) a (some steps) k q =
        let z : m ≡ record { target = node_of qs i (map (λ r. r.0) steps); marks = map (λ r. r.1) steps } = cc in
        record { is_pair_lem = e; position = i; advances = a; steps = steps; steps_are = k; target_is = ap (λ (m : Move). m.target) z; marks_are = ap (λ (m : Move). m.marks) z }

    pair : (t : Bool) → is_pair p ≡ t → Moved sets ms u p m
    pair true t = parts t (advance sets (position_at qs u) p) refl (joint_step ms (states_at qs u) p) refl (rw (t, move) at h)
    pair false t = let z : ◌≡◌ {A = Option Move} none (some m) = rw (t, move) at h in absurd (Option·none-ne-some m z)

-- an ending is past the last set
pub record WordEnded (sets : List ℕ) (ms : List Machine) (u : ℕ) (xs : List ℕ) : Type 0 where
  pub at_end : position_at (state_counts ms) u ≡ length sets
  pub ends : joint_ending ms (states_at (state_counts ms) u) ≡ some xs

pub word_ended : (sets : List ℕ) (ms : List Machine) (u : ℕ) (xs : List ℕ) → ending sets ms u ≡ some xs → WordEnded sets ms u xs
unfolding ending
word_ended sets ms u xs h = go (eqb (position_at (state_counts ms) u) (length sets)) refl
  where
    go : (t : Bool) → eqb (position_at (state_counts ms) u) (length sets) ≡ t → WordEnded sets ms u xs
    go true t = record { at_end = eqb-true (position_at (state_counts ms) u) (length sets) t; ends = rw (t, ending) at h }
    go false t = let z : ◌≡◌ {A = Option (List ℕ)} none (some xs) = rw (t, ending) at h in absurd (Option·none-ne-some xs z)

module _ {costs : Costs} (price : Price costs) (sets : List ℕ) (ms : List Machine) where
  -- an edge of the graph is a move at its price, and an ending of the graph an ending at its price
  pub record EdgeOf (u : ℕ) (p : Pair) (e : Edge costs.Cost) : Type 0 where
    pub by : Move
    pub is : move sets ms u p ≡ some by
    pub target_is : e.target ≡ by.target
    pub cost_is : e.cost ≡ price.of by.marks 1

  pub edge_of : (u : ℕ) (p : Pair) (e : Edge costs.Cost) → (product_graph price sets ms).edge u p ≡ some e → EdgeOf u p e
  edge_of u p e h = go (move sets ms u p) refl h
    where
      go : (o : Option Move) → move sets ms u p ≡ o → priced_move price sets ms o ≡ some e → EdgeOf u p e
      go none k h = absurd (Option·none-ne-some e h)
      go (some m) k h =
          let q : e ≡ record { target = m.target; cost = price.of m.marks 1 } = cc in
          record { by = m; is = k; target_is = ap (λ (e : Edge costs.Cost). e.target) q; cost_is = ap (λ (e : Edge costs.Cost). e.cost) q }

  pub record EndingOf (u : ℕ) (c : costs.Cost) : Type 0 where
    pub marks : List ℕ
    pub is : ending sets ms u ≡ some marks
    pub cost_is : c ≡ price.of marks 0

  pub ending_of_lem : (u : ℕ) (c : costs.Cost) → (product_graph price sets ms).ending u ≡ some c → EndingOf u c
  ending_of_lem u c h = go (ending sets ms u) refl h
    where
      go : (o : Option (List ℕ)) → ending sets ms u ≡ o → priced_ending price sets ms o ≡ some c → EndingOf u c
      go none k h = absurd (Option·none-ne-some c h)
      go (some xs) k h = record { marks = xs; is = k; cost_is = cc }

  module _ {S : ℕ} (sound : AllSound S ms) where
    -- the target of a move: its position is where the pair leads, and it is one of the (n + 1) × P nodes
    pub move_position : (u : ℕ) (p : Pair) (m : Move) (k : Moved sets ms u p m) → position_at (state_counts ms) m.target ≡ k.position
    move_position u p m k =
        ap (position_at (state_counts ms)) k.target_is
        ∙ position_of_node (state_counts ms) k.position (map (λ r. r.0) k.steps) (joint_below sound (states_at (state_counts ms) u) p k.steps k.steps_are)

    pub advanced_within : (i : ℕ) (p : Pair) (j : ℕ) → Advanced sets i p j → j ≤ length sets
    advanced_within i p j (stays e q h) = omega arith
    advanced_within i p j (goes_on e q h k) = omega arith

    pub move_within : (u : ℕ) (p : Pair) (m : Move) → move sets ms u p ≡ some m → m.target < (length sets + 1) * product (state_counts ms)
    move_within u p m h =
        let k = moved sets ms u p m h in
        rw k.target_is
        (node_below (state_counts ms) k.position (map (λ r. r.0) k.steps) (joint_below sound (states_at (state_counts ms) u) p k.steps k.steps_are) (length sets)
        (advanced_within (position_at (state_counts ms) u) p k.position (advanced sets (position_at (state_counts ms) u) p k.position k.advances)))

    pub product_within : Within (product_graph price sets ms) ((length sets + 1) * product (state_counts ms))
    product_within u p e h = let k = edge_of u p e h in rw k.target_is (move_within u p k.by k.is)

-- ---- a joint step, and so a move, is by a pair of the card's symbols

step_symbols : {S : ℕ} {ms : List Machine} → AllSound S ms → 1 ≤ length ms → (ss : List ℕ) (p : Pair) (steps : List (ℕ × ℕ)) → joint_step ms ss p ≡ some steps → within_symbols S p ≡ true
step_symbols all_none h ss p steps e = absurd (omega arith)
step_symbols (all_next {m} {ms} a b) h [] p steps e = absurd (no_states_left m ms p steps e)
step_symbols (all_next {m} {ms} a b) h (s ∷ ss) p steps e = let k = step_of_each m ms s ss p steps e in a.symbols s p k.first k.first_is

pub move_symbols : {S : ℕ} {ms : List Machine} → AllSound S ms → 1 ≤ length ms → (sets : List ℕ) (u : ℕ) (p : Pair) (m : Move) → move sets ms u p ≡ some m → within_symbols S p ≡ true
move_symbols {ms = ms} sound h sets u p m e = let k = moved sets ms u p m e in step_symbols sound h (states_at (state_counts ms) u) p k.steps k.steps_are

-- ---- the marks of a step and of an ending are at most 15 a machine

pub step_marks_bound : {S : ℕ} {ms : List Machine} → AllSound S ms → (ss : List ℕ) (p : Pair) (steps : List (ℕ × ℕ)) → joint_step ms ss p ≡ some steps → (i : ℕ) → get_or (map (λ r. r.1) steps) i 0 ≤ 15
unfolding of_each
step_marks_bound all_none ss p steps e i = let q : steps ≡ [] = cc in rw q (omega arith)
step_marks_bound (all_next {m} {ms} a h) [] p steps e i = absurd (no_states_left m ms p steps e)
step_marks_bound (all_next {m} {ms} a h) (s ∷ ss) p steps e zero = let k = step_of_each m ms s ss p steps e in rw k.both_are (a.marks s p k.first k.first_is)
step_marks_bound (all_next {m} {ms} a h) (s ∷ ss) p steps e (suc i) = let k = step_of_each m ms s ss p steps e in rw k.both_are (step_marks_bound h ss p k.others k.others_are i)

pub ending_marks_bound : {S : ℕ} {ms : List Machine} → AllSound S ms → (ss xs : List ℕ) → joint_ending ms ss ≡ some xs → (i : ℕ) → get_or xs i 0 ≤ 15
unfolding of_each
ending_marks_bound all_none ss xs e i = let q : xs ≡ [] = cc in rw q (omega arith)
ending_marks_bound (all_next a h) [] xs e i = absurd (Option·none-ne-some xs e)
ending_marks_bound (all_next {m} {ms} a h) (s ∷ ss) xs e i = go (ending_of m s) refl (joint_ending ms ss) refl e i (ending_marks_bound h ss)
  where
    go : (o : Option ℕ) → ending_of m s ≡ o → (j : Option (List ℕ)) → joint_ending ms ss ≡ j → and_those o j ≡ some xs → (i : ℕ) → ((ys : List ℕ) → joint_ending ms ss ≡ some ys → (i : ℕ) → get_or ys i 0 ≤ 15) → get_or xs i 0 ≤ 15
    go none k j l q i rec = absurd (Option·none-ne-some xs q)
    go (some n) k none l q i rec = absurd (Option·none-ne-some xs q)
    go (some n) k (some ys) l q zero rec = let z : xs ≡ n ∷ ys = cc in rw z (a.ends s n k)
    go (some n) k (some ys) l q (suc i) rec = let z : xs ≡ n ∷ ys = cc in rw z (rec ys l i)

ranked_upto : (r xs : List ℕ) (n b : ℕ) → ((j : ℕ) → get_or xs j 0 ≤ b) → (i : ℕ) → count_at (length r) i (ranked r xs n) ≤ b
ranked_upto [] xs n b h i = omega arith
ranked_upto (m ∷ r) xs n b h zero = h m
ranked_upto (m ∷ r) xs n b h (suc i) = ranked_upto r xs n b h i

-- ---- where a price tells the number of pairs, the pair count of a path is the number of its pairs

pub priced_sized : (k : ℕ) (price : Price (ranked_costs k)) → ((xs : List ℕ) (n : ℕ) → letter_count k (price.of xs n) ≡ n) → (sets : List ℕ) (ms : List Machine) → Sized (product_graph price sets ms) (letter_count k)
priced_sized k price letters sets ms =
    ranked_sized k (product_graph price sets ms)
    (λ u p e h. let l = edge_of price sets ms u p e h in rw l.cost_is (letters l.by.marks 1))
    (λ u c h. let l = ending_of_lem price sets ms u c h in rw l.cost_is (letters l.marks 0))

-- ---- the ranked product: that, and each count is bounded

module _ (r sets : List ℕ) (ms : List Machine) where
  pub product_sized : Sized (product_graph (by_ranking r) sets ms) (letter_count (length r))
  product_sized = priced_sized (length r) (by_ranking r) (ranked_letters r) sets ms

  module _ {S : ℕ} (sound : AllSound S ms) where
    -- a count of an edge and of an ending is at most 15
    pub edge_counts : (u : ℕ) (p : Pair) (e : Edge (Ranked (length r))) → (product_graph (by_ranking r) sets ms).edge u p ≡ some e → (i : ℕ) → count_at (length r) i e.cost ≤ 15
    edge_counts u p e h i =
        let k = edge_of (by_ranking r) sets ms u p e h in
        let l = moved sets ms u p k.by k.is in
        rw (k.cost_is, l.marks_are) (ranked_upto r (map (λ r. r.1) l.steps) 1 15 (step_marks_bound sound (states_at (state_counts ms) u) p l.steps l.steps_are) i)

    pub ending_counts : (u : ℕ) (c : Ranked (length r)) → (product_graph (by_ranking r) sets ms).ending u ≡ some c → (i : ℕ) → count_at (length r) i c ≤ 15
    ending_counts u c h i =
        let k = ending_of_lem (by_ranking r) sets ms u c h in
        let l = word_ended sets ms u k.marks k.is in
        rw k.cost_is (ranked_upto r k.marks 0 15 (ending_marks_bound sound (states_at (state_counts ms) u) k.marks l.ends) i)

    pub product_counts : (i : ℕ) → BoundedCount (product_graph (by_ranking r) sets ms) (count_at (length r) i) 15 15
    product_counts i = ranked_counts (length r) (product_graph (by_ranking r) sets ms) i 15 15 (λ u p e h. edge_counts u p e h i) (λ u c h. ending_counts u c h i)
