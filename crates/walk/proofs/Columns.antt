-- The columns of an input at the places of the states at hand: the joint step there, its marks, and the states that it leads to. Assumes nothing.
use Rattle.std.specs.Prelude.{◌≡◌, ◌∷◌, ◌⊎◌, ◌+◌, ◌*◌, ◌/◌, ◌%◌, ◌^◌, ◌<◌, ◌≤◌}
use Rattle.basics.specs.Words.{refl, sym, ◌∙◌, ap, subst, true, false, List, [], map, Option, some, none, Option·none-ne-some, ℕ, zero, suc, arith, length, get_or, drop, List·getD-eq-default, suc-mul, mul-le-mul_right, mul-le-mul_left, dec_lt, member}
use Rattle.machine.specs.declared.Pair.{Pair}
use Rattle.machine.specs.Symbols.{empty_symbol}
use Rattle.machine.specs.Machine.{Machine, state_count_of, step_of}
use Rattle.product.specs.Nodes.{product, state_counts, code_of, states_of}
use Rattle.product.specs.JointStep.{and_those, of_each, joint_step}
use Rattle.product.specs.ProductGraph.{Move}
use Rattle.product.specs.Codes.{coded, code_step}
use Rattle.product.specs.Laws.Nodes.{product_positive}
use Rattle.product.specs.Laws.JointStep.{Sound, AllSound, all_none, all_next, counts_positive}
use Rattle.product.specs.Laws.Codes.{with_first}
use Rattle.tables.specs.StepTable.{step_code, machine_at}
use Rattle.tables.specs.Tables.{CardMachines}
use Rattle.tables.proofs.Machines.{counts_length}
use Rattle.cells.specs.Cells.{nowhere, high_cell, low_cell, scale_of, high_of, low_of, step_at, high_at, low_at}
use Rattle.cells.specs.Columns.{weighed, WeightsOf, JointCell}
use Rattle.cells.specs.Laws.Joint.{JointPart, part_start, part_none, part_some, cell_of_step, cell_of_none}
use Rattle.cells.specs.Laws.Numbers.{marks_low, high_small}
use Rattle.cells.specs.Laws.Sums.{product_drop}
use Rattle.columns.specs.Filling.{Small}
use Rattle.passing.specs.Places.{marks_at, states_at, ColumnsPre}
use Rattle.tight.specs.Joint.{place_sum, WeightsFit, high_by, low_by}

-- a kept output, y or a smaller one, has the joint step of y from the code c
pub record Told (ms : List Machine) (c x kept y : ℕ) : Type 0 where
  pub other : ℕ
  pub before : other ≤ y
  pub is_kept_lem : member kept other ≡ true
  pub same : code_step ms c (record { input = x; output = other }) ≡ code_step ms c (record { input = x; output = y })

-- the steps on the input x from the states of the code c stand at these places; every output makes no pair with the input, has no joint step from
-- there, or is told of by a kept one
pub record HoldsAt (ms : List Machine) (c x W : ℕ) (steps ps : List ℕ) (kept : ℕ) : Type 0 where
  pub columns : ColumnsPre steps ps W
  pub small : Small steps
  pub places : length ps ≡ length ms
  pub step : (m y : ℕ) → m < length ms → y ≤ 64 → step_at steps W y (get_or ps m 0) ≡ step_code (step_of (machine_at ms m) (get_or (states_of (state_counts ms) c) m 0) (record { input = x; output = y }))
  pub covers : (y : ℕ) → y < 64 → ((x ≡ empty_symbol) × (y ≡ empty_symbol)) ⊎ ((code_step ms c (record { input = x; output = y }) ≡ none) ⊎ Told ms c x kept y)
  pub no_pair : x ≡ empty_symbol → member kept empty_symbol ≡ false

-- ---- the joint step of some states, machine by machine

pub states_length : (qs : List ℕ) (c : ℕ) → length (states_of qs c) ≡ length qs
unfolding states_of
states_length [] c = refl
states_length (q ∷ qs) c = ap suc (states_length qs (c % product qs))

sum_few : (most : ℕ) (cell : ℕ → ℕ → ℕ) → ((m place : ℕ) → cell m place ≤ most) → (m : ℕ) (ps : List ℕ) → place_sum cell m ps ≤ length ps * most
unfolding place_sum
sum_few most cell h m [] = omega arith
sum_few most cell h m (p ∷ ps) = omega (arith, h m p, suc-mul (length ps) most, sum_few most cell h (suc m) ps)

coded_none : (ss : List ℕ) (p : Pair) → coded [] (joint_step [] ss p) ≡ some (record { target = 0; marks = [] })
unfolding code_of of_each
coded_none ss p = refl

coded_more : (x : Machine) (ms : List Machine) (s : ℕ) (ss : List ℕ) (p : Pair) → coded (state_counts (x ∷ ms)) (joint_step (x ∷ ms) (s ∷ ss) p) ≡ with_first (product (state_counts ms)) (step_of x s p) (coded (state_counts ms) (joint_step ms ss p))
unfolding code_of of_each
coded_more x ms s ss p = go (step_of x s p) (joint_step ms ss p)
  where
    go : (o : Option (ℕ × ℕ)) (j : Option (List (ℕ × ℕ))) → coded (state_counts (x ∷ ms)) (and_those o j) ≡ with_first (product (state_counts ms)) o (coded (state_counts ms) j)
    go none j = refl
    go (some r) none = refl
    go (some r) (some steps) = refl

module _ (ws : List ℕ) (p : Pair) (column : ℕ → ℕ) where
  abbrev highs : ℕ → ℕ → ℕ
  highs m place = high_cell (scale_of ws m) (high_of ws m) (column place)

  abbrev lows : ℕ → ℕ → ℕ
  lows m place = low_cell (low_of ws m) (column place)

  -- the column has the steps of machines from their states at their places
  abbrev StepsOf : List Machine → List ℕ → List ℕ → Type 0
  StepsOf ms ss ps = (n : ℕ) → n < length ms → column (get_or ps n 0) ≡ step_code (step_of (machine_at ms n) (get_or ss n 0) p)

  abbrev ScalesOf : List Machine → ℕ → Type 0
  ScalesOf ms m = (n : ℕ) → n < length ms → scale_of ws (m + n) ≡ product (drop (suc n) (state_counts ms))

  scales_first : (x : Machine) (ms : List Machine) (m : ℕ) → ScalesOf (x ∷ ms) m → scale_of ws m ≡ product (state_counts ms)
  scales_first x ms m h = let e : m + 0 ≡ m = omega arith in rw e at (h 0 (omega arith))

  scales_rest : (x : Machine) (ms : List Machine) (m : ℕ) → ScalesOf (x ∷ ms) m → ScalesOf ms (suc m)
  scales_rest x ms m h n k = let e : m + suc n ≡ suc m + n = omega arith in rw e at (h (suc n) (omega arith))

  -- one machine more in front
  part_more : {S : ℕ} {x : Machine} → Sound S x → state_count_of x ≤ 128 → (m s q : ℕ) {n P : ℕ} → scale_of ws m ≡ P → high_of ws m % 256 ≡ 0 → high_of ws m ≤ 2 ^ 52 → column q ≡ step_code (step_of x s p) → {k : Option Move} {t : ℕ} → JointPart (high_of ws) (suc m) n P k t
      → JointPart (high_of ws) m (suc n) (state_count_of x * P) (with_first P (step_of x s p) k) (high_cell (scale_of ws m) (high_of ws m) (column q) + t)
  part_more {x = x} u states_few m s q {n} {P} scale whole high_few i {k} {t} J = go (step_of x s p) refl
    where
      go : (o : Option (ℕ × ℕ)) → step_of x s p ≡ o → JointPart (high_of ws) m (suc n) (state_count_of x * P) (with_first P o k) (high_cell (scale_of ws m) (high_of ws m) (column q) + t)
      go none e =
          let j : column q ≡ 65535 = i ∙ ap step_code e in
          rw (j, cell_of_none (scale_of ws m) (high_of ws m)) (part_none (high_of ws) m J u.starts)
      go (some v) e =
          let j : column q ≡ v.0 * 16 + v.1 = i ∙ ap step_code e in
          let l = u.leads s p v e in
          rw (j, cell_of_step (scale_of ws m) (high_of ws m) v.0 v.1 (omega (arith, states_few)) (u.marks s p v e))
          (part_some (high_of ws) m J (scale_of ws m) v.0 v.1 l (u.marks s p v e) scale whole high_few)

  high_part : {S : ℕ} {ms : List Machine} → ((m : ℕ) → high_of ws m % 256 ≡ 0) → ((m : ℕ) → high_of ws m ≤ 2 ^ 52) → AllSound S ms → product (state_counts ms) ≤ 128 → (m : ℕ) → ScalesOf ms m
      → (ss ps : List ℕ) → length ss ≡ length ms → length ps ≡ length ms → StepsOf ms ss ps → JointPart (high_of ws) m (length ms) (product (state_counts ms)) (coded (state_counts ms) (joint_step ms ss p)) (place_sum highs m ps)
  unfolding place_sum product
  high_part whole high_few all_none few m Z ss [] a b C = subst (λ (o : Option Move). JointPart (high_of ws) m 0 1 o 0) (sym (coded_none ss p)) (part_start (high_of ws) m)
  high_part whole high_few all_none few m Z ss (q ∷ ps) a b C = absurd (omega arith)
  high_part whole high_few (all_next u r) few m Z [] ps a b C = absurd (omega arith)
  high_part whole high_few (all_next u r) few m Z (s ∷ ss) [] a b C = absurd (omega arith)
  high_part whole high_few (all_next {m = x} {ms = ms} u r) few m Z (s ∷ ss) (q ∷ ps) a b C =
      subst (λ (o : Option Move). JointPart (high_of ws) m (suc (length ms)) (state_count_of x * product (state_counts ms)) o (high_cell (scale_of ws m) (high_of ws m) (column q) + place_sum highs (suc m) ps)) (sym (coded_more x ms s ss p))
      (part_more u states_few m s q (scales_first x ms m Z) (whole m) (high_few m) (C 0 (omega arith))
      (high_part whole high_few r rest_few (suc m) (scales_rest x ms m Z) ss ps (omega arith) (omega arith) (λ n k. C (suc n) (omega arith))))
    where
      rest_some : 0 < product (state_counts ms)
      rest_some = product_positive (state_counts ms) (counts_positive r)

      rest_few : product (state_counts ms) ≤ 128
      rest_few = let z : 1 * product (state_counts ms) ≤ state_count_of x * product (state_counts ms) = mul-le-mul_right (product (state_counts ms)) u.starts in omega arith

      states_few : state_count_of x ≤ 128
      states_few = let z : state_count_of x * 1 ≤ state_count_of x * product (state_counts ms) = mul-le-mul_left (state_count_of x) rest_some in omega arith

  -- the steps that stand at the places
  record StepsAre (ps : List ℕ) (rs : List (ℕ × ℕ)) : Type 0 where
    marks : map (λ q. column q % 16) ps ≡ map (λ r. r.1) rs
    states : map (λ q. column q / 16) ps ≡ map (λ r. r.0) rs
    few : (n : ℕ) → n < length ps → column (get_or ps n 0) < 4096

  steps_are : {S : ℕ} {ms : List Machine} → AllSound S ms → ((n : ℕ) → state_count_of (machine_at ms n) ≤ 32) → (ss ps : List ℕ) → length ss ≡ length ms → length ps ≡ length ms → StepsOf ms ss ps
      → (rs : List (ℕ × ℕ)) → joint_step ms ss p ≡ some rs → StepsAre ps rs
  unfolding of_each
  steps_are all_none few ss [] a b C rs e = let z : [] ≡ rs = cc in record { marks = ap (map (λ r. r.1)) z; states = ap (map (λ r. r.0)) z; few = λ n h. absurd (omega arith) }
  steps_are all_none few ss (q ∷ ps) a b C rs e = absurd (omega arith)
  steps_are (all_next u r) few [] ps a b C rs e = absurd (omega arith)
  steps_are (all_next u r) few (s ∷ ss) [] a b C rs e = absurd (omega arith)
  steps_are (all_next {m = x} {ms = ms} u r) few (s ∷ ss) (q ∷ ps) a b C rs e =
      go (step_of x s p) refl (joint_step ms ss p) refl e (steps_are r (λ n. few (suc n)) ss ps (omega arith) (omega arith) (λ n k. C (suc n) (omega arith)))
    where
      go : (o : Option (ℕ × ℕ)) → step_of x s p ≡ o → (j : Option (List (ℕ × ℕ))) → joint_step ms ss p ≡ j → and_those o j ≡ some rs → ((us : List (ℕ × ℕ)) → joint_step ms ss p ≡ some us → StepsAre ps us) → StepsAre (q ∷ ps) rs
      go none d j k z rec = absurd (Option·none-ne-some rs z)
      go (some v) d none k z rec = absurd (Option·none-ne-some rs z)
      go (some v) d (some us) k z rec =
          let t = rec us k in
          let y : v ∷ us ≡ rs = cc in
          let i : column q ≡ v.0 * 16 + v.1 = C 0 (omega arith) ∙ ap step_code d in
          let w = u.marks s p v d in
          let l = u.leads s p v d in
          let f = few 0 in
          let m : column q % 16 ≡ v.1 = omega arith in
          let g : column q / 16 ≡ v.0 = omega arith in
          record {
            marks = (λ a. m a ∷ t.marks a) ∙ ap (map (λ r. r.1)) y;
            states = (λ a. g a ∷ t.states a) ∙ ap (map (λ r. r.0)) y;
            few = λ n h. pick n h t.few;
          }
        where
          pick : (n : ℕ) → n < suc (length ps) → ((n : ℕ) → n < length ps → column (get_or ps n 0) < 4096) → column (get_or (q ∷ ps) n 0) < 4096
          pick zero h f = let i : column q ≡ v.0 * 16 + v.1 = C 0 (omega arith) ∙ ap step_code d in omega (arith, u.marks s p v d, u.leads s p v d, few 0)
          pick (suc n) h f = f n (omega arith)

  low_part : (ps : List ℕ) (m : ℕ) (ks : List ℕ) → map (λ q. column q % 16) ps ≡ ks → place_sum lows m ps ≡ weighed (low_of ws) m ks
  unfolding place_sum weighed
  low_part [] m ks e = ap (weighed (low_of ws) m) e
  low_part (q ∷ ps) m ks e = ap (λ (n : ℕ). column q % 16 * low_of ws m + n) (low_part ps (suc m) (map (λ q. column q % 16) ps) refl) ∙ ap (weighed (low_of ws) m) e

-- a step by codes is a joint step
pub record CodedBy (ms : List Machine) (c : ℕ) (p : Pair) (v : Move) : Type 0 where
  pub steps : List (ℕ × ℕ)
  pub steps_are : joint_step ms (states_of (state_counts ms) c) p ≡ some steps
  pub move_is : v ≡ record { target = code_of (state_counts ms) (map (λ r. r.0) steps); marks = map (λ r. r.1) steps }

pub coded_by : (ms : List Machine) (c : ℕ) (p : Pair) (v : Move) → code_step ms c p ≡ some v → CodedBy ms c p v
coded_by ms c p v h = go (joint_step ms (states_of (state_counts ms) c) p) refl h
  where
    go : (o : Option (List (ℕ × ℕ))) → joint_step ms (states_of (state_counts ms) c) p ≡ o → coded (state_counts ms) o ≡ some v → CodedBy ms c p v
    go none e k = absurd (Option·none-ne-some v k)
    go (some steps) e k = record { steps = steps; steps_are = e; move_is = cc }

-- ---- what the columns say of a code

module _ {S : ℕ} {ms : List Machine} {c x W kept : ℕ} {steps ps : List ℕ} (M : CardMachines S ms) (H : HoldsAt ms c x W steps ps kept) (y : ℕ) (h : y ≤ 64) where
  states_size : length (states_of (state_counts ms) c) ≡ length ms
  states_size = states_length (state_counts ms) c ∙ counts_length ms

  -- the marks, the states led to
  module _ (v : Move) (e : code_step ms c (record { input = x; output = y }) ≡ some v) where
    at_places : StepsAre [] (record { input = x; output = y }) (step_at steps W y) ps (coded_by ms c (record { input = x; output = y }) v e).steps
    at_places =
        let B = coded_by ms c (record { input = x; output = y }) v e in
        steps_are [] (record { input = x; output = y }) (step_at steps W y) M.sound M.states (states_of (state_counts ms) c) ps states_size H.places (λ m k. H.step m y k h) B.steps B.steps_are

    pub marks_held : marks_at steps W y ps ≡ v.marks
    marks_held = at_places.marks ∙ ap (λ (m : Move). m.marks) (sym (coded_by ms c (record { input = x; output = y }) v e).move_is)

    pub states_held : states_at steps W y ps ≡ map (λ r. r.0) (coded_by ms c (record { input = x; output = y }) v e).steps
    states_held = at_places.states

    pub steps_few : (m : ℕ) → m < length ps → step_at steps W y (get_or ps m 0) < 4096
    steps_few = at_places.few

  module _ {ws : List ℕ} (Z : WeightsOf (state_counts ms) ws) where
    scale_few : (m : ℕ) → scale_of ws m ≤ 128
    scale_few m = go (dec_lt m (length (state_counts ms)))
      where
        go : Dec (m < length (state_counts ms)) → scale_of ws m ≤ 128
        go (yes h) = omega (arith, Z.scale m h, M.joint_states, product_drop (suc m) (state_counts ms) (counts_positive M.sound))
        go (no h) = omega (arith, List·getD-eq-default ws 0 {n = 3 * m} (omega (arith, Z.size)))

    pub weights_fit : WeightsFit ws (length ps)
    weights_fit = record { size = omega (arith, Z.size, counts_length ms, H.places); scale = λ m k. scale_few m; high_few = Z.high_few; low_few = Z.low_few }

    pub joint_held : JointCell ws (product (state_counts ms)) (code_step ms c (record { input = x; output = y })) (high_by steps ps ws W y) (low_by steps ps ws W y)
    joint_held = record {
      high = λ v e. omega (arith, J.sum, J.target v e, J.marks v e);
      low = λ v e. low_part ws (record { input = x; output = y }) (step_at steps W y) ps 0 v.marks (marks_held v e);
      there = λ v e. omega (arith, J.sum, J.below, M.joint_states, J.most v e, M.machines);
      target = λ v e. last_bits ∙ J.target v e;
      nothing = λ e. omega (arith, J.sum, J.nothing e);
      code = omega (arith, last_bits, J.below);
      high_most = omega (arith, H.places, M.machines, sum_few nowhere (high_at steps ws W y) (λ m place. high_small (step_at steps W y place) (scale_of ws m) (high_of ws m) (H.small (y * W + place)) (scale_few m) (Z.high_few m)) 0 ps);
      low_most = omega (arith, H.places, M.machines, sum_few (15 * 2 ^ 48) (low_at steps ws W y) (λ m place. marks_low (step_at steps W y place) (low_of ws m) (Z.low_few m)) 0 ps);
    }
      where
        scales : ScalesOf ws (record { input = x; output = y }) (step_at steps W y) ms 0
        scales n a = let e : 0 + n ≡ n = omega arith in rw e (Z.scale n (omega (arith, counts_length ms)))

        J : JointPart (high_of ws) 0 (length ms) (product (state_counts ms)) (code_step ms c (record { input = x; output = y })) (high_by steps ps ws W y)
        J = high_part ws (record { input = x; output = y }) (step_at steps W y) Z.whole Z.high_few M.sound M.joint_states 0 scales (states_of (state_counts ms) c) ps states_size H.places (λ m k. H.step m y k h)

        last_bits : high_by steps ps ws W y % 256 ≡ J.code
        last_bits = omega (arith, J.sum, J.below, M.joint_states)
