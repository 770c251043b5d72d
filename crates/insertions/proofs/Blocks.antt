-- Four outputs at a time: what their tables ask and give.
use Rattle.std.specs.Prelude.{◌≡◌, ◌+◌, ◌*◌, ◌/◌, ◌%◌, ◌^◌, ◌<◌, ◌≤◌}
use Rattle.basics.specs.Words.{sym, ◌∙◌, ap, subst, List, ℕ, zero, suc, arith, length, get_or, mul_comm, mod-lt, div-lt_iff_lt-mul, div-add-mod', product}
use Rattle.product.specs.Nodes.{state_counts}
use Rattle.product.specs.Laws.Nodes.{product_positive}
use Rattle.product.specs.Laws.JointStep.{counts_positive}
use Rattle.cells.specs.declared.Groups.{Groups}
use Rattle.cells.specs.Cells.{high_at, low_at, cell_sum}
use Rattle.cells.specs.Columns.{WeightsOf}
use Rattle.cells.specs.Groups.{GroupsOf, sum_at, FourPre, FourAdded}
use Rattle.cells.specs.Fours.{next_four}
use Rattle.cells.specs.Laws.Fours.{four_most}
use Rattle.cells.specs.Laws.Joint.{joint_cell}
use Rattle.cells.specs.Laws.Groups.{all_codes, joint_sum}
use Rattle.cells.specs.Laws.Meeting.{four_pre}
use Rattle.insertions.specs.Lanes.{list_of}
use Rattle.insertions.specs.Tables.{four_lane, after_fours, output_at, kept_lane, TablePre}
use Rattle.insertions.specs.Listing.{ListPre}
use Rattle.insertions.proofs.Lanes.{Equal}
use Rattle.insertions.proofs.Totals.{lane_is, move_to, all_few}

positive : (m n : ℕ) → 0 < m * n → 0 < m
positive zero n h = absurd (omega arith)
positive (suc m) n h = omega arith

list_small : (h P : ℕ) → h % 256 < P → P ≤ 128 → list_of h < P * 4
list_small h P l few = let e : h % 128 ≡ h % 256 = omega arith in omega arith

module _ {steps counts ws : List ℕ} {W kept : ℕ} {g : Groups} (R : ListPre steps counts ws W kept g) where
  own_weights : WeightsOf (state_counts R.machines) ws
  own_weights = subst (λ (qs : List ℕ). WeightsOf qs ws) R.of.counts_are R.weights

  own_groups : GroupsOf (state_counts R.machines) g
  own_groups = subst (λ (qs : List ℕ). GroupsOf qs g) R.of.counts_are R.groups

  pub codes_few : product counts ≤ 128
  codes_few = subst (λ (qs : List ℕ). product qs ≤ 128) (sym R.of.counts_are) R.of.machines.joint_states

  pub codes_some : 0 < product counts
  codes_some = subst (λ (qs : List ℕ). 0 < product qs) (sym R.of.counts_are) (product_positive (state_counts R.machines) (counts_positive R.of.machines.sound))

  pub codes_are : g.front * g.back ≡ product counts
  codes_are = all_codes R.groups

  -- even where there is no step the list is one of a code
  pub list_below : (i : ℕ) → list_of (kept_lane steps ws counts W kept i).high < product counts * 4
  list_below i =
      subst (λ (qs : List ℕ). list_of (kept_lane steps ws qs W kept i).high < product qs * 4) (sym R.of.counts_are)
      (let J = joint_cell R.of.machines R.of.columns own_weights (i / 4 % product (state_counts R.machines)) (output_at (state_counts R.machines) kept i) (mod-lt (i / 4) (product_positive (state_counts R.machines) (counts_positive R.of.machines.sound))) (four_most (after_fours (i / 4 / product (state_counts R.machines)) kept) (i % 4)) in
      list_small (kept_lane steps ws (state_counts R.machines) W kept i).high (product (state_counts R.machines)) J.code R.of.machines.joint_states)

  pub asks_four : (set : ℕ) {four : List ℕ} (high low : List ℕ) → four ≡ next_four set → (g.front + g.back) * 4 ≤ length high → (g.front + g.back) * 4 ≤ length low → FourPre steps four counts ws high low W g
  asks_four set {four} high low e a b =
      subst (λ (qs : List ℕ). FourPre steps four qs ws high low W g) (sym R.of.counts_are)
      (four_pre R.of.machines R.of.columns own_weights own_groups four high low (λ j. subst (λ (ys : List ℕ). get_or ys j 0 ≤ 64) (sym e) (four_most set j)) a b)

  module _ (q : ℕ) {four high low : List ℕ} (e : four ≡ next_four (after_fours q kept)) (J : FourAdded steps four counts ws high low W g) where
    own_added : FourAdded steps four (state_counts R.machines) ws high low W g
    own_added = subst (λ (qs : List ℕ). FourAdded steps four qs ws high low W g) R.of.counts_are J

    output_few : (j : ℕ) → get_or four j 0 ≤ 64
    output_few j = subst (λ (ys : List ℕ). get_or ys j 0 ≤ 64) (sym e) (four_most (after_fours q kept) j)

    pub high_pre : (g.front + g.back) * 4 ≤ length high → TablePre high g.front g.back
    high_pre room = record {
      few = omega (arith, codes_are, codes_few);
      some = (positive g.front g.back (omega (arith, codes_are, codes_some)), positive g.back g.front (rw (mul_comm g.back g.front) (omega (arith, codes_are, codes_some))));
      room = room;
      sums = λ a b j h k l. omega (arith, (joint_sum R.of.machines R.of.columns own_weights own_groups own_added a b j h k l (output_few j)).high_most);
    }

    pub low_pre : (g.front + g.back) * 4 ≤ length low → TablePre low g.front g.back
    low_pre room = record {
      few = omega (arith, codes_are, codes_few);
      some = (positive g.front g.back (omega (arith, codes_are, codes_some)), positive g.back g.front (rw (mul_comm g.back g.front) (omega (arith, codes_are, codes_some))));
      room = room;
      sums = λ a b j h k l. omega (arith, (joint_sum R.of.machines R.of.columns own_weights own_groups own_added a b j h k l (output_few j)).low_most);
    }

    -- the lanes of the tables are those of the columns
    pub four_lanes : Equal (kept_lane steps ws counts W kept) (four_lane high low g.front g.back) (q * product counts * 4) (g.front * g.back * 4)
    four_lanes n h =
        let c = n / 4 in
        let j = n % 4 in
        let a = n / 4 / g.back in
        let b = n / 4 % g.back in
        let y = get_or (next_four (after_fours q kept)) (n % 4) 0 in
        let below : n / 4 < g.front * g.back = omega arith in
        let some_back : 0 < g.back = positive g.back g.front (rw (mul_comm g.back g.front) (omega (arith, codes_are, codes_some))) in
        let al : n / 4 / g.back < g.front = (div-lt_iff_lt-mul some_back).1 below in
        let bl : n / 4 % g.back < g.back = mod-lt (n / 4) some_back in
        let jl : n % 4 < 4 = omega arith in
        let code : n / 4 / g.back * g.back + n / 4 % g.back ≡ n / 4 = div-add-mod' (n / 4) g.back in
        let at : q * product counts * 4 + n ≡ (q * product counts + n / 4) * 4 + n % 4 = omega arith in
        let o : get_or four (n % 4) 0 ≡ get_or (next_four (after_fours q kept)) (n % 4) 0 = ap (λ (ys : List ℕ). get_or ys (n % 4) 0) e in
        let high_is : cell_sum (high_at steps ws W (get_or (next_four (after_fours q kept)) (n % 4) 0)) 0 0 counts (n / 4) ≡ sum_at high g.front (n / 4 / g.back) (n / 4 % g.back) (n % 4) =
        sym (J.highs (n / 4 / g.back) (n / 4 % g.back) (n % 4) al bl jl ∙ (λ i. cell_sum (high_at steps ws W (o i)) 0 0 counts (code i))) in
        let low_is : cell_sum (low_at steps ws W (get_or (next_four (after_fours q kept)) (n % 4) 0)) 0 0 counts (n / 4) ≡ sum_at low g.front (n / 4 / g.back) (n / 4 % g.back) (n % 4) =
        sym (J.lows (n / 4 / g.back) (n / 4 % g.back) (n % 4) al bl jl ∙ (λ i. cell_sum (low_at steps ws W (o i)) 0 0 counts (code i))) in
        ap (kept_lane steps ws counts W kept) at
        ∙ lane_is steps ws counts W kept q (n / 4) (n % 4) (omega (arith, codes_are)) jl
        ∙ (λ i. record { code = n / 4; high = high_is i; low = low_is i })

  pub few_listed : kept < 2 ^ 64 → (q : ℕ) → move_to (kept_lane steps ws counts W kept) (q * product counts * 4) ≤ 63 * product counts
  few_listed small q =
      subst (λ (qs : List ℕ). move_to (kept_lane steps ws qs W kept) (q * product qs * 4) ≤ 63 * product qs) (sym R.of.counts_are)
      (all_few R.of.machines R.of.columns own_weights kept small R.no_pair q)
