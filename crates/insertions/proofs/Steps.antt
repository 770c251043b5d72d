-- The lanes of the columns are the insertions: their lists, their entries.
use Rattle.std.specs.Prelude.{◌≡◌, ◌∷◌, ◌≢◌, ◌+◌, ◌*◌, ◌/◌, ◌%◌, ◌<◌, ◌≤◌}
use Rattle.basics.proofs.Words.{refl, sym, ◌∙◌, ap, Bool, true, false, not, List, [], Option, some, none, Option·none-ne-some, ℕ, suc, min, arith, length, get_or, eqb, leb, ltb, leb-true, ltb-true, lt-ltb, eqb-false, ne_eqb, not-true, both, left as left-of, right as right_of}
use Rattle.machine.specs.declared.Pair.{Pair}
use Rattle.machine.specs.Symbols.{empty_symbol}
use Rattle.machine.specs.Machine.{Machine, step_of}
use Rattle.product.specs.Nodes.{state_counts, product}
use Rattle.product.specs.ProductGraph.{Move}
use Rattle.product.specs.Codes.{code_step}
use Rattle.product.specs.Laws.JointStep.{AllSound, all_none, all_next}
use Rattle.product.specs.Laws.Codes.{with_first, step_no_machine, step_next_machine}
use Rattle.tables.specs.Places.{SixPlaces, mark_number}
use Rattle.tables.specs.Tables.{CardMachines}
use Rattle.tables.specs.Laws.Packing.{six_number}
use Rattle.tables.specs.Laws.Edges.{code_step_few}
use Rattle.cells.specs.Cells.{nowhere}
use Rattle.cells.specs.Columns.{HoldsColumns, WeightsOf, JointCell}
use Rattle.cells.specs.Laws.Joint.{joint_cell}
use Rattle.insertions.specs.RankedWeights.{RankedWeights}
use Rattle.insertions.specs.Lanes.{is_move, list_of, narrowed, entry_of}
use Rattle.insertions.specs.Tables.{step_lane}
use Rattle.insertions.specs.Listed.{insertion_step}
use Rattle.insertions.specs.Laws.Ranked.{ranked_high, ranked_low}

-- ---- joint steps

-- 64 is no symbol
pub no_step : {S : ℕ} {ms : List Machine} → AllSound S ms → 1 ≤ length ms → S < 64 → (x c : ℕ) → code_step ms c (record { input = x; output = 64 }) ≡ none
no_step all_none any few x c = absurd (omega arith)
no_step {S} (all_next {m} {ms} a r) any few x c =
    step_next_machine m ms c p ∙ ap (λ (o : Option (ℕ × ℕ)). with_first (product (state_counts ms)) o (code_step ms (c % product (state_counts ms)) p)) (go (step_of m (c / product (state_counts ms)) p) refl)
  where
    p : Pair
    p = record { input = x; output = 64 }

    go : (o : Option (ℕ × ℕ)) → step_of m (c / product (state_counts ms)) p ≡ o → step_of m (c / product (state_counts ms)) p ≡ none
    go none e = e
    go (some v) e = absurd (let z = leb-true 64 S (right_of (leb x S) (leb 64 S) (a.symbols (c / product (state_counts ms)) p v e)) in omega arith)

pub marks_length : (ms : List Machine) (c : ℕ) (p : Pair) (v : Move) → code_step ms c p ≡ some v → length v.marks ≡ length ms
marks_length [] c p v e = let z : record { target = 0; marks = [] } ≡ v = cc (step_no_machine c p, e) in ap (λ (u : Move). length u.marks) (sym z)
marks_length (x ∷ ms) c p v e = go (step_of x (c / product (state_counts ms)) p) (code_step ms (c % product (state_counts ms)) p) refl (sym (step_next_machine x ms c p) ∙ e) (λ u f. marks_length ms (c % product (state_counts ms)) p u f)
  where
    go : (o : Option (ℕ × ℕ)) (k : Option Move) → code_step ms (c % product (state_counts ms)) p ≡ k → with_first (product (state_counts ms)) o k ≡ some v
        → ((u : Move) → code_step ms (c % product (state_counts ms)) p ≡ some u → length u.marks ≡ length ms) → length v.marks ≡ suc (length ms)
    go none k f z rest = absurd (Option·none-ne-some v z)
    go (some t) none f z rest = absurd (Option·none-ne-some v z)
    go (some t) (some u) f z rest =
        let y : record { target = t.0 * product (state_counts ms) + u.target; marks = t.1 ∷ u.marks } ≡ v = cc in
        ap (λ (g : Move). length g.marks) (sym y) ∙ ap suc (rest u f)

-- ---- numbers

pub narrow_three : (a b c : ℕ) → a ≤ 15 → b ≤ 15 → c ≤ 15 → narrowed (a * 4294967296 + (b * 65536 + c)) ≡ a * 256 + (b * 16 + c)
narrow_three a b c h k l =
    let n = a * 4294967296 + (b * 65536 + c) in
    let p : n / 4096 ≡ a * 1048576 + b * 16 = omega arith in
    let q : n / 16777216 ≡ a * 256 = omega arith in
    let s : n + n / 4096 + n / 16777216 ≡ 4096 * (a * 1048832 + b * 16) + (a * 256 + (b * 16 + c)) = omega arith in
    ap (λ (k : ℕ). k % 4096) s ∙ omega arith

-- a high number and a low one of ranked marks
module _ (t a b c d e f h l : ℕ) (ha : a ≤ 15) (hb : b ≤ 15) (hc : c ≤ 15) (hd : d ≤ 15) (he : e ≤ 15) (hf : f ≤ 15) (ht : t < 128)
    (high : h ≡ t + (a * 1099511627776 + (b * 16777216 + c * 256))) (low : l ≡ d * 281474976710656 + (e * 4294967296 + f * 65536)) where
  pub target_of_lem : h % 128 ≡ t
  target_of_lem = omega arith

  pub list_is : list_of h ≡ 4 * t + min a 3
  list_is =
      let q : h / 1099511627776 ≡ a = omega arith in
      let r : h % 128 ≡ t = omega arith in
      (λ i. r i * 4 + min (q i) 3) ∙ omega arith

  pub marks_are : narrowed (h / 256) * 4096 + narrowed (l / 65536) ≡ a * 1048576 + (b * 65536 + (c * 4096 + (d * 256 + (e * 16 + f))))
  marks_are =
      let q : h / 256 ≡ a * 4294967296 + (b * 65536 + c) = omega arith in
      let r : l / 65536 ≡ d * 4294967296 + (e * 65536 + f) = omega arith in
      let u : narrowed (h / 256) ≡ a * 256 + (b * 16 + c) = ap narrowed q ∙ narrow_three a b c ha hb hc in
      let v : narrowed (l / 65536) ≡ d * 256 + (e * 16 + f) = ap narrowed r ∙ narrow_three d e f hd he hf in
      omega arith

-- ---- the lane of an insertion

-- the step of a code with an output, as a lane that is listed
pub record Insertion (ms : List Machine) (places : List ℕ) (c y h l : ℕ) : Type 0 where
  pub move : Move
  pub is : insertion_step ms c y ≡ some move
  pub away : move.target ≢ c
  pub target_few : move.target < product (state_counts ms)
  pub first : ℕ
  pub list_of_lem : list_of h ≡ 4 * move.target + min first 3
  pub marks : ℕ
  pub marks_of_lem : marks ≡ mark_number places move.marks
  pub marks_first : marks ≡ first * 1048576 + marks % 1048576
  pub marks_few : marks < 16777216
  pub entry_of_lem : entry_of c h l ≡ c * 16777216 + marks

module _ {S : ℕ} {ms : List Machine} {W : ℕ} {steps ws : List ℕ} (M : CardMachines S ms) (H : HoldsColumns ms empty_symbol W steps) (Z : WeightsOf (state_counts ms) ws) where
  lane_cell : (c y : ℕ) → c < product (state_counts ms) → y ≤ 64
      → JointCell ws (product (state_counts ms)) (insertion_step ms c y) (step_lane steps ws (state_counts ms) W y c).high (step_lane steps ws (state_counts ms) W y c).low
  lane_cell c y h k = joint_cell M H Z c y h k

  -- 64 stands for no output
  pub none_moves : (c : ℕ) → c < product (state_counts ms) → is_move c (step_lane steps ws (state_counts ms) W 64 c).high ≡ false
  none_moves c h = go (is_move c (step_lane steps ws (state_counts ms) W 64 c).high) refl
    where
      go : (b : Bool) → is_move c (step_lane steps ws (state_counts ms) W 64 c).high ≡ b → is_move c (step_lane steps ws (state_counts ms) W 64 c).high ≡ false
      go false e = e
      go true e =
          let z = ltb-true (step_lane steps ws (state_counts ms) W 64 c).high nowhere (left-of (ltb (step_lane steps ws (state_counts ms) W 64 c).high nowhere) (not (eqb ((step_lane steps ws (state_counts ms) W 64 c).high % 128) c)) e) in
          absurd (omega (arith, (lane_cell c 64 h (omega arith)).nothing (no_step M.sound M.some_machine M.symbols empty_symbol c)))

  -- a step to another code moves
  pub step_moves : (c y : ℕ) → c < product (state_counts ms) → y ≤ 64 → (v : Move) → insertion_step ms c y ≡ some v → v.target ≢ c → is_move c (step_lane steps ws (state_counts ms) W y c).high ≡ true
  step_moves c y h k v e n =
      let J = lane_cell c y h k in
      let x = (step_lane steps ws (state_counts ms) W y c).high in
      let a = J.target v e in
      let b = J.code in
      both (lt-ltb x nowhere (J.there v e)) (ap not (ne_eqb (x % 128) c (λ q. n (omega (arith, a, b, q, M.joint_states)))))

  module _ {places : List ℕ} (six : SixPlaces places) (R : RankedWeights places ws) where
    pub insertion : (c y : ℕ) → c < product (state_counts ms) → y ≤ 64 → is_move c (step_lane steps ws (state_counts ms) W y c).high ≡ true
        → Insertion ms places c y (step_lane steps ws (state_counts ms) W y c).high (step_lane steps ws (state_counts ms) W y c).low
    insertion c y h k t = go (insertion_step ms c y) refl
      where
        x : ℕ
        x = (step_lane steps ws (state_counts ms) W y c).high

        z : ℕ
        z = (step_lane steps ws (state_counts ms) W y c).low

        J : JointCell ws (product (state_counts ms)) (insertion_step ms c y) (step_lane steps ws (state_counts ms) W y c).high (step_lane steps ws (state_counts ms) W y c).low
        J = lane_cell c y h k

        below : (step_lane steps ws (state_counts ms) W y c).high < nowhere
        below = ltb-true (step_lane steps ws (state_counts ms) W y c).high nowhere (left-of (ltb (step_lane steps ws (state_counts ms) W y c).high nowhere) (not (eqb ((step_lane steps ws (state_counts ms) W y c).high % 128) c)) t)

        other : (step_lane steps ws (state_counts ms) W y c).high % 128 ≢ c
        other = eqb-false ((step_lane steps ws (state_counts ms) W y c).high % 128) c (not-true _ (right_of (ltb (step_lane steps ws (state_counts ms) W y c).high nowhere) (not (eqb ((step_lane steps ws (state_counts ms) W y c).high % 128) c)) t))

        moved : (v : Move) → insertion_step ms c y ≡ some v → Insertion ms places c y (step_lane steps ws (state_counts ms) W y c).high (step_lane steps ws (state_counts ms) W y c).low
        moved v e =
            let m : ℕ → ℕ = (λ i. get_or v.marks (get_or places i 0) 0) in
            let few : (i : ℕ) → m i ≤ 15 = (λ i. code_step_few M.sound c (record { input = empty_symbol; output = y }) v e (get_or places i 0)) in
            let size : length v.marks ≤ 6 = omega (arith, marks_length ms c (record { input = empty_symbol; output = y }) v e, M.machines) in
            let tp : v.target < product (state_counts ms) = omega (arith, J.target v e, J.code) in
            let tt : v.target < 128 = omega (arith, tp, M.joint_states) in
            let high = J.high v e ∙ ap (λ (n : ℕ). v.target + n) (ranked_high R six.size v.marks size) in
            let low = J.low v e ∙ ranked_low R six.size v.marks size in
            let marks = mark_number places v.marks in
            let number : mark_number places v.marks ≡ m 0 * 1048576 + (m 1 * 65536 + (m 2 * 4096 + (m 3 * 256 + (m 4 * 16 + m 5)))) = six_number places v.marks six.size in
            record {
              move = v;
              is = e;
              away = λ q. other (target_of_lem v.target (m 0) (m 1) (m 2) (m 3) (m 4) (m 5) x z (few 0) (few 1) (few 2) (few 3) (few 4) (few 5) tt high low ∙ q);
              target_few = tp;
              first = m 0;
              list_of_lem = list_is v.target (m 0) (m 1) (m 2) (m 3) (m 4) (m 5) x z (few 0) (few 1) (few 2) (few 3) (few 4) (few 5) tt high low;
              marks = mark_number places v.marks;
              marks_of_lem = refl;
              marks_first = omega (arith, number, few 1, few 2, few 3, few 4, few 5);
              marks_few = omega (arith, number, few 0, few 1, few 2, few 3, few 4, few 5);
              entry_of_lem = ap (λ (n : ℕ). c * 16777216 + n) (marks_are v.target (m 0) (m 1) (m 2) (m 3) (m 4) (m 5) x z (few 0) (few 1) (few 2) (few 3) (few 4) (few 5) tt high low ∙ sym number);
            }

        go : (o : Option Move) → insertion_step ms c y ≡ o → Insertion ms places c y (step_lane steps ws (state_counts ms) W y c).high (step_lane steps ws (state_counts ms) W y c).low
        go none e = absurd (omega (arith, J.nothing e, below))
        go (some v) e = moved v e
