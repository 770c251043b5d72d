-- The lanes in their places are the insertions in their lists.
use Rattle.std.specs.Prelude.{◌≡◌, ◌≢◌, ◌+◌, ◌*◌, ◌/◌, ◌%◌, ◌^◌, ◌<◌, ◌≤◌}
use Rattle.basics.proofs.Words.{sym, ◌∙◌, ap, subst, true, List, some, ℕ, min, arith, length, get_or, mod-lt, suc-mul, mul-le-mul_right, dec_lt, member, clash}
use Rattle.machine.specs.Machine.{Machine}
use Rattle.machine.specs.Symbols.{empty_symbol}
use Rattle.product.specs.Nodes.{state_counts, product}
use Rattle.product.specs.ProductGraph.{Move}
use Rattle.product.specs.Laws.Nodes.{product_positive}
use Rattle.product.specs.Laws.JointStep.{counts_positive}
use Rattle.tables.specs.Places.{SixPlaces, mark_number}
use Rattle.tables.specs.Tables.{CardMachines}
use Rattle.cells.specs.Columns.{HoldsColumns, WeightsOf}
use Rattle.cells.specs.Laws.Fours.{four_most}
use Rattle.settling.specs.Insertions.{code_in, marks_in, is_listed}
use Rattle.insertions.specs.RankedWeights.{RankedWeights}
use Rattle.insertions.specs.Lanes.{Lane, is_move, list_of, entry_of, bumped, placed}
use Rattle.insertions.specs.Tables.{after_fours, output_at, step_lane, kept_lane, FoursOf}
use Rattle.insertions.specs.Listing.{Counted, ListedBy}
use Rattle.insertions.specs.Listed.{insertion_step, Inserts, Place, Listed}
use Rattle.insertions.proofs.Lanes.{placed_size}
use Rattle.insertions.proofs.Sorting.{moves, list_at, InList, place_of, Starts, start_order, start_next, place_room, entry_at, list_start, listed_few, listed_in, lane_at_lem, lane_place, listed_at}
use Rattle.insertions.proofs.Steps.{Insertion, none_moves, step_moves, insertion}
use Rattle.insertions.proofs.Fours.{lane_kept, kept_lane_lem}
use Rattle.insertions.proofs.Totals.{lane_is}
use Rattle.insertions.proofs.Loops.{starts_of}

-- what stands at a place of the lists of v
pub record Standing (ms : List Machine) (places : List ℕ) (kept v entry list : ℕ) : Type 0 where
  pub output : ℕ
  pub is_kept_lem : member kept output ≡ true
  pub code : ℕ
  pub code_few : code < product (state_counts ms)
  pub move : Move
  pub is : insertion_step ms code output ≡ some move
  pub target_few : v < product (state_counts ms)
  pub target_is : move.target ≡ v
  pub code_is : code_in entry ≡ code
  pub marks_are : marks_in entry ≡ mark_number places move.marks
  pub first : ℕ
  pub list_is : list ≡ 4 * v + min first 3
  pub marks_most : first * 1048576 ≤ marks_in entry

-- an entry is a code and marks
code_of : (x c m : ℕ) → m < 16777216 → x ≡ c * 16777216 + m → code_in x ≡ c
code_of x c m h e = omega arith

marks_of_lem : (x c m : ℕ) → m < 16777216 → x ≡ c * 16777216 + m → marks_in x ≡ m
marks_of_lem x c m h e = omega arith

module _ {S : ℕ} {ms : List Machine} {W kept : ℕ} {steps ws places es ns : List ℕ} (M : CardMachines S ms) (H : HoldsColumns ms empty_symbol W steps) (Z : WeightsOf (state_counts ms) ws) (six : SixPlaces places) (R : RankedWeights places ws)
    (small : kept < 2 ^ 64) (fours : ℕ) (F : FoursOf kept fours) (T : Starts (kept_lane steps ws (state_counts ms) W kept) (fours * product (state_counts ms) * 4) es ns) where
  abbrev f : ℕ → Lane
  f = kept_lane steps ws (state_counts ms) W kept

  abbrev N : ℕ
  N = fours * product (state_counts ms) * 4

  codes_some : 0 < product (state_counts ms)
  codes_some = product_positive (state_counts ms) (counts_positive M.sound)

  -- a lane that is listed is an insertion of a kept output
  lane_insertion : (i : ℕ) → moves f i ≡ true → Insertion ms places (f i).code (output_at (state_counts ms) kept i) (f i).high (f i).low
  lane_insertion i t = insertion M H Z six R (i / 4 % product (state_counts ms)) (output_at (state_counts ms) kept i) (mod-lt (i / 4) codes_some) (four_most (after_fours (i / 4 / product (state_counts ms)) kept) (i % 4)) t

  lane_output : (i : ℕ) → moves f i ≡ true → member kept (output_at (state_counts ms) kept i) ≡ true
  lane_output i t = lane_kept small (i / 4 / product (state_counts ms)) (i % 4) (omega arith) other
    where
      other : output_at (state_counts ms) kept i ≢ 64
      other e = clash t (ap (λ (y : ℕ). is_move (i / 4 % product (state_counts ms)) (step_lane steps ws (state_counts ms) W y (i / 4 % product (state_counts ms))).high) e ∙ none_moves M H Z (i / 4 % product (state_counts ms)) (mod-lt (i / 4) codes_some))

  standing : (v p : ℕ) (I : InList f N p (4 * v) 4) → Standing ms places kept v (get_or (placed f N es ns) p 0) I.list
  standing v p I =
      let B = lane_at_lem T p (4 * v) 4 I in
      let i = B.at in
      let X = lane_insertion B.at B.moves_there in
      let e : get_or (placed f N es ns) p 0 ≡ (f B.at).code * 16777216 + X.marks =
      ap (λ (k : ℕ). get_or (placed f N es ns) k 0) (lane_place T p (4 * v) 4 I) ∙ entry_at T N (omega arith) B.at B.within B.moves_there ∙ X.entry_of_lem in
      let l : I.list ≡ 4 * X.move.target + min X.first 3 = sym B.list_is ∙ X.list_of_lem in
      let t : X.move.target ≡ v = omega (arith, l, I.first, I.last) in
      record {
        output = output_at (state_counts ms) kept B.at;
        is_kept_lem = lane_output B.at B.moves_there;
        code = (f B.at).code;
        code_few = mod-lt (B.at / 4) codes_some;
        move = X.move;
        is = X.is;
        target_few = subst (λ (k : ℕ). k < product (state_counts ms)) t X.target_few;
        target_is = t;
        code_is = code_of (get_or (placed f N es ns) p 0) (f B.at).code X.marks X.marks_few e;
        marks_are = marks_of_lem (get_or (placed f N es ns) p 0) (f B.at).code X.marks X.marks_few e ∙ X.marks_of_lem;
        first = X.first;
        list_is = l ∙ ap (λ (k : ℕ). 4 * k + min X.first 3) t;
        marks_most = omega (arith, marks_of_lem (get_or (placed f N es ns) p 0) (f B.at).code X.marks X.marks_few e, X.marks_first);
      }

  at_place : (v p : ℕ) (t : is_listed (bumped 1 f N ns) v p ≡ true) → Standing ms places kept v (get_or (placed f N es ns) p 0) (listed_in T v p t).list
  at_place v p t = standing v p (listed_in T v p t)

  -- the place of an insertion
  its_place : (j y : ℕ) (w : Move) → j < product (state_counts ms) → member kept y ≡ true → insertion_step ms j y ≡ some w → w.target ≢ j → Place (placed f N es ns) (bumped 1 f N ns) w.target j (mark_number places w.marks)
  its_place j y w h m e away =
      let O = kept_lane_lem small y fours m F in
      let P = product (state_counts ms) in
      let n = (O.four * product (state_counts ms) + j) * 4 + O.lane in
      let within : n < fours * product (state_counts ms) * 4 = omega (arith, O.lane_few, suc-mul O.four (product (state_counts ms)), mul-le-mul_right (product (state_counts ms)) O.within) in
      let few : y ≤ 64 = subst (λ (k : ℕ). k ≤ 64) O.is (four_most (after_fours O.four kept) O.lane) in
      let is : f n ≡ step_lane steps ws (state_counts ms) W y j = lane_is steps ws (state_counts ms) W kept O.four j O.lane h O.lane_few ∙ ap (λ (k : ℕ). step_lane steps ws (state_counts ms) W k j) O.is in
      let t : is_move j (step_lane steps ws (state_counts ms) W y j).high ≡ true = step_moves M H Z j y h few w e away in
      let u : moves f n ≡ true = ap (λ (x : Lane). is_move x.code x.high) is ∙ t in
      let X = insertion M H Z six R j y h few t in
      let z : X.move ≡ w = cc (X.is, e) in
      let l : list_at f n ≡ 4 * w.target + min X.first 3 = ap (λ (x : Lane). list_of x.high) is ∙ X.list_of_lem ∙ ap (λ (k : Move). 4 * k.target + min X.first 3) z in
      let d : get_or (placed f N es ns) (place_of f N n) 0 ≡ j * 16777216 + X.marks = entry_at T N (omega arith) n within u ∙ ap (λ (x : Lane). entry_of x.code x.high x.low) is ∙ X.entry_of_lem in
      record {
        at = place_of f N n;
        listed = listed_at T n w.target (min X.first 3) within u l (omega arith) (omega (arith, ap (λ (k : Move). k.target) z, X.target_few, M.joint_states));
        from_is = code_of (get_or (placed f N es ns) (place_of f N n) 0) j X.marks X.marks_few d;
        marks_are = marks_of_lem (get_or (placed f N es ns) (place_of f N n) 0) j X.marks X.marks_few d ∙ X.marks_of_lem ∙ ap (λ (k : Move). mark_number places k.marks) z;
      }

  pub all_listed : Listed ms places kept (placed f N es ns) (bumped 1 f N ns)
  all_listed = record {
    rising = λ v k h l. omega (arith, list_start T (4 * v + k) (omega arith), list_start T (4 * v + 4) (omega arith), start_order f N (4 * v + k) (4 * v + 4) (omega arith));
    sorted = λ v k p t h l. sorted v k p t h l;
    within = λ v p t. within v p t;
    to = λ v p t. (at_place v p t).target_few;
    from = λ v p t. let A = at_place v p t in subst (λ (k : ℕ). k < product (state_counts ms)) (sym A.code_is) A.code_few;
    entry = λ v p t. entry v p t;
    all = its_place;
  }
    where
      within : (v p : ℕ) → is_listed (bumped 1 f N ns) v p ≡ true → p < length (placed f N es ns)
      within v p t =
          let I = listed_in T v p t in
          let B = lane_at_lem T p (4 * v) 4 I in
          omega (arith, lane_place T p (4 * v) 4 I, place_room T B.at B.within B.moves_there, placed_size f es ns N)

      entry : (v p : ℕ) → is_listed (bumped 1 f N ns) v p ≡ true → Inserts ms places kept (code_in (get_or (placed f N es ns) p 0)) v (marks_in (get_or (placed f N es ns) p 0))
      entry v p t =
          let A = at_place v p t in
          record {
            output = A.output;
            is_kept_lem = A.is_kept_lem;
            move = A.move;
            is = ap (λ (c : ℕ). insertion_step ms c A.output) A.code_is ∙ A.is;
            target_is = A.target_is;
            marks_are = A.marks_are;
          }

      sorted : (v k p : ℕ) → is_listed (bumped 1 f N ns) v p ≡ true → k < 4 → get_or (bumped 1 f N ns) (4 * v + k) 0 ≤ p → k * 1048576 ≤ marks_in (get_or (placed f N es ns) p 0)
      sorted v k p t h l = go (dec_lt I.list (4 * v + k))
        where
          I : InList f N p (4 * v) 4
          I = listed_in T v p t

          A : Standing ms places kept v (get_or (placed f N es ns) p 0) I.list
          A = at_place v p t

          go : Dec (I.list < 4 * v + k) → k * 1048576 ≤ marks_in (get_or (placed f N es ns) p 0)
          go (yes q) = absurd (omega (arith, I.to, start_next f N I.list, start_order f N (I.list + 1) (4 * v + k) (omega arith), list_start T (4 * v + k) (omega (arith, listed_few T v p t)), l))
          go (no q) = omega (arith, A.list_is, A.marks_most)

pub listed_by : {steps counts ws : List ℕ} {W kept : ℕ} (es : List ℕ) {ns entries ends : List ℕ} → WeightsOf counts ws → kept < 2 ^ 64 → (C : Counted steps counts ws W kept ns) → get_or ns 513 0 ≤ length es
    → (fours : ℕ) → FoursOf kept fours → C.fours ≡ fours → entries ≡ placed (kept_lane steps ws counts W kept) (fours * product counts * 4) es ns → ends ≡ bumped 1 (kept_lane steps ws counts W kept) (fours * product counts * 4) ns → ListedBy steps counts ws W kept entries ends
listed_by {steps} {counts} {ws} {W} {kept} es {ns} {entries} {ends} Z small C room fours F e p q S ms places K six R =
    let T = subst (λ (k : ℕ). Starts (kept_lane steps ws counts W kept) (k * product counts * 4) es ns) e (starts_of C room) in
    let all = subst (λ (qs : List ℕ). WeightsOf qs ws → Starts (kept_lane steps ws qs W kept) (fours * product qs * 4) es ns → Listed ms places kept (placed (kept_lane steps ws qs W kept) (fours * product qs * 4) es ns) (bumped 1 (kept_lane steps ws qs W kept) (fours * product qs * 4) ns)) (sym K.counts_are) (λ Y U. all_listed K.machines K.columns Y six R small fours F U) in
    subst (λ (x : List ℕ). Listed ms places kept x ends) (sym p) (subst (λ (y : List ℕ). Listed ms places kept (placed (kept_lane steps ws counts W kept) (fours * product counts * 4) es ns) y) (sym q) (all Z T))
