-- How many lanes are listed, in all.
use Rattle.std.specs.Prelude.{◌≡◌, ◌+◌, ◌*◌, ◌/◌, ◌%◌, ◌^◌, ◌<◌, ◌≤◌}
use Rattle.basics.specs.Words.{refl, ◌∙◌, ap, Bool, true, false, cond, List, ℕ, zero, suc, arith, length, get_or, suc-mul, mul-add, mul-le-mul_left, mul-add-mod_self_right, mod-eq_of_lt, ℕ_discrete, member}
use Rattle.machine.specs.SymbolSets.{least_symbol}
use Rattle.machine.specs.Machine.{Machine}
use Rattle.machine.specs.Symbols.{empty_symbol}
use Rattle.paths.specs.Numbering.{position_is}
use Rattle.product.specs.Nodes.{state_counts, product}
use Rattle.tables.specs.Tables.{CardMachines}
use Rattle.cells.specs.Columns.{HoldsColumns, WeightsOf}
use Rattle.cells.specs.Fours.{next_four}
use Rattle.cells.specs.Laws.Fours.{least_most}
use Rattle.insertions.specs.Lanes.{Lane, is_move, list_of, bump, bumped, hit, count_to, start_of}
use Rattle.insertions.specs.Tables.{after_fours, step_lane, kept_lane}
use Rattle.insertions.proofs.Lanes.{bump_stays, bump_most, bumped_size, hit_here, hit_other, hit_stays}
use Rattle.insertions.proofs.Steps.{none_moves}
use Rattle.insertions.proofs.Fours.{fours_small, uses, uses_one, sum_of, uses_of, four_uses, least_some}

-- a lane that is listed is one
unfoldable pub moved : Lane → ℕ
moved x = cond (is_move x.code x.high) 1 0

unfoldable pub move_to : (ℕ → Lane) → ℕ → ℕ
move_to f zero = 0
move_to f (suc n) = move_to f n + moved (f n)

pub moved_one : (x : Lane) → is_move x.code x.high ≡ true → moved x ≡ 1
unfolding moved
moved_one x t = rw t

pub moved_none : (x : Lane) → is_move x.code x.high ≡ false → moved x ≡ 0
unfolding moved
moved_none x t = rw t

pub moved_most : (x : Lane) → moved x ≤ 1
moved_most x = go (is_move x.code x.high) refl
  where
    go : (b : Bool) → is_move x.code x.high ≡ b → moved x ≤ 1
    go true t = omega (arith, moved_one x t)
    go false t = omega (arith, moved_none x t)

hit_most : (l : ℕ) (x : Lane) → hit l x ≤ moved x
hit_most l x = go (is_move x.code x.high) refl (ℕ_discrete (list_of x.high) l)
  where
    go : (b : Bool) → is_move x.code x.high ≡ b → Dec (list_of x.high ≡ l) → hit l x ≤ moved x
    go true t (yes e) = omega (arith, moved_one x t, hit_here l x t e)
    go true t (no n) = omega (arith, hit_other l x n)
    go false t d = omega (arith, hit_stays l x t)

-- ---- all lists together

-- a lane is in one list
hits_below : Lane → ℕ → ℕ
hits_below x l = sum_of (λ k. hit k x) l

below_none : (x : Lane) (l : ℕ) → l ≤ list_of x.high → hits_below x l ≡ 0
unfolding sum_of hits_below
below_none x zero h = refl
below_none x (suc l) h = omega (arith, below_none x l (omega arith), hit_other l x (λ e. omega arith))

below_most : (x : Lane) (l : ℕ) → hits_below x l ≤ moved x
unfolding sum_of hits_below
below_most x zero = omega arith
below_most x (suc l) = go (ℕ_discrete (list_of x.high) l) (below_most x l)
  where
    go : Dec (list_of x.high ≡ l) → hits_below x l ≤ moved x → hits_below x l + hit l x ≤ moved x
    go (yes e) r = omega (arith, below_none x l (omega arith), hit_most l x)
    go (no n) r = omega (arith, hit_other l x n)

start_step : (f : ℕ → Lane) (n l : ℕ) → start_of f (suc n) l ≡ start_of f n l + hits_below (f n) l
unfolding start_of sum_of hits_below count_to
start_step f n zero = refl
start_step f n (suc l) = omega (arith, start_step f n l)

start_none : (f : ℕ → Lane) (l : ℕ) → start_of f 0 l ≡ 0
unfolding start_of count_to
start_none f zero = refl
start_none f (suc l) = omega (arith, start_none f l)

pub start_most : (f : ℕ → Lane) (n l : ℕ) → start_of f n l ≤ move_to f n
unfolding move_to
start_most f zero l = omega (arith, start_none f l)
start_most f (suc n) l = omega (arith, start_step f n l, below_most (f n) l, start_most f n l)

-- a list that no lane is in
pub count_none : (f : ℕ → Lane) (l n : ℕ) → ((i : ℕ) → list_of (f i).high < l + 1 → list_of (f i).high < l) → count_to f l n ≡ 0
unfolding count_to
count_none f l zero h = refl
count_none f l (suc n) h = omega (arith, count_none f l n h, hit_other l (f n) (λ e. omega (arith, h n (omega arith))))

-- the numbers of the lists
bump_moved : (k : ℕ) (x : Lane) (ns : List ℕ) (i : ℕ) → k ≤ 2 → length ns ≡ 514 → get_or (bump k x ns) i 0 ≤ get_or ns i 0 + moved x
bump_moved k x ns i few size = go (is_move x.code x.high) refl
  where
    go : (b : Bool) → is_move x.code x.high ≡ b → get_or (bump k x ns) i 0 ≤ get_or ns i 0 + moved x
    go true t = omega (arith, moved_one x t, bump_most k x ns i few size)
    go false t = rw (bump_stays k x ns t) (omega arith)

pub bumped_moved : (k : ℕ) (f : ℕ → Lane) (ns : List ℕ) → k ≤ 2 → length ns ≡ 514 → (n i : ℕ) → get_or (bumped k f n ns) i 0 ≤ get_or ns i 0 + move_to f n
unfolding bumped move_to
bumped_moved k f ns few size zero i = omega arith
bumped_moved k f ns few size (suc n) i = omega (arith, bump_moved k (f n) (bumped k f n ns) i few (bumped_size k f ns n ∙ size), bumped_moved k f ns few size n i)

-- ---- at most one for each code and output

move_most : (f : ℕ → Lane) (u : ℕ → ℕ) (m k : ℕ) → ((j : ℕ) → j < k → moved (f (m + j)) ≤ u j) → move_to f (m + k) ≤ move_to f m + sum_of u k
unfolding move_to sum_of
move_most f u m zero h = let e : m + 0 ≡ m = omega arith in rw e (omega arith)
move_most f u m (suc k) h = let e : m + suc k ≡ suc (m + k) = omega arith in rw e (omega (arith, move_most f u m k (λ j l. h j (omega arith)), h k (omega arith)))

-- the lane of a code and an output
pub lane_is : (steps ws counts : List ℕ) (W kept q c j : ℕ) → c < product counts → j < 4
    → kept_lane steps ws counts W kept ((q * product counts + c) * 4 + j) ≡ step_lane steps ws counts W (get_or (next_four (after_fours q kept)) j 0) c
lane_is steps ws counts W kept q c j h l =
    let n = (q * product counts + c) * 4 + j in
    let p : n / 4 ≡ q * product counts + c = omega arith in
    let b : n % 4 ≡ j = omega arith in
    let a : n / 4 / product counts ≡ q = ap (λ (k : ℕ). k / product counts) p ∙ position_is (product counts) (omega arith) q c h in
    let d : n / 4 % product counts ≡ c = ap (λ (k : ℕ). k % product counts) p ∙ mul-add-mod_self_right q (product counts) c ∙ mod-eq_of_lt h in
    λ i. step_lane steps ws counts W (get_or (next_four (after_fours (a i) kept)) (b i) 0) (d i)

module _ {S : ℕ} {ms : List Machine} {W : ℕ} {steps ws : List ℕ} (M : CardMachines S ms) (H : HoldsColumns ms empty_symbol W steps) (Z : WeightsOf (state_counts ms) ws) (kept : ℕ) where
  lane_most : (q c j : ℕ) → c < product (state_counts ms) → j < 4 → moved (kept_lane steps ws (state_counts ms) W kept ((q * product (state_counts ms) + c) * 4 + j)) ≤ uses (get_or (next_four (after_fours q kept)) j 0)
  lane_most q c j h l = rw (lane_is steps ws (state_counts ms) W kept q c j h l) (go (get_or (next_four (after_fours q kept)) j 0) (ℕ_discrete (get_or (next_four (after_fours q kept)) j 0) 64))
    where
      go : (y : ℕ) → Dec (y ≡ 64) → moved (step_lane steps ws (state_counts ms) W y c) ≤ uses y
      go y (yes e) = rw e (omega (arith, moved_none (step_lane steps ws (state_counts ms) W 64 c) (none_moves M H Z c h)))
      go y (no n) = omega (arith, uses_one y n, moved_most (step_lane steps ws (state_counts ms) W y c))

  rows_most : (q c : ℕ) → c ≤ product (state_counts ms)
      → move_to (kept_lane steps ws (state_counts ms) W kept) ((q * product (state_counts ms) + c) * 4) ≤ move_to (kept_lane steps ws (state_counts ms) W kept) (q * product (state_counts ms) * 4) + c * uses_of (after_fours q kept)
  rows_most q zero h = let e : (q * product (state_counts ms) + 0) * 4 ≡ q * product (state_counts ms) * 4 = omega arith in rw e (omega arith)
  rows_most q (suc c) h =
      let f = kept_lane steps ws (state_counts ms) W kept in
      let e : (q * product (state_counts ms) + suc c) * 4 ≡ (q * product (state_counts ms) + c) * 4 + 4 = omega arith in
      let z = move_most f (λ j. uses (get_or (next_four (after_fours q kept)) j 0)) ((q * product (state_counts ms) + c) * 4) 4 (λ j l. lane_most q c j (omega arith) l) in
      rw e (omega (arith, z, rows_most q c (omega arith), suc-mul c (uses_of (after_fours q kept))))

  module _ (small : kept < 2 ^ 64) (no_pair : member kept empty_symbol ≡ false) where
    all_most : (q : ℕ) → move_to (kept_lane steps ws (state_counts ms) W kept) (q * product (state_counts ms) * 4) + product (state_counts ms) ≤ product (state_counts ms) * least_symbol (after_fours q kept)
    unfolding after_fours move_to
    all_most zero =
        let e : 0 * product (state_counts ms) * 4 ≡ 0 = omega arith in
        let z : product (state_counts ms) * 1 ≤ product (state_counts ms) * least_symbol kept = mul-le-mul_left (product (state_counts ms)) (least_some kept small no_pair) in
        rw e (omega arith)
    all_most (suc q) =
        let P = product (state_counts ms) in
        let s = after_fours q kept in
        let e : suc q * P * 4 ≡ (q * P + P) * 4 = omega (arith, suc-mul q P) in
        let z = mul-le-mul_left P (four_uses (after_fours q kept) (fours_small small q)) in
        rw e (omega (arith, rows_most q P (omega arith), all_most q, z, mul-add P (least_symbol (after_fours q kept)) (uses_of (after_fours q kept))))

    -- 0 is no kept output
    pub all_few : (q : ℕ) → move_to (kept_lane steps ws (state_counts ms) W kept) (q * product (state_counts ms) * 4) ≤ 63 * product (state_counts ms)
    all_few q =
        let P = product (state_counts ms) in
        let z : P * least_symbol (after_fours q kept) ≤ P * 64 = mul-le-mul_left P (least_most (after_fours q kept)) in
        omega (arith, all_most q, z)
