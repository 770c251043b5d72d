-- The loops over the kept outputs, four at a time: the fours so far are counted, or written.
use Rattle.std.specs.Prelude.{◌≡◌, ◌+◌, ◌-◌, ◌*◌, ◌/◌, ◌^◌, ◌<◌, ◌≤◌}
use Rattle.basics.specs.Words.{sym, ◌∙◌, ap, subst, List, [], ℕ, zero, suc, arith, length, get_or, replicate, length-replicate, get_or-replicate, List·getD-eq-default, mod-lt, suc-mul, mul-le-mul_right, ℕ_discrete, dec_lt, add-one, product}
use Rattle.cells.specs.declared.Groups.{Groups}
use Rattle.cells.specs.Groups.{FourAdded}
use Rattle.cells.specs.Fours.{next_four, without_four}
use Rattle.insertions.specs.Lanes.{Lane, bumped, placed, count_to, start_of}
use Rattle.insertions.specs.Tables.{four_lane, after_fours, kept_lane, FoursOf, CountRoom, EntryRoom}
use Rattle.insertions.specs.Listing.{sum_to, AddPre, AddedUp, FilledOn, ListPre, Counted}
use Rattle.insertions.proofs.Lanes.{bumped_none, bumped_size, bumped_at, bumped_before, bumped_on, placed_none, placed_on, equal_alike, entry_next}
use Rattle.insertions.proofs.Adding.{sum_none, sum_next, sum_mono, all_added}
use Rattle.insertions.proofs.Sorting.{Starts, start_next, start_order}
use Rattle.insertions.proofs.Fours.{fours_next, fours_none}
use Rattle.insertions.proofs.Totals.{start_most, bumped_moved, count_none}
use Rattle.insertions.proofs.Blocks.{codes_few, codes_some, codes_are, list_below, four_lanes, few_listed}

-- so many fours are done
pub record FoursTo (kept left fours : ℕ) : Type 0 where
  pub left_is : left ≡ after_fours fours kept
  pub some_left : (p : ℕ) → p < fours → 0 < after_fours p kept

module _ {kept : ℕ} where
  pub no_fours : FoursTo kept kept 0
  no_fours = record { left_is = sym (fours_none kept); some_left = λ p h. absurd (omega arith) }

  pub one_four : {left fours : ℕ} → FoursTo kept left fours → 0 < left → {after : ℕ} → after ≡ without_four left → FoursTo kept after (fours + 1)
  one_four {left} {fours} F h e = record {
    left_is = e ∙ ap without_four F.left_is ∙ sym (fours_next fours kept);
    some_left = λ p l. go p l (ℕ_discrete p fours);
  }
    where
      go : (p : ℕ) → p < fours + 1 → Dec (p ≡ fours) → 0 < after_fours p kept
      go p l (yes q) = rw q (omega (arith, F.left_is))
      go p l (no n) = F.some_left p (omega arith)

  pub all_fours : {left fours : ℕ} → FoursTo kept left fours → left ≤ 0 → FoursOf kept fours
  all_fours F h = record { none_left = omega (arith, F.left_is); some_left = F.some_left }

  -- where something is left there is one more
  pub fours_more : {left fours n : ℕ} → FoursTo kept left fours → 0 < left → FoursOf kept n → fours < n
  fours_more {left} {fours} {n} F h G = go (dec_lt fours n) (dec_lt n fours)
    where
      go : Dec (fours < n) → Dec (n < fours) → fours < n
      go (yes k) d = k
      go (no k) (yes d) = absurd (omega (arith, G.none_left, F.some_left n d))
      go (no k) (no d) = absurd (let e : fours ≡ n = omega arith in omega (arith, ap (λ (i : ℕ). after_fours i kept) e, F.left_is, G.none_left))

fours_on : (q P : ℕ) → q * P * 4 + P * 4 ≡ (q + 1) * P * 4
fours_on q P = rw (add-one q) (omega (arith, suc-mul q P))

-- ---- counting

-- 514 zeros
pub record Zeros (zs : List ℕ) : Type 0 where
  pub size : length zs ≡ 514
  pub zero_at : (i : ℕ) → get_or zs i 0 ≡ 0

pub record CountTo (steps counts ws : List ℕ) (W kept : ℕ) (ends : List ℕ) (left : ℕ) : Type 0 where
  pub fours : ℕ
  pub fours_to : FoursTo kept left fours
  pub zeros : List ℕ
  pub are_zeros : Zeros zeros
  pub ends_are : ends ≡ bumped 2 (kept_lane steps ws counts W kept) (fours * product counts * 4) zeros

pub count_start : {steps counts ws : List ℕ} {W kept : ℕ} {ends : List ℕ} → Zeros ends → CountTo steps counts ws W kept ends kept
count_start {steps} {counts} {ws} {W} {kept} {ends} Z = record {
  fours = 0;
  fours_to = no_fours;
  zeros = ends;
  are_zeros = Z;
  ends_are = let e : 0 * product counts * 4 ≡ 0 = omega arith in rw e (sym (bumped_none 2 (kept_lane steps ws counts W kept) ends));
}

module _ {steps counts ws : List ℕ} {W kept : ℕ} {g : Groups} (R : ListPre steps counts ws W kept g) (small : kept < 2 ^ 64) {ends : List ℕ} {left : ℕ} (C : CountTo steps counts ws W kept ends left) where
  count_few : (i : ℕ) → get_or ends i 0 ≤ 63 * product counts
  count_few i =
      subst (λ (ns : List ℕ). get_or ns i 0 ≤ 63 * product counts) (sym C.ends_are)
      (omega (arith, bumped_moved 2 (kept_lane steps ws counts W kept) C.zeros (omega arith) C.are_zeros.size (C.fours * product counts * 4) i, C.are_zeros.zero_at i, few_listed R small C.fours))

  count_size : length ends ≡ 514
  count_size = ap length C.ends_are ∙ bumped_size 2 (kept_lane steps ws counts W kept) C.zeros (C.fours * product counts * 4) ∙ C.are_zeros.size

  pub room_for_four : CountRoom ends (g.front * g.back * 4)
  room_for_four = record { size = count_size; fits = λ i. omega (arith, count_few i, codes_are R, codes_few R) }

  pub four_counted : 0 < left → {four high low ends' : List ℕ} {after : ℕ} → four ≡ next_four left → FourAdded steps four counts ws high low W g → ends' ≡ bumped 2 (four_lane high [] g.front g.back) (g.front * g.back * 4) ends → after ≡ without_four left
      → CountTo steps counts ws W kept ends' after
  four_counted some {four} {high} {low} d J e a = record {
    fours = C.fours + 1;
    fours_to = one_four C.fours_to some a;
    zeros = C.zeros;
    are_zeros = C.are_zeros;
    ends_are =
        let f = kept_lane steps ws counts W kept in
        let h = four_lane high [] g.front g.back in
        let n = C.fours * product counts * 4 in
        let m = g.front * g.back * 4 in
        let E = four_lanes R C.fours (d ∙ ap next_four C.fours_to.left_is) J in
        let z : C.fours * product counts * 4 + g.front * g.back * 4 ≡ (C.fours + 1) * product counts * 4 = ap (λ (k : ℕ). C.fours * product counts * 4 + k * 4) (codes_are R) ∙ fours_on C.fours (product counts) in
        e ∙ ap (bumped 2 h m) C.ends_are ∙ bumped_on 2 f h C.zeros n m (equal_alike f (four_lane high low g.front g.back) n m E) ∙ ap (λ (k : ℕ). bumped 2 f k C.zeros) z;
  }

  -- ---- adding up

  sums : (l : ℕ) → l ≤ 512 → sum_to ends (l + 2) ≡ start_of (kept_lane steps ws counts W kept) (C.fours * product counts * 4) l
  unfolding sum_to start_of
  sums zero h =
      let f = kept_lane steps ws counts W kept in
      let n = C.fours * product counts * 4 in
      let a : get_or ends 0 0 ≡ 0 = ap (λ (ns : List ℕ). get_or ns 0 0) C.ends_are ∙ bumped_before 2 f C.zeros n 0 (omega arith) ∙ C.are_zeros.zero_at 0 in
      let b : get_or ends 1 0 ≡ 0 = ap (λ (ns : List ℕ). get_or ns 1 0) C.ends_are ∙ bumped_before 2 f C.zeros n 1 (omega arith) ∙ C.are_zeros.zero_at 1 in
      omega (arith, a, b)
  sums (suc l) h =
      let f = kept_lane steps ws counts W kept in
      let n = C.fours * product counts * 4 in
      let a : get_or ends (l + 2) 0 ≡ count_to f l n = ap (λ (ns : List ℕ). get_or ns (l + 2) 0) C.ends_are ∙ bumped_at 2 f C.zeros (omega arith) C.are_zeros.size n l h ∙ omega (arith, C.are_zeros.zero_at (l + 2)) in
      let e : suc l + 2 ≡ l + 2 + 1 = omega arith in
      ap (sum_to ends) e ∙ sum_next ends (l + 2) ∙ omega (arith, sums l (omega arith), a)

  -- there is no list of another code
  none_behind : (i : ℕ) → g.size * 4 + 2 ≤ i → get_or ends i 0 ≡ 0
  none_behind i h = go (dec_lt i 514)
    where
      f : ℕ → Lane
      f = kept_lane steps ws counts W kept

      go : Dec (i < 514) → get_or ends i 0 ≡ 0
      go (no k) = List·getD-eq-default ends 0 {n = i} (omega (arith, count_size))
      go (yes k) =
          let l = i - 2 in
          let e : i ≡ i - 2 + 2 = omega arith in
          let n = C.fours * product counts * 4 in
          ap (λ (m : ℕ). get_or ends m 0) e
          ∙ ap (λ (ns : List ℕ). get_or ns (i - 2 + 2) 0) C.ends_are
          ∙ bumped_at 2 f C.zeros (omega arith) C.are_zeros.size n (i - 2) (omega arith)
          ∙ omega (arith, C.are_zeros.zero_at (i - 2 + 2), count_none f (i - 2) n (λ m. omega (arith, list_below R m, R.groups.size_is)))

  all_sum : sum_to ends 514 ≤ 63 * product counts
  all_sum =
      let e : sum_to ends 514 ≡ start_of (kept_lane steps ws counts W kept) (C.fours * product counts * 4) 512 = sums 512 (omega arith) in
      omega (arith, e, start_most (kept_lane steps ws counts W kept) (C.fours * product counts * 4) 512, few_listed R small C.fours)

  pub add_pre : AddPre ends (g.size * 4 + 2)
  add_pre = record {
    size = count_size;
    some = omega arith;
    within = omega (arith, R.groups.size_is, codes_few R);
    fits =
        let e : g.size * 4 + 2 + (512 - g.size * 4) ≡ 514 = omega (arith, R.groups.size_is, codes_few R) in
        let m : sum_to ends (g.size * 4 + 2) ≤ sum_to ends 514 = rw e at (sum_mono ends (g.size * 4 + 2) (512 - g.size * 4)) in
        omega (arith, m, all_sum, codes_few R);
  }

  pub counted : left ≤ 0 → {added ends' : List ℕ} → AddedUp ends added (g.size * 4 + 2) → FilledOn added ends' (g.size * 4 + 2) → Counted steps counts ws W kept ends'
  counted h {added} {ends'} A B = record {
    size = B.size;
    fours = C.fours;
    fours_are = all_fours C.fours_to h;
    first = sum 0 (omega arith) ∙ first_sum_lem;
    starts = λ l k. let e : l + 1 + 1 ≡ l + 2 = omega arith in sum (l + 1) (omega arith) ∙ ap (sum_to ends) e ∙ sums l k;
    few = omega (arith, sum 513 (omega arith), all_sum);
  }
    where
      sum : (i : ℕ) → i < 514 → get_or ends' i 0 ≡ sum_to ends (i + 1)
      sum = all_added (omega arith) none_behind A B

      first_sum_lem : sum_to ends (0 + 1) ≡ 0
      first_sum_lem =
          let z : get_or ends 0 0 ≡ 0 = ap (λ (ns : List ℕ). get_or ns 0 0) C.ends_are ∙ bumped_before 2 (kept_lane steps ws counts W kept) C.zeros (C.fours * product counts * 4) 0 (omega arith) ∙ C.are_zeros.zero_at 0 in
          sum_next ends 0 ∙ omega (arith, z, sum_none ends)

-- ---- writing

pub record ListTo (steps counts ws : List ℕ) (W kept : ℕ) (es ns entries ends : List ℕ) (left : ℕ) : Type 0 where
  pub fours : ℕ
  pub fours_to : FoursTo kept left fours
  pub entries_are : entries ≡ placed (kept_lane steps ws counts W kept) (fours * product counts * 4) es ns
  pub ends_are : ends ≡ bumped 1 (kept_lane steps ws counts W kept) (fours * product counts * 4) ns

pub list_start : {steps counts ws : List ℕ} {W kept : ℕ} {es ns : List ℕ} → ListTo steps counts ws W kept es ns es ns kept
list_start {steps} {counts} {ws} {W} {kept} {es} {ns} = record {
  fours = 0;
  fours_to = no_fours;
  entries_are = let e : 0 * product counts * 4 ≡ 0 = omega arith in rw e (sym (placed_none (kept_lane steps ws counts W kept) es ns));
  ends_are = let e : 0 * product counts * 4 ≡ 0 = omega arith in rw e (sym (bumped_none 1 (kept_lane steps ws counts W kept) ns));
}

pub starts_of : {steps counts ws : List ℕ} {W kept : ℕ} {es ns : List ℕ} → (C : Counted steps counts ws W kept ns) → get_or ns 513 0 ≤ length es → Starts (kept_lane steps ws counts W kept) (C.fours * product counts * 4) es ns
starts_of C room = record { size = C.size; first = C.first; start = C.starts; room = omega (arith, C.starts 512 (omega arith)) }

module _ {steps counts ws : List ℕ} {W kept : ℕ} {g : Groups} (R : ListPre steps counts ws W kept g) {es ns : List ℕ} (C : Counted steps counts ws W kept ns) (room : get_or ns 513 0 ≤ length es)
    {entries ends : List ℕ} {left : ℕ} (L : ListTo steps counts ws W kept es ns entries ends left) where
  all_room : EntryRoom (kept_lane steps ws counts W kept) (C.fours * product counts * 4) es ns
  all_room =
      let f = kept_lane steps ws counts W kept in
      let n = C.fours * product counts * 4 in
      record {
        size = C.size;
        codes = λ i h. omega (arith, mod-lt (i / 4) (codes_some R), codes_few R);
        room = λ l h. omega (arith, room, C.starts l (omega arith), start_next f n l, start_order f n (l + 1) 512 (omega arith), C.starts 512 (omega arith));
        fits = λ l h. omega (arith, C.few, codes_few R, C.starts l (omega arith), start_next f n l, start_order f n (l + 1) 512 (omega arith), C.starts 512 (omega arith));
      }

  module _ (some : 0 < left) {four high low : List ℕ} (d : four ≡ next_four left) (J : FourAdded steps four counts ws high low W g) where
    its_lanes : (j : ℕ) → j < g.front * g.back * 4 → kept_lane steps ws counts W kept (L.fours * product counts * 4 + j) ≡ four_lane high low g.front g.back j
    its_lanes = four_lanes R L.fours (d ∙ ap next_four L.fours_to.left_is) J

    pub room_to_list : EntryRoom (four_lane high low g.front g.back) (g.front * g.back * 4) entries ends
    room_to_list =
        entry_next (kept_lane steps ws counts W kept) (four_lane high low g.front g.back) (L.fours * product counts * 4) (g.front * g.back * 4) (C.fours * product counts * 4) enough L.entries_are L.ends_are its_lanes all_room
      where
        enough : L.fours * product counts * 4 + g.front * g.back * 4 ≤ C.fours * product counts * 4
        enough = omega (arith, codes_are R, suc-mul L.fours (product counts), mul-le-mul_right (product counts) (fours_more L.fours_to some C.fours_are))

    pub four_listed : {entries' ends' : List ℕ} {after : ℕ} → entries' ≡ placed (four_lane high low g.front g.back) (g.front * g.back * 4) entries ends → ends' ≡ bumped 1 (four_lane high low g.front g.back) (g.front * g.back * 4) ends
        → after ≡ without_four left → ListTo steps counts ws W kept es ns entries' ends' after
    four_listed p q a =
        let f = kept_lane steps ws counts W kept in
        let h = four_lane high low g.front g.back in
        let n = L.fours * product counts * 4 in
        let m = g.front * g.back * 4 in
        let u = L.entries_are in
        let v = L.ends_are in
        let z : L.fours * product counts * 4 + g.front * g.back * 4 ≡ (L.fours + 1) * product counts * 4 = ap (λ (k : ℕ). L.fours * product counts * 4 + k * 4) (codes_are R) ∙ fours_on L.fours (product counts) in
        record {
          fours = L.fours + 1;
          fours_to = one_four L.fours_to some a;
          entries_are = p ∙ (λ i. placed h m (u i) (v i)) ∙ placed_on f h es ns n m its_lanes ∙ ap (λ (k : ℕ). placed f k es ns) z;
          ends_are = q ∙ ap (bumped 1 h m) v ∙ bumped_on 1 f h ns n m (equal_alike f h n m its_lanes) ∙ ap (λ (k : ℕ). bumped 1 f k ns) z;
        }

-- ---- arrays of zeros

pub zeros_of : (xs : List ℕ) {zs : List ℕ} → length xs ≡ 514 → zs ≡ replicate (length xs) 0 → Zeros zs
zeros_of xs e z = record { size = ap length z ∙ length-replicate {A = ℕ} (length xs) 0 ∙ e; zero_at = λ i. ap (λ (l : List ℕ). get_or l i 0) z ∙ zero_in (length xs) i (dec_lt i (length xs)) }
  where
    zero_in : (n i : ℕ) → Dec (i < n) → ◌≡◌ {A = ℕ} (get_or (replicate n 0) i 0) 0
    zero_in n i (yes h) = get_or-replicate {A = ℕ} n i 0 0 h
    zero_in n i (no h) = List·getD-eq-default (replicate {A = ℕ} n 0) 0 {n = i} (omega (arith, length-replicate {A = ℕ} n 0))
