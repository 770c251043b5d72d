-- Trying joint steps: a lane, four lanes of a code, the codes of a position.
use Rattle.std.specs.Prelude.{◌≡◌, ◌⊎◌, ◌≢◌, ◌+◌, ◌*◌, ◌/◌, ◌%◌, ◌^◌, ◌≤◌, ◌<◌}
use Rattle.basics.proofs.Words.{refl, sym, ◌∙◌, ap, subst, Bool, false, List, none, some, inl, inr, ℕ, suc, arith, length, get_or, add-zero, mod-lt, mul-add-div_right, mul-add-mod_self_right, div-eq_of_lt, mod-eq_of_lt, suc-mul, mul-le-mul_right, div-lt_iff_lt-mul, dec_lt, lt-ltb, le-ltb}
use Rattle.machine.specs.declared.Pair.{Pair}
use Rattle.cells.specs.Cells.{nowhere}
use Rattle.insertions.specs.Tables.{LanesPre}
use Rattle.stage_entering.specs.declared.Site.{Site}
use Rattle.stage.specs.StageLabels.{stage_label}
use Rattle.stage_entering.specs.Relaxation.{relaxes_nothing, relaxes_then}
use Rattle.stage.specs.Relaxing.{ArcPre, ArcTried, nothing, arc}
use Rattle.stage_entering.specs.Entering.{marks_by, FrontCounts, BehindFront, lane_step, lane_ending, TargetsPre, LanePre, CodePre, codes_at, FourPre, LaneTried, LanesOf, LanesTried, FoursOf, CodesTried}
use Rattle.stage.proofs.Trying.{StepFacts}
use Rattle.stage_entering.proofs.Relaxing.{step_facts, step_falls, step_relaxes, entry_kept}
use Rattle.stage_entering.proofs.Front.{ahead_kept, lane_dearer}

-- ---- the two numbers of a step or an ending

pub lane_none : (h l : ℕ) → nowhere ≤ h → lane_step h l ≡ none
unfolding lane_step
lane_none h l k = rw (le-ltb h nowhere k)

pub lane_some : (h l : ℕ) → h < nowhere → lane_step h l ≡ some (h % 128, marks_by h l)
unfolding lane_step
lane_some h l k = rw (lt-ltb h nowhere k)

pub ending_none : (h l : ℕ) → nowhere ≤ h → lane_ending h l ≡ none
unfolding lane_ending
ending_none h l k = rw (le-ltb h nowhere k)

pub ending_some : (h l : ℕ) → h < nowhere → lane_ending h l ≡ some (marks_by h l)
unfolding lane_ending
ending_some h l k = rw (lt-ltb h nowhere k)

pub marks_small : (h l : ℕ) → marks_by h l < 16777216
marks_small h l = omega arith

-- ---- a lane

pub lane_arc : {xs ahead : List ℕ} {step rest goal u t k m : ℕ} → LanePre xs ahead step rest goal u t k → m < 16777216 → ArcPre xs u (t + step % 128) m k
lane_arc {step = step} {t = t} Q h = record {
  node = omega (arith, Q.given.apart, Q.given.targets);
  target = omega (arith, Q.leads, Q.given.targets);
  marks = omega arith;
  stage = Q.given.stage;
  fits = λ d l. Q.given.fits (t + step % 128) d (omega arith) (omega (arith, Q.leads)) l;
}

pub lane_nothing : {xs : List ℕ} {step rest u t k : ℕ} → nowhere ≤ step → LaneTried xs xs step rest u t k
lane_nothing {step = step} {rest = rest} h = record { lower = false; tried = nothing (lane_none step rest h) refl refl }

-- by the first look
pub lane_passed : {xs ahead : List ℕ} {step rest goal u t k s : ℕ} → LanePre xs ahead step rest goal u t k → step < nowhere → BehindFront k s → goal < step / 2 ^ s + get_or ahead (step % 128) 0 → LaneTried xs xs step rest u t k
lane_passed {step = step} {rest = rest} Q h B g = record { lower = false; tried = arc (step % 128) (marks_by step rest) (lane_some step rest h) (lane_dearer Q (marks_small step rest) h B g) }

pub lane_tried : {xs ys : List ℕ} {step rest u t k m : ℕ} {r : Bool} → step < nowhere → m ≡ marks_by step rest → ArcTried xs ys u (t + step % 128) m k r → LaneTried xs ys step rest u t k
lane_tried {step = step} {rest = rest} {m = m} {r = r} h e T = record { lower = r; tried = arc (step % 128) m (lane_some step rest h ∙ (λ i. some (step % 128, sym e i))) T }

-- ---- four lanes of a code

pub lanes_start : {xs high low : List ℕ} {a b u t k : ℕ} → LanesTried xs xs high low a b u t k 0
lanes_start {u = u} = record { size = refl; counts = λ i w h. refl; others = λ w n. refl; falls = λ w c m. m; relaxes = λ S p E A. relaxes_nothing S A (LanesOf p u 0) (λ w q z. omega (arith, z.1.1)) }

pub lanes_next : {xs ys zs high low : List ℕ} {a b u t k n : ℕ} → LanesTried xs ys high low a b u t k n → LaneTried ys zs (get_or high (a + n) 0 + get_or high (b + n) 0) (get_or low (a + n) 0 + get_or low (b + n) 0) u t k → LanesTried xs zs high low a b u t k (n + 1)
lanes_next {xs} {ys} {zs} {high} {low} {a} {b} {u} {t} {k} {n} L T = record {
  size = F.size ∙ L.size;
  counts = λ i w h. F.counts i w h ∙ L.counts i w h;
  others = λ w d. F.others w d ∙ L.others w d;
  falls = λ w c m. step_falls T.tried w c (L.falls w c m);
  relaxes = λ S p E A.
      let R = L.relaxes S p (λ j h. E j (omega arith)) A in
      relaxes_then S R (step_relaxes S (entry_kept L.counts (E n (omega arith))) R.attained T.tried) (LanesOf p u (n + 1)) (λ w q z. pick p w q z (dec_lt z.1.0 n));
}
  where
    F : StepFacts ys zs k u T.lower
    F = step_facts T.tried

    pick : (p : ℕ → Pair) (w : ℕ) (q : Pair) (z : LanesOf p u (n + 1) w q) → Dec (z.1.0 < n) → LanesOf p u n w q ⊎ ((w ≡ u) × (q ≡ p n))
    pick p w q z (yes h) = inl (z.0, (z.1.0, h, z.1.2))
    pick p w q z (no h) = let e : z.1.0 ≡ n = omega (arith, z.1.1) in inr (z.0, z.1.2 ∙ ap p e)

pub targets_kept : {xs ys : List ℕ} {u t P k : ℕ} → length ys ≡ length xs → ((w : ℕ) → w ≢ u → stage_label ys k w ≡ stage_label xs k w) → TargetsPre xs u t P k → TargetsPre ys u t P k
targets_kept e f Q = record { apart = Q.apart; targets = omega (arith, e, Q.targets); few = Q.few; stage = Q.stage; fits = λ v d a b l. Q.fits v d a b (sym (f v (omega (arith, Q.apart))) ∙ l) }

pub lane_ready : {xs ys ahead high low : List ℕ} {a b u t k j goal : ℕ} → CodePre xs ahead high low a b u t k → FrontCounts xs k u goal → LanesTried xs ys high low a b u t k j → j < 4
    → LanePre ys ahead (get_or high (a + j) 0 + get_or high (b + j) 0) (get_or low (a + j) 0 + get_or low (b + j) 0) goal u t k
lane_ready {xs} {j = j} Q G L h = record {
  codes = Q.codes;
  given = targets_kept L.size L.others Q.given;
  some_code = Q.some_code;
  leads = Q.leads j h;
  marks = Q.marks j h;
  start = xs;
  goal_is = G;
  ahead_is = Q.ahead_is;
  counts = L.counts;
  others = L.others;
  falls = L.falls;
}

-- the first lane, whose places are those of the four
pub lane_first : {xs ahead high low : List ℕ} {a b u t k goal : ℕ} → CodePre xs ahead high low a b u t k → FrontCounts xs k u goal → LanePre xs ahead (get_or high a 0 + get_or high b 0) (get_or low a 0 + get_or low b 0) goal u t k
lane_first {a = a} {b = b} Q F = rw (add-zero a, add-zero b) at (lane_ready {j = 0} Q F lanes_start (omega arith))

pub lanes_first : {xs ys high low : List ℕ} {a b u t k : ℕ} → LaneTried xs ys (get_or high a 0 + get_or high b 0) (get_or low a 0 + get_or low b 0) u t k → LanesTried xs ys high low a b u t k 1
lanes_first {a = a} {b = b} T = lanes_next {n = 0} lanes_start (rw (add-zero a, add-zero b) T)

pub first_sum_lem : {table : List ℕ} {a b : ℕ} → LanesPre table a b → get_or table a 0 + get_or table b 0 < 2 ^ 64
first_sum_lem {a = a} {b = b} P = rw (add-zero a, add-zero b) at (P.sums 0 (omega arith))

-- ---- the codes of a position

pub codes_next : {xs ys zs high low : List ℕ} {front back k b t n : ℕ} → CodesTried xs ys high low front back k b t n → LanesTried ys zs high low (n / back * 4) ((front + n % back) * 4) (b + n) t k 4 → CodesTried xs zs high low front back k b t (n + 1)
codes_next {xs} {ys} {zs} {high} {low} {front} {back} {k} {b} {t} {n} C L = record {
  size = L.size ∙ C.size;
  counts = λ i w h. L.counts i w h ∙ C.counts i w h;
  others = λ w d. L.others w (away w d) ∙ C.others w (before w d);
  relaxes = λ S p E A.
      let R = C.relaxes S p (λ c j h. E c j (omega arith)) A in
      relaxes_then S R (L.relaxes S p (λ j h. entry_kept C.counts (E n j (omega arith) h)) R.attained) (FoursOf p b (n + 1)) (λ w q z. pick p w q z (dec_lt w (b + n)));
}
  where
    away : (w : ℕ) → (w < b) ⊎ (b + (n + 1) ≤ w) → w ≢ b + n
    away w (inl h) = omega arith
    away w (inr h) = omega arith

    before : (w : ℕ) → (w < b) ⊎ (b + (n + 1) ≤ w) → (w < b) ⊎ (b + n ≤ w)
    before w (inl h) = inl h
    before w (inr h) = inr (omega arith)

    pick : (p : ℕ → Pair) (w : ℕ) (q : Pair) → FoursOf p b (n + 1) w q → Dec (w < b + n) → FoursOf p b n w q ⊎ LanesOf p (b + n) 4 w q
    pick p w q z (yes h) = inl (z.0, h, z.2)
    pick p w q z (no h) = inr (omega (arith, z.1), z.2)

pub codes_end : {xs ys high low : List ℕ} {front back k b t i n : ℕ} → CodesTried xs ys high low front back k b t i → i ≡ n → CodesTried xs ys high low front back k b t n
codes_end {xs} {ys} {high} {low} {front} {back} {k} {b} {t} C q = subst (λ (j : ℕ). CodesTried xs ys high low front back k b t j) q C

-- what a code is tried with
pub record CodePlaces (code front back : ℕ) : Type 0 where
  pub front_is : code / back < front
  pub back_is : code % back < back

pub code_places : {xs ahead high low : List ℕ} {at : Site} → FourPre xs ahead high low at → (code : ℕ) → code < codes_at at → CodePlaces code at.groups.front at.groups.back
code_places Q code h = record { front_is = (div-lt_iff_lt-mul Q.some_back).1 (omega (arith, h, Q.size_is)); back_is = mod-lt code Q.some_back }

pub code_ready : {xs ys ahead high low : List ℕ} {at : Site} {n : ℕ} → FourPre xs ahead high low at → CodesTried xs ys high low at.groups.front at.groups.back at.stage at.base (at.base + codes_at at) n → n < codes_at at
    → CodePre ys ahead high low (n / at.groups.back * 4) ((at.groups.front + n % at.groups.back) * 4) (at.base + n) (at.base + codes_at at) at.stage
code_ready {xs} {ys} {ahead} {high} {low} {at} {n} Q C h = record {
  codes = codes_at at;
  given = record {
    apart = omega arith;
    targets = omega (arith, C.size, Q.given.nodes);
    few = Q.given.few;
    stage = Q.given.stage;
    fits = λ v d a b l. Q.given.fits v d a b (sym (C.others v (inr (omega arith))) ∙ l);
  };
  some_code = omega arith;
  leads = λ j k. Q.leads n j h k;
  marks = λ j k. Q.marks n j h k;
  ahead_is = ahead_kept C.counts (λ w l. C.others w (inr (omega arith))) Q.ahead_is;
  highs = record { few = omega (arith, Q.small, r.front_is, r.back_is); room = omega (arith, Q.high_room, r.front_is, r.back_is); sums = λ j k. Q.high_sums n j h k };
  lows = record { few = omega (arith, Q.small, r.front_is, r.back_is); room = omega (arith, Q.low_room, r.front_is, r.back_is); sums = λ j k. Q.low_sums n j h k };
}
  where
    r : CodePlaces n at.groups.front at.groups.back
    r = code_places Q n h

-- the places of a code in either group
pub record AtPlaces (code back a b : ℕ) : Type 0 where
  pub is : code ≡ a * back + b
  pub within : b < back

pub at_places : (back a b : ℕ) → b < back → AtPlaces (a * back + b) back a b
at_places back a b h = record { is = refl; within = h }

-- it is a code of the position
pub places_below : {front back a b n : ℕ} → n ≡ front * back → a < front → b < back → a * back + b < n
places_below {front} {back} {a} {b} e h k = let m : suc a * back ≤ front * back = mul-le-mul_right back h in omega (arith, m, suc-mul a back, e)

module _ {code back a b : ℕ} (A : AtPlaces code back a b) where
  pub at_front_lem : code / back ≡ a
  at_front_lem = let some : 0 < back = omega (arith, A.within) in ap (λ (n : ℕ). n / back) A.is ∙ mul-add-div_right some a b ∙ ap (λ (n : ℕ). a + n) (div-eq_of_lt A.within) ∙ omega arith

  pub at_back : code % back ≡ b
  at_back = ap (λ (n : ℕ). n % back) A.is ∙ mul-add-mod_self_right a back b ∙ mod-eq_of_lt A.within

pub code_at : (front : ℕ) {ys ahead high low : List ℕ} {code back a b u t k : ℕ} → AtPlaces code back a b → CodePre ys ahead high low (code / back * 4) ((front + code % back) * 4) u t k → CodePre ys ahead high low (a * 4) ((front + b) * 4) u t k
code_at front {ys} {ahead} {high} {low} {code} {back} {a} {b} {u} {t} {k} A Q =
    subst (λ (n : ℕ). CodePre ys ahead high low (a * 4) ((front + n) * 4) u t k) (at_back A) (subst (λ (n : ℕ). CodePre ys ahead high low (n * 4) ((front + code % back) * 4) u t k) (at_front_lem A) Q)

pub lanes_at : (front : ℕ) {ys zs high low : List ℕ} {code back a b u t k : ℕ} → AtPlaces code back a b → LanesTried ys zs high low (a * 4) ((front + b) * 4) u t k 4 → LanesTried ys zs high low (code / back * 4) ((front + code % back) * 4) u t k 4
lanes_at front {ys} {zs} {high} {low} {code} {back} {a} {b} {u} {t} {k} A L =
    subst (λ (n : ℕ). LanesTried ys zs high low (n * 4) ((front + code % back) * 4) u t k 4) (sym (at_front_lem A)) (subst (λ (n : ℕ). LanesTried ys zs high low (a * 4) ((front + n) * 4) u t k 4) (sym (at_back A)) L)
