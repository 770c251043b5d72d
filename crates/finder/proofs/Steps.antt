-- How the finder goes on from place to place. Assumes nothing.
use Rattle.std.specs.Prelude.{◌≡◌, ◌&&◌, ◌||◌, ◌∷◌, ◌++◌, ◌+◌, ◌-◌, ◌<◌, ◌≤◌}
use Rattle.basics.proofs.Words.{refl, sym, ◌∙◌, ap, ap₂, Bool, true, false, not, List, [], append-nil, Option, some, none, Option·map, ℕ, suc, arith, length, take, drop, set, replicate, length-set, take-append-drop, eqb, lit<, append_snoc, take-suc-set, drop-set-lt, drop-drop, add-one, those, first_that, numbers_below, member, eq-eqb, ne_eqb, not-true, clash, fails, both, left, right, neither, left_fails, right_fails, same, first_member, numbers_member, no_member}
use Rattle.refusals.specs.Refusals.{refuse, first_of}
use Rattle.refusals.proofs.Refusals.{passed, none_first}
use Rattle.ranking.specs.declared.Condition.{Condition}
use Rattle.ranking.specs.Rankings.{is_machine_count}
use Rattle.ranking.specs.Lemmas.Rankings.{machine_count_lem}
use Rattle.finder.specs.declared.Finding.{Finding}
use Rattle.finder.specs.Finder.{disjoint, sound_list, smallest, finding_of}
use Rattle.finder.specs.Steps.{may_stand, next_machine}
use Rattle.ranking.specs.Lemmas.Searches.{count_on, count_found, first_same, first_those, all_those, all_same, those_in, those_those, those_same}
use Rattle.ranking.specs.Lemmas.Arrangements.{without}
use Rattle.finder.proofs.Demotion.{free, still, demotion, demotion_stops, demotion_goes}
use Rattle.finder.proofs.Sets.{disjoint_at, at_disjoint}

-- the machine is not placed and may stand
abbrev pub next : List Condition → ℕ → ℕ → Bool
next cs placed m = not (member placed m) && may_stand cs placed m

module _ (cs : List Condition) (placed : ℕ) where
  pub next_start : next_machine 0 cs placed ≡ none
  unfolding next_machine numbers_below first_that
  next_start = refl

  pub next_on : (n : ℕ) → next_machine n cs placed ≡ none → next cs placed n ≡ false → next_machine (n + 1) cs placed ≡ none
  unfolding next_machine
  next_on n h t = count_on (next cs placed) n h t

  pub next_found : (K n : ℕ) → n < K → next_machine n cs placed ≡ none → next cs placed n ≡ true → next_machine K cs placed ≡ some n
  unfolding next_machine
  next_found K n l h t = count_found (next cs placed) K n l h t

-- the machine for the next place is one of the K
pub next_below : (K : ℕ) (cs : List Condition) (placed : ℕ) {m : ℕ} → next_machine K cs placed ≡ some m → m < K
unfolding next_machine
next_below K cs placed e = numbers_member K (first_member (next cs placed) (numbers_below K) e)

-- the machines that are not placed, and the conditions that no placed machine decides
abbrev pub remaining : ℕ → ℕ → List ℕ
remaining K placed = those (λ x. not (member placed x)) (numbers_below K)

abbrev pub undecided : ℕ → List Condition → List Condition
undecided placed cs = those (λ c. disjoint c.fewer placed) cs

all_those_pass : {A : Type 0} (f : A → Bool) (xs : List A) → ((x : A) → f x ≡ true) → those f xs ≡ xs
unfolding those
all_those_pass f [] h = refl
all_those_pass f (x ∷ xs) h = those_in f xs (h x) ∙ ap (λ l. x ∷ l) (all_those_pass f xs h)

remaining_start : (K : ℕ) → remaining K 0 ≡ numbers_below K
remaining_start K = all_those_pass (λ x. not (member 0 x)) (numbers_below K) (λ x. ap not (no_member x))

undecided_start : (cs : List Condition) → undecided 0 cs ≡ cs
undecided_start cs = all_those_pass (λ c. disjoint c.fewer 0) cs (λ c. at_disjoint c.fewer 0 (λ i h m. no_member i))

not_both : (a b : Bool) → (not a || not b) ≡ not (a && b)
not_both true b = refl
not_both false b = refl

not_either : (a b : Bool) → (not a && not b) ≡ not (a || b)
not_either true b = refl
not_either false b = refl

-- the next machine is the first that remains and is free
next_free : (K : ℕ) (cs : List Condition) (placed : ℕ) → next_machine K cs placed ≡ first_that (free (undecided placed cs)) (remaining K placed)
unfolding next_machine
next_free K cs placed =
    sym
    (first_those (free (undecided placed cs)) (λ x. not (member placed x)) (numbers_below K)
    ∙ first_same (numbers_below K)
    (λ m i.
    ap (λ (b : Bool). not (member placed m) && b)
    (all_those (λ c. not (member c.more m)) (λ c. disjoint c.fewer placed) cs
    ∙ all_same cs (λ c j. not_both (disjoint c.fewer placed) (member c.more m)))))

-- a machine more is placed
module _ (placed after m : ℕ) (h : m < 8) (more : (n : ℕ) → member after n ≡ (member placed n || eqb n m)) where
  remaining_next : (K : ℕ) → remaining K after ≡ without m (remaining K placed)
  remaining_next K =
      sym
      (those_those (λ x. not (eqb x m)) (λ x. not (member placed x)) (numbers_below K)
      ∙ those_same (numbers_below K) (λ n. not_either (member placed n) (eqb n m) ∙ ap not (sym (more n))))

  disjoint_after : (w : ℕ) → (disjoint w placed && not (member w m)) ≡ disjoint w after
  disjoint_after w =
      same (disjoint w placed && not (member w m)) (disjoint w after)
      (λ t.
      at_disjoint w after
      (λ i l wi.
      more i
      ∙ neither (disjoint_at w placed (left (disjoint w placed) (not (member w m)) t) i l wi)
      (ne_eqb i m
      (λ e. clash (ap (member w) (sym e) ∙ wi) (not-true (member w m) (right (disjoint w placed) (not (member w m)) t))))))
      (λ t.
      both (at_disjoint w placed (λ i l wi. left_fails (member placed i) (eqb i m) (sym (more i) ∙ disjoint_at w after t i l wi)))
      (ap not
      (fails (member w m)
      (λ wm. clash (eq-eqb m m refl) (right_fails (member placed m) (eqb m m) (sym (more m) ∙ disjoint_at w after t m h wm))))))

  undecided_next : (cs : List Condition) → undecided after cs ≡ still m (undecided placed cs)
  undecided_next cs =
      sym
      (those_those (λ c. not (member c.fewer m)) (λ c. disjoint c.fewer placed) cs ∙ those_same cs (λ c. disjoint_after c.fewer))

-- what is found with the places filled already before it
abbrev pub onto : List ℕ → Option (List ℕ) → Option (List ℕ)
onto front o = Option·map (λ r. front ++ r) o

-- the places filled so far, from the highest down: with what demotion puts into the others they are what it gives in all
pub record Filled (K : ℕ) (cs : List Condition) (ranking : List ℕ) (placed place : ℕ) : Type 0 where
  pub within : place ≤ K
  pub size : length ranking ≡ 6
  pub unfilled : drop place ranking ≡ replicate (6 - place) 0
  pub whole : onto (take place ranking) (demotion (K - place) (remaining K placed) (undecided placed cs)) ≡ demotion K (numbers_below K) cs

pub filled_start : (K : ℕ) (cs : List Condition) → Filled K cs (replicate 6 0) 0 0
filled_start K cs =
    record {
      within = omega arith;
      size = refl;
      unfilled = refl;
      whole =
          nothing_before (demotion (K - 0) (remaining K 0) (undecided 0 cs))
          ∙ ap (λ (n : ℕ). demotion n (remaining K 0) (undecided 0 cs)) (omega arith)
          ∙ ap₂ (demotion K) (remaining_start K) (undecided_start cs);
    }
  where
    nothing_before : (o : Option (List ℕ)) → onto [] o ≡ o
    nothing_before none = refl
    nothing_before (some r) = refl

module _ {K : ℕ} {cs : List Condition} {ranking : List ℕ} {placed place : ℕ} (F : Filled K cs ranking placed place) where
  -- the next machine takes its place
  pub filled_next : K ≤ 6 → place < K → (m after : ℕ) → next_machine K cs placed ≡ some m → ((n : ℕ) → member after n ≡ (member placed n || eqb n m))
      → Filled K cs (set ranking place m) after (place + 1)
  filled_next k h m after e more =
      let n = K - (place + 1) in
      let left : K - place ≡ suc n = omega arith in
      let R = remaining K placed in
      let U = undecided placed cs in
      let m_below : m < 8 = omega (arith, next_below K cs placed e) in
      let rest = demotion n (remaining K after) (undecided after cs) in
      let headed : demotion (K - place) R U ≡ Option·map (λ r. m ∷ r) rest =
      ap (λ (i : ℕ). demotion i R U) left
      ∙ demotion_goes n R U (sym (next_free K cs placed) ∙ e)
      ∙ ap (Option·map (λ (r : List ℕ). m ∷ r))
      (ap₂ (demotion n) (sym (remaining_next placed after m m_below more K)) (sym (undecided_next placed after m m_below more cs)))
      in record {
        within = omega arith;
        size = length-set ranking place m ∙ F.size;
        unfilled =
            drop-set-lt (place + 1) ranking place m (omega arith)
            ∙ sym (drop-drop 1 place ranking)
            ∙ ap (drop 1) F.unfilled
            ∙ ap (λ (i : ℕ). drop 1 (replicate i 0)) (suc_left (omega arith));
        whole =
            ap (λ (i : ℕ). onto (take i (set ranking place m)) rest) (add-one place)
            ∙ ap (λ (front : List ℕ). onto front rest) (take-suc-set ranking place m (omega (arith, F.size)))
            ∙ after_front (take place ranking) m rest
            ∙ ap (onto (take place ranking)) (sym headed)
            ∙ F.whole;
      }
    where
      suc_left : place < 6 → 6 - place ≡ suc (6 - (place + 1))
      suc_left q = omega arith

      after_front : (front : List ℕ) (m : ℕ) (o : Option (List ℕ)) → onto (front ++ (m ∷ [])) o ≡ onto front (Option·map (λ r. m ∷ r) o)
      after_front front m none = refl
      after_front front m (some r) = ap some (append_snoc front m r)

  -- no machine may stand at the next place
  pub filled_stops : place < K → next_machine K cs placed ≡ none → demotion K (numbers_below K) cs ≡ none
  filled_stops h e =
      let n = K - (place + 1) in
      let left : K - place ≡ suc n = omega arith in
      let R = remaining K placed in
      let U = undecided placed cs in
      sym F.whole
      ∙ ap (onto (take place ranking)) (ap (λ (i : ℕ). demotion i R U) left ∙ demotion_stops n R U (sym (next_free K cs placed) ∙ e))

  -- all places are filled
  pub filled_end : K ≤ place → demotion K (numbers_below K) cs ≡ some (take K ranking)
  unfolding demotion
  filled_end h =
      let none_left : K - place ≡ 0 = omega arith in
      let all : place ≡ K = omega (arith, F.within) in
      sym F.whole
      ∙ ap (λ (i : ℕ). onto (take place ranking) (demotion i (remaining K placed) (undecided placed cs))) none_left
      ∙ ap some (append-nil (take place ranking) ∙ ap (λ (i : ℕ). take i ranking) all)

  -- the answer where all places are filled
  pub filled_answer : K ≤ place → smallest K cs ≡ demotion K (numbers_below K) cs → ◌≡◌ {A = Finding} (record { number = 0; ranking = ranking }) (finding_of K (smallest K cs))
  filled_answer h e =
      let all : place ≡ K = omega (arith, F.within) in
      let rest : drop K ranking ≡ replicate (6 - K) 0 = ap (λ (i : ℕ). drop i ranking) (sym all) ∙ F.unfilled ∙ ap (λ (i : ℕ). replicate (6 - i) 0) all in
      let q : ranking ≡ take K ranking ++ replicate (6 - K) 0 = sym (take-append-drop K ranking) ∙ ap (λ (l : List ℕ). take K ranking ++ l) rest in
      ap {B = Finding} (λ (l : List ℕ). record { number = 0; ranking = l }) q ∙ sym (ap (finding_of K) (e ∙ filled_end h))

-- what a call knows that passed refusals 1 and 15
pub passed_checks : (K : ℕ) (l : List ℕ) → first_of (refuse 1 (is_machine_count K) ∷ refuse 15 (sound_list K l) ∷ []) ≡ 0 → (K ≤ 6) × (sound_list K l ≡ true)
passed_checks K l e =
    let first = none_first (refuse 1 (is_machine_count K)) (refuse 15 (sound_list K l) ∷ []) e in
    let second = none_first (refuse 15 (sound_list K l)) [] first.1 in
    ((machine_count_lem K (passed 1 (is_machine_count K) (lit< tt) first.0)).most, passed 15 (sound_list K l) (lit< tt) second.0)
