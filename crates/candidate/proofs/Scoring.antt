-- The machines of an accepted card by their numbers, and a profile by its places. Assumes nothing.
use Rattle.std.specs.Prelude.{◌≡◌, ◌++◌, ◌+◌, ◌-◌, ◌<◌, ◌≤◌}
use Rattle.basics.proofs.Words.{refl, sym, ap, ◌∙◌, Bool, true, false, List, [], Option, some, none, ℕ, arith, length, get_or, set, replicate, length-set, length-append, length-replicate, length-map, get_or-replicate, List·getD-append, List·getD-eq-default, ext_get_or, get_or-append-add, get_or-set_same, get_or-set_other, dec_lt, ℕ_discrete, all_of, clash, fails, all_at, each_at, map_at}
use Rattle.machine.specs.declared.Pair.{Pair}
use Rattle.machine.specs.Machine.{Machine}
use Rattle.machine.specs.Part.{machine_of}
use Rattle.ranking.specs.declared.Profile.{Profile}
use Rattle.card.specs.Layout.{machine_count, part_of}
use Rattle.card.specs.Card.{machines_of}
use Rattle.card.specs.Laws.Machines.{length_machines, machine_at_lem}
use Rattle.candidate.specs.Candidates.{marks_of, is_some, count_of, is_complete, profile_of}
use Rattle.candidate.specs.Evaluating.{profile_with}

-- 0 times 0 is 0 everywhere, past its end too
zeros : (n i : ℕ) → ◌≡◌ {A = ℕ} (get_or (replicate n 0) i 0) 0
zeros n i = go (dec_lt i n)
  where
    go : Dec (i < n) → ◌≡◌ {A = ℕ} (get_or (replicate n 0) i 0) 0
    go (yes h) = get_or-replicate n i 0 0 h
    go (no h) = List·getD-eq-default (replicate n 0) 0 (rw length-replicate (omega arith))

-- what the machines below n say of a candidate, in the places of a profile; the places from n on are 0
pub record ScoredBelow (card : List ℕ) (c : List Pair) (n : ℕ) (counts : List ℕ) : Type 0 where
  pub size : length counts ≡ 6
  pub scored : (i : ℕ) → i < n → marks_of c (machine_of (part_of card i)) ≡ some (get_or counts i 0)
  pub unused : (i : ℕ) → n ≤ i → get_or counts i 0 ≡ 0

module _ (card : List ℕ) (c : List Pair) where
  -- a machine that does not complete it
  pub not_complete : (i : ℕ) → i < machine_count card → marks_of c (machine_of (part_of card i)) ≡ none → is_complete (machines_of card) c ≡ false
  unfolding is_complete
  not_complete i h e =
      let ms = machines_of card in
      let f : Machine → Bool = λ m. is_some (marks_of c m) in
      let q : f (get_or ms i (machine_of [])) ≡ false = ap f (machine_at_lem card i h (machine_of [])) ∙ ap {A = Option ℕ} is_some e in
      fails (all_of f ms) (λ t. clash (all_at f ms (machine_of []) t i (rw (length_machines card) h)) q)

  module _ (counts : List ℕ) (S : ScoredBelow card c (machine_count card) counts) where
    at_each : (i : ℕ) → i < length (machines_of card) → marks_of c (get_or (machines_of card) i (machine_of [])) ≡ some (get_or counts i 0)
    at_each i h = let k : i < machine_count card = rw (length_machines card) at h in ap (marks_of c) (machine_at_lem card i k (machine_of [])) ∙ S.scored i k

    pub all_complete : is_complete (machines_of card) c ≡ true
    unfolding is_complete
    all_complete = each_at (λ m. is_some (marks_of c m)) (machines_of card) (machine_of []) (λ i h. ap {A = Option ℕ} is_some (at_each i h))

    count_at_lem : (i : ℕ) → i < length (machines_of card) → get_or (profile_of (machines_of card) c) i 0 ≡ get_or counts i 0
    unfolding profile_of
    count_at_lem i h = map_at (λ m. count_of (marks_of c m)) (machines_of card) i h 0 (machine_of []) ∙ ap count_of (at_each i h)

    length_profile : length (profile_of (machines_of card) c) ≡ machine_count card
    unfolding profile_of
    length_profile = length-map (machines_of card) (λ m. count_of (marks_of c m)) ∙ length_machines card

    pub its_profile : machine_count card ≤ 6 → ◌≡◌ {A = Profile} (record { counts = counts }) (profile_with (profile_of (machines_of card) c))
    its_profile k = λ j. record { counts = same j }
      where
        P : List ℕ
        P = profile_of (machines_of card) c

        whole : length (P ++ replicate (6 - length P) 0) ≡ 6
        whole = rw (length-append, length-replicate) (omega (arith, length_profile))

        at : (i : ℕ) → Dec (i < length P) → get_or counts i 0 ≡ get_or (P ++ replicate (6 - length P) 0) i 0
        at i (yes h) = sym (count_at_lem i (rw (length_machines card) (rw length_profile at h))) ∙ sym (List·getD-append P (replicate (6 - length P) 0) 0 i h)
        at i (no h) =
            let b : length P + (i - length P) ≡ i = omega arith in
            S.unused i (omega (arith, length_profile))
            ∙ sym (zeros (6 - length P) (i - length P))
            ∙ sym (get_or-append-add P (replicate (6 - length P) 0) (i - length P) 0)
            ∙ ap (λ (n : ℕ). get_or (P ++ replicate (6 - length P) 0) n 0) b

        same : counts ≡ P ++ replicate (6 - length P) 0
        same = ext_get_or 0 counts (P ++ replicate (6 - length P) 0) (S.size ∙ sym whole) (λ i _. at i (dec_lt i (length P)))

-- one machine more
module _ (card : List ℕ) (c : List Pair) (n : ℕ) (counts : List ℕ) (S : ScoredBelow card c n counts) (h : n < 6) (k : ℕ) where
  pub scored_next : marks_of c (machine_of (part_of card n)) ≡ some k → ScoredBelow card c (n + 1) (set counts n k)
  scored_next e = record {
    size = length-set counts n k ∙ S.size;
    scored = λ i b. scored i b (ℕ_discrete i n);
    unused = λ i b. get_or-set_other counts n i k 0 (omega arith) ∙ S.unused i (omega arith);
  }
    where
      scored : (i : ℕ) → i < n + 1 → Dec (i ≡ n) → marks_of c (machine_of (part_of card i)) ≡ some (get_or (set counts n k) i 0)
      scored i b (yes q) =
          let z : get_or (set counts n k) n 0 ≡ k = get_or-set_same counts n k 0 (omega (arith, S.size)) in
          rw q (e ∙ ap {B = Option ℕ} some (sym z))
      scored i b (no q) = S.scored i (omega arith) ∙ ap {B = Option ℕ} some (sym (get_or-set_other counts n i k 0 q))

pub scored_start : (card : List ℕ) (c : List Pair) → ScoredBelow card c 0 (replicate 6 0)
scored_start card c = record { size = refl; scored = λ i h. absurd (omega arith); unused = λ i _. zeros 6 i }
