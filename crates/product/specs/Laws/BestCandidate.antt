-- The best candidate is the best path from the start node, and a candidate that none beats by profile or pair count is a cheapest one.
use Rattle.std.specs.Prelude.{◌≡◌, ◌⊎◌, ◌≢◌, ◌<◌, ◌≤◌}
use Rattle.basics.proofs.Words.{sym, ◌∙◌, ap, true, false, List, Option, some, inl, inr, ℕ, arith, length, length-map, ext_get_or, dec_lt, clash}
use Rattle.machine.specs.declared.Pair.{Pair}
use Rattle.machine.specs.Machine.{Machine}
use Rattle.ranking.specs.Rankings.{is_ranking}
use Rattle.ranking.specs.Harmony.{is_better}
use Rattle.ranking.specs.HarmonicInequality.{better_worse, neither_way, equal_means, itself}
use Rattle.candidate.specs.Candidates.{marks_of, count_of, profile_of, IsCandidate}
use Rattle.product.specs.Sets.{singletons, IsCandidateOf}
use Rattle.product.specs.Best.{Contender, contender_of, ProfileOrder, harmonic}
use Rattle.paths.specs.Total.{lex_total, same?, asym, less_not_same}
use Rattle.paths.specs.Costs.{Costs}
use Rattle.paths.specs.Graph.{path_cost}
use Rattle.paths.specs.Best.{Before, before_total, IsBest, IsCheapest}
use Rattle.product.specs.Prices.{Price, Alike, Agrees}
use Rattle.product.specs.ProductGraph.{pairs, start_node, product_graph}
use Rattle.product.specs.BestCandidate.{IsBestBy, BeatsIn, by_profile, by_pairs, by_bytes, BeatsOn, IsBestIn, IsUnbeatenIn, Beats, better_profile, fewer_pairs, smaller_bytes, BestOf}
use Rattle.product.specs.Laws.JointStep.{AllSound}
use Rattle.product.specs.Laws.Candidates.{fitting_cost, CostOfFitting, cost_fitting, as_sets, as_word}
use Rattle.product.specs.Laws.Preference.{decided, fewer_cost_less, same_cost, beats_earlier, earlier_beats}

-- a profile has one count per machine
pub profile_length : (ms : List Machine) (c : List Pair) → length (profile_of ms c) ≡ length ms
unfolding profile_of
profile_length ms c = length-map ms (λ m. count_of (marks_of c m))

-- ---- under a ranking the best candidate is the best in harmony

module _ (r : List ℕ) (ms : List Machine) (c d : List Pair) where
  pub beats_harmonic : Beats r ms c d → BeatsIn (harmonic r) (contender_of ms c) (contender_of ms d)
  beats_harmonic = go
    where
      same : profile_of ms d ≡ profile_of ms c → Alike (harmonic r) (profile_of ms c) (profile_of ms d)
      same e = let q = ap is_better (itself r (profile_of ms c)) in (rw e q, rw e q)

      go : Beats r ms c d → BeatsIn (harmonic r) (contender_of ms c) (contender_of ms d)
      go (better_profile h) = by_profile (sym (better_worse r (profile_of ms c) (profile_of ms d)) ∙ h)
      go (fewer_pairs e h) = by_pairs (same e) h
      go (smaller_bytes e h k) = by_bytes (same e) (sym h) k

  harmonic_beats : is_ranking (length ms) r ≡ true → BeatsIn (harmonic r) (contender_of ms c) (contender_of ms d) → Beats r ms c d
  harmonic_beats is = go
    where
      same : Alike (harmonic r) (profile_of ms c) (profile_of ms d) → profile_of ms d ≡ profile_of ms c
      same e =
          let agree = (equal_means (length ms) r is (profile_of ms c) (profile_of ms d)).0 (neither_way r (profile_of ms c) (profile_of ms d) e.0 e.1) in
          ext_get_or 0 (profile_of ms d) (profile_of ms c) (profile_length ms d ∙ sym (profile_length ms c)) (λ i k. sym (agree i (rw profile_length at k)))

      go : BeatsIn (harmonic r) (contender_of ms c) (contender_of ms d) → Beats r ms c d
      go (by_profile e) = better_profile (better_worse r (profile_of ms c) (profile_of ms d) ∙ e)
      go (by_pairs e h) = fewer_pairs (same e) h
      go (by_bytes e h k) = smaller_bytes (same e) (sym h) k

-- what beats one way and the other alike has the same best
module _ {beats beats' : List Pair → List Pair → Type 0} {Meant : List Pair → Type 0} where
  pub best_by : ((c d : List Pair) → beats c d → beats' c d) → (c : List Pair) → IsBestBy beats Meant c → IsBestBy beats' Meant c
  best_by f c a = record { candidate = a.candidate; rivals = λ d h n. f c d (a.rivals d h n) }

  pub best_of_by : {ms : List Machine} {o : Option Contender} → ((c d : List Pair) → beats c d → beats' c d) → ((c d : List Pair) → beats' c d → beats c d) → BestOf ms beats Meant o → BestOf ms beats' Meant o
  best_of_by f g all = record {
    none_exactly = all.none_exactly;
    is_best = λ b e. best_by f b.candidate (all.is_best b e);
    its_profile = all.its_profile;
    only_it = λ c a. all.only_it c (record { candidate = a.candidate; rivals = λ d h n. g c d (a.rivals d h n) });
  }

pub best_of_ranked : (r : List ℕ) {ms : List Machine} {Meant : List Pair → Type 0} {o : Option Contender} → is_ranking (length ms) r ≡ true → BestOf ms (BeatsOn (harmonic r) ms) Meant o → BestOf ms (Beats r ms) Meant o
best_of_ranked r {ms} is = best_of_by (λ c d. harmonic_beats r ms c d is) (beats_harmonic r ms)

-- ---- the best candidate is one that none beats by profile or pair count, whatever candidates are meant

module _ {costs : Costs} {price : Price costs} {better : ProfileOrder} (agrees : Agrees price better) {ms : List Machine} {Meant : List Pair → Type 0} where
  pub best_unbeaten : (c : List Pair) → IsBestIn better ms Meant c → IsUnbeatenIn better ms Meant c
  best_unbeaten c a = record {
    candidate = a.candidate;
    none_better = λ d h. not_better d h (decided (better (profile_of ms d) (profile_of ms c)));
    none_shorter = λ d h e. not_shorter d h e (dec_lt (length d) (length c));
  }
    where
      cost_of : List Pair → costs.Cost
      cost_of d = price.of (profile_of ms d) (length d)

      not_cheaper : (d : List Pair) → Meant d → Dec (d ≡ c) → ¬ (costs.◌≺◌ (cost_of d) (cost_of c))
      not_cheaper d h (yes e) l = costs.total.irrefl (cost_of c) (rw e at l)
      not_cheaper d h (no n) l =
          asym (before_total costs pairs) (cost_of c, c) (cost_of d, d) (beats_earlier agrees (contender_of ms c) (contender_of ms d) (a.rivals d h n)) (inl l)

      refuted : (d : List Pair) → Meant d → ¬ (costs.◌≺◌ (cost_of d) (cost_of c))
      refuted d h = not_cheaper d h (same? (lex_total pairs.◌◃◌ pairs.total) d c)

      not_better : (d : List Pair) → Meant d → (better (profile_of ms d) (profile_of ms c) ≡ true) ⊎ (better (profile_of ms d) (profile_of ms c) ≡ false) → better (profile_of ms d) (profile_of ms c) ≡ false
      not_better d h (inl e) = absurd (refuted d h (agrees.less (profile_of ms d) (profile_of ms c) (length d) (length c) e))
      not_better d h (inr e) = e

      not_shorter : (d : List Pair) → Meant d → Alike better (profile_of ms d) (profile_of ms c) → Dec (length d < length c) → length c ≤ length d
      not_shorter d h e (yes l) = absurd (refuted d h (rw (agrees.alike (profile_of ms d) (profile_of ms c) (length d) e) (fewer_cost_less price (profile_of ms c) (length d) (length c) l)))
      not_shorter d h e (no n) = omega arith

-- ---- the best candidate is the best path, and one that none beats by profile or pair count a cheapest path

module _ {costs : Costs} {price : Price costs} {better : ProfileOrder} (agrees : Agrees price better) {S : ℕ} {ms : List Machine} (sound : AllSound S ms) where
  -- over sets
  module _ (sets : List ℕ) where
    pub path_best_of_sets : (c : List Pair) → IsBest (product_graph price sets ms) (start_node ms) c → IsBestIn better ms (IsCandidateOf ms sets) c
    path_best_of_sets c a = record { candidate = k.is; rivals = rivals }
      where
        k : CostOfFitting price sets sound c a.cost
        k = cost_fitting price sets sound c a.cost a.is

        rivals : (d : List Pair) → IsCandidateOf ms sets d → d ≢ c → BeatsIn better (contender_of ms c) (contender_of ms d)
        rivals d h n =
            earlier_beats agrees (contender_of ms c) (contender_of ms d) (rw k.cost at (a.first d (price.of (profile_of ms d) (length d)) n (fitting_cost price sets sound d h)))

    pub best_of_sets_path : (c : List Pair) → IsBestIn better ms (IsCandidateOf ms sets) c → IsBest (product_graph price sets ms) (start_node ms) c
    best_of_sets_path c a = record { cost = price.of (profile_of ms c) (length c); is = fitting_cost price sets sound c a.candidate; first = first }
      where
        first : (d : List Pair) (x : costs.Cost) → d ≢ c → path_cost (product_graph price sets ms) (start_node ms) d ≡ some x
            → Before costs pairs (price.of (profile_of ms c) (length c), c) (x, d)
        first d x n h =
            let k = cost_fitting price sets sound d x h in
            rw k.cost (beats_earlier agrees (contender_of ms c) (contender_of ms d) (a.rivals d k.is n))

    pub unbeaten_path : (c : List Pair) → IsUnbeatenIn better ms (IsCandidateOf ms sets) c → IsCheapest (product_graph price sets ms) (start_node ms) c
    unbeaten_path c a = record { cost = price.of (profile_of ms c) (length c); is = fitting_cost price sets sound c a.candidate; none_cheaper = none_cheaper }
      where
        none_cheaper : (d : List Pair) (x : costs.Cost) → path_cost (product_graph price sets ms) (start_node ms) d ≡ some x → ¬ (costs.◌≺◌ x (price.of (profile_of ms c) (length c)))
        none_cheaper d x h l = go (earlier_beats agrees (contender_of ms d) (contender_of ms c) (inl less))
          where
            k : CostOfFitting price sets sound d x
            k = cost_fitting price sets sound d x h

            less : costs.◌≺◌ (price.of (profile_of ms d) (length d)) (price.of (profile_of ms c) (length c))
            less = rw k.cost at l

            go : BeatsIn better (contender_of ms d) (contender_of ms c) → ⊥
            go (by_profile e) = clash e (a.none_better d k.is)
            go (by_pairs e f) = omega (arith, a.none_shorter d k.is e)
            go (by_bytes e f g) = less_not_same costs.total less (same_cost agrees (contender_of ms d) (contender_of ms c) e f)

  -- for a word
  module _ (word : List ℕ) where
    pub path_best_in : (c : List Pair) → IsBest (product_graph price (singletons word) ms) (start_node ms) c → IsBestIn better ms (IsCandidate ms word) c
    path_best_in c a =
        let b = path_best_of_sets (singletons word) c a in
        record { candidate = as_word word c b.candidate; rivals = λ d h. b.rivals d (as_sets word d h) }

    pub best_in_path : (c : List Pair) → IsBestIn better ms (IsCandidate ms word) c → IsBest (product_graph price (singletons word) ms) (start_node ms) c
    best_in_path c a = best_of_sets_path (singletons word) c (record { candidate = as_sets word c a.candidate; rivals = λ d h. a.rivals d (as_word word d h) })

-- of a word and of its sets of one symbol each the same candidates are unbeaten
pub unbeaten_sets : {better : ProfileOrder} {ms : List Machine} (word : List ℕ) {c : List Pair} → IsUnbeatenIn better ms (IsCandidate ms word) c → IsUnbeatenIn better ms (IsCandidateOf ms (singletons word)) c
unbeaten_sets word {c} a = record { candidate = as_sets word c a.candidate; none_better = λ d h. a.none_better d (as_word word d h); none_shorter = λ d h. a.none_shorter d (as_word word d h) }
