-- The tie at the start node, in the words of candidates.
use Rattle.std.specs.Prelude.{◌≡◌, ◌&&◌, ◌∷◌}
use Rattle.basics.proofs.Words.{refl, sym, ◌∙◌, ap, Bool, true, false, false≢true, List, [], map, Option, some, none, Option·none-ne-some, ℕ, arith, length, eqb, all_of, both, left, right}
use Rattle.std.proofs.Common.{eqb-true, eq-eqb}
use Rattle.machine.specs.declared.Pair.{Pair}
use Rattle.machine.specs.Symbols.{is_pair}
use Rattle.machine.specs.Machine.{Machine, start_state}
use Rattle.candidate.specs.Candidates.{spelled, marks_of, is_some, count_of, is_complete, profile_of, IsCandidate}
use Rattle.product.specs.Best.{same_word}
use Rattle.product.specs.Sets.{fits_sets, singletons, IsCandidateOf}
use Rattle.paths.specs.Costs.{Costs}
use Rattle.paths.specs.Graph.{path_cost}
use Rattle.product.specs.JointStep.{and_those, of_each}
use Rattle.product.specs.Prices.{Price}
use Rattle.product.specs.ProductGraph.{start_node, product_graph}
use Rattle.product.specs.Laws.Sets.{fits_singletons}
use Rattle.product.specs.Laws.JointStep.{joint_marks, AllSound, starts_below}
use Rattle.product.specs.Laws.PathCost.{spells, cost_of, path_cost_is}

-- the same word
pub same_word_lem : (xs ys : List ℕ) → same_word xs ys ≡ true → xs ≡ ys
unfolding same_word
same_word_lem [] [] h = refl
same_word_lem [] (y ∷ ys) h = absurd (false≢true h)
same_word_lem (x ∷ xs) [] h = absurd (false≢true h)
same_word_lem (x ∷ xs) (y ∷ ys) h =
    let a = eqb-true x y (left (eqb x y) (same_word xs ys) h) in
    let b = same_word_lem xs ys (right (eqb x y) (same_word xs ys) h) in
    λ i. a i ∷ b i

pub word_same : (xs ys : List ℕ) → xs ≡ ys → same_word xs ys ≡ true
unfolding same_word
word_same xs ys e = rw e (go ys)
  where
    go : (zs : List ℕ) → same_word zs zs ≡ true
    go [] = refl
    go (z ∷ zs) = both (eq-eqb z z refl) (go zs)

-- complete on every machine, as joint marks from the start states
abbrev pub starts : List Machine → List ℕ
starts ms = map (λ m. start_state) ms

pub complete_marks : (ms : List Machine) (c : List Pair) → is_complete ms c ≡ true → joint_marks ms (starts ms) c ≡ some (profile_of ms c)
unfolding is_complete profile_of all_of of_each
complete_marks [] c h = refl
complete_marks (m ∷ ms) c h = go (marks_of c m) refl h (complete_marks ms c)
  where
    go : (o : Option ℕ) → marks_of c m ≡ o → (is_some o && all_of (λ m. is_some (marks_of c m)) ms) ≡ true → (all_of (λ m. is_some (marks_of c m)) ms ≡ true → joint_marks ms (starts ms) c ≡ some (profile_of ms c))
        → and_those (marks_of c m) (joint_marks ms (starts ms) c) ≡ some (count_of (marks_of c m) ∷ profile_of ms c)
    go none e h rec = absurd (false≢true h)
    go (some n) e h rec = rw (e, rec h)

pub record Complete (ms : List Machine) (c : List Pair) (xs : List ℕ) : Type 0 where
  pub complete : is_complete ms c ≡ true
  pub profile : xs ≡ profile_of ms c

pub marks_complete : (ms : List Machine) (c : List Pair) (xs : List ℕ) → joint_marks ms (starts ms) c ≡ some xs → Complete ms c xs
unfolding is_complete profile_of all_of of_each
marks_complete [] c xs h = record { complete = refl; profile = cc }
marks_complete (m ∷ ms) c xs h = go (marks_of c m) refl (joint_marks ms (starts ms) c) refl h (marks_complete ms c)
  where
    go : (o : Option ℕ) → marks_of c m ≡ o → (j : Option (List ℕ)) → joint_marks ms (starts ms) c ≡ j → and_those o j ≡ some xs → ((ys : List ℕ) → joint_marks ms (starts ms) c ≡ some ys → Complete ms c ys) → Complete (m ∷ ms) c xs
    go none e j k h rec = absurd (Option·none-ne-some xs h)
    go (some n) e none k h rec = absurd (Option·none-ne-some xs h)
    go (some n) e (some ys) k h rec =
        let r = rec ys k in
        let q : xs ≡ n ∷ ys = cc in
        record { complete = rw e r.complete; profile = q ∙ (λ i. n ∷ r.profile i) ∙ (rw e) }

-- ---- from the start node a candidate costs the price of its profile and its pair count, and what has a cost is a candidate

module _ {costs : Costs} (price : Price costs) (sets : List ℕ) {ms : List Machine} {S : ℕ} (sound : AllSound S ms) where
  at_start_lem : (c : List Pair) → path_cost (product_graph price sets ms) (start_node ms) c ≡ cost_of price sets ms (length c) (spells sets 0 c) (joint_marks ms (starts ms) c)
  at_start_lem c = path_cost_is price sets ms sound c 0 (starts ms) (omega arith) (starts_below sound)

  pub fitting_cost : (c : List Pair) → IsCandidateOf ms sets c → path_cost (product_graph price sets ms) (start_node ms) c ≡ some (price.of (profile_of ms c) (length c))
  fitting_cost c h = let k = h.is in at_start_lem c ∙ (rw (complete_marks ms c k.complete, both k.pairs (ap (fits_sets sets) k.spells ∙ h.fits)))

  pub record CostOfFitting (c : List Pair) (x : costs.Cost) : Type 0 where
    pub is : IsCandidateOf ms sets c
    pub cost : x ≡ price.of (profile_of ms c) (length c)

  pub cost_fitting : (c : List Pair) (x : costs.Cost) → path_cost (product_graph price sets ms) (start_node ms) c ≡ some x → CostOfFitting c x
  cost_fitting c x h = go (spells sets 0 c) refl (joint_marks ms (starts ms) c) refl (sym (at_start_lem c) ∙ h)
    where
      go : (t : Bool) → spells sets 0 c ≡ t → (o : Option (List ℕ)) → joint_marks ms (starts ms) c ≡ o → cost_of price sets ms (length c) t o ≡ some x → CostOfFitting c x
      go false t o e k = absurd (Option·none-ne-some x k)
      go true t none e k = absurd (Option·none-ne-some x k)
      go true t (some xs) e k =
          let r = marks_complete ms c xs e in
          let q : x ≡ price.of xs (length c) = cc in
          record {
            is = record {
              word = spelled c;
              fits = right (all_of is_pair c) (fits_sets sets (spelled c)) t;
              is = record { pairs = left (all_of is_pair c) (fits_sets sets (spelled c)) t; spells = refl; complete = r.complete };
            };
            cost = q ∙ ap (λ ys. price.of ys (length c)) r.profile;
          }

-- ---- a candidate for a word is one for its sets of one symbol each

pub as_sets : {ms : List Machine} (word : List ℕ) (c : List Pair) → IsCandidate ms word c → IsCandidateOf ms (singletons word) c
as_sets word c h = record { word = word; fits = fits_singletons word word ∙ word_same word word refl; is = h }

pub as_word : {ms : List Machine} (word : List ℕ) (c : List Pair) → IsCandidateOf ms (singletons word) c → IsCandidate ms word c
as_word word c h =
    let k = h.is in
    record { pairs = k.pairs; spells = k.spells ∙ same_word_lem h.word word (sym (fits_singletons word h.word) ∙ h.fits); complete = k.complete }

module _ {costs : Costs} (price : Price costs) (word : List ℕ) {ms : List Machine} {S : ℕ} (sound : AllSound S ms) where
  pub candidate_cost : (c : List Pair) → IsCandidate ms word c → path_cost (product_graph price (singletons word) ms) (start_node ms) c ≡ some (price.of (profile_of ms c) (length c))
  candidate_cost c h = fitting_cost price (singletons word) sound c (as_sets word c h)

  pub record CostOfCandidate (c : List Pair) (x : costs.Cost) : Type 0 where
    pub is : IsCandidate ms word c
    pub cost : x ≡ price.of (profile_of ms c) (length c)

  pub cost_candidate : (c : List Pair) (x : costs.Cost) → path_cost (product_graph price (singletons word) ms) (start_node ms) c ≡ some x → CostOfCandidate c x
  cost_candidate c x h = let k = cost_fitting price (singletons word) sound c x h in record { is = as_word word c k.is; cost = k.cost }
