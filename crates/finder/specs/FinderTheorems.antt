-- What the finder's definition means: the rankings that it goes through are all there are, and the one that it gives is the smallest that fits.
-- Assumes nothing.
use Rattle.std.specs.Prelude.{◌≡◌, ◌∷◌, ◌++◌, ◌↔◌, ◌-◌}
use Rattle.basics.proofs.Words.{refl, sym, ◌∙◌, ap, Bool, true, false, List, [], List-as-Memᴰ, Option, some, none, ℕ, arith, replicate, all_of, pairwise, first_passes, first_member, first_misses, length_numbers}
use Rattle.ranking.specs.declared.Condition.{Condition}
use Rattle.ranking.specs.Rankings.{is_ranking, rankings, is_machine_count}
use Rattle.ranking.specs.Conditions.{fits}
use Rattle.ranking.specs.ByteStrings.{smaller}
use Rattle.finder.specs.declared.Finding.{Finding}
use Rattle.finder.specs.Finder.{conditions_of, sound_list, smallest, refused_finding, finding_of, finding}
use Rattle.refusals.specs.Refusals.{refuse, first_of}
use Rattle.refusals.proofs.Refusals.{accepted}
use Rattle.ranking.specs.Lemmas.Searches.{none_first}
use Rattle.ranking.specs.Lemmas.Arrangements.{numbers_distinct, permuted_arranged, arranged_permuted, ranking_permuted, permuted_ranking}
use Rattle.finder.specs.Order.{rankings_ordered, first_before_others, before_others_first, smaller_asymmetric}

-- the rankings listed are the lists that are rankings; List-as-Memᴰ r l is that r is an element of l
pub listed_exactly : (K : ℕ) (r : List ℕ) → List-as-Memᴰ r (rankings K) ↔ (is_ranking K r ≡ true)
listed_exactly K r = (
  λ i. permuted_ranking K r (arranged_permuted K _ r (length_numbers K) (numbers_distinct K) i),
  λ t. permuted_arranged K _ r (length_numbers K) (numbers_distinct K) (ranking_permuted K r t),
)

-- each is smaller, as a byte string, than those that come after it
pub listed_in_order : (K : ℕ) → pairwise smaller (rankings K) ≡ true
listed_in_order K = rankings_ordered K

-- a ranking that fits all the conditions, every other one that does being larger
pub record SmallestFitting (K : ℕ) (cs : List Condition) (r : List ℕ) : Type 0 where
  pub ranking : is_ranking K r ≡ true
  pub fitting : all_of (fits r) cs ≡ true
  pub least : (s : List ℕ) → is_ranking K s ≡ true → all_of (fits s) cs ≡ true → (s ≡ r → ⊥) → smaller r s ≡ true

-- it finds a ranking exactly when that is the smallest that fits
pub found_exactly : (K : ℕ) (cs : List Condition) (r : List ℕ) → (smallest K cs ≡ some r) ↔ SmallestFitting K cs r
unfolding smallest
found_exactly K cs r = (
  λ e.
      record {
        ranking = (listed_exactly K r).0 (first_member passes (rankings K) e);
        fitting = first_passes passes (rankings K) e;
        least = λ s i h n. first_before_others smaller passes (rankings K) (listed_in_order K) e ((listed_exactly K s).1 i) h n;
      },
  λ w.
      before_others_first smaller smaller_asymmetric passes (rankings K) (listed_in_order K) ((listed_exactly K r).1 w.ranking) w.fitting
      (λ s m. w.least s ((listed_exactly K s).0 m)),
)
  where
    passes : List ℕ → Bool
    passes s = all_of (fits s) cs

-- and it finds none exactly when no ranking fits them all
pub nothing_exactly : (K : ℕ) (cs : List Condition) → (smallest K cs ≡ none) ↔ ((r : List ℕ) → is_ranking K r ≡ true → all_of (fits r) cs ≡ false)
unfolding smallest
nothing_exactly K cs = (
  λ e r i. first_misses (λ s. all_of (fits s) cs) e ((listed_exactly K r).1 i),
  λ h. none_first (λ s. all_of (fits s) cs) (rankings K) (λ r m. h r ((listed_exactly K r).0 m)),
)

-- So a call that passes refusals 1 and 15 gives the smallest ranking that fits, and refusal 16 exactly when none does.
module _ (K : ℕ) (l : List ℕ) (counted : is_machine_count K ≡ true) (sound : sound_list K l ≡ true) where
  answered : finding K l ≡ finding_of K (smallest K (conditions_of l))
  unfolding finding
  answered = accepted (finding_of K (smallest K (conditions_of l))) refused_finding (both_pass (is_machine_count K) (sound_list K l) counted sound)
    where
      both_pass : (a b : Bool) → a ≡ true → b ≡ true → first_of (refuse 1 a ∷ refuse 15 b ∷ []) ≡ 0
      both_pass a b p q = rw (p, q)

  pub gives_smallest : (r : List ℕ) → SmallestFitting K (conditions_of l) r → finding K l ≡ record { number = 0; ranking = r ++ replicate (6 - K) 0 }
  gives_smallest r w = answered ∙ ap (finding_of K) ((found_exactly K (conditions_of l) r).1 w)

  pub refuses_exactly : ((finding K l).number ≡ 16) ↔ ((r : List ℕ) → is_ranking K r ≡ true → all_of (fits r) (conditions_of l) ≡ false)
  refuses_exactly = (
    λ e. (nothing_exactly K (conditions_of l)).0 (only_none (smallest K (conditions_of l)) (ap (λ (f : Finding). f.number) (sym answered) ∙ e)),
    λ h. ap (λ (f : Finding). f.number) (answered ∙ ap (finding_of K) ((nothing_exactly K (conditions_of l)).1 h)),
  )
    where
      only_none : (o : Option (List ℕ)) → (finding_of K o).number ≡ 16 → o ≡ none
      only_none none e = refl
      only_none (some r) e = absurd (omega arith)
