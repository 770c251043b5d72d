-- What demand 3 says of an answer, by which candidates are meant and by what it is for one to be the best; and that what a call answers meets it.
use Rattle.std.specs.Prelude.{◌≡◌, ◌++◌, ◌⊎◌, ◌↔◌, ◌≢◌, ◌*◌, ◌<◌, ◌≤◌}
use Rattle.basics.specs.Words.{refl, sym, ◌∙◌, ap, List, Option, some, none, inl, inr, ℕ, zero, suc, arith, length, drop, dec_lt}
use Rattle.std.proofs.Common.{le-leb}
use Rattle.std.proofs.lemmas.Bool.{lt-leb}
use Rattle.machine.specs.declared.Pair.{Pair}
use Rattle.machine.specs.Machine.{Machine}
use Rattle.candidate.specs.declared.Evaluation.{Evaluation}
use Rattle.candidate.specs.Candidates.{bytes_of, profile_of}
use Rattle.candidate.specs.Evaluating.{profile_with}
use Rattle.product.specs.Best.{Contender}
use Rattle.product.specs.Answering.{evaluation_of, filled, answered, answered_slice}
use Rattle.product.specs.BestCandidate.{IsBestBy, BestOf}
use Rattle.optimizer.specs.Optimizes.{Answers}

-- the best candidate and where it stands: it beats every other one, however long, and the answer has it
pub record AnswersBest (ms : List Machine) (IsBest : List Pair → Type 0) (word answer after : List ℕ) (r : Evaluation) (c : List Pair) : Type 0 where
  pub is_best : IsBest c
  pub fits : 2 * length c ≤ length answer
  pub bytes : after ≡ bytes_of c ++ drop (2 * length c) answer
  pub profile : r.profile ≡ profile_with (profile_of ms c)
  pub pairs : r.pairs ≡ length c
  pub word_length : r.word_length ≡ length word

pub record Demands (ms : List Machine) (Meant IsBest : List Pair → Type 0) (word answer after : List ℕ) (r : Evaluation) : Type 0 where
  -- the number is 0, 10 or 12
  pub numbers : (r.number ≡ 0) ⊎ ((r.number ≡ 10) ⊎ (r.number ≡ 12))
  -- none exactly when no list of pairs, however long, is such a candidate
  pub none_exactly : (r.number ≡ 10) ↔ ((c : List Pair) → ¬ (Meant c))
  -- otherwise there is a best one
  pub otherwise_best : (c : List Pair) → Meant c → (b : List Pair) × IsBest b
  -- 12 exactly when there is a best candidate and its bytes are more than the answer slice has
  pub room_exactly : (r.number ≡ 12) ↔ ((c : List Pair) × IsBest c × (length answer < 2 * length c))
  -- 0 exactly when there is a best candidate whose bytes the answer slice has room for
  pub best_exactly : (r.number ≡ 0) ↔ ((c : List Pair) × IsBest c × (2 * length c ≤ length answer))
  -- and then it is answered
  pub answered : r.number ≡ 0 → (c : List Pair) × AnswersBest ms IsBest word answer after r c
  -- otherwise the answer slice keeps its bytes
  pub untouched : r.number ≢ 0 → after ≡ answer

-- ---- what is answered, by what the best is

pub data Outcome (best : Option Contender) (word answer after : List ℕ) (r : Evaluation) : Type 0 where
  nothing : best ≡ none → r.number ≡ 10 → after ≡ answer → Outcome best word answer after r
  no_room : (b : Contender) → best ≡ some b → length answer < 2 * length b.candidate → r.number ≡ 12 → after ≡ answer → Outcome best word answer after r
  found : (b : Contender) → best ≡ some b → 2 * length b.candidate ≤ length answer → r ≡ evaluation_of (some b) word → after ≡ filled (some b) answer → Outcome best word answer after r

-- where the checks before the search refuse nothing
pub outcome : {n : ℕ} {best : Option Contender} {word work workAfter answer after : List ℕ} {r : Evaluation} → Answers n best word work workAfter answer after r → n ≡ 0 → Outcome best word answer after r
unfolding answered answered_slice
outcome {n} {best} {word} {answer = answer} {after = after} {r = r} c ok =
    go best refl (c.result ∙ ap (λ (m : ℕ). answered m best word (length answer)) ok) (c.answer_slice ∙ ap (λ (m : ℕ). answered_slice m best answer) ok)
  where
    go : (o : Option Contender) → best ≡ o → r ≡ answered 0 o word (length answer) → after ≡ answered_slice 0 o answer → Outcome best word answer after r
    go none e q s = nothing e (ap (λ (v : Evaluation). v.number) q) s
    go (some b) e q s = fits (dec_lt (length answer) (2 * length b.candidate))
      where
        fits : Dec (length answer < 2 * length b.candidate) → Outcome best word answer after r
        fits (yes h) = let k = lt-leb (2 * length b.candidate) (length answer) h in no_room b e h (ap (λ (v : Evaluation). v.number) (rw k at q)) (rw k at s)
        fits (no h) = let k = le-leb (2 * length b.candidate) (length answer) (omega arith) in found b e (omega arith) (rw k at q) (rw k at s)

-- with the number 0 they refused nothing
pub answered_accepts : {n : ℕ} {best : Option Contender} {word work workAfter answer after : List ℕ} {r : Evaluation} → Answers n best word work workAfter answer after r → r.number ≡ 0 → n ≡ 0
unfolding answered
answered_accepts {n} {best} {word} {answer = answer} c z = go n (sym (ap (λ (v : Evaluation). v.number) c.result) ∙ z)
  where
    go : (n : ℕ) → (answered n best word (length answer)).number ≡ 0 → n ≡ 0
    go zero e = refl
    go (suc n) e = absurd (omega arith)

-- ---- the theorem

module _ {ms : List Machine} {beats : List Pair → List Pair → Type 0} {Meant : List Pair → Type 0} {best : Option Contender} (all : BestOf ms beats Meant best) where
  -- the pairs of a best candidate are those of the definition's
  same_pairs : (b : Contender) → best ≡ some b → (c : List Pair) → IsBestBy beats Meant c → length c ≡ length b.candidate
  same_pairs b e c k = let q : b ≡ record { candidate = c; profile = profile_of ms c } = cc (e, all.only_it c k) in ap (λ (f : Contender). length f.candidate) (sym q)

  no_best : best ≡ none → (c : List Pair) → IsBestBy beats Meant c → ⊥
  no_best e c k = all.none_exactly.0 e c k.candidate

  some_candidate : (b : Contender) → best ≡ some b → ((c : List Pair) → ¬ (Meant c)) → ⊥
  some_candidate b e f = f b.candidate (all.is_best b e).candidate

  pub demanded : {n : ℕ} {word work workAfter answer after : List ℕ} {r : Evaluation} → Answers n best word work workAfter answer after r → n ≡ 0 → Demands ms Meant (IsBestBy beats Meant) word answer after r
  demanded {word = word} {answer = answer} {after = after} {r = r} c ok = go (outcome c ok)
    where
      go : Outcome best word answer after r → Demands ms Meant (IsBestBy beats Meant) word answer after r
      go (nothing e n u) = record {
        numbers = inr (inl n);
        none_exactly = (λ _. all.none_exactly.0 e, λ _. n);
        otherwise_best = λ c h. absurd (all.none_exactly.0 e c h);
        room_exactly = (λ h. absurd (omega arith), λ t. absurd (no_best e t.0 t.1));
        best_exactly = (λ h. absurd (omega arith), λ t. absurd (no_best e t.0 t.1));
        answered = λ h. absurd (omega arith);
        untouched = λ _. u;
      }
      go (no_room b e l n u) = record {
        numbers = inr (inr n);
        none_exactly = (λ h. absurd (omega arith), λ f. absurd (some_candidate b e f));
        otherwise_best = λ _ _. (b.candidate, all.is_best b e);
        room_exactly = (λ _. (b.candidate, all.is_best b e, l), λ _. n);
        best_exactly = (λ h. absurd (omega arith), λ t. absurd (omega (arith, same_pairs b e t.0 t.1, t.2)));
        answered = λ h. absurd (omega arith);
        untouched = λ _. u;
      }
      go (found b e l q u) =
          let n : r.number ≡ 0 = ap (λ (v : Evaluation). v.number) q in
          record {
            numbers = inl n;
            none_exactly = (λ h. absurd (omega arith), λ f. absurd (some_candidate b e f));
            otherwise_best = λ _ _. (b.candidate, all.is_best b e);
            room_exactly = (λ h. absurd (omega arith), λ t. absurd (omega (arith, same_pairs b e t.0 t.1, t.2)));
            best_exactly = (λ _. (b.candidate, all.is_best b e, l), λ _. n);
            answered = λ _. (
              b.candidate,
              record {
                is_best = all.is_best b e;
                fits = l;
                bytes = u;
                profile = ap (λ (v : Evaluation). v.profile) q ∙ ap profile_with (all.its_profile b e);
                pairs = ap (λ (v : Evaluation). v.pairs) q;
                word_length = ap (λ (v : Evaluation). v.word_length) q;
              },
            );
            untouched = λ h. absurd (h n);
          }
