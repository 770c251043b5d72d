-- Theorems on two calls with one card, ranking, word and answer slice and with work slices of their own, of any length and contents. They are of the
-- calls' contract, so either call may be any engine's that has it. What the checks before 9 refuse is refused by both; otherwise 9 is each call's alone,
-- by the length of its work slice; and two calls that pass 9 give one result and one answer slice.
use Rattle.std.specs.Prelude.{◌≡◌, ◌∷◌, ◌++◌, ◌≢◌, ◌*◌, ◌<◌, ◌≤◌}
use Rattle.basics.specs.Words.{refl, sym, ◌∙◌, ap, Bool, true, false, List, [], Option, some, none, ℕ, zero, suc, arith, length, leb}
use Rattle.std.proofs.Common.{le-leb}
use Rattle.std.proofs.lemmas.Bool.{lt-leb}
use Rattle.refusals.specs.Refusals.{refuse, first_of, unless_refused}
use Rattle.ranking.specs.Rankings.{is_ranking}
use Rattle.card.specs.Layout.{machine_count, symbol_count}
use Rattle.card.specs.Card.{card_refusal, machines_of}
use Rattle.candidate.specs.declared.Evaluation.{Evaluation}
use Rattle.candidate.specs.Evaluating.{refused}
use Rattle.product.specs.Nodes.{node_count}
use Rattle.product.specs.Best.{Contender}
use Rattle.product.specs.Answering.{evaluation_of, answered, answered_slice}
use Rattle.product.specs.Optimizing.{sound_word, input_refusal}
use Rattle.product.specs.OptimizingSets.{sets_refusal, sets_input_refusal}
use Rattle.optimizer.specs.Optimizes.{Answers, Optimizes, OptimizesSets}

-- ---- what holds of a call and of two, by the number that the checks before 9 give and the room that 9 asks for

-- refusal n: the lent slices stay as they were
pub record RefusedBy {A : Type 0} (refusal : ℕ → A) (n : ℕ) (work workAfter answer answerAfter : List ℕ) (r : A) : Type 0 where
  pub result : r ≡ refusal n
  pub answer_slice : answerAfter ≡ answer
  pub work_slice : workAfter ≡ work

pub record OneCall {A : Type 0} (refusal : ℕ → A) (before need : ℕ) (work workAfter answer answerAfter : List ℕ) (r : A) : Type 0 where
  -- refused before 9
  pub refused_before : before ≢ 0 → RefusedBy refusal before work workAfter answer answerAfter r
  -- otherwise by 9 exactly if its work slice is short
  pub refused_by_9 : before ≡ 0 → length work < need → RefusedBy refusal 9 work workAfter answer answerAfter r
  pub not_by_9 : before ≡ 0 → need ≤ length work → r ≢ refusal 9

pub record TwoCalls {A : Type 0} (refusal : ℕ → A) (before need : ℕ) (work workAfter work' workAfter' answer answerAfter answerAfter' : List ℕ) (r r' : A) : Type 0 where
  pub first : OneCall refusal before need work workAfter answer answerAfter r
  pub second : OneCall refusal before need work' workAfter' answer answerAfter' r'
  -- where neither work slice is short
  pub same : before ≡ 0 → need ≤ length work → need ≤ length work' → (r ≡ r') × (answerAfter ≡ answerAfter')
  -- and where they are of one length, whatever is refused
  pub same_length : length work ≡ length work' → (r ≡ r') × (answerAfter ≡ answerAfter')

-- ---- from any contract in which 9 alone looks at the length of the work slice

-- the number of the checks before the search: those before 9, and 9
abbrev pub with_nine : List ℕ → ℕ → ℕ → ℕ
with_nine checks need room = first_of (checks ++ (refuse 9 (leb need room) ∷ []))

first_before_lem : (ns ms : List ℕ) → first_of (ns ++ ms) ≡ first_of (first_of ns ∷ ms)
first_before_lem [] ms = refl
first_before_lem (zero ∷ ns) ms = first_before_lem ns ms
first_before_lem (suc n ∷ ns) ms = refl

-- a call by what it gives for that number, as its result and as the answer slice
pub record Call {A : Type 0} (result-of : ℕ → A) (slice_of : ℕ → List ℕ) (n : ℕ) (work workAfter answerAfter : List ℕ) (r : A) : Type 0 where
  pub result : r ≡ result-of n
  pub answer_slice : answerAfter ≡ slice_of n
  pub work_kept : n ≢ 0 → workAfter ≡ work

module _ {A : Type 0} {refusal result-of : ℕ → A} {slice_of : ℕ → List ℕ} {answer : List ℕ} (refuses : (n : ℕ) → result-of (suc n) ≡ refusal (suc n)) (keeps : (n : ℕ) → slice_of (suc n) ≡ answer)
    (searched : result-of 0 ≢ refusal 9) (checks : List ℕ) (need : ℕ)
  where
    one_call : {work workAfter answerAfter : List ℕ} {r : A} (before : ℕ) → first_of checks ≡ before → Call result-of slice_of (with_nine checks need (length work)) work workAfter answerAfter r
        → OneCall refusal before need work workAfter answer answerAfter r
    one_call {work} {workAfter} {answerAfter} {r} before e c = go before e
      where
        refused_by : (n : ℕ) → with_nine checks need (length work) ≡ suc n → RefusedBy refusal (suc n) work workAfter answer answerAfter r
        refused_by n q = record { result = c.result ∙ ap result-of q ∙ refuses n; answer_slice = c.answer_slice ∙ ap slice_of q ∙ keeps n; work_slice = c.work_kept (λ z. omega (arith, q)) }

        at_9 : (t : Bool) → first_of checks ≡ 0 → leb need (length work) ≡ t → with_nine checks need (length work) ≡ refuse 9 t
        at_9 true z t = first_before_lem checks (refuse 9 (leb need (length work)) ∷ []) ∙ rw (z, t)
        at_9 false z t = first_before_lem checks (refuse 9 (leb need (length work)) ∷ []) ∙ rw (z, t)

        go : (before : ℕ) → first_of checks ≡ before → OneCall refusal before need work workAfter answer answerAfter r
        go (suc n) e = record {
          refused_before = λ h. refused_by n (first_before_lem checks (refuse 9 (leb need (length work)) ∷ []) ∙ rw e);
          refused_by_9 = λ z. absurd (omega arith);
          not_by_9 = λ z. absurd (omega arith);
        }
        go zero e = record {
          refused_before = λ h. absurd (h refl);
          refused_by_9 = λ z h. refused_by 8 (at_9 false e (lt-leb need (length work) h));
          not_by_9 = λ z h q. searched (sym (c.result ∙ ap result-of (at_9 true e (le-leb need (length work) h))) ∙ q);
        }

    pub both_calls : {work workAfter work' workAfter' answerAfter answerAfter' : List ℕ} {r r' : A}
        → Call result-of slice_of (with_nine checks need (length work)) work workAfter answerAfter r → Call result-of slice_of (with_nine checks need (length work')) work' workAfter' answerAfter' r'
        → TwoCalls refusal (first_of checks) need work workAfter work' workAfter' answer answerAfter answerAfter' r r'
    both_calls {work} {work' = work'} {answerAfter = answerAfter} {answerAfter' = answerAfter'} {r = r} {r' = r'} a b = record {
      first = one_call (first_of checks) refl a;
      second = one_call (first_of checks) refl b;
      same = λ e h k. alike (le-leb need (length work) h ∙ sym (le-leb need (length work') k));
      same_length = λ e. alike (ap (leb need) e);
    }
      where
        alike : leb need (length work) ≡ leb need (length work') → (r ≡ r') × (answerAfter ≡ answerAfter')
        alike e =
            let q = ap (λ (t : Bool). first_of (checks ++ (refuse 9 t ∷ []))) e in
            (a.result ∙ ap result-of q ∙ sym b.result, a.answer_slice ∙ ap slice_of q ∙ sym b.answer_slice)

-- a search does not answer 9
pub not_9 : (o : Option Contender) (word : List ℕ) (room : ℕ) → answered 0 o word room ≢ refused 9
unfolding answered
not_9 none word room e = omega (arith, ap (λ (v : Evaluation). v.number) e)
not_9 (some b) word room e = fits (leb (2 * length b.candidate) room) e
  where
    fits : (t : Bool) → unless_refused (first_of (refuse 12 t ∷ [])) (evaluation_of (some b) word) refused ≢ refused 9
    fits true e = omega (arith, ap (λ (v : Evaluation). v.number) e)
    fits false e = omega (arith, ap (λ (v : Evaluation). v.number) e)

-- ---- the calls under a ranking

pub two_answers : (checks : List ℕ) (need : ℕ) {best : Option Contender} {word work workAfter work' workAfter' answer answerAfter answerAfter' : List ℕ} {r r' : Evaluation}
    → Answers (with_nine checks need (length work)) best word work workAfter answer answerAfter r → Answers (with_nine checks need (length work')) best word work' workAfter' answer answerAfter' r'
    → TwoCalls refused (first_of checks) need work workAfter work' workAfter' answer answerAfter answerAfter' r r'
unfolding answered answered_slice
two_answers checks need {best} {word} {answer = answer} a b =
    both_calls {result-of = λ n. answered n best word (length answer)} {slice_of = λ n. answered_slice n best answer} (λ n. refl) (λ n. refl) (not_9 best word (length answer)) checks need
    (record { result = a.result; answer_slice = a.answer_slice; work_kept = a.work_kept }) (record { result = b.result; answer_slice = b.answer_slice; work_kept = b.work_kept })

-- the checks 1 to 8 of a word, and those of sets
abbrev pub checks_of_word : (card ranking word : List ℕ) → List ℕ
checks_of_word card ranking word = card_refusal card ∷ refuse 7 (is_ranking (machine_count card) ranking) ∷ refuse 8 (sound_word (symbol_count card) word) ∷ []

abbrev pub checks_of_sets : (card ranking sets : List ℕ) → List ℕ
checks_of_sets card ranking sets = card_refusal card ∷ refuse 7 (is_ranking (machine_count card) ranking) ∷ sets_refusal (symbol_count card) sets ∷ []

module _ (card ranking : List ℕ) {word work workAfter work' workAfter' answer answerAfter answerAfter' : List ℕ} {r r' : Evaluation} where
  pub two_calls : Optimizes card ranking word work workAfter answer answerAfter r → Optimizes card ranking word work' workAfter' answer answerAfter' r'
      → TwoCalls refused (first_of (checks_of_word card ranking word)) (8 * node_count (machines_of card) (length word)) work workAfter work' workAfter' answer answerAfter answerAfter' r r'
  unfolding input_refusal
  two_calls = two_answers (checks_of_word card ranking word) (8 * node_count (machines_of card) (length word))

  pub two_calls_sets : OptimizesSets card ranking word work workAfter answer answerAfter r → OptimizesSets card ranking word work' workAfter' answer answerAfter' r'
      → TwoCalls refused (first_of (checks_of_sets card ranking word)) (8 * node_count (machines_of card) (length word)) work workAfter work' workAfter' answer answerAfter answerAfter' r r'
  unfolding sets_input_refusal
  two_calls_sets = two_answers (checks_of_sets card ranking word) (8 * node_count (machines_of card) (length word))
