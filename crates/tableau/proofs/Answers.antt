-- What the call answers, by the checks that input and tableau pass and by the best candidate. Assumes nothing.
use Rattle.std.specs.Prelude.{◌≡◌, ◌∷◌, ◌<◌}
use Rattle.basics.specs.Words.{sym, ap, ◌∙◌, true, List, [], Option, some, none, Option·none-ne-some, ℕ, zero, suc, arith, lit<}
use Rattle.refusals.specs.Refusals.{refuse, first_of}
use Rattle.refusals.proofs.Refusals.{passed, none_first, accepted}
use Rattle.ranking.specs.declared.Profile.{Profile}
use Rattle.card.specs.Layout.{machine_count}
use Rattle.candidate.specs.Candidates.{is_some}
use Rattle.candidate.specs.Evaluating.{profile_with}
use Rattle.product.specs.Best.{Contender, best}
use Rattle.product.specs.Optimizing.{input_refusal}
use Rattle.optimizer.specs.Telling.{profile_told}
use Rattle.tableau.specs.Tableau.{counts_of, every_row, sound_tableau}
use Rattle.rows.specs.Reading.{Readable}
use Rattle.tableau.specs.Judging.{is_for_word, same_counts, counts_are_profile, has_profile_of, verdict_of, verdict_numbers, refused_judging, judging_refusal, judging}
use Rattle.tableau.specs.Laws.Accepted.{tableau_told}
use Rattle.tableau.proofs.Verdicts.{no_case_for_10}

-- 19, 20 and 21
abbrev pub tableau_refusal : List ℕ → List ℕ → List ℕ → ℕ
tableau_refusal card word tableau =
    first_of (refuse 19 (sound_tableau (machine_count card) tableau) ∷ refuse 20 (every_row (is_for_word card word) tableau) ∷ refuse 21 (every_row (counts_are_profile card) tableau) ∷ [])

-- where none of them is met
pub record Passes (card word tableau : List ℕ) : Type 0 where
  pub sound : sound_tableau (machine_count card) tableau ≡ true
  pub candidates : every_row (is_for_word card word) tableau ≡ true

passes : (card word tableau : List ℕ) → tableau_refusal card word tableau ≡ 0 → Passes card word tableau
passes card word tableau e =
    let a = sound_tableau (machine_count card) tableau in
    let b = every_row (is_for_word card word) tableau in
    let c = every_row (counts_are_profile card) tableau in
    let i = none_first (refuse 19 a) (refuse 20 b ∷ refuse 21 c ∷ []) e in
    let j = none_first (refuse 20 b) (refuse 21 c ∷ []) i.1 in
    record { sound = passed 19 a (lit< tt) i.0; candidates = passed 20 b (lit< tt) j.0 }

-- the rows can be read
pub can_be_read : (card word tableau : List ℕ) → tableau_refusal card word tableau ≡ 0 → Readable tableau
can_be_read card word tableau e = (tableau_told (machine_count card) tableau (passes card word tableau e).sound).readable

module _ (card ranking word : List ℕ) (room : ℕ) (tableau : List ℕ) where
  pub input_refused : (n : ℕ) → n ≡ input_refusal card ranking word room → 0 < n → refused_judging n ≡ judging card ranking word room tableau
  unfolding judging judging_refusal
  input_refused zero e h = absurd (omega arith)
  input_refused (suc n) e h = rw (← e)

  module _ (ok : input_refusal card ranking word room ≡ 0) where
    its_refusal : judging_refusal card ranking word room tableau ≡ tableau_refusal card word tableau
    unfolding judging_refusal
    its_refusal = rw ok

    pub tableau_refused : (n : ℕ) → n ≡ tableau_refusal card word tableau → 0 < n → refused_judging n ≡ judging card ranking word room tableau
    unfolding judging
    tableau_refused zero e h = absurd (omega arith)
    tableau_refused (suc n) e h = rw (its_refusal, ← e)

    pub verdict_given : tableau_refusal card word tableau ≡ 0 → verdict_numbers (verdict_of (has_profile_of (best card ranking word)) tableau) ≡ judging card ranking word room tableau
    unfolding judging
    verdict_given e = sym (accepted (verdict_numbers (verdict_of (has_profile_of (best card ranking word)) tableau)) refused_judging (its_refusal ∙ e))

    -- there is a best
    pub some_best : tableau_refusal card word tableau ≡ 0 → is_some (best card ranking word) ≡ true
    some_best e =
        let q = passes card word tableau e in
        ap {A = Option Contender} is_some (no_case_for_10 card ranking word room tableau ok q.sound q.candidates).1

-- the verdict by the profile that the search told
pub by_profile : (o : Option Contender) (p : Profile) (tableau : List ℕ) → some p ≡ profile_told o → verdict_of (λ row. same_counts (counts_of row) p.counts) tableau ≡ verdict_of (has_profile_of o) tableau
by_profile none p tableau e = absurd (Option·none-ne-some p (sym e))
by_profile (some b) p tableau e = let q : p ≡ profile_with b.profile = cc in ap (λ (r : Profile). verdict_of (λ row. same_counts (counts_of row) r.counts) tableau) q
