-- Laws of the tally after lines: a lesson that is full and one that is not, and what comes after the first line past the thousandth.
use Rattle.std.specs.Prelude.{◌≡◌, ◌∷◌, ◌++◌, ◌≤◌}
use Rattle.basics.proofs.Words.{refl, ap, sym, ◌∙◌, Bool, true, false, List, [], ℕ, zero, suc, zero-le, clash}
use Rattle.card.specs.Layout.{machine_count}
use Rattle.card.specs.Card.{card_refusal}
use Rattle.card.specs.Accepted.{accepted}
use Rattle.tally.specs.declared.Tally.{Tally}
use Rattle.lesson.specs.Printed.{printed}
use Rattle.lesson.specs.Tally.{line_counts, counted, is_full, passed, past_text, line_tally, line_text, lines_tally, lines_text, shown_machines}
pub use Rattle.tally.specs.TallyLaws.{added_length, added_at, counted_past, counted_lines_lem, no_sum_wraps, full_at, open_at, full_passed}

module _ (card : List ℕ) where
  module _ (t : Tally) (l : List ℕ) where
    pub tally_full : is_full t ≡ true → line_tally card t l ≡ passed t
    unfolding line_tally
    tally_full e = rw (line_tally, e)

    pub tally_open : is_full t ≡ false → line_tally card t l ≡ counted t (line_counts card l)
    unfolding line_tally
    tally_open e = rw (line_tally, e)

    pub text_full : is_full t ≡ true → line_text card t l ≡ past_text t.past
    unfolding line_text
    text_full e = rw (line_text, e)

    pub text_open : is_full t ≡ false → line_text card t l ≡ printed card l
    unfolding line_text
    text_open e = rw (line_text, e)

  -- after the first line past the thousandth nothing is counted and nothing printed
  pub passed_tally : (t : Tally) → is_full t ≡ true → (ls : List (List ℕ)) → lines_tally card (passed t) ls ≡ passed t
  unfolding lines_tally
  passed_tally t f [] = refl
  passed_tally t f (l ∷ ls) = ap (λ (u : Tally). lines_tally card u ls) (tally_full (passed t) l (full_passed t f)) ∙ passed_tally t f ls

  pub passed_text : (t : Tally) → is_full t ≡ true → (ls : List (List ℕ)) → lines_text card (passed t) ls ≡ []
  unfolding lines_text
  passed_text t f [] = refl
  passed_text t f (l ∷ ls) =
      ap (λ (x : List ℕ). x ++ lines_text card (line_tally card (passed t) l) ls) (text_full (passed t) l (full_passed t f))
      ∙ ap (λ (u : Tally). lines_text card u ls) (tally_full (passed t) l (full_passed t f))
      ∙ passed_text t f ls

  -- the line that is past the thousandth is known by the tally
  pub past_means : (t : Tally) (l : List ℕ) → t.past ≡ false → (line_tally card t l).past ≡ true → is_full t ≡ true
  past_means t l p h = go (is_full t) refl
    where
      go : (b : Bool) → is_full t ≡ b → is_full t ≡ true
      go true e = e
      go false e =
          let q : (line_tally card t l).past ≡ t.past = ap (λ (u : Tally). u.past) (tally_open t l e) ∙ counted_past t (line_counts card l) in
          absurd (clash h (q ∙ p))

  pub nothing_after : (t : Tally) (l : List ℕ) (ls : List (List ℕ)) → t.past ≡ false → (line_tally card t l).past ≡ true
      → lines_tally card (line_tally card t l) ls ≡ line_tally card t l
  nothing_after t l ls p h =
      let f = past_means t l p h in
      let e = tally_full t l f in
      ap (λ (u : Tally). lines_tally card u ls) e ∙ passed_tally t f ls ∙ sym e

  -- lines one after another
  pub tally_cons : (t : Tally) (l : List ℕ) (ls : List (List ℕ)) → lines_tally card t (l ∷ ls) ≡ lines_tally card (line_tally card t l) ls
  unfolding lines_tally
  tally_cons t l ls = refl

  pub tally_none : (t : Tally) → lines_tally card t [] ≡ t
  unfolding lines_tally
  tally_none t = refl

  pub tally_append : (t : Tally) (xs ys : List (List ℕ)) → lines_tally card t (xs ++ ys) ≡ lines_tally card (lines_tally card t xs) ys
  unfolding lines_tally
  tally_append t [] ys = refl
  tally_append t (x ∷ xs) ys = tally_append (line_tally card t x) xs ys

  -- at most six are shown
  pub shown_few : shown_machines card ≤ 6
  unfolding shown_machines
  shown_few = go (card_refusal card) refl
    where
      go : (n : ℕ) → card_refusal card ≡ n → (elim n as (λ _. ℕ) [ zero ↦ machine_count card | suc n ↦ 0 ]) ≤ 6
      go zero e = (accepted card e).head.counts.machines
      go (suc n) e = zero-le
