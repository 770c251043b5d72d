-- What refusal 27 tells, and the checks before the target. Assumes nothing.
use Rattle.std.specs.Prelude.{◌≡◌, ◌&&◌, ◌||◌, ◌∷◌, ◌⊎◌, ◌<◌}
use Rattle.basics.proofs.Words.{refl, ap, ◌∙◌, Bool, true, false, not, List, [], inl, inr, ℕ, arith, eqb, ltb, lit<, left, right, either}
use Rattle.std.proofs.lemmas.Bool.{eqb-false, not-true}
use Rattle.std.proofs.Common.{ltb-true, ltb-false}
use Rattle.refusals.specs.Refusals.{refuse}
use Rattle.refusals.proofs.Refusals.{passed, none_first}
use Rattle.machine.specs.Machine.{Machine}
use Rattle.card.specs.Layout.{machine_count}
use Rattle.card.specs.Card.{machines_of, card_refusal}
use Rattle.product.specs.Laws.Accepted.{accepted_machines}
use Rattle.join.specs.JoinedMachine.{machine_at, markless}
use Rattle.join.specs.JoinedCard.{lower, other, joinable, join_fits, machines_refusal}
use Rattle.join.specs.Writing.{CardJoins}

-- two different machines of a card
pub record TwoMachines (K a b : ℕ) : Type 0 where
  pub apart : a ≡ b → ⊥
  pub first : a < K
  pub second : b < K

-- one of two machines has no marks
abbrev pub OneMarkless : List Machine → ℕ → ℕ → Type 0
OneMarkless ms a b = (markless (machine_at ms a) ≡ true) ⊎ (markless (machine_at ms b) ≡ true)

pub joinable_facts : (card : List ℕ) (a b : ℕ) → joinable card a b ≡ true → TwoMachines (machine_count card) a b × OneMarkless (machines_of card) a b
unfolding joinable
joinable_facts card a b t =
    let differ = not (eqb a b) in
    let la = ltb a (machine_count card) in
    let lb = ltb b (machine_count card) in
    let ma = markless (machine_at (machines_of card) a) in
    let mb = markless (machine_at (machines_of card) b) in
    let t3 = left (differ && la && lb) (ma || mb) t in
    let t2 = left (differ && la) lb t3 in (
      record {
        apart = eqb-false a b (not-true (eqb a b) (left differ la t2));
        first = ltb-true a (machine_count card) (right differ la t2);
        second = ltb-true b (machine_count card) (right (differ && la) lb t3);
      },
      either ma mb (right (differ && la && lb) (ma || mb) t),
    )

-- the lower of the two, and the other one
in_order : (ms : List Machine) (a b : ℕ) → OneMarkless ms a b → OneMarkless ms (lower a b) (other a b)
in_order ms a b = go (ltb a b) refl
  where
    at : {k m : ℕ} → m ≡ k → markless (machine_at ms k) ≡ true → markless (machine_at ms m) ≡ true
    at e h = ap (λ k. markless (machine_at ms k)) e ∙ h

    go : (t : Bool) → ltb a b ≡ t → OneMarkless ms a b → OneMarkless ms (lower a b) (other a b)
    go true t (inl h) = inl (at (omega (arith, ltb-true a b t)) h)
    go true t (inr h) = inr (at (omega (arith, ltb-true a b t)) h)
    go false t (inl h) = inr (at (omega (arith, ltb-false a b t)) h)
    go false t (inr h) = inl (at (omega (arith, ltb-false a b t)) h)

-- what the checks 1 to 6, 27 and 28 tell
pub may_join : (card : List ℕ) (a b : ℕ) → machines_refusal card a b ≡ 0 → CardJoins card (lower a b) (other a b)
unfolding machines_refusal join_fits
may_join card a b e =
    let n27 = refuse 27 (joinable card a b) in
    let n28 = refuse 28 (join_fits card a b) in
    let h1 = none_first (card_refusal card) (n27 ∷ n28 ∷ []) e in
    let h27 = none_first n27 (n28 ∷ []) h1.1 in
    let h28 = none_first n28 [] h27.1 in
    let facts = joinable_facts card a b (passed 27 (joinable card a b) (lit< tt) h27.0) in
    let two = facts.0 in
    record {
      accepted = h1.0;
      may = record {
        order = omega (arith, two.apart);
        within = omega (arith, two.first, two.second, (accepted_machines card h1.0).count);
        unmarked = in_order (machines_of card) a b facts.1;
        fits = passed 28 (join_fits card a b) (lit< tt) h28.0;
      };
    }
