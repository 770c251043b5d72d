-- Going down the rows with the better of two finds the first row that none beats. Assumes nothing.
use Rattle.std.specs.Prelude.{◌≡◌, ◌∷◌}
use Rattle.basics.proofs.Words.{refl, sym, ap, ◌∙◌, Bool, true, false, not, List, [], Option, some, ℕ, all_of, first_that, not-true, same, both, left, right, clash, fails}
use Rattle.ranking.specs.Harmony.{better, is_better}
use Rattle.ranking.specs.HarmonicInequality.{itself, transitive, not_better}
use Rattle.live.specs.declared.Row.{Row}
use Rattle.live.specs.Rows.{unbeaten, leader_of, lead_answer}
use Rattle.live.specs.Steps.{best_from, leader_down}

module _ (ranking : List ℕ) where
  abbrev beats : Row → Row → Bool
  beats x y = better ranking x.profile.counts y.profile.counts

  none_itself : (x : Row) → beats x x ≡ false
  none_itself x = ap is_better (itself ranking x.profile.counts)

  -- a row that is not better than another beats only what that one beats
  beaten_too : (x y z : Row) → beats x y ≡ false → beats x z ≡ true → beats y z ≡ true
  beaten_too x y z n b = go (beats y z) refl
    where
      go : (t : Bool) → beats y z ≡ t → t ≡ true
      go true e = refl
      go false e = absurd (clash b (not_better ranking x.profile.counts y.profile.counts z.profile.counts n e))

  true_not : {b : Bool} → b ≡ false → not b ≡ true
  true_not e = rw e

  module _ {A : Type 0} where
    first_here : (f : A → Bool) (x : A) (xs : List A) → f x ≡ true → first_that f (x ∷ xs) ≡ some x
    unfolding first_that
    first_here f x xs t = rw (t, first_that)

    first_later : (f : A → Bool) (x : A) (xs : List A) → f x ≡ false → first_that f (x ∷ xs) ≡ first_that f xs
    unfolding first_that
    first_later f x xs t = rw (t, first_that)

  -- of two rows at the front, the one that is beaten, or that comes later among equals, beats nothing that the other does not
  loser_first : (b r : Row) (rows : List Row) (y : Row) → beats r b ≡ true → unbeaten ranking (b ∷ r ∷ rows) y ≡ unbeaten ranking (r ∷ rows) y
  unfolding all_of
  loser_first b r rows y w =
      same (unbeaten ranking (b ∷ r ∷ rows) y) (unbeaten ranking (r ∷ rows) y)
      (λ t. right (not (beats b y)) (unbeaten ranking (r ∷ rows) y) t)
      (λ t. both (true_not (fails (beats b y) (λ e. clash (transitive ranking r.profile.counts b.profile.counts y.profile.counts w e) (not-true (beats r y) (left (not (beats r y)) (unbeaten ranking rows y) t))))) t)

  loser_second : (b r : Row) (rows : List Row) (y : Row) → beats r b ≡ false → unbeaten ranking (b ∷ r ∷ rows) y ≡ unbeaten ranking (b ∷ rows) y
  unfolding all_of
  loser_second b r rows y n =
      same (unbeaten ranking (b ∷ r ∷ rows) y) (unbeaten ranking (b ∷ rows) y)
      (λ t. both (left (not (beats b y)) (unbeaten ranking (r ∷ rows) y) t) (right (not (beats r y)) (unbeaten ranking rows y) (right (not (beats b y)) (unbeaten ranking (r ∷ rows) y) t)))
      (λ t.
      let l = left (not (beats b y)) (unbeaten ranking rows y) t in
      both l (both (true_not (fails (beats r y) (λ e. clash (beaten_too r b y n e) (not-true (beats b y) l)))) (right (not (beats b y)) (unbeaten ranking rows y) t)))

  -- what none beats makes one that it does not beat unbeaten too
  unbeaten_too : (b r : Row) (rows : List Row) → beats r b ≡ false → unbeaten ranking rows r ≡ true → unbeaten ranking rows b ≡ true
  unfolding all_of
  unbeaten_too b r [] n t = refl
  unbeaten_too b r (x ∷ rows) n t =
      both
      (true_not (not_better ranking x.profile.counts r.profile.counts b.profile.counts (not-true (beats x r) (left (not (beats x r)) (unbeaten ranking rows r) t)) n))
      (unbeaten_too b r rows n (right (not (beats x r)) (unbeaten ranking rows r) t))

  best_found : (best : Row) (rows : List Row) → some (best_from ranking best rows) ≡ leader_of ranking (best ∷ rows)
  unfolding best_from all_of
  best_found best [] = sym (first_here (unbeaten ranking (best ∷ [])) best [] (both (true_not (none_itself best)) refl))
  best_found best (r ∷ rows) = go (beats r best) refl (best_found r rows) (best_found best rows)
    where
      P : Row → Bool
      P = unbeaten ranking (best ∷ r ∷ rows)

      go : (t : Bool) → beats r best ≡ t → some (best_from ranking r rows) ≡ leader_of ranking (r ∷ rows) → some (best_from ranking best rows) ≡ leader_of ranking (best ∷ rows)
          → some (best_from ranking best (r ∷ rows)) ≡ first_that P (best ∷ r ∷ rows)
      go true t k k' =
          let lost : P best ≡ false = fails (P best) (λ u. clash t (not-true (beats r best) (left (not (beats r best)) (unbeaten ranking rows best) (right (not (beats best best)) (unbeaten ranking (r ∷ rows) best) u)))) in
          let eq : P ≡ unbeaten ranking (r ∷ rows) = λ i y. loser_first best r rows y t i in
          let chosen : best_from ranking best (r ∷ rows) ≡ best_from ranking r rows = rw t in
          ap {B = Option Row} some chosen ∙ k ∙ sym (first_later P best (r ∷ rows) lost ∙ ap (λ (f : Row → Bool). first_that f (r ∷ rows)) eq)
      go false t k k' = last (P best) refl
        where
          eq : P ≡ unbeaten ranking (best ∷ rows)
          eq = λ i y. loser_second best r rows y t i

          chosen : best_from ranking best (r ∷ rows) ≡ best_from ranking best rows
          chosen = rw t

          last : (u : Bool) → P best ≡ u → some (best_from ranking best (r ∷ rows)) ≡ first_that P (best ∷ r ∷ rows)
          last true u =
              ap {B = Option Row} some chosen ∙ k' ∙ first_here (unbeaten ranking (best ∷ rows)) best rows (ap (λ (f : Row → Bool). f best) (sym eq) ∙ u) ∙ sym (first_here P best (r ∷ rows) u)
          last false u =
              let lost : P r ≡ false = fails (P r) (λ v. clash (unbeaten_too best r (best ∷ r ∷ rows) t v) u) in
              let shorter : first_that P (best ∷ rows) ≡ first_that P rows = first_later P best rows u in
              ap {B = Option Row} some chosen ∙ k' ∙ ap (λ (f : Row → Bool). first_that f (best ∷ rows)) (sym eq) ∙ shorter
              ∙ sym (first_later P best (r ∷ rows) u ∙ first_later P r rows lost)

  pub leader_found : (rows : List Row) → leader_down ranking rows ≡ lead_answer (leader_of ranking rows)
  unfolding leader_down first_that
  leader_found [] = refl
  leader_found (row ∷ rows) = ap lead_answer (best_found row rows)
