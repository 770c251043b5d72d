-- Six places compare as the ranking does.
use Rattle.std.specs.Prelude.{◌≡◌, ◌∷◌, ◌++◌, ◌-◌, ◌<◌, ◌≤◌}
use Rattle.basics.specs.Words.{refl, sym, ◌∙◌, ap, true, List, [], ℕ, zero, suc, arith, length, get_or, replicate, List·getD-eq-default, dec_lt}
pub use Rattle.basics.proofs.Search.{any_default}
use Rattle.ranking.specs.Harmony.{harmony}
use Rattle.ranking.specs.Rankings.{is_ranking}
use Rattle.ranking.specs.Lemmas.Harmony.{Standing, fewer, same, more, standing, at_fewer, at_more, at_same}
use Rattle.ranking.specs.Lemmas.Rankings.{ranking_facts}
use Rattle.tables.specs.Places.{six_places, SixPlaces}

six_as_list : (r : List ℕ) → length r ≤ 6 → six_places r ≡ r ++ replicate (6 - length r) 6
six_as_list [] h = refl
six_as_list (a ∷ []) h = refl
six_as_list (a ∷ b ∷ []) h = refl
six_as_list (a ∷ b ∷ c ∷ []) h = refl
six_as_list (a ∷ b ∷ c ∷ d ∷ []) h = refl
six_as_list (a ∷ b ∷ c ∷ d ∷ e ∷ []) h = refl
six_as_list (a ∷ b ∷ c ∷ d ∷ e ∷ f ∷ []) h = refl
six_as_list (a ∷ b ∷ c ∷ d ∷ e ∷ f ∷ g ∷ r) h = absurd (omega arith)

-- profiles of at most six counts have none at the place 6
module _ (v w : List ℕ) (hv : length v ≤ 6) (hw : length w ≤ 6) where
  alike : get_or v 6 0 ≡ get_or w 6 0
  alike = List·getD-eq-default v 0 hv ∙ sym (List·getD-eq-default w 0 hw)

  sixes : (n : ℕ) → harmony (replicate n 6) v w ≡ harmony [] v w
  sixes zero = refl
  sixes (suc n) = at_same 6 (replicate n 6) v w alike ∙ sixes n

  with_sixes : (r : List ℕ) (n : ℕ) → harmony (r ++ replicate n 6) v w ≡ harmony r v w
  with_sixes [] n = sixes n
  with_sixes (m ∷ r) n = go (standing (get_or v m 0) (get_or w m 0)) (with_sixes r n)
    where
      go : Standing (get_or v m 0) (get_or w m 0) → harmony (r ++ replicate n 6) v w ≡ harmony r v w → harmony (m ∷ r ++ replicate n 6) v w ≡ harmony (m ∷ r) v w
      go (fewer h) rec = at_fewer m (r ++ replicate n 6) v w h ∙ sym (at_fewer m r v w h)
      go (same h) rec = at_same m (r ++ replicate n 6) v w h ∙ rec ∙ sym (at_same m r v w h)
      go (more h) rec = at_more m (r ++ replicate n 6) v w h ∙ sym (at_more m r v w h)

  pub six_harmony : (r : List ℕ) → length r ≤ 6 → harmony (six_places r) v w ≡ harmony r v w
  six_harmony r h = ap (λ (l : List ℕ). harmony l v w) (six_as_list r h) ∙ with_sixes r (6 - length r)

-- a ranking's six places
pub six_places_lem : (K : ℕ) (r : List ℕ) → K ≤ 6 → is_ranking K r ≡ true → SixPlaces (six_places r)
six_places_lem K r h t = record { size = refl; below = each }
  where
    at : (j : ℕ) → get_or r j 6 < 8
    at j = go (dec_lt j (length r))
      where
        go : Dec (j < length r) → get_or r j 6 < 8
        go (yes q) = omega (arith, any_default r j 6 0 q, (ranking_facts K r t).below j q)
        go (no q) = omega (arith, List·getD-eq-default r 6 {n = j} (omega arith))

    each : (i : ℕ) → get_or (six_places r) i 0 < 8
    each zero = at 0
    each (suc zero) = at 1
    each (suc (suc zero)) = at 2
    each (suc (suc (suc zero))) = at 3
    each (suc (suc (suc (suc zero)))) = at 4
    each (suc (suc (suc (suc (suc zero))))) = at 5
    each (suc (suc (suc (suc (suc (suc i)))))) = omega arith
