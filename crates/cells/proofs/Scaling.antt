-- Writing the scales, from the last machine to the first. Assumes nothing.
use Rattle.std.specs.Prelude.{◌≡◌, ◌*◌, ◌<◌, ◌≤◌}
use Rattle.basics.specs.Words.{refl, sym, ◌∙◌, List, ℕ, suc, arith, length, get_or, set, drop, length-set, get_or-set_same, get_or-set_other, mul_comm, ℕ_discrete, product}
use Rattle.tables.specs.Tables.{CountsOfSome}
use Rattle.tables.proofs.Counts.{product_next, product_last, all_positive, few_states_lem}
use Rattle.cells.specs.Cells.{scale_of}
use Rattle.cells.specs.Scales.{ScalesWritten}
use Rattle.cells.specs.Laws.Sums.{product_drop}

-- the machines from m on have their scales; the next one's is `scale`
pub record Scaling (counts xs ys : List ℕ) (scale m : ℕ) : Type 0 where
  pub within : m ≤ length counts
  pub scale_is : scale ≡ product (drop m counts)
  pub written : ScalesWritten counts xs ys m

pub scaling_start : (counts xs : List ℕ) → Scaling counts xs xs 1 (length counts)
scaling_start counts xs = record {
  within = omega arith;
  scale_is = sym (product_last counts (length counts) (omega arith));
  written = record { size = refl; scale = λ k a b. absurd (omega arith); others = λ i h. refl };
}

module _ {counts xs ys : List ℕ} {scale n : ℕ} (C : CountsOfSome counts) (room : 3 * length counts ≤ length xs) (S : Scaling counts xs ys scale n) (m : ℕ) (e : n ≡ suc m) where
  pub place_within : 3 * m < length ys
  place_within = omega (arith, S.within, S.written.size)

  pub scale_few : scale ≤ 128
  scale_few = omega (arith, S.scale_is, product_drop n counts (all_positive C), few_states_lem C)

  module _ (q : ℕ) (is : q ≡ get_or counts m 0) where
    next : scale * q ≡ product (drop m counts)
    next =
        let p : scale ≡ product (drop (suc m) counts) = rw e at S.scale_is in
        mul_comm scale q ∙ sym (product_next counts m (omega (arith, S.within)) ∙ (rw (← is, ← p)))

    pub next_few : scale * q ≤ 128
    next_few = omega (arith, next, product_drop m counts (all_positive C), few_states_lem C)

    pub scaling_next : Scaling counts xs (set ys (3 * m) scale) (scale * q) m
    scaling_next = record {
      within = omega (arith, S.within);
      scale_is = next;
      written = record {
        size = (simp length-set) ∙ S.written.size;
        scale = λ k a b. one k a b (ℕ_discrete k m);
        others = λ i h. get_or-set_other ys (3 * m) i scale 0 (λ z. h (omega arith)) ∙ S.written.others i h;
      };
    }
      where
        one : (k : ℕ) → m ≤ k → k < length counts → Dec (k ≡ m) → scale_of (set ys (3 * m) scale) k ≡ product (drop (suc k) counts)
        one k a b (yes z) = rw z (get_or-set_same ys (3 * m) scale 0 place_within ∙ rw e at S.scale_is)
        one k a b (no z) = get_or-set_other ys (3 * m) (3 * k) scale 0 (λ w. z (omega arith)) ∙ S.written.scale k (omega arith) b

pub scaling_end : {counts xs ys : List ℕ} {scale m : ℕ} → Scaling counts xs ys scale m → m ≤ 0 → ScalesWritten counts xs ys 0
scaling_end {m = m} S h = let e : m ≡ 0 = omega arith in rw e at S.written
