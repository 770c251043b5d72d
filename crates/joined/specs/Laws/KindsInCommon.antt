-- Kinds of arcs: which have a pair in common, and the pairs of the joined kind. Assumes nothing.
use Rattle.std.specs.Prelude.{◌≡◌, ◌&&◌, ◌||◌, ◌⊎◌}
use Rattle.basics.proofs.Words.{refl, sym, ap, ◌∙◌, true, false, not, and-true, and_self, or-true, inl, inr, ℕ, zero, suc, arith, eqb, ltb, left, right, either, fails, clash}
use Rattle.std.proofs.Common.{eqb-true, lt-ltb}
use Rattle.std.proofs.lemmas.Bool.{not-true}
use Rattle.machine.specs.declared.Pair.{Pair}
use Rattle.machine.specs.Symbols.{is_pair}
use Rattle.machine.specs.Machine.{of_kind}
use Rattle.joined.specs.JoinedMachine.{joined_kind}
use Rattle.joined.specs.CommonPairs.{kinds_clash}

-- kinds 1 and 2 have no pair in common
unlike_same : (p : Pair) → (is_pair p && eqb p.input p.output) ≡ true → not (eqb p.input p.output) ≡ true → ⊥
unlike_same p s u = clash (right (is_pair p) (eqb p.input p.output) s) (not-true (eqb p.input p.output) u)

pub no_common_kind : (k l : ℕ) → kinds_clash k l ≡ true → (p : Pair) → of_kind k p ≡ true → of_kind l p ≡ true → ⊥
unfolding of_kind
no_common_kind zero zero t p hk hl = clash t refl
no_common_kind zero (suc zero) t p hk hl = clash t refl
no_common_kind zero (suc (suc l)) t p hk hl = clash t refl
no_common_kind (suc zero) zero t p hk hl = clash t refl
no_common_kind (suc zero) (suc zero) t p hk hl = clash t refl
no_common_kind (suc zero) (suc (suc l)) t p hk hl = unlike_same p hk hl
no_common_kind (suc (suc k)) zero t p hk hl = clash t (nothing k)
  where
    nothing : (k : ℕ) → kinds_clash (suc (suc k)) 0 ≡ false
    nothing k = fails (kinds_clash (suc (suc k)) 0) (λ t. go (either (eqb (suc (suc k)) 1 && ltb 1 0) (ltb 1 (suc (suc k)) && eqb 0 1) t))
      where
        go : ((eqb (suc (suc k)) 1 && ltb 1 0) ≡ true) ⊎ ((ltb 1 (suc (suc k)) && eqb 0 1) ≡ true) → ⊥
        go (inl t) = clash (right (eqb (suc (suc k)) 1) (ltb 1 0) t) refl
        go (inr t) = clash (right (ltb 1 (suc (suc k))) (eqb 0 1) t) refl
no_common_kind (suc (suc k)) (suc zero) t p hk hl = unlike_same p hl hk
no_common_kind (suc (suc k)) (suc (suc l)) t p hk hl = go (either (eqb (suc (suc k)) 1 && ltb 1 (suc (suc l))) (ltb 1 (suc (suc k)) && eqb (suc (suc l)) 1) t)
  where
    go : ((eqb (suc (suc k)) 1 && ltb 1 (suc (suc l))) ≡ true) ⊎ ((ltb 1 (suc (suc k)) && eqb (suc (suc l)) 1) ≡ true) → ⊥
    go (inl t) = omega (arith, eqb-true (suc (suc k)) 1 (left (eqb (suc (suc k)) 1) (ltb 1 (suc (suc l))) t))
    go (inr t) = omega (arith, eqb-true (suc (suc l)) 1 (right (ltb 1 (suc (suc k))) (eqb (suc (suc l)) 1) t))

-- other kinds have those of both, which are those of the joined kind
pub kinds_joined : (k l : ℕ) → kinds_clash k l ≡ false → (p : Pair) → of_kind (joined_kind k l) p ≡ (of_kind k p && of_kind l p)
unfolding of_kind
kinds_joined zero l f p = refl
kinds_joined (suc zero) zero f p = sym (and-true (is_pair p && eqb p.input p.output))
kinds_joined (suc zero) (suc zero) f p = sym (and_self (is_pair p && eqb p.input p.output))
kinds_joined (suc zero) (suc (suc l)) f p = absurd (clash (meets l) f)
  where
    meets : (l : ℕ) → kinds_clash 1 (suc (suc l)) ≡ true
    meets l = ap (λ b. (true && b) || (ltb 1 1 && eqb (suc (suc l)) 1)) (lt-ltb 1 (suc (suc l)) (omega arith))
kinds_joined (suc (suc k)) zero f p = sym (and-true (not (eqb p.input p.output)))
kinds_joined (suc (suc k)) (suc zero) f p = absurd (clash (meets k) f)
  where
    meets : (k : ℕ) → kinds_clash (suc (suc k)) 1 ≡ true
    meets k = ap (λ b. (eqb (suc (suc k)) 1 && ltb 1 1) || (b && true)) (lt-ltb 1 (suc (suc k)) (omega arith)) ∙ or-true (eqb (suc (suc k)) 1 && ltb 1 1)
kinds_joined (suc (suc k)) (suc (suc l)) f p = sym (and_self (not (eqb p.input p.output)))
