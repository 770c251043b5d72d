-- How large the counts of a candidate are: at most 15 marks a pair, and 15 for ending.
use Rattle.std.specs.Prelude.{◌≡◌, ◌∷◌, ◌+◌, ◌*◌, ◌≤◌}
use Rattle.basics.proofs.Words.{refl, sym, ◌∙◌, true, List, [], Option, some, none, Option·none-ne-some, ℕ, suc, arith, length, leb, all_of, both}
use Rattle.std.proofs.Common.{le-leb}
use Rattle.machine.specs.declared.Pair.{Pair}
use Rattle.machine.specs.Machine.{Machine, start_state, step_of, ending_of}
use Rattle.candidate.specs.Candidates.{add_marks, marks_from, marks_of, count_of, profile_of}
use Rattle.product.specs.Laws.JointStep.{Sound, AllSound, all_none, all_next, marks_next, marks_stuck}

marks_bound : {S : ℕ} {m : Machine} → Sound S m → (s : ℕ) (c : List Pair) (n : ℕ) → marks_from m s c ≡ some n → n ≤ 15 * length c + 15
unfolding marks_from
marks_bound {m = m} a s [] n h = omega (arith, a.ends s n (sym (marks_end m s) ∙ h))
  where
    marks_end : (m : Machine) (s : ℕ) → marks_from m s [] ≡ ending_of m s
    marks_end m s = refl
marks_bound {S} {m} a s (p ∷ ps) n h = go (step_of m s p) refl (λ u k l. marks_bound a u ps k l)
  where
    rest : (r : ℕ × ℕ) → r.1 ≤ 15 → (o : Option ℕ) → marks_from m r.0 ps ≡ o → add_marks r.1 o ≡ some n → ((u k : ℕ) → marks_from m u ps ≡ some k → k ≤ 15 * length ps + 15) → n ≤ 15 * suc (length ps) + 15
    rest r b none e q rec = absurd (Option·none-ne-some n q)
    rest r b (some k) e q rec = let z : n ≡ r.1 + k = cc in omega (arith, rec r.0 k e)

    go : (o : Option (ℕ × ℕ)) → step_of m s p ≡ o → ((u k : ℕ) → marks_from m u ps ≡ some k → k ≤ 15 * length ps + 15) → n ≤ 15 * suc (length ps) + 15
    go none e rec = absurd (Option·none-ne-some n (sym (marks_stuck m s p ps e) ∙ h))
    go (some r) e rec = rest r (a.marks s p r e) (marks_from m r.0 ps) refl (sym (marks_next m s p ps r e) ∙ h) rec

pub profile_bound : {S : ℕ} {ms : List Machine} → AllSound S ms → (c : List Pair) (b : ℕ) → 15 * length c + 15 ≤ b → all_of (λ n. leb n b) (profile_of ms c) ≡ true
unfolding all_of profile_of
profile_bound all_none c b h = refl
profile_bound (all_next {m} {ms} a k) c b h = both (le-leb (count_of (marks_of c m)) b (go (marks_of c m) refl)) (profile_bound k c b h)
  where
    go : (o : Option ℕ) → marks_of c m ≡ o → count_of o ≤ b
    go none e = omega arith
    go (some n) e = omega (arith, marks_bound a start_state c n e)
