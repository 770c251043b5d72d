-- What a number of a step table says. Assumes nothing.
use Rattle.std.specs.Prelude.{◌≡◌, ◌+◌, ◌*◌, ◌/◌, ◌%◌, ◌<◌, ◌≤◌}
use Rattle.basics.specs.Words.{refl, Option, some, none, ℕ, arith}
use Rattle.tables.specs.StepTable.{step_code}

-- a step to one of at most 32 states, with at most 15 marks
abbrev pub SmallStep : Option (ℕ × ℕ) → Type 0
SmallStep o = (r : ℕ × ℕ) → o ≡ some r → (r.0 < 32) × (r.1 ≤ 15)

-- 65535 says that there is none
pub code_none : (o : Option (ℕ × ℕ)) → SmallStep o → step_code o ≡ 65535 → o ≡ none
code_none none b e = refl
code_none (some r) b e = let k = b r refl in absurd (omega arith)

-- any other number has the state and the marks
pub code_some : (o : Option (ℕ × ℕ)) → SmallStep o → (step_code o ≡ 65535 → ⊥) → o ≡ some (step_code o / 16, step_code o % 16)
code_some none b e = absurd (e refl)
code_some (some r) b e =
    let k = b r refl in
    let s : r.0 ≡ (r.0 * 16 + r.1) / 16 = omega arith in
    let m : r.1 ≡ (r.0 * 16 + r.1) % 16 = omega arith in
    λ i. some (s i, m i)
