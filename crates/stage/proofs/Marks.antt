-- The marks of one constraint, by its place, in a number of six marks.
use Rattle.std.specs.Prelude.{◌≡◌, ◌/◌, ◌%◌}
use Rattle.basics.specs.Words.{refl, sym, ◌∙◌, ap, ℕ, arith, div-one}
use Rattle.paths.specs.Ranked.{count_at}
use Rattle.tables.specs.Marks.{nibbles, marks_cost}

module _ (e : ℕ) {i : ℕ} where
  pub first_marks : i ≡ 0 → e / 1048576 ≡ count_at 6 i (marks_cost e)
  unfolding nibbles
  first_marks q = ap (λ (j : ℕ). count_at 6 j (marks_cost e)) (sym q)

  pub second_marks : i ≡ 1 → e % 1048576 / 65536 ≡ count_at 6 i (marks_cost e)
  unfolding nibbles
  second_marks q = ap (λ (j : ℕ). count_at 6 j (marks_cost e)) (sym q)

  pub third_marks : i ≡ 2 → e % 1048576 % 65536 / 4096 ≡ count_at 6 i (marks_cost e)
  unfolding nibbles
  third_marks q = ap (λ (j : ℕ). count_at 6 j (marks_cost e)) (sym q)

  pub fourth_marks : i ≡ 3 → e % 1048576 % 65536 % 4096 / 256 ≡ count_at 6 i (marks_cost e)
  unfolding nibbles
  fourth_marks q = ap (λ (j : ℕ). count_at 6 j (marks_cost e)) (sym q)

  pub fifth_marks : i ≡ 4 → e % 1048576 % 65536 % 4096 % 256 / 16 ≡ count_at 6 i (marks_cost e)
  unfolding nibbles
  fifth_marks q = ap (λ (j : ℕ). count_at 6 j (marks_cost e)) (sym q)

  pub sixth_marks : i ≡ 5 → e % 1048576 % 65536 % 4096 % 256 % 16 ≡ count_at 6 i (marks_cost e)
  unfolding nibbles
  sixth_marks q = sym (div-one (e % 1048576 % 65536 % 4096 % 256 % 16)) ∙ ap (λ (j : ℕ). count_at 6 j (marks_cost e)) (sym q)

-- the same, by fewer divisions
module _ (e : ℕ) where
  four : e % 65536 ≡ e % 1048576 % 65536
  four = omega arith

  three : e % 4096 ≡ e % 1048576 % 65536 % 4096
  three = let q : e % 4096 ≡ e % 65536 % 4096 = omega arith in q ∙ ap (λ (n : ℕ). n % 4096) four

  two : e % 256 ≡ e % 1048576 % 65536 % 4096 % 256
  two = let q : e % 256 ≡ e % 4096 % 256 = omega arith in q ∙ ap (λ (n : ℕ). n % 256) three

  pub place_0 : e / 1048576 ≡ count_at 6 0 (marks_cost e)
  place_0 = first_marks e refl

  pub place_1 : e % 1048576 / 65536 ≡ count_at 6 1 (marks_cost e)
  place_1 = second_marks e refl

  pub place_2 : e % 65536 / 4096 ≡ count_at 6 2 (marks_cost e)
  place_2 = ap (λ (n : ℕ). n / 4096) four ∙ third_marks e refl

  pub place_3 : e % 4096 / 256 ≡ count_at 6 3 (marks_cost e)
  place_3 = ap (λ (n : ℕ). n / 256) three ∙ fourth_marks e refl

  pub place_4 : e % 256 / 16 ≡ count_at 6 4 (marks_cost e)
  place_4 = ap (λ (n : ℕ). n / 16) two ∙ fifth_marks e refl
