-- How a caller meets what trying asks: with the columns and the weights of a card's machines, and the joint steps that adding leaves.
use Rattle.std.specs.Prelude.{◌≡◌, ◌+◌, ◌*◌, ◌<◌, ◌≤◌}
use Rattle.basics.specs.Words.{List, ℕ, zero, suc, arith, length, get_or, mul_comm}
use Rattle.machine.specs.Machine.{Machine}
use Rattle.product.specs.Nodes.{state_counts, product}
use Rattle.product.specs.Laws.Nodes.{product_positive}
use Rattle.product.specs.Laws.JointStep.{counts_positive}
use Rattle.tables.specs.Tables.{CardMachines}
use Rattle.cells.specs.declared.Groups.{Groups}
use Rattle.cells.specs.Columns.{HoldsColumns, WeightsOf}
use Rattle.cells.specs.Groups.{GroupsOf, FourAdded}
use Rattle.cells.specs.Labels.{cell_at, OwnCell, next_cell, NextFits}
use Rattle.cells.specs.Laws.Groups.{all_codes, joint_sum}
use Rattle.lanes.specs.Trying.{TryPre, SkipPre}

module _ {S : ℕ} {ms : List Machine} {x W : ℕ} {steps ws : List ℕ} {g : Groups} (M : CardMachines S ms) (H : HoldsColumns ms x W steps) (Z : WeightsOf (state_counts ms) ws) (G : GroupsOf (state_counts ms) g) where
  pub try_pre : {four high low own next : List ℕ} → FourAdded steps four (state_counts ms) ws high low W g → ((j : ℕ) → get_or four j 0 ≤ 64) → (g.front + g.back) * 4 ≤ length high → (g.front + g.back) * 4 ≤ length low → length own ≡ 256 → NextFits next
      → TryPre own next high low g.front g.back
  try_pre J outputs rh rl eo N = record {
    size = eo;
    fits = N;
    few = omega (arith, all_codes G, M.joint_states);
    some = (positive g.front g.back codes_some, positive g.back g.front (rw (mul_comm g.back g.front) codes_some));
    high_room = rh;
    low_room = rl;
    high_few = λ a b j h k l. (joint_sum M H Z G J a b j h k l (outputs j)).high_most;
    low_few = λ a b j h k l. (joint_sum M H Z G J a b j h k l (outputs j)).low_most;
  }
    where
      codes_some : 0 < g.front * g.back
      codes_some = omega (arith, all_codes G, product_positive (state_counts ms) (counts_positive M.sound))

      positive : (m n : ℕ) → 0 < m * n → 0 < m
      positive zero n h = absurd (omega arith)
      positive (suc m) n h = omega arith

  pub skip_pre : {four high low own next : List ℕ} → FourAdded steps four (state_counts ms) ws high low W g → ((j : ℕ) → get_or four j 0 ≤ 64) → ((t : ℕ) → t < product (state_counts ms) → OwnCell (next_cell next t))
      → ((c : ℕ) → c < product (state_counts ms) → OwnCell (cell_at own c)) → SkipPre own next high g.front g.back 0 (g.front * g.back)
  skip_pre J outputs N O = record {
    codes = λ a b j h k l. omega (arith, all_codes G, (joint_sum M H Z G J a b j h k l (outputs j)).code);
    nexts = λ t h. N t (omega (arith, all_codes G));
    owns = λ c h k. O c (omega (arith, all_codes G));
  }
