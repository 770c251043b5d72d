-- Cells: a machine's step as two numbers that add up, over the machines, to the numbers of the joint step.
use Rattle.std.specs.Prelude.{◌∷◌, ◌+◌, ◌*◌, ◌/◌, ◌%◌}
use Rattle.basics.specs.Words.{cond, List, [], ℕ, suc, get_or, eqb, product}

-- a high number from here on stands for nothing: 2 ^ 60
abbrev pub nowhere : ℕ
nowhere = 1152921504606846976

-- a step, by its number in a column, as cells: its state times a scale and its marks times a weight; its marks times a weight
unfoldable pub high_cell : ℕ → ℕ → ℕ → ℕ
high_cell scale weight e = cond (eqb e 65535) nowhere (e / 16 * scale + e % 16 * weight)

abbrev pub low_cell : ℕ → ℕ → ℕ
low_cell weight e = e % 16 * weight

-- the weights of machines, three numbers each: what a state counts in a code, what a mark counts in high and in low
abbrev pub scale_of : List ℕ → ℕ → ℕ
scale_of ws m = get_or ws (3 * m) 0

abbrev pub high_of : List ℕ → ℕ → ℕ
high_of ws m = get_or ws (3 * m + 1) 0

abbrev pub low_of : List ℕ → ℕ → ℕ
low_of ws m = get_or ws (3 * m + 2) 0

-- columns of steps, W places each: the step with the output y at a place
abbrev pub step_at : List ℕ → ℕ → ℕ → ℕ → ℕ
step_at steps W y place = get_or steps (y * W + place) 0

-- the cells of the machine m at a place
abbrev pub high_at : (steps ws : List ℕ) (W y m place : ℕ) → ℕ
high_at steps ws W y m place = high_cell (scale_of ws m) (high_of ws m) (step_at steps W y place)

abbrev pub low_at : (steps ws : List ℕ) (W y m place : ℕ) → ℕ
low_at steps ws W y m place = low_cell (low_of ws m) (step_at steps W y place)

-- the sum of the cells of a code's states: of the machines from the number m on, whose state counts these are and whose places start at a place
unfoldable pub cell_sum : (cell : ℕ → ℕ → ℕ) (m at : ℕ) → List ℕ → ℕ → ℕ
cell_sum cell m at [] c = 0
cell_sum cell m at (q ∷ qs) c = cell m (at + c / product qs) + cell_sum cell (suc m) (at + q) qs (c % product qs)

-- state counts added: the places of machines
unfoldable pub places : List ℕ → ℕ
places [] = 0
places (q ∷ qs) = q + places qs
