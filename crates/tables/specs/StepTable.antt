-- A machine's step as one number: where it goes, and its marks.
use Rattle.std.specs.Prelude.{◌+◌, ◌*◌}
use Rattle.basics.specs.Words.{List, Option, some, none, ℕ, get_or}
use Rattle.machine.specs.Machine.{Machine}
pub use Rattle.machine.specs.Machine.{no_machine}

-- a step as one number: the state moved on to times 16, and the marks; 65535 where no arc takes the pair
abbrev pub step_code : Option (ℕ × ℕ) → ℕ
step_code none = 65535
step_code (some r) = r.0 * 16 + r.1

-- the machine of a number, where there is one
abbrev pub machine_at : List Machine → ℕ → Machine
machine_at ms m = get_or ms m no_machine
