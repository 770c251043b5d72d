use Rattle.std.specs.Prelude.{◌≡◌, ◌&&◌}
use Rattle.basics.proofs.Words.{not, member}
use Rattle.machine.specs.Symbols.{empty_symbol}
use Rattle.machine.specs.Part.{sound_set}
use Rattle.product.proofs.is_symbol_set.Goals as goal

pub returns : goal.returns
returns c S e =
    let s : c.is_sound.result ≡ sound_set S c.args.set = c.is_sound.ensures S e in
    let h : c.holds.result ≡ member c.args.set empty_symbol = c.holds.ensures empty_symbol c.set_of-empty.ensures in
    λ i. s i && not (h i)
