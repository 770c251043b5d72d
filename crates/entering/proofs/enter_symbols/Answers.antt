use Rattle.std.specs.Prelude.{◌&&◌}
use Rattle.basics.proofs.Words.{refl, sym, ◌∙◌, ap, not, ℕ, arith, eqb, member}
use Rattle.entering.proofs.Symbols.{blank_position, still_ready, blank_codes, symbols_start, symbols_next, symbols_end}
use Rattle.entering.proofs.enter_symbols.Goals as goal

pub loop-left-init : goal.loop-left-init
loop-left-init c =
    (symbols_start (blank_position c.requires.0.size (blank_codes c.requires.0 c.requires.1)), refl, refl, refl)

pub overflow_cast-symbol : goal.overflow_cast-symbol
overflow_cast-symbol c = omega (arith, c.least-symbol.ensures.1)

pub enter_input-requires : goal.enter_input-requires
enter_input-requires c =
    let b = c.requires.3 c.least-symbol.result (c.loop-left.invariant.0.inside c.least-symbol.result c.least-symbol.ensures.2) in
    (still_ready c.requires.0 c.loop-left.invariant.0.position.size c.loop-left.invariant.1, c.loop-left.invariant.0.position, c.requires.2, b.0, b.1, omega (arith, c.requires.4, c.loop-left.invariant.2), omega (arith, c.requires.5, c.loop-left.invariant.3))

pub loop-left-smaller : goal.loop-left-smaller
loop-left-smaller c = c.without_least-left.ensures.0

pub loop-left-preserved : goal.loop-left-preserved
loop-left-preserved c =
    let x = c.least-symbol.ensures in (
      symbols_next c.args.card.now c.requires.0.accepted x.2 (λ n. c.without_least-left.ensures.1 n ∙ ap (λ (k : ℕ). member c.loop-left.left n && not (eqb n k)) (sym x.0)) c.loop-left.invariant.0 c.enter_input.ensures,
      c.enter_input.auto.steps ∙ c.loop-left.invariant.1,
      c.enter_input.auto.high ∙ c.loop-left.invariant.2,
      c.enter_input.auto.low ∙ c.loop-left.invariant.3,
    )

pub shape_of-own : goal.shape_of-own
shape_of-own c =
    c.loop-left.invariant.0.position.size ∙ sym c.requires.0.size

pub shape_of-steps : goal.shape_of-steps
shape_of-steps c = c.loop-left.invariant.1

pub shape_of-high : goal.shape_of-high
shape_of-high c = c.loop-left.invariant.2

pub shape_of-low : goal.shape_of-low
shape_of-low c = c.loop-left.invariant.3

pub returns : goal.returns
returns c =
    symbols_end c.args.card.now c.requires.0.accepted (omega (arith, c.loop-left-test.false)) (blank_codes c.requires.0 c.requires.1) c.loop-left.invariant.0
