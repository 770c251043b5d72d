use Rattle.std.specs.Prelude.{◌≡◌, ◌&&◌, ◌+◌}
use Rattle.basics.proofs.Words.{refl, sym, ◌∙◌, ap, not, ℕ, arith, length, length-replicate, eqb, member, rules}
use Rattle.product.specs.Laws.Setting.{few_codes}
use Rattle.stage_entering.specs.Entering.{codes_at, AheadOf}
use Rattle.cull.proofs.Culling.{tables_kept, SymbolsTried, symbols_start, nodes_there, symbol_reads, input_pre, symbols_next, ahead_stays, symbols_end}
use Rattle.cull.proofs.enter_symbols.Goals as goal

-- ---- what each place asks for
pub look_ahead-requires : goal.look_ahead-requires
look_ahead-requires c =
    let A = c.requires.given in
    let N = nodes_there A symbols_start in
    (N.nodes, N.few, few_codes A.setting, N.stage, length-replicate {A = ℕ} 128 0)

pub loop-left-init : goal.loop-left-init
loop-left-init c = (symbols_start, refl, refl, refl, c.look_ahead.ensures)

pub enter_input-requires : goal.enter_input-requires
enter_input-requires c =
    let v = c.loop-left.invariant in
    let Q = c.requires in
    let m = c.least-symbol.ensures.2 in
    (input_pre Q.given v.0 m (tables_kept v.1 Q.tables) (v.2 ∙ Q.high_size) (v.3 ∙ Q.low_size) v.4, symbol_reads Q.given v.0 m)

pub loop-left-preserved : goal.loop-left-preserved
loop-left-preserved c =
    let v = c.loop-left.invariant in
    let least = c.least-symbol.ensures in (
      symbols_next v.0 least.2 (λ n. c.without_least-left.ensures.1 n ∙ ap (λ (x : ℕ). member c.loop-left.left n && not (eqb n x)) (sym least.0)) c.enter_input.ensures,
      c.enter_input.auto.steps ∙ v.1,
      c.enter_input.auto.high ∙ v.2,
      c.enter_input.auto.low ∙ v.3,
      ahead_stays c.args.at c.enter_input.ensures v.4,
    )

pub returns : goal.returns
returns c = symbols_end c.loop-left.invariant.0 (omega (arith, c.loop-left-test.false))
