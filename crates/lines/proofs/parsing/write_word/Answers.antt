use Rattle.basics.proofs.Words.{refl, ap, sym, ◌∙◌, List, map, ℕ, arith, length, length-take, length-drop, length-set, length-map, sets, all_of, rules}
use Rattle.writing.specs.Text.{comma}
use Rattle.writing.specs.Decimal.{value_of}
use Rattle.lines.specs.Parsing.{is_symbol_text, symbols_in}
use Rattle.writing.proofs.Lists.{all_first, all_rest, sets_next, sets_front}
use Rattle.writing.proofs.Cutting.{segment_first, segment_last, segment_more}
use Rattle.lines.proofs.Forms.{symbol_digits, symbol_small, symbols_none, symbols_some}
use Rattle.lines.proofs.parsing.write_word.Goals as goal

pub returns-then-text-eq0-clause-value : goal.returns-then-text-eq0-clause-value
returns-then-text-eq0-clause-value c = rw (symbols_none _ c.if-text-eq0.true) refl

pub returns-then-text-eq0-clause-word_after : goal.returns-then-text-eq0-clause-word_after
returns-then-text-eq0-clause-word_after c = rw (symbols_none _ c.if-text-eq0.true) refl

pub loop-rest-init : goal.loop-rest-init
loop-rest-init c =
    let q = symbols_some c.args.text.now c.if-text-eq0.false in (
      search rules,
      refl,
      ap (all_of is_symbol_text) (sym q) ∙ c.requires.0,
      omega (arith, ap length q),
      ap (λ (s : List (List ℕ)). sets c.args.word.now 0 (map value_of s)) (sym q),
    )

-- the segment that is written is a symbol
pub value-requires : goal.value-requires
value-requires c =
    let f = symbol_digits _ (all_first is_symbol_text (segment_first comma _ _ c.length_before-n.ensures.0) c.loop-rest.invariant.2) in (f.no_more, f.digits)

pub overflow_cast-word : goal.overflow_cast-word
overflow_cast-word c =
    omega (arith, c.value.ensures, symbol_small _ (all_first is_symbol_text (segment_first comma _ _ c.length_before-n.ensures.0) c.loop-rest.invariant.2))

pub bounds-word-count : goal.bounds-word-count
bounds-word-count c = omega (arith, ap length (segment_first comma _ _ c.length_before-n.ensures.0))

pub returns-then-n-rest-clause-value : goal.returns-then-n-rest-clause-value
returns-then-n-rest-clause-value c = omega (arith, ap length (segment_last comma _ _ c.length_before-n.ensures.0 c.if-n-rest.true))

pub returns-then-n-rest-clause-word_after : goal.returns-then-n-rest-clause-word_after
returns-then-n-rest-clause-word_after c =
    rw c.value.ensures (sets_next _ _ (ap (map value_of) (segment_last comma _ _ c.length_before-n.ensures.0 c.if-n-rest.true)) c.loop-rest.invariant.4)
    ∙ sets_front (map value_of (symbols_in c.args.text.now)) c.args.word.now (simp length-map c.requires.1)

pub loop-rest-preserved : goal.loop-rest-preserved
loop-rest-preserved c =
    let p = segment_more comma _ _ c.length_before-n.ensures.0 c.if-n-rest.false in (
      simp (length-take, length-drop) (omega arith),
      simp length-set c.loop-rest.invariant.1,
      all_rest is_symbol_text p c.loop-rest.invariant.2,
      omega (arith, ap length p),
      rw c.value.ensures (sets_next _ _ (ap (map value_of) p) c.loop-rest.invariant.4),
    )
