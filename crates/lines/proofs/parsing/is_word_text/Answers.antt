use Rattle.basics.proofs.Words.{refl, ap, sym, ◌∙◌, arith, length-take, length-drop, all_of, rules, all_none}
use Rattle.writing.specs.Text.{comma}
use Rattle.lines.specs.Parsing.{is_symbol_text}
use Rattle.writing.proofs.Lists.{all_next, all_fails, all_end}
use Rattle.writing.proofs.Cutting.{segment_first, segment_last, segment_more}
use Rattle.lines.proofs.Forms.{symbols_none, symbols_some}
use Rattle.lines.proofs.parsing.is_word_text.Goals as goal

pub returns-then-text-eq0 : goal.returns-then-text-eq0
returns-then-text-eq0 c = sym (all_none is_symbol_text (symbols_none _ c.if-text-eq0.true))

pub loop-rest-init : goal.loop-rest-init
loop-rest-init c = (search rules, ap (all_of is_symbol_text) (sym (symbols_some _ c.if-text-eq0.false)))

pub returns-then-not-is_symbol_text : goal.returns-then-not-is_symbol_text
returns-then-not-is_symbol_text c =
    all_fails is_symbol_text (segment_first comma _ _ c.length_before-n.ensures.0)
    (sym c.is_symbol_text.ensures ∙ c.if-not-is_symbol_text.true)
    c.loop-rest.invariant.1

pub returns-then-n-rest : goal.returns-then-n-rest
returns-then-n-rest c =
    all_end is_symbol_text refl
    (all_next is_symbol_text (segment_last comma _ _ c.length_before-n.ensures.0 c.if-n-rest.true)
    (sym c.is_symbol_text.ensures ∙ c.if-not-is_symbol_text.false)
    c.loop-rest.invariant.1)

pub loop-rest-preserved : goal.loop-rest-preserved
loop-rest-preserved c = (
  simp (length-take, length-drop) (omega arith),
  all_next is_symbol_text (segment_more comma _ _ c.length_before-n.ensures.0 c.if-n-rest.false)
      (sym c.is_symbol_text.ensures ∙ c.if-not-is_symbol_text.false)
      c.loop-rest.invariant.1,
)
