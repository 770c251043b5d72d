use Rattle.basics.proofs.Words.{ap, ◌∙◌, map, length-map, drop_of_length-le}
use Rattle.writing.specs.Decimal.{is_digit, digit_value}
use Rattle.writing.proofs.Lists.{rest_cons, all_first, all_rest, sets_next, sets_end, sets_front}
use Rattle.writing.proofs.Decimals.{digit_facts}
use Rattle.lines.proofs.parsing.write_ranking.Goals as goal

pub overflow_sub-ranking : goal.overflow_sub-ranking
overflow_sub-ranking c = (digit_facts _ (all_first is_digit (rest_cons _ _ 0 c.loop-at-test.true) c.loop-at.invariant.0)).low

pub loop-at-preserved : goal.loop-at-preserved
loop-at-preserved c = (
  all_rest is_digit (rest_cons _ _ 0 c.loop-at-test.true) c.loop-at.invariant.0,
  sets_next _ _ (ap (map digit_value) (rest_cons _ _ 0 c.loop-at-test.true)) c.loop-at.invariant.1,
)

pub returns : goal.returns
returns c =
    sets_end _ _ (ap (map digit_value) (drop_of_length-le _ c.loop-at-test.false)) c.loop-at.invariant.1
    ∙ sets_front (map digit_value c.args.digits.now) c.args.ranking.now (simp length-map c.requires.1)
