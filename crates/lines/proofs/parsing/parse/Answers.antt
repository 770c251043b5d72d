use Rattle.std.specs.Prelude.{◌≡◌, ◌+◌, ◌-◌, ◌≤◌}
use Rattle.basics.proofs.Words.{sym, ◌∙◌, true, List, ℕ, arith, length, take, drop, length-take, length-drop, length-take-le, le_trans}
use Rattle.lines.specs.Parsing.{is_word_text}
use Rattle.lines.proofs.Forms.{line_long, line_unspaced, line_spaced, parts_unranked, parts_unworded, parts_formed, ranking_digits, word_symbols, parsed, unparsed}
use Rattle.lines.proofs.parsing.parse.Goals as goal

-- the symbols of a line, whose space stands at a place
abbrev symbols : List ℕ → ℕ → List ℕ
symbols l at = take (length l - (at + 1)) (drop (at + 1) l)

few_symbols : (l : List ℕ) (at : ℕ) → length l ≤ 200 → length (symbols l at) ≤ 199
few_symbols l at h = simp (length-take, length-drop) (omega arith)

pub returns-then-line-gt-LINE_BYTES-clause-answer : goal.returns-then-line-gt-LINE_BYTES-clause-answer
returns-then-line-gt-LINE_BYTES-clause-answer c = (unparsed c.args.line.now c.args.ranking.now c.args.word.now (line_long _ c.if-line-gt-LINE_BYTES.true)).0

pub returns-then-line-gt-LINE_BYTES-clause-ranking : goal.returns-then-line-gt-LINE_BYTES-clause-ranking
returns-then-line-gt-LINE_BYTES-clause-ranking c = (unparsed c.args.line.now c.args.ranking.now c.args.word.now (line_long _ c.if-line-gt-LINE_BYTES.true)).1.0

pub returns-then-line-gt-LINE_BYTES-clause-word : goal.returns-then-line-gt-LINE_BYTES-clause-word
returns-then-line-gt-LINE_BYTES-clause-word c = (unparsed c.args.line.now c.args.ranking.now c.args.word.now (line_long _ c.if-line-gt-LINE_BYTES.true)).1.1

pub returns-then-space-line-clause-answer : goal.returns-then-space-line-clause-answer
returns-then-space-line-clause-answer c = (unparsed c.args.line.now c.args.ranking.now c.args.word.now (line_unspaced _ c.if-line-gt-LINE_BYTES.false _ c.length_before-space.ensures.0 c.if-space-line.true)).0

pub returns-then-space-line-clause-ranking : goal.returns-then-space-line-clause-ranking
returns-then-space-line-clause-ranking c = (unparsed c.args.line.now c.args.ranking.now c.args.word.now (line_unspaced _ c.if-line-gt-LINE_BYTES.false _ c.length_before-space.ensures.0 c.if-space-line.true)).1.0

pub returns-then-space-line-clause-word : goal.returns-then-space-line-clause-word
returns-then-space-line-clause-word c = (unparsed c.args.line.now c.args.ranking.now c.args.word.now (line_unspaced _ c.if-line-gt-LINE_BYTES.false _ c.length_before-space.ensures.0 c.if-space-line.true)).1.1

pub returns-then-not-is_ranking_text-clause-answer : goal.returns-then-not-is_ranking_text-clause-answer
returns-then-not-is_ranking_text-clause-answer c = (unparsed c.args.line.now c.args.ranking.now c.args.word.now (line_spaced _ c.if-line-gt-LINE_BYTES.false _ c.length_before-space.ensures.0 c.if-space-line.false ∙ parts_unranked _ _ (sym c.is_ranking_text.ensures ∙ c.if-not-is_ranking_text.true))).0

pub returns-then-not-is_ranking_text-clause-ranking : goal.returns-then-not-is_ranking_text-clause-ranking
returns-then-not-is_ranking_text-clause-ranking c = (unparsed c.args.line.now c.args.ranking.now c.args.word.now (line_spaced _ c.if-line-gt-LINE_BYTES.false _ c.length_before-space.ensures.0 c.if-space-line.false ∙ parts_unranked _ _ (sym c.is_ranking_text.ensures ∙ c.if-not-is_ranking_text.true))).1.0

pub returns-then-not-is_ranking_text-clause-word : goal.returns-then-not-is_ranking_text-clause-word
returns-then-not-is_ranking_text-clause-word c = (unparsed c.args.line.now c.args.ranking.now c.args.word.now (line_spaced _ c.if-line-gt-LINE_BYTES.false _ c.length_before-space.ensures.0 c.if-space-line.false ∙ parts_unranked _ _ (sym c.is_ranking_text.ensures ∙ c.if-not-is_ranking_text.true))).1.1

pub returns-then-not-is_word_text-clause-answer : goal.returns-then-not-is_word_text-clause-answer
returns-then-not-is_word_text-clause-answer c = (unparsed c.args.line.now c.args.ranking.now c.args.word.now (line_spaced _ c.if-line-gt-LINE_BYTES.false _ c.length_before-space.ensures.0 c.if-space-line.false ∙ parts_unworded _ _ (sym c.is_word_text.ensures ∙ c.if-not-is_word_text.true))).0

pub returns-then-not-is_word_text-clause-ranking : goal.returns-then-not-is_word_text-clause-ranking
returns-then-not-is_word_text-clause-ranking c = (unparsed c.args.line.now c.args.ranking.now c.args.word.now (line_spaced _ c.if-line-gt-LINE_BYTES.false _ c.length_before-space.ensures.0 c.if-space-line.false ∙ parts_unworded _ _ (sym c.is_word_text.ensures ∙ c.if-not-is_word_text.true))).1.0

pub returns-then-not-is_word_text-clause-word : goal.returns-then-not-is_word_text-clause-word
returns-then-not-is_word_text-clause-word c = (unparsed c.args.line.now c.args.ranking.now c.args.word.now (line_spaced _ c.if-line-gt-LINE_BYTES.false _ c.length_before-space.ensures.0 c.if-space-line.false ∙ parts_unworded _ _ (sym c.is_word_text.ensures ∙ c.if-not-is_word_text.true))).1.1

pub write_ranking-requires : goal.write_ranking-requires
write_ranking-requires c = let f = ranking_digits _ (sym c.is_ranking_text.ensures ∙ c.if-not-is_ranking_text.false) in (f.digits, le_trans f.no_more c.requires.0)

pub write_word-count-requires : goal.write_word-count-requires
write_word-count-requires c =
    let worded : is_word_text (symbols c.args.line.now c.length_before-space.result) ≡ true = sym c.is_word_text.ensures ∙ c.if-not-is_word_text.false in
    (worded, omega (arith, word_symbols _ worded, few_symbols c.args.line.now c.length_before-space.result c.if-line-gt-LINE_BYTES.false, c.requires.1))

pub returns-clause-answer : goal.returns-clause-answer
returns-clause-answer c =
    (parsed c.args.line.now (take c.length_before-space.result c.args.line.now) (symbols c.args.line.now c.length_before-space.result) c.args.ranking.now c.args.word.now
    (line_spaced _ c.if-line-gt-LINE_BYTES.false _ c.length_before-space.ensures.0 c.if-space-line.false ∙ parts_formed _ _ (sym c.is_ranking_text.ensures ∙ c.if-not-is_ranking_text.false) (sym c.is_word_text.ensures ∙ c.if-not-is_word_text.false))
    (sym (length-take-le _ _ c.length_before-space.ensures.1))
    c.write_ranking.ensures
    c.write_word-count.ensures.value
    c.write_word-count.ensures.word_after).0

pub returns-clause-ranking : goal.returns-clause-ranking
returns-clause-ranking c =
    (parsed c.args.line.now (take c.length_before-space.result c.args.line.now) (symbols c.args.line.now c.length_before-space.result) c.args.ranking.now c.args.word.now
    (line_spaced _ c.if-line-gt-LINE_BYTES.false _ c.length_before-space.ensures.0 c.if-space-line.false ∙ parts_formed _ _ (sym c.is_ranking_text.ensures ∙ c.if-not-is_ranking_text.false) (sym c.is_word_text.ensures ∙ c.if-not-is_word_text.false))
    (sym (length-take-le _ _ c.length_before-space.ensures.1))
    c.write_ranking.ensures
    c.write_word-count.ensures.value
    c.write_word-count.ensures.word_after).1.0

pub returns-clause-word : goal.returns-clause-word
returns-clause-word c =
    (parsed c.args.line.now (take c.length_before-space.result c.args.line.now) (symbols c.args.line.now c.length_before-space.result) c.args.ranking.now c.args.word.now
    (line_spaced _ c.if-line-gt-LINE_BYTES.false _ c.length_before-space.ensures.0 c.if-space-line.false ∙ parts_formed _ _ (sym c.is_ranking_text.ensures ∙ c.if-not-is_ranking_text.false) (sym c.is_word_text.ensures ∙ c.if-not-is_word_text.false))
    (sym (length-take-le _ _ c.length_before-space.ensures.1))
    c.write_ranking.ensures
    c.write_word-count.ensures.value
    c.write_word-count.ensures.word_after).1.1
