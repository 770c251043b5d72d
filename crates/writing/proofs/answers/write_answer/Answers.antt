use Rattle.std.specs.Prelude.{◌≡◌, ◌*◌}
use Rattle.basics.proofs.Words.{ap, ◌∙◌, ℕ, length, take, refl, rules}
use Rattle.writing.proofs.Lists.{take_least}
use Rattle.writing.proofs.Texts.{line_refused, line_accepted}
use Rattle.writing.proofs.answers.write_answer.Goals as goal

pub returns-then-number-ne0 : goal.returns-then-number-ne0
returns-then-number-ne0 g c =
    let line = line_refused c.args.machines c.into-evaluation.result c.args.answer.now c.if-number-ne0.true in
    (c.into-evaluation.result, c.into-evaluation.ensures, rw line c.write_refused.ensures.length, rw line c.write_refused.ensures.out)

pub returns : goal.returns
returns g c =
    let e = c.into-evaluation.result in
    let six : length c.wide_counts-counts.result ≡ 6 = search rules in
    let shown : take c.least-shown.result c.wide_counts-counts.result ≡ take c.args.machines e.profile.counts =
    ap (λ (n : ℕ). take n c.wide_counts-counts.result) c.least-shown.ensures.0 ∙ take_least c.args.machines 6 c.wide_counts-counts.result six ∙ ap (take c.args.machines) c.wide_counts-counts.ensures.0 in
    let used : take c.least-used.result c.args.answer.now ≡ take (2 * e.pairs) c.args.answer.now =
    ap (λ (n : ℕ). take n c.args.answer.now) c.least-used.ensures.0 ∙ take_least (2 * e.pairs) (length c.args.answer.now) c.args.answer.now refl in
    let line = line_accepted c.args.machines e c.args.answer.now c.if-number-ne0.false in
    (e, c.into-evaluation.ensures, rw (line, ← shown, ← used) c.write_accepted.ensures.length, rw (line, ← shown, ← used) c.write_accepted.ensures.out)
