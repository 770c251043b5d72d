use Rattle.basics.proofs.Words.{◌∙◌}
use Rattle.symbols.specs.Laws.Partners.{any_partners, same_partners, unlike_partners}
use Rattle.symbols.proofs.sets.of_kind.Goals as goal

pub returns-then-kind-eq0 : goal.returns-then-kind-eq0
returns-then-kind-eq0 c x e = any_partners _ _ _ c.if-kind-eq0.true

pub returns-then-kind-eq1 : goal.returns-then-kind-eq1
returns-then-kind-eq1 c x e = c.without_empty.ensures ∙ same_partners _ _ _ _ c.if-kind-eq1.true e

pub returns : goal.returns
returns c x e = c.without.ensures x e ∙ unlike_partners _ _ _ c.if-kind-eq0.false c.if-kind-eq1.false
