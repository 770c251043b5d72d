use Rattle.std.specs.Prelude.{◌≡◌, ◌∷◌, ◌+◌, sum}
use Rattle.std.proofs.lemmas.List.Sums.{sum_by-cons}
use Rattle.basics.proofs.Words.{refl, ap, ◌∙◌, List, [], ℕ, rules}
use Rattle.layout.specs.Packing.{total}
use Rattle.layout.proofs.packing.sum.Goals as goal

sum_total : (ns : List ℕ) → sum ns ≡ total ns
unfolding total
sum_total [] = refl
sum_total (n ∷ ns) = sum_by-cons (λ (x : ℕ). x) n ns ∙ ap (λ (m : ℕ). n + m) (sum_total ns)

pub returns : goal.returns
returns c =
    let e : c.sum.result ≡ sum c.args.lengths.now = search rules in
    e ∙ sum_total c.args.lengths.now
