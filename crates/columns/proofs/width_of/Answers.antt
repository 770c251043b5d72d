use Rattle.std.specs.Prelude.{◌≡◌, ◌∷◌, ◌+◌, sum}
use Rattle.std.specs.List.{fold}
use Rattle.std.proofs.Common.{rules}
use Rattle.std.proofs.iter.runs.Sources.{sums}
use Rattle.std.proofs.iter.runs.Made.{chains}
use Rattle.basics.proofs.Words.{◌∙◌, List, [], ℕ, arith}
use Rattle.tables.proofs.Counts.{few_counts}
use Rattle.cells.specs.Cells.{places}
use Rattle.columns.specs.Laws.Places.{places_few}
use Rattle.columns.proofs.width_of.Goals as goal

-- the counts added up, to a number
fold_places : (a : ℕ) (l : List ℕ) → fold ◌+◌ a l ≡ a + places l
unfolding places
fold_places a [] = omega arith
fold_places a (q ∷ l) = fold_places (a + q) l ∙ omega arith

pub sum-requires-clause-fits : goal.sum-requires-clause-fits
sum-requires-clause-fits c = let h = few_counts c.requires in search (rules, sums)

pub returns : goal.returns
returns c =
    let counts = c.args.counts.now in
    let e : c.sum.result ≡ sum counts = search (rules, chains) in
    let w : c.sum.result ≡ places counts = e ∙ fold_places 0 counts ∙ omega arith in
    (w, omega (arith, w, places_few c.requires))
