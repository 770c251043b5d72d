use native.Mathlib.Omega.{arith}
use Rattle.tight.proofs.Tests.{test_keeps, keeps_test}
use Rattle.tight.proofs.keeps.Goals as goal

pub overflow_add-result : goal.overflow_add-result
overflow_add-result c = omega (arith, c.requires.fits.high_fits, c.requires.there)

pub overflow_add-result-2 : goal.overflow_add-result-2
overflow_add-result-2 c = omega (arith, c.requires.label)

pub overflow_add-result-3 : goal.overflow_add-result-3
overflow_add-result-3 c =
    omega (arith, c.requires.fits.low_fits, c.requires.low_few)

pub overflow_add-result-4 : goal.overflow_add-result-4
overflow_add-result-4 c =
    omega (arith, c.requires.fits.low_fits, c.requires.low_few)

pub returns : goal.returns
returns c =
    (λ t. test_keeps _ _ _ _ c.requires.there t, λ t. keeps_test _ _ _ _ t)
