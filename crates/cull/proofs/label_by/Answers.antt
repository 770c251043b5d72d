use Rattle.basics.proofs.Words.{sym, ◌∙◌, ℕ, arith, length-replicate, rules}
use Rattle.cull.proofs.Listing.{list_ready, cull_ready, lent_ready}
use Rattle.cull.proofs.label_by.Goals as goal

pub label_stages-requires : goal.label_stages-requires
label_stages-requires c =
    let k = c.list_insertions.auto in (
      (c.requires.1.0, cull_ready c.requires.0 c.requires.1.0 c.requires.1.1 (c.list_insertions.ensures _ c.requires.1.1.weights)),
      lent_ready c.requires.0 k.steps (k.high ∙ length-replicate {A = ℕ} 264 0) (k.low ∙ length-replicate {A = ℕ} 264 0),
    )

pub returns : goal.returns
returns c =
    λ ranking R. (c.label_stages.ensures ranking (cull_ready c.requires.0 ranking R (c.list_insertions.ensures _ R.weights))).labels
