use Rattle.readout.proofs.Reading.{read_out_pre, searched_by}
use Rattle.optimizer.proofs.search_sets.Goals as goal

pub read_out-requires : goal.read_out-requires
read_out-requires g c =
    let p = read_out_pre c.requires.0 c.label.ensures in
    (p.0, p.1, c.requires.1)

pub returns : goal.returns
returns g c = searched_by c.label.ensures c.read_out.ensures
