use Rattle.basics.proofs.Words.{refl}
use Rattle.walk.proofs.Walking.{front_length, front_room}
use Rattle.walk.proofs.walk_sized.Goals as goal

pub slice_bounds-walk_by-end : goal.slice_bounds-walk_by-end
slice_bounds-walk_by-end g c = front_length g.row.ROOM _ c.requires.2

pub walk_by-requires : goal.walk_by-requires
walk_by-requires g c = (c.requires.0, front_room g.row.ROOM _ _ _ refl c.requires.2 c.requires.1)
