use Rattle.writing.specs.Writing.{bad_line}
use Rattle.writing.proofs.Writes.{front_place, front_bytes}
use Rattle.writing.proofs.answers.write_bad_line.Goals as goal

pub returns-clause-length : goal.returns-clause-length
unfolding bad_line
returns-clause-length c = front_place c.write_text.ensures

pub returns-clause-out : goal.returns-clause-out
unfolding bad_line
returns-clause-out c = front_bytes c.write_text.ensures c.requires
