use Rattle.aces_where.proofs.telling.lines_by.Goals as goal

pub returns : goal.returns
returns c = (
  c.in_ok-divided.divided.compartments.items,
  c.in_ok-divided.ensures.compartments,
  rw c.as_slice.ensures.value at c.in_ok-lines.ensures,
)
