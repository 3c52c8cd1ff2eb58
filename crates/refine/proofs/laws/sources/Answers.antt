use Rattle.refine.proofs.laws.sources.Goals as goal

pub returns : goal.returns
returns c = record {
  typed = c.places.ensures;
  cells = c.cells.ensures.types;
  aligned = c.alignment.ensures.aligned;
  found = c.alignment.ensures.found;
  windows = c.windows.ensures;
  functions = c.typed_functions.ensures.fit;
  values = c.values.ensures.sets;
  numbers = c.registers.ensures.numbers;
  pointers = c.registers.ensures.pointers;
  elements = c.registers.ensures.elements;
  contents = c.contents.ensures;
  returns = c.returns.ensures;
  accesses = c.accesses.ensures;
  moves = c.moves.ensures;
  listed = c.accesses-2.ensures;
  inside = c.compartments.ensures.calls;
  own = c.locals.ensures.own;
  numbered = c.locals.ensures.numbered;
}
