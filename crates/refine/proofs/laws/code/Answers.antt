use Rattle.refine.proofs.laws.code.Goals as goal

pub returns : goal.returns
returns c = record {
  even = c.sizes.ensures.even;
  aligned = c.compartments.ensures;
  sites = c.sites.ensures;
  items = c.items.ensures;
  functions = c.functions.ensures;
  compartments = c.compartments-2.ensures;
  fit = c.runs.ensures.fit;
  sources = c.sources.ensures;
  loads = c.accesses.ensures.loads;
  stores = c.accesses.ensures.stores;
  widths = c.accesses.ensures.widths;
  branches = c.branches.ensures;
  entry = c.entry.ensures;
  within = c.calls.ensures.within;
  across = c.calls.ensures.across;
  returned = c.calls.ensures.returned;
  returns = c.returns.ensures;
}
