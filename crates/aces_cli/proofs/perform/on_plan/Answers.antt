use Rattle.base_outside.specs.Sinks.{sink}
use Rattle.aces_cli.proofs.perform.on_plan.Goals as goal

pub returns-in-Compile : goal.returns-in-Compile
returns-in-Compile g c = rw c.in-Compile.is (c.compile.ensures (sink g.O.Sink c.args.out.now))

pub returns-in-List : goal.returns-in-List
returns-in-List g c = rw c.in-List.is c.list.ensures

pub returns-in-Stack : goal.returns-in-Stack
returns-in-Stack g c = rw c.in-Stack.is c.stack.ensures

pub returns-in-Who : goal.returns-in-Who
returns-in-Who g c = rw c.in-Who.is c.print_owners.ensures

pub returns-in-Symbols : goal.returns-in-Symbols
returns-in-Symbols g c = rw c.in-Symbols.is c.symbols.ensures

pub returns-in-Explain : goal.returns-in-Explain
returns-in-Explain g c = rw c.in-Explain.is c.explain_plan.ensures
