use Rattle.base_outside.specs.Sinks.{sink}
use Rattle.aces_cli.proofs.perform.on_image.Goals as goal

pub returns-in-Run : goal.returns-in-Run
returns-in-Run g c = rw c.in-Run.is c.run.ensures

pub returns-in-Bin : goal.returns-in-Bin
returns-in-Bin g c = rw c.in-Bin.is (c.bin.ensures (sink g.O.Sink c.args.out.now))

pub returns-in-Watch : goal.returns-in-Watch
returns-in-Watch g c = rw c.in-Watch.is c.watch.ensures

pub returns-in-State : goal.returns-in-State
returns-in-State g c = rw c.in-State.is c.state.ensures

pub returns-in-Audit : goal.returns-in-Audit
returns-in-Audit g c = rw c.in-Audit.is c.audit_image.ensures

pub returns-in-Tables : goal.returns-in-Tables
returns-in-Tables g c = rw c.in-Tables.is c.tables.ensures
