use Rattle.aces_cli.proofs.perform.on_firmware.Goals as goal

pub returns-in-Check : goal.returns-in-Check
returns-in-Check g c = rw c.in-Check.is c.check.ensures

pub returns-in-Why : goal.returns-in-Why
returns-in-Why g c = rw c.in-Why.is c.why.ensures

pub returns-in-Source : goal.returns-in-Source
returns-in-Source g c = rw c.in-Source.is c.source.ensures

pub returns-in-Where : goal.returns-in-Where
returns-in-Where g c = rw c.in-Where.is c.locate.ensures

pub returns-in-Explain : goal.returns-in-Explain
returns-in-Explain g c = rw c.in-Explain.is c.explain.ensures
