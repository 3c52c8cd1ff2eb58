use Rattle.std.proofs.Common.{[], refl, map, string_bytes, Global}
use Rattle.base_outside.specs.Sinks.{sink}
use Rattle.aces_words.specs.Commands.{request_of}
use Rattle.aces_files.specs.Effects.{world}
use Rattle.aces_cli.proofs.Stated.{usage_stated, request_stated}
use Rattle.aces_cli.proofs.aces.Goals as goal

pub returns-in-None : goal.returns-in-None
returns-in-None g c = (
  [],
  refl,
  usage_stated (map (string_bytes {Z = Global}) c.args.words.now) (world g.F.Files c.args.files.now (sink g.O.Sink c.args.out.now))
      (sink g.E.Sink c.args.err.now) (sink g.E.Sink c.say.new.err) c.in-None.ensures.usage c.say.ensures,
)

pub returns-in-Some : goal.returns-in-Some
returns-in-Some g c =
    let of = g.F.Files in
    let d = c.perform-ended.ensures in (
      d.0,
      d.1,
      request_stated (map (string_bytes {Z = Global}) c.args.words.now) (request_of c.in-Some.command) c.in-Some.ensures.command
          (world of c.args.files.now (sink g.O.Sink c.args.out.now)) (world of c.perform-ended.new.files (sink g.O.Sink c.perform-ended.new.out))
          (sink g.E.Sink c.args.err.now) (sink g.E.Sink c.report.new.err) d.0 c.perform-ended.result c.report.result c.report.ensures.status c.report.ensures.line
          d.2 d.4 d.3 c.good_requests.ensures c.bounded_calls.ensures,
    )
