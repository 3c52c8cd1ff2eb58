use Rattle.std.proofs.Common.{map, string_bytes, Global}
use Rattle.aces_words.specs.Requests.{IsUsage}
use Rattle.aces_words.proofs.Words.{none_also}
use Rattle.aces_words.proofs.Usage.{no_request}
use Rattle.aces_words.proofs.command.Command.of_words.Goals as goal

pub returns-clause-usage : goal.returns-clause-usage
returns-clause-usage c =
    let words = map (string_bytes {Z = Global}) c.args.words.now in
    none_also c.selftest_of.result _ (IsUsage words)
    (no_request words c.in_default.ensures.none c.in_default-firmware_command.ensures.none c.in_default-plan_command.ensures.none c.in_default-help_of.ensures.none)
    c.selftest_of.ensures.none
