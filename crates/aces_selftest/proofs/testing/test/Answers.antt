use Rattle.std.proofs.Common.{◌≡◌, ℕ, List, ◌+◌, ◌*◌, ◌≤◌, length, ap, sym, subst, ◌∙◌}
use Rattle.ir_model.specs.Plain.{PlainFirmware, firmware_of}
use Rattle.ir_generator.specs.Made.{made}
use Rattle.ir_generator.specs.Taped.{taped}
use Rattle.monitor_model.specs.declared.tables.Tables.{Tables}
use Rattle.aces_compiler.specs.PrintedRuns.{begin}
use Rattle.refine_model.specs.Refines.{step_limit, word_limit}
use Rattle.aces_selftest.specs.Counts.{IsMachineCount}
use Rattle.aces_selftest.specs.Answers.{words_of}
use Rattle.aces_selftest.specs.Tested.{IsSourceTest}
use Rattle.aces_selftest.proofs.Image.{own_sound, few, words, compartments, sites}
use Rattle.aces_selftest.proofs.Ran.{source_count, source_same, image_same}
use Rattle.aces_selftest.proofs.testing.test.Goals as goal

pub sound_tables-requires-clause-sound : goal.sound_tables-requires-clause-sound
sound_tables-requires-clause-sound c = own_sound c.args.seed c.args.size c.args.image.now c.requires.image c.sound.ensures

pub machine_limit-limit-requires : goal.machine_limit-limit-requires
machine_limit-limit-requires c =
    subst (λ n. n ≤ 0x100000) (sym (c.len.ensures ∙ ap (λ (t : Tables). length t.words) c.in_ok-tables.ensures))
    (few c.args.seed c.args.size c.args.image.now c.requires.image c.sound.ensures c.sound_images_are_placed.ensures)

pub returns : goal.returns
returns c =
    let seed = c.args.seed in
    let size = c.args.size in
    let i = c.args.image.now in
    let by = c.requires.image in
    let law = c.sound.ensures in
    let own = c.in_ok-tables.ensures in
    let t = c.in_ok-source.source in
    let m = c.in_ok-machine.machine in
    let n = t.count.steps in
    let source : IsSourceTest (made seed size) (taped seed size) t =
    subst (λ (w : PlainFirmware). IsSourceTest w (taped seed size) t) c.requires.firmware
    (subst (λ (qs : List (List ℕ)). IsSourceTest (firmware_of c.args.firmware.now) qs t) c.in_ok-tape.ensures c.in_ok-source.ensures) in
    let initial = c.len.ensures ∙ ap (λ (s : Tables). length s.words) own ∙ words seed size i by law c.sound_images_are_placed.ensures in
    let limit : c.machine_limit-limit.result ≡ step_limit * (n + 1) + word_limit * words_of seed size i by =
    c.machine_limit-limit.ensures ∙ ap (λ k. step_limit * (n + 1) + word_limit * k) initial in
    let image : IsMachineCount i (step_limit * (n + 1) + word_limit * words_of seed size i by) (begin i (taped seed size)) m =
    subst (λ (qs : List (List ℕ)). IsMachineCount i (step_limit * (n + 1) + word_limit * words_of seed size i by) (begin i qs) m) c.in_ok-tape-2.ensures
    (subst (λ l. IsMachineCount i l (begin i c.in_ok-tape-2.field-0) m) limit c.in_ok-machine.ensures) in
    record {
      by = by;
      functions = source.functions;
      compartments = c.len-2.ensures ∙ ap (λ (s : Tables). length s.comps) own ∙ compartments seed size i by law c.answers.ensures;
      sites = c.len-3.ensures ∙ ap (λ (s : Tables). length s.sites) own ∙ sites seed size i by law c.answers.ensures;
      take = record { source = (source_count seed size i by t source).takes; image = image.takes };
      source = source_same seed size i by t source;
      image = image_same seed size i by (step_limit * (n + 1) + word_limit * words_of seed size i by) m image;
    }
