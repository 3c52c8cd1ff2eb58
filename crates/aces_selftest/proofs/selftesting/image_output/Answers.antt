use Rattle.std.proofs.Common.{◌≡◌, length, sym, ap, ◌∙◌, subst}
use Rattle.std.proofs.lemmas.List.{length-map}
use Rattle.std.proofs.lemmas.Result.{IfOk-weaker}
use Rattle.ir_model.specs.Plain.{PlainFirmware, firmware_of, global_of}
use Rattle.ir_generator.specs.Made.{made}
use Rattle.aces_files.specs.Tellings.{told_outcome}
use Rattle.aces_files.specs.declared.telling.CommandOutput.{CommandOutput}
use Rattle.aces_selftest.specs.Answers.{SelftestAnswer}
use Rattle.aces_selftest.specs.Tested.{IsTold}
use Rattle.aces_selftest.proofs.Ran.{answered}
use Rattle.aces_selftest.proofs.selftesting.image_output.Goals as goal

pub returns : goal.returns
returns c =
    let seed = c.args.seed in
    let size = c.args.size in
    let w = c.firmware.result.now in
    let t = c.in_ok-tested.tested in
    let same : firmware_of w ≡ made seed size = ap firmware_of c.firmware.ensures.same ∙ c.requires.firmware in
    let globals : length w.globals ≡ length (made seed size).globals = sym (length-map w.globals global_of) ∙ ap (λ (p : PlainFirmware). length p.globals) same in
    let periphs : length w.periphs ≡ length (made seed size).periphs = ap (λ (p : PlainFirmware). length p.periphs) same in
    IfOk-weaker c.tell.result (IsTold (length w.globals) (length w.periphs) t)
    (λ (told : CommandOutput). SelftestAnswer seed size (told_outcome told))
    (λ told h. answered seed size c.args.image.now t told c.in_ok-tested.ensures
    (subst (λ p. IsTold (length (made seed size).globals) p t told) periphs (subst (λ g. IsTold g (length w.periphs) t told) globals h)))
    c.tell.ensures
