use Rattle.std.proofs.Common.{◌∙◌, Some, [], refl, sym, subst, append-nil, ◌++◌}
use Rattle.std.proofs.lemmas.List.Elements.{All-append}
use Rattle.std.proofs.lemmas.Result.{err_from_is_err_and}
use Rattle.aces_reports.specs.declared.failure.Done.TheVariants.{Completed}
use Rattle.aces_words.specs.Requests.{Compile, file_origin, firmware_origin}
use Rattle.aces_files.specs.Answers.{both_read}
use Rattle.aces_files.specs.Known.{IsCallOf}
use Rattle.aces_files.specs.CarriesOut.{IsKnown, IsKnownLarge}
use Rattle.aces_cli.specs.Answer.{AnswerToCompile, CompileAnswer}
use Rattle.aces_files.specs.Outcomes.{done}
use Rattle.aces_files.specs.Effects.{world}
use Rattle.aces_files.specs.Loads.{IsRefusal, AreNotRead}
use Rattle.base_outside.proofs.Paths.{calls_joined}
use Rattle.aces_files.proofs.Asked.{known_before, writes_of}
use Rattle.aces_files.proofs.Ends.{did_end}
use Rattle.aces_files.proofs.TwoFiles.{asked, not_read, refused}
use Rattle.aces_cli.proofs.compile.compile.Goals as goal

pub returns-in_err-both : goal.returns-in_err-both
returns-in_err-both g c out =
    let firmware = c.args.firmware.now in
    let board = c.args.board.now in
    let image = c.args.image.now in
    let policy = c.args.policy in
    let x = err_from_is_err_and c.from_residual.result c.from_residual.ensures.1 in
    rw x.1 (not_read g.F.Files c.args.files.now c.load_firmware_and.new.files (firmware_origin firmware) (file_origin board) (Compile firmware board policy image) refl (CompileAnswer firmware board policy image) out x.0
    (subst (AreNotRead g.F.Files c.args.files.now c.load_firmware_and.new.files (firmware_origin firmware) (file_origin board)) (sym x.2) c.in_err-both.ensures.unread))

pub returns-in_err-compiled : goal.returns-in_err-compiled
returns-in_err-compiled g c out =
    let firmware = c.args.firmware.now in
    let board = c.args.board.now in
    let image = c.args.image.now in
    let policy = c.args.policy in
    let bytes = c.in_ok-both.both.first.items in
    let text = c.in_ok-both.both.second.items in
    let x = err_from_is_err_and c.from_residual-in_err-compiled.result c.from_residual-in_err-compiled.ensures.1 in
    let here = rw (c.as_slice.ensures.value, c.as_slice-2.ensures.value) at c.in_err-compiled.ensures.err in
    rw x.1 (refused g.F.Files c.args.files.now c.load_firmware_and.new.files (firmware_origin firmware) (file_origin board) (Compile firmware board policy image) refl (CompileAnswer firmware board policy image)
    bytes text c.in_ok-both.ensures.read out x.0 (subst (IsRefusal (CompileAnswer firmware board policy image bytes text)) (sym x.2) (here image)))

pub returns-in-Ok : goal.returns-in-Ok
returns-in-Ok g c out =
    let firmware = c.args.firmware.now in
    let board = c.args.board.now in
    let image = c.args.image.now in
    let policy = c.args.policy in
    let bytes = c.in_ok-both.both.first.items in
    let text = c.in_ok-both.both.second.items in
    let written = c.in_ok-compiled.compiled.items in
    let r = Compile firmware board policy image in
    let of = g.F.Files in
    let files = c.args.files.now in
    let read = c.in_ok-both.ensures.read in
    let last = c.in-Ok.ensures.calls in
    let made = read.calls ++ last.0 in
    let known_first = known_before of.told (of.held files) read.calls last.0 (firmware_origin firmware) bytes read.first_known in
    let known = known_before of.told (of.held files) read.calls last.0 (file_origin board) text read.second_known in (
      made,
      calls_joined of.called files c.load_firmware_and.new.files c.write.new.files read.calls last.0 read.are last.1,
      All-append (IsCallOf r) read.calls last.0 (asked of files c.load_firmware_and.new.files (firmware_origin firmware) (file_origin board) r refl (CompileAnswer firmware board policy image) read.calls read.reads)
          (writes_of r image c.as_slice-3.result.now refl last.0 last.2),
      did_end (AnswerToCompile firmware board policy image (IsKnown of.told (of.held files) made) (IsKnownLarge of.told (of.held files) made)) r
          (world of files out) (world of c.write.new.files out)
          (done 0 [] (Some (record { name = image; bytes = written }))) Completed
          (both_read bytes text _ known_first known
          (let here = rw (c.as_slice.ensures.value, c.as_slice-2.ensures.value) at c.in_ok-compiled.ensures.ok in here image))
          refl refl
          (record {
            printed = λ t. sym (append-nil out.written);
            held = rw (c.as_slice-3.ensures.value, read.same) at c.in-Ok.ensures.ok;
            read_faults = c.write.ensures.reads ∙ read.read_faults;
            write_faults = c.in-Ok.ensures.writes ∙ read.write_faults;
            faults = refl;
          }),
      tt,
    )

pub returns : goal.returns
returns g c out =
    let firmware = c.args.firmware.now in
    let board = c.args.board.now in
    let image = c.args.image.now in
    let policy = c.args.policy in
    let bytes = c.in_ok-both.both.first.items in
    let text = c.in_ok-both.both.second.items in
    let written = c.in_ok-compiled.compiled.items in
    let r = Compile firmware board policy image in
    let of = g.F.Files in
    let files = c.args.files.now in
    let read = c.in_ok-both.ensures.read in
    let last = c.in-Err.ensures.calls in
    let made = read.calls ++ last.0 in
    let known_first = known_before of.told (of.held files) read.calls last.0 (firmware_origin firmware) bytes read.first_known in
    let known = known_before of.told (of.held files) read.calls last.0 (file_origin board) text read.second_known in (
      made,
      calls_joined of.called files c.load_firmware_and.new.files c.write.new.files read.calls last.0 read.are last.1,
      All-append (IsCallOf r) read.calls last.0 (asked of files c.load_firmware_and.new.files (firmware_origin firmware) (file_origin board) r refl (CompileAnswer firmware board policy image) read.calls read.reads)
          (writes_of r image c.as_slice-3.result.now refl last.0 last.2),
      (
        record {
          named = refl;
          rose = rw read.write_faults at c.in-Err.ensures.rose;
          read_faults = c.write.ensures.reads ∙ read.read_faults;
          out = refl;
        },
        record {
          outcome = done 0 [] (Some (record { name = image; bytes = written }));
          answer = both_read bytes text _ known_first known
              (let here = rw (c.as_slice.ensures.value, c.as_slice-2.ensures.value) at c.in_ok-compiled.ensures.ok in here image);
          part = record {
            printed = λ t. (0, sym (append-nil out.written));
            held = rw (c.as_slice-3.ensures.value, read.same) at c.in-Err.ensures.err;
          };
        },
      ),
      tt,
    )
