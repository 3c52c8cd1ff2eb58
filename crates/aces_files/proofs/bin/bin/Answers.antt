use Rattle.std.proofs.Common.{◌∙◌, Some, [], refl, sym, subst, append-nil, ◌++◌}
use Rattle.std.proofs.lemmas.List.Elements.{All-append}
use Rattle.std.proofs.lemmas.Result.{err_from_is_err_and}
use Rattle.aces_reports.specs.declared.failure.Done.TheVariants.{Completed}
use Rattle.aces_words.specs.Requests.{Bin, file_origin}
use Rattle.aces_files.specs.Known.{IsCallOf}
use Rattle.aces_files.specs.CarriesOut.{IsKnown, IsKnownLarge}
use Rattle.aces_files.specs.Answers.{AnswerToBin, BinAnswer, no_image, wrote, read}
use Rattle.aces_files.specs.Contents.{IsNoImage}
use Rattle.aces_files.specs.Outcomes.{done}
use Rattle.aces_files.specs.Effects.{world}
use Rattle.aces_files.specs.Loads.{IsContentFailure, IsNotRead}
use Rattle.base_outside.proofs.Paths.{calls_joined}
use Rattle.aces_files.proofs.Asked.{known_before, writes_of}
use Rattle.aces_files.proofs.Ends.{content_refused, did_end}
use Rattle.aces_files.proofs.OneFile.{asked, not_read, refused}
use Rattle.aces_files.proofs.bin.bin.Goals as goal

pub returns-in_err-bytes : goal.returns-in_err-bytes
returns-in_err-bytes g c out =
    let image = c.args.image.now in
    let file = c.args.file.now in
    let s = file_origin image in
    let x = err_from_is_err_and c.from_residual.result c.from_residual.ensures.1 in
    rw x.1 (not_read g.F.Files c.args.files.now c.load.new.files s (Bin image file) refl (BinAnswer image file) out x.0
    (subst (IsNotRead g.F.Files c.args.files.now c.load.new.files s) (sym x.2) c.in_err-bytes.ensures.unread))

pub returns-in_err-image : goal.returns-in_err-image
returns-in_err-image g c out =
    let image = c.args.image.now in
    let file = c.args.file.now in
    let bytes = c.in_ok-bytes.bytes.items in
    let x = err_from_is_err_and c.from_residual-in_err-image.result c.from_residual-in_err-image.ensures.1 in
    let failed = subst (IsContentFailure (IsNoImage bytes) image) (sym x.2) (rw c.as_slice.ensures.value at c.in_err-image.ensures.err) in
    rw x.1 (refused g.F.Files c.args.files.now c.load.new.files (file_origin image) (Bin image file) refl (BinAnswer image file) bytes c.in_ok-bytes.ensures.read out x.0
    (content_refused (BinAnswer image file bytes) (IsNoImage bytes) image (λ f h. no_image f h) x.0 failed))

pub returns-in-Ok : goal.returns-in-Ok
returns-in-Ok g c out =
    let image = c.args.image.now in
    let file = c.args.file.now in
    let i = c.in_ok-image.image in
    let of = g.F.Files in
    let files = c.args.files.now in
    let first = c.in_ok-bytes.ensures.read in
    let last = c.in-Ok.ensures.calls in
    let made = first.calls ++ last.0 in
    let known = known_before of.told (of.held files) first.calls last.0 (file_origin image) c.in_ok-bytes.bytes.items first.known in
    let all = AnswerToBin image file (IsKnown of.told (of.held files) made) (IsKnownLarge of.told (of.held files) made) in (
      made,
      calls_joined of.called files c.load.new.files c.write.new.files first.calls last.0 first.are last.1,
      All-append (IsCallOf (Bin image file)) first.calls last.0 (asked of files c.load.new.files (file_origin image) (Bin image file) refl (BinAnswer image file) first.calls first.reads) (writes_of (Bin image file) file c.as_slice-2.result.now refl last.0 last.2),
      did_end all (Bin image file) (world g.F.Files c.args.files.now out) (world g.F.Files c.write.new.files out)
          (done 0 [] (Some (record { name = file; bytes = i.flash }))) Completed
          (read c.in_ok-bytes.bytes.items _ known (wrote i (rw c.as_slice.ensures.value at c.in_ok-image.ensures.ok)))
          refl refl
          (record {
            printed = λ t. sym (append-nil out.written);
            held = rw (c.as_slice-2.ensures, first.same) at c.in-Ok.ensures.ok;
            read_faults = c.write.ensures.reads ∙ first.read_faults;
            write_faults = c.in-Ok.ensures.writes ∙ first.write_faults;
            faults = refl;
          }),
      tt,
    )

pub returns : goal.returns
returns g c out =
    let image = c.args.image.now in
    let file = c.args.file.now in
    let i = c.in_ok-image.image in
    let of = g.F.Files in
    let files = c.args.files.now in
    let first = c.in_ok-bytes.ensures.read in
    let last = c.in-Err.ensures.calls in
    let made = first.calls ++ last.0 in
    let known = known_before of.told (of.held files) first.calls last.0 (file_origin image) c.in_ok-bytes.bytes.items first.known in (
      made,
      calls_joined of.called files c.load.new.files c.write.new.files first.calls last.0 first.are last.1,
      All-append (IsCallOf (Bin image file)) first.calls last.0 (asked of files c.load.new.files (file_origin image) (Bin image file) refl (BinAnswer image file) first.calls first.reads) (writes_of (Bin image file) file c.as_slice-2.result.now refl last.0 last.2),
      (
        record {
          named = refl;
          rose = rw first.write_faults at c.in-Err.ensures.rose;
          read_faults = c.write.ensures.reads ∙ first.read_faults;
          out = refl;
        },
        record {
          outcome = done 0 [] (Some (record { name = file; bytes = i.flash }));
          answer = read c.in_ok-bytes.bytes.items _ known (wrote i (rw c.as_slice.ensures.value at c.in_ok-image.ensures.ok));
          part = record {
            printed = λ t. (0, sym (append-nil out.written));
            held = rw (c.as_slice-2.ensures, first.same) at c.in-Err.ensures.err;
          };
        },
      ),
      tt,
    )
