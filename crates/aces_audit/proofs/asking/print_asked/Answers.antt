use Rattle.std.proofs.Common.{◌≡◌, ℕ, List, [], ◌∷◌, refl, sym, subst}
use Rattle.std.proofs.lemmas.Result.{err_from_is_err_and}
use Rattle.base_outside.specs.Sinks.{sink}
use Rattle.aces_words.specs.Requests.{file_origin, origins}
use Rattle.aces_files.specs.Contents.{IsNoImage}
use Rattle.aces_files.specs.Loads.{IsContentFailure, IsNotRead}
use Rattle.aces_files.proofs.Ends.{content_refused}
use Rattle.aces_files.proofs.OneFile.{not_read, refused, printed}
use Rattle.aces_audit.specs.Answers.{ImageAnswer, no_image}
use Rattle.aces_audit.specs.Asking.{text_of, request_of}
use Rattle.aces_audit.specs.declared.asking.Asked.{Asked}
use Rattle.aces_audit.specs.declared.asking.Asked.TheVariants.{Answer, Tables}
use Rattle.aces_audit.proofs.asking.print_asked.Goals as goal

-- either request reads the image alone
reads_image : (asked : Asked) (image : List ℕ) → origins (request_of asked image) ≡ file_origin image ∷ []
reads_image Answer image = refl
reads_image Tables image = refl

pub returns-in_err-bytes : goal.returns-in_err-bytes
returns-in_err-bytes g c =
    let image = c.args.image.now in
    let asked = c.args.asked in
    let s = file_origin image in
    let x = err_from_is_err_and c.from_residual.result c.from_residual.ensures.1 in
    rw x.1 (not_read g.F.Files c.args.files.now c.load.new.files s (request_of asked image) (reads_image asked image) (ImageAnswer (text_of asked) image) (sink g.O.Sink c.args.out.now) x.0
    (subst (IsNotRead g.F.Files c.args.files.now c.load.new.files s) (sym x.2) c.in_err-bytes.ensures.unread))

pub returns-in_err-told : goal.returns-in_err-told
returns-in_err-told g c =
    let image = c.args.image.now in
    let asked = c.args.asked in
    let s = file_origin image in
    let bytes = c.in_ok-bytes.bytes.items in
    let x = err_from_is_err_and c.from_residual-in_err-told.result c.from_residual-in_err-told.ensures.1 in
    rw x.1 (refused g.F.Files c.args.files.now c.load.new.files s (request_of asked image) (reads_image asked image) (ImageAnswer (text_of asked) image) bytes c.in_ok-bytes.ensures.read (sink g.O.Sink c.args.out.now) x.0
    (content_refused (ImageAnswer (text_of asked) image bytes) (IsNoImage bytes) image (λ f h. no_image f h) x.0
    (subst (IsContentFailure (IsNoImage bytes) image) (sym x.2) (rw c.as_slice.ensures.value at c.in_err-told.ensures.err))))

pub returns : goal.returns
returns g c =
    let image = c.args.image.now in
    let asked = c.args.asked in
    let s = file_origin image in
    let told = c.in_ok-told.told in
    printed g.F.Files c.args.files.now c.load.new.files s (request_of asked image) (reads_image asked image) (ImageAnswer (text_of asked) image) c.in_ok-bytes.bytes.items c.in_ok-bytes.ensures.read
    (sink g.O.Sink c.args.out.now) (sink g.O.Sink c.print.new.out) told.lines.items told.done
    (rw c.as_slice.ensures.value at c.in_ok-told.ensures.ok) c.print.result (rw c.as_slice-2.ensures.value at c.print.ensures)
