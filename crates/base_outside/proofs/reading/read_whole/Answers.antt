use Rattle.std.proofs.Common.{◌≡◌, ◌≤◌, ◌∙◌, [], ◌∷◌, length, take, Some, None, refl, ap, sym, subst, arith}
use Rattle.std.proofs.lemmas.Result.{err_from_is_err_and}
use Rattle.std.proofs.lemmas.List.Elements.{All-nil, All-cons}
use Rattle.std.proofs.lemmas.List.{length-take-le, take_at}
use Rattle.base_outside.specs.Calls.{Size}
use Rattle.base_outside.specs.Reading.{Reads, AllPieces, no_size}
use Rattle.base_outside.proofs.Paths.{calls_one, unread_behind}
use Rattle.base_outside.proofs.Refusals.{failed_not_length, failed_not_memory, memory_not_failed, memory_not_length, length_not_memory, length_not_failed, read_not_refused}
use Rattle.base_outside.specs.declared.reading.ReadRefusal.TheVariants.{TooLong, Failed, NoMemory}
use Rattle.base_outside.proofs.reading.read_whole.Goals as goal

pub returns-in_err-size-clause-calls : goal.returns-in_err-size-clause-calls
returns-in_err-size-clause-calls g c =
    let x = err_from_is_err_and c.from_residual.result c.from_residual.ensures.1 in (
      Size c.args.name.now None ∷ [],
      calls_one g.F.Files.called c.args.files.now c.size.new.self (Size c.args.name.now None) c.in_err-size.ensures.answer,
      All-cons (Reads c.args.name.now) _ [] refl (All-nil (Reads c.args.name.now)),
      rw x.1 tt,
      λ e. absurd (failed_not_length c.from_residual.result x.0 x.1 x.2 e),
      λ e. absurd (failed_not_memory c.from_residual.result x.0 x.1 x.2 e),
      λ e. no_size [],
    )

pub returns-then-limit-size-clause-calls : goal.returns-then-limit-size-clause-calls
returns-then-limit-size-clause-calls g c =
    let size = c.in_ok-size.size in (
      Size c.args.name.now (Some size) ∷ [],
      calls_one g.F.Files.called c.args.files.now c.size.new.self (Size c.args.name.now (Some size)) c.in_ok-size.ensures.answer,
      All-cons (Reads c.args.name.now) _ [] refl (All-nil (Reads c.args.name.now)),
      tt,
      λ e. (size, refl, c.if-limit-size.true),
      λ e. absurd (length_not_memory _ refl e),
      λ e. absurd (length_not_failed _ refl e),
    )

pub returns-in_err-bytes-clause-calls : goal.returns-in_err-bytes-clause-calls
returns-in_err-bytes-clause-calls g c =
    let size = c.in_ok-size.size in
    let x = err_from_is_err_and c.from_residual-in_err-bytes.result c.from_residual-in_err-bytes.ensures.1 in (
      Size c.args.name.now (Some size) ∷ [],
      calls_one g.F.Files.called c.args.files.now c.size.new.self (Size c.args.name.now (Some size)) c.in_ok-size.ensures.answer,
      All-cons (Reads c.args.name.now) _ [] refl (All-nil (Reads c.args.name.now)),
      rw x.1 tt,
      λ e. absurd (memory_not_length c.from_residual-in_err-bytes.result x.0 x.1 x.2 e),
      λ e. (size, refl, c.if-limit-size.false),
      λ e. absurd (memory_not_failed c.from_residual-in_err-bytes.result x.0 x.1 x.2 e),
    )

pub returns-in_err-filled-clause-calls : goal.returns-in_err-filled-clause-calls
returns-in_err-filled-clause-calls g c =
    let size = c.in_ok-size.size in
    let x = err_from_is_err_and c.from_residual-in_err-filled.result c.from_residual-in_err-filled.ensures.1 in (
      Size c.args.name.now (Some size) ∷ c.in_err-filled.ensures.calls.0,
      (c.size.new.self, c.in_ok-size.ensures.answer, c.in_err-filled.ensures.calls.1),
      All-cons (Reads c.args.name.now) _ c.in_err-filled.ensures.calls.0 refl c.in_err-filled.ensures.calls.2,
      rw x.1 tt,
      λ e. absurd (failed_not_length c.from_residual-in_err-filled.result x.0 x.1 x.2 e),
      λ e. absurd (failed_not_memory c.from_residual-in_err-filled.result x.0 x.1 x.2 e),
      λ e. unread_behind (Size c.args.name.now (Some size) ∷ []) c.in_err-filled.ensures.calls.0 c.args.name.now c.in_err-filled.ensures.calls.4,
    )

pub returns-clause-calls : goal.returns-clause-calls
returns-clause-calls g c =
    let size = c.in_ok-size.size in
    let reads = c.in_ok-filled.ensures.calls.0 in
    let name = c.args.name.now in
    let filled = c.in_ok-filled.filled in
    let read = c.fill.new.buf in
    let long : length read ≡ c.in_ok-bytes.bytes.len = omega (arith, c.fill.auto.buf, c.deref_mut.ensures.len) in
    let asked : length c.deref_mut.result.now ≡ size = omega (arith, c.in_ok-bytes.ensures.len, c.deref_mut.ensures.len) in
    let fits : filled ≤ length read = omega (arith, c.in_ok-filled.ensures.fits, c.fill.auto.buf) in
    let few : length (take filled read) ≤ size = omega (arith, length-take-le filled read fits, c.in_ok-filled.ensures.fits, asked) in
    let are : c.truncate.new.self.items ≡ take filled read = c.truncate.ensures.items ∙ ap (take filled) (take_at read _ c.in_ok-bytes.bytes.len long) in (
      Size name (Some size) ∷ reads,
      (c.size.new.self, c.in_ok-size.ensures.answer, c.in_ok-filled.ensures.calls.1),
      All-cons (Reads name) _ reads refl c.in_ok-filled.ensures.calls.2,
      record {
        size = size;
        reads = reads;
        are = refl;
        within = c.if-limit-size.false;
        pieces = subst (AllPieces name size reads) (sym are) (subst (λ n. AllPieces name n reads (take filled read)) asked c.in_ok-filled.ensures.calls.3);
        few = subst (λ t. length t ≤ size) (sym are) few;
      },
      λ e. absurd (read_not_refused c.truncate.new.self TooLong e),
      λ e. absurd (read_not_refused c.truncate.new.self NoMemory e),
      λ e. absurd (read_not_refused c.truncate.new.self Failed e),
    )
