use Rattle.std.proofs.Common.{◌≡◌, ◌<◌, ◌≤◌, ◌+◌, ◌-◌, ◌∙◌, ℕ, List, [], ◌∷◌, ◌++◌, Some, None, take, length, IfSome, refl, ap, sym, subst, arith}
use Rattle.std.proofs.lemmas.List.{length-take-le}
use Rattle.std.proofs.lemmas.List.Elements.{All-nil, All-push}
use Rattle.std.proofs.lemmas.Result.{err_from_is_err_and}
use borrow.Rule.Slice.PartMut.{put_mid}
use Rattle.std.proofs.lemmas.Grind.{common_steps}
use Rattle.base_outside.specs.Calls.{Read}
use Rattle.base_outside.specs.Reading.{Reads, Pieces, AllPieces, none, full, no_bytes}
use Rattle.base_outside.proofs.Paths.{calls_more}
use Rattle.base_outside.proofs.Filling.{filled, filled_stays, fills_none, fills_more, pieces_more, pieces_ended}
use Rattle.base_outside.proofs.reading.fill.Goals as goal

pub loop-filled-init : goal.loop-filled-init
loop-filled-init g c = record {
  fits = omega arith;
  bytes = λ _. fills_none (g.F.Files.held c.args.files.now c.args.name.now);
  calls = ([], refl, All-nil (Reads c.args.name.now), none);
  same = refl;
  reads = refl;
  writes = refl;
}

pub loop-filled-preserved : goal.loop-filled-preserved
loop-filled-preserved g c =
    let within : c.loop-filled.filled ≤ length c.loop-filled.buf = omega arith
    in let fits : c.in_ok-n.n ≤ length c.read_at.new.buf = omega (arith, c.in_ok-n.ensures.fits, c.read_at.auto.buf)
    in let some : 0 < length (take c.in_ok-n.n c.read_at.new.buf) = subst (λ (m : ℕ). 0 < m) (sym (length-take-le c.in_ok-n.n c.read_at.new.buf fits)) (omega arith)
    in let now : take (c.loop-filled.filled + c.in_ok-n.n)
    (put_mid c.loop-filled.filled (length c.loop-filled.buf - c.loop-filled.filled) c.loop-filled.buf c.read_at.new.buf)
    ≡ take c.loop-filled.filled c.loop-filled.buf ++ take c.in_ok-n.n c.read_at.new.buf =
    filled c.loop-filled.filled c.in_ok-n.n (length c.loop-filled.buf - c.loop-filled.filled) c.loop-filled.buf
    c.read_at.new.buf within fits
    in record {
      fits = grind (arith, common_steps, c.in_ok-n.ensures.fits);
      bytes = λ told. subst
          (λ (t : List ℕ). IfSome (g.F.Files.held c.args.files.now c.args.name.now)
          (λ bytes. t ≡ take (c.loop-filled.filled + c.in_ok-n.n) bytes)) (sym now)
          (fills_more (g.F.Files.held c.args.files.now c.args.name.now) c.loop-filled.filled c.in_ok-n.n
          (take c.loop-filled.filled c.loop-filled.buf) c.read_at.new.buf
          (c.loop-filled.invariant.bytes told)
          (let read = c.in_ok-n.ensures.bytes told in rw c.loop-filled.invariant.same at read));
      calls = (
        c.loop-filled.invariant.calls.0 ++ Read c.args.name.now c.loop-filled.filled (Some (take c.in_ok-n.n c.read_at.new.buf)) ∷ [],
        calls_more g.F.Files.called c.args.files.now c.loop-filled.files c.read_at.new.self c.loop-filled.invariant.calls.0 _
            c.loop-filled.invariant.calls.1 c.in_ok-n.ensures.answer,
        All-push (Reads c.args.name.now) c.loop-filled.invariant.calls.0 _ c.loop-filled.invariant.calls.2 refl,
        subst (λ (t : List ℕ). Pieces c.args.name.now (c.loop-filled.invariant.calls.0 ++ Read c.args.name.now c.loop-filled.filled (Some (take c.in_ok-n.n c.read_at.new.buf)) ∷ []) t) (sym now)
            (pieces_more c.args.name.now c.loop-filled.invariant.calls.0 c.loop-filled.filled c.loop-filled.buf
            (take c.in_ok-n.n c.read_at.new.buf) within c.loop-filled.invariant.calls.3 some),
      );
      same = c.in_ok-n.ensures.same ∙ c.loop-filled.invariant.same;
      reads = c.in_ok-n.ensures.reads.only_failed ∙ c.loop-filled.invariant.reads;
      writes = c.in_ok-n.ensures.writes ∙ c.loop-filled.invariant.writes;
    }

pub returns-in_err-n-clause-calls : goal.returns-in_err-n-clause-calls
returns-in_err-n-clause-calls g c =
    let x = err_from_is_err_and c.from_residual.result c.from_residual.ensures.1 in (
      c.loop-filled.invariant.calls.0 ++ Read c.args.name.now c.loop-filled.filled None ∷ [],
      calls_more g.F.Files.called c.args.files.now c.loop-filled.files c.read_at.new.self c.loop-filled.invariant.calls.0 _
          c.loop-filled.invariant.calls.1 c.in_err-n.ensures.answer,
      All-push (Reads c.args.name.now) c.loop-filled.invariant.calls.0 _ c.loop-filled.invariant.calls.2 refl,
      rw x.1 tt,
      rw x.1 (no_bytes c.loop-filled.invariant.calls.0 c.loop-filled.filled),
    )

pub returns-then-n-eq0-clause-calls : goal.returns-then-n-eq0-clause-calls
returns-then-n-eq0-clause-calls g c =
    let within : c.loop-filled.filled ≤ length c.loop-filled.buf = omega arith
    in let none : take c.in_ok-n.n c.read_at.new.buf ≡ [] = ap (λ m. take m c.read_at.new.buf) c.if-n-eq0.true
    in let given : g.F.Files.called c.loop-filled.files (Read c.args.name.now c.loop-filled.filled (Some [])) c.read_at.new.self =
    subst (λ t. g.F.Files.called c.loop-filled.files (Read c.args.name.now c.loop-filled.filled (Some t)) c.read_at.new.self) none c.in_ok-n.ensures.answer
    in let front = sym (filled_stays c.loop-filled.filled (length c.loop-filled.buf - c.loop-filled.filled) c.loop-filled.buf c.read_at.new.buf within) in (
      c.loop-filled.invariant.calls.0 ++ Read c.args.name.now c.loop-filled.filled (Some []) ∷ [],
      calls_more g.F.Files.called c.args.files.now c.loop-filled.files c.read_at.new.self c.loop-filled.invariant.calls.0 _
          c.loop-filled.invariant.calls.1 given,
      All-push (Reads c.args.name.now) c.loop-filled.invariant.calls.0 _ c.loop-filled.invariant.calls.2 refl,
      subst (AllPieces c.args.name.now (length c.args.buf.now) (c.loop-filled.invariant.calls.0 ++ Read c.args.name.now c.loop-filled.filled (Some []) ∷ [])) front
          (pieces_ended c.args.name.now (length c.args.buf.now) c.loop-filled.invariant.calls.0 c.loop-filled.filled c.loop-filled.buf within c.loop-filled.invariant.calls.3),
      tt,
    )

pub returns-clause-calls : goal.returns-clause-calls
returns-clause-calls g c =
    let all : length (take c.loop-filled.filled c.loop-filled.buf) ≡ length c.args.buf.now =
    length-take-le c.loop-filled.filled c.loop-filled.buf c.loop-filled.invariant.fits ∙ omega (arith, c.loop-filled.invariant.fits, c.loop-filled-test.false, c.loop-filled.auto.buf)
    in (
      c.loop-filled.invariant.calls.0,
      c.loop-filled.invariant.calls.1,
      c.loop-filled.invariant.calls.2,
      full c.loop-filled.invariant.calls.0 (take c.loop-filled.filled c.loop-filled.buf) c.loop-filled.invariant.calls.3 all,
      tt,
    )
