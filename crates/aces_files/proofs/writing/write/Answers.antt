use Rattle.std.proofs.Common.{[], ◌∷◌, true, false, is_ok, refl}
use Rattle.std.proofs.lemmas.List.Elements.{All-nil, All-cons}
use Rattle.base_outside.specs.Calls.{Create, Append}
use Rattle.base_outside.proofs.Paths.{calls_one}
use Rattle.aces_files.specs.CarriesOut.{Writes}
use Rattle.aces_files.proofs.writing.write.Goals as goal

pub returns-in_err-create-clause-calls : goal.returns-in_err-create-clause-calls
returns-in_err-create-clause-calls g c =
    let name = c.args.name.now in
    let writes = Writes name c.args.bytes.now in (
      Create name false ∷ [],
      calls_one g.F.Files.called c.args.files.now c.create.new.self (Create name false) c.in_err-create.ensures.answer,
      All-cons writes _ [] refl (All-nil writes),
    )

pub returns-clause-calls : goal.returns-clause-calls
returns-clause-calls g c =
    let name = c.args.name.now in
    let bytes = c.args.bytes.now in
    let writes = Writes name bytes in
    let create = Create name true in
    let append = Append name bytes (is_ok c.append.result) in (
      create ∷ append ∷ [],
      (c.create.new.self, c.in_ok-create.ensures.answer, (c.append.new.self, c.append.ensures.answer, refl)),
      All-cons writes create (append ∷ []) refl (All-cons writes append [] (refl, refl) (All-nil writes)),
    )
