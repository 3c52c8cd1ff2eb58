use Rattle.std.proofs.Common.{sym, ◌∙◌, length}
use Rattle.std.specs.Str.{bytes_eq}
use Rattle.base_outside.specs.Memory.{Entry}
use Rattle.base_outside.proofs.Entries.{found_nowhere, room_for, adds}
use Rattle.base_outside.proofs.mem_files.add.Goals as goal

pub add-requires : goal.add-requires
add-requires c =
    room_for c.args.files.now c.args.name.now c.in-Some.place (length c.args.piece.now) c.index-files-place.result
    (sym c.place_of.ensures ∙ c.in-Some.is) c.requires

pub returns-in-Some : goal.returns-in-Some
returns-in-Some c =
    adds c.args.files.now c.args.name.now c.args.piece.now c.in-Some.place c.add.new.self c.index-files-place.result
    (sym c.place_of.ensures ∙ c.in-Some.is) c.add.ensures

pub returns-in_default : goal.returns-in_default
returns-in_default c =
    rw (found_nowhere (λ (e : Entry). bytes_eq e.name c.args.name.now) c.args.files.now (sym c.place_of.ensures ∙ c.in_default.is)) tt
