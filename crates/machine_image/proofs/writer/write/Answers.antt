use Rattle.std.proofs.Common.{◌≡◌, ◌++◌, length, arith, rules}
use Rattle.std.proofs.lemmas.Grind.{common_steps}
use Rattle.std.specs.List.{flat_map}
use Rattle.machine_image.specs.Text.{magic, version, word_bytes, memory_bytes, place_bytes, protection_bytes, window_bytes}
use Rattle.machine_image.proofs.Answering.{short_names, IsText-written}
use Rattle.machine_image.proofs.writer.write.Goals as goal

pub put_windows-requires : goal.put_windows-requires
put_windows-requires c = rw c.as_slice.ensures (short_names c.args.image.now.windows c.requires.windows)

pub returns : goal.returns
returns c =
    let i = c.args.image.now in
    let first : c.extend_from_slice.new.self.items ≡ magic = grind (arith, common_steps) in
    let second : c.put_number.new.out.items ≡ c.extend_from_slice.new.self.items ++ word_bytes (version i.regions i.closed) = search rules in
    let third : c.put_memories.new.out.items ≡ c.put_number.new.out.items ++ memory_bytes i = search rules in
    let fourth : c.put_places.new.out.items ≡ c.put_memories.new.out.items ++ place_bytes i = search rules in
    let fifth : c.put_number-2.new.out.items ≡ c.put_places.new.out.items ++ word_bytes (length i.windows) = search rules in
    let sixth : c.put_protection.new.out.items ≡ c.put_number-2.new.out.items ++ protection_bytes i.regions i.closed = search rules in
    let seventh : c.put_windows.new.out.items ≡ c.put_protection.new.out.items ++ flat_map window_bytes i.windows = search rules in
    let last : c.extend_from_slice-2.new.self.items ≡ c.put_windows.new.out.items ++ i.flash = grind (arith, common_steps) in
    IsText-written i _ _ _ _ _ _ _ _ c.requires first second third fourth fifth sixth seventh last
