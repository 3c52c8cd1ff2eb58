use Rattle.std.proofs.Common.{ℕ, List, length, ap, ◌∙◌, sym}
use Rattle.std.proofs.lemmas.List.FromFn.{length-map-range_with_len}
use Rattle.ir_program.specs.Seen.{program_of}
use Rattle.plan_crossings.specs.Seen.{seen_sites}
use Rattle.plan_sizes.specs.Parts.{function_bytes}
use Rattle.plan_sizes.proofs.sizing.code_sizes.Goals as goal

pub code_bytes-requires : goal.code_bytes-requires
code_bytes-requires c =
    let bytes : ℕ → ℕ = function_bytes (program_of c.args.program.now) (seen_sites c.args.sites.now) c.args.lent.now in
    let long = ap (λ (ns : List ℕ). length ns) c.as_slice.ensures in
    long ∙ c.requires ∙ sym (ap (λ (ns : List ℕ). length ns) (c.deref.ensures.value ∙ c.in_ok-all.ensures) ∙ length-map-range_with_len bytes 0 (length c.args.program.now.funcs))
