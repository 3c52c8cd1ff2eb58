use Rattle.std.proofs.Common.{◌≡◌, ℕ, List, length, ap, ◌∙◌, arith}
use Rattle.image_entries.specs.Bases.{entries_in}
use Rattle.image_linker.proofs.Totals.{entries_made}
use Rattle.image_linker.proofs.linking.addresses.Goals as goal

pub returns : goal.returns
returns c =
    let l = c.args.plan.now in
    let f = c.args.graph.now in
    let zs = c.in_ok-sizes.sizes.items in
    let listed = c.as_slice-compartments.ensures in
    let each : length f.groups.of ≡ length zs = omega (arith, c.len.ensures, c.if-compartments-len.false, ap (λ (xs : List ℕ). length xs) listed) in
    let made : c.in_ok-entries.entries.items ≡ entries_in l f.groups.of zs =
    c.in_ok-entries.ensures ∙ ap (λ (xs : List ℕ). entries_in l xs c.deref.result.now) listed ∙ ap (λ (xs : List ℕ). entries_in l f.groups.of xs) c.deref.ensures.value in
    let e = entries_made c.args.program.now f l c.args.numbers.now zs c.in_ok-entries.entries.items (c.in_ok-sizes.ensures f.groups.of) each made in
    record {
      compartments = e.0;
      globals_are = c.new.ensures ∙ c.in_ok-globals.ensures;
      windows_are = c.new-2.ensures ∙ c.in_ok-windows.ensures;
      entries_are = c.new-3.ensures ∙ e.1;
    }
