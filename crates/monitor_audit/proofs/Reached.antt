-- What the check of the tables tells of where their records stand.
use Rattle.std.proofs.Common.{◌≡◌, ℕ, ◌-◌, ◌≤◌, ◌⊎◌, inl, inr, List, Option, None, sym, ap, ap₂, ◌∙◌, subst, arith}
use Rattle.machine_devices.specs.declared.image.Image.{Image}
use Rattle.machine_devices.specs.Rules.{ObeysRules}
use Rattle.monitor_model.specs.declared.tables.Tables.{Tables}
use Rattle.monitor_model.specs.Checks.{difference, header_fails, tables_fail, code_fails}
use Rattle.monitor_program.specs.Page.{page}
use Rattle.monitor_program.specs.TheCode.{monitor_code}
use Rattle.monitor_model.specs.FromFlash.{tables_of}
use Rattle.monitor_model.proofs.ReadFrom.{read_from, tables_are}
use Rattle.monitor_laws.proofs.Checked.{header_is, head_is}
use Rattle.monitor_laws.proofs.ReadTables.{slot_count}
use Rattle.monitor_audit.specs.Reach.{IsInReach}

few_slots : (r : ℕ) → (r ≡ 8) ⊎ (r ≡ 16) → r - 4 ≤ 12
few_slots r (inl e) = omega (arith, e)
few_slots r (inr e) = omega (arith, e)

reach : (i : Image) → ObeysRules i → header_fails i ≡ None → tables_fail i (read_from monitor_code i) ≡ None → IsInReach (read_from monitor_code i)
reach i rules h p =
    let t = read_from monitor_code i in
    let top = head_is i t p in
    let room = (header_is i h).room in
    let some = top.some in
    let n = slot_count monitor_code i room some in
    let f = few_slots i.regions rules.regions in
    let a = top.area in
    let b = top.inside.1 in
    let c = rules.flash_highest in
    let d = rules.flash_most in
    record { few_slots = omega (arith, n, f); few = top.most; low = omega (arith, a, b, c, d) }

pub is_in_reach : (i : Image) (t : Tables) → ObeysRules i → header_fails i ≡ None → t ≡ tables_of monitor_code i → tables_fail i t ≡ None → IsInReach t
is_in_reach i t rules h own p =
    let e : t ≡ read_from monitor_code i = own ∙ tables_are monitor_code i in
    subst IsInReach (sym e) (reach i rules h (subst (λ t. tables_fail i t ≡ None) e p))

base_is : (i : Image) (t : Tables) → t ≡ tables_of monitor_code i → t.base ≡ i.flash_base
base_is i t own = ap (λ (t : Tables). t.base) (own ∙ tables_are monitor_code i)

-- the check of the code, by what is compared
pub code_is : (i : Image) (t : Tables) (r : Option ℕ) (p f items : List ℕ) → t ≡ tables_of monitor_code i → r ≡ difference p f i.flash_base → p ≡ items → items ≡ page t → f ≡ i.flash
    → code_fails monitor_code.page i t ≡ r
code_is i t r p f items own e a b d =
    let g : List ℕ → List ℕ → Option ℕ = λ x y. difference x y i.flash_base in
    sym (e ∙ ap₂ g (a ∙ b) d ∙ ap (difference (page t) i.flash) (sym (base_is i t own)))
