-- Instructions that are put one behind the other.
use Rattle.std.proofs.Common.{◌≡◌, ℕ, ◌+◌, ◌<◌, ◌≤◌, List, [], ◌∷◌, ◌++◌, map, length, get_or, take, refl, ap, ◌∙◌, arith, append_assoc, zero, suc}
use Rattle.machine_thumb.specs.declared.table.Instr.{Instr}
use Rattle.machine_thumb.specs.Table.{InTable}
use Rattle.machine_thumb.specs.Bytes.{EachInTable}
use Rattle.machine_thumb_asm.specs.declared.item.Item.TheVariants.{Plain}
use Rattle.machine_thumb_asm.specs.Assembly.{Assembly, here}
use Rattle.machine_model.specs.Code.{size}
use Rattle.machine_model.specs.Running.{code_size}
use Rattle.machine_model.proofs.CodeParts.{code_size-append, width-encode}
use Rattle.monitor_assembler.specs.Emitted.{HasPut}
use Rattle.machine_thumb_asm.proofs.Items.{total-append}

map-append : (xs ys : List Instr) → map Plain (xs ++ ys) ≡ map Plain xs ++ map Plain ys
map-append [] ys = refl
map-append (x ∷ xs) ys = ap (λ zs. Plain x ∷ zs) (map-append xs ys)

-- one part behind the other
pub put_both : (a b c : Assembly) (xs ys : List Instr) → HasPut a b xs → HasPut b c ys → HasPut a c (xs ++ ys)
put_both a b c xs ys f g = record {
  code = rw (g.code, f.code, map-append xs ys, append_assoc);
  next = omega (arith, f.next, g.next, code_size-append xs ys);
}

-- one instruction
pub put_one : (a b : Assembly) (x : Instr) → b ≡ record a { items = a.items ++ Plain x ∷ [] } → HasPut a b (x ∷ [])
put_one a b x e = record {
  code = e;
  next = ap here e ∙ omega (arith, total-append a.items (Plain x ∷ []), width-encode x);
}

pub in_table_at : (xs : List Instr) (i : ℕ) (d : Instr) → i < length xs → EachInTable xs → InTable (get_or xs i d)
in_table_at [] i d lt h = absurd (omega arith)
in_table_at (x ∷ xs) zero d lt h = h.0
in_table_at (x ∷ xs) (suc i) d lt h = in_table_at xs i d (omega arith) h.1

pub code_size-take : (xs : List Instr) (i : ℕ) (d : Instr) → i < length xs → code_size (take i xs) + size (get_or xs i d) ≤ code_size xs
code_size-take [] i d lt = absurd (omega arith)
code_size-take (x ∷ xs) zero d lt = omega arith
code_size-take (x ∷ xs) (suc i) d lt = omega (arith, code_size-take xs i d (omega arith))
