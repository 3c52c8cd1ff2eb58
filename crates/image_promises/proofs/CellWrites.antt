-- Reads of a block that is filled with the first values of its globals give each cell its value.
use Rattle.std.proofs.Common.{eqb-true, ◌≡◌, ◌≢◌, ℕ, ◌+◌, ◌*◌, ◌≤◌, ◌⊎◌, inl, inr, Bool, true, false, ◌||◌, List, [], ◌∷◌, length, replicate, nat_eq, refl, sym, ap, ◌∙◌, subst, eq-eqb, arith}
use Rattle.std.specs.List.{fold}
use Rattle.std.proofs.lemmas.Bool.{cases_eq}
use Rattle.std.proofs.lemmas.List.{length-replicate}
use mathlib.Core.Logic.{⊎_elim}
use Rattle.base_words.specs.Bytes.{read, write, cut}
use Rattle.base_words.proofs.Bytes.{length-write, read_below, read_above, read_same}
use Rattle.base_ranges.specs.Ranges.{AreApart}
use Rattle.ir_model.specs.Types.{width_of}
use Rattle.ir_model.specs.Layout.{CellPlace}
use Rattle.ir_model.specs.Resolved.{Program, Value, global_at}
use Rattle.ir_model.proofs.Counting.{rounded_at_least}
use Rattle.ir_laws.specs.Laws.{IsLaidOut}
use Rattle.plan_model.specs.Lists.{has}
use Rattle.plan_model.specs.Regions.{global_size}
use Rattle.plan_model.specs.Blocks.{offset_in_region, region_bytes}
use Rattle.plan_model.specs.TableSize.{words_in}
use Rattle.plan_layout_laws.specs.GlobalLaws.{AreLaid}
use Rattle.code_model.specs.declared.places.Places.{Places}
use Rattle.image_model.specs.FirstWords.{first_word, with_cells, with_global, first_bytes}
use Rattle.base_laws.specs.Lists.{Each}
use Rattle.ir_laws.proofs.Layouts.{last_end}
use Rattle.image_promises.proofs.Products.{whole_words}

module _ (q : Places) where
  -- a memory has these values in cells that lie so many bytes behind an offset
  abbrev pub HasCells : (at : ℕ) → List CellPlace → List Value → (memory : List ℕ) → Type 0
  HasCells at [] vs mem = Unit {0}
  HasCells at (c ∷ cs) [] mem = Unit {0}
  HasCells at (c ∷ cs) (v ∷ vs) mem = (read (width_of c.ty) (at + c.at) mem ≡ cut (width_of c.ty) (first_word q v)) × HasCells at cs vs mem

  -- another memory that has the same there, at another offset
  pub cells_alike : (at to from size : ℕ) (cs : List CellPlace) (vs : List Value) (m n : List ℕ) → IsLaidOut from size cs
      → ((w a : ℕ) → a + w ≤ size → read w (to + a) n ≡ read w (at + a) m) → HasCells at cs vs m → HasCells to cs vs n
  cells_alike at to from size [] vs m n laid same h = tt
  cells_alike at to from size (c ∷ cs) [] m n laid same h = tt
  cells_alike at to from size (c ∷ cs) (v ∷ vs) m n laid same h =
      (same (width_of c.ty) c.at (last_end (c.at + width_of c.ty) size cs laid.1) ∙ h.0, cells_alike at to (c.at + width_of c.ty) size cs vs m n laid.1 same h.1)

  pub length-with_cells : (at : ℕ) (cs : List CellPlace) (vs : List Value) (mem : List ℕ) → length (with_cells q at cs vs mem) ≡ length mem
  length-with_cells at [] vs mem = refl
  length-with_cells at (c ∷ cs) [] mem = refl
  length-with_cells at (c ∷ cs) (v ∷ vs) mem =
      length-with_cells at cs vs (write (width_of c.ty) (at + c.at) (first_word q v) mem) ∙ length-write (width_of c.ty) (at + c.at) (first_word q v) mem

  -- reads below all of the cells, and above them
  read_under : (w a at from size : ℕ) (cs : List CellPlace) (vs : List Value) (mem : List ℕ) → IsLaidOut from size cs → a + w ≤ at + from → read w a (with_cells q at cs vs mem) ≡ read w a mem
  read_under w a at from size [] vs mem laid le = refl
  read_under w a at from size (c ∷ cs) [] mem laid le = refl
  read_under w a at from size (c ∷ cs) (v ∷ vs) mem laid le =
      let low = laid.0 in
      read_under w a at (c.at + width_of c.ty) size cs vs (write (width_of c.ty) (at + c.at) (first_word q v) mem) laid.1 (omega (arith, low, le))
      ∙ read_below w a (width_of c.ty) (at + c.at) (first_word q v) mem (omega (arith, low, le))

  read_over : (w a at from size : ℕ) (cs : List CellPlace) (vs : List Value) (mem : List ℕ) → IsLaidOut from size cs → at + size ≤ a → read w a (with_cells q at cs vs mem) ≡ read w a mem
  read_over w a at from size [] vs mem laid le = refl
  read_over w a at from size (c ∷ cs) [] mem laid le = refl
  read_over w a at from size (c ∷ cs) (v ∷ vs) mem laid le =
      let end = last_end (c.at + width_of c.ty) size cs laid.1 in
      read_over w a at (c.at + width_of c.ty) size cs vs (write (width_of c.ty) (at + c.at) (first_word q v) mem) laid.1 le
      ∙ read_above w a (width_of c.ty) (at + c.at) (first_word q v) mem (omega (arith, end, le))

  -- what was written in cells is there
  pub cells_written : (at from size : ℕ) (cs : List CellPlace) (vs : List Value) (mem : List ℕ) → IsLaidOut from size cs → at + size ≤ length mem → HasCells at cs vs (with_cells q at cs vs mem)
  cells_written at from size [] vs mem laid room = tt
  cells_written at from size (c ∷ cs) [] mem laid room = tt
  cells_written at from size (c ∷ cs) (v ∷ vs) mem laid room =
      let end = last_end (c.at + width_of c.ty) size cs laid.1 in
      let long = length-write (width_of c.ty) (at + c.at) (first_word q v) mem in (
        read_under (width_of c.ty) (at + c.at) at (c.at + width_of c.ty) size cs vs (write (width_of c.ty) (at + c.at) (first_word q v) mem) laid.1 (omega arith)
            ∙ read_same (width_of c.ty) (at + c.at) (first_word q v) mem (omega (arith, end, room)),
        cells_written at (c.at + width_of c.ty) size cs vs (write (width_of c.ty) (at + c.at) (first_word q v) mem) laid.1 (omega (arith, room, long)),
      )

  -- ---- a block of globals

  module _ (p : Program) (shaped : (x : ℕ) → IsLaidOut 0 (global_size p x) (global_at p x).shape.cells) (xs : List ℕ) (laid : AreLaid p xs) where
    abbrev off : ℕ → ℕ
    off x = offset_in_region p xs x

    abbrev step : List ℕ → ℕ → List ℕ
    step mem y = with_global p q y (off y) mem

    abbrev HasInit : (x : ℕ) → List ℕ → Type 0
    HasInit x mem = HasCells (off x) (global_at p x).shape.cells (global_at p x).init mem

    step_length : (mem : List ℕ) (y : ℕ) → length (step mem y) ≡ length mem
    step_length mem y = length-with_cells (off y) (global_at p y).shape.cells (global_at p y).init mem

    -- a write of another global
    step_off : (x y : ℕ) (mem : List ℕ) → has xs x ≡ true → has xs y ≡ true → x ≢ y → HasInit x mem → HasInit x (step mem y)
    step_off x y mem hx hy ne h =
        cells_alike (off x) (off x) 0 (global_size p x) (global_at p x).shape.cells (global_at p x).init mem (step mem y) (shaped x) (λ w a le. by w a le (laid.apart x y hx hy ne)) h
      where
        by : (w a : ℕ) → a + w ≤ global_size p x → AreApart (off x) (global_size p x) (off y) (global_size p y) → read w (off x + a) (step mem y) ≡ read w (off x + a) mem
        by w a le (inl e) =
            read_under w (off x + a) (off y) 0 (global_size p y) (global_at p y).shape.cells (global_at p y).init mem (shaped y) (omega (arith, le, e))
        by w a le (inr e) =
            read_over w (off x + a) (off y) 0 (global_size p y) (global_at p y).shape.cells (global_at p y).init mem (shaped y) (omega (arith, le, e))

    step_on : (x : ℕ) (mem : List ℕ) → has xs x ≡ true → region_bytes p xs ≤ length mem → HasInit x (step mem x)
    step_on x mem hx room =
        let among = laid.among x hx in
        cells_written (off x) 0 (global_size p x) (global_at p x).shape.cells (global_at p x).init mem (shaped x) (omega (arith, room, among))

    folded : (x : ℕ) → has xs x ≡ true → (ys : List ℕ) (mem : List ℕ) → Each (λ y. has xs y ≡ true) ys → region_bytes p xs ≤ length mem → (has ys x ≡ true) ⊎ HasInit x mem → HasInit x (fold step mem ys)
    folded x hx [] mem all room (inl h) = cc
    folded x hx [] mem all room (inr h) = h
    folded x hx (y ∷ ys) mem all room h =
        let long = step_length mem y in
        folded x hx ys (step mem y) all.1 (omega (arith, room, long)) (⊎_elim same other (cases_eq x y))
      where
        same : x ≡ y → (has ys x ≡ true) ⊎ HasInit x (step mem y)
        same e = inr (subst (λ z. HasInit x (step mem z)) e (step_on x mem hx room))

        other : x ≢ y → (has ys x ≡ true) ⊎ HasInit x (step mem y)
        other ne = by h
          where
            by : (has (y ∷ ys) x ≡ true) ⊎ HasInit x mem → (has ys x ≡ true) ⊎ HasInit x (step mem y)
            by (inl g) = inl (rest (nat_eq y x) refl g)
              where
                rest : (b : Bool) → nat_eq y x ≡ b → (b || has ys x) ≡ true → has ys x ≡ true
                rest true e g = absurd (ne (sym (eqb-true y x e)))
                rest false e g = g
            by (inr g) = inr (step_off x y mem hx all.0 ne g)

    all_listed : (ys : List ℕ) → ((y : ℕ) → has ys y ≡ true → has xs y ≡ true) → Each (λ y. has xs y ≡ true) ys
    all_listed [] h = tt
    all_listed (y ∷ ys) h = (h y (ap (λ b. b || has ys y) (eq-eqb y y refl)), all_listed ys (λ z e. h z (later (nat_eq y z) e)))
      where
        later : {c : Bool} (b : Bool) → c ≡ true → (b || c) ≡ true
        later true e = refl
        later false e = e

    -- the block of these globals has the first values of each
    pub block_holds : (x : ℕ) → has xs x ≡ true → HasInit x (first_bytes p q xs)
    block_holds x hx =
        let long = length-replicate {A = ℕ} (4 * words_in p xs) 0 in
        let up = rounded_at_least (region_bytes p xs) 4 (omega arith) in
        let whole = whole_words (region_bytes p xs) in
        folded x hx xs (replicate (4 * words_in p xs) 0) (all_listed xs (λ y e. e)) (omega (arith, long, up, whole)) (inl hx)
