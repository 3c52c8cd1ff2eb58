-- Which loan holds an access, by the monitor's lists, by the words of its block, and as the loop of the handler finds it.
use Rattle.std.proofs.Common.{◌≡◌, ℕ, zero, suc, ◌+◌, ◌-◌, ◌*◌, ◌/◌, ◌%◌, ◌^◌, ◌<◌, ◌≤◌, Bool, true, false, ◌&&◌, ◌||◌, List, [], ◌∷◌, length, nat_eq, nat_le, refl, sym, ap, ◌∙◌, subst, arith}
use Rattle.std.proofs.lemmas.Bool.{false≢true, and_parts, eqb-true, leb-true}
use Rattle.std.proofs.lemmas.Nat.Bits.{and_pow}
use Rattle.std.specs.Prelude.{bit_and}
use Rattle.std.specs.Int.{bit_at}
use Rattle.base_words.specs.Arithmetic.{subtract, shift_right}
use Rattle.machine_protection.specs.declared.region.Access.TheVariants.{Read, Write}
use Rattle.machine_devices.specs.declared.image.Image.{Image}
use Rattle.machine_bus.specs.Locations.{choose}
use Rattle.machine_model.specs.State.{State}
use Rattle.base_laws.specs.Lists.{Each}
use Rattle.monitor_steps.specs.Core.{Core}
use Rattle.monitor_model.specs.declared.tables.Tables.{Tables}
use Rattle.monitor_model.specs.Records.{compartment_at, stack_end}
use Rattle.monitor_model.specs.Block.{Loan}
use Rattle.monitor_model.specs.BlockWords.{current, loan_count, loan_address, loan_end, loan_number, loan_offset, IsLoanAt, HasLoans}
use Rattle.monitor_model.specs.Invariant.{IsLoan}
use Rattle.monitor_model.specs.Reach.{running, IsInLoan, StoreKind, ByLoan, LoadKind, OfLoan}
use Rattle.monitor_model.specs.Handlers.{ForLoan}
use Rattle.monitor_model.specs.FaultOutcome.{covers, is_lent}
use Rattle.monitor_laws.proofs.Opened.{le_false}
use Rattle.monitor_laws.proofs.HandlerRule.{HandlerRule}

four_tests : (a b c d : Bool) (r : ℕ) → choose a (choose b (choose c (choose d 1 r) r) r) r ≡ choose (d && (a && (b && c))) 1 r
four_tests true true true true r = refl
four_tests true true true false r = refl
four_tests true true false true r = refl
four_tests true true false false r = refl
four_tests true false c true r = refl
four_tests true false c false r = refl
four_tests false b c true r = refl
four_tests false b c false r = refl

same_le : (x y u v : ℕ) → (x ≤ y → u ≤ v) → (u ≤ v → x ≤ y) → nat_le x y ≡ nat_le u v
same_le x y u v f g = pick (nat_le x y) (nat_le u v) refl refl
  where
    pick : (b d : Bool) → nat_le x y ≡ b → nat_le u v ≡ d → nat_le x y ≡ nat_le u v
    pick true true h k = h ∙ sym k
    pick false false h k = h ∙ sym k
    pick true false h k = absurd (let l = f (leb-true x y h) in let n = le_false u v k in omega (arith, l, n))
    pick false true h k = absurd (let l = g (leb-true u v k) in let n = le_false x y h in omega (arith, l, n))

-- the address is not behind the end, and the width not more than what is left: no sum wraps
ends_are : (a w e : ℕ) → a < 2 ^ 32 → e < 2 ^ 32 → (nat_le a e && nat_le w (subtract e a)) ≡ nat_le (a + w) e
ends_are a w e la le = pick (nat_le a e) refl
  where
    rest_is : a ≤ e → subtract e a ≡ e - a
    rest_is h = omega (arith, h, la, le)

    pick : (b : Bool) → nat_le a e ≡ b → (b && nat_le w (subtract e a)) ≡ nat_le (a + w) e
    pick true h =
        let l = leb-true a e h in
        let r = rest_is l in
        same_le w (subtract e a) (a + w) e (λ k. omega (arith, k, r, l)) (λ k. omega (arith, k, r, l))
    pick false h = sym (off (nat_le (a + w) e) refl)
      where
        off : (b : Bool) → nat_le (a + w) e ≡ b → b ≡ false
        off false k = refl
        off true k = absurd (let l = le_false a e h in let n = leb-true (a + w) e k in omega (arith, l, n))

one_bit : (x : ℕ) → bit_and x 1 ≡ x % 2
one_bit x = let e : bit_and x (2 ^ 0) ≡ x / 2 ^ 0 % 2 * 2 ^ 0 = and_pow x 0 in omega (arith, e)

shifted_bit : (mask n : ℕ) → n < 32 → nat_eq (bit_and (shift_right mask n) 1) 1 ≡ nat_eq (bit_at mask n) 1
unfolding shift_right
shifted_bit mask n lt =
    let z : n % 256 ≡ n = omega (arith, lt) in
    ap (λ k. nat_eq (bit_and (mask / 2 ^ k) 1) 1) z ∙ ap (λ x. nat_eq x 1) (one_bit (mask / 2 ^ n))

abbrev pub one_or : Bool → ℕ → ℕ
one_or b n = choose b 1 n

or_choose : (x y : Bool) → one_or x (one_or y 0) ≡ one_or (x || y) 0
or_choose true y = refl
or_choose false y = refl

module _ (i : Image) (t : Tables) (m : List ℕ) (mask a w : ℕ) where
  -- 1 where a loan holds the access, by its words, else another number
  abbrev pub by_words : (from end number other : ℕ) → ℕ
  by_words f e n r =
      choose (nat_le f a) (choose (nat_le a e) (choose (nat_le w (subtract e a)) (choose (nat_eq (bit_and (shift_right mask n) 1) 1) 1 r) r) r) r

  -- 1 where one of the first so many does, else 0
  abbrev pub hits : ℕ → ℕ
  hits zero = 0
  hits (suc k) = by_words (loan_address i t m k) (loan_end i t m k) (loan_number i t m k) (hits k)

  hit_is : (l : Loan) (k r : ℕ) → IsLoanAt i t m (loan_offset k) l → l.number < 32 → l.end < 2 ^ 32 → a < 2 ^ 32 → by_words (loan_address i t m k) (loan_end i t m k) (loan_number i t m k) r ≡ choose (covers mask a w l) 1 r
  hit_is l k r at few le la =
      ap (λ f. by_words f (loan_end i t m k) (loan_number i t m k) r) at.address
      ∙ ap (λ e. by_words l.address e (loan_number i t m k) r) at.end
      ∙ ap (λ n. by_words l.address l.end n r) at.number
      ∙ four_tests (nat_le l.address a) (nat_le a l.end) (nat_le w (subtract l.end a)) (nat_eq (bit_and (shift_right mask l.number) 1) 1) r
      ∙ ap (λ d. choose (d && (nat_le l.address a && (nat_le a l.end && nat_le w (subtract l.end a)))) 1 r) (shifted_bit mask l.number few)
      ∙ ap (λ e. choose (nat_eq (bit_at mask l.number) 1 && (nat_le l.address a && e)) 1 r) (ends_are a w l.end la le)

  -- that is what the lists say
  pub hits_are : (ls : List Loan) → HasLoans i t m ls → Each (IsLoan t) ls → length t.lends ≤ 32 → stack_end t < 2 ^ 32 → a < 2 ^ 32 → hits (length ls) ≡ one_or (is_lent mask a w ls) 0
  hits_are [] h e few high la = refl
  hits_are (l ∷ ls) h e few high la =
      hit_is l (length ls) (hits (length ls)) h.0 (let n = e.0.number_in in omega (arith, n, few)) (let b = e.0.below_end in omega (arith, b, high)) la
      ∙ ap (λ r. choose (covers mask a w l) 1 r) (hits_are ls h.1 e.1 few high la)
      ∙ or_choose (covers mask a w l) (is_lent mask a w ls)

  -- the loan, by its words; it lies in the stack
  pub record IsLentBy (count : ℕ) : Type 0 where
    pub number : ℕ
    pub live : number < count
    pub in_mask : bit_at mask (loan_number i t m number) ≡ 1
    pub from_address : loan_address i t m number ≤ a
    pub below_end : a + w ≤ loan_end i t m number
    pub from_base : t.stack.base ≤ a
    pub in_stack : a + w ≤ stack_end t

  pub lent_by : (ls : List Loan) → HasLoans i t m ls → Each (IsLoan t) ls → is_lent mask a w ls ≡ true → IsLentBy (length ls)
  lent_by [] h e x = absurd (false≢true x)
  lent_by (l ∷ ls) h e x = pick (covers mask a w l) refl (lent_by ls h.1 e.1) x
    where
      pick : (b : Bool) → covers mask a w l ≡ b → (is_lent mask a w ls ≡ true → IsLentBy (length ls)) → (b || is_lent mask a w ls) ≡ true → IsLentBy (length (l ∷ ls))
      pick true y ih z =
          let p = and_parts (nat_eq (bit_at mask l.number) 1) (nat_le l.address a && nat_le (a + w) l.end) y in
          let q = and_parts (nat_le l.address a) (nat_le (a + w) l.end) p.1 in
          let from = leb-true l.address a q.0 in
          let below = leb-true (a + w) l.end q.1 in
          let base = e.0.from_base in
          let end = e.0.below_end in
          record {
            number = length ls;
            live = omega arith;
            in_mask = ap (λ n. bit_at mask n) h.0.number ∙ eqb-true (bit_at mask l.number) 1 p.0;
            from_address = (let n = h.0.address in omega (arith, n, from));
            below_end = (let n = h.0.end in omega (arith, n, below));
            from_base = omega (arith, base, from);
            in_stack = omega (arith, below, end);
          }
      pick false y ih z =
          let k = ih z in
          record {
            number = k.number;
            live = (let n = k.live in omega (arith, n));
            in_mask = k.in_mask;
            from_address = k.from_address;
            below_end = k.below_end;
            from_base = k.from_base;
            in_stack = k.in_stack;
          }

-- so the access is of a kind that confinement knows
module _ (i : Image) (t : Tables) (s : State) (m : List ℕ) (a w : ℕ) where
  pub lent_store_obeys : (c : Core) → c.ram ≡ m → IsLentBy i t m (compartment_at t (current i t m)).mask a w (loan_count i t m) → HandlerRule i t s Write c w a
  lent_store_obeys c e l = λ u at k lt. kind u k lt (at.ram ∙ e)
    where
      kind : (u : State) (k : ℕ) → k < w → u.ram ≡ m → StoreKind i t u (a + k)
      kind u k lt same = ByLoan l.number (record {
        live = subst (λ (r : List ℕ). l.number < loan_count i t r) (sym same) l.live;
        in_mask = subst (λ (r : List ℕ). bit_at (compartment_at t (current i t r)).mask (loan_number i t r l.number) ≡ 1) (sym same) l.in_mask;
        from_address = subst (λ (r : List ℕ). loan_address i t r l.number ≤ a + k) (sym same) (let f = l.from_address in omega (arith, f));
        below_end = subst (λ (r : List ℕ). a + k < loan_end i t r l.number) (sym same) (let f = l.below_end in omega (arith, f, lt));
      })

  -- a load is lent by the words of s too
  pub lent_load_obeys : (c : Core) → c.ram ≡ m → IsLentBy i t m (compartment_at t (current i t m)).reads a w (loan_count i t m) → IsLentBy i t s.ram (running i t s).reads a w (loan_count i t s.ram) → HandlerRule i t s Read c w a
  lent_load_obeys c e l before = λ u at closed k lt. (kind u k lt (at.ram ∙ e), ForLoan before.number (in_loan k lt))
    where
      in_loan : (k : ℕ) → k < w → IsInLoan i t s (running i t s).reads before.number (a + k)
      in_loan k lt = record { live = before.live; in_mask = before.in_mask; from_address = (let f = before.from_address in omega (arith, f)); below_end = (let f = before.below_end in omega (arith, f, lt)) }

      kind : (u : State) (k : ℕ) → k < w → u.ram ≡ m → LoadKind i t u (a + k)
      kind u k lt same = OfLoan l.number (record {
        live = subst (λ (r : List ℕ). l.number < loan_count i t r) (sym same) l.live;
        in_mask = subst (λ (r : List ℕ). bit_at (compartment_at t (current i t r)).reads (loan_number i t r l.number) ≡ 1) (sym same) l.in_mask;
        from_address = subst (λ (r : List ℕ). loan_address i t r l.number ≤ a + k) (sym same) (let f = l.from_address in omega (arith, f));
        below_end = subst (λ (r : List ℕ). a + k < loan_end i t r l.number) (sym same) (let f = l.below_end in omega (arith, f, lt));
      })
