-- Lines that are put piece by piece.
use Rattle.std.proofs.Common.{◌≡◌, ℕ, ◌+◌, ◌/◌, ◌%◌, ◌<◌, ◌≤◌, ◌^◌, List, [], ◌∷◌, ◌++◌, ap, sym, ◌∙◌, subst, arith, append_assoc, IsTrue}
use Rattle.std.specs.Fmt.{decimal}
use Rattle.std.proofs.lemmas.Fmt.{decimal_digit, decimal_step}
use Rattle.base_outside.specs.Counts.{Stayed}
use Rattle.base_outside.specs.Sinks.{SinkState, PutsLine}

-- a count that stayed over two calls stayed over each
stayed_first : (a b c : ℕ) → a ≤ b → b ≤ c → Stayed a c → Stayed a b
stayed_first a b c h k s = let e = s.same in let r = s.could_rise in record { same = omega arith; could_rise = r }

stayed_second : (a b c : ℕ) → a ≤ b → b ≤ c → Stayed a c → Stayed b c
stayed_second a b c h k s = let e = s.same in let r = s.could_rise in record { same = omega arith; could_rise = omega arith }

pub says_both : (a b c : SinkState) (x y : List ℕ) → b.told ≡ a.told → PutsLine a b x → PutsLine b c y → PutsLine a c (x ++ y)
says_both a b c x y t p q =
    let h = p.never_falls in
    let k = q.never_falls in
    record {
      never_falls = omega arith;
      said = λ told s.
          q.said (subst IsTrue (sym t) told) (stayed_second a.faults b.faults c.faults h k s)
          ∙ ap (λ l. l ++ y) (p.said told (stayed_first a.faults b.faults c.faults h k s))
          ∙ append_assoc a.written x y;
    }

pub says_digit : (a c : SinkState) (n : ℕ) → n < 10 → PutsLine a c ((48 + n % 10) ∷ []) → PutsLine a c (decimal n)
says_digit a c n h p =
    let e : n % 10 ≡ n = omega arith in
    subst (PutsLine a c) (ap (λ d. (48 + d) ∷ []) e ∙ sym (decimal_digit n h)) p

pub says_digits : (a b c : SinkState) (n : ℕ) → 10 ≤ n → n < 2 ^ 64 → b.told ≡ a.told → PutsLine a b (decimal (n / 10)) → PutsLine b c ((48 + n % 10) ∷ []) → PutsLine a c (decimal n)
says_digits a b c n h k t p q = subst (PutsLine a c) (sym (decimal_step n h (omega arith))) (says_both a b c _ _ t p q)
