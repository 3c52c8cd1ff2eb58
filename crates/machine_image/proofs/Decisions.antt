-- What the tests of the fields' values say: each is true exactly where its rule holds.
use Rattle.std.proofs.Common.{◌≡◌, ℕ, zero, suc, ◌%◌, ◌<◌, ◌≤◌, ◌⊎◌, inl, inr, Bool, true, List, refl, sym, ap, ◌∙◌, subst, arith}
use Rattle.std.specs.Bool.{Decides}
use Rattle.std.specs.Prelude.{nat_eq, ◌&&◌, not}
use Rattle.std.proofs.lemmas.Nat.{pow_pos}
use Rattle.std.proofs.lemmas.Bool.Decides.{Decides-eqb, Decides-and, Decides-or, nat_tests}
use Rattle.std.specs.List.{list_any, list_all}
use Rattle.std.specs.Str.{bytes_eq}
use Rattle.base_names.specs.Names.{is_name}
use Rattle.machine_devices.specs.declared.image.Window.{Window}
use Rattle.base_ranges.specs.Ranges.{IsPowerBetween, IsInside, is_inside, are_apart, peripherals_base, peripherals_size, least_window, greatest_window}
use Rattle.base_ranges.proofs.Decisions.{decides_order, decides_inside, decides_power, decides_size, decides_place}
use Rattle.machine_devices.specs.Rules.{block_size, least_stack, greatest_stack, memory_limit, last_flash_base, least_flash, first_ram_base, last_ram_base, least_ram, ram_unit}
use Rattle.machine_image.specs.Faults.{is_flash_base, is_flash_length, is_ram_base, is_ram_size, is_monitor, is_stack_size, is_stack_base, is_window_size, is_window_base, is_name_length, is_new_name}

pub Decides-is_flash_base : (n : ℕ) → Decides (is_flash_base n) ((n % memory_limit ≡ 0) × (n ≤ last_flash_base))
unfolding is_flash_base
Decides-is_flash_base n = Decides-and _ _ (Decides-eqb (n % memory_limit) 0) (decides_order n last_flash_base)

pub Decides-is_flash_length : (n : ℕ) → Decides (is_flash_length n) ((least_flash ≤ n) × ((n ≤ memory_limit) × (n % 4 ≡ 0)))
unfolding is_flash_length
Decides-is_flash_length n =
    Decides-and _ _ (decides_order least_flash n) (Decides-and _ _ (decides_order n memory_limit) (Decides-eqb (n % 4) 0))

pub Decides-is_ram_base : (n : ℕ) → Decides (is_ram_base n) ((n % memory_limit ≡ 0) × ((first_ram_base ≤ n) × (n ≤ last_ram_base)))
unfolding is_ram_base
Decides-is_ram_base n =
    Decides-and _ _ (Decides-eqb (n % memory_limit) 0) (Decides-and _ _ (decides_order first_ram_base n) (decides_order n last_ram_base))

pub Decides-is_ram_size : (n : ℕ) → Decides (is_ram_size n) ((n % ram_unit ≡ 0) × ((least_ram ≤ n) × (n ≤ memory_limit)))
unfolding is_ram_size
Decides-is_ram_size n =
    Decides-and _ _ (Decides-eqb (n % ram_unit) 0) (Decides-and _ _ (decides_order least_ram n) (decides_order n memory_limit))

pub Decides-is_monitor : (n b s : ℕ) → Decides (is_monitor n b s) ((n ≡ 0) ⊎ ((n % block_size ≡ 0) × IsInside n block_size b s))
unfolding is_monitor
Decides-is_monitor n b s =
    Decides-or _ _ (Decides-eqb n 0) (Decides-and _ _ (Decides-eqb (n % block_size) 0) (decides_inside n block_size b s))

pub Decides-is_stack_size : (n : ℕ) → Decides (is_stack_size n) ((n ≡ 0) ⊎ IsPowerBetween least_stack greatest_stack n)
unfolding is_stack_size
Decides-is_stack_size n = Decides-or _ _ (Decides-eqb n 0) (decides_power least_stack greatest_stack n)

pub Decides-is_window_size : (n : ℕ) → Decides (is_window_size n) (IsPowerBetween least_window greatest_window n)
unfolding is_window_size
Decides-is_window_size n = decides_size n

pub Decides-is_name_length : (n : ℕ) → Decides (is_name_length n) ((1 ≤ n) × (n ≤ 64))
unfolding is_name_length
Decides-is_name_length n = Decides-and _ _ (decides_order 1 n) (decides_order n 64)

Decides-itself : (r : Bool) → Decides r (r ≡ true)
Decides-itself r = (λ h. h, λ h. h)

pub Decides-is_window_base : (n s : ℕ) (seen : List Window) → Decides (is_window_base n s seen) (((n % s ≡ 0) × IsInside n s peripherals_base peripherals_size) × (list_all (λ w. are_apart w.base w.size n s) seen ≡ true))
unfolding is_window_base
Decides-is_window_base n s seen = Decides-and _ _ (decides_place n s) (Decides-itself _)

pub Decides-is_new_name : (name : List ℕ) (seen : List Window) → Decides (is_new_name name seen) ((is_name name ≡ true) × (not (list_any (λ w. bytes_eq w.name name) seen) ≡ true))
unfolding is_new_name
Decides-is_new_name name seen = Decides-and _ _ (Decides-itself (is_name name)) (Decides-itself _)

-- a stack: none, or an aligned power of two inside RAM
abbrev pub KeepsStackRule : (n s b r : ℕ) → Type 0
KeepsStackRule n s b r = ((n ≡ 0) × (s ≡ 0)) ⊎ (IsPowerBetween least_stack greatest_stack s × ((n % s ≡ 0) × IsInside n s b r))

is_stack_base-zero : (n b r : ℕ) → is_stack_base n 0 b r ≡ nat_eq n 0
unfolding is_stack_base
is_stack_base-zero n b r = refl

is_stack_base-more : (n s b r : ℕ) → 0 < s → is_stack_base n s b r ≡ (nat_eq (n % s) 0 && is_inside n s b r)
unfolding is_stack_base
is_stack_base-more n zero b r h = absurd (omega arith)
is_stack_base-more n (suc s) b r h = grind (arith, nat_tests)

pub stack_rule : (n s b r : ℕ) → is_stack_size s ≡ true → is_stack_base n s b r ≡ true → KeepsStackRule n s b r
stack_rule n s b r size base = by ((Decides-is_stack_size s).0 size)
  where
    by : (s ≡ 0) ⊎ IsPowerBetween least_stack greatest_stack s → KeepsStackRule n s b r
    by (inl none) = inl ((Decides-eqb n 0).0 (sym (is_stack_base-zero n b r) ∙ (ap (λ x. is_stack_base n x b r) (sym none) ∙ base)), none)
    by (inr power) =
        let some : 0 < s = subst (λ (x : ℕ). 0 < x) (sym power.3) (pow_pos power.0) in
        inr (power, (Decides-and _ _ (Decides-eqb (n % s) 0) (decides_inside n s b r)).0 (sym (is_stack_base-more n s b r some) ∙ base))

pub stack_tests : (n s b r : ℕ) → KeepsStackRule n s b r → (is_stack_size s ≡ true) × (is_stack_base n s b r ≡ true)
stack_tests n s b r (inl none) =
    ((Decides-is_stack_size s).1 (inl none.1), ap (λ x. is_stack_base n x b r) none.1 ∙ (is_stack_base-zero n b r ∙ (Decides-eqb n 0).1 none.0))
stack_tests n s b r (inr stack) =
    let power = stack.0 in
    let some : 0 < s = subst (λ (x : ℕ). 0 < x) (sym power.3) (pow_pos power.0) in
    ((Decides-is_stack_size s).1 (inr power), is_stack_base-more n s b r some ∙ (Decides-and _ _ (Decides-eqb (n % s) 0) (decides_inside n s b r)).1 stack.1)
