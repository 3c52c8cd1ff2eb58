-- What is known of blocks, when one is asked for, put in, and when all are forgotten.
use Rattle.std.proofs.Common.{◌≡◌, ℕ, ◌+◌, ◌*◌, ◌/◌, ◌%◌, ◌^◌, ◌<◌, Bool, true, false, List, replicate, get_or, set, refl, sym, ◌∙◌, subst, arith, length-set}
use Rattle.std.proofs.lemmas.List.{length-replicate}
use Rattle.std.proofs.lemmas.List.Elements.{All-get_or, All-set, All-replicate}
use Rattle.machine_protection.specs.declared.region.Access.{Access}
use Rattle.machine_protection.specs.declared.region.Access.TheVariants.{Fetch}
use Rattle.machine_protection.specs.Registers.{Registers}
use Rattle.machine_protection.specs.Protection.{is_on, default_allows, permits}
use Rattle.machine_model.specs.declared.state.ProtectionState.{ProtectionState}
use Rattle.machine_model.specs.State.{by_mpu, is_unprivileged}
use Rattle.machine_emulator.specs.Known.{IsPermitted, AreKnown}
use Rattle.machine_emulator.proofs.Alike.{permits_alike}

-- all that is kept is known where nothing is kept
pub nothing_known : (m : Registers) (u : Bool) (kind : Access) → AreKnown m u kind (replicate 32 0xFFFFFFFF)
nothing_known m u kind = record {
  room = length-replicate {A = ℕ} 32 0xFFFFFFFF;
  permitted = All-replicate (IsPermitted m u kind) 32 0xFFFFFFFF (λ on lt. absurd (omega (arith, lt)));
}

pub none_known : (m : Registers) (u : Bool) (kind : Access) (bs : List ℕ) → bs ≡ replicate 32 0xFFFFFFFF → AreKnown m u kind bs
none_known m u kind bs e = subst (AreKnown m u kind) (sym e) (nothing_known m u kind)

-- a block where the access is permitted is put in
pub one_more : (m : Registers) (u : Bool) (kind : Access) (bs : List ℕ) (k b : ℕ) → AreKnown m u kind bs → IsPermitted m u kind b → AreKnown m u kind (set bs k b)
one_more m u kind bs k b h p = record {
  room = length-set bs k b ∙ h.room;
  permitted = All-set (IsPermitted m u kind) bs k b p h.permitted;
}

-- what is found there is permitted
pub found : (m : Registers) (u : Bool) (kind : Access) (bs : List ℕ) (b : ℕ) → AreKnown m u kind bs → get_or bs (b % 32) 0 ≡ b → IsPermitted m u kind b
found m u kind bs b h e =
    subst (IsPermitted m u kind) e (All-get_or (IsPermitted m u kind) bs (b % 32) 0 (let r = h.room in omega arith) h.permitted)

-- the block of an address answers for it, and the address for its block
pub by_block : (p : ProtectionState) (kind : Access) (a : ℕ) → a < 2 ^ 32 → is_on p.mpu ≡ true → IsPermitted p.mpu (is_unprivileged p) kind (a / 32) → by_mpu p kind a ≡ true
unfolding by_mpu
by_block p kind a lt on h = permits_alike p.mpu (is_unprivileged p) kind a (32 * (a / 32)) (omega arith) ∙ h on (omega arith)

pub of_address : (p : ProtectionState) (kind : Access) (a : ℕ) → by_mpu p kind a ≡ true → IsPermitted p.mpu (is_unprivileged p) kind (a / 32)
unfolding by_mpu
of_address p kind a h on lt = permits_alike p.mpu (is_unprivileged p) kind (32 * (a / 32)) a (omega arith) ∙ h

-- while the unit is off, the default map decides
pub by_default : (p : ProtectionState) (kind : Access) (a : ℕ) → is_on p.mpu ≡ false → by_mpu p kind a ≡ default_allows kind a
unfolding by_mpu permits
by_default p kind a off = rw off refl

-- the next halfword in the same block
pub behind : (p : ProtectionState) (a : ℕ) → a % 32 < 30 → by_mpu p Fetch a ≡ true → by_mpu p Fetch (a + 2) ≡ true
unfolding by_mpu
behind p a lt h = permits_alike p.mpu (is_unprivileged p) Fetch (a + 2) a (omega arith) ∙ h

pub ruleset kept_rules = (nothing_known, one_more)

pub ruleset known_rules = (found)

pub ruleset answer_rules = (by_block, of_address, by_default)

pub ruleset behind_rules = (behind)
