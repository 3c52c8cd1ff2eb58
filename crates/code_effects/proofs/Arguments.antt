-- Words of the frame into the registers from r0 on.
use Rattle.std.proofs.Common.{◌≡◌, ℕ, zero, suc, ◌+◌, ◌*◌, ◌<◌, ◌≤◌, List, [], ◌∷◌, length, get_or, set, length-set, get_or-set_same, get_or-set_other, refl, sym, ap, ◌∙◌, arith}
use Rattle.base_laws.specs.Lists.{EachBelow}
use Rattle.base_words.specs.declared.conditions.Flags.{Flags}
use Rattle.base_words.specs.Bytes.{read}
use Rattle.machine_devices.specs.declared.image.Image.{Image}
use Rattle.machine_model.specs.State.{PermissionTest}
use Rattle.machine_model.specs.Code.{CodeAt, Runs}
use Rattle.machine_model.specs.Running.{code_size}
use Rattle.machine_model.specs.Stack.{Room}
use Rattle.machine_model.specs.RunningCode.{Context, works}
use Rattle.machine_model.proofs.Exec.{stay, next_step}
use Rattle.machine_model.proofs.Transfers.{ldr_sp}
use Rattle.code_model.specs.Calls.{args_code}
use Rattle.code_effects.specs.Points.{Point, AreAsKnown, known}
use Rattle.code_effects.specs.Frames.{home}
use Rattle.code_effects.specs.Calls.{homes}
use Rattle.code_effects.proofs.Joined.{ends_at}
use Rattle.code_effects.proofs.Registers.{holds_known}

module _ (j : PermissionTest) (i : Image) where
  pub record Args (x : Context) (low : List ℕ) (k o sp lr pc : ℕ) (f : Flags) (as_ : List ℕ) (ram : List ℕ) (queues : List (List ℕ)) : Type 0 where
    pub after : List ℕ
    pub eight : length after ≡ 8
    pub runs : Runs j i (length as_) (works x low sp lr pc f ram queues) (works x after sp lr (pc + code_size (args_code k as_)) f ram queues) []
    pub gives : (m : ℕ) → m < length as_ → get_or after (k + m) 0 ≡ read 4 (o + 4 * get_or as_ m 0) ram
    pub keeps : (m : ℕ) → m < k → get_or after m 0 ≡ get_or low m 0

  pub args : (x : Context) (low : List ℕ) (k o n sp lr pc : ℕ) (f : Flags) (as_ : List ℕ) (ram : List ℕ) (queues : List (List ℕ)) → Room j i x.protection sp o n → length low ≡ 8 → k + length as_ ≤ 8 → EachBelow n as_ →
      CodeAt j i x.protection pc (args_code k as_) → Args x low k o sp lr pc f as_ ram queues
  args x low k o n sp lr pc f [] ram queues r h few b code = record {
    after = low;
    eight = h;
    runs = let e : pc ≡ pc + 0 = omega arith in ends_at j i 0 _ x low sp lr pc (pc + 0) f ram queues [] e (stay j i);
    gives = λ m l. absurd (omega arith);
    keeps = λ m l. refl;
  }
  args x low k o n sp lr pc f (a ∷ as_) ram queues r h few b code =
      let v : ℕ = read 4 (o + 4 * a) ram in
      let c = args x (set low k v) (suc k) o n sp lr (pc + 2) f as_ ram queues r (length-set low k v ∙ h) (omega arith) b.1 code.1 in
      let e : pc + 2 + code_size (args_code (suc k) as_) ≡ pc + (2 + code_size (args_code (suc k) as_)) = omega arith in
      record {
        after = c.after;
        eight = c.eight;
        runs = ends_at j i _ _ x c.after sp lr _ _ f ram queues [] e (next_step (ldr_sp j i x low sp lr pc f ram queues k a o n r b.0 code.0) c.runs);
        gives = given c.after c.gives (c.keeps k (omega arith) ∙ get_or-set_same low k v 0 (omega arith));
        keeps = λ m l. c.keeps m (omega arith) ∙ get_or-set_other low k m v 0 (omega arith);
      }
    where
      given : (after : List ℕ) → ((m : ℕ) → m < length as_ → get_or after (suc k + m) 0 ≡ read 4 (o + 4 * get_or as_ m 0) ram) → get_or after k 0 ≡ read 4 (o + 4 * a) ram →
          (m : ℕ) → m < suc (length as_) → get_or after (k + m) 0 ≡ read 4 (o + 4 * get_or (a ∷ as_) m 0) ram
      given after g0 e zero l = let z : k + 0 ≡ k = omega arith in ap (λ (t : ℕ). get_or after t 0) z ∙ e
      given after g0 e (suc m) l = let z : k + suc m ≡ suc k + m = omega arith in ap (λ (t : ℕ). get_or after t 0) z ∙ g0 m (omega arith)

pub args_size : (k : ℕ) (as_ : List ℕ) → code_size (args_code k as_) ≡ 2 * length as_
args_size k [] = refl
args_size k (a ∷ as_) = omega (arith, args_size (suc k) as_)

-- ---- what is known of them

home_of : (o : ℕ) (p : Point) (ks : List ℕ) (k : ℕ) → k < length ks → get_or (homes o p ks) k 0 ≡ home o p (get_or ks k 0)
home_of o p [] k l = absurd (omega arith)
home_of o p (x ∷ xs) zero l = refl
home_of o p (x ∷ xs) (suc k) l = home_of o p xs k (omega arith)

length-homes : (o : ℕ) (p : Point) (ks : List ℕ) → length (homes o p ks) ≡ length ks
length-homes o p [] = refl
length-homes o p (x ∷ xs) = ap suc (length-homes o p xs)

-- the arguments are in r0 and the registers behind it
pub holds_homes : (o : ℕ) (p : Point) (ks after : List ℕ) → length after ≡ 8 → ((k : ℕ) → k < length ks → get_or after (0 + k) 0 ≡ home o p (get_or ks k 0)) → AreAsKnown (known (homes o p ks)) after
holds_homes o p ks after h g =
    let e = length-homes o p ks in
    holds_known (homes o p ks) after h (λ k l. let z : k ≡ 0 + k = omega arith in ap (λ (t : ℕ). get_or after t 0) z ∙ g k (omega arith) ∙ sym (home_of o p ks k (omega arith)))
