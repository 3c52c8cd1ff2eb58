-- What a self-test tells.
use Rattle.std.specs.Prelude.{◌≡◌, ℕ, List, ◌++◌, length, Bool, true, false, codes}
use Rattle.std.specs.Fmt.{decimal}
use Rattle.base_events.specs.declared.event.Event.{Event}
use Rattle.machine_lines.specs.Lines.{line_feed}

-- what a run did: how many steps it took, its accesses of peripherals in order, and the line of its end
pub record Ran : Type 0 where
  pub steps : ℕ
  pub events : List Event
  pub end : List ℕ

-- two runs made the same accesses, and ended by the same line
abbrev pub AreAlike : Ran → Ran → Type 0
AreAlike a b = (a.events ≡ b.events) × (a.end ≡ b.end)

abbrev pub firmware_line : (functions globals peripherals : ℕ) → List ℕ
firmware_line f g p = codes "functions " ++ decimal f ++ codes " globals " ++ decimal g ++ codes " peripherals " ++ decimal p ++ line_feed

abbrev pub division_line : (compartments sites : ℕ) → List ℕ
division_line c s = codes "compartments " ++ decimal c ++ codes " sites " ++ decimal s ++ line_feed

-- the counts of a run, with the line of its end behind
abbrev pub counted_line : (word : List ℕ) → (steps events : ℕ) → (end : List ℕ) → List ℕ
counted_line word n e end = word ++ decimal n ++ codes " steps " ++ decimal e ++ codes " events " ++ end

abbrev pub run_line : (word : List ℕ) → Ran → List ℕ
run_line word r = counted_line word r.steps (length r.events) r.end

-- whether both runs are alike
abbrev pub verdict_line : Bool → List ℕ
verdict_line true = codes "same" ++ line_feed
verdict_line false = codes "differ" ++ line_feed

abbrev pub verdict_status : Bool → ℕ
verdict_status true = 0
verdict_status false = 7

-- the lines: the firmware's, the image's, those of both runs, and the verdict
abbrev pub test_lines : (firmware division : List ℕ) → (source image : Ran) → (alike : Bool) → List ℕ
test_lines firmware division source image alike =
    firmware ++ division ++ run_line (codes "source ") source ++ run_line (codes "image ") image ++ verdict_line alike
