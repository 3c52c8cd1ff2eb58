-- What `who` prints: a firmware's objects with the compartments that may reach and that need them, what compartments reach without need, and the
-- calls between them.
use Rattle.std.specs.Prelude.{ℕ, List, [], ◌++◌, codes, length, map, flat_map, if◌then◌else◌, Option, Some, None, position, nat_eq}
use Rattle.std.specs.Fmt.{decimal}
use Rattle.machine_lines.specs.Lines.{line_feed}
use Rattle.plan_model.specs.declared.policy.Policy.{Policy}
use Rattle.plan_model.specs.declared.policy.Policy.TheVariants.{Filename, Optimized, Peripheral}
use Rattle.ir_model.specs.Resolved.{file_of, window_at}
use Rattle.plan_model.specs.Groups.{compartment_of}
use Rattle.plan_model.specs.Lists.{numbers_below}
use Rattle.plan_model.specs.Regions.{global_size}
use Rattle.plan_report.specs.Subjects.{Subject}
use Rattle.plan_report.specs.Names.{global_name, periph_name, func_name, file_name, spaced}
use Rattle.plan_report.specs.CompartmentLines.{undeclared_lines}
use Rattle.aces_who.specs.declared.ties.Tie.{Tie}
use Rattle.aces_who.specs.declared.ties.Tie.TheVariants.{MayWrite, MayRead, Writes, MayUse, Uses}
use Rattle.aces_who.specs.declared.ties.Access.{Access}
use Rattle.aces_who.specs.declared.ties.Access.TheVariants.{Write, Read}
use Rattle.aces_who.specs.Ties.{tied}
use Rattle.aces_who.specs.Exposed.{exposed_globals, exposed_periphs}
use Rattle.aces_who.specs.Calls.{crossing_callees}

-- ---- compartments

-- the name of the file of a function, where one was found
abbrev pub file_text_of : Subject → (first : Option ℕ) → List ℕ
file_text_of s None = []
file_text_of s (Some f) = codes " file " ++ file_name s.firmware (file_of s.program f)

-- the file of a compartment, where compartments are made by files: that of its first function
abbrev pub file_text : Subject → Policy → (compartment : ℕ) → List ℕ
file_text s Filename c = file_text_of s (position (λ d. nat_eq d c) s.graph.groups.of)
file_text s Optimized c = []
file_text s Peripheral c = []

abbrev pub compartment_line : Subject → Policy → (compartment : ℕ) → List ℕ
compartment_line s policy c = codes "compartment " ++ decimal c ++ file_text s policy c ++ line_feed

-- ---- objects

-- the compartments that have this tie, each behind a space
abbrev pub tied_text : Subject → Tie → List ℕ
tied_text s t = spaced (map decimal (tied s t))

-- the compartments that may read a global, its writers among them, on a closed board
abbrev pub readers_text : Subject → (global : ℕ) → List ℕ
readers_text s x = if s.board.closed then codes " readers" ++ tied_text s (MayRead x) else []

abbrev pub global_line : Subject → (global : ℕ) → List ℕ
global_line s x =
    codes "global " ++ global_name s.firmware x ++ codes " writers" ++ tied_text s (MayWrite x) ++ codes " needs" ++ tied_text s (Writes x)
    ++ readers_text s x ++ line_feed

abbrev pub periph_line : Subject → (periph : ℕ) → List ℕ
periph_line s q =
    codes "periph " ++ periph_name s.firmware q ++ codes " users" ++ tied_text s (MayUse q) ++ codes " needs" ++ tied_text s (Uses q) ++ line_feed

-- ---- what compartments reach without need

abbrev pub exposed_word : Access → List ℕ
exposed_word Write = codes "exposed "
exposed_word Read = codes "exposed-read "

-- of a subject and one of its compartments
module _ (s : Subject) (c : ℕ) where
  abbrev pub exposed_global_line : Access → (global : ℕ) → List ℕ
  exposed_global_line a x =
      exposed_word a ++ decimal c ++ codes " global " ++ global_name s.firmware x ++ codes " " ++ decimal (global_size s.program x) ++ line_feed

  abbrev pub exposed_periph_line : (periph : ℕ) → List ℕ
  exposed_periph_line q =
      codes "exposed " ++ decimal c ++ codes " periph " ++ periph_name s.firmware q ++ codes " " ++ decimal (window_at s.program q).size ++ line_feed

  unfoldable pub exposed_global_lines : Access → List ℕ
  exposed_global_lines a = flat_map (exposed_global_line a) (exposed_globals s c a)

  unfoldable pub exposed_read_lines : List ℕ
  exposed_read_lines = if s.board.closed then exposed_global_lines Read else []

  unfoldable pub exposed_periph_lines : List ℕ
  exposed_periph_lines = flat_map exposed_periph_line (exposed_periphs s c)

  -- globals that it may write, on a closed board those that it may read, peripherals, and addresses that no peripheral declares
  abbrev pub exposure_lines : List ℕ
  exposure_lines = exposed_global_lines Write ++ exposed_read_lines ++ exposed_periph_lines ++ undeclared_lines s c (codes "undeclared " ++ decimal c)

-- ---- calls

abbrev pub call_line : Subject → (caller callee : ℕ) → List ℕ
call_line s f t =
    codes "call " ++ func_name s.firmware f ++ codes " " ++ func_name s.firmware t
    ++ codes " " ++ decimal (compartment_of s.graph.groups f) ++ codes " " ++ decimal (compartment_of s.graph.groups t) ++ line_feed

unfoldable pub caller_lines : Subject → (caller : ℕ) → List ℕ
caller_lines s f = flat_map (call_line s f) (crossing_callees s f)

-- ---- all lines

unfoldable pub all_compartment_lines : Subject → Policy → List ℕ
all_compartment_lines s policy = flat_map (compartment_line s policy) (numbers_below s.graph.groups.count)

unfoldable pub all_global_lines : Subject → List ℕ
all_global_lines s = flat_map (global_line s) (numbers_below (length s.program.globals))

unfoldable pub all_periph_lines : Subject → List ℕ
all_periph_lines s = flat_map (periph_line s) (numbers_below (length s.program.periphs))

unfoldable pub all_exposure_lines : Subject → List ℕ
all_exposure_lines s = flat_map (exposure_lines s) (numbers_below s.graph.groups.count)

unfoldable pub all_call_lines : Subject → List ℕ
all_call_lines s = flat_map (caller_lines s) (numbers_below (length s.needs.funcs))

-- the lines of a firmware whose compartments are those of the policy
abbrev pub who_lines : Subject → Policy → List ℕ
who_lines s policy = all_compartment_lines s policy ++ all_global_lines s ++ all_periph_lines s ++ all_exposure_lines s ++ all_call_lines s
