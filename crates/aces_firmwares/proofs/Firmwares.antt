-- Firmwares: what a refusal says of the bytes, and how many functions a firmware within the limits has.
use Rattle.std.proofs.Common.{◌≡◌, ℕ, ◌+◌, ◌<◌, ◌≤◌, List, [], ◌∷◌, map, length, get_or, take, true, false, refl, ap, sym, subst, ◌∙◌, arith, length-append, flat_map}
use Rattle.std.proofs.lemmas.List.{length-map}
use Rattle.std.proofs.lemmas.List.Folds.{length-flat_map-take}
use Rattle.ir_model.specs.declared.firmware.FileDecl.{FileDecl}
use Rattle.ir_model.specs.declared.firmware.Firmware.{Firmware}
use Rattle.ir_model.specs.declared.firmware.Func.{Func}
use Rattle.ir_model.specs.Plain.{PlainFile, PlainFirmware, func_of, file_of, global_of, firmware_of, funcs_of}
use Rattle.ir_model.specs.Canonical.{IsWithinLimits}
use Rattle.ir_model.specs.Texts as firmwares
use Rattle.ir_model.proofs.Limits.{few_functions}
use Rattle.ir_check_scopes.specs.declared.fault.CheckFault.{CheckFault}
use Rattle.ir_check_scopes.specs.declared.fault.CheckFault.TheVariants.{At, NoMemory as WantOfMemory}
use Rattle.ir_check_scopes.specs.Found.{IsFaultOf}
use Rattle.ir_reader.specs.declared.fault.TextFault.{TextFault}
use Rattle.ir_reader.specs.First.{IsFirst}
use Rattle.aces_reports.specs.declared.failure.Fault.{Fault}
use Rattle.aces_reports.specs.declared.failure.Fault.TheVariants.{Text, Check}
use Rattle.aces_reports.specs.declared.failure.Failure.{Failure}
use Rattle.aces_files.specs.Contents.{IsContentFault}
use Rattle.aces_files.specs.Loads.{IsContentFailure}
use Rattle.aces_files.proofs.Ends.{content_also}
use Rattle.aces_firmwares.specs.Firmwares.{IsNoFirmware, no_text, ill_typed}
use Rattle.aces_firmwares.specs.Counts.{count_line}
use Rattle.machine_lines.specs.Lines as lines

-- bytes with a first fault are the text of no typed firmware
pub text_refused : (bytes name : List ℕ) (first : TextFault) (e : Failure) → IsFirst bytes first → IsContentFailure (IsContentFault (Text first)) name e
    → IsContentFailure (IsNoFirmware bytes) name e
text_refused bytes name first e h =
    content_also (IsContentFault (Text first)) (IsNoFirmware bytes) (λ f q. no_text f (record { first = first; found = h; named = q })) name e

not_typed : (w : PlainFirmware) (bytes : List ℕ) (fault : CheckFault) (f : Fault) → firmwares.IsText w bytes → IsFaultOf w fault → IsContentFault (Check fault) f → IsNoFirmware bytes f
not_typed w bytes (At kind place) f t h q =
    subst (IsNoFirmware bytes) (sym q.0) (ill_typed kind place (record { firmware = w; is_text = t; found = h }))
not_typed w bytes WantOfMemory f t h q = let wrong : true ≡ false = q.1 in cc

-- the text of a firmware of which a check fails is the text of no typed firmware
pub check_refused : (w : PlainFirmware) (bytes name : List ℕ) (fault : CheckFault) (e : Failure) → firmwares.IsText w bytes → IsFaultOf w fault
    → IsContentFailure (IsContentFault (Check fault)) name e → IsContentFailure (IsNoFirmware bytes) name e
check_refused w bytes name fault e t h =
    content_also (IsContentFault (Check fault)) (IsNoFirmware bytes) (λ f q. not_typed w bytes fault f t h q) name e

abbrev functions : List FileDecl → List Func
functions fs = flat_map (λ (f : FileDecl). f.funcs) fs

-- files have as many functions in the code's form as in the definition's
pub same_count : (fs : List FileDecl) → length (flat_map (λ (f : PlainFile). f.funcs) (map file_of fs)) ≡ length (functions fs)
same_count [] = refl
same_count (f ∷ fs) =
    let a = length-append (map func_of f.funcs) (flat_map (λ (g : PlainFile). g.funcs) (map file_of fs)) in
    let b = length-append f.funcs (functions fs) in
    let m = length-map f.funcs func_of in
    let r = same_count fs in
    omega arith

pub few_declared : (w : Firmware) → IsWithinLimits (firmware_of w) → length (functions w.files) ≤ 1024
few_declared w h = let n = few_functions (firmware_of w) h in let e = same_count w.files in omega arith

-- one file's functions fit behind those of the files before it
pub room_for_more : (fs : List FileDecl) (k : ℕ) (f : FileDecl) → k < length fs → f ≡ get_or fs k f → length (functions (take k fs)) + length f.funcs ≤ length (functions fs)
room_for_more fs k f h e =
    let room = length-flat_map-take (λ (g : FileDecl). g.funcs) fs k f h in
    subst (λ (g : FileDecl). length (functions (take k fs)) + length g.funcs ≤ length (functions fs)) (sym e) room

-- the line of counts of a firmware by the lists of the code
pub counted_line : (w : Firmware) (f g p : ℕ) → f ≡ length (functions w.files) → g ≡ length w.globals → p ≡ length w.periphs → lines.count_line f g p ≡ count_line (firmware_of w)
counted_line w f g p a b c =
    ap (λ x. lines.count_line x g p) (a ∙ sym (same_count w.files))
    ∙ ap (λ x. lines.count_line (length (funcs_of (firmware_of w))) x p) (b ∙ sym (length-map w.globals global_of))
    ∙ ap (λ x. lines.count_line (length (funcs_of (firmware_of w))) (length (firmware_of w).globals) x) c
