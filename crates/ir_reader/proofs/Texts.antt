-- What is read is a text of the firmware.
use Rattle.std.proofs.Common.{◌≡◌, ℕ, [], ◌∷◌, ◌++◌, List, refl, sym, ap, ◌∙◌, None, map, flat_map, append-nil, append_assoc, IsUtf8, Result, Ok, Err, IfErr, IfOk}
use Rattle.ir_model.specs.declared.firmware.Firmware.{Firmware}
use Rattle.ir_reader.specs.declared.fault.TextFault.{TextFault}
use Rattle.ir_reader.specs.declared.fault.TextFault.TheVariants as text
use Rattle.ir_reader.specs.First.{IsAccepted}
use Rattle.ir_reader.specs.Refusals.{Refuses}
use Rattle.ir_model.specs.Canonical.{PassesNothing, IsProper}
use Rattle.ir_model.specs.Plain.{PlainFirmware, PlainFile, firmware_of, funcs_of}
use Rattle.ir_model.specs.Tokens.{Marked}
use Rattle.ir_model.specs.Lines.{lines_of, struct_lines, periph_lines, global_lines, file_lines}
use Rattle.ir_model.specs.Texts.{joined, tokens, IsText}
use Rattle.ir_reader.specs.Found.{finds, Is}
use Rattle.ir_reader.specs.Machine.{fault, Structs}
use Rattle.ir_reader.specs.Parts.{HasBlocks, AllHaveBlocks}
use Rattle.ir_reader.specs.Reading.{Passes, HasFields}
use Rattle.ir_reader.specs.Scan.{placed}
use Rattle.ir_grammar.specs.Spelling.{spell_firmware}
use Rattle.ir_reader.specs.Spelling.{as_found}
use Rattle.ir_reader.proofs.Lang
use Rattle.ir_reader.proofs.Lang.{Langs, last, same}
use Rattle.ir_reader.proofs.Pieces.{leads_from}
use Rattle.ir_reader.proofs.Plain.{firmware_plain}
use Rattle.ir_reader.proofs.Proper.{short_from, leads_free, proper_all, each_lines, narrow_from, each_joined}
use Rattle.ir_reader.proofs.Scanning.{placed_nil}
use Rattle.ir_reader.proofs.Unique.{firmware_unique}
use Rattle.ir_reader.proofs.Whole.{finds_from}
use Rattle.ir_reader.proofs.Theorem.{sound_from, none_from, text_of}
use Rattle.base_laws.proofs.Lists.{each_both, each_left, each_right}

-- the marks of a firmware stand where a text begins
pub firmware_is : (w : PlainFirmware) → HasFields w.structs → AllHaveBlocks w.files → Langs (Structs 0 ∷ []) (joined (lines_of w))
unfolding lines_of
firmware_is w f b =
    same _ _ _ (last (Lang.structs_is 0 w.structs w.periphs w.globals w.files f b))
    (ap joined (sym (append_assoc (struct_lines 0 w.structs) (periph_lines 0 w.periphs) (global_lines 0 w.globals ++ file_lines 0 0 w.files)
    ) ∙ sym (append_assoc (struct_lines 0 w.structs ++ periph_lines 0 w.periphs) (global_lines 0 w.globals) (file_lines 0 0 w.files))))

pub all_functions : (fs : List PlainFile) → AllHaveBlocks fs → HasBlocks (flat_map (λ (f : PlainFile). f.funcs) fs)
all_functions [] h = tt
all_functions (f ∷ fs) h = each_both _ f.funcs (flat_map (λ (f : PlainFile). f.funcs) fs) h.0 (all_functions fs h.1)

pub blocks_of : (fs : List PlainFile) → HasBlocks (flat_map (λ (f : PlainFile). f.funcs) fs) → AllHaveBlocks fs
blocks_of [] h = tt
blocks_of (f ∷ fs) h = (each_left _ f.funcs (flat_map (λ (f : PlainFile). f.funcs) fs) h, blocks_of fs (each_right _ f.funcs (flat_map (λ (f : PlainFile). f.funcs) fs) h))

pub text_made : (bytes : List ℕ) (w : PlainFirmware) → IsUtf8 bytes → HasFields w.structs → HasBlocks (funcs_of w) → finds (placed bytes) ≡ text_of (joined (lines_of w)) → fault (Structs 0 ∷ []) (placed bytes) ≡ None → IsText w bytes
text_made bytes w u f b whole none =
    let l = firmware_is w f (blocks_of w.files b) in
    let leads = leads_from bytes (tokens (joined (lines_of w))) whole in
    record {
      utf8 = u;
      spelled = leads;
      limits = record {
        words = each_lines (λ (m : Marked). IsProper m.token) (lines_of w) (proper_all (joined (lines_of w)) (leads_free _ bytes [] leads) (short_from (placed bytes) (Structs 0 ∷ []) refl (joined (lines_of w)) l whole none));
        tokens = each_lines PassesNothing (lines_of w) (sound_from (placed bytes) (Structs 0 ∷ []) refl (joined (lines_of w)) l whole none);
        structs = f;
        functions = b;
      };
    }

pub text_from : (bytes : List ℕ) (w : PlainFirmware) → IsUtf8 bytes → HasFields w.structs → AllHaveBlocks w.files → Passes [] (spell_firmware as_found) (Structs 0 ∷ []) [] (placed bytes) [] w → IsText w bytes
text_from bytes w u f b p = text_made bytes w u f (all_functions w.files b) (p.spelled ∙ (append-nil (spell_firmware as_found w) ∙ sym (firmware_plain w))) (p.passed [])

-- what the scan finds in a text of a firmware
pub text_finds : (bytes : List ℕ) (w : PlainFirmware) → IsText w bytes → finds (placed bytes) ≡ text_of (joined (lines_of w))
text_finds bytes w t =
    let l = firmware_is w t.limits.structs (blocks_of w.files t.limits.functions) in
    let p = each_joined PassesNothing (lines_of w) t.limits.tokens in
    finds_from (tokens (joined (lines_of w))) bytes [] t.spelled (narrow_from (Structs 0 ∷ []) refl (joined (lines_of w)) l p) ∙ ap (λ z. map Is (tokens (joined (lines_of w))) ++ finds z) placed_nil

-- a text of a firmware has no fault
pub no_fault : (bytes : List ℕ) (w : PlainFirmware) → IsText w bytes → fault (Structs 0 ∷ []) (placed bytes) ≡ None
no_fault bytes w t =
    none_from (placed bytes) (Structs 0 ∷ []) refl (joined (lines_of w)) (firmware_is w t.limits.structs (blocks_of w.files t.limits.functions)) (text_finds bytes w t) (each_joined PassesNothing (lines_of w) t.limits.tokens)

-- no text of a firmware is refused
pub accepted : (bytes : List ℕ) (w : PlainFirmware) (r : Result Firmware TextFault) → IsText w bytes → IfErr r (Refuses bytes) → IsAccepted r
accepted bytes w (Ok x) t h = tt
accepted bytes w (Err (text.Utf8 at)) t h = h.none t.utf8
accepted bytes w (Err (text.Syntax pos)) t h = let n = no_fault bytes w t in let s = h.stop in cc
accepted bytes w (Err (text.NumberTooWide pos)) t h = let n = no_fault bytes w t in let s = h.stop in cc
accepted bytes w (Err (text.Limit which pos)) t h = let n = no_fault bytes w t in let s = h.stop in cc
accepted bytes w (Err text.NoMemory) t h = tt

-- no bytes are a text of two firmwares
pub texts_unique : (v w : PlainFirmware) (bytes : List ℕ) → IsText v bytes → IsText w bytes → v ≡ w
texts_unique v w bytes t u = firmware_unique v w (sym (firmware_plain v) ∙ (sym (text_finds bytes v t) ∙ (text_finds bytes w u ∙ firmware_plain w)))

-- what is read is the firmware of which the bytes are a text
pub read_same : (bytes : List ℕ) (w : PlainFirmware) (r : Result Firmware TextFault) → IsText w bytes → IfOk r (λ (x : Firmware). IsText (firmware_of x) bytes) → IfOk r (λ (x : Firmware). firmware_of x ≡ w)
read_same bytes w (Ok x) t h = texts_unique (firmware_of x) w bytes h t
read_same bytes w (Err e) t h = tt
