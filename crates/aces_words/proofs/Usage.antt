-- Words that are those of no command are those of no request.
use Rattle.std.proofs.Common.{ℕ, List}
use Rattle.aces_words.specs.Requests.{Run, Bin, Watch, State, Audit, Tables, Check, Why, Source, Where, Compile, Listing, Stack, Who, Symbols, Explain, ExplainPlan, Help, Selftest, Asks, IsUsage}
use Rattle.aces_words.specs.Commands.{AsksOfNoImage, AsksOfNoFirmware, AsksOfNoPlan}

pub no_request : (words : List (List ℕ)) → AsksOfNoImage words → AsksOfNoFirmware words → AsksOfNoPlan words →
    (Asks words Help → ⊥) → ((seed size : ℕ) → Asks words (Selftest seed size) → ⊥) → IsUsage words
no_request words i f p h t (Run image tape steps) asks = i.no_run image tape steps asks
no_request words i f p h t (Bin image file) asks = i.no_bin image file asks
no_request words i f p h t (Watch image tape steps address) asks = i.no_watch image tape steps address asks
no_request words i f p h t (State image tape steps) asks = i.no_state image tape steps asks
no_request words i f p h t (Audit image) asks = i.no_audit image asks
no_request words i f p h t (Tables image) asks = i.no_tables image asks
no_request words i f p h t (Check firmware) asks = f.no_check firmware asks
no_request words i f p h t (Why firmware) asks = f.no_why firmware asks
no_request words i f p h t (Source firmware policy tape steps) asks = f.no_source firmware policy tape steps asks
no_request words i f p h t (Where firmware policy tape steps) asks = f.no_where firmware policy tape steps asks
no_request words i f p h t (Compile firmware board policy image) asks = p.no_compile firmware board policy image asks
no_request words i f p h t (Listing firmware board policy) asks = p.no_list firmware board policy asks
no_request words i f p h t (Stack firmware board policy) asks = p.no_stack firmware board policy asks
no_request words i f p h t (Who firmware board policy) asks = p.no_who firmware board policy asks
no_request words i f p h t (Symbols firmware board policy) asks = p.no_symbols firmware board policy asks
no_request words i f p h t (Explain firmware) asks = f.no_explain firmware asks
no_request words i f p h t (ExplainPlan firmware board policy) asks = p.no_explain firmware board policy asks
no_request words i f p h t Help asks = h asks
no_request words i f p h t (Selftest seed size) asks = t seed size asks
