-- What is printed of a text: the listing of its words and that of its forms, or the line of its first fault.
use Rattle.std.specs.Prelude.{◌≡◌, ℕ, ◌⊎◌, List, ◌++◌, Ok, Err, codes, vec_items, Result, Vec}
use Rattle.std.specs.declared.alloc.Global.{Global}
use Rattle.faults.specs.Refusal.{refusal_line}
use Rattle.faults.specs.declared.Fault.{Fault}
use Rattle.lines.specs.Fault as line_fault
use Rattle.lines.specs.Table.{Table}
use Rattle.lines.specs.Text.{Entered, text_forms}
use Rattle.lines.specs.declared.refusal.LineFault.{LineFault}
use Rattle.lines.specs.declared.refusal.LineFault.TheVariants.{Memory}
use Rattle.words.specs.Fault as word_fault
use Rattle.words.specs.declared.refusal.WordFault.{WordFault}
use Rattle.listing.specs.Forms.{form_rows}
use Rattle.listing.specs.Listing.{listing_of}

-- the line of a fault
abbrev pub fault_line : Fault → List ℕ
fault_line f = refusal_line f ++ codes "\n"

-- the listing of the words, and then that of the forms
abbrev pub with_forms : Result (List ℕ) WordFault → List Entered → List ℕ
with_forms (Ok out) es = out ++ (codes "line level form\n" ++ form_rows es)
with_forms (Err e) es = fault_line (word_fault.fault_of e)

abbrev pub printed_by : Result (List Entered × Table) LineFault → Result (List ℕ) WordFault → List ℕ
printed_by (Ok p) words = with_forms words p.0
printed_by (Err e) words = fault_line (line_fault.fault_of e)

-- what is printed of the text s
abbrev pub printed : List ℕ → List ℕ
printed s = printed_by (text_forms s) (listing_of s)

-- an answer that tells what is printed of a text: the bytes, or the fault whose line they are
abbrev pub Tells : List ℕ → Result (Vec ℕ Global) LineFault → Type 0
Tells s (Ok v) = vec_items v ≡ printed s
Tells s (Err e) = (e ≡ Memory) ⊎ (fault_line (line_fault.fault_of e) ≡ printed s)
