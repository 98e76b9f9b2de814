-- What the refusals of this layer give: number, layer, line and byte.
use Rattle.std.specs.Prelude.{ℕ}
use Rattle.faults.specs.declared.Fault.{Fault}
use Rattle.faults.specs.declared.Layer.TheVariants.{Words, Host}
use Rattle.words.specs.declared.refusal.WordFault.{WordFault}
use Rattle.words.specs.declared.refusal.WordFault.TheVariants.{TextTooLong, TooManyLines, ByteOutside, LineTooLong, Indentation, NameTooLong, NumberTooBig, UnknownSign, Memory}

-- a fault of the words
abbrev pub in_words : ℕ → ℕ → ℕ → Fault
in_words number line byte = record { number = number; layer = Words; line = line; byte = byte }

-- the number, layer and place of each refusal; a fault of the text has line 0, one of a whole line has byte 0
abbrev pub fault_of : WordFault → Fault
fault_of TextTooLong = in_words 1 0 0
fault_of TooManyLines = in_words 1 0 0
fault_of (ByteOutside line byte) = in_words 2 line byte
fault_of (LineTooLong line) = in_words 3 line 0
fault_of (Indentation line) = in_words 4 line 0
fault_of (NameTooLong line byte) = in_words 5 line byte
fault_of (NumberTooBig line byte) = in_words 5 line byte
fault_of (UnknownSign line byte) = in_words 5 line byte
fault_of Memory = record { number = 0; layer = Host; line = 0; byte = 0 }
