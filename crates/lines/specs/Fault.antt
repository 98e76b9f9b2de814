-- What the refusals of this layer give: number, layer, line and byte.
use Rattle.std.specs.Prelude.{ℕ}
use Rattle.faults.specs.declared.Fault.{Fault}
use Rattle.faults.specs.declared.Layer.TheVariants.{Lines, Host}
use Rattle.words.specs.Fault.{fault_of as word_fault}
use Rattle.words.specs.declared.refusal.WordFault.{WordFault}
use Rattle.words.specs.declared.refusal.WordFault.TheVariants as word
use Rattle.lines.specs.declared.refusal.Flaw.{Flaw}
use Rattle.lines.specs.declared.refusal.Flaw.TheVariants as flaw
use Rattle.lines.specs.declared.refusal.LineFault.{LineFault}
use Rattle.lines.specs.declared.refusal.LineFault.TheVariants.{Words, NoForm, Name, WrongType, TooMany, Link, Memory}

-- a fault of the lines
abbrev pub in_lines : ℕ → ℕ → ℕ → Fault
in_lines number line byte = record { number = number; layer = Lines; line = line; byte = byte }

-- the number, layer and place of each refusal: a fault of the words keeps its own, and only a name is told by its byte
abbrev pub fault_of : LineFault → Fault
fault_of (Words e) = word_fault e
fault_of (NoForm line) = in_lines 6 line 0
fault_of (Name line byte) = in_lines 7 line byte
fault_of (WrongType line) = in_lines 8 line 0
fault_of (TooMany line) = in_lines 9 line 0
fault_of (Link line) = in_lines 10 line 0
fault_of Memory = record { number = 0; layer = Host; line = 0; byte = 0 }

-- a fault of the words, as a fault of the line
abbrev pub from_words : WordFault → LineFault
from_words word.TextTooLong = Words word.TextTooLong
from_words word.TooManyLines = Words word.TooManyLines
from_words (word.ByteOutside n i) = Words (word.ByteOutside n i)
from_words (word.LineTooLong n) = Words (word.LineTooLong n)
from_words (word.Indentation n) = Words (word.Indentation n)
from_words (word.NameTooLong n i) = Words (word.NameTooLong n i)
from_words (word.NumberTooBig n i) = Words (word.NumberTooBig n i)
from_words (word.UnknownSign n i) = Words (word.UnknownSign n i)
from_words word.Memory = Memory

-- what is wrong with the form of line n
abbrev pub in_line : ℕ → Flaw → LineFault
in_line n flaw.NoForm = NoForm n
in_line n (flaw.Name byte) = Name n byte
in_line n flaw.WrongType = WrongType n
in_line n flaw.TooMany = TooMany n
in_line n flaw.Link = Link n
in_line n flaw.Memory = Memory
