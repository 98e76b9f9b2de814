-- A refusal as text.
use Rattle.std.specs.Prelude.{ℕ, List, ◌++◌, codes, decimal}
use Rattle.faults.specs.declared.Fault.{Fault}
use Rattle.faults.specs.declared.Layer.{Layer}
use Rattle.faults.specs.declared.Layer.TheVariants.{Words, Lines, Program, Host}

-- the word for a layer
abbrev pub layer_name : Layer → List ℕ
layer_name Words = codes "words"
layer_name Lines = codes "lines"
layer_name Program = codes "program"
layer_name Host = codes "host"

-- `refused NUMBER LAYER LINE BYTE`, the numbers in decimal
abbrev pub refusal_line : Fault → List ℕ
refusal_line x = codes "refused " ++ (decimal x.number ++ (codes " " ++ (layer_name x.layer ++ (codes " " ++ (decimal x.line ++ (codes " " ++ decimal x.byte))))))
