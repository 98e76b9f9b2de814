-- Answers that may be a flaw of the line, and how one follows another.
use Rattle.std.specs.Prelude.{◌≡◌, ◌⊎◌, Ok, Err, Result}
use Rattle.lines.specs.declared.refusal.Flaw.{Flaw}
use Rattle.lines.specs.declared.refusal.Flaw.TheVariants.{Memory}

-- a value, or what is wrong
abbrev pub Answer : Type 0 → Type 0
Answer A = Result A Flaw

-- the first flaw stops; a value goes on
abbrev pub onward : {A B : Type 0} → Answer A → (A → Answer B) → Answer B
onward (Ok x) k = k x
onward (Err f) k = Err f

-- the value of an answer, as something else
abbrev pub answered : {A B : Type 0} → (A → B) → Answer A → Answer B
answered f (Ok x) = Ok (f x)
answered f (Err e) = Err e

-- the first answer is the second, unless memory ran out
abbrev pub UnlessMemory : {A : Type 0} → Answer A → Answer A → Type 0
UnlessMemory (Ok y) x = x ≡ Ok y
UnlessMemory (Err f) x = (f ≡ Memory) ⊎ (x ≡ Err f)
