-- The kinds of numbers, each by the code of its letter.
use Rattle.numbers.specs.declared.Number.{Number}

-- v
abbrev pub Variable : Type 0
Variable = Number 118

-- c
abbrev pub Channel : Type 0
Channel = Number 99

-- p
abbrev pub Process : Type 0
Process = Number 112
