-- What a line is, its parts left out.
use Rattle.lines.specs.Judgement as form
use Rattle.lines.specs.Judgement.{Formed}
use Rattle.lines.specs.declared.syntax.Lone.{Lone}
use Rattle.lines.specs.declared.syntax.Lone.TheVariants as alone
use Rattle.structure.specs.declared.sorts.Manner.{Manner}
use Rattle.structure.specs.declared.sorts.Manner.TheVariants.{Sequence, Branches, Loop, Choices, Body}
use Rattle.structure.specs.declared.sorts.Sort.{Sort}
use Rattle.structure.specs.declared.sorts.Sort.TheVariants.{Declaration, Skip, Stop, Assign, Input, Output, Seq, Par, If, Alt, While, Choice, Guard}

-- the sort of a line that is keywords alone; PRI ALT is as ALT
abbrev pub lone_sort : Lone → Sort
lone_sort alone.Skip = Skip
lone_sort alone.Stop = Stop
lone_sort alone.Seq = Seq
lone_sort alone.Par = Par
lone_sort alone.If = If
lone_sort alone.Alt = Alt
lone_sort alone.PriAlt = Alt

-- the sort of a line
abbrev pub sort_of : Formed → Sort
sort_of (form.variables first count) = Declaration
sort_of (form.channels first count) = Declaration
sort_of (form.place c a) = Declaration
sort_of (form.lone l) = lone_sort l
sort_of (form.assign x e) = Assign
sort_of (form.input c x) = Input
sort_of (form.output c e) = Output
sort_of (form.while e) = While
sort_of (form.choice e) = Choice
sort_of (form.guard e c x) = Guard
sort_of (form.skip_guard e) = Guard

-- how the lines below a line go on; a declaration is passed by, as an empty SEQ is
abbrev pub manner : Sort → Manner
manner Declaration = Sequence
manner Skip = Body
manner Stop = Body
manner Assign = Body
manner Input = Body
manner Output = Body
manner Seq = Sequence
manner Par = Branches
manner If = Choices
manner Alt = Body
manner While = Loop
manner Choice = Body
manner Guard = Body
