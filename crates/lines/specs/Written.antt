-- A form as text, variable n as `vn` and channel n as `cn`.
use Rattle.std.specs.Prelude.{ℕ, List, ◌++◌, codes, decimal}
use Rattle.expressions.specs.Text.{expression_text}
use Rattle.lines.specs.Judgement.{Formed, variables, channels, place, lone, assign, input, output, while, choice, guard, skip_guard}
use Rattle.lines.specs.declared.syntax.Lone.{Lone}
use Rattle.lines.specs.declared.syntax.Lone.TheVariants.{Skip, Stop, Seq, Par, If, Alt, PriAlt}

-- a line that is keywords alone
abbrev pub lone_text : Lone → List ℕ
lone_text Skip = codes "SKIP"
lone_text Stop = codes "STOP"
lone_text Seq = codes "SEQ"
lone_text Par = codes "PAR"
lone_text If = codes "IF"
lone_text Alt = codes "ALT"
lone_text PriAlt = codes "PRI ALT"

-- a form; a declaration by how many names it has and the first one's number
abbrev pub form_text : Formed → List ℕ
form_text (variables first count) = codes "INT " ++ (decimal count ++ (codes " from v" ++ decimal first))
form_text (channels first count) = codes "CHAN OF INT " ++ (decimal count ++ (codes " from c" ++ decimal first))
form_text (place c a) = codes "PLACE c" ++ (decimal c ++ (codes " AT " ++ decimal a))
form_text (lone l) = lone_text l
form_text (assign x e) = codes "v" ++ (decimal x ++ (codes " := " ++ expression_text e))
form_text (input c x) = codes "c" ++ (decimal c ++ (codes " ? v" ++ decimal x))
form_text (output c e) = codes "c" ++ (decimal c ++ (codes " ! " ++ expression_text e))
form_text (while e) = codes "WHILE " ++ expression_text e
form_text (choice e) = expression_text e
form_text (guard e c x) = expression_text e ++ (codes " & c" ++ (decimal c ++ (codes " ? v" ++ decimal x)))
form_text (skip_guard e) = expression_text e ++ codes " & SKIP"
