-- The keywords and signs of the language, as they are written.
use Rattle.std.specs.Prelude.{ℕ, List, codes}
use Rattle.words.specs.declared.vocabulary.Keyword.{Keyword}
use Rattle.words.specs.declared.vocabulary.Keyword.TheVariants as key
use Rattle.words.specs.declared.vocabulary.Sign.{Sign}
use Rattle.words.specs.declared.vocabulary.Sign.TheVariants as sign

-- a keyword's bytes
abbrev pub keyword_text : Keyword → List ℕ
keyword_text key.After = codes "AFTER"
keyword_text key.Alt = codes "ALT"
keyword_text key.And = codes "AND"
keyword_text key.At = codes "AT"
keyword_text key.Chan = codes "CHAN"
keyword_text key.False = codes "FALSE"
keyword_text key.If = codes "IF"
keyword_text key.Int = codes "INT"
keyword_text key.Minus = codes "MINUS"
keyword_text key.Not = codes "NOT"
keyword_text key.Of = codes "OF"
keyword_text key.Or = codes "OR"
keyword_text key.Par = codes "PAR"
keyword_text key.Place = codes "PLACE"
keyword_text key.Plus = codes "PLUS"
keyword_text key.Pri = codes "PRI"
keyword_text key.Seq = codes "SEQ"
keyword_text key.Skip = codes "SKIP"
keyword_text key.Stop = codes "STOP"
keyword_text key.Timer = codes "TIMER"
keyword_text key.Times = codes "TIMES"
keyword_text key.True = codes "TRUE"
keyword_text key.While = codes "WHILE"

-- a sign's bytes
abbrev pub sign_text : Sign → List ℕ
sign_text sign.Becomes = codes ":="
sign_text sign.Differ = codes "<>"
sign_text sign.AtMost = codes "<="
sign_text sign.AtLeast = codes ">="
sign_text sign.Input = codes "?"
sign_text sign.Output = codes "!"
sign_text sign.Guard = codes "&"
sign_text sign.Colon = codes ":"
sign_text sign.Comma = codes ","
sign_text sign.Open = codes "("
sign_text sign.Close = codes ")"
sign_text sign.Add = codes "+"
sign_text sign.Subtract = codes "-"
sign_text sign.Multiply = codes "*"
sign_text sign.Divide = codes "/"
sign_text sign.Remainder = codes "\\"
sign_text sign.Equal = codes "="
sign_text sign.Less = codes "<"
sign_text sign.More = codes ">"
