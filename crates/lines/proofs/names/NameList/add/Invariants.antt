use Rattle.std.proofs.Common.{◌≡◌, ◌+◌, ◌≤◌, ◌++◌, map, length, take, vec_len, vec_capacity}
use Rattle.lines.specs.Table.{listed}
use Rattle.lines.specs.Syntax.{mention_text}
use Rattle.lines.proofs.names.NameList.add.Given as goal

abbrev pub invariant-loop-mention : goal.invariant-loop-mention
invariant-loop-mention g l =
    (listed l.self ≡ listed l.initial.self ++ map mention_text (take l.mention-index l.list))
    × (vec_len l.self.names ≡ vec_len l.initial.self.names + l.mention-index)
    × (vec_len l.initial.self.names + length l.list ≤ vec_capacity l.self.names)
