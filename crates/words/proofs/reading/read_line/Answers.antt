use Rattle.std.proofs.Common.{ℕ, ◌+◌, ◌/◌, List, map, length, Ok, Err, vec_items, ap, arith, rules}
use Rattle.std.proofs.lemmas.Result.{err_from_is_err_and}
use Rattle.std.proofs.lemmas.List.Sums.{prefix_len-le-length}
use Rattle.words.specs.Bytes.{space}
use Rattle.words.specs.Reading.{Reading, line_of, UnlessMemory}
use Rattle.words.specs.Token.{token}
use Rattle.words.specs.declared.refusal.WordFault.{WordFault}
use Rattle.words.specs.declared.refusal.WordFault.TheVariants.{TextTooLong, ByteOutside, LineTooLong, Indentation}
use Rattle.words.proofs.Comments.{code_short}
use Rattle.words.proofs.Judged.{judged}
use Rattle.words.proofs.reading.read_line.Goals as goal

pub words_of-requires : goal.words_of-requires
words_of-requires c = omega (arith, ap length c.code_of-code.ensures, code_short c.args.line.bytes.now)

pub overflow_cast-result-2 : goal.overflow_cast-result-2
overflow_cast-result-2 c =
    omega (arith, c.front-spaces.ensures, prefix_len-le-length space c.code_of-code.result.now, ap length c.code_of-code.ensures, code_short c.args.line.bytes.now)

-- a refusal of line n with the bytes s
abbrev Refuses : ℕ → List ℕ → WordFault → Type 0
Refuses n s f = UnlessMemory {A = Reading} (Err f) (line_of n s)

pub returns-then-bytes-gt-TEXT_BYTES : goal.returns-then-bytes-gt-TEXT_BYTES
returns-then-bytes-gt-TEXT_BYTES c =
    let reads : Refuses c.args.line.number c.args.line.bytes.now TextTooLong = search rules in
    record { reads = reads; right = judged _ _ _ reads; few = tt }

pub returns-then-printable-bytes : goal.returns-then-printable-bytes
returns-then-printable-bytes c =
    let reads : Refuses c.args.line.number c.args.line.bytes.now (ByteOutside c.args.line.number (c.front-printable.result + 1)) = search rules in
    record { reads = reads; right = judged _ _ _ reads; few = tt }

pub returns-then-bytes-gt-LINE_BYTES : goal.returns-then-bytes-gt-LINE_BYTES
returns-then-bytes-gt-LINE_BYTES c =
    let reads : Refuses c.args.line.number c.args.line.bytes.now (LineTooLong c.args.line.number) = search rules in
    record { reads = reads; right = judged _ _ _ reads; few = tt }

pub returns-then-spaces-gt-INDENTATION : goal.returns-then-spaces-gt-INDENTATION
returns-then-spaces-gt-INDENTATION c =
    let reads : Refuses c.args.line.number c.args.line.bytes.now (Indentation c.args.line.number) = search rules in
    record { reads = reads; right = judged _ _ _ reads; few = tt }

pub returns-in_err-words : goal.returns-in_err-words
returns-in_err-words c =
    let p = err_from_is_err_and c.from_residual.result c.from_residual.ensures.1 in
    let reads : Refuses c.args.line.number c.args.line.bytes.now p.0 = search rules in
    rw p.1 (record { reads = reads; right = judged _ _ _ reads; few = tt })

pub returns : goal.returns
returns c =
    let reads : UnlessMemory (Ok (record { level = c.front-spaces.result / 2; words = map token (vec_items c.in_ok-words.words) })) (line_of c.args.line.number c.args.line.bytes.now) = search rules in
    record {
      reads = reads;
      right = judged _ _ _ reads;
      few = omega (arith, c.in_ok-words.ensures.few, ap length c.code_of-code.ensures, code_short c.args.line.bytes.now);
    }
