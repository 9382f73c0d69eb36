-- The bytes before this one are read; a byte begins at most one number.
use Rattle.std.proofs.Common.{◌≡◌, ◌≤◌, take}
use Rattle.lists.specs.Lists.{fold}
use Rattle.test_lines.specs.Lines.{Reading, read_byte, letter_of}
use Rattle.test_lines.proofs.reader.numbers_of.Given as goal

abbrev pub invariant-loop-b : goal.invariant-loop-b
invariant-loop-b l =
    (l.r.count ≤ l.b-index)
    × ◌≡◌ {A = Reading} (record { line = l.r; words = l.words }) (fold read_byte (record { line = letter_of l.line; words = l.initial.words }) (take l.b-index l.rest))
