-- Lines as the code has them, whole and under way.
use Rattle.std.specs.Prelude.{ℕ, ◌+◌, ◌-◌, List, [], ◌∷◌, ◌++◌, length, take, set, replicate}
use Rattle.job_lines.specs.declared.Line.{Line}

-- the bytes of a line's array
abbrev pub line_room : ℕ
line_room = 256

-- the bytes of a line
unfoldable pub text_of : Line → List ℕ
text_of l = take l.len l.bytes

-- the line of a text, whole: its bytes, then zeros
unfoldable pub line_of : List ℕ → Line
line_of text = record { len = length text; bytes = text ++ replicate (line_room - length text) 0 }

-- a line with one byte behind it; what stands after it is as it was
unfoldable pub with_byte : Line → ℕ → Line
with_byte l b = record { len = l.len + 1; bytes = set l.bytes l.len b }

-- and with more, byte behind byte
unfoldable pub longer : Line → List ℕ → Line
longer l [] = l
longer l (b ∷ bs) = longer (with_byte l b) bs
