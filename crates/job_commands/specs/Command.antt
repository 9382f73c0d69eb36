-- How bytes give the commands of a job: one byte that names the command, then its operands, little-endian.
use Rattle.std.specs.Prelude.{ℕ, ◌+◌, ◌*◌, cond, List, [], ◌∷◌, length, take, drop, ltb, eqb, Float}
use Rattle.std.specs.Float.{binary64}
use Rattle.std.specs.Float.Ieee.{of_bits}
use Rattle.grid.specs.declared.Grid.{Grid}
use Rattle.grid.specs.declared.Row.{Row}
use Rattle.grid.specs.Grid.{cell}
use Rattle.job_commands.specs.declared.Command.{Command}
use Rattle.job_commands.specs.declared.Command.TheVariants.{SetGrid, SetCount, SetCosine, SetAngle, Most, Least, End}

-- what the bytes begin with: a command and the bytes after it, or neither
pub data Decoding : Type 0 where
  command : Command → List ℕ → Decoding
  malformed : Decoding

-- ---- operands

-- the number that bytes say, the least byte first
unfoldable pub little : List ℕ → ℕ
little [] = 0
little (b ∷ bs) = b + 256 * little bs

-- a number of so many bytes at a place
unfoldable pub number : ℕ → ℕ → List ℕ → ℕ
number place size bs = little (take size (drop place bs))

-- a float by its bits
unfoldable pub float : ℕ → List ℕ → Float
float place bs = of_bits binary64 (number place 8 bs)

-- a row of one byte
unfoldable pub row_at : ℕ → List ℕ → Row
row_at place bs = record { 0 = number place 1 bs }

-- ---- commands, by their operands

-- G: width, height, origin, steps of longitude and latitude
unfoldable pub grid_read : List ℕ → Grid
grid_read o = record { width = number 0 1 o; height = number 1 1 o; origin_lat = float 2 o; lon_step = float 10 o; lat_step = float 18 o }

unfoldable pub set_grid_of : List ℕ → Command
set_grid_of o = SetGrid (grid_read o)

-- C: row, column, count
unfoldable pub set_count_of : List ℕ → Command
set_count_of o = SetCount (cell (number 0 1 o) (number 1 1 o)) (number 2 4 o)

-- K: row, cosine
unfoldable pub set_cosine_of : List ℕ → Command
set_cosine_of o = SetCosine (row_at 0 o) (float 1 o)

-- A: centre row, row, offset, angle
unfoldable pub set_angle_of : List ℕ → Command
set_angle_of o = SetAngle (row_at 0 o) (row_at 1 o) (number 2 1 o) (float 3 o)

-- M and R: a spacing, 0 for automatic, and a radius or a share
unfoldable pub most_of : List ℕ → Command
most_of o = Most (number 0 2 o) (number 2 2 o)

unfoldable pub least_of : List ℕ → Command
least_of o = Least (number 0 2 o) (float 2 o)

-- ---- decoding

-- a command with its operands of so many bytes; cut where there are fewer
unfoldable pub with_operands : ℕ → (List ℕ → Command) → List ℕ → Decoding
with_operands size make bs = cond (ltb (length bs) size) malformed (command (make bs) (drop size bs))

-- the end, with no byte after it
unfoldable pub end_of : List ℕ → Decoding
end_of [] = command End []
end_of (b ∷ bs) = malformed

-- the letters G, C, K, A, M, R and E
unfoldable pub decode_as : ℕ → List ℕ → Decoding
decode_as letter bs =
    cond (eqb letter 71) (with_operands 26 set_grid_of bs)
    (cond (eqb letter 67) (with_operands 6 set_count_of bs)
    (cond (eqb letter 75) (with_operands 9 set_cosine_of bs)
    (cond (eqb letter 65) (with_operands 11 set_angle_of bs)
    (cond (eqb letter 77) (with_operands 4 most_of bs)
    (cond (eqb letter 82) (with_operands 10 least_of bs)
    (cond (eqb letter 69) (end_of bs) malformed))))))

-- the letter, then what it asks for; no byte at all is no command
unfoldable pub decode : List ℕ → Decoding
decode [] = malformed
decode (letter ∷ bs) = decode_as letter bs

-- opens all of the above, for facts that are computed
unfoldable pub open_commands : Unit {0}
unfolding little number float row_at grid_read set_grid_of set_count_of set_cosine_of set_angle_of most_of least_of with_operands end_of decode_as decode
open_commands = tt
