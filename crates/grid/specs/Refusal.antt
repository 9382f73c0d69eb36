-- Refusals and their numbers, and what a result says.
use Rattle.std.specs.Prelude.{ℕ, Result, Ok, Err}
use Rattle.grid.specs.declared.refusal.Refusal.{Refusal}
use Rattle.grid.specs.declared.refusal.Refusal.TheVariants as refusal
use Rattle.grid.specs.Answer.{Answer, answered, refused}

-- the number of each
abbrev pub refusal_number : Refusal → ℕ
refusal_number refusal.Sizes = 1
refusal_number refusal.Latitudes = 2
refusal_number refusal.Columns = 3
refusal_number refusal.Counts = 4
refusal_number refusal.SheetSizes = 5
refusal_number refusal.SheetOrder = 6
refusal_number refusal.Buffers = 7
refusal_number refusal.Circle = 8
refusal_number refusal.Share = 9
refusal_number refusal.Spacing = 10
refusal_number refusal.LedgerOrder = 11
refusal_number refusal.Places = 12
refusal_number refusal.Bytes = 13
refusal_number refusal.Turn = 14
refusal_number refusal.Index = 15

-- the code's result as what a call says
abbrev pub answer_of : {A : Type 0} → Result A Refusal → Answer A
answer_of (Ok a) = answered a
answer_of (Err r) = refused (refusal_number r)
