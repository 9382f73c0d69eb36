-- What a run leaves in a lent buffer.
use Rattle.std.specs.Prelude.{ℕ, List, [], ◌∷◌, length}

-- a text over the front of a buffer: as much of it as fits; what stands behind it is as it was
unfoldable pub printed_into : List ℕ → List ℕ → List ℕ
printed_into [] buffer = buffer
printed_into (x ∷ text) [] = []
printed_into (x ∷ text) (b ∷ buffer) = x ∷ printed_into text buffer

-- the number of bytes of a text, and the buffer with it. A number above the buffer's length tells that the text did not fit
pub record Output : Type 0 where
  pub count : ℕ
  pub buffer : List ℕ

abbrev pub output_of : ℕ → List ℕ → Output
output_of count buffer = record { count = count; buffer = buffer }

-- what a text leaves
unfoldable pub output : List ℕ → List ℕ → Output
output text buffer = output_of (length text) (printed_into text buffer)
