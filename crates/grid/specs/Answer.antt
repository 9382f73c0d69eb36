-- Questions and refusals: a call puts its questions in order, and the first "no" gives its number.
use Rattle.std.specs.Prelude.{ℕ, zero, suc, Bool, cond, List, [], ◌∷◌, length, replicate}

pub record Question : Type 0 where
  pub number : ℕ
  pub yes : Bool

abbrev pub question : ℕ → Bool → Question
question n answer = record { number = n; yes = answer }

-- the number of the first question that is answered "no", or 0
unfoldable pub first_no : List Question → ℕ
first_no [] = 0
first_no (q ∷ qs) = let rest = first_no qs in cond q.yes rest q.number

-- what a call says: its answer, or the number of its refusal
pub data Answer (A : Type 0) : Type 0 where
  answered : A → Answer A
  refused : ℕ → Answer A

module _ {A : Type 0} where
  -- refused with a number above 0, otherwise answered
  unfoldable pub decide : ℕ → A → Answer A
  decide zero a = answered a
  decide (suc n) a = refused (suc n)

  -- what was lent: changed by an answer, kept by a refusal
  unfoldable pub after : {B : Type 0} → Answer A → B → B → B
  after (answered a) changed kept = changed
  after (refused n) changed kept = kept

  -- a level buffer: all its words after a refusal, only their number after an answer
  unfoldable pub shown : Answer A → List ℕ → List ℕ
  shown (answered a) words = replicate (length words) 0
  shown (refused n) words = words

-- opens all of the above, for facts that are computed
unfoldable pub open_answers : Unit {0}
unfolding first_no decide after shown
open_answers = tt
