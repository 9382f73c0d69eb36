-- Laws of the put call: what its questions leave a put to rely on, and what it gives.
use Prim.Native.Nat.{ℕ}
use mathlib.Core.Path.{◌≡◌, refl}
use Rattle.lists.proofs.Bools.{and_left}
use Rattle.grid.specs.declared.Grid.{Grid}
use Rattle.grid.specs.Answer.{first_no, answered, refused, decide, after}
use Rattle.grid.proofs.Answers.{grid_then}
use Rattle.ledger.specs.declared.Entry.{Entry}
use Rattle.ledger.specs.declared.Ledger.{Ledger}
use Rattle.ledger.specs.Ledger.{put, entry_in_bounds, ledger_in_order}
use Rattle.put.specs.Call.{put_questions, put_call}
use Rattle.ledger.specs.Requires.{PutRoom}
use Rattle.ledger.proofs.Order.{ordered}

module _ (g : Grid) (l : Ledger) (x : Entry) where
  pub put_room : first_no (put_questions g l x) ≡ 0 → PutRoom l x
  unfolding put_questions
  put_room e =
      let own = (grid_then g _ refl e).1 in
      let parts = ordered g l (and_left (ledger_in_order g l) (entry_in_bounds g x) (own 11).0) in
      record { counted = parts.counted; rising = parts.rising; place = (own 12).0 }

  pub call_refused : (n : ℕ) → refused n ≡ decide (first_no (put_questions g l x)) (tt {0}) → record { answer = refused n; ledger = l } ≡ put_call g l x
  unfolding put_call after
  call_refused n e = rw (← e)

  pub call_done : (l' : Ledger) → answered (tt {0}) ≡ decide (first_no (put_questions g l x)) (tt {0}) → l' ≡ put l x
      → record { answer = answered tt; ledger = l' } ≡ put_call g l x
  unfolding put_call after
  call_done l' e p = rw (← e, p)
