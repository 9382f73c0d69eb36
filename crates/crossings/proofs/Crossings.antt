-- What the outcome of a call gives at the boundary, by the case of its answer.
use mathlib.Core.Path.{◌≡◌, refl, ap}
use Prim.Native.Nat.{ℕ}
use lib.Ieee.{Float}
use lib.ListN.{length}
use mathlib.Core.List.{List}
use Rattle.grid.specs.declared.Cell.{Cell}
use Rattle.grid.specs.Map.{Map}
use Rattle.grid.specs.declared.Grid.{Grid}
use Rattle.std.specs.Prelude.{Result, Ok, Err}
use Rattle.grid.specs.declared.refusal.Refusal.{Refusal}
use Rattle.grid.specs.Refusal.{refusal_number, answer_of}
use Rattle.grid.specs.Answer.{refused, decide, after, shown, first_no}
use Rattle.grid.proofs.Answers.{decide_no, decided_yes, decided_no}
use Rattle.spacing.specs.declared.Spacing.{Spacing}
use Rattle.search_rules.specs.declared.MostPopulous.{MostPopulous}
use Rattle.search_rules.specs.Search.{search}
use Rattle.most_populous.specs.Call.{Buffers, buffers, SearchOutcome, search_questions, search_call}
use Rattle.candidates.specs.declared.Candidate.{Candidate}
use Rattle.ledger.specs.declared.Ledger.{Ledger}
use Rattle.ledger.specs.Ledger.{entry}
use Rattle.put.specs.Call.{PutOutcome, put_questions, put_call}
use Rattle.put.proofs.Calls.{put_room}
use Rattle.words.specs.Words.{ledger_length, ledger_of, ledger_words}
use Rattle.words.proofs.Places.{counted_fits, fits_length}
use Rattle.circle_rules.specs.Call.{CircleOutcome, circle_call}
use Rattle.crossings.specs.Crossing.{number_of, written}
use Rattle.crossings.specs.Calls.{circle_returned, circle_crossed, circle_crossing, search_words, search_returned, search_crossed, search_crossing, put_returned, put_crossed, put_crossing}

-- ---- the single circle

module _ (m : Map) (before : List ℕ) (km : ℕ) (centre : Cell) (held : ℕ) (r : Result ℕ Refusal) (sums : List ℕ) where
  abbrev CircleGave : Type 0
  CircleGave = ◌≡◌ {A = CircleOutcome} (record { answer = answer_of r; sums = sums }) (circle_call m before km centre)

  pub circle_answered : (n : ℕ) → CircleGave → r ≡ Ok n → circle_returned 0 n sums ≡ circle_crossing m before km centre held
  unfolding circle_crossing circle_crossed number_of written
  circle_answered n gave is = rw (← gave, is)

  pub circle_refused : (n : ℕ) (e : Refusal) → CircleGave → r ≡ Err e → n ≡ refusal_number e → circle_returned n held sums ≡ circle_crossing m before km centre held
  unfolding circle_crossing circle_crossed number_of written
  circle_refused n e gave is told = rw (← gave, is, told)

-- ---- the search

module _ (m : Map) (spacing : Spacing) (km : ℕ) (lent : Buffers) (words : List ℕ) (tolerance : Float) (r : Result MostPopulous Refusal)
    (sums current following : List ℕ) (side : Spacing) (chosen : side ≡ spacing) where
  abbrev SearchGave : Type 0
  SearchGave =
      ◌≡◌ {A = SearchOutcome} (record { answer = answer_of r; lent = buffers sums (shown (answer_of r) current) (shown (answer_of r) following) })
      (search_call m side km lent)

  pub search_found : (f : MostPopulous) (w : List ℕ) → SearchGave → r ≡ Ok f → w ≡ search_words f
      → search_returned 0 w f.tolerance_persons sums current following ≡ search_crossing m spacing km lent words tolerance
  unfolding search_crossing search_crossed number_of written decide shown
  search_found f w gave is e = rw (← chosen, ← gave, is, e)

  said : (e : Refusal) → SearchGave → r ≡ Err e → decide (refusal_number e) (tt {0}) ≡ refused (refusal_number e)
  unfolding search_call
  said e gave is =
      let n = refusal_number e in
      let k = first_no (search_questions m side km lent) in
      let answer : answer_of r ≡ decide k (search m side km) = ap (λ (o : SearchOutcome). o.answer) gave in
      decide_no n n tt refl (decided_no n k (search m side km) (rw is at answer))

  pub search_refused : (n : ℕ) (e : Refusal) → SearchGave → r ≡ Err e → n ≡ refusal_number e
      → search_returned n words tolerance sums current following ≡ search_crossing m spacing km lent words tolerance
  unfolding search_crossing search_crossed number_of written shown
  search_refused n e gave is told = rw (told, said e gave is, ← chosen, ← gave, is)

-- ---- the put

module _ (g : Grid) (words : List ℕ) (km : ℕ) (centre c : Candidate) (made : c ≡ centre) (l : Ledger) (read : l ≡ ledger_of words) (r : Result (Unit {0}) Refusal) (l' : Ledger) where
  abbrev PutGave : Type 0
  PutGave = ◌≡◌ {A = PutOutcome} (record { answer = answer_of r; ledger = l' }) (put_call g l (entry km c))

  pub put_fits : (u : Unit {0}) → PutGave → r ≡ Ok u → length words ≡ ledger_length
  unfolding put_call
  put_fits u gave is =
      let answer : answer_of r ≡ decide (first_no (put_questions g l (entry km c))) tt = ap (λ (o : PutOutcome). o.answer) gave in
      let none = decided_yes (first_no (put_questions g l (entry km c))) tt u (rw is at answer) in
      fits_length words (counted_fits words (rw read at (put_room g l (entry km c) none.0).counted))

  pub put_done : (w : List ℕ) (u : Unit {0}) → PutGave → r ≡ Ok u → w ≡ ledger_words l' → put_returned 0 w ≡ put_crossing g words (entry km centre)
  unfolding put_crossing put_crossed number_of after
  put_done w u gave is e = rw (← made, ← read, ← gave, is, e)

  pub put_refused : (n : ℕ) (e : Refusal) → PutGave → r ≡ Err e → n ≡ refusal_number e → put_returned n words ≡ put_crossing g words (entry km centre)
  unfolding put_crossing put_crossed number_of after
  put_refused n e gave is told = rw (← made, ← read, ← gave, is, told)
