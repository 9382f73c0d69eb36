-- The words of a smallest radius, and what its outcome gives at the boundary by the case of its answer.
use Rattle.std.proofs.Common.{Option, None, Some}
use mathlib.Core.Path.{◌≡◌, refl, ap}
use mathlib.Core.List.{List, [], ◌∷◌, ◌++◌}
use Prim.Native.Nat.{ℕ, ◌≤◌}
use native.Mathlib.Omega.{arith}
use mir.Val.{bool_byte}
use lib.Ieee.{Float}
use lib.ListN.{length}
use Rattle.lists.specs.Counted.{one}
use Rattle.lists.proofs.Bools.{byte_one}
use Rattle.grid.specs.Map.{Map}
use Rattle.std.specs.Prelude.{Result, Ok, Err}
use Rattle.grid.specs.declared.refusal.Refusal.{Refusal}
use Rattle.grid.specs.Refusal.{refusal_number, answer_of}
use Rattle.grid.specs.Answer.{refused, decide, after, shown, first_no}
use Rattle.grid.proofs.Answers.{decide_no, decided_yes, decided_no}
use Rattle.spacing.specs.declared.Spacing.{Spacing}
use Rattle.most_populous.specs.Call.{Buffers, buffers}
use Rattle.ledger.specs.declared.Ledger.{Ledger}
use Rattle.ledger.specs.Ledger.{capacity}
use Rattle.ledger.proofs.Laws.{places_free_lem}
use Rattle.probes.specs.declared.Ambiguity.{Ambiguity}
use Rattle.probes.specs.declared.Witness.{Witness}
use Rattle.probes.specs.declared.Smallest.{Smallest}
use Rattle.probes.specs.Smallest.{smallest}
use Rattle.smallest_rules.specs.Call.{SmallestOutcome, smallest_questions, smallest_call}
use Rattle.smallest_rules.proofs.SmallestCalls.{smallest_passed, room_left}
use Rattle.words.specs.Words.{ledger_length, word_at, ledger_of, ledger_words}
use Rattle.crossings.specs.Crossing.{number_of, written}
use Rattle.crossings.specs.Smallest.{short_words, ambiguity_words, smallest_words, smallest_floats, smallest_returned, smallest_crossed, smallest_crossing}
use Rattle.words.proofs.Places.{counted_fits, fits_length}

-- ---- the words

-- the witness's three words and the ambiguity's four, read one by one
laid : (short : Option Witness) (within : Option Ambiguity) (covers km row col population : ℕ) (tail : List ℕ)
    → km ∷ row ∷ col ∷ population ∷ word_at (short_words short) 0 ∷ word_at (short_words short) 1 ∷ word_at (short_words short) 2 ∷ covers
    ∷ word_at (ambiguity_words within) 0 ∷ word_at (ambiguity_words within) 1 ∷ word_at (ambiguity_words within) 2 ∷ word_at (ambiguity_words within) 3 ∷ tail
    ≡ km ∷ row ∷ col ∷ population ∷ [] ++ short_words short ++ covers ∷ [] ++ ambiguity_words within ++ tail
unfolding short_words ambiguity_words
laid (Some w) (Some a) covers km row col population tail = refl
laid (Some w) None covers km row col population tail = refl
laid None (Some a) covers km row col population tail = refl
laid None None covers km row col population tail = refl

pub words_laid : (a : Smallest) (short within : List ℕ) → short ≡ short_words a.short_below → within ≡ ambiguity_words a.ambiguity
    → a.radius_km.0 ∷ a.centre.row.0 ∷ a.centre.col.0 ∷ a.centre.population ∷ word_at short 0 ∷ word_at short 1 ∷ word_at short 2
    ∷ bool_byte a.covers_whole_grid ∷ word_at within 0 ∷ word_at within 1 ∷ word_at within 2 ∷ word_at within 3
    ∷ a.stats.radii_evaluated ∷ a.stats.radii_reused ∷ a.stats.searched.levels ∷ a.stats.searched.blocks_examined
    ∷ a.stats.searched.blocks_pruned ∷ a.stats.searched.circles_evaluated ∷ a.stats.searched.kernels_built ∷ []
    ≡ smallest_words a
unfolding smallest_words
words_laid a short within e f =
    rw (e, f, byte_one a.covers_whole_grid)
    (laid a.short_below a.ambiguity (one a.covers_whole_grid) a.radius_km.0 a.centre.row.0 a.centre.col.0 a.centre.population _)

-- ---- the call

module _ (m : Map) (spacing : Spacing) (share : Float) (ledger : List ℕ) (lent : Buffers) (r : Result Smallest Refusal) (l' : Ledger)
    (sums current following : List ℕ) (side : Spacing) (chosen : side ≡ spacing) (l : Ledger) (read : l ≡ ledger_of ledger) where
  abbrev SmallestGave : Type 0
  SmallestGave =
      ◌≡◌ {A = SmallestOutcome}
      (record { answer = answer_of r; ledger = l'; lent = buffers sums (shown (answer_of r) current) (shown (answer_of r) following) })
      (smallest_call m side share l lent)

  answered_by : SmallestGave → answer_of r ≡ decide (first_no (smallest_questions m side share l lent)) (smallest m side share l).answer
  unfolding smallest_call
  answered_by gave = ap (λ (o : SmallestOutcome). o.answer) gave

  pub smallest_fits : (a : Smallest) → SmallestGave → r ≡ Ok a → length ledger ≡ ledger_length
  smallest_fits a gave is =
      let none = decided_yes (first_no (smallest_questions m side share l lent)) (smallest m side share l).answer a (rw is at (answered_by gave)) in
      let free = places_free_lem l _ (room_left m side share l lent (smallest_passed m side share l lent none.0)) in
      let counted : l.len ≤ capacity = omega (arith, free) in
      fits_length ledger (counted_fits ledger (rw read at counted))

  pub smallest_found : (words : List ℕ) (floats : List Float) (a : Smallest) (put w : List ℕ) (fs : List Float) → SmallestGave → r ≡ Ok a
      → put ≡ ledger_words l' → w ≡ smallest_words a → fs ≡ smallest_floats a
      → smallest_returned 0 put w fs sums current following ≡ smallest_crossing m spacing share ledger lent words floats
  unfolding smallest_crossing smallest_crossed number_of written decide shown after
  smallest_found words floats a put w fs gave is p e f = rw (← chosen, ← read, ← gave, is, p, e, f)

  said : (e : Refusal) → SmallestGave → r ≡ Err e → decide (refusal_number e) (tt {0}) ≡ refused (refusal_number e)
  said e gave is = decide_no (refusal_number e) (refusal_number e) tt refl (decided_no (refusal_number e) (first_no (smallest_questions m side share l lent)) (smallest m side share l).answer (rw is at (answered_by gave)))

  pub smallest_refused : (words : List ℕ) (floats : List Float) (n : ℕ) (e : Refusal) → SmallestGave → r ≡ Err e → n ≡ refusal_number e
      → smallest_returned n ledger words floats sums current following ≡ smallest_crossing m spacing share ledger lent words floats
  unfolding smallest_crossing smallest_crossed number_of written shown after
  smallest_refused words floats n e gave is told = rw (told, said e gave is, ← chosen, ← read, ← gave, is)
