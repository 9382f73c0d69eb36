-- The blocks of words, and of the words before a place and from it on.
use Prim.Native.Nat.{ℕ, ◌+◌, ◌-◌, ◌≤◌, ◌<◌}
use mathlib.Core.Path.{◌≡◌, sym, ap, ◌∙◌}
use mathlib.Core.List.{List, [], ◌∷◌, ◌++◌}
use native.Mathlib.Omega.{arith}
use lib.ListN.{length, take, drop, get_or, take-append-drop}
use lib.Seq.{take-add, take-suc}
use native.Mathlib.Numerals.{add-one}
use Rattle.lists.specs.Lists.{each}
use Rattle.lists.proofs.Folds.{each_append, length_each}
use Rattle.lists.proofs.Groups.{rest_cut}
use Rattle.blocks.specs.State.{block_of, blocks_of}

pub blocks_length : (words : List ℕ) → length (blocks_of words) ≡ length words
unfolding blocks_of
blocks_length words = length_each block_of words

blocks_append : (xs ys : List ℕ) → blocks_of (xs ++ ys) ≡ blocks_of xs ++ blocks_of ys
unfolding blocks_of
blocks_append xs ys = each_append block_of xs ys

module _ (words : List ℕ) where
  -- before a place, and from it on
  pub blocks_cut : (i : ℕ) → blocks_of words ≡ blocks_of (take i words) ++ blocks_of (drop i words)
  blocks_cut i = ap blocks_of (sym (take-append-drop i words)) ∙ blocks_append (take i words) (drop i words)

  -- those from a place on: up to another, and from there
  pub blocks_rest : (i m : ℕ) → i ≤ m → blocks_of (drop i words) ≡ blocks_of (take (m - i) (drop i words)) ++ blocks_of (drop m words)
  blocks_rest i m h = ap blocks_of (sym (rest_cut i m words h)) ∙ blocks_append (take (m - i) (drop i words)) (drop m words)

  -- those before a place: up to another, and from there
  pub blocks_front : (i m : ℕ) → i ≤ m → blocks_of (take m words) ≡ blocks_of (take i words) ++ blocks_of (take (m - i) (drop i words))
  blocks_front i m h =
      let k : m ≡ i + (m - i) = omega arith in
      ap (λ (j : ℕ). blocks_of (take j words)) k ∙ ap blocks_of (take-add i (m - i) words) ∙ blocks_append (take i words) (take (m - i) (drop i words))

  pub blocks_more : (i : ℕ) → i < length words → blocks_of (take (i + 1) words) ≡ blocks_of (take i words) ++ block_of (get_or words i 0) ∷ []
  unfolding blocks_of each
  blocks_more i h =
      ap blocks_of (ap (λ (j : ℕ). take j words) (add-one i) ∙ take-suc words i 0 h) ∙ blocks_append (take i words) (get_or words i 0 ∷ [])
