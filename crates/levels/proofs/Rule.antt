-- The induction through a level: what examining one block has, and lists one after another and chunks joined keep, the whole level has.
use Rattle.std.proofs.Common.{Option}
use Prim.Native.Nat.{ℕ, zero, suc, ◌+◌, ◌*◌, ◌≤◌, min}
use mathlib.Core.Path.{◌≡◌, subst}
use mathlib.Core.List.{List, [], ◌∷◌, ◌++◌}
use native.Mathlib.Omega.{arith}
use native.Mathlib.Nat.{le_trans}
use lib.Dec.{lit≤}
use lib.Ieee.{Float}
use lib.ListN.{length, drop}
use Rattle.lists.specs.Counted.{max, div_ceil}
use Rattle.lists.specs.Lists.{fold, each, concat_each, sort, pieces}
use Rattle.lists.specs.Elements.{AllOf, none, also}
use Rattle.lists.proofs.Elements.{all_left, all_right}
use Rattle.lists.proofs.Sorts.{all_sort, pieces_whole, all_pieces}
use Rattle.grid.specs.Map.{Map}
use Rattle.blocks.specs.declared.Block.{Block}
use Rattle.blocks.specs.Block.{by_probe, Rectangle}
use Rattle.tally.specs.Counts.{stats, tally}
use Rattle.chunk_work.specs.Work.{Outcome, Work}
use Rattle.levels.specs.Level.{examine, started, chunk, chunks, joined, level_in_order, level}
use Rattle.candidates.specs.declared.Candidate.{Candidate}

-- ---- chunks

-- four chunks of the size that a level is cut by hold all of it
pub chunks_enough : (n : ℕ) → n ≤ 4 * div_ceil n (max 1 (min 4 n))
unfolding div_ceil max
chunks_enough zero = omega arith
chunks_enough (suc zero) = lit≤ tt
chunks_enough (suc (suc zero)) = lit≤ tt
chunks_enough (suc (suc (suc zero))) = lit≤ tt
chunks_enough (suc (suc (suc (suc n)))) =
    let e : min 4 (suc (suc (suc (suc n)))) ≡ 4 = omega arith in
    rw e (omega arith)

pub pieces_few : {A : Type 0} (fuel n : ℕ) (xs : List A) → length (pieces fuel n xs) ≤ fuel
unfolding pieces
pieces_few zero n xs = omega arith
pieces_few (suc fuel) n [] = omega arith
pieces_few (suc fuel) n (x ∷ xs) = omega (arith, pieces_few fuel n (drop n (x ∷ xs)))

pub chunks_few : (bs : List Block) → length (chunks bs) ≤ 4
unfolding chunks
chunks_few bs = le_trans (pieces_few _ _ bs) (lit≤ tt)

-- the chunks one after another are the level
pub chunks_whole : (bs : List Block) → concat_each (λ p. p) (chunks bs) ≡ bs
unfolding chunks
chunks_whole bs = pieces_whole _ _ bs (chunks_enough (length bs))

pub chunks_all : {P : Block → Type 0} (bs : List Block) → AllOf P bs → AllOf (AllOf P) (chunks bs)
unfolding chunks
chunks_all bs a = all_pieces _ _ bs a

pub all_of_concat : {P : Block → Type 0} (ps : List (List Block)) → AllOf P (concat_each (λ p. p) ps) → AllOf (AllOf P) ps
unfolding concat_each
all_of_concat [] a = none
all_of_concat (p ∷ ps) a = also (all_left p (concat_each (λ q. q) ps) a) (all_of_concat ps (all_right p a))

-- ---- the rule

-- a level before its first chunk
abbrev pub begun : Option Candidate → Outcome
begun best = record { held = best; survivors = []; tally = tally (stats 1 0 0 0 0) 0 0 }

-- R n o p bs: from the outcome o to the outcome p the blocks bs are examined, in n chunks of their own
pub record Kept (m : Map) (km : Float) (best : Option Candidate) (R : ℕ → Outcome → Outcome → List Block → Type 0) : Type 0 where
  pub nothing : (o : Outcome) → R 0 o o []
  pub block : (w : Work) (b : Block) → Rectangle m.globe.grid b → R 0 w.outcome (examine m km w b).outcome (b ∷ [])
  pub then : (i j : ℕ) (o p q : Outcome) (xs ys : List Block) → R i o p xs → R j p q ys → R (i + j) o q (xs ++ ys)
  pub chunk : (o p : Outcome) (bs : List Block) → R 0 (started m km best).outcome p bs → R 1 o (joined o p) bs

module _ (m : Map) (km : Float) (best : Option Candidate) (R : ℕ → Outcome → Outcome → List Block → Type 0) (kept : Kept m km best R) where
  pub fold_rule : (w : Work) {bs : List Block} → AllOf (Rectangle m.globe.grid) bs → R 0 w.outcome (fold (examine m km) w bs).outcome bs
  unfolding fold
  fold_rule w none = kept.nothing w.outcome
  fold_rule w (also {x = b} {xs = bs} r rs) =
      kept.then 0 0 w.outcome (examine m km w b).outcome (fold (examine m km) (examine m km w b) bs).outcome (b ∷ []) bs (kept.block w b r)
      (fold_rule (examine m km w b) rs)

  chunk_rule : (o : Outcome) (bs : List Block) → AllOf (Rectangle m.globe.grid) bs → R 1 o (joined o (chunk m km best bs)) bs
  unfolding chunk
  chunk_rule o bs rs = kept.chunk o (chunk m km best bs) bs (fold_rule (started m km best) rs)

  pub chunks_rule : (o : Outcome) {ps : List (List Block)} → AllOf (AllOf (Rectangle m.globe.grid)) ps
      → R (length ps) o (fold joined o (each (chunk m km best) ps)) (concat_each (λ p. p) ps)
  unfolding fold each concat_each
  chunks_rule o none = kept.nothing o
  chunks_rule o (also {x = p} {xs = ps} r rs) =
      let o' = joined o (chunk m km best p) in
      let last = fold joined o' (each (chunk m km best) ps) in
      let count : 1 + length ps ≡ suc (length ps) = omega arith in
      subst (λ (k : ℕ). R k o last (p ++ concat_each (λ q. q) ps)) count
      (kept.then 1 (length ps) o o' last p (concat_each (λ q. q) ps) (chunk_rule o p r) (chunks_rule o' rs))

  pub level_rule : (bs : List Block) → AllOf (Rectangle m.globe.grid) bs
      → R (length (chunks (sort by_probe bs))) (begun best) (level m km best bs) (sort by_probe bs)
  unfolding level level_in_order
  level_rule bs rs =
      let sorted = sort by_probe bs in
      subst (R (length (chunks sorted)) (begun best) (level m km best bs)) (chunks_whole sorted)
      (chunks_rule (begun best) (chunks_all sorted (all_sort by_probe bs rs)))
