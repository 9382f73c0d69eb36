-- A chunk on its way through its words, over plain values: the definition's work so far, its children written, and room for the next.
use Rattle.std.proofs.Common.{Option}
use Prim.Native.Nat.{ℕ, ◌+◌, ◌/◌, ◌≤◌, ◌<◌}
use mathlib.Core.Path.{◌≡◌, refl, sym, ap, subst, ◌∙◌}
use mathlib.Core.Bool.{Bool, true, false, cond}
use mathlib.Core.List.{List, [], ◌∷◌, ◌++◌, append-nil}
use native.Mathlib.Omega.{arith}
use lib.Ieee.{Float}
use lib.ListN.{length, take, drop, get_or, length-append}
use lib.Seq.{take_all}
use Rattle.lists.specs.Lists.{fold, each, concat_each}
use Rattle.lists.proofs.Folds.{fold_append, each_append, length_each, concat_snoc}
use Rattle.lists.specs.Elements.{AllOf, also, total_of}
use Rattle.lists.proofs.Elements.{all_left, all_right, total_append}
use Rattle.lists.proofs.Writes.{writing_start, writing_more, writing_done, written_none, length_written}
use Rattle.grid.specs.declared.Grid.{Grid}
use Rattle.grid.specs.Map.{Map}
use Rattle.grid.proofs.Sizes.{grid_sizes}
use Rattle.reach.specs.Requires.{Sheet, OnSheet}
use Rattle.blocks.specs.declared.Block.{Block}
use Rattle.blocks.specs.Block.{area, split, Rectangle}
use Rattle.blocks.specs.State.{word_of, block_of, blocks_of, Written}
use Rattle.pieces.specs.Requires.{CanSplit}
use Rattle.blocks.proofs.Tiles.{length_area, split_rectangle, split_settled}
use Rattle.levels.specs.Level.{examine, started, chunk}
use Rattle.chunk_work.specs.Work.{Work}
use Rattle.levels.specs.State.{summed_map, started_work, children, Swept}
use Rattle.chunk_work.specs.State.{work_of}
use Rattle.tally.specs.State.{weight, stats_weight}
use Rattle.chunk_work.specs.declared.ChunkWork.{ChunkWork}
use Rattle.levels.specs.Requires.{most_cells, Ready, CanSweep}
use Rattle.chunk_work.specs.Requires.{CanCount}
use Rattle.levels.proofs.Rule.{fold_rule}
use Rattle.levels.proofs.Counts.{ended, Counts, counts_kept, next_fits}
use Rattle.levels.proofs.OneBlock.{block_small, can_count}
use Rattle.sweep.proofs.Spans.{blocks_cut, blocks_more}
use Rattle.candidates.specs.declared.Candidate.{Candidate}

-- ---- what a chunk has come to

module _ (m : Map) (km : Float) (best : Option Candidate) where
  abbrev pub sofar : List Block → Work
  sofar bs = fold (examine m km) (started m km best) bs

  module _ {bs : List Block} (rs : AllOf (Rectangle m.globe.grid) bs) where
    sofar_counts : Counts m.globe.grid 0 (started m km best).outcome (sofar bs).outcome bs
    sofar_counts = fold_rule m km best (Counts m.globe.grid) (counts_kept m km best) (started m km best) rs

    pub sofar_room : length (children (sofar bs).outcome) + ended (sofar bs).outcome.tally ≤ total_of area bs
    unfolding started concat_each
    sofar_room = next_fits m.globe.grid 0 (started m km best).outcome (sofar bs).outcome bs sofar_counts refl refl rs

    pub sofar_light : total_of area bs ≤ most_cells → weight (sofar bs).outcome.tally ≤ 100000
    unfolding started weight stats_weight
    sofar_light h =
        let c = sofar_counts in
        omega (arith, c.levels, c.examined, c.either, c.kernels, sofar_room, length_area m.globe.grid rs)

  pub sofar_more : (bs : List Block) (b : Block) → sofar (bs ++ b ∷ []) ≡ examine m km (sofar bs) b
  unfolding fold
  sofar_more bs b = fold_append (examine m km) (started m km best) bs (b ∷ [])

-- ---- writing one list after another

pub written_then : (l l' l'' : List ℕ) (at next last : ℕ) (xs ys : List ℕ) → at + length xs + length ys ≤ length l → Written l at xs l' next
    → Written l' next ys l'' last → Written l at (xs ++ ys) l'' last
written_then l l' l'' at next last xs ys room p q =
    let n = length-append xs ys in
    let begun = writing_start l at (xs ++ ys) (omega arith) in
    let first = writing_more begun xs ys l' refl p.words in
    let second = writing_more (rw (← p.place) at first) ys [] l'' (sym (append-nil ys)) q.words in
    record { place = omega (arith, p.place, q.place); words = writing_done second refl }

pub written_size : (l l' : List ℕ) (at next : ℕ) (xs : List ℕ) → at + length xs ≤ length l → Written l at xs l' next → length l' ≡ length l
written_size l l' at next xs room p = ap (length {A = ℕ}) p.words ∙ length_written at xs l room

pub written_nothing : (l : List ℕ) (at : ℕ) → Written l at [] l at
written_nothing l at = record { place = omega arith; words = sym (written_none at l) }

-- a survivor's children join those before
children_more : (s : Bool) (bs : List Block) (b : Block) → concat_each split (cond s (bs ++ b ∷ []) bs) ≡ concat_each split bs ++ cond s (split b) []
children_more true bs b = concat_snoc split bs b
children_more false bs b = sym (append-nil (concat_each split bs))

-- ---- the start

-- the middle row is on the grid
pub middle_on : (g : Grid) (angles : List Float) → Sheet g angles → OnSheet g angles (record { 0 = g.height / 2 })
middle_on g angles t = record { sheet = t; on = omega (arith, (grid_sizes g t.sizes).some_rows) }

pub start_held : (g : Grid) (km : Float) (best : Option Candidate) (w : ChunkWork) → w ≡ started_work g km best → w.held ≡ best
unfolding started_work
start_held g km best w e = ap (λ (x : ChunkWork). x.held) e

pub start_own : (g : Grid) (km : Float) (best : Option Candidate) (w : ChunkWork) → w ≡ started_work g km best → w ≡ started_work g km w.held
start_own g km best w e = e ∙ ap (started_work g km) (sym (start_held g km best w e))

start_same : (m : Map) (km : Float) (best : Option Candidate) (w : ChunkWork) → w ≡ started_work m.globe.grid km best → work_of w [] ≡ started m km best
unfolding started_work started
start_same m km best w e = ap (λ (x : ChunkWork). work_of x []) e

-- ---- the loop

module _ (g : Grid) (angles cosines : List Float) (sums words : List ℕ) (km : Float) (best : Option Candidate) (following₀ : List ℕ) (live : ℕ) where
  abbrev m : Map
  m = summed_map g angles cosines sums

  abbrev up_to : ℕ → Work
  up_to i = sofar m km best (blocks_of (take i words))

  pub record Sweeping (following : List ℕ) (w : ChunkWork) (at i : ℕ) : Type 0 where
    pub to : i ≤ length words
    pub size : length following ≡ length following₀
    pub same : work_of w (up_to i).outcome.survivors ≡ up_to i
    pub written : Written following₀ live (each word_of (children (up_to i).outcome)) following at

  module _ (t : Ready g angles cosines sums) (can : CanSweep g (blocks_of words) following₀ live) where
    pub sweep_start : (w : ChunkWork) → w ≡ started_work g km best → Sweeping following₀ w live 0
    unfolding fold each concat_each started blocks_of
    sweep_start w e = record { to = omega arith; size = refl; same = start_same m km best w e; written = written_nothing following₀ live }

    module _ (following : List ℕ) (w : ChunkWork) (at i : ℕ) (s : Sweeping following w at i) where
      module _ (h : i < length words) where
        abbrev next : Block
        next = block_of (get_or words i 0)

        abbrev done : List Block
        done = blocks_of (take i words)

        abbrev left : List Block
        left = blocks_of (drop (i + 1) words)

        parts : blocks_of words ≡ done ++ (next ∷ []) ++ left
        parts = blocks_cut words (i + 1) ∙ ap (λ (x : List Block). x ++ left) (blocks_more words i h)

        all : AllOf (Rectangle g) (done ++ next ∷ [])
        all = all_left (done ++ next ∷ []) left (rw parts at can.rectangles)

        done_all : AllOf (Rectangle g) done
        done_all = all_left done (next ∷ []) all

        pub next_rectangle : Rectangle g next
        next_rectangle = only (all_right done all)
          where
            only : {b : Block} → AllOf (Rectangle g) (b ∷ []) → Rectangle g b
            only (also r rs) = r

        areas : total_of area done + area next ≤ total_of area (blocks_of words)
        unfolding total_of
        areas =
            omega (
              arith,
              ap (total_of area) parts,
              total_append area (done ++ next ∷ []) left,
              total_append area done (next ∷ []),
            )

        pub sweep_counts : CanCount w next
        sweep_counts =
            let e : w.tally ≡ (up_to i).outcome.tally = ap (λ (x : Work). x.outcome.tally) s.same in
            can_count g angles cosines sums t next next_rectangle w
            (rw e (omega (arith, sofar_light m km best done_all (omega (arith, areas, can.narrow)))))

        children_fit : live + length (each word_of (children (up_to i).outcome)) + length (split next) ≤ length following₀
        children_fit =
            omega (
              arith,
              sofar_room m km best done_all,
              length_each word_of (children (up_to i).outcome),
              areas,
              length_area g (split_rectangle g next next_rectangle),
              split_settled g next next_rectangle,
              can.room,
            )

        pub sweep_room : CanSplit next following at
        sweep_room =
            record {
              small = block_small g angles cosines sums t next next_rectangle;
              room = omega (arith, children_fit, s.written.place, s.size);
            }

        module _ (w' : ChunkWork) (survives : Bool)
            (seen : (bs : List Block) → work_of w' (cond survives (bs ++ next ∷ []) bs) ≡ examine m km (work_of w bs) next) (following' : List ℕ) (at' : ℕ)
            (wrote : Written following at (each word_of (cond survives (split next) [])) following' at') where
          abbrev kept : List Block
          kept = cond survives ((up_to i).outcome.survivors ++ next ∷ []) (up_to i).outcome.survivors

          after : work_of w' kept ≡ up_to (i + 1)
          after =
              seen (up_to i).outcome.survivors ∙ ap (λ (x : Work). examine m km x next) s.same
              ∙ sym (ap (sofar m km best) (blocks_more words i h) ∙ sofar_more m km best done next)

          next_survivors : kept ≡ (up_to (i + 1)).outcome.survivors
          next_survivors = ap (λ (x : Work). x.outcome.survivors) after

          few : (b : Bool) → length (each word_of (cond b (split next) [])) ≤ length (split next)
          unfolding each
          few true = omega (arith, length_each word_of (split next))
          few false = omega arith

          pub sweep_next : (on : ℕ) → on ≡ i + 1 → Sweeping following' w' at' on
          sweep_next on is =
              let old = each word_of (children (up_to i).outcome) in
              let new = each word_of (cond survives (split next) []) in
              let all_words : old ++ new ≡ each word_of (children (up_to (i + 1)).outcome) =
              sym (each_append word_of (children (up_to i).outcome) (cond survives (split next) []))
              ∙ ap (each word_of) (sym (children_more survives (up_to i).outcome.survivors next) ∙ ap (concat_each split) next_survivors) in
              rw is
              (record {
                to = omega arith;
                size = written_size following following' at at' new (omega (arith, sweep_room.room, few survives)) wrote ∙ s.size;
                same = subst (λ (x : List Block). work_of w' x ≡ up_to (i + 1)) next_survivors after;
                written =
                    subst (λ (x : List ℕ). Written following₀ live x following' at') all_words
                    (written_then following₀ following following' live at at' old new (omega (arith, children_fit, few survives)) s.written wrote);
              })

      pub sweep_done : length words ≤ i → Swept (chunk m km best (blocks_of words)) following₀ live following (record { held = w.held; tally = w.tally; live = at })
      unfolding chunk
      sweep_done h =
          let e : take i words ≡ words = take_all i words h in
          rw (← ap (λ (x : List ℕ). chunk m km best (blocks_of x)) e)
          (record {
            held = ap (λ (x : Work). x.outcome.held) s.same;
            counts = ap (λ (x : Work). x.outcome.tally) s.same;
            written = s.written;
          })
