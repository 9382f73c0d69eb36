-- A call that is lent the fronts of its buffers: what it leaves in them, seen in the buffers.
use Prim.Native.Nat.{ℕ, min}
use mathlib.Core.Bool.{Bool}
use mathlib.Core.Path.{◌≡◌, sym, ap, ◌∙◌}
use mathlib.Core.List.{List, ◌++◌}
use lib.Ieee.{Float}
use lib.ListN.{length, take, drop}
use lib.Seq.{take_at, drop_at, length_front}
use Rattle.grid.specs.Grid.{cell}
use Rattle.grid.specs.Map as grid-map
use Rattle.crossings.specs.Crossing.{spacing_from}
use Rattle.crossings.specs.Calls.{CircleCrossing, circle_crossing, SearchCrossing, search_crossing}
use Rattle.crossings.specs.Smallest.{SmallestCrossing, smallest_crossing}
use Rattle.most_populous.specs.Call.{Buffers}
use Rattle.test_cases.specs.declared.map.Map.{Map}
use Rattle.test_lines.specs.Numbers.{short_number_at}
use Rattle.test_cases.specs.Calls.{lent_fronts, with_fronts, shown_by, shown_front, board_left, circle_played, search_played, smallest_played}
use Rattle.test_lines.proofs.Words.{front_count, front_taken, front_dropped}

-- a level buffer whose front was lent: what is seen of it
pub shown_back : (k n r : ℕ) (l s : List ℕ) → k ≡ min n (length l) → length s ≡ length (take k l) → shown_front r n (s ++ drop k l) ≡ shown_by r s ++ drop n l
shown_back k n r l s e same =
    let whole = s ++ drop k l in
    let e' : k ≡ min n (length whole) = rw (length_front l s k same) e in
    let long : length s ≡ k = same ∙ sym (front_count k n l e) in
    let t : take n whole ≡ s = sym (front_taken k n whole e') ∙ take_at s (drop k l) k long in
    let d : drop n whole ≡ drop n l = sym (front_dropped k n whole e') ∙ drop_at s (drop k l) k long ∙ front_dropped k n l e in
    rw (t, d)

-- what the fronts lent of the sums and the two level buffers are
pub record Lent (m : Map) (b : Buffers) (i j k : ℕ) : Type 0 where
  pub sums : i ≡ min m.sums (length b.sums)
  pub current : j ≡ min m.current (length b.current)
  pub following : k ≡ min m.following (length b.following)

module _ (m : Map) (b : Buffers) (i j k : ℕ) (e : Lent m b i j k) where
  fronts : ◌≡◌ {A = Buffers} (record { sums = take i b.sums; current = take j b.current; following = take k b.following }) (lent_fronts m b)
  fronts = rw (front_taken i _ b.sums e.sums, front_taken j _ b.current e.current, front_taken k _ b.following e.following)

  module _ (r : ℕ) (s c f : List ℕ) (same : length c ≡ length (take j b.current)) (same' : length f ≡ length (take k b.following)) where
    -- the buffers as the call leaves them
    abbrev left : Buffers
    left = board_left m r (record { sums = s ++ drop i b.sums; current = c ++ drop j b.current; following = f ++ drop k b.following })

    back : left ≡ with_fronts m b (record { sums = s; current = shown_by r c; following = shown_by r f })
    back = rw (front_dropped i _ b.sums e.sums, shown_back j _ r _ c e.current same, shown_back k _ r _ f e.following same')

-- ---- what the calls give

module _ (m : Map) (lent given : grid-map.Map) (same_map : given ≡ lent) where
  pub circle_back : (asked sums s : List ℕ) (i km row col r before after : ℕ) → i ≡ min m.sums (length sums)
      → km ≡ short_number_at asked 0 → row ≡ short_number_at asked 1 → col ≡ short_number_at asked 2
      → ◌≡◌ {A = CircleCrossing} (record { number = r; population = after; sums = s }) (circle_crossing given (take i sums) km (cell row col) before)
      → ◌≡◌ {A = CircleCrossing} (record { number = r; population = after; sums = s ++ drop i sums }) (circle_played m lent asked sums before)
  unfolding circle_played
  circle_back asked sums s i km row col r before after e p q t x =
      rw (front_dropped i _ sums e)
      (ap (λ (o : CircleCrossing). record { number = o.number; population = o.population; sums = o.sums ++ drop m.sums sums }) (rw (same_map, front_taken i _ sums e, p, q, t) at x))

  module _ (b : Buffers) (i j k : ℕ) (e : Lent m b i j k) (automatic : Bool) (spacing r : ℕ) (s c f : List ℕ)
      (same : length c ≡ length (take j b.current)) (same' : length f ≡ length (take k b.following)) where
    abbrev taken : Buffers
    taken = record { sums = take i b.sums; current = take j b.current; following = take k b.following }

    abbrev gave : Buffers
    gave = record { sums = s; current = shown_by r c; following = shown_by r f }

    pub search_back : (km : ℕ) (words words' : List ℕ) (tolerance tolerance' : Float)
        → ◌≡◌ {A = SearchCrossing} (record { number = r; words = words'; tolerance = tolerance'; lent = gave })
        (search_crossing given (spacing_from automatic spacing) km taken words tolerance)
        → ◌≡◌ {A = SearchCrossing} (record { number = r; words = words'; tolerance = tolerance'; lent = left m b i j k e r s c f same same' })
        (search_played m lent automatic spacing km b words tolerance)
    unfolding search_played
    search_back km words words' tolerance tolerance' x =
        rw (back m b i j k e r s c f same same')
        (ap (λ (o : SearchCrossing). record { number = o.number; words = o.words; tolerance = o.tolerance; lent = with_fronts m b o.lent })
        (rw (same_map, fronts m b i j k e) at x))

    pub smallest_back : (share : Float) (ledger ledger' words words' : List ℕ) (floats floats' : List Float)
        → ◌≡◌ {A = SmallestCrossing} (record { number = r; ledger = ledger'; words = words'; floats = floats'; lent = gave })
        (smallest_crossing given (spacing_from automatic spacing) share ledger taken words floats)
        → ◌≡◌ {A = SmallestCrossing} (record { number = r; ledger = ledger'; words = words'; floats = floats'; lent = left m b i j k e r s c f same same' })
        (smallest_played m lent automatic spacing share ledger b words floats)
    unfolding smallest_played
    smallest_back share ledger ledger' words words' floats floats' x =
        rw (back m b i j k e r s c f same same')
        (ap (λ (o : SmallestCrossing). record { number = o.number; ledger = o.ledger; words = o.words; floats = o.floats; lent = with_fronts m b o.lent })
        (rw (same_map, fronts m b i j k e) at x))
