-- The lesser and the greater of two numbers: each keeps the order, and lies on its side of both.
use lib.Dec.{T}
use lib.Ieee.{Float, lt, le}
use Rattle.lists.proofs.Bools.{of_true, of_false, cond_case}
use Rattle.floats.specs.Binary.{greater, lesser}
use Rattle.floats.proofs.Order.{le_trans}
use Rattle.floats.proofs.Total.{number, le_number, le_refl, le_of_lt, le_of_not_lt}

module _ (x y : Float) (X : T (number x)) (Y : T (number y)) where
  pub greater_left : T (le x (greater x y))
  unfolding greater
  greater_left = cond_case (λ z. T (le x z)) (lt x y) y x (λ e. le_of_lt x y (of_true (lt x y) e)) (λ e. le_refl x X)

  pub greater_right : T (le y (greater x y))
  unfolding greater
  greater_right = cond_case (λ z. T (le y z)) (lt x y) y x (λ e. le_refl y Y) (λ e. le_of_not_lt y x Y X (of_false (lt x y) e))

  pub lesser_left : T (le (lesser x y) x)
  unfolding lesser
  lesser_left = cond_case (λ z. T (le z x)) (lt y x) y x (λ e. le_of_lt y x (of_true (lt y x) e)) (λ e. le_refl x X)

  pub lesser_right : T (le (lesser x y) y)
  unfolding lesser
  lesser_right = cond_case (λ z. T (le z y)) (lt y x) y x (λ e. le_refl y Y) (λ e. le_of_not_lt x y X Y (of_false (lt y x) e))

-- what is at least both is at least the greater, and what is at most both is at most the lesser
pub greater_le : (x y z : Float) → T (le x z) → T (le y z) → T (le (greater x y) z)
unfolding greater
greater_le x y z h k = cond_case (λ w. T (le w z)) (lt x y) y x (λ e. k) (λ e. h)

pub le_lesser : (x y z : Float) → T (le z x) → T (le z y) → T (le z (lesser x y))
unfolding lesser
le_lesser x y z h k = cond_case (λ w. T (le z w)) (lt y x) y x (λ e. k) (λ e. h)

-- both in order, so are the greater ones
pub greater_mono : (x y x' y' : Float) → T (le x x') → T (le y y') → T (le (greater x y) (greater x' y'))
greater_mono x y x' y' h k =
    let X = (le_number x x' h).1 in
    let Y = (le_number y y' k).1 in
    greater_le x y (greater x' y') (le_trans x x' (greater x' y') h (greater_left x' y' X Y)) (le_trans y y' (greater x' y') k (greater_right x' y' X Y))

-- the lesser of a number and a cap
pub lesser_mono : (x y cap : Float) → T (le x y) → T (number cap) → T (le (lesser x cap) (lesser y cap))
lesser_mono x y cap h K =
    let X = (le_number x y h).0 in
    le_lesser y cap (lesser x cap) (le_trans (lesser x cap) x y (lesser_left x cap X K) h) (lesser_right x cap X K)
