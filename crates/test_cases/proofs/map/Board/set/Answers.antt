-- The numbers put.
use Rattle.std.proofs.Common.{◌≡◌, length, rules}
use Rattle.std.specs.Float.{binary64}
use Rattle.std.specs.Float.Ieee.{of_bits}
use Rattle.std.proofs.lemmas.List.{with_items_is}
use Rattle.test_lines.specs.Numbers.{short_of}
use Rattle.test_cases.specs.Board.{board_set}
use Rattle.test_cases.proofs.map.Board.set.Goals as goal

pub returns-in-67 : goal.returns-in-67
unfolding board_set
returns-in-67 c =
    let same : length c.put.new.places ≡ c.args.self.now.counts.len = search rules in
    rw (c.in-67.is, with_items_is c.args.self.now.counts _ same, c.put.ensures short_of (λ word x p. search rules), c.as_mut_slice.ensures.value)

pub returns-in-65 : goal.returns-in-65
unfolding board_set
returns-in-65 c =
    let same : length c.put-in-65.new.places ≡ c.args.self.now.angles.len = search rules in
    rw (c.in-65.is, with_items_is c.args.self.now.angles _ same, c.put-in-65.ensures (of_bits binary64) (λ word x p. search rules), c.as_mut_slice-in-65.ensures.value)

pub returns-in-75 : goal.returns-in-75
unfolding board_set
returns-in-75 c =
    let same : length c.put-in-75.new.places ≡ c.args.self.now.cosines.len = search rules in
    rw (c.in-75.is, with_items_is c.args.self.now.cosines _ same, c.put-in-75.ensures (of_bits binary64) (λ word x p. search rules), c.as_mut_slice-in-75.ensures.value)
