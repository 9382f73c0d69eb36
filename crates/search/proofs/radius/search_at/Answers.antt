-- `search::radius::search_at`: nothing at radius 0, and otherwise what the levels find.
use mathlib.Core.Path.{◌∙◌}
use Rattle.search_rules.proofs.Search.{search_none, search_found}
use Rattle.search.proofs.radius.search_at.Goals as goal

pub returns-then-km-eq0-clause-found : goal.returns-then-km-eq0-clause-found
returns-then-km-eq0-clause-found c =
    let a = c.args in
    c.answer_of.ensures ∙ search_none _ a.spacing a.km.0 c.nothing-none.result c.if-km-eq0.true c.nothing-none.ensures

pub returns-clause-found : goal.returns-clause-found
returns-clause-found c =
    let a = c.args in
    c.answer_of-2.ensures ∙ search_found _ a.spacing a.km.0 c.spacing_of-side.result c.searched-found.result c.if-km-eq0.false
    (rw c.from-radius.ensures at c.spacing_of-side.ensures) (rw c.from-radius.ensures at c.searched-found.ensures)
