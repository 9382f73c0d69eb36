-- What the call gave, by its two cases.
use Rattle.crossings.proofs.Crossings.{search_found, search_refused}
use Rattle.jadurphen.proofs.search_call.jadurphen_search.Goals as goal

pub returns-in-Ok : goal.returns-in-Ok
returns-in-Ok c =
    search_found _ _ _ _ _ _ _ _ _ _ _ c.spacing_from-side.ensures _ _ c.most_populous.ensures c.in-Ok.is c.search_words.ensures

pub returns-in-Err : goal.returns-in-Err
returns-in-Err c = search_refused _ _ _ _ _ _ _ _ _ _ _ c.spacing_from-side.ensures _ _ c.most_populous.ensures c.in-Err.is c.number.ensures
