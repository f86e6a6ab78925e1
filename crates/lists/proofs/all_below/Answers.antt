-- `lists::all_below` meets its contract: the greatest number tells. Assumes nothing.
use Rattle.std.proofs.Common.{rules, ◌≡◌, sym, ◌∙◌, IsTrue, MatchOption}
use Rattle.std.proofs.lemmas.Iterator.{YieldsList-from_slice}
use Rattle.std.proofs.lemmas.Iterator.Adapters.{option_map_id}
use Rattle.std.proofs.lemmas.Iterator.Consumers.{YieldsList-from_copied, max_from_yields_List}
use lib.Dec.{ltb}
use Rattle.lists.proofs.GreatestLaws.{below_greatest}
use Rattle.lists.proofs.all_below.Goals as goal

pub returns : goal.returns
returns c =
    let l = c.args.xs.now in
    below_greatest c.args.n l c.max.result c.is_none_or.result
    (sym (option_map_id _) ∙ max_from_yields_List _ _ c.max.ensures.ran (YieldsList-from_copied (YieldsList-from_slice l cc)))
    (let h : MatchOption c.max.result (IsTrue c.is_none_or.result) (λ x. c.is_none_or.result ≡ ltb x c.args.n) = search rules in h)
