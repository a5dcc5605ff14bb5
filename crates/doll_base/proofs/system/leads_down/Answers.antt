use Rattle.std.proofs.Common.{rules, tests}
use Rattle.std.proofs.lemmas.Iterator.Search.{all_from_yields_List}
use Rattle.std.proofs.lemmas.Iterator.Splits.{YieldsList-from_slice_split}
use Rattle.doll_text.specs.Segments.{is_slash}
use Rattle.doll_base.specs.Folders.{is_entry}
use Rattle.doll_base.proofs.system.leads_down.Goals as goal

-- each segment that the split gives is tested
pub returns : goal.returns
returns c =
    all_from_yields_List is_entry _ _ _ c.all.ensures.ran
    (YieldsList-from_slice_split _ is_slash c.args.name.now c.split.ensures.rest c.split.ensures.done c.split.ensures.closure (λ x b q k. search (rules, tests)))
    (λ x b q k. search (rules, tests))
