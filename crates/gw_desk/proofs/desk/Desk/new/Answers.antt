use Rattle.std.proofs.Common.{rules}
use Rattle.gw_desk.proofs.BookLaws.{blank_book}
use Rattle.gw_desk.proofs.TextLaws.{no_texts}
use Rattle.gw_desk.proofs.desk.Desk.new.Goals as goal

pub invariant_of-result : goal.invariant_of-result
invariant_of-result c = (
  blank_book _ _ _ _ _ _ c.requires c.lemma_ids_are_distinct.ensures c.lines-well.ensures.well (search rules) (search rules) (search rules) (search rules),
  tt,
  no_texts _ _ _ (search rules),
)

pub returns-clause-desk : goal.returns-clause-desk
returns-clause-desk c = blank_book _ _ _ _ _ _ c.requires c.lemma_ids_are_distinct.ensures c.lines-well.ensures.well (search rules) (search rules) (search rules) (search rules)
