-- `forms_kept` meets its contract: what the iterator tests of all is what the list's test says. Assumes nothing.
use borrow.Author.Rules.{rules}
use mathlib.Core.Path.{◌∙◌}
use Rattle.std.proofs.lemmas.Iterator.Search.{all_from_yields_List}
use Rattle.std.proofs.lemmas.Iterator.{YieldsList-from_slice}
use Rattle.refusing.proofs.EveryLaws.{every_is}
use Rattle.slots.specs.Sound.{one_form}
use Rattle.reading.proofs.check.forms_kept.Goals as goal

pub returns : goal.returns
returns c = all_from_yields_List one_form _ _ _ c.all.ensures.ran (YieldsList-from_slice c.args.values.now cc) (λ x b q k. search rules) ∙ every_is one_form c.args.values.now
