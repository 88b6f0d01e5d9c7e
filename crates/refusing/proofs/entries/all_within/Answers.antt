-- `all_within` meets its contract. Assumes nothing.
use borrow.Author.Rules.{rules}
use mathlib.Core.Path.{◌∙◌}
use Rattle.std.proofs.lemmas.Iterator.Search.{all_from_yields_List}
use Rattle.std.proofs.lemmas.Iterator.{YieldsList-from_slice}
use lib.Ieee.{of_bits, neg}
use Rattle.refusing.specs.Refusal.{small}
use Rattle.refusing.proofs.EveryLaws.{every_is}
use Rattle.refusing.proofs.entries.all_within.Goals as goal

pub returns : goal.returns
unfolding small of_bits neg
returns c = all_from_yields_List small _ _ _ c.all.ensures.ran (YieldsList-from_slice c.args.values.now cc) (λ x b q k. search rules) ∙ every_is small c.args.values.now
