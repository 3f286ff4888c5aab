use Rattle.std.proofs.Common.{rules, sym, ◌∙◌}
use Rattle.summary.specs.Calls.{unequal, too_many, summed-up}
use Rattle.summary.proofs.summarise.Goals as goal

-- `summarise` meets its contract: by its lists. Assumes nothing.
pub returns-then-lengths-n : goal.returns-then-lengths-n
returns-then-lengths-n c =
    c.refused.ensures ∙ sym (unequal _ _ _ (search rules))

pub returns-then-n-gt-MOST_ENTRIES : goal.returns-then-n-gt-MOST_ENTRIES
returns-then-n-gt-MOST_ENTRIES c =
    c.refused-then-n-gt-MOST_ENTRIES.ensures ∙ sym (too_many _ _ _ (search rules) (search rules))

pub returns : goal.returns
returns c =
    c.count_entries.ensures ∙ sym (summed-up _ _ _ (search rules) (search rules))
