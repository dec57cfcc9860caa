use Rattle.description_lexer.proofs.invalid_format_description.InvalidFormatDescriptionDisplay.fmt.Goals as goal

pub returns-in-NotSupported-clause-writes : goal.returns-in-NotSupported-clause-writes
returns-in-NotSupported-clause-writes g c = rw c.in-NotSupported.is c.write_pair.ensures

pub returns-in-InvalidModifierCombination-clause-writes : goal.returns-in-InvalidModifierCombination-clause-writes
returns-in-InvalidModifierCombination-clause-writes g c = rw c.in-InvalidModifierCombination.is c.write_combination.ensures
