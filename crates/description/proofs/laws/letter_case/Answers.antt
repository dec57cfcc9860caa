use Rattle.description.proofs.LetterCase.{component_cased, text_cased}
use Rattle.description.proofs.laws.letter_case.Goals as goal

pub returns-clause-component : goal.returns-clause-component
returns-clause-component c = component_cased

pub returns-clause-text : goal.returns-clause-text
returns-clause-text c = text_cased
