use Rattle.std.proofs.Common.{inl, sym}
use Rattle.instants_faults.specs.declared.program_fault.ProgramFault.TheVariants as program
use Rattle.instants_c.proofs.sentences.write.Goals as goal

pub returns-in-Words-clause-told : goal.returns-in-Words-clause-told
returns-in-Words-clause-told c =
    (program.Words c.in-Words.wrong, inl (sym c.in-Words.is), c.status.ensures, c.write_words_fault.ensures.len_is, c.write_words_fault.ensures.prefix)
