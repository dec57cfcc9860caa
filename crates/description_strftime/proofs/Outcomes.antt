-- One text has one outcome.
use Rattle.std.proofs.Common.{◌≡◌, ℕ, List, Result, Ok, Err, ◌⊎◌, inl, inr, refl, sym, ◌∙◌}
use Rattle.std.specs.Global.{Vec}
use Rattle.description_lexer.specs.Answer.{Gives}
use Rattle.description_lexer.specs.Fault.{Fault, fault_of}
use Rattle.description_lexer.specs.declared.description_fault.DescriptionFault.{DescriptionFault}
use Rattle.description_lexer.specs.declared.description_fault.DescriptionFault.TheVariants.{Description, Memory}
use Rattle.description_items.specs.declared.item.BorrowedFormatItem.{BorrowedFormatItem}
use Rattle.description_items.specs.Tree.{Tree, trees}
use Rattle.description_lexer.proofs.Readings.{ok_is, err_is, not_err}
use Rattle.description_strftime.specs.Reading.{read_strftime}
use Rattle.description_strftime.specs.Spelled.{SpellsStrftime}
use Rattle.description_strftime.specs.Faulty.{FaultyStrftime}
use Rattle.description_strftime.specs.Outcomes.{IsOutcome, OneOutcome}
use Rattle.description_strftime.proofs.Relations.{read_is_spelled, spelled_is_read, refused_is_faulty, faulty_is_refused}

some_outcome : (text : List ℕ) (read : Result (List Tree) Fault) → read_strftime text ≡ read → ((items : List Tree) × SpellsStrftime text items) ⊎ ((fault : Fault) × FaultyStrftime text fault)
some_outcome text (Ok items) e = inl (items, read_is_spelled text items e)
some_outcome text (Err fault) e = inr (fault, refused_is_faulty text fault e)

pub one_outcome_holds : (text : List ℕ) → OneOutcome text
one_outcome_holds text = record {
  one = some_outcome text (read_strftime text) refl;
  one_list = λ a b h k. ok_is a b (sym (spelled_is_read text a h) ∙ spelled_is_read text b k);
  one_fault = λ e f h k. err_is {A = List Tree} e f (sym (faulty_is_refused text e h) ∙ faulty_is_refused text f k);
  not_both = λ a e h k. not_err a e (sym (spelled_is_read text a h) ∙ faulty_is_refused text e k);
}

pub has_outcome : (text : List ℕ) (r : Result (Vec BorrowedFormatItem) DescriptionFault) → Gives (λ v. trees v.items) r (read_strftime text) → IsOutcome text r
has_outcome text (Ok items) h = read_is_spelled text (trees items.items) h
has_outcome text (Err Memory) h = tt
has_outcome text (Err (Description fault)) h = refused_is_faulty text (fault_of fault) h
