-- What a call answered, beside what the definitions read.
use Rattle.std.specs.Prelude.{◌≡◌, Result, Ok, Err}
use Rattle.description_lexer.specs.declared.invalid_format_description.InvalidFormatDescription.{InvalidFormatDescription}
use Rattle.description_lexer.specs.declared.description_fault.DescriptionFault.{DescriptionFault}
use Rattle.description_lexer.specs.declared.description_fault.DescriptionFault.TheVariants.{Description, Memory}
use Rattle.description_lexer.specs.Fault.{Fault, fault_of}

-- one reading after another; the first fault decides
infixl 10 ◌>>=◌
abbrev pub ◌>>=◌ : {A B : Type 0} → Result A Fault → (A → Result B Fault) → Result B Fault
(Ok x) >>= f = f x
(Err e) >>= f = Err e

-- the answer of a call that takes no memory is what is read; view says what its value means
abbrev pub Answers : {X Y : Type 0} → (X → Y) → Result X InvalidFormatDescription → Result Y Fault → Type 0
Answers view (Ok x) read = read ≡ Ok (view x)
Answers view (Err e) read = read ≡ Err (fault_of e)

-- a fault is the one that is read; of lack of memory nothing is said
abbrev pub Fails : {Y : Type 0} → DescriptionFault → Result Y Fault → Type 0
Fails Memory read = Unit {0}
Fails (Description e) read = read ≡ Err (fault_of e)

-- the answer is what is read, unless memory ran out
abbrev pub Gives : {X Y : Type 0} → (X → Y) → Result X DescriptionFault → Result Y Fault → Type 0
Gives view (Ok x) read = read ≡ Ok (view x)
Gives view (Err e) read = Fails e read
