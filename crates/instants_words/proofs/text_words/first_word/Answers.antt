use Rattle.std.proofs.Common.{lit<}
use Rattle.instants_words.proofs.TextLemmas.{more_words, one_word}
use Rattle.instants_words.proofs.text_words.first_word.Goals as goal

pub returns-in-Some : goal.returns-in-Some
returns-in-Some c =
    let (word, rest, here) = c.in-Some.ensures.byte (lit< tt) (λ w o h. h) in
    more_words c.args.text.now c.in-Some.word.now c.in-Some.rest.now word rest here

pub returns-in-None : goal.returns-in-None
returns-in-None c = one_word c.args.text.now (c.in-None.ensures.byte (lit< tt) (λ w o h. h))
