-- The sentence for what is wrong with words, after the name of the program.
use Rattle.std.specs.Prelude.{ℕ, Bool, true, false, if◌then◌else◌, List, ◌++◌, codes}
use Rattle.std.specs.Fmt.{decimal}
use Rattle.instants_lines_words.specs.FileName.{is_file_name}
use Rattle.instants_lines_words.specs.Wrong.{Wrong, NoMode, UnknownMode, NoSource, Target, Assumed, Limit, Zone, Year, Time, Field, Column, Separator, Label, Source, FirstSource, NoDescription}

-- what is said of a word that is no source; where it is the first one, it may be an offset that is misspelt
abbrev pub no_such_source : Bool → List ℕ → List ℕ
no_such_source is_first word =
    if is_file_name word then codes "no such source; files are read from standard input: instants-lines .. < FILE"
    else if is_first then codes "no such source; there are rfc3339, rfc2822, iso8601, v1, v2, v3, strftime, and the names of --help; an offset before the sources is +HH:MM, -HH:MM, Z or UTC"
    else codes "no such source; there are rfc3339, rfc2822, iso8601, v1, v2, v3, strftime, and the names of --help"

-- what is said of the word that is wrong, or of there being none
abbrev pub said_of : Wrong → List ℕ
said_of NoMode = codes "usage: instants-lines MODE [TARGET [ASSUMED [LIMIT]]] [year N] [time HH:MM] [field NAME | column N [separator S]] [label TEXT] SOURCE..."
said_of (UnknownMode word) = codes "no such mode; there are key, carry, replace, explain, locate"
said_of NoSource = codes "no source is named; there are rfc3339, rfc2822, iso8601, v1, v2, v3, strftime, and the names of --help"
said_of (Target word) = codes "no target offset; it must be +HH:MM, -HH:MM, Z or UTC"
said_of (Assumed word) = codes "no assumed offset; it must be +HH:MM, -HH:MM, Z, UTC or -, or a zone, as +02:00 or Europe/Berlin"
said_of (Limit word) = codes "no limit; it must be a number from 1 to 1048576"
said_of (Zone word) = codes "no zone; modes key, carry, replace and locate take one by its name, as Europe/Berlin or :CET"
said_of (Year word) = codes "no year; it must be four digits, as 2024"
said_of (Time word) = codes "no time of day; it must be HH:MM"
said_of (Field word) = codes "no field; modes key, carry, replace and locate take one"
said_of (Column word) = codes "no column; modes key, carry, replace and locate take one from 1 to 1048576, where no field is named"
said_of (Separator word) = codes "no separator; after a column it must be one byte and no quotation mark, or tab"
said_of (Label word) = codes "no label; modes key and carry take one, without tabs and line feeds"
said_of (Source place word) = no_such_source false word
said_of (FirstSource word) = no_such_source true word
said_of (NoDescription place language) = codes "needs a description in the next argument"

-- the sentence for what is wrong with words, after the name of the program
abbrev pub wrong_text : Wrong → List ℕ
wrong_text NoMode = said_of NoMode
wrong_text (UnknownMode word) = codes "\"" ++ (word ++ (codes "\": " ++ said_of (UnknownMode word)))
wrong_text NoSource = said_of NoSource
wrong_text (Target word) = codes "\"" ++ (word ++ (codes "\": " ++ said_of (Target word)))
wrong_text (Assumed word) = codes "\"" ++ (word ++ (codes "\": " ++ said_of (Assumed word)))
wrong_text (Limit word) = codes "\"" ++ (word ++ (codes "\": " ++ said_of (Limit word)))
wrong_text (Zone word) = codes "\"" ++ (word ++ (codes "\": " ++ said_of (Zone word)))
wrong_text (Year word) = codes "\"" ++ (word ++ (codes "\": " ++ said_of (Year word)))
wrong_text (Time word) = codes "\"" ++ (word ++ (codes "\": " ++ said_of (Time word)))
wrong_text (Field word) = codes "\"" ++ (word ++ (codes "\": " ++ said_of (Field word)))
wrong_text (Column word) = codes "\"" ++ (word ++ (codes "\": " ++ said_of (Column word)))
wrong_text (Separator word) = codes "\"" ++ (word ++ (codes "\": " ++ said_of (Separator word)))
wrong_text (Label word) = codes "\"" ++ (word ++ (codes "\": " ++ said_of (Label word)))
wrong_text (Source place word) = codes "source " ++ (decimal place ++ (codes ": \"" ++ (word ++ (codes "\": " ++ said_of (Source place word)))))
wrong_text (FirstSource word) = codes "source 1: \"" ++ (word ++ (codes "\": " ++ said_of (FirstSource word)))
wrong_text (NoDescription place language) = codes "source " ++ (decimal place ++ (codes ": \"" ++ (language ++ (codes "\" " ++ said_of (NoDescription place language)))))
