-- What a skip leaves is the end of what was there.
use Rattle.std.proofs.Common.{ℕ, zero, suc, Bool, true, false, cond, List, [], ◌∷◌, length, Option, Some, None}
use Rattle.std.specs.Prelude.{option_map}
use Rattle.std.specs.List.{prefix_len}
use Rattle.parsing_combinator.specs.Tame.{EndsWith, Leaves}
use Rattle.parsing_combinator.proofs.lemmas.Tame.{whole_end, joined, dropped, after_one}
use Rattle.parsing_rfc2822.specs.Reading.{spaced_colon}
use Rattle.parsing_rfc2822.specs.Skips.{Skip, byte_where, past_all, past_some, then_skip, either, rest_or, optional, more_or, up_to, many, past}
use Rattle.parsing_rfc2822.specs.WhiteSpace.{unless, lone_white, line_end, folded_line, refused_if_there, unless_line_end, folded_blanks, folding_white_space, past_line_ends, obsolete_byte, past_obsolete_text, past_quoted, quoted_pair, content_by, comment, content, white_or_comment, comments_and_white_space}

-- a skip leaves the end of the bytes
abbrev pub Ends : List ℕ → Option (List ℕ) → Type 0
Ends bytes None = Unit {0}
Ends bytes (Some rest) = EndsWith bytes rest

abbrev pub IsEnding : Skip → Type 0
IsEnding skip = (bytes between : List ℕ) → EndsWith bytes between → Ends bytes (skip between)

if_ends : (b : Bool) (bytes rest : List ℕ) → EndsWith bytes rest → Ends bytes (cond b (Some rest) None)
if_ends true bytes rest h = h
if_ends false bytes rest h = tt

unless_ends : (b : Bool) (bytes rest : List ℕ) → EndsWith bytes rest → Ends bytes (cond b None (Some rest))
unless_ends true bytes rest h = tt
unless_ends false bytes rest h = h

byte_ends : (p : ℕ → Bool) → IsEnding (byte_where p)
unfolding byte_where
byte_ends p bytes [] h = tt
byte_ends p bytes (c ∷ rest) h = if_ends (p c) bytes rest (joined bytes (c ∷ rest) rest h (after_one c rest))

all_ends : (p : ℕ → Bool) (bytes between : List ℕ) → EndsWith bytes between → EndsWith bytes (past_all p between)
unfolding past_all
all_ends p bytes between h = joined bytes between _ h (dropped (prefix_len p between) between)

some_ends : (p : ℕ → Bool) → IsEnding (past_some p)
unfolding past_some past_all
some_ends p bytes between h = unless_ends _ bytes _ (all_ends p bytes between h)

then_ends : (bytes : List ℕ) (o : Option (List ℕ)) (second : Skip) → Ends bytes o → ((rest : List ℕ) → EndsWith bytes rest → Ends bytes (second rest)) → Ends bytes (then_skip o second)
then_ends bytes None second h k = tt
then_ends bytes (Some rest) second h k = k rest h

either_ends : (bytes : List ℕ) (one other : Option (List ℕ)) → Ends bytes one → Ends bytes other → Ends bytes (either one other)
either_ends bytes (Some rest) other h k = h
either_ends bytes None other h k = k

rest_ends : (bytes other : List ℕ) (o : Option (List ℕ)) → Ends bytes o → EndsWith bytes other → EndsWith bytes (rest_or o other)
rest_ends bytes other (Some rest) h k = h
rest_ends bytes other None h k = k

more_ends : (bytes between : List ℕ) (o : Option (List ℕ)) (more : List ℕ → List ℕ) → EndsWith bytes between → Ends bytes o → ((rest : List ℕ) → EndsWith bytes rest → EndsWith bytes (more rest)) → EndsWith bytes (more_or o more between)
more_ends bytes between None more h k m = h
more_ends bytes between (Some rest) more h k m = m rest k

pub optional_ends : (skip : Skip) → IsEnding skip → (bytes : List ℕ) → EndsWith bytes (optional skip bytes)
optional_ends skip s bytes = rest_ends bytes bytes (skip bytes) (s bytes bytes (whole_end bytes)) (whole_end bytes)

up_to_ends : (n : ℕ) (skip : Skip) → IsEnding skip → (bytes between : List ℕ) → EndsWith bytes between → EndsWith bytes (up_to n skip between)
unfolding up_to
up_to_ends zero skip s bytes between h = h
up_to_ends (suc n) skip s bytes between h = more_ends bytes between (skip between) (up_to n skip) h (s bytes between h) (up_to_ends n skip s bytes)

many_ends : (skip : Skip) → IsEnding skip → (bytes between : List ℕ) → EndsWith bytes between → EndsWith bytes (many skip between)
unfolding many
many_ends skip s bytes between h = up_to_ends (length between) skip s bytes between h

mapped_ends : (bytes : List ℕ) (o : Option (List ℕ)) (f : List ℕ → List ℕ) → Ends bytes o → ((rest : List ℕ) → EndsWith bytes rest → EndsWith bytes (f rest)) → Ends bytes (option_map f o)
mapped_ends bytes None f h k = tt
mapped_ends bytes (Some rest) f h k = k rest h

pub past_leaves : (skip : Skip) → IsEnding skip → (bytes : List ℕ) → Leaves bytes (past skip bytes)
past_leaves skip s bytes = past_by (skip bytes) (s bytes bytes (whole_end bytes))
  where
    past_by : (o : Option (List ℕ)) → Ends bytes o → Leaves bytes (option_map (λ rest. (tt {0}, rest)) o)
    past_by None k = tt
    past_by (Some rest) k = k

-- ---- white space

one_ends : (p : ℕ → Bool) → IsEnding (unless p)
one_ends p bytes [] h = h
one_ends p bytes (c ∷ rest) h = unless_ends (p c) bytes (c ∷ rest) h

refused_ends : (o : Option (List ℕ)) (bytes rest : List ℕ) → EndsWith bytes rest → Ends bytes (refused_if_there o rest)
refused_ends (Some other) bytes rest h = tt
refused_ends None bytes rest h = h

ruleset ending = (byte_ends, all_ends, some_ends, then_ends, either_ends, rest_ends, many_ends, mapped_ends, one_ends, refused_ends)

pub folded_ends : IsEnding folded_line
unfolding folded_line line_end
folded_ends bytes between h = search ending

pub folding_ends : IsEnding folding_white_space
unfolding folding_white_space lone_white folded_blanks unless_line_end
folding_ends bytes between h = search (ending, folded_ends) depth 9

-- ---- comments

pub obsolete_ends : IsEnding obsolete_byte
unfolding obsolete_byte past_line_ends
obsolete_ends bytes between h = search ending

pub content_ends : (inner : Skip) → IsEnding inner → IsEnding (content_by inner)
unfolding quoted_pair past_quoted past_obsolete_text past_line_ends
content_ends inner s bytes between h = search (ending, obsolete_ends, folding_ends) depth 9

pub comment_ends : (level : ℕ) → IsEnding (comment level)
unfolding comment
comment_ends zero bytes between h = tt
comment_ends (suc level) bytes between h = search (ending, content_ends, comment_ends level) depth 9

pub contents_ends : (level : ℕ) → IsEnding (content level)
unfolding content
contents_ends level = content_ends (comment level) (comment_ends level)

pub white_ends : IsEnding white_or_comment
unfolding white_or_comment
white_ends bytes between h = search (ending, folding_ends, comment_ends)

pub spacing_ends : IsEnding comments_and_white_space
unfolding comments_and_white_space
spacing_ends bytes between h = search (ending, white_ends)

pub colon_ends : IsEnding spaced_colon
unfolding spaced_colon
colon_ends bytes between h = search (ending, spacing_ends)
