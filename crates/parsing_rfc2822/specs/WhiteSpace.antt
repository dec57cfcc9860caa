-- Folding white space and comments of RFC 2822, section 3.2.3, with the obsolete quoted pairs of its section 4.1.
use Rattle.std.specs.Prelude.{ℕ, zero, suc, ◌==◌, ◌||◌, ◌&&◌, not, Bool, List, [], ◌∷◌, Option, Some, None, option_map, nat_le, if◌then◌else◌}
use Rattle.base.specs.Bytes.{tab, line_feed, carriage_return, space, backslash}
use Rattle.parsing_rfc2822.specs.Skips.{Skip, byte_where, past_all, past_some, then_skip, either, rest_or, many}

-- `(`
abbrev pub left_parenthesis : ℕ
left_parenthesis = 40

-- `)`
abbrev pub right_parenthesis : ℕ
right_parenthesis = 41

-- a space or a tab
abbrev pub is_blank : ℕ → Bool
is_blank c = (c == space) || (c == tab)

-- a carriage return, a space or a tab
abbrev pub is_white : ℕ → Bool
is_white c = (c == carriage_return) || is_blank c

-- what makes white space before it more than one byte
abbrev pub goes_on : ℕ → Bool
goes_on c = (c == line_feed) || is_white c

-- the bytes, unless their first one passes
abbrev pub unless : (ℕ → Bool) → Skip
unless p [] = Some []
unless p (c ∷ rest) = if p c then None else Some (c ∷ rest)

-- one byte of white space that does not go on
unfoldable pub lone_white : Skip
lone_white bytes = then_skip (byte_where is_white bytes) (unless goes_on)

-- a carriage return and a line feed
unfoldable pub line_end : Skip
line_end bytes = then_skip (byte_where (λ c. c == carriage_return) bytes) (byte_where (λ c. c == line_feed))

-- a line end, and blanks on the next line
unfoldable pub folded_line : Skip
folded_line bytes = then_skip (line_end bytes) (past_some is_blank)

abbrev pub refused_if_there : Option (List ℕ) → List ℕ → Option (List ℕ)
refused_if_there (Some rest) bytes = None
refused_if_there None bytes = Some bytes

-- the bytes, unless they begin with a line end
unfoldable pub unless_line_end : Skip
unless_line_end bytes = refused_if_there (line_end bytes) bytes

-- blanks and folded lines, where each line end after them is one of a folded line
unfoldable pub folded_blanks : Skip
folded_blanks bytes = then_skip (past_some is_blank bytes) (λ rest. unless_line_end (many folded_line rest))

-- folding white space
unfoldable pub folding_white_space : Skip
folding_white_space bytes = either (lone_white bytes) (either (folded_line bytes) (folded_blanks bytes))

abbrev pub is_between : ℕ → ℕ → ℕ → Bool
is_between low high c = nat_le low c && nat_le c high

-- text of a comment: all of ASCII but NUL, line ends, white space, parentheses and the backslash
unfoldable pub is_comment_text : ℕ → Bool
is_comment_text c =
    is_between 1 8 c || (is_between 11 12 c || (is_between 14 31 c || (is_between 33 39 c || (is_between 42 91 c || is_between 93 127 c))))

-- what a backslash quotes: all of ASCII but NUL and line ends
unfoldable pub is_quotable : ℕ → Bool
is_quotable c = is_between 1 9 c || (is_between 11 12 c || is_between 14 127 c)

-- what stands in the obsolete text after a backslash, where it does not end the comment
unfoldable pub is_obsolete_text : ℕ → Bool
is_obsolete_text c = not (c == right_parenthesis) && (c == 0 || is_quotable c)

-- line feeds, then carriage returns, none of them due
unfoldable pub past_line_ends : List ℕ → List ℕ
past_line_ends bytes = past_all (λ c. c == carriage_return) (past_all (λ c. c == line_feed) bytes)

unfoldable pub obsolete_byte : Skip
obsolete_byte bytes = option_map past_line_ends (byte_where is_obsolete_text bytes)

-- the obsolete text after a backslash; it may be empty
unfoldable pub past_obsolete_text : List ℕ → List ℕ
past_obsolete_text bytes = many obsolete_byte (past_line_ends bytes)

-- what a backslash quotes: one byte, or where that is not there the obsolete text
unfoldable pub past_quoted : List ℕ → List ℕ
past_quoted bytes = rest_or (byte_where is_quotable bytes) (past_obsolete_text bytes)

unfoldable pub quoted_pair : Skip
quoted_pair bytes = option_map past_quoted (byte_where (λ c. c == backslash) bytes)

-- what a comment may contain, with the comments in it
abbrev pub content_by : Skip → Skip
content_by comment bytes =
    either (folding_white_space bytes) (either (byte_where is_comment_text bytes) (either (quoted_pair bytes) (comment bytes)))

-- a comment of at most so many levels: `(`, contents, `)`
unfoldable pub comment : ℕ → Skip
comment zero bytes = None
comment (suc level) bytes =
    then_skip (byte_where (λ c. c == left_parenthesis) bytes) (λ rest. byte_where (λ c. c == right_parenthesis) (many (content_by (comment level)) rest))

unfoldable pub content : ℕ → Skip
content level = content_by (comment level)

-- folding white space, or a comment of at most 31 levels
unfoldable pub white_or_comment : Skip
white_or_comment bytes = either (folding_white_space bytes) (comment 31 bytes)

-- comments and folding white space, at least one of them and as many as there are
unfoldable pub comments_and_white_space : Skip
comments_and_white_space bytes = option_map (many white_or_comment) (white_or_comment bytes)
