-- What the definitions say of small texts.
use Rattle.std.proofs.Common.{◌≡◌, ℕ, true, false, [], ◌∷◌, Some, None, refl}
use Rattle.std.specs.Prelude.{codes}
use Rattle.bt_lexer.specs.declared.token.Kind.{Kind}
use Rattle.bt_lexer.specs.declared.token.Kind.TheVariants.{Name, Var, Int, Text, Nl, Arrow, Plus, At}
use Rattle.bt_lexer.specs.declared.token.Token.{Token}
use Rattle.bt_lexer.specs.Strings.{text_value}
use Rattle.bt_lexer.specs.Kinds.{kind_of}
use Rattle.bt_lexer.specs.Tokens.{int_value, is_bad}
use Rattle.bt_lexer.specs.Lines.{hardened}
use Rattle.bt_lexer.specs.Places.{line_of, column_of}

a_name : kind_of (codes "else_1") ≡ Some Name
unfolding kind_of
a_name = refl

a_variable : kind_of (codes "$x") ≡ Some Var
unfolding kind_of
a_variable = refl

no_variable : kind_of (codes "$1") ≡ None
unfolding kind_of
no_variable = refl

digits : kind_of (codes "99999999999999999999") ≡ Some Int
unfolding kind_of
digits = refl

an_arrow : kind_of (codes "->") ≡ Some Arrow
unfolding kind_of
an_arrow = refl

no_mark : kind_of (codes "=!") ≡ None
unfolding kind_of
no_mark = refl

a_line_feed : kind_of (codes "\n") ≡ Some Nl
unfolding kind_of
a_line_feed = refl

an_empty_text : kind_of (codes "\"\"") ≡ Some Text
unfolding kind_of
an_empty_text = refl

a_pair : kind_of (codes "\"\\uD83D\\uDE00\"") ≡ Some Text
unfolding kind_of
a_pair = refl

half_a_pair : kind_of (codes "\"\\uD83D\"") ≡ None
unfolding kind_of
half_a_pair = refl

the_other_half : kind_of (codes "\"\\uDE00\"") ≡ None
unfolding kind_of
the_other_half = refl

a_line_feed_in_a_text : kind_of (codes "\"a\n\"") ≡ None
unfolding kind_of
a_line_feed_in_a_text = refl

a_tab_in_a_text : kind_of (codes "\"a\t\"") ≡ Some Text
unfolding kind_of
a_tab_in_a_text = refl

a_text_in_three_marks : kind_of (codes "\"\"\"a\n\"b\"\"\"") ≡ Some Text
unfolding kind_of
a_text_in_three_marks = refl

marks_too_many : kind_of (codes "\"\"\"a\"\"\"\"") ≡ None
unfolding kind_of
marks_too_many = refl

the_value_of_a_text : text_value (codes "\"a\\n\\u0041\\\"\"") ≡ codes "a\nA\""
unfolding lib.Utf8.encode
the_value_of_a_text = refl

-- U+1F600 in UTF-8
the_value_of_a_pair : text_value (codes "\"\\uD83D\\uDE00\"") ≡ 240 ∷ 159 ∷ 152 ∷ 128 ∷ []
unfolding lib.Utf8.encode
the_value_of_a_pair = refl

the_value_in_three_marks : text_value (codes "\"\"\"a\\n\"\"\"") ≡ codes "a\\n"
the_value_in_three_marks = refl

the_value_of_digits : int_value (codes "0012") ≡ 12
the_value_of_digits = refl

the_largest_number : is_bad Int false (codes "9223372036854775807") [] ≡ false
the_largest_number = refl

too_large_a_number : is_bad Int true (codes "9223372036854775808") [] ≡ true
too_large_a_number = refl

a_fraction : is_bad Int false (codes "1") (codes ".5") ≡ true
a_fraction = refl

a_segment : is_bad Int true (codes "0") (codes ".5") ≡ false
a_segment = refl

a_letter_after_digits : is_bad Int true (codes "0") (codes "x10") ≡ true
a_letter_after_digits = refl

-- a token of the kind from one place to the next
at : Kind → ℕ → ℕ → Token
at k from to = record { kind = k; from = from; to = to }

-- of two line feeds the first is a token
the_first_line_feed : hardened (codes "a\n\nb") None (at Name 0 1 ∷ at Nl 1 2 ∷ at Nl 2 3 ∷ at Name 3 4 ∷ []) ≡ at Name 0 1 ∷ at Nl 1 2 ∷ at Name 3 4 ∷ []
unfolding at
the_first_line_feed = refl

before_else : hardened (codes "a\nelse") None (at Name 0 1 ∷ at Nl 1 2 ∷ at Name 2 6 ∷ []) ≡ at Name 0 1 ∷ at Name 2 6 ∷ []
unfolding at
before_else = refl

after_an_operator : hardened (codes "+\n@") None (at Plus 0 1 ∷ at Nl 1 2 ∷ at At 2 3 ∷ []) ≡ at Plus 0 1 ∷ at At 2 3 ∷ []
unfolding at
after_an_operator = refl

before_an_operator : hardened (codes "@\n+") None (at At 0 1 ∷ at Nl 1 2 ∷ at Plus 2 3 ∷ []) ≡ at At 0 1 ∷ at Nl 1 2 ∷ at Plus 2 3 ∷ []
unfolding at
before_an_operator = refl

at_the_ends : hardened (codes "\na\n") None (at Nl 0 1 ∷ at Name 1 2 ∷ at Nl 2 3 ∷ []) ≡ at Name 1 2 ∷ []
unfolding at
at_the_ends = refl

the_line : line_of (codes "a\n\nbc") 4 ≡ 3
the_line = refl

the_column : column_of (codes "a\n\nbc") 4 ≡ 2
the_column = refl
