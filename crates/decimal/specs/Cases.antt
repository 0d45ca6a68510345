-- Document 02's fields and lines, computed.
use Rattle.std.specs.Prelude.{[], ◌∷◌, Some, None, ◌≡◌, refl}
use Rattle.terms.specs.Rows.{all_equal}
use Rattle.decimal.specs.Field.{column, columns, field, digit, value_from, is_field, field_read}
use Rattle.decimal.specs.Lines.{fields, line}

-- Point 7: 'Index 2 with count 1 at place 0 is five spaces and 2, five spaces and 1, five spaces and 0.'
pub page_line : line 6 (2 ∷ 1 ∷ 0 ∷ []) ≡ 32 ∷ 32 ∷ 32 ∷ 32 ∷ 32 ∷ 50 ∷ 32 ∷ 32 ∷ 32 ∷ 32 ∷ 32 ∷ 49 ∷ 32 ∷ 32 ∷ 32 ∷ 32 ∷ 32 ∷ 48 ∷ 10 ∷ []
unfolding line fields field columns column
page_line = refl

-- Point 6: code 23 of class 9
pub class_line : line 4 (23 ∷ 9 ∷ []) ≡ 32 ∷ 32 ∷ 50 ∷ 51 ∷ 32 ∷ 32 ∷ 32 ∷ 57 ∷ 10 ∷ []
unfolding line fields field columns column
class_line = refl

-- Point 10: the largest number of 32 bits fills its ten columns
pub widest : field 10 4294967295 ≡ 52 ∷ 50 ∷ 57 ∷ 52 ∷ 57 ∷ 54 ∷ 55 ∷ 50 ∷ 57 ∷ 53 ∷ []
unfolding field columns column
widest = refl

pub read_back : field_read (32 ∷ 49 ∷ 48 ∷ 55 ∷ []) ≡ Some 107
unfolding field_read is_field all_equal field columns column value_from digit
read_back = refl

-- ' 07', '7 ', '   ' and '7 7' are no fields
pub leading_zero : field_read (32 ∷ 48 ∷ 55 ∷ []) ≡ None
unfolding field_read is_field all_equal field columns column value_from digit
leading_zero = refl

pub space_behind : field_read (55 ∷ 32 ∷ []) ≡ None
unfolding field_read is_field all_equal field columns column value_from digit
space_behind = refl

pub only_spaces : field_read (32 ∷ 32 ∷ 32 ∷ []) ≡ None
unfolding field_read is_field all_equal field columns column value_from digit
only_spaces = refl

pub space_within : field_read (55 ∷ 32 ∷ 55 ∷ []) ≡ None
unfolding field_read is_field all_equal field columns column value_from digit
space_within = refl
