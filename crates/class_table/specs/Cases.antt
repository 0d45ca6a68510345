-- Tables that are allowed and tables that are not, and texts that are turned down, computed.
use Rattle.std.specs.Prelude.{ℕ, true, false, None, List, [], ◌∷◌, ◌++◌, ◌≡◌, refl, drop, set, replicate}
use Rattle.terms.specs.Rows.{all_equal}
use Rattle.terms.specs.Below.{every_below}
use Rattle.decimal.specs.Field.{column, columns, field, digit, value_from}
use Rattle.decimal.specs.Lines.{fields, line, lines}
use Rattle.class_table.specs.Table.{some_below, largest_below, table_allowed}
use Rattle.class_table.specs.Text.{numbered, table_text, classes_of, table_read}
use Rattle.class_table.specs.Reasons.{reason_classes}

-- 'They need not rise.'
pub falling : table_allowed (2 ∷ 1 ∷ replicate 22 0) ≡ true
unfolding table_allowed every_below some_below largest_below
falling = refl

pub one_class : table_allowed (replicate 24 0) ≡ true
unfolding table_allowed every_below some_below largest_below
one_class = refl

-- class 1 is missing
pub gap : table_allowed (2 ∷ replicate 23 0) ≡ false
unfolding table_allowed every_below some_below largest_below
gap = refl

-- class 0 is missing
pub no_zero : table_allowed (replicate 24 1) ≡ false
unfolding table_allowed every_below some_below largest_below
no_zero = refl

pub class_ten : table_allowed (10 ∷ 9 ∷ 8 ∷ 7 ∷ 6 ∷ 5 ∷ 4 ∷ 3 ∷ 2 ∷ 1 ∷ replicate 14 0) ≡ false
unfolding table_allowed every_below some_below largest_below
class_ten = refl

pub code_missing : table_allowed (replicate 23 0) ≡ false
unfolding table_allowed every_below some_below largest_below
code_missing = refl

-- one byte of the built-in text changed: '  00' for code 0, '  02' for the class of code 5, another line end, code 1 twice
abbrev text : List ℕ
text = table_text reason_classes

pub zero_code : table_read (set text 2 48) ≡ None
unfolding table_read table_text numbered classes_of lines line fields field columns column value_from digit all_equal reason_classes table_allowed every_below some_below largest_below
zero_code = refl

pub zero_class : table_read (set text 51 48) ≡ None
unfolding table_read table_text numbered classes_of lines line fields field columns column value_from digit all_equal reason_classes table_allowed every_below some_below largest_below
zero_class = refl

pub carriage_return : table_read (set text 8 13) ≡ None
unfolding table_read table_text numbered classes_of lines line fields field columns column value_from digit all_equal reason_classes table_allowed every_below some_below largest_below
carriage_return = refl

pub code_twice : table_read (set text 21 49) ≡ None
unfolding table_read table_text numbered classes_of lines line fields field columns column value_from digit all_equal reason_classes table_allowed every_below some_below largest_below
code_twice = refl

-- one byte longer, one line shorter
pub longer : table_read (text ++ (10 ∷ [])) ≡ None
unfolding table_read table_text numbered classes_of lines line fields field columns column value_from digit all_equal reason_classes table_allowed every_below some_below largest_below
longer = refl

pub shorter : table_read (drop 9 text) ≡ None
unfolding table_read table_text numbered classes_of lines line fields field columns column value_from digit all_equal reason_classes table_allowed every_below some_below largest_below
shorter = refl
