-- The text of the code is that of the definition.
use mathlib.Core.Path.{refl}
use Rattle.decimal.specs.Field.{column, columns, field}
use Rattle.decimal.specs.Lines.{fields, line, lines}
use Rattle.class_table.specs.Text.{numbered, table_text}
use Rattle.class_table.specs.Reasons.{reason_classes}
use Rattle.class_table.proofs.reasons.reason_classes_text.Goals as goal

pub returns : goal.returns
unfolding table_text numbered lines line fields field columns column reason_classes
returns c = refl
