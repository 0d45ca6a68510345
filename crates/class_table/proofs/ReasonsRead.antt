-- The text of document 01's reason classes.
use Rattle.std.specs.Prelude.{Some, ◌≡◌}
use Rattle.class_table.specs.Text.{table_text, table_read}
use Rattle.class_table.specs.TextLaws.{text_read}
use Rattle.class_table.specs.Reasons.{reason_classes, reasons_allowed}

-- the built-in text is read as that table
pub reasons_read : table_read (table_text reason_classes) ≡ Some reason_classes
reasons_read = text_read reason_classes reasons_allowed
