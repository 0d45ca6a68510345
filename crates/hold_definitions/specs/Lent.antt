-- The lent slices of a hold as a contract sees them: those of its store, and the two tables more. The elements are 32-bit float
-- words.
use Rattle.std.specs.Prelude.{ℕ}
use Rattle.store_definitions.specs.declared.tables.Tables.{Tables}
use Rattle.store_definitions.specs.Memory.{Memory}
use Rattle.store_definitions.specs.Lent.{Ref, Slice, held, lent, entered, left}
use Rattle.hold_definitions.specs.Memory.{HoldMemory}

abbrev pub hold_held : Ref → Ref → Ref → Ref → Ref → Ref → Ref → Ref → Ref → Ref → Ref → Ref → Ref → Ref → Ref → Ref → Ref → HoldMemory ℕ
hold_held a b c d e f g h i j k l m n o indices labels =
    record { store = held a b c d e f g h i j k l m n o; held_indices = indices; held_labels = labels }

abbrev pub hold_entered : Slice → Slice → Slice → Slice → Slice → Slice → Slice → Slice → Slice → Slice → Slice → Slice → Slice → Slice → Slice → Slice → Slice → HoldMemory ℕ
hold_entered a b c d e f g h i j k l m n o indices labels =
    record { store = entered a b c d e f g h i j k l m n o; held_indices = indices.entry; held_labels = labels.entry }

abbrev pub hold_left : Slice → Slice → Slice → Slice → Slice → Slice → Slice → Slice → Slice → Slice → Slice → Slice → Slice → Slice → Slice → Slice → Slice → HoldMemory ℕ
hold_left a b c d e f g h i j k l m n o indices labels =
    record { store = left a b c d e f g h i j k l m n o; held_indices = indices.exit; held_labels = labels.exit }

-- as a call that reads gets them
abbrev pub hold_lent : Ref → Ref → Tables → Ref → Ref → HoldMemory ℕ
hold_lent store window tables indices labels =
    record { store = lent store window tables; held_indices = indices; held_labels = labels }

-- the memory of a hold over that of its store
abbrev pub hold_memory : {E : Type 0} → Memory E → Ref → Ref → HoldMemory E
hold_memory m indices labels = record { store = m; held_indices = indices; held_labels = labels }
